-- The front of a frame that stands at a point: its item and its ways on are those of the point.
use Rattle.std.proofs.Common.{◌≡◌, ℕ, List, [], ◌∷◌, Bool, true, false, Option, Some, None, refl, sym, subst}
use Rattle.std.specs.Prelude.{slice_get}
use Rattle.cw_syntax.specs.Plans.{Callee, Stm, Plain, Break, Continue, Return, Open, Close, Call, Group, Label, If, While, Do, For, Plan}
use Rattle.cw_syntax.specs.Frames.{Item, Entry, Todo, Test, After, LoopEnd, End, Frame, after_if, broken, continued, ended, Way, On, Left, Right, Opened, Failed, pass, front, settled}
use Rattle.cw_points.specs.declared.graph.Point.TheVariants as point
use Rattle.cw_points.specs.declared.graph.Node.{Node}
use Rattle.cw_points.specs.declared.graph.Part.{Part}
use Rattle.cw_points.specs.Graphs.{node, step, branch, test_node}
use Rattle.cw_points.specs.Walks.{leads}
use Rattle.cw_points.proofs.Situated.{Here, AtIn, At, IsPart}
use Rattle.cw_points.proofs.Standing.{Jumps, at_broken, at_continued, at_ended, at_body}
use Rattle.cw_points.proofs.Ways.{Below, Tied, lands, jumped, begun, ended_call}

module _ (ns : List Node) (its : List Item) (plan : Plan) (parts : List Part) (has : (f : ℕ) → IsPart ns its f (slice_get plan.routines f) (slice_get parts f)) where
  -- the top frame stands at p, above these
  pub record Front (frame : Frame) (frames : List Frame) (returns : List ℕ) (p : ℕ) : Type 0 where
    pub what : Node
    pub item : Item
    pub here : Here ns its p what item
    pub is_front : front (frame ∷ frames) ≡ item ∷ []
    pub ways : (way : Way) → Tied ns its (pass plan (frame ∷ frames) way) (leads parts returns what.point what.next way)

  module _ (frames : List Frame) (returns : List ℕ) (w : Below ns its frames returns) (f x : ℕ) where
    -- the steps of an item, and those of a node
    abbrev Both : Item → Frame → Node → Way → Type 0
    Both i is n way = Tied ns its (pass plan ((i ∷ is) ∷ frames) way) (leads parts returns n.point n.next way)

    entry_ways : (g j m : ℕ) (is : Frame) → At ns its f x is m → (way : Way) → Both (Entry g j) is (node point.Entry f (Some m) (Some j)) way
    entry_ways g j m is h On = lands ns its f x is m frames returns h w
    entry_ways g j m is h _ = tt

    plain_ways : (at k : ℕ) (is : Frame) → At ns its f x is k → (way : Way) → Both (Todo (Plain at)) is (step f (Some k)) way
    plain_ways at k is h On = lands ns its f x is k frames returns h w
    plain_ways at k is h _ = tt

    break_ways : (at : ℕ) (b : Option ℕ) (is : Frame) → Jumps ns its f x (broken is) b → (way : Way) → Both (Todo (Break at)) is (step f b) way
    break_ways at b is h On = jumped ns its f x (broken is) b frames returns h w
    break_ways at b is h _ = tt

    continue_ways : (at : ℕ) (c : Option ℕ) (is : Frame) → Jumps ns its f x (continued is) c → (way : Way) → Both (Todo (Continue at)) is (step f c) way
    continue_ways at c is h On = jumped ns its f x (continued is) c frames returns h w
    continue_ways at c is h _ = tt

    return_ways : (at : ℕ) (is : Frame) → At ns its f x (ended is) x → (way : Way) → Both (Todo (Return at)) is (step f (Some x)) way
    return_ways at is h On = lands ns its f x (ended is) x frames returns h w
    return_ways at is h _ = tt

    open_ways : (at j d k : ℕ) (is : Frame) → At ns its f x is k → (way : Way) → Both (Todo (Open at j d)) is (node (point.Open d) f (Some k) (Some j)) way
    open_ways at j d k is h Opened = lands ns its f x is k frames returns h w
    open_ways at j d k is h Failed = lands ns its f x is k frames returns h w
    open_ways at j d k is h _ = tt

    close_ways : (at j d k : ℕ) (is : Frame) → At ns its f x is k → (way : Way) → Both (Todo (Close at j d)) is (node (point.Close d) f (Some k) (Some j)) way
    close_ways at j d k is h On = lands ns its f x is k frames returns h w
    close_ways at j d k is h _ = tt

    call_ways : (at j k : ℕ) (callee : Callee) (is : Frame) → At ns its f x is k → (way : Way) → Both (Todo (Call at j callee)) is (node (point.Call callee.number) f (Some k) (Some j)) way
    call_ways at j k callee is h On =
        let stack : List Frame = (Todo (Call at j callee) ∷ is) ∷ frames in
        begun ns its callee.number (slice_get plan.routines callee.number) (slice_get parts callee.number) stack (k ∷ returns) (has callee.number) ((f, x, h), w)
    call_ways at j k callee is h _ = tt

    label_ways : (at mark j l m : ℕ) (s : Stm) (is : Frame) → At ns its f x (Todo s ∷ is) m → (way : Way) → Both (Todo (Label at mark j l s)) is (node (point.Label l) f (Some m) (Some j)) way
    label_ways at mark j l m s is h On = lands ns its f x (Todo s ∷ is) m frames returns h w
    label_ways at mark j l m s is h _ = tt

    if_ways : (at m n : ℕ) (s t : Stm) (is : Frame) → At ns its f x (Todo s ∷ is) m → At ns its f x (Todo t ∷ is) n → (way : Way) → Both (Todo (If at s t)) is (branch f m n) way
    if_ways at m n s t is h i Left = lands ns its f x (Todo s ∷ is) m frames returns h w
    if_ways at m n s t is h i Right = lands ns its f x (Todo t ∷ is) n frames returns i w
    if_ways at m n s t is h i _ = tt

    decided_ways : (at m k : ℕ) (stepped : Bool) (s : Stm) (is : Frame) → At ns its f x (Todo s ∷ after_if stepped at (Test at true stepped s ∷ is)) m → At ns its f x is k → (way : Way)
        → Both (Test at true stepped s) is (branch f m k) way
    decided_ways at m k stepped s is h i Left = lands ns its f x (Todo s ∷ after_if stepped at (Test at true stepped s ∷ is)) m frames returns h w
    decided_ways at m k stepped s is h i Right = lands ns its f x is k frames returns i w
    decided_ways at m k stepped s is h i _ = tt

    endless_ways : (at m : ℕ) (stepped : Bool) (s : Stm) (is : Frame) → At ns its f x (Todo s ∷ after_if stepped at (Test at false stepped s ∷ is)) m → (way : Way)
        → Both (Test at false stepped s) is (step f (Some m)) way
    endless_ways at m stepped s is h On = lands ns its f x (Todo s ∷ after_if stepped at (Test at false stepped s ∷ is)) m frames returns h w
    endless_ways at m stepped s is h _ = tt

    test_ways : (at m k : ℕ) (decided stepped : Bool) (s : Stm) (is : Frame) → At ns its f x (Todo s ∷ after_if stepped at (Test at decided stepped s ∷ is)) m → At ns its f x is k → (way : Way)
        → Both (Test at decided stepped s) is (test_node f decided m k) way
    test_ways at m k true stepped s is h i way = decided_ways at m k stepped s is h i way
    test_ways at m k false stepped s is h i way = endless_ways at m stepped s is h way

    after_ways : (at t : ℕ) (is : Frame) → At ns its f x is t → (way : Way) → Both (After at) is (step f (Some t)) way
    after_ways at t is h On = lands ns its f x is t frames returns h w
    after_ways at t is h _ = tt

    end_ways : (g : ℕ) (is : Frame) (way : Way) → Both (End g) is (node point.Exit f None None) way
    end_ways g is On = ended_call ns its frames returns w
    end_ways g is _ = tt

    -- the front of a settled frame
    pub front_at : (frame : Frame) (b c : Option ℕ) (p : ℕ) → AtIn ns its f x b c frame p → settled frame ≡ true → Front frame frames returns p
    front_at [] b c p h e = absurd h
    front_at (Entry g j ∷ is) b c p h e = record { what = _; item = _; here = h.1; is_front = refl; ways = entry_ways g j h.0 is (b, c, h.2) }
    front_at (Todo (Plain at) ∷ is) b c p h e = record { what = _; item = _; here = h.1; is_front = refl; ways = plain_ways at h.0 is (b, c, h.2) }
    front_at (Todo (Break at) ∷ is) b c p h e = record { what = _; item = _; here = h.1; is_front = refl; ways = break_ways at b is (at_broken ns its f x is b c h.0 h.2) }
    front_at (Todo (Continue at) ∷ is) b c p h e = record { what = _; item = _; here = h.1; is_front = refl; ways = continue_ways at c is (at_continued ns its f x is b c h.0 h.2) }
    front_at (Todo (Return at) ∷ is) b c p h e = record { what = _; item = _; here = h.1; is_front = refl; ways = return_ways at is (at_ended ns its f x is b c h.0 h.2) }
    front_at (Todo (Open at j d) ∷ is) b c p h e = record { what = _; item = _; here = h.1; is_front = refl; ways = open_ways at j d h.0 is (b, c, h.2) }
    front_at (Todo (Close at j d) ∷ is) b c p h e = record { what = _; item = _; here = h.1; is_front = refl; ways = close_ways at j d h.0 is (b, c, h.2) }
    front_at (Todo (Call at j callee) ∷ is) b c p h e = record { what = _; item = _; here = h.1; is_front = refl; ways = call_ways at j h.0 callee is (b, c, h.2) }
    front_at (Todo (Label at mark j l s) ∷ is) b c p h e =
        let m = h.1.0 in
        record { what = _; item = _; here = h.1.1; is_front = refl; ways = label_ways at mark j l m s is (b, c, (h.0, h.1.2, h.2)) }
    front_at (Todo (If at s t) ∷ is) b c p h e =
        let a = h.1 in
        record { what = _; item = _; here = a.2; is_front = refl; ways = if_ways at a.0 a.1 s t is (b, c, (h.0, a.3, h.2)) (b, c, (h.0, a.4, h.2)) }
    front_at (Todo (Group ss) ∷ is) b c p h e = cc
    front_at (Todo (While at s) ∷ is) b c p h e = cc
    front_at (Todo (Do at s) ∷ is) b c p h e = cc
    front_at (Todo (For at init decided stepped s) ∷ is) b c p h e = cc
    front_at (Test at decided stepped s ∷ is) b c p h e =
        let a = h.1 in
        let r : AtIn ns its f x (Some a.2) a.3 is a.2 = subst (λ o. AtIn ns its f x o a.3 is a.2) a.7 a.8 in
        let body = at_body ns its f x a.3 at decided stepped s is p a.0 a.1 a.2 a.4 a.5 a.6 r in
        record { what = _; item = _; here = a.4; is_front = refl; ways = test_ways at a.0 a.2 decided stepped s is body (Some a.2, a.3, r) }
    front_at (After at ∷ is) b c p h e =
        let a = h.1 in
        record { what = _; item = _; here = a.2; is_front = refl; ways = after_ways at a.0 is (b, a.1, a.3) }
    front_at (LoopEnd ∷ is) b c p h e = cc
    front_at (End g ∷ is) b c p h e =
        let here = subst (λ n. Here ns its n (node point.Exit f None None) (End g)) (sym h.2) h.3 in
        record { what = _; item = _; here = here; is_front = refl; ways = end_ways g is }
