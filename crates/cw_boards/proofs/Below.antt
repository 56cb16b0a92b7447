-- Steps keep the seams of a stack below a number.
use Rattle.std.proofs.Common.{◌≡◌, ◌<◌, ◌≤◌, ℕ, zero, suc, ◌+◌, List, [], ◌∷◌, Bool, true, false, Option, Some, None, take, get_or, length, map, refl, ap, subst, arith}
use Rattle.std.specs.Prelude.{option_map, slice_get}
use Rattle.std.proofs.lemmas.Option.{none-some, same_Some}
use Rattle.cw_syntax.specs.declared.program.Function.{Function}
use Rattle.cw_syntax.specs.Plans.{Stm, Plain, Break, Continue, Return, Open, Close, Call, Group, Label, If, While, Do, For, Stms, end, then, Scene, Plan, numbered, numbered_all, seams, seams_all}
use Rattle.cw_syntax.specs.Plans.{Callee, Routine, routines_from}
use Rattle.cw_syntax.specs.Frames.{Item, Entry, Todo, Test, After, LoopEnd, End, Frame, items_of, after_if, expanded, expanded_all, settle, broken, continued, ended, Way}
use Rattle.cw_syntax.specs.Frames.{after, popped, pushed, pass, new_frame, frame_of, stack_of, start_stack}
use Rattle.cw_syntax.specs.Frames.{On as OnWay, Left as LeftWay, Right as RightWay, Opened as OpenedWay, Failed as FailedWay}
use Rattle.cw_rights.specs.declared.capabilities.Caps.{Caps}
use Rattle.cw_syntax.specs.Trees.{definition_of}
use Rattle.cw_certs.specs.declared.moves.Move.{Move}
use Rattle.cw_resolve.specs.Scenes.{stms_in}
use Rattle.cw_model.specs.Boards.{Problem, Board, landed, stepped, way_of, mode_of}
use Rattle.cw_boards.specs.declared.choices.Choice.{Choice}
use Rattle.cw_boards.specs.declared.choices.Choice.TheVariants.{Forbidden, To, Grants, Steps}
use Rattle.cw_boards.specs.Choices.{chosen}
use Rattle.cw_boards.specs.declared.turns.Turn.{Turn}
use Rattle.cw_boards.specs.declared.turns.Turn.TheVariants.{Passes, Breaks, Continues, Ends, Enters, Calls, Returns, Stops}
use Rattle.cw_boards.specs.Numbered.{most_seams, capped, SeamsBelow, AllSeamsBelow, ItemBelow, FrameBelow, StackBelow}
use Rattle.cw_boards.specs.Held.{seams_before}
use Rattle.cw_boards.specs.Turns.{entered, taken}
use Rattle.cw_boards.proofs.Routines.{routine}

-- Statements that are numbered from j on have their seams below n where the number behind the last is at most n, and the other way round.
mutual
  pub numbered_below : (n : ℕ) (s : Stm) (j : ℕ) → j + seams s ≤ n → SeamsBelow n (numbered s j)
  numbered_below n (Plain at) j h = tt
  numbered_below n (Break at) j h = tt
  numbered_below n (Continue at) j h = tt
  numbered_below n (Return at) j h = tt
  numbered_below n (Open at i d) j h = omega (arith, h)
  numbered_below n (Close at i d) j h = omega (arith, h)
  numbered_below n (Call at i callee) j h = omega (arith, h)
  numbered_below n (Group ss) j h = all_numbered_below n ss j h
  numbered_below n (Label at mark i l s) j h = (omega (arith, h), numbered_below n s (j + 1) (omega (arith, h)))
  numbered_below n (If at s t) j h = (numbered_below n s j (omega (arith, h)), numbered_below n t (j + seams s) (omega (arith, h)))
  numbered_below n (While at s) j h = numbered_below n s j h
  numbered_below n (Do at s) j h = numbered_below n s j h
  numbered_below n (For at init decided stepped s) j h = numbered_below n s j h

  pub all_numbered_below : (n : ℕ) (ss : Stms) (j : ℕ) → j + seams_all ss ≤ n → AllSeamsBelow n (numbered_all ss j)
  all_numbered_below n end j h = tt
  all_numbered_below n (then s ss) j h = (numbered_below n s j (omega (arith, h)), all_numbered_below n ss (j + seams s) (omega (arith, h)))

mutual
  pub fits : (n : ℕ) (s : Stm) (j : ℕ) → j ≤ n → SeamsBelow n (numbered s j) → j + seams s ≤ n
  fits n (Plain at) j le h = omega (arith, le)
  fits n (Break at) j le h = omega (arith, le)
  fits n (Continue at) j le h = omega (arith, le)
  fits n (Return at) j le h = omega (arith, le)
  fits n (Open at i d) j le h = omega (arith, h)
  fits n (Close at i d) j le h = omega (arith, h)
  fits n (Call at i callee) j le h = omega (arith, h)
  fits n (Group ss) j le h = all_fit n ss j le h
  fits n (Label at mark i l s) j le h = let lt = h.0 in let k = fits n s (j + 1) (omega (arith, lt)) h.1 in omega (arith, k)
  fits n (If at s t) j le h = let k = fits n t (j + seams s) (fits n s j le h.0) h.1 in omega (arith, k)
  fits n (While at s) j le h = fits n s j le h
  fits n (Do at s) j le h = fits n s j le h
  fits n (For at init decided stepped s) j le h = fits n s j le h

  pub all_fit : (n : ℕ) (ss : Stms) (j : ℕ) → j ≤ n → AllSeamsBelow n (numbered_all ss j) → j + seams_all ss ≤ n
  all_fit n end j le h = omega (arith, le)
  all_fit n (then s ss) j le h = let k = all_fit n ss (j + seams s) (fits n s j le h.0) h.1 in omega (arith, k)

module _ (n : ℕ) where
  pub items_below : (ss : Stms) (rest : Frame) → AllSeamsBelow n ss → FrameBelow n rest → FrameBelow n (items_of ss rest)
  items_below end rest h k = k
  items_below (then s ss) rest h k = (h.0, items_below ss rest h.1 k)

  items_back : (ss : Stms) (rest : Frame) → FrameBelow n (items_of ss rest) → AllSeamsBelow n ss × FrameBelow n rest
  items_back end rest h = (tt, h)
  items_back (then s ss) rest h = let k = items_back ss rest h.1 in ((h.0, k.0), k.1)

  -- a rewriting changes no seam
  mutual
    expanded_below : (s : Stm) (rest next : Frame) → SeamsBelow n s → FrameBelow n rest → FrameBelow n next → FrameBelow n (expanded s rest next)
    expanded_below (Plain at) rest next h k m = (tt, k)
    expanded_below (Break at) rest next h k m = (tt, k)
    expanded_below (Continue at) rest next h k m = (tt, k)
    expanded_below (Return at) rest next h k m = (tt, k)
    expanded_below (Open at j d) rest next h k m = (h, k)
    expanded_below (Close at j d) rest next h k m = (h, k)
    expanded_below (Call at j callee) rest next h k m = (h, k)
    expanded_below (Group ss) rest next h k m = all_expanded_below ss rest next h k m
    expanded_below (Label at mark j l s) rest next h k m = (h, k)
    expanded_below (If at s t) rest next h k m = (h, k)
    expanded_below (While at s) rest next h k m = (h, (tt, k))
    expanded_below (Do at s) rest next h k m = expanded_below s (Test at true false s ∷ (LoopEnd ∷ rest)) (Test at true false s ∷ (LoopEnd ∷ rest)) h (h, (tt, k)) (h, (tt, k))
    expanded_below (For at None decided stepped s) rest next h k m = (h, (tt, k))
    expanded_below (For at (Some i) decided stepped s) rest next h k m = (tt, (h, (tt, k)))

    all_expanded_below : (ss : Stms) (rest next : Frame) → AllSeamsBelow n ss → FrameBelow n rest → FrameBelow n next → FrameBelow n (expanded_all ss rest next)
    all_expanded_below end rest next h k m = m
    all_expanded_below (then s ss) rest next h k m = expanded_below s (items_of ss rest) (expanded_all ss rest next) h.0 (items_below ss rest h.1 k) (all_expanded_below ss rest next h.1 k m)

  mutual
    expanded_back : (s : Stm) (rest next : Frame) → (FrameBelow n next → FrameBelow n rest) → FrameBelow n (expanded s rest next) → SeamsBelow n s × FrameBelow n rest
    expanded_back (Plain at) rest next f h = h
    expanded_back (Break at) rest next f h = h
    expanded_back (Continue at) rest next f h = h
    expanded_back (Return at) rest next f h = h
    expanded_back (Open at j d) rest next f h = h
    expanded_back (Close at j d) rest next f h = h
    expanded_back (Call at j callee) rest next f h = h
    expanded_back (Group ss) rest next f h = all_expanded_back ss rest next f h
    expanded_back (Label at mark j l s) rest next f h = h
    expanded_back (If at s t) rest next f h = h
    expanded_back (While at s) rest next f h = (h.0, h.1.1)
    expanded_back (Do at s) rest next f h =
        let k = expanded_back s (Test at true false s ∷ (LoopEnd ∷ rest)) (Test at true false s ∷ (LoopEnd ∷ rest)) (λ k. k) h in
        (k.0, k.1.1.1)
    expanded_back (For at None decided stepped s) rest next f h = (h.0, h.1.1)
    expanded_back (For at (Some i) decided stepped s) rest next f h = (h.1.0, h.1.1.1)

    all_expanded_back : (ss : Stms) (rest next : Frame) → (FrameBelow n next → FrameBelow n rest) → FrameBelow n (expanded_all ss rest next) → AllSeamsBelow n ss × FrameBelow n rest
    all_expanded_back end rest next f h = (tt, f h)
    all_expanded_back (then s ss) rest next f h =
        let k = expanded_back s (items_of ss rest) (expanded_all ss rest next) (λ m. let r = all_expanded_back ss rest next f m in items_below ss rest r.0 r.1) h in
        let r = items_back ss rest k.1 in
        ((k.0, r.0), r.1)

  pub settled_below : (frame : Frame) → FrameBelow n frame → FrameBelow n (settle frame)
  settled_below [] h = tt
  settled_below (Entry f j ∷ rest) h = h
  settled_below (Todo s ∷ rest) h = expanded_below s rest (settle rest) h.0 h.1 (settled_below rest h.1)
  settled_below (Test at decided stepped s ∷ rest) h = h
  settled_below (After at ∷ rest) h = h
  settled_below (LoopEnd ∷ rest) h = settled_below rest h.1
  settled_below (End f ∷ rest) h = h

  pub unsettled_below : (frame : Frame) → FrameBelow n (settle frame) → FrameBelow n frame
  unsettled_below [] h = tt
  unsettled_below (Entry f j ∷ rest) h = h
  unsettled_below (Todo s ∷ rest) h = expanded_back s rest (settle rest) (unsettled_below rest) h
  unsettled_below (Test at decided stepped s ∷ rest) h = h
  unsettled_below (After at ∷ rest) h = h
  unsettled_below (LoopEnd ∷ rest) h = (tt, unsettled_below rest h)
  unsettled_below (End f ∷ rest) h = h

  -- what is left of a frame
  broken_below : (frame next : Frame) → broken frame ≡ Some next → FrameBelow n frame → FrameBelow n next
  broken_below [] next e h = absurd (none-some next e)
  broken_below (LoopEnd ∷ rest) next e h = subst (FrameBelow n) (same_Some rest next e) h.1
  broken_below (Entry f j ∷ rest) next e h = broken_below rest next e h.1
  broken_below (Todo s ∷ rest) next e h = broken_below rest next e h.1
  broken_below (Test at decided stepped s ∷ rest) next e h = broken_below rest next e h.1
  broken_below (After at ∷ rest) next e h = broken_below rest next e h.1
  broken_below (End f ∷ rest) next e h = broken_below rest next e h.1

  continued_below : (frame next : Frame) → continued frame ≡ Some next → FrameBelow n frame → FrameBelow n next
  continued_below [] next e h = absurd (none-some next e)
  continued_below (LoopEnd ∷ rest) next e h = continued_below rest next e h.1
  continued_below (Entry f j ∷ rest) next e h = continued_below rest next e h.1
  continued_below (Todo s ∷ rest) next e h = continued_below rest next e h.1
  continued_below (Test at decided stepped s ∷ rest) next e h = subst (FrameBelow n) (same_Some _ next e) h
  continued_below (After at ∷ rest) next e h = subst (FrameBelow n) (same_Some _ next e) h
  continued_below (End f ∷ rest) next e h = continued_below rest next e h.1

  ended_below : (frame : Frame) → FrameBelow n frame → FrameBelow n (ended frame)
  ended_below [] h = tt
  ended_below (LoopEnd ∷ rest) h = ended_below rest h.1
  ended_below (Entry f j ∷ rest) h = ended_below rest h.1
  ended_below (Todo s ∷ rest) h = ended_below rest h.1
  ended_below (Test at decided stepped s ∷ rest) h = ended_below rest h.1
  ended_below (After at ∷ rest) h = ended_below rest h.1
  ended_below (End f ∷ rest) h = (tt, ended_below rest h.1)

  again_below : (stepped : Bool) (at : ℕ) (frame : Frame) → FrameBelow n frame → FrameBelow n (after_if stepped at frame)
  again_below true at frame h = (tt, h)
  again_below false at frame h = h

  entered_below : (i : Item) (way : Way) (rest next : Frame) → entered i way rest ≡ Some next → ItemBelow n i → FrameBelow n rest → FrameBelow n next
  entered_below (Todo (Label at mark j l s)) OnWay rest next e h k = subst (FrameBelow n) (same_Some _ next e) (h.1, k)
  entered_below (Todo (Label at mark j l s)) _ rest next e h k = absurd (none-some next e)
  entered_below (Todo (If at s t)) LeftWay rest next e h k = subst (FrameBelow n) (same_Some _ next e) (h.0, k)
  entered_below (Todo (If at s t)) RightWay rest next e h k = subst (FrameBelow n) (same_Some _ next e) (h.1, k)
  entered_below (Todo (If at s t)) _ rest next e h k = absurd (none-some next e)
  entered_below (Todo (Plain at)) way rest next e h k = absurd (none-some next e)
  entered_below (Todo (Break at)) way rest next e h k = absurd (none-some next e)
  entered_below (Todo (Continue at)) way rest next e h k = absurd (none-some next e)
  entered_below (Todo (Return at)) way rest next e h k = absurd (none-some next e)
  entered_below (Todo (Open at j d)) way rest next e h k = absurd (none-some next e)
  entered_below (Todo (Close at j d)) way rest next e h k = absurd (none-some next e)
  entered_below (Todo (Call at j callee)) way rest next e h k = absurd (none-some next e)
  entered_below (Todo (Group ss)) way rest next e h k = absurd (none-some next e)
  entered_below (Todo (While at s)) way rest next e h k = absurd (none-some next e)
  entered_below (Todo (Do at s)) way rest next e h k = absurd (none-some next e)
  entered_below (Todo (For at init decided stepped s)) way rest next e h k = absurd (none-some next e)
  entered_below (Test at true stepped s) LeftWay rest next e h k =
      subst (FrameBelow n) (same_Some _ next e) (h, again_below stepped at (Test at true stepped s ∷ rest) (h, k))
  entered_below (Test at true stepped s) _ rest next e h k = absurd (none-some next e)
  entered_below (Test at false stepped s) OnWay rest next e h k =
      subst (FrameBelow n) (same_Some _ next e) (h, again_below stepped at (Test at false stepped s ∷ rest) (h, k))
  entered_below (Test at false stepped s) _ rest next e h k = absurd (none-some next e)
  entered_below (Entry f j) way rest next e h k = absurd (none-some next e)
  entered_below (After at) way rest next e h k = absurd (none-some next e)
  entered_below LoopEnd way rest next e h k = absurd (none-some next e)
  entered_below (End f) way rest next e h k = absurd (none-some next e)

  pub taken_below : (turn : Turn) (i : Item) (way : Way) (rest next : Frame) → taken turn i way rest ≡ Some next → ItemBelow n i → FrameBelow n rest → FrameBelow n next
  taken_below Passes i way rest next e h k = subst (FrameBelow n) (same_Some rest next e) k
  taken_below Breaks i way rest next e h k = broken_below rest next e k
  taken_below Continues i way rest next e h k = continued_below rest next e k
  taken_below Ends i way rest next e h k = subst (FrameBelow n) (same_Some (ended rest) next e) (ended_below rest k)
  taken_below Enters i way rest next e h k = entered_below i way rest next e h k
  taken_below (Calls f) i way rest next e h k = absurd (none-some next e)
  taken_below Returns i way rest next e h k = absurd (none-some next e)
  taken_below Stops i way rest next e h k = absurd (none-some next e)

  after_below : (i : Item) (way : Way) (rest next : Frame) → after i way rest ≡ Some next → ItemBelow n i → FrameBelow n rest → FrameBelow n next
  after_below (Entry f j) OnWay rest next e h k = subst (FrameBelow n) (same_Some _ next e) k
  after_below (Entry f j) _ rest next e h k = absurd (none-some next e)
  after_below (Todo (Plain at)) OnWay rest next e h k = subst (FrameBelow n) (same_Some _ next e) k
  after_below (Todo (Plain at)) _ rest next e h k = absurd (none-some next e)
  after_below (Todo (Break at)) OnWay rest next e h k = broken_below rest next e k
  after_below (Todo (Break at)) _ rest next e h k = absurd (none-some next e)
  after_below (Todo (Continue at)) OnWay rest next e h k = continued_below rest next e k
  after_below (Todo (Continue at)) _ rest next e h k = absurd (none-some next e)
  after_below (Todo (Return at)) OnWay rest next e h k = subst (FrameBelow n) (same_Some _ next e) (ended_below rest k)
  after_below (Todo (Return at)) _ rest next e h k = absurd (none-some next e)
  after_below (Todo (Open at j d)) OpenedWay rest next e h k = subst (FrameBelow n) (same_Some _ next e) k
  after_below (Todo (Open at j d)) FailedWay rest next e h k = subst (FrameBelow n) (same_Some _ next e) k
  after_below (Todo (Open at j d)) _ rest next e h k = absurd (none-some next e)
  after_below (Todo (Close at j d)) OnWay rest next e h k = subst (FrameBelow n) (same_Some _ next e) k
  after_below (Todo (Close at j d)) _ rest next e h k = absurd (none-some next e)
  after_below (Todo (Call at j callee)) way rest next e h k = absurd (none-some next e)
  after_below (Todo (Group ss)) way rest next e h k = absurd (none-some next e)
  after_below (Todo (Label at mark j l s)) OnWay rest next e h k = subst (FrameBelow n) (same_Some _ next e) (h.1, k)
  after_below (Todo (Label at mark j l s)) _ rest next e h k = absurd (none-some next e)
  after_below (Todo (If at s t)) LeftWay rest next e h k = subst (FrameBelow n) (same_Some _ next e) (h.0, k)
  after_below (Todo (If at s t)) RightWay rest next e h k = subst (FrameBelow n) (same_Some _ next e) (h.1, k)
  after_below (Todo (If at s t)) _ rest next e h k = absurd (none-some next e)
  after_below (Todo (While at s)) way rest next e h k = absurd (none-some next e)
  after_below (Todo (Do at s)) way rest next e h k = absurd (none-some next e)
  after_below (Todo (For at init decided stepped s)) way rest next e h k = absurd (none-some next e)
  after_below (Test at true stepped s) LeftWay rest next e h k = subst (FrameBelow n) (same_Some _ next e) (h, again_below stepped at (Test at true stepped s ∷ rest) (h, k))
  after_below (Test at true stepped s) RightWay rest next e h k = subst (FrameBelow n) (same_Some _ next e) k
  after_below (Test at true stepped s) _ rest next e h k = absurd (none-some next e)
  after_below (Test at false stepped s) OnWay rest next e h k = subst (FrameBelow n) (same_Some _ next e) (h, again_below stepped at (Test at false stepped s ∷ rest) (h, k))
  after_below (Test at false stepped s) _ rest next e h k = absurd (none-some next e)
  after_below (After at) OnWay rest next e h k = subst (FrameBelow n) (same_Some _ next e) k
  after_below (After at) _ rest next e h k = absurd (none-some next e)
  after_below LoopEnd way rest next e h k = absurd (none-some next e)
  after_below (End f) way rest next e h k = absurd (none-some next e)

  within_below : (i : Item) (way : Way) (is : Frame) (frames next : List Frame) → option_map (λ next. settle next ∷ frames) (after i way is) ≡ Some next
      → ItemBelow n i → FrameBelow n is → StackBelow n frames → StackBelow n next
  within_below i way is frames next e h k m = by (after i way is) refl e
    where
      by : (o : Option Frame) → after i way is ≡ o → option_map (λ next. settle next ∷ frames) o ≡ Some next → StackBelow n next
      by None q e = absurd (none-some next e)
      by (Some top) q e = subst (StackBelow n) (same_Some _ next e) (settled_below top (after_below i way is top q h k), m)

  popped_below : (frames next : List Frame) → popped frames ≡ Some next → StackBelow n frames → StackBelow n next
  popped_below [] next e m = subst (StackBelow n) (same_Some [] next e) tt
  popped_below ([] ∷ frames) next e m = absurd (none-some next e)
  popped_below ((call ∷ rest) ∷ frames) next e m = subst (StackBelow n) (same_Some _ next e) (settled_below rest m.0.1, m.1)

  -- a plan whose functions have their seams below it
  abbrev pub RoutinesBelow : Plan → Type 0
  RoutinesBelow plan = (f : ℕ) (frame : Frame) → frame_of plan f ≡ Some frame → FrameBelow n frame

  pushed_below : (plan : Plan) (callee : Callee) (stack next : List Frame) → pushed plan callee stack ≡ Some next → RoutinesBelow plan → StackBelow n stack → StackBelow n next
  pushed_below plan callee stack next e routines m = by (frame_of plan callee.number) refl e
    where
      by : (o : Option Frame) → frame_of plan callee.number ≡ o → option_map (λ frame. frame ∷ stack) o ≡ Some next → StackBelow n next
      by None q e = absurd (none-some next e)
      by (Some frame) q e = subst (StackBelow n) (same_Some _ next e) (routines callee.number frame q, m)

  item_below : (plan : Plan) (i : Item) (way : Way) (is : Frame) (frames next : List Frame) → pass plan ((i ∷ is) ∷ frames) way ≡ Some next → RoutinesBelow plan
      → ItemBelow n i → FrameBelow n is → StackBelow n frames → StackBelow n next
  item_below plan (Entry f j) way is frames next e routines h k m = within_below (Entry f j) way is frames next e h k m
  item_below plan (Todo (Plain at)) way is frames next e routines h k m = within_below (Todo (Plain at)) way is frames next e h k m
  item_below plan (Todo (Break at)) way is frames next e routines h k m = within_below (Todo (Break at)) way is frames next e h k m
  item_below plan (Todo (Continue at)) way is frames next e routines h k m = within_below (Todo (Continue at)) way is frames next e h k m
  item_below plan (Todo (Return at)) way is frames next e routines h k m = within_below (Todo (Return at)) way is frames next e h k m
  item_below plan (Todo (Open at j d)) way is frames next e routines h k m = within_below (Todo (Open at j d)) way is frames next e h k m
  item_below plan (Todo (Close at j d)) way is frames next e routines h k m = within_below (Todo (Close at j d)) way is frames next e h k m
  item_below plan (Todo (Call at j callee)) OnWay is frames next e routines h k m = pushed_below plan callee ((Todo (Call at j callee) ∷ is) ∷ frames) next e routines ((h, k), m)
  item_below plan (Todo (Call at j callee)) _ is frames next e routines h k m = absurd (none-some next e)
  item_below plan (Todo (Group ss)) way is frames next e routines h k m = within_below (Todo (Group ss)) way is frames next e h k m
  item_below plan (Todo (Label at mark j l s)) way is frames next e routines h k m = within_below (Todo (Label at mark j l s)) way is frames next e h k m
  item_below plan (Todo (If at s t)) way is frames next e routines h k m = within_below (Todo (If at s t)) way is frames next e h k m
  item_below plan (Todo (While at s)) way is frames next e routines h k m = within_below (Todo (While at s)) way is frames next e h k m
  item_below plan (Todo (Do at s)) way is frames next e routines h k m = within_below (Todo (Do at s)) way is frames next e h k m
  item_below plan (Todo (For at init decided stepped s)) way is frames next e routines h k m = within_below (Todo (For at init decided stepped s)) way is frames next e h k m
  item_below plan (Test at decided stepped s) way is frames next e routines h k m = within_below (Test at decided stepped s) way is frames next e h k m
  item_below plan (After at) way is frames next e routines h k m = within_below (After at) way is frames next e h k m
  item_below plan LoopEnd way is frames next e routines h k m = within_below LoopEnd way is frames next e h k m
  item_below plan (End f) OnWay is frames next e routines h k m = popped_below frames next e m
  item_below plan (End f) _ is frames next e routines h k m = absurd (none-some next e)

  pub pass_below : (plan : Plan) (stack next : List Frame) (way : Way) → pass plan stack way ≡ Some next → RoutinesBelow plan → StackBelow n stack → StackBelow n next
  pass_below plan [] next way e routines m = absurd (none-some next e)
  pass_below plan ([] ∷ frames) next way e routines m = absurd (none-some next e)
  pass_below plan ((i ∷ is) ∷ frames) next way e routines m = item_below plan i way is frames next e routines m.0.0 m.0.1 m.1

  pub start_below : (plan : Plan) → RoutinesBelow plan → StackBelow n (start_stack plan)
  start_below plan routines = by (frame_of plan plan.main) refl
    where
      by : (o : Option Frame) → frame_of plan plan.main ≡ o → StackBelow n (stack_of o)
      by None e = tt
      by (Some frame) e = (routines plan.main frame e, tt)

  -- the board after a choice
  stepped_below : (p : Problem) (mode : Option Caps) (b next : Board) (way : Option Way) → stepped p mode b way ≡ Some next → RoutinesBelow p.plan → StackBelow n b.stack
      → StackBelow n next.stack
  stepped_below p mode b next None e routines m = absurd (none-some next e)
  stepped_below p mode b next (Some way) e routines m = by (pass p.plan b.stack way) refl e
    where
      by : (o : Option (List Frame)) → pass p.plan b.stack way ≡ o → option_map (landed p mode b way) o ≡ Some next → StackBelow n next.stack
      by None q e = absurd (none-some next e)
      by (Some stack) q e = subst (λ (x : Board). StackBelow n x.stack) (same_Some _ next e) (pass_below p.plan b.stack stack way q routines m)

  pub chosen_below : (p : Problem) (b next : Board) (choice : Choice) (by : Move) → chosen p b choice by ≡ Some next → RoutinesBelow p.plan → StackBelow n b.stack → StackBelow n next.stack
  chosen_below p b next Forbidden by e routines m = absurd (none-some next e)
  chosen_below p b next (To phase) by e routines m = subst (λ (x : Board). StackBelow n x.stack) (same_Some _ next e) m
  chosen_below p b next (Grants a stage) by e routines m = subst (λ (x : Board). StackBelow n x.stack) (same_Some _ next e) m
  chosen_below p b next (Steps split) by e routines m = stepped_below p (mode_of split b.caps) b next (way_of by) e routines m

  -- the functions of a source with so few seams
  routine_below : (s : Scene) (fs : List Function) (j f : ℕ) (r : Routine) → slice_get (routines_from s j (map definition_of fs)) f ≡ Some r → j + seams_before s fs ≤ n
      → (r.seam < n) × AllSeamsBelow n r.body
  routine_below s [] j f r e h = absurd (none-some r e)
  routine_below s (g ∷ fs) j zero r e h =
      let body = stms_in s g.body.items in
      subst (λ (x : Routine). (x.seam < n) × AllSeamsBelow n x.body) (same_Some (routine s g j) r e) (omega (arith, h), all_numbered_below n body (j + 1) (omega (arith, h)))
  routine_below s (g ∷ fs) j (suc f) r e h = routine_below s fs (j + 1 + seams_all (stms_in s g.body.items)) f r e (omega (arith, h))

  pub frames_below : (s : Scene) (fs : List Function) (f : ℕ) (frame : Frame) → option_map (new_frame f) (slice_get (routines_from s 0 (map definition_of fs)) f) ≡ Some frame
      → seams_before s fs ≤ n → FrameBelow n frame
  frames_below s fs f frame e h = by (slice_get (routines_from s 0 (map definition_of fs)) f) refl e
    where
      by : (o : Option Routine) → slice_get (routines_from s 0 (map definition_of fs)) f ≡ o → option_map (new_frame f) o ≡ Some frame → FrameBelow n frame
      by None q e = absurd (none-some frame e)
      by (Some r) q e =
          let k = routine_below s fs 0 f r q (omega (arith, h)) in
          subst (FrameBelow n) (same_Some _ frame e) (k.0, items_below r.body (End f ∷ []) k.1 (tt, tt))

-- a count that is no more than the cap is whole
pub whole : (k m : ℕ) → k ≡ capped m → m ≤ most_seams → k ≡ m
whole k m e h = omega (arith, e, h)

-- the seams of a function are among those of all
pub function_fits : (s : Scene) (fs : List Function) (f : ℕ) (x : Function) → f < length fs → x ≡ get_or fs f x
    → seams_before s (take f fs) + 1 + seams_all (stms_in s x.body.items) ≤ seams_before s fs
function_fits s [] f x l e = absurd (omega arith)
function_fits s (g ∷ fs) zero x l e = let z : seams_all (stms_in s x.body.items) ≡ seams_all (stms_in s g.body.items) = ap (λ (y : Function). seams_all (stms_in s y.body.items)) e in omega (arith, z)
function_fits s (g ∷ fs) (suc f) x l e = let h = function_fits s fs f x (omega arith) e in omega (arith, h)

pub some_fit : (s : Scene) (fs : List Function) (f : ℕ) → seams_before s (take f fs) ≤ seams_before s fs
some_fit s [] zero = omega arith
some_fit s [] (suc f) = omega arith
some_fit s (g ∷ fs) zero = omega arith
some_fit s (g ∷ fs) (suc f) = let h = some_fit s fs f in omega (arith, h)
