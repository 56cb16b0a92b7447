-- What stands at the point of a frame's front, and where the ways from it lead.
use Rattle.std.proofs.Common.{◌≡◌, ℕ, List, [], ◌∷◌, Bool, true, false, Option, Some, None, option_map, refl, sym, ap, subst, ◌∙◌}
use Rattle.std.specs.Prelude.{slice_get, option_and_then}
use Rattle.std.proofs.lemmas.Option.{none-some, same_Some}
use Rattle.cw_core.specs.declared.ids.PointId.{PointId}
use Rattle.cw_syntax.specs.Plans.{Stm, Plain, Break, Continue, Return, Open, Close, Call, Group, Label, If, While, Do, For}
use Rattle.cw_syntax.specs.Frames.{Item, Entry, Todo, Test, After, LoopEnd, End, Frame, Way, On, Left, Right, Opened, Failed, settled}
use Rattle.cw_points.specs.declared.graph.Point.{Point}
use Rattle.cw_points.specs.declared.graph.Point.TheVariants as point
use Rattle.cw_points.specs.declared.graph.Node.{Node}
use Rattle.cw_points.specs.declared.graph.Part.{Part}
use Rattle.cw_points.specs.Graphs.{node, test_node}
use Rattle.cw_points.specs.Walks.{Stand, stand, number_of, first_of, second_of, called, returned, leads}
use Rattle.cw_points.proofs.Situated.{Here, AtIn}
use Rattle.cw_values.specs.Running.{first, second, next_by}

abbrev pub IsInnerPoint : Point → Type 0
IsInnerPoint (point.Call f) = ⊥
IsInnerPoint point.Exit = ⊥
IsInnerPoint _ = Unit {0}

-- the kind of a point is that of its item
abbrev pub Suits : Item → Point → Type 0
Suits (End g) n = n ≡ point.Exit
Suits (Todo (Call at j callee)) n = n ≡ point.Call callee.number
Suits i n = IsInnerPoint n

test_suits : (d u : Bool) (at f m k : ℕ) (s : Stm) → IsInnerPoint (test_node f d m k).point
test_suits true u at f m k s = tt
test_suits false u at f m k s = tt

module _ (ns : List Node) (its : List Item) (f x : ℕ) where
  pub record At (i : Item) (p : ℕ) : Type 0 where
    pub what : Node
    pub here : Here ns its p what i
    pub suits : Suits i what.point

  pub suited : (i : Item) (is : Frame) (b c : Option ℕ) (p : ℕ) → AtIn ns its f x b c (i ∷ is) p → settled (i ∷ is) ≡ true → At i p
  suited (Entry g j) is b c p h e = record { what = _; here = h.1; suits = tt }
  suited (Todo (Plain at)) is b c p h e = record { what = _; here = h.1; suits = tt }
  suited (Todo (Break at)) is b c p h e = record { what = _; here = h.1; suits = tt }
  suited (Todo (Continue at)) is b c p h e = record { what = _; here = h.1; suits = tt }
  suited (Todo (Return at)) is b c p h e = record { what = _; here = h.1; suits = tt }
  suited (Todo (Open at j d)) is b c p h e = record { what = _; here = h.1; suits = tt }
  suited (Todo (Close at j d)) is b c p h e = record { what = _; here = h.1; suits = tt }
  suited (Todo (Call at j callee)) is b c p h e = record { what = _; here = h.1; suits = refl }
  suited (Todo (Label at mark j l s)) is b c p h e = record { what = _; here = h.1.1; suits = tt }
  suited (Todo (If at s t)) is b c p h e = record { what = _; here = h.1.2; suits = tt }
  suited (Todo (Group ss)) is b c p h e = cc
  suited (Todo (While at s)) is b c p h e = cc
  suited (Todo (Do at s)) is b c p h e = cc
  suited (Todo (For at init d u s)) is b c p h e = cc
  suited (Test at d u s) is b c p h e = record { what = _; here = h.1.4; suits = test_suits d u at f h.1.0 h.1.2 s }
  suited (After at) is b c p h e = record { what = _; here = h.1.2; suits = tt }
  suited LoopEnd is b c p h e = cc
  suited (End g) is b c p h e = record { what = _; here = subst (λ n. Here ns its n (node point.Exit f None None) (End g)) (sym h.2) h.3; suits = refl }

-- ---- where the ways lead

pub first_number : (next : List (Option PointId)) → first_of next ≡ number_of (first next)
first_number [] = refl
first_number (a ∷ rest) = refl

second_number : (next : List (Option PointId)) → second_of next ≡ number_of (second next)
second_number [] = refl
second_number (a ∷ rest) = first_number rest

module _ (parts : List Part) (returns : List ℕ) where
  to_here : (o : Option PointId) (here : Option Stand) → option_map (λ p. Some (stand returns p)) (number_of o) ≡ Some here → here ≡ option_map (λ q. stand returns q.0) o
  to_here None here e = absurd (none-some here e)
  to_here (Some q) here e = sym (same_Some (Some (stand returns q.0)) here e)

  by_first : (next : List (Option PointId)) (here : Option Stand) → option_map (λ p. Some (stand returns p)) (first_of next) ≡ Some here → here ≡ option_map (λ q. stand returns q.0) (first next)
  by_first next here e = to_here (first next) here (ap (option_map (λ p. Some (stand returns p))) (sym (first_number next)) ∙ e)

  by_second : (next : List (Option PointId)) (here : Option Stand) → option_map (λ p. Some (stand returns p)) (second_of next) ≡ Some here → here ≡ option_map (λ q. stand returns q.0) (second next)
  by_second next here e = to_here (second next) here (ap (option_map (λ p. Some (stand returns p))) (sym (second_number next)) ∙ e)

  abbrev Leads : Point → List (Option PointId) → Way → Option Stand → Type 0
  Leads n next way here = leads parts returns n next way ≡ Some here

  abbrev To : List (Option PointId) → Way → Option Stand → Type 0
  To next way here = here ≡ option_map (λ q. stand returns q.0) (next_by next way)

  pub inner_leads : (n : Point) (next : List (Option PointId)) (way : Way) (here : Option Stand) → IsInnerPoint n → Leads n next way here → To next way here
  inner_leads point.Entry next On here h e = by_first next here e
  inner_leads point.Entry next Left here h e = absurd (none-some here e)
  inner_leads point.Entry next Right here h e = absurd (none-some here e)
  inner_leads point.Entry next Opened here h e = absurd (none-some here e)
  inner_leads point.Entry next Failed here h e = absurd (none-some here e)
  inner_leads point.Step next On here h e = by_first next here e
  inner_leads point.Step next Left here h e = absurd (none-some here e)
  inner_leads point.Step next Right here h e = absurd (none-some here e)
  inner_leads point.Step next Opened here h e = absurd (none-some here e)
  inner_leads point.Step next Failed here h e = absurd (none-some here e)
  inner_leads point.Branch next On here h e = absurd (none-some here e)
  inner_leads point.Branch next Left here h e = by_first next here e
  inner_leads point.Branch next Right here h e = by_second next here e
  inner_leads point.Branch next Opened here h e = absurd (none-some here e)
  inner_leads point.Branch next Failed here h e = absurd (none-some here e)
  inner_leads (point.Label l) next On here h e = by_first next here e
  inner_leads (point.Label l) next Left here h e = absurd (none-some here e)
  inner_leads (point.Label l) next Right here h e = absurd (none-some here e)
  inner_leads (point.Label l) next Opened here h e = absurd (none-some here e)
  inner_leads (point.Label l) next Failed here h e = absurd (none-some here e)
  inner_leads (point.Open d) next On here h e = absurd (none-some here e)
  inner_leads (point.Open d) next Left here h e = absurd (none-some here e)
  inner_leads (point.Open d) next Right here h e = absurd (none-some here e)
  inner_leads (point.Open d) next Opened here h e = by_first next here e
  inner_leads (point.Open d) next Failed here h e = by_first next here e
  inner_leads (point.Close d) next On here h e = by_first next here e
  inner_leads (point.Close d) next Left here h e = absurd (none-some here e)
  inner_leads (point.Close d) next Right here h e = absurd (none-some here e)
  inner_leads (point.Close d) next Opened here h e = absurd (none-some here e)
  inner_leads (point.Close d) next Failed here h e = absurd (none-some here e)
  inner_leads (point.Call f) next way here h e = absurd h
  inner_leads point.Exit next way here h e = absurd h

  pub exit_leads : (n : Point) (next : List (Option PointId)) (way : Way) (here : Option Stand) → n ≡ point.Exit → Leads n next way here → here ≡ returned returns
  exit_leads n next On here h e = sym (same_Some (returned returns) here (sym (ap (λ x. leads parts returns x next On) h) ∙ e))
  exit_leads n next Left here h e = absurd (none-some here (sym (ap (λ x. leads parts returns x next Left) h) ∙ e))
  exit_leads n next Right here h e = absurd (none-some here (sym (ap (λ x. leads parts returns x next Right) h) ∙ e))
  exit_leads n next Opened here h e = absurd (none-some here (sym (ap (λ x. leads parts returns x next Opened) h) ∙ e))
  exit_leads n next Failed here h e = absurd (none-some here (sym (ap (λ x. leads parts returns x next Failed) h) ∙ e))

  -- a call leads to its callee's entry, and its own successor waits
  pub record CallLeads (f : ℕ) (next : List (Option PointId)) (here : Option Stand) : Type 0 where
    pub back : PointId
    pub behind : first next ≡ Some back
    pub part : Part
    pub callee : slice_get parts f ≡ Some part
    pub to : here ≡ Some (stand (back.0 ∷ returns) part.entry.0)

  call_to : (f : ℕ) (next : List (Option PointId)) (here : Option Stand) (o : Option PointId) (q : Option Part) → first next ≡ o → slice_get parts f ≡ q
      → option_map (λ s. Some s) (option_and_then (called q returns) (number_of o)) ≡ Some here → CallLeads f next here
  call_to f next here None q a b e = absurd (none-some here e)
  call_to f next here (Some back) None a b e = absurd (none-some here e)
  call_to f next here (Some back) (Some part) a b e =
      record { back = back; behind = a; part = part; callee = b; to = sym (same_Some (Some (stand (back.0 ∷ returns) part.entry.0)) here e) }

  pub call_leads : (f : ℕ) (n : Point) (next : List (Option PointId)) (way : Way) (here : Option Stand) → n ≡ point.Call f → Leads n next way here → CallLeads f next here
  call_leads f n next On here h e =
      call_to f next here (first next) (slice_get parts f) refl refl
      (ap (λ o. option_map (λ s. Some s) (option_and_then (called (slice_get parts f) returns) o)) (sym (first_number next)) ∙ (sym (ap (λ x. leads parts returns x next On) h) ∙ e))
  call_leads f n next Left here h e = absurd (none-some here (sym (ap (λ x. leads parts returns x next Left) h) ∙ e))
  call_leads f n next Right here h e = absurd (none-some here (sym (ap (λ x. leads parts returns x next Right) h) ∙ e))
  call_leads f n next Opened here h e = absurd (none-some here (sym (ap (λ x. leads parts returns x next Opened) h) ∙ e))
  call_leads f n next Failed here h e = absurd (none-some here (sym (ap (λ x. leads parts returns x next Failed) h) ∙ e))
