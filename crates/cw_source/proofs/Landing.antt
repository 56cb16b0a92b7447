-- Where the rule of jumps is kept each jump stands in a loop.
use Rattle.std.proofs.Common.{◌≡◌, ℕ, zero, suc, ◌+◌, Bool, true, false, not, ◌&&◌, List, [], ◌∷◌, ◌++◌, map, Option, None, Some, slice_get, refl, subst}
use Rattle.std.specs.List.{flat_map}
use Rattle.cw_syntax.specs.Names.{Names}
use Rattle.cw_syntax.specs.Trees.{Statement, Stated, Form, Block, Declares, Evaluates, Empties, Labels, Chooses, Whiles, Does, Fors, Breaks, Continues, Returns, Perhaps, nothing}
use Rattle.cw_syntax.specs.Trees.{just, Statements, nil, cons, Definition, File}
use Rattle.cw_syntax.specs.Plans.{Scene, Action, Computes, Opens, Closes, Invokes, action_of, acting, steps_of, steps_of_form, steps_of_arm, steps_of_all, seams, seams_all}
use Rattle.cw_syntax.specs.Plans.{numbered, numbered_all, Routine, routines_from, scene_of, plan_of}
use Rattle.cw_scope.specs.Walks.{Nested, nested, nested_within, nested_arm, nested_all, body_of, every_statement}
use Rattle.cw_scope.specs.Rules.{at_if, is_jump, loose_jump}
use Rattle.cw_resolve.specs.Soonest.{sooner, soonest}
use Rattle.cw_syntax.specs.Runnable.{Lands, LandsAll}
use Rattle.cw_source.specs.Read.{ReadsAs}
use Rattle.cw_source.proofs.Kept.{jumps_kept}

-- none of these is a jump outside of loops
abbrev Clear : List Nested → Type 0
Clear [] = Unit {0}
Clear (p ∷ ps) = (loose_jump p.looped p.statement ≡ None) × Clear ps

pub neither : (a b : Option ℕ) → sooner a b ≡ None → (a ≡ None) × (b ≡ None)
neither None b e = (refl, e)
neither (Some a) None e = absurd (cc)
neither (Some a) (Some b) e = absurd (cc)

clear_of : (ps : List Nested) → soonest (map (λ p. loose_jump p.looped p.statement) ps) ≡ None → Clear ps
clear_of [] e = tt
clear_of (p ∷ ps) e =
    let both = neither (loose_jump p.looped p.statement) (soonest (map (λ q. loose_jump q.looped q.statement) ps)) e in
    (both.0, clear_of ps both.1)

split : (ps qs : List Nested) → Clear (ps ++ qs) → Clear ps × Clear qs
split [] qs h = (tt, h)
split (p ∷ ps) qs h = let both = split ps qs h.1 in ((h.0, both.0), both.1)

in_loop : (looped : Bool) (at : ℕ) → at_if (not looped) at ≡ None → looped ≡ true
in_loop true at e = refl
in_loop false at e = absurd (cc)

acting_lands : (looped : Bool) (action : Action) (at j : ℕ) → Lands looped (numbered (acting action at) j)
acting_lands looped Computes at j = tt
acting_lands looped (Opens d) at j = tt
acting_lands looped (Closes d) at j = tt
acting_lands looped (Invokes callee) at j = tt

module _ (s : Scene) where
  mutual
    lands : (looped : Bool) (st : Statement) (j : ℕ) → Clear (nested looped st) → Lands looped (numbered (steps_of s st) j)
    lands looped (Stated form from to) j h = form_lands looped form from j h.0 h.1

    form_lands : (looped : Bool) (form : Form) (at j : ℕ) → at_if (is_jump form && not looped) at ≡ None → Clear (nested_within looped form) → Lands looped (numbered (steps_of_form s at form) j)
    form_lands looped (Block ss) at j e h = all_land looped ss j h
    form_lands looped (Declares d) at j e h = tt
    form_lands looped (Evaluates t) at j e h = acting_lands looped (action_of s t) at j
    form_lands looped Empties at j e h = tt
    form_lands looped (Labels name mark body) at j e h = lands looped body (j + 1) h
    form_lands looped (Chooses test arm other) at j e h =
        let both = split (nested looped arm) (nested_arm looped other) h in
        (lands looped arm j both.0, arm_lands looped other (j + seams (steps_of s arm)) both.1)
    form_lands looped (Whiles test body) at j e h = lands true body j h
    form_lands looped (Does body test) at j e h = lands true body j h
    form_lands looped (Fors init test step body) at j e h = lands true body j h
    form_lands looped Breaks at j e h = in_loop looped at e
    form_lands looped Continues at j e h = in_loop looped at e
    form_lands looped (Returns value) at j e h = tt

    arm_lands : (looped : Bool) (arm : Perhaps) (j : ℕ) → Clear (nested_arm looped arm) → Lands looped (numbered (steps_of_arm s arm) j)
    arm_lands looped nothing j h = tt
    arm_lands looped (just arm) j h = lands looped arm j h

    all_land : (looped : Bool) (ss : Statements) (j : ℕ) → Clear (nested_all looped ss) → LandsAll looped (numbered_all (steps_of_all s ss) j)
    all_land looped nil j h = tt
    all_land looped (cons st ss) j h =
        let both = split (nested looped st) (nested_all looped ss) h in
        (lands looped st j both.0, all_land looped ss (j + seams (steps_of s st)) both.1)

  routines_land : (fs : List Definition) (j f : ℕ) (r : Routine) → Clear (flat_map body_of fs) → slice_get (routines_from s j fs) f ≡ Some r → LandsAll false r.body
  routines_land [] j f r h is = absurd (cc)
  routines_land (d ∷ ds) j zero r h is =
      let body = numbered_all (steps_of_all s d.body) (j + 1) in
      let same : record { mark = d.brace; seam = j; body = body } ≡ r = cc in
      subst (λ (z : Routine). LandsAll false z.body) same (all_land false d.body (j + 1) (split (body_of d) (flat_map body_of ds) h).0)
  routines_land (d ∷ ds) j (suc f) r h is =
      routines_land ds (j + 1 + seams_all (steps_of_all s d.body)) f r (split (body_of d) (flat_map body_of ds) h).1 is

pub jumps_land : (names : Names) (source : List ℕ) (file : File) → ReadsAs source file → (f : ℕ) (r : Routine) → slice_get (plan_of names source file).routines f ≡ Some r → LandsAll false r.body
jumps_land names source file h f r is = routines_land (scene_of names source file) file.functions 0 f r (clear_of (every_statement file) (jumps_kept source file h.scoped)) is
