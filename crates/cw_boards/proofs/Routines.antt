-- The functions of a plan, by their numbers.
use Rattle.std.proofs.Common.{◌≡◌, ◌<◌, ◌≤◌, ℕ, zero, suc, ◌+◌, List, [], ◌∷◌, Some, None, take, map, get_or, length, refl, sym, ap, ap₂, ◌∙◌, arith}
use Rattle.std.specs.Prelude.{slice_get, option_map}
use Rattle.cw_syntax.specs.declared.program.Function.{Function}
use Rattle.cw_syntax.specs.Trees.{definition_of}
use Rattle.cw_syntax.specs.Plans.{Scene, Routine, routines_from, numbered_all, seams_all}
use Rattle.cw_syntax.specs.Frames.{Frame, Entry, End, items_of, new_frame}
use Rattle.cw_resolve.specs.Scenes.{stms_in}
use Rattle.cw_boards.specs.Held.{seams_before}

abbrev pub routine : Scene → Function → ℕ → Routine
routine s x j = record { mark = x.brace; seam = j; body = numbered_all (stms_in s x.body.items) (j + 1) }

pub routine_at : (s : Scene) (fs : List Function) (j f : ℕ) (x : Function) → f < length fs → x ≡ get_or fs f x
    → slice_get (routines_from s j (map definition_of fs)) f ≡ Some (routine s x (j + seams_before s (take f fs)))
routine_at s [] j f x l e = absurd (omega arith)
routine_at s (g ∷ fs) j zero x l e =
    let z : j ≡ j + 0 = omega arith in
    ap₂ (λ y k. Some (routine s y k)) (sym e) z
routine_at s (g ∷ fs) j (suc f) x l e =
    let n = seams_all (stms_in s g.body.items) in
    let z : j + 1 + n + seams_before s (take f fs) ≡ j + (1 + n + seams_before s (take f fs)) = omega arith in
    routine_at s fs (j + 1 + n) f x (omega arith) e ∙ ap (λ k. Some (routine s x k)) z

pub routine_none : (s : Scene) (fs : List Function) (j f : ℕ) → length fs ≤ f → slice_get (routines_from s j (map definition_of fs)) f ≡ None
routine_none s [] j f l = refl
routine_none s (g ∷ fs) j zero l = absurd (omega arith)
routine_none s (g ∷ fs) j (suc f) l = routine_none s fs (j + 1 + seams_all (stms_in s g.body.items)) f (omega arith)

pub frame_at : (s : Scene) (fs : List Function) (f seam : ℕ) (x : Function) (frame : Frame) → f < length fs → x ≡ get_or fs f x → seam ≡ seams_before s (take f fs)
    → frame ≡ Entry f seam ∷ items_of (numbered_all (stms_in s x.body.items) (seam + 1)) (End f ∷ []) → Some frame ≡ option_map (new_frame f) (slice_get (routines_from s 0 (map definition_of fs)) f)
frame_at s fs f seam x frame l e h k =
    let z : seam ≡ 0 + seams_before s (take f fs) = omega (arith, h) in
    ap Some k ∙ ap (λ j. Some (new_frame f (routine s x j))) z ∙ sym (ap (option_map (new_frame f)) (routine_at s fs 0 f x l e))
