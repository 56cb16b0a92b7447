-- What each step answers, as an answer of the whole.
use Rattle.std.proofs.Common.{◌≡◌, ℕ, ◌<◌, List, ◌∷◌, length, map, ap, arith}
use Rattle.cw_rights.specs.Policies.{PlainPolicy}
use Rattle.cw_resolve.specs.Scenes.{names_of}
use Rattle.cw_syntax.specs.Plans.{plan_of}
use Rattle.cw_syntax.specs.Marks.{mark_of}
use Rattle.cw_syntax.specs.declared.marks.SeamMark.{SeamMark as Held}
use Rattle.cw_woven.specs.Reading.{seam_marks}
use Rattle.cw_woven.specs.Accepting.{HasMarks}
use Rattle.cw_woven.proofs.Few.{few_marks}
use Rattle.std.proofs.lemmas.List.{length-map}

pub few : (policy : PlainPolicy) (source : List ℕ) (marks : List Held) → HasMarks policy source (map mark_of marks) → length marks < 4294967296
few policy source marks h =
    let f = few_marks (plan_of (names_of policy) source h.0) in
    let e : length (map mark_of marks) ≡ length (seam_marks policy source h.0) = ap length h.2 in
    let l = h.1.few in
    omega (arith, f, e, l, length-map marks mark_of)
