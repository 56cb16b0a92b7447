-- Truth values.
use Rattle.std.proofs.Common.{◌≡◌, ◌⊎◌, inl, inr, Bool, true, false, ◌&&◌, ◌||◌, refl}
use Rattle.std.proofs.lemmas.Bool.{and_from as and_both, or_cases, or_left, or_right}
use Rattle.cw_lemmas.proofs.Truths.{and_first as and_left, and_second as and_right}
