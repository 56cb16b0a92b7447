-- Truth values.
use Rattle.std.proofs.Common.{◌≡◌, ◌⊎◌, inl, inr, Bool, true, false, refl}
use Rattle.cw_lemmas.proofs.Truths.{not_both}
use Rattle.std.proofs.lemmas.Bool.{cases_Bool as which}
