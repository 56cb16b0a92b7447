-- No name of a descriptor of a valid policy has a slash.
use Rattle.std.proofs.Common.{◌≡◌, ℕ, zero, suc, true, false, eqb, List, [], ◌∷◌, refl, sym, ◌∙◌}
use Rattle.std.specs.Prelude.{slice_get, codes}
use Rattle.std.proofs.lemmas.Bool.{and_parts, false_from_ne_true, true≢false, eqb-true, eq-eqb}
use Rattle.std.proofs.lemmas.List.Elements.{All-head, All-tail}
use Rattle.cw_rights.specs.Policies.{PlainPolicy}
use Rattle.cw_rights.specs.Valid.{IsValid}
use Rattle.cw_text.specs.Lines.{IsFree}
use Rattle.cw_text.specs.LimitsText.{name_if}
use Rattle.cw_syntax.specs.PlainMarks.{HasNone}
use Rattle.cw_emit.specs.Woven.{ArePlainNames}
use Rattle.cw_table_text.proofs.PlainLimits.{named_free}
use Rattle.cw_lemmas.proofs.Texts.{nothing_begins}

pub none_from_free : (bytes : List ℕ) → IsFree 47 bytes → HasNone (codes "/") bytes
none_from_free [] free at = nothing_begins at
none_from_free (b ∷ bytes) free zero =
    false_from_ne_true _ (λ h. true≢false (sym (eq-eqb b 47 (sym (eqb-true 47 b (and_parts (eqb 47 b) true h).0))) ∙ All-head (λ (x : ℕ). eqb x 47 ≡ false) b bytes free))
none_from_free (b ∷ bytes) free (suc at) = none_from_free bytes (All-tail (λ (x : ℕ). eqb x 47 ≡ false) b bytes free) at

pub valid_names : (policy : PlainPolicy) → IsValid policy → ArePlainNames policy
valid_names policy valid d = none_from_free (name_if (slice_get policy.descriptors d)) (named_free 47 refl refl policy.descriptors d valid.descriptors)
