-- No C name has a slash.
use Rattle.std.proofs.Common.{◌≡◌, ℕ, zero, suc, eqb, true, List, [], ◌∷◌, refl, sym, ap, ◌∙◌}
use Rattle.std.specs.Prelude.{codes}
use Rattle.std.specs.List.{list_all}
use Rattle.std.proofs.lemmas.Bool.{and_parts, false_from_ne_true, true≢false, eqb-true, or_left}
use Rattle.cw_rights.specs.Valid.{is_name, is_name_byte, is_name_start}
use Rattle.cw_syntax.specs.PlainMarks.{HasNone}
use Rattle.cw_lemmas.proofs.Texts.{nothing_begins}

bytes_plain : (bytes : List ℕ) → list_all is_name_byte bytes ≡ true → HasNone (codes "/") bytes
bytes_plain [] e at = nothing_begins at
bytes_plain (b ∷ bytes) e zero =
    let p = and_parts (is_name_byte b) (list_all is_name_byte bytes) e in
    false_from_ne_true _ (λ h. true≢false (sym p.0 ∙ ap is_name_byte (sym (eqb-true 47 b (and_parts (eqb 47 b) true h).0))))
bytes_plain (b ∷ bytes) e (suc at) = bytes_plain bytes (and_parts (is_name_byte b) (list_all is_name_byte bytes) e).1 at

pub name_plain : (name : List ℕ) → is_name name ≡ true → HasNone (codes "/") name
name_plain [] e = absurd (cc)
name_plain (b ∷ name) e =
    let p = and_parts (is_name_start b) (list_all is_name_byte name) e in
    let first : is_name_byte b ≡ true = or_left (is_name_start b) _ p.0 in
    bytes_plain (b ∷ name) (rw (first, p.1) refl)
