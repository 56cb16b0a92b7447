-- Where a separator first stands in a text, as a search answers it.
use Rattle.std.proofs.Common.{◌≡◌, ℕ, ◌+◌, ◌-◌, false, eqb, get_or, List, ◌∷◌, ◌++◌, None, Some, length, take, drop, sym, ap, ap₂, ◌∙◌, arith, length-take, length-drop}
use Rattle.std.proofs.lemmas.Bool.{eqb-true, false_from_ne_true}
use Rattle.std.proofs.lemmas.List.{take-append-drop, take_all, get_or-take, drop_more}
use Rattle.std.proofs.lemmas.List.Elements.{All-from_get_or}
use Rattle.memchr.specs.Find.{IsFirstByte, is_byte}
use Rattle.cw_text.specs.Lines.{IsFree}

pub free_before : (separator : ℕ) (text : List ℕ) (k : ℕ) → IsFirstByte (is_byte separator) text (Some k) → IsFree separator (take k text)
free_before separator text k found =
    All-from_get_or (λ (byte : ℕ). eqb byte separator ≡ false) (take k text) 0 (λ i within.
    rw (get_or-take k text i 0 (omega (arith, within, length-take k text))) (false_from_ne_true _ (found.0.before i (omega arith) (omega (arith, within, length-take k text)))))

pub free_throughout : (separator : ℕ) (text : List ℕ) → IsFirstByte (is_byte separator) text None → IsFree separator text
free_throughout separator text nowhere = All-from_get_or (λ (byte : ℕ). eqb byte separator ≡ false) text 0 (λ i within. false_from_ne_true _ (nowhere i (omega arith) within))

whole : (xs : List ℕ) (n : ℕ) → length xs ≡ n → take n xs ≡ xs
whole xs n e = take_all n xs (omega (arith, e))

-- what stands before it, the separator, and what stands behind it are the text
pub parts : (separator : ℕ) (text : List ℕ) (k : ℕ) → IsFirstByte (is_byte separator) text (Some k) → text ≡ take k text ++ (separator ∷ take (length text - (k + 1)) (drop (k + 1) text))
parts separator text k found =
    let behind : drop k text ≡ get_or text k 0 ∷ drop (k + 1) text = drop_more text k 0 found.0.high in
    let is : get_or text k 0 ≡ separator = eqb-true (get_or text k 0) separator found.1 in
    let rest : take (length text - (k + 1)) (drop (k + 1) text) ≡ drop (k + 1) text = whole (drop (k + 1) text) (length text - (k + 1)) (length-drop (k + 1) text) in
    sym (take-append-drop k text) ∙ ap (λ (z : List ℕ). take k text ++ z) (behind ∙ ap₂ (λ (b : ℕ) (z : List ℕ). b ∷ z) is (sym rest))
