-- Where a text has the spelling of a set.
use Rattle.std.proofs.Common.{◌≡◌, ◌≢◌, ℕ, ◌+◌, Bool, true, false, cond, List, [], ◌∷◌, ◌++◌, length, get_or, take, drop, refl, sym, ap, ◌∙◌, arith}
use Rattle.std.specs.List.{take_while, list_all}
use Rattle.std.specs.Prelude.{codes}
use Rattle.std.proofs.lemmas.List.{drop-drop}
use Rattle.std.proofs.lemmas.List.Sums.{take_while-cons}
use Rattle.cw_core.specs.Numerals.{is_hexadecimal_digit, hexadecimal, hexadecimal_digits, IsSetAt}
use Rattle.cw_core.specs.StateSet.{IsBelow}
use Rattle.cw_core.proofs.Hexadecimals.{same_from_digits}
use Rattle.cw_lemmas.proofs.Lists.{all_taken as list_all-take_while}

-- the two bytes and the run of a spelling
two_bytes : (p : ℕ → Bool) (bs ds : List ℕ) → codes "0x" ++ ds ≡ take 2 bs ++ take_while p (drop 2 bs) → (take 2 bs ≡ codes "0x") × (ds ≡ take_while p (drop 2 bs))
two_bytes p [] ds e = absurd (cc)
two_bytes p (x ∷ []) ds e = absurd (omega (arith, ap length e))
two_bytes p (x ∷ y ∷ bs) ds e =
    let first : 48 ≡ x = ap (λ (z : List ℕ). get_or z 0 0) e in
    let second : 120 ≡ y = ap (λ (z : List ℕ). get_or z 1 0) e in
    (rw (← first, ← second) refl, ap (drop 2) e)

pub prefix_and_run : (text : List ℕ) (at set : ℕ) → IsSetAt text at set → (take 2 (drop at text) ≡ codes "0x") × (hexadecimal_digits set ≡ take_while is_hexadecimal_digit (drop (at + 2) text))
unfolding hexadecimal
prefix_and_run text at set h =
    let two : drop 2 (drop at text) ≡ drop (at + 2) text = drop-drop 2 at text in
    let p = two_bytes is_hexadecimal_digit (drop at text) (hexadecimal_digits set) (rw two h.spelled) in
    (p.0, p.1 ∙ ap (take_while is_hexadecimal_digit) two)

pub set_at : (text : List ℕ) (at set : ℕ) (run : List ℕ) → take 2 (drop at text) ≡ codes "0x" → run ≡ take_while is_hexadecimal_digit (drop (at + 2) text) → hexadecimal_digits set ≡ run → IsBelow 1024 set → IsSetAt text at set
unfolding hexadecimal
set_at text at set run prefix is e small = record {
  small = small;
  spelled = rw (prefix, e, is) refl;
}

pub hexadecimal-parts : (n : ℕ) → hexadecimal n ≡ codes "0x" ++ hexadecimal_digits n
unfolding hexadecimal
hexadecimal-parts n = refl

pub length-hexadecimal : (set : ℕ) → length (hexadecimal set) ≡ 2 + length (hexadecimal_digits set)
unfolding hexadecimal
length-hexadecimal set = omega arith

pub end_of : (at set : ℕ) (run : List ℕ) → hexadecimal_digits set ≡ run → at + 2 + length run ≡ at + length (hexadecimal set)
end_of at set run e = omega (arith, length-hexadecimal set, ap length e)

-- the set that was read of a run is the one that stands there
pub same_set : (text : List ℕ) (at read set : ℕ) (run : List ℕ) → run ≡ take_while is_hexadecimal_digit (drop (at + 2) text) → hexadecimal_digits read ≡ run → IsSetAt text at set → read ≡ set
same_set text at read set run is e h = same_from_digits read set (e ∙ is ∙ sym (prefix_and_run text at set h).1)

pub no_prefix : (text : List ℕ) (at : ℕ) → take 2 (drop at text) ≢ codes "0x" → (set : ℕ) → IsSetAt text at set → ⊥
no_prefix text at differs set h = differs (prefix_and_run text at set h).0

pub no_set : (text : List ℕ) (at : ℕ) (run : List ℕ) → run ≡ take_while is_hexadecimal_digit (drop (at + 2) text) → ((set : ℕ) → IsBelow 1024 set → hexadecimal_digits set ≢ run) → (set : ℕ) → IsSetAt text at set → ⊥
no_set text at run is differs set h = differs set h.small ((prefix_and_run text at set h).1 ∙ sym is)
