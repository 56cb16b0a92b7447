-- Numbers and sets that stand in a text, for whoever reads and writes them.
use Rattle.std.proofs.Common.{◌≡◌, ℕ, ◌+◌, ◌^◌, ◌<◌, Bool, true, List, [], ◌∷◌, ◌++◌, length, take, drop, refl, sym, ap, ◌∙◌, append-nil}
use Rattle.std.specs.Char.{is_ascii_digit}
use Rattle.std.specs.Fmt.{decimal}
use Rattle.std.specs.List.{take_while, list_all}
use Rattle.std.specs.Str.Parse.{AllDigits}
use Rattle.std.proofs.Math.Seq.{drop-append_seam}
use Rattle.std.proofs.lemmas.Bool.{le-leb}
use Rattle.std.proofs.lemmas.Fmt.{digits_decimal, decimal_injective}
use Rattle.std.proofs.lemmas.List.{drop-drop}
use Rattle.std.proofs.lemmas.List.Sums.{take_while-cons}
use Rattle.std.proofs.lemmas.Str.Parse.{digit_from_value}
use Rattle.cw_core.specs.Numerals.{is_hexadecimal_digit, hexadecimal, hexadecimal_digits, IsDecimalAt, IsSetAt}
use Rattle.cw_core.specs.StateSet.{IsBelow}
use Rattle.cw_core.proofs.Decimals.{own}
use Rattle.std.proofs.lemmas.Bool.{and_parts as both_from_and}
use Rattle.cw_core.proofs.Hexadecimals.{hexadecimal_digits_are_digits, same_from_digits}
use Rattle.cw_core.proofs.Texts.{prefix_and_run, set_at}

-- ---- the longest run at the front

take_while-append : (p : ℕ → Bool) (xs ys : List ℕ) → list_all p xs ≡ true → take_while p (xs ++ ys) ≡ xs ++ take_while p ys
take_while-append p [] ys all = refl
take_while-append p (x ∷ xs) ys all =
    let each = both_from_and (p x) (list_all p xs) all in
    rw (take_while-cons p x (xs ++ ys), each.0) (ap (λ (zs : List ℕ). x ∷ zs) (take_while-append p xs ys each.1))

-- what a spelling with the front and the run of digits leaves
pub run-append : (p : ℕ → Bool) (ds rest : List ℕ) → list_all p ds ≡ true → take_while p rest ≡ [] → ds ≡ take_while p (ds ++ rest)
run-append p ds rest all stops = sym (take_while-append p ds rest all ∙ ap (λ (zs : List ℕ). ds ++ zs) stops ∙ append-nil ds)

pub decimal_has_digits : (n : ℕ) → n < 2 ^ 64 → list_all is_ascii_digit (decimal n) ≡ true
decimal_has_digits n small = from_all (decimal n) (digits_decimal own n small)
  where
    from_all : (ds : List ℕ) → AllDigits 10 ds → list_all is_ascii_digit ds ≡ true
    from_all [] all = refl
    from_all (d ∷ ds) all = let r = digit_from_value d all.0 in rw (le-leb 48 d r.0, le-leb d 57 r.1, from_all ds all.1) refl

-- ---- numbers

-- a decimal with no digit after it stands there
pub decimal_at : (text : List ℕ) (at number : ℕ) (rest : List ℕ) → number < 2 ^ 64 → drop at text ≡ decimal number ++ rest → take_while is_ascii_digit rest ≡ [] → IsDecimalAt text at number
decimal_at text at number rest small e stops = record {
  small = small;
  spelled = run-append is_ascii_digit (decimal number) rest (decimal_has_digits number small) stops ∙ ap (take_while is_ascii_digit) (sym e);
}

-- one number stands at a place
pub one_decimal : (text : List ℕ) (at m n : ℕ) → IsDecimalAt text at m → IsDecimalAt text at n → m ≡ n
one_decimal text at m n p q = decimal_injective m n p.small q.small (p.spelled ∙ sym q.spelled)

pub decimal_within : (before after : List ℕ) (number : ℕ) → number < 2 ^ 64 → take_while is_ascii_digit after ≡ [] → IsDecimalAt (before ++ (decimal number ++ after)) (length before) number
decimal_within before after number small stops = decimal_at (before ++ (decimal number ++ after)) (length before) number after small (drop-append_seam before (decimal number ++ after)) stops

-- ---- sets

pub set_at_text : (text : List ℕ) (at set : ℕ) (rest : List ℕ) → IsBelow 1024 set → drop at text ≡ hexadecimal set ++ rest → take_while is_hexadecimal_digit rest ≡ [] → IsSetAt text at set
unfolding hexadecimal
set_at_text text at set rest small e stops =
    let later : drop (at + 2) text ≡ hexadecimal_digits set ++ rest = sym (drop-drop 2 at text) ∙ ap (drop 2) e in
    set_at text at set (hexadecimal_digits set) (ap (take 2) e) (run-append is_hexadecimal_digit (hexadecimal_digits set) rest (hexadecimal_digits_are_digits set) stops ∙ ap (take_while is_hexadecimal_digit) (sym later)) refl small

-- one set stands at a place
pub one_set : (text : List ℕ) (at m n : ℕ) → IsSetAt text at m → IsSetAt text at n → m ≡ n
one_set text at m n p q = same_from_digits m n ((prefix_and_run text at m p).1 ∙ sym (prefix_and_run text at n q).1)

pub set_within : (before after : List ℕ) (set : ℕ) → IsBelow 1024 set → take_while is_hexadecimal_digit after ≡ [] → IsSetAt (before ++ (hexadecimal set ++ after)) (length before) set
set_within before after set small stops = set_at_text (before ++ (hexadecimal set ++ after)) (length before) set after small (drop-append_seam before (hexadecimal set ++ after)) stops
