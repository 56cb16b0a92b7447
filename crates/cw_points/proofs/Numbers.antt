-- The number of a name in a list, or the length of the list.
use Rattle.std.proofs.Common.{◌≡◌, ◌+◌, ◌≤◌, ℕ, suc, List, [], ◌∷◌, Bool, true, false, cond, not, Some, None, length, refl, ap, ◌∙◌, arith}
use Rattle.std.proofs.lemmas.Bool.{ltb-false}
use Rattle.std.specs.Prelude.{nat_lt}
use Rattle.std.specs.List.{position_or_len}
use Rattle.std.specs.Option.{unwrap_or}
use Rattle.std.specs.Str.{bytes_eq}
use Rattle.cw_syntax.specs.Names.{number_in, number_or_other}

inside : {X : Type 0} (p : X → Bool) (xs : List X) → position_or_len p xs ≤ length xs
inside p [] = omega arith
inside p (x ∷ xs) = by (not (p x)) (inside p xs)
  where
    by : {a b : ℕ} (t : Bool) → a ≤ b → cond t (1 + a) 0 ≤ suc b
    by true e = omega (arith, e)
    by false e = omega arith

situated_at : (n l : ℕ) → n ≤ l → unwrap_or (cond (nat_lt n l) (Some n) None) l ≡ n
situated_at n l h = by (nat_lt n l) refl
  where
    by : (t : Bool) → nat_lt n l ≡ t → unwrap_or (cond t (Some n) None) l ≡ n
    by true e = refl
    by false e = omega (arith, ltb-false n l e, h)

pub number_or_length : (names : List (List ℕ)) (name : List ℕ) (l : ℕ) → l ≡ length names → unwrap_or (number_in names name) l ≡ number_or_other names name
number_or_length names name l e =
    ap (unwrap_or (number_in names name)) e ∙ situated_at (position_or_len (bytes_eq name) names) (length names) (inside (bytes_eq name) names)
