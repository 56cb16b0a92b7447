-- A text without the parts that the weaver put in: from `/*cw{*/` to the next `/*}cw*/`.
use Rattle.std.specs.Prelude.{◌≡◌, ℕ, zero, suc, nat_eq, Bool, true, false, List, [], ◌∷◌, ◌++◌, drop, if◌then◌else◌, codes}
use Rattle.std.specs.List.{starts_with}

abbrev pub opening : List ℕ
opening = codes "/*cw{*/"

abbrev pub closing : List ℕ
closing = codes "/*}cw*/"

-- a part with these bytes between both
abbrev pub part : List ℕ → List ℕ
part bytes = opening ++ (bytes ++ closing)

-- The text without each part. The number is how many bytes of an opening or a closing are still to pass, after its first;
-- the truth is whether a part is open.
unfoldable pub cut_from : ℕ → Bool → List ℕ → List ℕ
cut_from skip inside [] = []
cut_from (suc skip) inside (b ∷ bs) = cut_from skip inside bs
cut_from zero false (b ∷ bs) = if starts_with nat_eq (b ∷ bs) opening then cut_from 6 true bs else b ∷ cut_from 0 false bs
cut_from zero true (b ∷ bs) = if starts_with nat_eq (b ∷ bs) closing then cut_from 6 false bs else cut_from 0 true bs

abbrev pub cut : List ℕ → List ℕ
cut text = cut_from 0 false text
