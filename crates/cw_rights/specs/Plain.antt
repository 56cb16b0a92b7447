-- The slow way: every cut of the word is tried.
use Rattle.std.specs.Prelude.{ℕ, zero, suc, ◌+◌, ◌*◌, [], ◌∷◌, Bool, true, false, ◌&&◌, ◌||◌, take, drop, length}
use Rattle.cw_rights.specs.Words.{Word, fits}
use Rattle.cw_rights.specs.Trees.{Literal, Tree, nothing, never, one, seq, alt, star, plus, maybe}

abbrev pub is_nil : Word → Bool
is_nil [] = true
is_nil (c ∷ w) = false

abbrev pub is_letter : Literal → Word → Bool
is_letter l [] = false
is_letter l (c ∷ []) = fits l c
is_letter l (c ∷ (d ∷ w)) = false

-- some number below n passes the test
abbrev pub some_below : ℕ → (ℕ → Bool) → Bool
some_below zero f = false
some_below (suc n) f = some_below n f || f n

-- the word is at most n factors that pass the test and have a letter
abbrev pub chain : (Word → Bool) → ℕ → Word → Bool
chain p zero w = is_nil w
chain p (suc n) w = is_nil w || some_below (length w) (λ i. p (take (i + 1) w) && chain p n (drop (i + 1) w))

abbrev pub if_nil : Word → Bool → Bool → Bool
if_nil [] a b = a
if_nil (c ∷ w) a b = b

abbrev pub plain : Tree → Word → Bool
plain nothing w = is_nil w
plain never w = false
plain (one l) w = is_letter l w
plain (seq r s) w = some_below (length w + 1) (λ i. plain r (take i w) && plain s (drop i w))
plain (alt r s) w = plain r w || plain s w
plain (star r) w = chain (plain r) (length w) w
plain (plus r) w = if_nil w (plain r w) (chain (plain r) (length w) w)
plain (maybe r) w = is_nil w || plain r w

-- what the slow way may take at most, for words of n letters
abbrev pub cost : Tree → ℕ → ℕ
cost nothing n = 1
cost never n = 1
cost (one l) n = 1
cost (seq r s) n = cost r n + cost s n + 2
cost (alt r s) n = cost r n + cost s n + 2
cost (star r) n = (n + 1) * (cost r n + 2) + 1
cost (plus r) n = (n + 1) * (cost r n + 2) + 1
cost (maybe r) n = cost r n + 1
