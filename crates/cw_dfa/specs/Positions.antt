-- Which literal a way of reading a word reads last: the positions of an expression (Glushkov 1961).
use Rattle.std.specs.Prelude.{◌≡◌, ◌⊎◌, ℕ, ◌+◌, List, [], ◌∷◌, ◌++◌, true}
use Rattle.cw_rights.specs.Trees.{Tree, nothing, never, one, seq, alt, star, plus, maybe, count}
use Rattle.cw_rights.specs.Words.{Word, Matches}
use Rattle.cw_rights.specs.Policies.{PlainRule}
use Rattle.cw_dfa.specs.Sets.{has}

-- some way of reading the word through the expression, whose first literal has the number k, reads literal p last;
-- nothing is asked of what the word goes on with
abbrev pub Reads : Tree → ℕ → Word → ℕ → Type 0
Reads nothing k w p = ⊥
Reads never k w p = ⊥
Reads (one l) k w p = (p ≡ k) × Matches (one l) w
Reads (seq r s) k w p = Reads r k w p ⊎ ((u : Word) × (v : Word) × (w ≡ u ++ v) × Matches r u × Reads s (k + count r) v p)
Reads (alt r s) k w p = Reads r k w p ⊎ Reads s (k + count r) w p
Reads (star r) k w p = (u : Word) × (v : Word) × (w ≡ u ++ v) × Matches (star r) u × Reads r k v p
Reads (plus r) k w p = (u : Word) × (v : Word) × (w ≡ u ++ v) × Matches (star r) u × Reads r k v p
Reads (maybe r) k w p = Reads r k w p

-- all rules as one expression
abbrev pub bad_of : List PlainRule → Tree
bad_of [] = never
bad_of (r ∷ rest) = alt r.bad (bad_of rest)

-- the set of a word: 0 for the empty word, and each literal that some way of reading it through its rule reads last,
-- where the literals of all rules are numbered from 1
abbrev pub IsSetOf : List PlainRule → Word → ℕ → Type 0
IsSetOf rules w set = (p : ℕ) → (has set p ≡ true → ((p ≡ 0) × (w ≡ [])) ⊎ Reads (bad_of rules) 1 w p) × (((p ≡ 0) × (w ≡ [])) ⊎ Reads (bad_of rules) 1 w p → has set p ≡ true)
