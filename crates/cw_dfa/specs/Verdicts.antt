-- The rule that a word breaks, and how a set of positions tells it.
use Rattle.std.specs.Prelude.{ℕ, ◌+◌, ◌≤◌, List, [], ◌∷◌, cond, Option, Some, None, map}
use Rattle.cw_rights.specs.declared.policy.Rule.{Rule}
use Rattle.cw_rights.specs.declared.words.Letter.{Letter}
use Rattle.cw_rights.specs.Trees.{count}
use Rattle.cw_rights.specs.Words.{Word}
use Rattle.cw_rights.specs.Policies.{PlainRule, rule_of, Breaks}
use Rattle.cw_dfa.specs.Positions.{bad_of}
use Rattle.cw_dfa.specs.Sets.{has, ends, reads}

-- the rules that a slice of the program's rules stands for
abbrev pub rules_of : List Rule → List PlainRule
rules_of rules = map rule_of rules

-- the least rule that the word breaks
abbrev pub IsVerdict : List PlainRule → Word → Option ℕ → Type 0
IsVerdict rules w None = (i : ℕ) → Breaks rules w i → ⊥
IsVerdict rules w (Some i) = Breaks rules w i × ((j : ℕ) → Breaks rules w j → i ≤ j)

-- the first rule that may end after a literal of the set, the rules numbered from n
abbrev pub verdict : List PlainRule → ℕ → ℕ → ℕ → Option ℕ
verdict [] n k set = None
verdict (r ∷ rest) n k set = cond (ends r.bad k set) (Some n) (verdict rest (n + 1) (k + count r.bad) set)

-- the set after one letter more
abbrev pub next_of : List PlainRule → ℕ → Letter → ℕ
next_of rules set c = reads (bad_of rules) 1 (has set 0) set c

-- the set after the letters of a word
abbrev pub walk : List PlainRule → ℕ → Word → ℕ
walk rules set [] = set
walk rules set (c ∷ w) = walk rules (next_of rules set c) w
