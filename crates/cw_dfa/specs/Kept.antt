-- The words that keep the rules all along.
use Rattle.std.specs.Prelude.{ℕ, List, take, All, Contains}
use Rattle.cw_rights.specs.declared.words.Letter.{Letter}
use Rattle.cw_rights.specs.Words.{Word}
use Rattle.cw_rights.specs.Policies.{PlainRule, Breaks}

-- the word's letters are of these, and no front of it, the word itself included, breaks a rule
pub record KeepsRules (rules : List PlainRule) (letters : List Letter) (word : Word) : Type 0 where
  pub over : All (Contains letters) word
  pub fronts : (n rule : ℕ) → Breaks rules (take n word) rule → ⊥
