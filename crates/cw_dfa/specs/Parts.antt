-- Working definitions: what is read off an expression and off all rules in one pass.
use Rattle.std.specs.Prelude.{◌≡◌, ℕ, ◌+◌, ◌<◌, ◌≤◌, List, length, take, slice_index}
use Rattle.cw_core.specs.Quantities.{limit_of}
use Rattle.cw_core.specs.declared.quantity.Quantity.TheVariants.{Rules, RulePositions}
use Rattle.cw_rights.specs.declared.policy.Rule.{Rule}
use Rattle.cw_rights.specs.Trees.{Tree, count}
use Rattle.cw_dfa.specs.declared.tables.Part.{Part}
use Rattle.cw_rights.specs.Policies.{PlainRule}
use Rattle.cw_dfa.specs.declared.tables.Tables.{Tables}
use Rattle.cw_dfa.specs.Positions.{bad_of}
use Rattle.cw_dfa.specs.Verdicts.{rules_of}
use Rattle.cw_dfa.specs.Sets.{skips}
use Rattle.cw_dfa.specs.Tables.{firsts, lasts, followers, lasts_of}

pub record IsPart (r : Tree) (k : ℕ) (p : Part) : Type 0 where
  pub next : p.next ≡ k + count r
  pub skips : p.skips ≡ skips r
  pub first : p.first ≡ firsts r k
  pub last : p.last ≡ lasts r k

pub record IsTables (rules : List PlainRule) (t : Tables) : Type 0 where
  pub first : t.first ≡ firsts (bad_of rules) 1
  pub follow : (p : ℕ) → p < limit_of RulePositions → slice_index t.follow p ≡ followers (bad_of rules) 1 p
  pub last : take (length rules) t.last ≡ lasts_of rules 1

-- what a value of `Rules` keeps
pub record IsReady (rules : List Rule) (t : Tables) : Type 0 where
  pub room : count (bad_of (rules_of rules)) < limit_of RulePositions
  pub few : length rules ≤ limit_of Rules
  pub tables : IsTables (rules_of rules) t
