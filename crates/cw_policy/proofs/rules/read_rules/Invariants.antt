use Rattle.std.proofs.Common.{◌≤◌, List, ◌++◌, ℕ, map, drop}
use Rattle.indexmap.specs.IndexSet.{index_set_len}
use Rattle.cw_rights.specs.Policies.{PlainRule, rule_of}
use Rattle.cw_regex.specs.Labels.{names_in}
use Rattle.cw_regex.specs.Meaning.{names_of}
use Rattle.cw_policy.specs.declared.fault.PolicyFault.{PolicyFault}
use Rattle.cw_policy.specs.Rules.{HaveRules, FirstRefused}
use Rattle.cw_policy.specs.Sources.{text_of}
use Rattle.cw_policy.proofs.rules.read_rules.Given as goal

-- what holds of the texts that are left, from the labels so far on, holds of all
abbrev pub invariant-sources : goal.invariant-sources
invariant-sources l =
    ((more : List PlainRule) (after : List (List ℕ)) → HaveRules l.format (names_of l.descriptors) (names_in l.labels.keys) (map text_of (drop l.source-index l.sources)) more after
    → HaveRules l.format (names_of l.descriptors) (names_in l.initial.labels.keys) (map text_of l.sources) (map rule_of l.rules.items ++ more) after) ×
    ((f : PolicyFault) → FirstRefused l.format (names_of l.descriptors) (names_in l.labels.keys) (map text_of (drop l.source-index l.sources)) f
    → FirstRefused l.format (names_of l.descriptors) (names_in l.initial.labels.keys) (map text_of l.sources) f) ×
    (index_set_len l.labels ≤ 65535)
