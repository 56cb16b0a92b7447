-- The policy that a text spells, and the fault of one that spells none.
use Rattle.std.specs.Prelude.{◌≡◌, ◌≢◌, ◌⊎◌, ℕ, ◌+◌, ◌≤◌, List, [], codes, if◌then◌else◌, Option, Some, None, length, nat_lt, sum_by}
use Rattle.std.specs.Str.{IsUtf8}
use Rattle.toml.specs.Data.{Members}
use Rattle.toml.specs.Parse.{parse_document}
use Rattle.cw_core.specs.declared.quantity.Quantity.TheVariants.{Limits as LimitCount, Rules as RuleCount, RulePositions}
use Rattle.cw_core.specs.Quantities.{limit_of}
use Rattle.cw_rights.specs.Trees.{count}
use Rattle.cw_rights.specs.Policies.{PlainRule, PlainPolicy}
use Rattle.cw_rights.specs.Valid.{IsValid}
use Rattle.cw_policy.specs.declared.fault.PolicyFault.{PolicyFault}
use Rattle.cw_policy.specs.declared.fault.PolicyFault.TheVariants.{Toml, Limit as TooMany, NoMemory}
use Rattle.cw_policy.specs.declared.keys.Key.TheVariants.{Split, Detached, Descriptors, Limits, Ats}
use Rattle.cw_policy.specs.Form.{array_at, format_of}
use Rattle.cw_policy.specs.Names.{names_of, count as count_items, early_fault}
use Rattle.cw_policy.specs.Parts.{descriptors_in, limits_in, refuses, stops, labels_from}
use Rattle.cw_policy.specs.Rules.{rule_texts, HaveRules, FirstRefused}

-- the names of a tree's descriptors, and the labels of its tables `at`
abbrev pub descriptor_names : Members → List (List ℕ)
descriptor_names ms = names_of (array_at Descriptors ms)

abbrev pub at_labels : Members → List (List ℕ)
at_labels ms = labels_from [] (array_at Ats ms)

-- the literals of all rules, and the start
abbrev pub positions : List PlainRule → ℕ
positions rules = 1 + sum_by (λ r. count r.bad) rules

-- too many limits, rules or positions
abbrev pub quantity_fault : ℕ → List PlainRule → Option PolicyFault
quantity_fault limits rules =
    if nat_lt (limit_of LimitCount) limits then Some (TooMany LimitCount)
    else if nat_lt (limit_of RuleCount) (length rules) then Some (TooMany RuleCount)
    else if nat_lt (limit_of RulePositions) (positions rules) then Some (TooMany RulePositions)
    else None

-- the policy of a tree with these labels and rules
abbrev pub policy_with : Members → List (List ℕ) → List PlainRule → PlainPolicy
policy_with ms labels rules = record {
  descriptors = descriptors_in (format_of ms) (array_at Descriptors ms);
  limits = limits_in (format_of ms) (descriptor_names ms) (array_at Limits ms);
  refuse_limit = refuses (codes "limit") ms;
  refuse_enter = refuses (codes "enter") ms;
  refuse_split = refuses (codes "split") ms;
  split = names_of (array_at Split ms);
  labels = labels;
  rules = rules;
  stop = stops ms;
  format = format_of ms;
  detached = names_of (array_at Detached ms);
}

-- The tree is of the form and has this policy.
pub record HasPolicy (ms : Members) (policy : PlainPolicy) : Type 0 where
  pub early : early_fault ms ≡ None
  pub is : policy ≡ policy_with ms policy.labels policy.rules
  pub rules : HaveRules (format_of ms) (descriptor_names ms) (at_labels ms) (rule_texts ms) policy.rules policy.labels
  pub quantities : quantity_fault (count_items (array_at Limits ms)) policy.rules ≡ None

-- The first fault of a tree: before its rules are read, of the first rule that is refused, or of quantities.
abbrev pub IsLateFault : Members → PolicyFault → Type 0
IsLateFault ms f =
    FirstRefused (format_of ms) (descriptor_names ms) (at_labels ms) (rule_texts ms) f ⊎
    ((rules : List PlainRule) × (labels : List (List ℕ)) ×
    HaveRules (format_of ms) (descriptor_names ms) (at_labels ms) (rule_texts ms) rules labels ×
    (quantity_fault (count_items (array_at Limits ms)) rules ≡ Some f))

abbrev pub IsFaultOf : Members → PolicyFault → Type 0
IsFaultOf ms f = (early_fault ms ≡ Some f) ⊎ ((early_fault ms ≡ None) × IsLateFault ms f)

-- The text is UTF-8 and TOML, and its tree has the policy. Each list of names has as many as 16 bits can number, which
-- all texts of 65,536 bytes have.
pub record Spells (text : List ℕ) (policy : PlainPolicy) : Type 0 where
  pub utf8 : IsUtf8 text
  pub tree : Members
  pub parsed : parse_document text ≡ Some tree
  pub has : HasPolicy tree policy
  pub few_splits : length policy.split ≤ 65535
  pub few_detached : length policy.detached ≤ 65535
  pub few_labels : length policy.labels ≤ 65535

-- why a text spells no policy; want of memory may come at any time
abbrev pub IsFault : List ℕ → PolicyFault → Type 0
IsFault text Toml = IsUtf8 text → parse_document text ≡ None
IsFault text NoMemory = Unit {0}
IsFault text f = IsUtf8 text × ((tree : Members) × (parse_document text ≡ Some tree) × IsFaultOf tree f)

-- ---- laws

-- a text spells at most one policy
abbrev pub SpellsOnePolicy : Type 0
SpellsOnePolicy = (text : List ℕ) (policy other : PlainPolicy) → Spells text policy → Spells text other → policy ≡ other

-- a text that is refused, for another cause than want of memory, spells none
abbrev pub RefusedSpellsNone : Type 0
RefusedSpellsNone = (text : List ℕ) (policy : PlainPolicy) (f : PolicyFault) → Spells text policy → IsFault text f → f ≡ NoMemory

-- and it is refused by one fault
abbrev pub RefusedHasOneFault : Type 0
RefusedHasOneFault = (text : List ℕ) (f g : PolicyFault) → f ≢ NoMemory → g ≢ NoMemory → IsFault text f → IsFault text g → f ≡ g

-- a policy of format 1 detaches no function
abbrev pub FormatOneDetachesNone : Type 0
FormatOneDetachesNone = (text : List ℕ) (policy : PlainPolicy) → Spells text policy → policy.format ≡ 1 → policy.detached ≡ []

-- each policy that is spelled is valid
abbrev pub SpelledAreValid : Type 0
SpelledAreValid = (text : List ℕ) (policy : PlainPolicy) → Spells text policy → IsValid policy
