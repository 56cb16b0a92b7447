-- Policies as plain data, the words that they call bad, and what they say of primitives.
use Rattle.std.specs.Prelude.{◌≡◌, ℕ, List, [], ◌∷◌, ◌++◌, map, Bool, true, Option, Some, None, slice_get, cond}
use Rattle.cw_rights.specs.declared.capabilities.Rights.{Rights}
use Rattle.cw_rights.specs.declared.capabilities.Hold.{Hold}
use Rattle.cw_rights.specs.declared.capabilities.Hold.TheVariants.{Closed, Open}
use Rattle.cw_rights.specs.declared.capabilities.Caps.{Caps}
use Rattle.cw_rights.specs.declared.capabilities.Limit.{Limit as ALimit}
use Rattle.cw_rights.specs.declared.capabilities.Primitive.{Primitive}
use Rattle.cw_rights.specs.declared.capabilities.Primitive.TheVariants.{Limit, Enter, Split}
use Rattle.cw_rights.specs.declared.policy.Descriptor.{Descriptor}
use Rattle.cw_rights.specs.declared.policy.Rule.{Rule}
use Rattle.cw_rights.specs.declared.policy.Policy.{Policy}
use Rattle.cw_rights.specs.Trees.{Tree, tree_of}
use Rattle.cw_rights.specs.Words.{Word, Matches}

-- A descriptor: its name, its number where it is open at the start, and the rights with which it is open.
pub record PlainDescriptor : Type 0 where
  pub name : List ℕ
  pub number : Option ℕ
  pub rights : Rights

-- A rule: its name, and the expression of the words that are bad.
pub record PlainRule : Type 0 where
  pub name : List ℕ
  pub bad : Tree

-- A policy: its descriptors and its limits, by number; which kinds of primitive may be refused; the functions that are split; the labels that it
-- names, by number; the rules; whether a refusal may be answered by a stop; the format, 1 or 2; the functions that are detached.
pub record PlainPolicy : Type 0 where
  pub descriptors : List PlainDescriptor
  pub limits : List ALimit
  pub refuse_limit : Bool
  pub refuse_enter : Bool
  pub refuse_split : Bool
  pub split : List (List ℕ)
  pub labels : List (List ℕ)
  pub rules : List PlainRule
  pub stop : Bool
  pub format : ℕ
  pub detached : List (List ℕ)

-- what the program's data stand for
abbrev pub descriptor_of : Descriptor → PlainDescriptor
descriptor_of d = record { name = d.name.items; number = d.number; rights = d.rights }

abbrev pub rule_of : Rule → PlainRule
rule_of r = record { name = r.name.items; bad = tree_of r.bad }

abbrev pub policy_of : Policy → PlainPolicy
policy_of p = record {
  descriptors = map descriptor_of p.descriptors.items;
  limits = p.limits.items;
  refuse_limit = p.refuse_limit;
  refuse_enter = p.refuse_enter;
  refuse_split = p.refuse_split;
  split = map (λ name. name.items) p.split.items;
  labels = map (λ name. name.items) p.labels.items;
  rules = map rule_of p.rules.items;
  stop = p.stop;
  format = p.format;
  detached = map (λ name. name.items) p.detached.items;
}

-- the word isn't empty, and the rule with this number matches it whole
abbrev pub Breaks : List PlainRule → Word → ℕ → Type 0
Breaks rules word i = (word ≡ [] → ⊥) × (r : PlainRule) × (slice_get rules i ≡ Some r) × Matches r.bad word

-- a word is bad where it isn't empty and some rule matches it whole
abbrev pub IsBad : PlainPolicy → Word → Type 0
IsBad policy word = (i : ℕ) × Breaks policy.rules word i

-- whether the policy lets a primitive of this kind be refused
abbrev pub is_refusable : PlainPolicy → Primitive → Bool
is_refusable policy (Limit limit) = policy.refuse_limit
is_refusable policy Enter = policy.refuse_enter
is_refusable policy Split = policy.refuse_split

-- what is tried or skipped at an entry, a label or a call: the limits in the policy's order, then enter, then, where
-- the seam is a call of a function that the policy splits, split
abbrev pub primitives : PlainPolicy → Bool → List Primitive
primitives policy is_split = map (λ limit. Limit limit) policy.limits ++ Enter ∷ cond is_split (Split ∷ []) []

-- what is held of a descriptor at the start: a number is open with its rights, all else is closed
abbrev pub number_hold : Option ℕ → Rights → Hold
number_hold None rights = Closed
number_hold (Some n) rights = Open rights

abbrev pub start_hold : Option PlainDescriptor → Hold
start_hold None = Closed
start_hold (Some d) = number_hold d.number d.rights

abbrev pub start_caps : PlainPolicy → Caps
start_caps policy = record {
  amb = true;
  holds = map (λ i. start_hold (slice_get policy.descriptors i)) (0 ∷ 1 ∷ 2 ∷ 3 ∷ 4 ∷ 5 ∷ 6 ∷ 7 ∷ []);
}
