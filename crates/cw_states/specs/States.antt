-- The states of a policy for a source: pairs of a policy state and a rights state, by number.
use Rattle.std.specs.Prelude.{◌≡◌, ℕ, zero, suc, ◌+◌, ◌*◌, ◌/◌, ◌%◌, ◌<◌, ◌≤◌, List, [], ◌++◌, Option, cond, is_some, nat_eq, length, map, position, slice_get, slice_index, slice_index_or, unwrap_or}
use Rattle.std.specs.Ordering.{eq_by_cmp, nat_cmp}
use Rattle.cw_fixpoint.specs.Closures.{Exactly, HasMore}
use Rattle.cw_core.specs.declared.quantity.Quantity.TheVariants.{ProductStates, RightsStates, PolicyStates}
use Rattle.cw_core.specs.Quantities.{limit_in, limit_of}
use Rattle.cw_rights.specs.declared.capabilities.Caps.{Caps}
use Rattle.cw_rights.specs.declared.words.Letter.{Letter}
use Rattle.cw_rights.specs.Capabilities.{applied, closed}
use Rattle.cw_rights.specs.declared.policy.Policy.{Policy}
use Rattle.cw_rights.specs.Policies.{PlainPolicy, policy_of, start_caps}
use Rattle.cw_rights.specs.Words.{Word}
use Rattle.cw_dfa.specs.Kept.{KeepsRules}
use Rattle.cw_dfa.specs.Positions.{IsSetOf}
use Rattle.cw_dfa.specs.States.{Reached}
use Rattle.cw_dfa.specs.Verdicts.{verdict, next_of}
use Rattle.cw_model.specs.Boards.{may_grant, with_opened}
use Rattle.cw_game.specs.Games.{States, letter_of}
use Rattle.cw_states.specs.declared.fault.StatesFault.{StatesFault}
use Rattle.cw_states.specs.declared.fault.StatesFault.TheVariants.{TooManyCaps, TooManyWords, TooManyStates, NoMemory}
use Rattle.cw_states.specs.declared.uses.Uses.{Uses}
use Rattle.cw_states.specs.Rights.{IsRightsState, caps_cmp}

-- the labels of the policy, and one more where the source has a label that the policy doesn't name
abbrev pub label_count : PlainPolicy → Uses → ℕ
label_count policy uses = length policy.labels + cond uses.has_other 1 0

-- each of the first labels with each rights state
abbrev pub letters_below : ℕ → List Caps → List Letter
letters_below zero rights = []
letters_below (suc label) rights = letters_below label rights ++ map (letter_of label) rights

abbrev pub letters_of : PlainPolicy → Uses → List Caps → List Letter
letters_of policy uses rights = letters_below (label_count policy uses) rights

-- A policy, with rights states and policy states in order; a policy state is a set of positions.
pub record Lists : Type 0 where
  pub policy : PlainPolicy
  pub rights : List Caps
  pub sets : List ℕ

-- the same with the policy as the program has it
pub record Held : Type 0 where
  pub policy : Policy
  pub rights : List Caps
  pub sets : List ℕ

abbrev pub lists_of : Held → Lists
lists_of h = record { policy = policy_of h.policy; rights = h.rights; sets = h.sets }

-- all rights states of the policy for what a source has, and all policy states over their letters, each once
pub record AreLists (uses : Uses) (v : Lists) : Type 0 where
  pub rights : Exactly caps_cmp (IsRightsState v.policy uses) v.rights
  pub sets : Exactly nat_cmp (Reached v.policy.rules (letters_of v.policy uses v.rights)) v.sets

-- The state of policy state i and rights state j has the number i times the count of rights states plus j.
abbrev pub pair : Lists → ℕ → ℕ → ℕ
pair v i j = i * length v.rights + j

abbrev pub count : Lists → ℕ
count v = length v.sets * length v.rights

abbrev pub set_at : Lists → ℕ → ℕ
set_at v q = slice_index v.sets (q / length v.rights)

abbrev pub caps_at : Lists → ℕ → Caps
caps_at v q = slice_index_or v.rights (q % length v.rights) (start_caps v.policy)

-- the index of a policy state and of a rights state, 0 for what is none
abbrev pub set_index : Lists → ℕ → ℕ
set_index v set = unwrap_or (position (λ x. nat_eq x set) v.sets) 0

abbrev pub caps_index : Lists → Caps → ℕ
caps_index v caps = unwrap_or (position (λ x. eq_by_cmp caps_cmp x caps) v.rights) 0

-- the state with other capabilities
abbrev pub with_caps : Lists → ℕ → Caps → ℕ
with_caps v q caps = pair v (q / length v.rights) (caps_index v caps)

-- the set of positions after a label's letter
abbrev pub set_after : Lists → ℕ → ℕ → ℕ
set_after v q label = next_of v.policy.rules (set_at v q) (letter_of label (caps_at v q))

-- the least rule that is broken after a label's letter
abbrev pub violated_in : Lists → ℕ → ℕ → Option ℕ
violated_in v q label = verdict v.policy.rules 0 1 (set_after v q label)

abbrev pub states_of : Lists → States
states_of v = record {
  count = count v;
  start = pair v (set_index v 1) (caps_index v (start_caps v.policy));
  granted = λ q a. with_caps v q (applied (caps_at v q) a);
  opened = λ q d. with_caps v q (with_opened (caps_at v q) d (slice_get v.policy.descriptors d));
  closed = λ q d. with_caps v q (closed (caps_at v q) d);
  lettered = λ q label. pair v (set_index v (set_after v q label)) (q % length v.rights);
  bad = λ q label. is_some (violated_in v q label);
  may_grant = λ q a. may_grant (caps_at v q) a;
  with_rights = λ x q. pair v (x / length v.rights) (q % length v.rights);
}

-- A state stands for a word and capabilities: no front of the word breaks a rule, and the state is the pair of the word's set of positions and
-- of the capabilities.
pub record Means (uses : Uses) (v : Lists) (q : ℕ) (w : Word) (c : Caps) : Type 0 where
  pub keeps : KeepsRules v.policy.rules (letters_of v.policy uses v.rights) w
  pub set : ℕ
  pub is_set : IsSetOf v.policy.rules w set
  pub held : IsRightsState v.policy uses c
  pub is : q ≡ pair v (set_index v set) (caps_index v c)

-- what is within the limits: rights states, policy states, and their pairs
pub record AreFew (v : Lists) : Type 0 where
  pub rights : length v.rights ≤ limit_of RightsStates
  pub sets : length v.sets ≤ limit_of PolicyStates
  pub states : count v ≤ limit_in v.policy.format ProductStates

-- why there are no states: the first of these numbers that is over its limit
abbrev pub IsCause : PlainPolicy → Uses → StatesFault → Type 0
IsCause policy uses TooManyCaps = HasMore caps_cmp (IsRightsState policy uses) (limit_of RightsStates)
IsCause policy uses TooManyWords =
    (rights : List Caps) × Exactly caps_cmp (IsRightsState policy uses) rights × (length rights ≤ limit_of RightsStates)
    × HasMore nat_cmp (Reached policy.rules (letters_of policy uses rights)) (limit_of PolicyStates)
IsCause policy uses TooManyStates =
    (v : Lists) × (v.policy ≡ policy) × AreLists uses v × (length v.rights ≤ limit_of RightsStates) × (length v.sets ≤ limit_of PolicyStates)
    × (limit_in policy.format ProductStates < count v)
IsCause policy uses NoMemory = Unit {0}
