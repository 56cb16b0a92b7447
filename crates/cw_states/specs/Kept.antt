-- Working definitions: what a value of `States` keeps.
use Rattle.std.specs.Prelude.{◌≡◌, ℕ, List, Bool, ◌&&◌, nat_eq}
use Rattle.cw_rights.specs.declared.capabilities.Limit.{Limit as ALimit}
use Rattle.cw_rights.specs.declared.policy.Policy.{Policy}
use Rattle.cw_rights.specs.declared.policy.Rule.{Rule}
use Rattle.cw_rights.specs.Policies.{policy_of}
use Rattle.cw_rights.specs.Valid.{IsValid}
use Rattle.cw_dfa.specs.States.{AreMany}
use Rattle.cw_rights.specs.Policies.{PlainRule}
use Rattle.cw_states.specs.declared.fault.StatesFault.{StatesFault}
use Rattle.cw_states.specs.declared.fault.StatesFault.TheVariants.{TooManyCaps, TooManyWords, TooManyStates, NoMemory}
use Rattle.cw_states.specs.declared.order.Ranked.{Ranked}
use Rattle.cw_states.specs.Growing.{all_caps}
use Rattle.cw_states.specs.States.{Held, lists_of, AreFew}

abbrev pub held : Policy → List Ranked → List ℕ → Held
held policy rights sets = record { policy = policy; rights = all_caps rights; sets = sets }

pub record IsKept (h : Held) (rules : List Rule) : Type 0 where
  pub valid : IsValid (policy_of h.policy)
  pub few : AreFew (lists_of h)
  pub same : rules ≡ h.policy.rules.items

-- why there are no policy states over letters that have these masks
abbrev pub IsManyWords : List PlainRule → List ℕ → StatesFault → Type 0
IsManyWords rules masks NoMemory = Unit {0}
IsManyWords rules masks TooManyWords = AreMany rules masks
IsManyWords rules masks TooManyCaps = ⊥
IsManyWords rules masks TooManyStates = ⊥

-- whether it is this limit
abbrev pub is_limit : ALimit → ALimit → Bool
is_limit limit x = nat_eq x.descriptor limit.descriptor && nat_eq x.keep.0 limit.keep.0
