-- Working definitions: the tables of where states lead.
use Rattle.std.specs.Prelude.{◌≡◌, ℕ, zero, suc, ◌+◌, ◌<◌, List, [], ◌∷◌, ◌++◌, cond, is_some, length, map, slice_get, slice_index_or, Vec}
use Rattle.std.specs.Global.{Global}
use Rattle.cw_rights.specs.declared.capabilities.Caps.{Caps}
use Rattle.cw_rights.specs.declared.capabilities.Limit.{Limit as ALimit}
use Rattle.cw_rights.specs.declared.capabilities.Primitive.TheVariants.{Limit, Enter, Split}
use Rattle.cw_rights.specs.Capabilities.{IsDescriptorBelow, applied, closed}
use Rattle.cw_rights.specs.Policies.{PlainPolicy, start_caps}
use Rattle.cw_dfa.specs.Verdicts.{verdict}
use Rattle.cw_model.specs.Boards.{with_opened}
use Rattle.cw_states.specs.declared.acts.Act.{Act}
use Rattle.cw_states.specs.declared.acts.Act.TheVariants.{Granted, Opened, Closed}
use Rattle.cw_states.specs.declared.tables.Tables.{Tables}
use Rattle.cw_states.specs.States.{Lists, count, caps_index, set_index, set_after}

-- the first values of a function
abbrev pub tabled : {A : Type 0} → (ℕ → A) → ℕ → List A
tabled f zero = []
tabled f (suc n) = tabled f n ++ f n ∷ []

abbrev pub all_items : List (Vec ℕ Global) → List (List ℕ)
all_items columns = map (λ column. column.items) columns

-- capabilities after an act
abbrev pub after_act : PlainPolicy → Act → Caps → Caps
after_act policy (Granted a) caps = applied caps a
after_act policy (Opened d) caps = with_opened caps d (slice_get policy.descriptors d)
after_act policy (Closed d) caps = closed caps d

abbrev pub IsActBelow : ℕ → Act → Type 0
IsActBelow n (Granted a) = IsDescriptorBelow n a
IsActBelow n (Opened d) = d < n
IsActBelow n (Closed d) = d < n

-- the index of the rights state that an act makes of the one at an index
abbrev pub index_after : Lists → Act → ℕ → ℕ
index_after v act j = caps_index v (after_act v.policy act (slice_index_or v.rights j (start_caps v.policy)))

abbrev pub indices_after : Lists → Act → List ℕ
indices_after v act = tabled (index_after v act) (length v.rights)

-- the index of a policy state, 255 for a set that breaks a rule
abbrev pub index_of : Lists → ℕ → ℕ
index_of v set = cond (is_some (verdict v.policy.rules 0 1 set)) 255 (set_index v set)

-- the index of the policy state after a label's letter, 255 where it breaks a rule
abbrev pub entry : Lists → ℕ → ℕ → ℕ
entry v label q = index_of v (set_after v q label)

abbrev pub entries : Lists → ℕ → List ℕ
entries v label = tabled (entry v label) (count v)

pub record AreTables (v : Lists) (t : Tables) : Type 0 where
  pub entered : t.entered.items ≡ indices_after v (Granted Enter)
  pub split : t.split.items ≡ indices_after v (Granted Split)
  pub limited : all_items t.limited.items ≡ map (λ (limit : ALimit). indices_after v (Granted (Limit limit))) v.policy.limits
  pub opened : all_items t.opened.items ≡ tabled (λ d. indices_after v (Opened d)) (length v.policy.descriptors)
  pub closed : all_items t.closed.items ≡ tabled (λ d. indices_after v (Closed d)) (length v.policy.descriptors)
  pub lettered : all_items t.lettered.items ≡ tabled (entries v) (length v.policy.labels + 1)
