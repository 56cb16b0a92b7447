-- A program's graph and a policy have one answer to whether their game is over one of its numbers; and under a policy that allows more product states
-- it is the same, but where these are over their number under the other.
use Rattle.std.proofs.Common.{◌≡◌, ◌≢◌, ◌⊎◌, inl, inr, ℕ, ◌*◌, ◌<◌, ◌≤◌, List, length, refl, sym, ap₂, ◌∙◌, subst, arith, lt_of_lt_of_le}
use Rattle.std.specs.Prelude.{Bool}
use Rattle.std.specs.Ordering.{nat_cmp}
use Rattle.std.proofs.lemmas.Cmp.{nat_cmp_total}
use Rattle.cw_core.specs.Quantities.{limit_in}
use Rattle.cw_core.specs.declared.quantity.Quantity.TheVariants.{ProductStates}
use Rattle.cw_rights.specs.declared.capabilities.Caps.{Caps}
use Rattle.cw_rights.specs.Policies.{PlainPolicy, policy_of}
use Rattle.cw_fixpoint.specs.Closures.{Exactly, HasMore}
use Rattle.cw_dfa.specs.States.{Reached}
use Rattle.cw_points.specs.declared.graph.Graph.{Graph}
use Rattle.cw_points.specs.declared.graph.Node.{Node}
use Rattle.cw_points.specs.declared.graph.Part.{Part}
use Rattle.cw_positions.specs.Positions.{spots, spots_in}
use Rattle.cw_states.specs.declared.uses.Uses.{Uses}
use Rattle.cw_states.specs.Rights.{IsRightsState, caps_cmp}
use Rattle.cw_states.specs.States.{Lists, AreLists, count, letters_of, lists_of}
use Rattle.cw_states.proofs.Ordered.{caps_total}
use Rattle.cw_product.specs.declared.fault.GameFault.{GameFault}
use Rattle.cw_product.specs.declared.fault.GameFault.TheVariants.{TooManyCaps, TooManyWords, TooManyStates, TooManyPositions, NoMemory}
use Rattle.cw_product.specs.Product.{Held, IsCause}
use Rattle.cw_product.specs.Uses.{uses_of}
use Rattle.cw_product.specs.Made.{IsMade}
use Rattle.cw_lazy_table.proofs.Sameness.{one}
use Rattle.cw_lemmas.proofs.Numbers.{lt_not_le}
use Rattle.cw_consequences.specs.Unrefused.{varied}
use Rattle.cw_consequences.proofs.Listed.{rights_forth, rights_back, spots_same}
use Rattle.cw_consequences.proofs.Rowed.{exactly}
use Rattle.cw_stages.specs.Games.{IsGame}
use Rattle.cw_stages.proofs.OneGame.{AreAlike, no_more}

-- the rights states and the policy states of a policy, within their numbers
pub record AreListed (p : PlainPolicy) (uses : Uses) (rs : List Caps) (xs : List ℕ) : Type 0 where
  pub rights : Exactly caps_cmp (IsRightsState p uses) rs
  pub sets : Exactly nat_cmp (Reached p.rules (letters_of p uses rs)) xs
  pub few_rights : length rs ≤ 128
  pub few_sets : length xs ≤ 64

-- why there is no game at so many positions, where so many product states are allowed
abbrev pub Comes : PlainPolicy → Uses → (positions allowed : ℕ) → GameFault → Type 0
Comes p uses positions allowed TooManyCaps = HasMore caps_cmp (IsRightsState p uses) 128
Comes p uses positions allowed TooManyWords =
    (rights : List Caps) × Exactly caps_cmp (IsRightsState p uses) rights × (length rights ≤ 128)
    × HasMore nat_cmp (Reached p.rules (letters_of p uses rights)) 64
Comes p uses positions allowed TooManyStates = (rights : List Caps) × (sets : List ℕ) × AreListed p uses rights sets × (allowed < length sets * length rights)
Comes p uses positions allowed TooManyPositions =
    (rights : List Caps) × (sets : List ℕ) × AreListed p uses rights sets × (length sets * length rights ≤ allowed)
    × (1048576 < positions * (length sets * length rights))
Comes p uses positions allowed NoMemory = ⊥

-- and that there is one
abbrev pub HasGame : PlainPolicy → Uses → (positions allowed : ℕ) → Type 0
HasGame p uses positions allowed =
    (rights : List Caps) × (sets : List ℕ) × AreListed p uses rights sets × (length sets * length rights ≤ allowed)
    × (positions * (length sets * length rights) ≤ 1048576)

module _ (p : PlainPolicy) (uses : Uses) (positions : ℕ) where
  one_rights : (rs us : List Caps) → Exactly caps_cmp (IsRightsState p uses) rs → Exactly caps_cmp (IsRightsState p uses) us → rs ≡ us
  one_rights rs us a b = one caps_cmp caps_total (IsRightsState p uses) rs us a b

  one_count : (rs us : List Caps) (xs ys : List ℕ) → AreListed p uses rs xs → AreListed p uses us ys → length xs * length rs ≡ length ys * length us
  one_count rs us xs ys a b =
      let same : rs ≡ us = one_rights rs us a.rights b.rights in
      let sets : xs ≡ ys =
      one nat_cmp nat_cmp_total (Reached p.rules (letters_of p uses us)) xs ys
      (subst (λ (cs : List Caps). Exactly nat_cmp (Reached p.rules (letters_of p uses cs)) xs) same a.sets) b.sets in
      ap₂ (λ (l : List ℕ) (cs : List Caps). length l * length cs) sets same

  never_caps : (rs : List Caps) → HasMore caps_cmp (IsRightsState p uses) 128 → Exactly caps_cmp (IsRightsState p uses) rs → length rs ≤ 128 → ⊥
  never_caps rs more a few = let lt = no_more caps_cmp caps_total (IsRightsState p uses) rs 128 a more in omega (arith, lt, few)

  never_words : (us rs : List Caps) (xs : List ℕ) → Exactly caps_cmp (IsRightsState p uses) us → HasMore nat_cmp (Reached p.rules (letters_of p uses us)) 64 → AreListed p uses rs xs → ⊥
  never_words us rs xs a more b =
      let same : us ≡ rs = one_rights us rs a b.rights in
      let own = subst (λ (cs : List Caps). HasMore nat_cmp (Reached p.rules (letters_of p uses cs)) 64) same more in
      let lt = no_more nat_cmp nat_cmp_total (Reached p.rules (letters_of p uses rs)) xs 64 b.sets own in
      let few = b.few_sets in
      omega (arith, lt, few)

  -- so many product states are over a number and within another
  between : (rs us : List Caps) (xs ys : List ℕ) (allowed more : ℕ) → AreListed p uses rs xs → AreListed p uses us ys
      → allowed < length xs * length rs → length ys * length us ≤ more → allowed < more
  between rs us xs ys allowed more a b lt le =
      let gt : allowed < length ys * length us = subst (λ n. allowed < n) (one_count rs us xs ys a b) lt in
      lt_of_lt_of_le gt le

  unbetween : (rs us : List Caps) (xs ys : List ℕ) (allowed more : ℕ) → AreListed p uses rs xs → AreListed p uses us ys
      → length xs * length rs ≤ allowed → more < length ys * length us → allowed ≤ more → ⊥
  unbetween rs us xs ys allowed more a b le gt wide =
      let lt : more < allowed = between us rs ys xs more allowed b a gt le in
      omega (arith, lt, wide)

  never_positions : (rs us : List Caps) (xs ys : List ℕ) → AreListed p uses rs xs → AreListed p uses us ys
      → 1048576 < positions * (length xs * length rs) → positions * (length ys * length us) ≤ 1048576 → ⊥
  never_positions rs us xs ys a b lt le = lt_not_le 1048576 (positions * (length ys * length us)) (subst (λ n. 1048576 < positions * n) (one_count rs us xs ys a b) lt) le

  module _ (allowed more : ℕ) (wide : allowed ≤ more) where
    -- where both are refused
    pub one_cause : (f g : GameFault) → Comes p uses positions allowed f → Comes p uses positions more g → ((f ≡ TooManyStates) × (allowed < more)) ⊎ (f ≡ g)
    one_cause TooManyCaps TooManyCaps a b = inr refl
    one_cause TooManyCaps TooManyWords a (us, each, few, b) = absurd (never_caps us a each few)
    one_cause TooManyCaps TooManyStates a (us, ys, listed, b) = absurd (never_caps us a listed.rights listed.few_rights)
    one_cause TooManyCaps TooManyPositions a (us, ys, listed, le, b) = absurd (never_caps us a listed.rights listed.few_rights)
    one_cause TooManyCaps NoMemory a b = absurd b
    one_cause TooManyWords TooManyCaps (rs, each, few, a) b = absurd (never_caps rs b each few)
    one_cause TooManyWords TooManyWords a b = inr refl
    one_cause TooManyWords TooManyStates (rs, each, few, a) (us, ys, listed, b) = absurd (never_words rs us ys each a listed)
    one_cause TooManyWords TooManyPositions (rs, each, few, a) (us, ys, listed, le, b) = absurd (never_words rs us ys each a listed)
    one_cause TooManyWords NoMemory a b = absurd b
    one_cause TooManyStates TooManyCaps (rs, xs, listed, a) b = absurd (never_caps rs b listed.rights listed.few_rights)
    one_cause TooManyStates TooManyWords (rs, xs, listed, a) (us, each, few, b) = absurd (never_words us rs xs each b listed)
    one_cause TooManyStates TooManyStates a b = inr refl
    one_cause TooManyStates TooManyPositions (rs, xs, listed, a) (us, ys, other, le, b) = inl (refl, between rs us xs ys allowed more listed other a le)
    one_cause TooManyStates NoMemory a b = absurd b
    one_cause TooManyPositions TooManyCaps (rs, xs, listed, le, a) b = absurd (never_caps rs b listed.rights listed.few_rights)
    one_cause TooManyPositions TooManyWords (rs, xs, listed, le, a) (us, each, few, b) = absurd (never_words us rs xs each b listed)
    one_cause TooManyPositions TooManyStates (rs, xs, listed, le, a) (us, ys, other, b) = absurd (unbetween rs us xs ys allowed more listed other le b wide)
    one_cause TooManyPositions TooManyPositions a b = inr refl
    one_cause TooManyPositions NoMemory a b = absurd b
    one_cause NoMemory g a b = absurd a

    -- where the first alone is
    pub first_cause : (f : GameFault) → Comes p uses positions allowed f → HasGame p uses positions more → (f ≡ TooManyStates) × (allowed < more)
    first_cause TooManyCaps a (us, ys, listed, le, few) = absurd (never_caps us a listed.rights listed.few_rights)
    first_cause TooManyWords (rs, each, few, a) (us, ys, listed, le, in_all) = absurd (never_words rs us ys each a listed)
    first_cause TooManyStates (rs, xs, listed, a) (us, ys, other, le, few) = (refl, between rs us xs ys allowed more listed other a le)
    first_cause TooManyPositions (rs, xs, listed, le, a) (us, ys, other, fits, few) = absurd (never_positions rs us xs ys listed other a few)
    first_cause NoMemory a b = absurd a

    -- where the second alone is
    pub second_cause : (g : GameFault) → HasGame p uses positions allowed → Comes p uses positions more g → ⊥
    second_cause TooManyCaps (rs, xs, listed, le, few) b = never_caps rs b listed.rights listed.few_rights
    second_cause TooManyWords (rs, xs, listed, le, in_all) (us, each, few, b) = never_words us rs xs each b listed
    second_cause TooManyStates (rs, xs, listed, le, few) (us, ys, other, b) = unbetween rs us xs ys allowed more listed other le b wide
    second_cause TooManyPositions (rs, xs, listed, le, few) (us, ys, other, fits, b) = never_positions us rs ys xs other listed b few
    second_cause NoMemory a b = b

-- ---- of a graph

listed_of : (p : PlainPolicy) (uses : Uses) (v : Lists) → v.policy ≡ p → AreLists uses v → length v.rights ≤ 128 → length v.sets ≤ 64 → AreListed p uses v.rights v.sets
listed_of p uses v e are few_rights few_sets = record {
  rights = subst (λ (q : PlainPolicy). Exactly caps_cmp (IsRightsState q uses) v.rights) e are.rights;
  sets = subst (λ (q : PlainPolicy). Exactly nat_cmp (Reached q.rules (letters_of q uses v.rights)) v.sets) e are.sets;
  few_rights = few_rights;
  few_sets = few_sets;
}

-- what is caused comes, and a game that is made is there
own_cause : (p : PlainPolicy) (g : Graph) (f : GameFault) → f ≢ NoMemory → IsCause p g f
    → Comes p (uses_of p g.nodes.items) (length (spots g p)) (limit_in p.format ProductStates) f
own_cause p g TooManyCaps ne more = more
own_cause p g TooManyWords ne cause = cause
own_cause p g TooManyStates ne (v, e, are, few_rights, few_sets, many) = (v.rights, v.sets, listed_of p (uses_of p g.nodes.items) v e are few_rights few_sets, many)
own_cause p g TooManyPositions ne (v, e, are, few, many) = (
  v.rights,
  v.sets,
  listed_of p (uses_of p g.nodes.items) v e are few.rights few.sets,
  subst (λ (q : PlainPolicy). count v ≤ limit_in q.format ProductStates) e few.states,
  many,
)
own_cause p g NoMemory ne cause = absurd (ne refl)

own_game : (p : PlainPolicy) (g : Graph) (h : Held) → IsGame p g h → IsMade h → HasGame p (uses_of p g.nodes.items) (length (spots g p)) (limit_in p.format ProductStates)
own_game p g h is made =
    let v = lists_of h.states in
    let pairs : length (spots h.graph (policy_of h.states.policy)) * count v ≡ length (spots g p) * count v =
    λ i. length (spots (is.graph_is i) (is.policy_is i)) * count v in (
      v.rights,
      v.sets,
      listed_of p (uses_of p g.nodes.items) v is.policy_is is.lists made.few.rights made.few.sets,
      subst (λ (q : PlainPolicy). count v ≤ limit_in q.format ProductStates) is.policy_is made.few.states,
      subst (λ n. n ≤ 1048576) pairs made.pairs,
    )

-- ---- and of a varied policy

module _ (p : PlainPolicy) (limit enter split stop : Bool) (format : ℕ) (uses : Uses) (positions allowed : ℕ) where
  rights_are : (rs : List Caps) → Exactly caps_cmp (IsRightsState (varied p limit enter split stop format) uses) rs → Exactly caps_cmp (IsRightsState p uses) rs
  rights_are rs e =
      exactly caps_cmp (IsRightsState (varied p limit enter split stop format) uses) (IsRightsState p uses) rs
      (rights_back p limit enter split stop format uses) (rights_forth p limit enter split stop format uses) e

  listed_same : (rs : List Caps) (xs : List ℕ) → AreListed (varied p limit enter split stop format) uses rs xs → AreListed p uses rs xs
  listed_same rs xs a = record { rights = rights_are rs a.rights; sets = a.sets; few_rights = a.few_rights; few_sets = a.few_sets }

  comes_same : (f : GameFault) → Comes (varied p limit enter split stop format) uses positions allowed f → Comes p uses positions allowed f
  comes_same TooManyCaps (xs, sorted, all, lt) = (xs, sorted, λ c n. rights_back p limit enter split stop format uses c (all c n), lt)
  comes_same TooManyWords (rs, e, few, more) = (rs, rights_are rs e, few, more)
  comes_same TooManyStates (rs, xs, a, lt) = (rs, xs, listed_same rs xs a, lt)
  comes_same TooManyPositions (rs, xs, a, le, lt) = (rs, xs, listed_same rs xs a, le, lt)
  comes_same NoMemory a = a

  game_same : HasGame (varied p limit enter split stop format) uses positions allowed → HasGame p uses positions allowed
  game_same (rs, xs, a, le, few) = (rs, xs, listed_same rs xs a, le, few)

-- two graphs that are alike, one under a policy and one under the policy varied
module _ (p : PlainPolicy) (limit enter split stop : Bool) (format : ℕ) (g k : Graph) (alike : AreAlike g k) where
  abbrev allowed : ℕ
  allowed = limit_in format ProductStates

  abbrev y : PlainPolicy
  y = varied p limit enter split stop format

  places : spots_in (varied p limit enter split stop format) k.parts.items k.nodes.items ≡ spots_in p g.parts.items g.nodes.items
  places = spots_same p limit enter split stop format k.parts.items k.nodes.items ∙ sym (ap₂ (λ (ps : List Part) (ns : List Node). spots_in p ps ns) alike.parts alike.nodes)

  over : (P : Uses → ℕ → Type 0) → P (uses_of p k.nodes.items) (length (spots k (varied p limit enter split stop format))) → P (uses_of p g.nodes.items) (length (spots g p))
  over P h =
      subst (λ (ns : List Node). P (uses_of p ns) (length (spots g p))) (sym alike.nodes)
      (subst (λ l. P (uses_of p k.nodes.items) (length l)) places h)

  cause_for : (f : GameFault) → f ≢ NoMemory → IsCause (varied p limit enter split stop format) k f
      → Comes p (uses_of p g.nodes.items) (length (spots g p)) (limit_in format ProductStates) f
  cause_for f ne cause =
      over (λ uses n. Comes p uses n allowed f)
      (comes_same p limit enter split stop format (uses_of p k.nodes.items) (length (spots k y)) allowed f (own_cause y k f ne cause))

  game_for : (h : Held) → IsGame (varied p limit enter split stop format) k h → IsMade h → HasGame p (uses_of p g.nodes.items) (length (spots g p)) (limit_in format ProductStates)
  game_for h is made =
      over (λ uses n. HasGame p uses n allowed)
      (game_same p limit enter split stop format (uses_of p k.nodes.items) (length (spots k y)) allowed (own_game y k h is made))

  module _ (wide : limit_in p.format ProductStates ≤ limit_in format ProductStates) where
    pub both_refused : (f e : GameFault) → f ≢ NoMemory → e ≢ NoMemory → IsCause p g f → IsCause (varied p limit enter split stop format) k e
        → ((f ≡ TooManyStates) × (limit_in p.format ProductStates < limit_in format ProductStates)) ⊎ (f ≡ e)
    both_refused f e ne other a b =
        one_cause p (uses_of p g.nodes.items) (length (spots g p)) (limit_in p.format ProductStates) allowed wide f e (own_cause p g f ne a) (cause_for e other b)

    pub first_refused : (f : GameFault) (h : Held) → f ≢ NoMemory → IsCause p g f → IsGame (varied p limit enter split stop format) k h → IsMade h
        → (f ≡ TooManyStates) × (limit_in p.format ProductStates < limit_in format ProductStates)
    first_refused f h ne a is made =
        first_cause p (uses_of p g.nodes.items) (length (spots g p)) (limit_in p.format ProductStates) allowed wide f (own_cause p g f ne a) (game_for h is made)

    pub second_refused : (e : GameFault) (h : Held) → e ≢ NoMemory → IsGame p g h → IsMade h → IsCause (varied p limit enter split stop format) k e → ⊥
    second_refused e h ne is made b =
        second_cause p (uses_of p g.nodes.items) (length (spots g p)) (limit_in p.format ProductStates) allowed wide e (own_game p g h is made) (cause_for e ne b)
