-- A graph and a policy have one game, and it is over no limit where one is made.
use Rattle.std.proofs.Common.{◌≡◌, ◌≢◌, ℕ, ◌*◌, ◌<◌, ◌≤◌, List, [], ◌∷◌, length, option_map, refl, sym, ap, ◌∙◌, subst, arith, inl, inr, ⊎_elim}
use Rattle.std.specs.Prelude.{slice_get}
use Rattle.std.specs.Cmp.{IsTotalOrder}
use Rattle.std.specs.List.Sorted.{IsStrictlySortedBy}
use Rattle.std.specs.Ordering.{nat_cmp}
use Rattle.std.specs.declared.cmp.Ordering.{Ordering}
use Rattle.std.specs.declared.cmp.Ordering.TheVariants.{Less}
use Rattle.std.proofs.lemmas.Cmp.{nat_cmp_total}
use Rattle.cw_core.specs.Quantities.{limit_in, limit_of}
use Rattle.cw_core.specs.declared.quantity.Quantity.TheVariants.{ProductStates, PositionsTimesStates}
use Rattle.cw_rights.specs.declared.capabilities.Caps.{Caps}
use Rattle.cw_rights.specs.Policies.{PlainPolicy, policy_of}
use Rattle.cw_dfa.specs.States.{Reached}
use Rattle.cw_fixpoint.specs.Closures.{Exactly, HasMore}
use Rattle.cw_points.specs.declared.graph.Graph.{Graph}
use Rattle.cw_points.specs.declared.graph.Node.{Node}
use Rattle.cw_points.specs.declared.graph.Part.{Part}
use Rattle.cw_game.specs.Games.{Game}
use Rattle.cw_lazy_table.proofs.Finding.{In, in_of, of_in, all_in}
use Rattle.cw_lazy_table.proofs.Sameness.{one}
use Rattle.cw_fixpoint.proofs.Numbers.{apart}
use Rattle.cw_positions.specs.Positions.{base, spots, spots_in, to}
use Rattle.cw_states.specs.declared.uses.Uses.{Uses}
use Rattle.cw_states.specs.Rights.{IsRightsState, caps_cmp}
use Rattle.cw_states.specs.States.{Lists, AreLists, count, letters_of, lists_of, states_of}
use Rattle.cw_states.proofs.Ordered.{caps_total}
use Rattle.cw_product.specs.declared.fault.GameFault.{GameFault}
use Rattle.cw_product.specs.declared.fault.GameFault.TheVariants.{TooManyCaps, TooManyWords, TooManyStates, TooManyPositions, NoMemory}
use Rattle.cw_product.specs.Product.{Held, game_of, IsCause}
use Rattle.cw_product.specs.Uses.{uses_of}
use Rattle.cw_product.specs.Made.{IsMade}
use Rattle.cw_stages.specs.Games.{IsGame}
use Rattle.cw_lemmas.proofs.Numbers.{lt_not_le as never}

-- ---- lists that ascend

module _ {A : Type 0} (cmp : A → A → Ordering) (total : IsTotalOrder cmp) where
  alone : (x : A) → cmp x x ≡ Less → ⊥
  alone x h = apart cmp total x x h h

  -- one whose elements another has isn't longer
  fewer : (xs ys : List A) → IsStrictlySortedBy cmp xs → IsStrictlySortedBy cmp ys → ((x : A) → In xs x → In ys x) → length xs ≤ length ys
  unfolding IsStrictlySortedBy
  fewer [] ys s r f = omega arith
  fewer (x ∷ xs) [] s r f = absurd (f x (inl refl))
  fewer (x ∷ xs) (y ∷ ys) s r f = by (f x (inl refl)) (λ on. fewer xs ys s.1 r.1 on) (λ on. fewer (x ∷ xs) ys s r.1 on)
    where
      behind : y ≡ x → (z : A) → In xs z → In ys z
      behind e z n = ⊎_elim (λ h. absurd (alone z (subst (λ w. cmp w z ≡ Less) (sym e ∙ h) (all_in (λ v. cmp x v ≡ Less) xs z s.0 n)))) (λ m. m) (f z (inr n))

      within : In ys x → (z : A) → In (x ∷ xs) z → In ys z
      within m z (inl e) = subst (In ys) e m
      within m z (inr n) =
          let front = all_in (λ v. cmp y v ≡ Less) ys x r.0 m in
          ⊎_elim (λ h. absurd (apart cmp total y x front (subst (λ w. cmp x w ≡ Less) (sym h) (all_in (λ v. cmp x v ≡ Less) xs z s.0 n)))) (λ k. k) (f z (inr n))

      by : In (y ∷ ys) x → (((z : A) → In xs z → In ys z) → length xs ≤ length ys) → (((z : A) → In (x ∷ xs) z → In ys z) → length (x ∷ xs) ≤ length ys) → length (x ∷ xs) ≤ length (y ∷ ys)
      by (inl e) less more = let le = less (behind e) in omega (arith, le)
      by (inr m) less more = let le = more (within m) in omega (arith, le)

  pub no_more : (P : A → Type 0) (xs : List A) (n : ℕ) → Exactly cmp P xs → HasMore cmp P n → n < length xs
  no_more P xs n a more =
      let le = fewer more.0 xs more.1 a.0 (λ x m. in_of xs x ((a.1 x).1 (more.2 x (of_in more.0 x m)))) in
      let lt = more.3 in
      omega (arith, le, lt)

-- ---- the states of a policy

same_rights : (uses : Uses) (v w : Lists) → v.policy ≡ w.policy → AreLists uses v → AreLists uses w → v.rights ≡ w.rights
same_rights uses v w e a b = one caps_cmp caps_total (IsRightsState w.policy uses) v.rights w.rights (subst (λ (p : PlainPolicy). Exactly caps_cmp (IsRightsState p uses) v.rights) e a.rights) b.rights

same_sets : (uses : Uses) (v w : Lists) → v.policy ≡ w.policy → AreLists uses v → AreLists uses w → v.sets ≡ w.sets
same_sets uses v w e a b =
    one nat_cmp nat_cmp_total (Reached w.policy.rules (letters_of w.policy uses w.rights)) v.sets w.sets
    (subst (λ (rights : List Caps). Exactly nat_cmp (Reached w.policy.rules (letters_of w.policy uses rights)) v.sets) (same_rights uses v w e a b)
    (subst (λ (p : PlainPolicy). Exactly nat_cmp (Reached p.rules (letters_of p uses v.rights)) v.sets) e a.sets)) b.sets

same_states : (uses : Uses) (v w : Lists) → v.policy ≡ w.policy → AreLists uses v → AreLists uses w → v ≡ w
same_states uses v w e a b =
    let r = same_rights uses v w e a b in
    let s = same_sets uses v w e a b in
    λ i. record { policy = e i; rights = r i; sets = s i }

-- ---- the game

abbrev parts_game : PlainPolicy → List Part → List Node → ℕ → Lists → Game
parts_game policy parts ns main v = record {
  spots = spots_in policy parts ns;
  entry = λ f. to (base policy parts ns) (option_map (λ (part : Part). part.entry.0) (slice_get parts f));
  exit = λ f. to (base policy parts ns) (option_map (λ (part : Part). part.exit.0) (slice_get parts f));
  main = main;
  policy = policy;
  states = states_of v;
}

-- two graphs that have the same points and parts
pub record AreAlike (g k : Graph) : Type 0 where
  pub nodes : g.nodes.items ≡ k.nodes.items
  pub parts : g.parts.items ≡ k.parts.items
  pub main : g.main ≡ k.main

module _ (whole : PlainPolicy) (g k : Graph) (alike : AreAlike g k) where
  -- the states that were listed for one graph are those of the other
  lists_for : (h : Held) → IsGame whole g h → AreLists (uses_of whole k.nodes.items) (lists_of h.states)
  lists_for h is = subst (λ (ns : List Node). AreLists (uses_of whole ns) (lists_of h.states)) alike.nodes is.lists

  pub one_game : (h l : Held) → IsGame whole g h → IsGame whole k l → game_of h ≡ game_of l
  one_game h l is of =
      let policies : policy_of h.states.policy ≡ policy_of l.states.policy = is.policy_is ∙ sym of.policy_is in
      let lists : lists_of h.states ≡ lists_of l.states = same_states (uses_of whole k.nodes.items) (lists_of h.states) (lists_of l.states) policies (lists_for h is) of.lists in
      let nodes : h.graph.nodes.items ≡ l.graph.nodes.items = ap (λ (x : Graph). x.nodes.items) is.graph_is ∙ alike.nodes ∙ sym (ap (λ (x : Graph). x.nodes.items) of.graph_is) in
      let parts : h.graph.parts.items ≡ l.graph.parts.items = ap (λ (x : Graph). x.parts.items) is.graph_is ∙ alike.parts ∙ sym (ap (λ (x : Graph). x.parts.items) of.graph_is) in
      let main : h.graph.main ≡ l.graph.main = ap (λ (x : Graph). x.main) is.graph_is ∙ alike.main ∙ sym (ap (λ (x : Graph). x.main) of.graph_is) in
      λ i. parts_game (policies i) (parts i) (nodes i) (main i) (lists i)

  -- where a game is made of one, none of its numbers is over its limit
  pub no_cause : (h : Held) (f : GameFault) → IsGame whole g h → IsMade h → f ≢ NoMemory → IsCause whole k f → ⊥
  no_cause h TooManyCaps is made ne more =
      let v = lists_of h.states in
      let rights = subst (λ (p : PlainPolicy). Exactly caps_cmp (IsRightsState p (uses_of whole k.nodes.items)) v.rights) is.policy_is (lists_for h is).rights in
      let lt = no_more caps_cmp caps_total (IsRightsState whole (uses_of whole k.nodes.items)) v.rights 128 rights more in
      let few = made.few.rights in
      omega (arith, lt, few)
  no_cause h TooManyWords is made ne (rights, exactly, few_rights, more) =
      let v = lists_of h.states in
      let uses = uses_of whole k.nodes.items in
      let lists = lists_for h is in
      let own = subst (λ (p : PlainPolicy). Exactly caps_cmp (IsRightsState p uses) v.rights) is.policy_is lists.rights in
      let same : v.rights ≡ rights = one caps_cmp caps_total (IsRightsState whole uses) v.rights rights own exactly in
      let sets = subst (λ (rs : List Caps). Exactly nat_cmp (Reached whole.rules (letters_of whole uses rs)) v.sets) same
      (subst (λ (p : PlainPolicy). Exactly nat_cmp (Reached p.rules (letters_of p uses v.rights)) v.sets) is.policy_is lists.sets) in
      let lt = no_more nat_cmp nat_cmp_total (Reached whole.rules (letters_of whole uses rights)) v.sets 64 sets more in
      let few = made.few.sets in
      omega (arith, lt, few)
  no_cause h TooManyStates is made ne (w, policy, lists, few_rights, few_sets, many) =
      let v = lists_of h.states in
      let same : v ≡ w = same_states (uses_of whole k.nodes.items) v w (is.policy_is ∙ sym policy) (lists_for h is) lists in
      let own : count w ≤ limit_in w.policy.format ProductStates = subst (λ (x : Lists). count x ≤ limit_in x.policy.format ProductStates) same made.few.states in
      never (limit_in whole.format ProductStates) (count w) many (subst (λ (p : PlainPolicy). count w ≤ limit_in p.format ProductStates) policy own)
  no_cause h TooManyPositions is made ne (w, policy, lists, few_lists, many) =
      let v = lists_of h.states in
      let same : v ≡ w = same_states (uses_of whole k.nodes.items) v w (is.policy_is ∙ sym policy) (lists_for h is) lists in
      let nodes : h.graph.nodes.items ≡ k.nodes.items = ap (λ (x : Graph). x.nodes.items) is.graph_is ∙ alike.nodes in
      let parts : h.graph.parts.items ≡ k.parts.items = ap (λ (x : Graph). x.parts.items) is.graph_is ∙ alike.parts in
      let spots_are : length (game_of h).spots ≡ length (spots k whole) = λ i. length (spots_in (is.policy_is i) (parts i) (nodes i)) in
      let product : length (game_of h).spots * (game_of h).states.count ≡ length (spots k whole) * count w = λ i. spots_are i * count (same i) in
      never (limit_of PositionsTimesStates) (length (spots k whole) * count w) many (subst (λ (n : ℕ). n ≤ limit_of PositionsTimesStates) product made.pairs)
  no_cause h NoMemory is made ne more = ne refl
