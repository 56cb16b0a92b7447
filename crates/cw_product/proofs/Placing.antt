-- The point of a position: the last one that begins at or before it.
use Rattle.std.proofs.Common.{◌≡◌, ℕ, zero, suc, ◌+◌, ◌-◌, ◌<◌, ◌≤◌, List, [], ◌∷◌, true, false, length, take, get_or, nat_le, sym, subst}
use Rattle.std.proofs.Common.{arith}
use Rattle.std.specs.List.{sum_by}
use Rattle.std.specs.List.Sorted.{IsNonDecreasing, IsPartitionPoint}
use Rattle.std.proofs.lemmas.Bool.{leb-true, leb-false}
use Rattle.cw_rights.specs.Policies.{PlainPolicy, policy_of}
use Rattle.cw_points.specs.declared.graph.Node.{Node}
use Rattle.cw_points.specs.declared.graph.Graph.{Graph}
use Rattle.cw_positions.specs.Positions.{base_of, bases, base, spots, width}
use Rattle.cw_positions.proofs.Begins.{begin_next, begin_within}
use Rattle.cw_positions.proofs.Lengths.{length_all}
use Rattle.cw_product.specs.Sites.{IsPointOf}
use Rattle.cw_product.specs.Product.{Held, game_of}
use Rattle.cw_product.proofs.Begun.{bases_length}
use Rattle.cw_lemmas.proofs.Numbers.{le_from_not_lt as not_more}

module _ {A : Type 0} (w : A → ℕ) where
  pub rise : (ns : List A) (p q : ℕ) → p ≤ q → sum_by w (take p ns) ≤ sum_by w (take q ns)
  rise ns zero q l = omega arith
  rise ns (suc p) zero l = absurd (omega (arith, l))
  rise [] (suc p) (suc q) l = omega arith
  rise (n ∷ ns) (suc p) (suc q) l = omega (arith, begin_next w n ns p, begin_next w n ns q, rise ns p q (omega (arith, l)))

nothing_below : (p : ℕ) → p < 0 → ⊥
nothing_below p l = omega (arith, l)

module _ (g : Graph) (policy : PlainPolicy) where
  at : (k d : ℕ) → k < length g.nodes.items + 1 → get_or (bases g policy) k d ≡ base_of g policy k
  at k d l = begin_within (λ (n : Node). width policy g.parts.items n.point) g.nodes.items k d l

  rises : (p q : ℕ) → p ≤ q → base_of g policy p ≤ base_of g policy q
  rises p q l = rise (λ (n : Node). width policy g.parts.items n.point) g.nodes.items p q l

  all : length (spots g policy) ≡ base_of g policy (length g.nodes.items)
  all = length_all policy g.parts.items (base policy g.parts.items g.nodes.items) g.nodes.items

  pub bases_rise : IsNonDecreasing (bases g policy)
  bases_rise i j d l m =
      let n : length (bases g policy) ≡ length g.nodes.items + 1 = bases_length g policy in
      let f : j < length g.nodes.items + 1 = omega (arith, m, n) in
      omega (arith, at i d (omega (arith, l, f)), at j d f, rises i j l)

  module _ (found : List ℕ) (are : found ≡ bases g policy) (p i : ℕ) (there : p < length (spots g policy)) (bound : i ≤ length found)
      (point : IsPartitionPoint (λ b. nat_le b p ≡ true) (λ b. nat_le b p ≡ false) found i) where
    size : length found ≡ length g.nodes.items + 1
    size = subst (λ l. length l ≡ length g.nodes.items + 1) (sym are) (bases_length g policy)

    here : (k : ℕ) → k < length g.nodes.items + 1 → get_or found k 0 ≡ base_of g policy k
    here k l = subst (λ bs. get_or bs k 0 ≡ base_of g policy k) (sym are) (at k 0 l)

    passed : (k : ℕ) → k < i → k < length g.nodes.items + 1 → base_of g policy k ≤ p
    passed k l m = omega (arith, here k m, leb-true (get_or found k 0) p (point.0 k 0 (omega arith) l))

    ahead : (k : ℕ) → i ≤ k → k < length g.nodes.items + 1 → p < base_of g policy k
    ahead k l m = omega (arith, here k m, leb-false (get_or found k 0) p (point.1 k 0 l (omega (arith, m, size))))

    pub some : 0 < i
    some = not_more 1 i (λ l. nothing_below p (ahead 0 (omega (arith, l)) (omega arith)))

    pub few : i ≤ length g.nodes.items
    few = not_more i (length g.nodes.items) (λ l. let h : base_of g policy (length g.nodes.items) ≤ p = passed (length g.nodes.items) l
        (omega arith) in omega (arith, h, all, there))

    pub from : base_of g policy (i - 1) ≤ p
    from = passed (i - 1) (omega (arith, some)) (omega (arith, few))

    pub to : p < base_of g policy (i - 1 + 1)
    to =
        let e : i ≡ i - 1 + 1 = omega (arith, some) in
        subst (λ k. p < base_of g policy k) e (ahead i (omega arith) (omega (arith, few)))

module _ (inside h : Held) (is : inside ≡ h) (found : List ℕ) (are : found ≡ bases inside.graph (policy_of inside.states.policy)) where
  pub found_rise : IsNonDecreasing found
  found_rise = subst IsNonDecreasing (sym are) (bases_rise inside.graph (policy_of inside.states.policy))

  module _ (p i : ℕ) (there : p < length (game_of h).spots) (bound : i ≤ length found)
      (point : IsPartitionPoint (λ b. nat_le b p ≡ true) (λ b. nat_le b p ≡ false) found i) where
    there_inside : p < length (game_of inside).spots
    there_inside = subst (λ (x : Held). p < length (game_of x).spots) (sym is) there

    pub some_begun : 0 < i
    some_begun = some inside.graph (policy_of inside.states.policy) found are p i there_inside bound point

    pub few_begun : i ≤ length h.graph.nodes.items
    few_begun = subst (λ (x : Held). i ≤ length x.graph.nodes.items) is (few inside.graph
        (policy_of inside.states.policy) found are p i there_inside bound point)

    pub point_of : IsPointOf h p (i - 1)
    point_of = subst (λ (x : Held). IsPointOf x p (i - 1)) is (record {
      there = omega (arith, some_begun, few inside.graph (policy_of inside.states.policy) found are p i there_inside bound point);
      begun = from inside.graph (policy_of inside.states.policy) found are p i there_inside bound point;
      before = to inside.graph (policy_of inside.states.policy) found are p i there_inside bound point;
    })
