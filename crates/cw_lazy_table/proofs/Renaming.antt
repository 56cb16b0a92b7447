-- Rules that say the same of keys by other names have the same members and pairs, by their names.
use Rattle.std.proofs.Common.{◌≡◌, map, Some, option_map, refl, sym, ap, ap₂, ◌∙◌, subst}
use Rattle.std.specs.List.{Contains}
use Rattle.cw_joins.specs.Members.{Rules, IsMember, first, then, joins, IsPair}
use Rattle.cw_lemmas.proofs.Lists.{contains_map, map_contains}
use Rattle.cw_lemmas.proofs.Options.{option_map_some as mapped}

module _ {K G H : Type 0} (r : Rules K G) (t : Rules K H) (start : K) (named : K → K) (tell : G → H) where
  -- what the second rules say of a member by its name is what the first say of it
  pub record AreNamed : Type 0 where
    pub after : (k : K) → IsMember r start k → t.after (named k) ≡ map named (r.after k)
    pub waits : (k : K) → IsMember r start k → t.waits (named k) ≡ option_map tell (r.waits k)
    pub ends : (k : K) → IsMember r start k → t.ends (named k) ≡ option_map tell (r.ends k)
    pub one : (a b : K) (x y : G) → IsMember r start a → IsMember r start b → r.waits a ≡ Some x → r.ends b ≡ Some y → tell x ≡ tell y → x ≡ y
    pub join : (a b : K) → IsMember r start a → IsMember r start b → t.join (named a) (named b) ≡ named (r.join a b)

  module _ (are : AreNamed) where
    pub named_member : (k : K) → IsMember r start k → IsMember t (named start) (named k)
    named_member k first = first
    named_member k (then a b m c) = then (named a) (named b) (named_member a m) (subst (λ l. Contains l (named b)) (sym (are.after a m)) (contains_map named (r.after a) b c))
    named_member k (joins a b x m n w e) =
        subst (IsMember t (named start)) (are.join a b m n)
        (joins (named a) (named b) (tell x) (named_member a m) (named_member b n) (are.waits a m ∙ ap (option_map tell) w) (are.ends b n ∙ ap (option_map tell) e))

    abbrev pub IsName : K → Type 0
    IsName q = (k : K) × IsMember r start k × (named k ≡ q)

    -- the group of two members whose names meet
    met : (a b : K) (x : H) → IsMember r start a → IsMember r start b → t.waits (named a) ≡ Some x → t.ends (named b) ≡ Some x → (y : G) × (r.waits a ≡ Some y) × (r.ends b ≡ Some y)
    met a b x m n w e =
        let v = mapped tell (r.waits a) x (sym (are.waits a m) ∙ w) in
        let u = mapped tell (r.ends b) x (sym (are.ends b n) ∙ e) in
        let same : v.0 ≡ u.0 = are.one a b v.0 u.0 m n v.1 u.1 (v.2 ∙ sym u.2) in
        (v.0, v.1, u.1 ∙ ap (λ (y : G). Some y) (sym same))

    pub member_named : (q : K) → IsMember t (named start) q → IsName q
    member_named q first = (start, first, refl)
    member_named q (then a b m c) =
        let h = member_named a m in
        let e : t.after a ≡ map named (r.after h.0) = ap (λ k. t.after k) (sym h.2) ∙ are.after h.0 h.1 in
        let z = map_contains named (r.after h.0) b (subst (λ l. Contains l b) e c) in
        (z.0, then h.0 z.0 h.1 z.1, z.2)
    member_named q (joins a b x m n w e) =
        let h = member_named a m in
        let i = member_named b n in
        let y = met h.0 i.0 x h.1 i.1 (ap (λ k. t.waits k) h.2 ∙ w) (ap (λ k. t.ends k) i.2 ∙ e) in
        (r.join h.0 i.0, joins h.0 i.0 y.0 h.1 i.1 y.1 y.2, sym (are.join h.0 i.0 h.1 i.1) ∙ ap₂ (λ k l. t.join k l) h.2 i.2)

    pub named_pair : (ab : K × K) → IsPair r start ab → IsPair t (named start) (named ab.0, named ab.1)
    named_pair ab is = record {
      waiting = named_member ab.0 is.waiting;
      ending = named_member ab.1 is.ending;
      met = (tell is.met.0, are.waits ab.0 is.waiting ∙ ap (option_map tell) is.met.1, are.ends ab.1 is.ending ∙ ap (option_map tell) is.met.2);
    }

    pub pair_named : (q : K × K) → IsPair t (named start) q → (ab : K × K) × IsPair r start ab × ((named ab.0, named ab.1) ≡ q)
    pair_named q is =
        let h = member_named q.0 is.waiting in
        let i = member_named q.1 is.ending in
        let y = met h.0 i.0 is.met.0 h.1 i.1 (ap (λ k. t.waits k) h.2 ∙ is.met.1) (ap (λ k. t.ends k) i.2 ∙ is.met.2) in
        ((h.0, i.0), record { waiting = h.1; ending = i.1; met = (y.0, y.1, y.2) }, ap₂ (λ k l. (k, l)) h.2 i.2)
