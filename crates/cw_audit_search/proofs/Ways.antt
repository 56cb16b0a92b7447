-- Ways are kept while numbers fall, and stand for a run.
use Rattle.std.proofs.Common.{◌≡◌, ℕ, Bool, true, false, cond, Option, Some, None, refl, sym, ap, ◌∙◌, subst, arith, inl, inr}
use Rattle.std.proofs.lemmas.Option.{none-some, same_Some}
use Rattle.cw_game.specs.Games.{Game}
use Rattle.cw_audit_search.specs.Searches.{Found, is_group, is_row, IsNumberSet, IsReachSet, IsBestSet}
use Rattle.cw_audit_search.specs.Sound.{HasFallen}
use Rattle.cw_audit_search.specs.Ways.{Way, Begun, Moved, Returned, Caller, BadWay, Ways, IsWay, IsCaller, IsBadWay, AreWays, IsWaySet, IsCallSet, IsHitSet}
use Rattle.cw_audit_search.proofs.Setting.{same_row, same_group, chosen}

module _ (g : Game) (s s2 : Found) (fallen : HasFallen s s2) where
  pub way_later : (f q p x n : ℕ) (way : Way) → IsWay g s f q p x n way → IsWay g s2 f q p x n way
  way_later f q p x n Begun h = h
  way_later f q p x n (Moved p0 x0 by) h = let b = fallen.number f q p0 x0 h.0 h.1 in (b.0, b.1, omega (arith, b.2, h.2), h.3, h.4, h.5)
  way_later f q p x n (Returned p0 x0 m y) h =
      let a = fallen.number f q p0 x0 h.0 h.2 in
      let e = fallen.number m x0 (g.exit m) y h.1 h.3 in
      (a.0, e.0, a.1, e.1, omega (arith, a.2, e.2, h.4), h.5, h.6)

  pub caller_later : (f q r : ℕ) (c : Option Caller) → IsCaller g s f q r c → IsCaller g s2 f q r c
  caller_later f q r None h = h
  caller_later f q r (Some c) h =
      let b = fallen.reach c.function c.entered h.0 h.2 in
      let a = fallen.number c.function c.entered c.pos q h.1 h.3 in
      (b.0, a.0, b.1, a.1, omega (arith, a.2, b.2, h.4), h.5)

  pub bad_way_later : (k : ℕ) (h : BadWay) → IsBadWay g s k h → IsBadWay g s2 k h
  bad_way_later k h w =
      let r = fallen.reach h.function h.entered w.reach w.group in
      record {
        reach = r.0;
        inside = w.inside;
        pos = w.pos;
        state = w.state;
        group = r.1;
        leads = way_later h.function h.entered w.pos w.state w.inside h.way w.leads;
        bad = w.bad;
        sum = omega (arith, r.2, w.sum);
      }

  module _ (w w2 : Ways) (ways : AreWays g s w) where
    -- a row is set, with its way
    pub number_ways : (f q p x n : ℕ) (way : Way) → IsNumberSet s s2 f q p x n → IsWaySet w w2 f q p x way → IsWay g s f q p x n way → AreWays g s2 w2
    number_ways f q p x n way set wset leads = record {
      rows = λ f2 q2 p2 x2 a e. by f2 q2 p2 x2 a e (is_row f q p x f2 q2 p2 x2) refl;
      calls = λ f2 q2 r e.
          let z = ways.calls f2 q2 r (sym (set.reach f2 q2) ∙ e) in
          (z.0, wset.call f2 q2 ∙ z.1, caller_later f2 q2 r z.0 z.2);
      hit = λ k e. let z = ways.hit k (sym set.best ∙ e) in (z.0, wset.hit ∙ z.1, bad_way_later k z.0 z.2);
    }
      where
        by : (f2 q2 p2 x2 a : ℕ) → s2.number f2 q2 p2 x2 ≡ Some a → (b : Bool) → is_row f q p x f2 q2 p2 x2 ≡ b
            → (way2 : Way) × (w2.row f2 q2 p2 x2 ≡ Some way2) × IsWay g s2 f2 q2 p2 x2 a way2
        by f2 q2 p2 x2 a e true i =
            let same : n ≡ a = same_Some n a (sym (set.number f2 q2 p2 x2 ∙ ap (λ b. cond b (Some n) (s.number f2 q2 p2 x2)) i) ∙ e) in (
              way,
              wset.row f2 q2 p2 x2 ∙ ap (λ b. cond b (Some way) (w.row f2 q2 p2 x2)) i,
              subst (λ n. IsWay g s2 f2 q2 p2 x2 n way) same (same_row (λ f q p x. IsWay g s2 f q p x n way) f q p x f2 q2 p2 x2 i (way_later f q p x n way leads)),
            )
        by f2 q2 p2 x2 a e false i =
            let z = ways.rows f2 q2 p2 x2 a (sym (set.number f2 q2 p2 x2 ∙ ap (λ b. cond b (Some n) (s.number f2 q2 p2 x2)) i) ∙ e) in
            (z.0, wset.row f2 q2 p2 x2 ∙ ap (λ b. cond b (Some way) (w.row f2 q2 p2 x2)) i ∙ z.1, way_later f2 q2 p2 x2 a z.0 z.2)

    -- a group is entered, or nearer, with its call
    pub reach_ways : (f q r : ℕ) (c : Option Caller) → IsReachSet s s2 f q r → IsCallSet w w2 f q c → IsCaller g s f q r c → AreWays g s2 w2
    reach_ways f q r c set wset leads = record {
      rows = λ f2 q2 p2 x2 a e.
          let z = ways.rows f2 q2 p2 x2 a (sym (set.number f2 q2 p2 x2) ∙ e) in
          (z.0, wset.row f2 q2 p2 x2 ∙ z.1, way_later f2 q2 p2 x2 a z.0 z.2);
      calls = λ f2 q2 a e. by f2 q2 a e (is_group f q f2 q2) refl;
      hit = λ k e. let z = ways.hit k (sym set.best ∙ e) in (z.0, wset.hit ∙ z.1, bad_way_later k z.0 z.2);
    }
      where
        by : (f2 q2 a : ℕ) → s2.reach f2 q2 ≡ Some a → (b : Bool) → is_group f q f2 q2 ≡ b → (d : Option Caller) × (w2.call f2 q2 ≡ Some d) × IsCaller g s2 f2 q2 a d
        by f2 q2 a e true i =
            let same : r ≡ a = same_Some r a (sym (set.reach f2 q2 ∙ ap (λ b. cond b (Some r) (s.reach f2 q2)) i) ∙ e) in (
              c,
              wset.call f2 q2 ∙ ap (λ b. cond b (Some c) (w.call f2 q2)) i,
              subst (λ n. IsCaller g s2 f2 q2 n c) same (same_group (λ f q. IsCaller g s2 f q r c) f q f2 q2 i (caller_later f q r c leads)),
            )
        by f2 q2 a e false i =
            let z = ways.calls f2 q2 a (sym (set.reach f2 q2 ∙ ap (λ b. cond b (Some r) (s.reach f2 q2)) i) ∙ e) in
            (z.0, wset.call f2 q2 ∙ ap (λ b. cond b (Some c) (w.call f2 q2)) i ∙ z.1, caller_later f2 q2 a z.0 z.2)

    -- a violation is found, or a nearer one, with its way
    pub best_ways : (k : ℕ) (h : BadWay) → IsBestSet s s2 k → IsHitSet w w2 h → IsBadWay g s k h → AreWays g s2 w2
    best_ways k h set wset leads = record {
      rows = λ f2 q2 p2 x2 a e.
          let z = ways.rows f2 q2 p2 x2 a (sym (set.number f2 q2 p2 x2) ∙ e) in
          (z.0, wset.row f2 q2 p2 x2 ∙ z.1, way_later f2 q2 p2 x2 a z.0 z.2);
      calls = λ f2 q2 a e.
          let z = ways.calls f2 q2 a (sym (set.reach f2 q2) ∙ e) in
          (z.0, wset.call f2 q2 ∙ z.1, caller_later f2 q2 a z.0 z.2);
      hit = λ a e. (h, wset.hit, subst (λ n. IsBadWay g s2 n h) (same_Some k a (sym set.best ∙ e)) (bad_way_later k h leads));
    }

-- the search in which only `main` is entered
pub begins_ways : (g : Game) (s : Found) (w : Ways) → ((f q : ℕ) → s.reach f q ≡ cond (is_group g.main g.states.start f q) (Some 0) None)
    → ((f q p x : ℕ) → s.number f q p x ≡ None) → s.best ≡ None → w.call g.main g.states.start ≡ Some None → AreWays g s w
begins_ways g s w er en eb ec = record {
  rows = λ f q p x a e. absurd (none-some a (sym (en f q p x) ∙ e));
  calls = λ f q a e. elim (chosen (is_group g.main g.states.start f q) 0 a None (sym (er f q) ∙ e)) [
    | inl h ↦ same_group (λ f q. (c : Option Caller) × (w.call f q ≡ Some c) × IsCaller g s f q a c) g.main g.states.start f q h.0 (None, ec, (refl, refl))
    | inr h ↦ absurd (none-some a h.1)
  ];
  hit = λ k e. absurd (none-some k (sym eb ∙ e));
}
