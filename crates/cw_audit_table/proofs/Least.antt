-- The numbers of rows that are closed are no greater than those of any run below the distance.
use Rattle.std.proofs.Common.{◌≡◌, ℕ, ◌+◌, ◌<◌, ◌≤◌, [], false, Option, Some, None, length, eqb-true, refl, sym, ap, ◌∙◌, subst, arith, ◌⊎◌, inl, inr}
use Rattle.std.specs.Prelude.{slice_get}
use Rattle.std.proofs.lemmas.Option.{none-some, same_Some}
use Rattle.std.proofs.lemmas.Bool.Decides.{leb_tells}
use Rattle.cw_game.specs.declared.spots.Spot.TheVariants.{Call}
use Rattle.cw_game.specs.Games.{Game, at_pair, weavers_in}
use Rattle.cw_audit_table.specs.Runs.{skipped, start_at, IsEntered, at_start, by_call, IsWithin, IsShortest}
use Rattle.cw_audit_table.specs.Tables.{PlainGroup, Audit, group_at, inside_at}
use Rattle.cw_audit_table.specs.Conditions.{IsGoodAudit, EndAlone}
use Rattle.cw_audit_table.specs.Stated.{IsKeptBy, IsStated, IsAttained}
use Rattle.cw_audit_table.specs.Laws.{AttainedAuditsAreStated}
use Rattle.cw_audit_table.proofs.Skips.{stays}
use Rattle.cw_audit_table.proofs.Bounds.{Rows, Before, IsClosedBy, before_less, before_cut, goes_keep, begin_kept, hits_later}
use Rattle.cw_audit_table.proofs.Closing.{RowAt, parts, entry_row, closed}

module _ (g : Game) (D : Option ℕ) (R : Rows) (closed : IsClosedBy g D R) where
  call_rests : (p j f k : ℕ) → slice_get g.spots p ≡ Some (Call j f k) → weavers_in (slice_get g.spots p) ≡ false
  call_rests p j f k e = ap weavers_in e

  -- an entry has its row, no later than any run enters
  pub reach_least : (f q n : ℕ) → IsEntered g f q n → Before D n → (r : ℕ) × R f q r (skipped g (g.entry f)) q 0 × (r ≤ n)
  reach_least f q n at_start before = (0, closed.begins, omega arith)
  reach_least f q n (by_call ms c j _ k h e) before =
      let z : 0 + length ms ≡ length ms = omega arith in
      let w = goes_keep g D R closed g.main g.states.start 0 (start_at g) c ms (begin_kept g D R closed g.main g.states.start 0 closed.begins) h
      (subst (Before D) (sym z) (before_less D (length ms) (length ms + 1) (omega arith) before)) in
      let row = subst (λ p. R w.function w.entered w.reach p c.state w.inside) (stays g c.pos (call_rests c.pos j f k e)) w.row in
      let s = closed.calls w.function w.entered w.reach c.pos c.state w.inside j f k row e (before_cut D (w.reach + w.inside + 1) (length ms + 1) (omega (arith, w.early)) before) in
      (s.0, s.1, omega (arith, s.2, w.early))

  -- a pair has its row, no later than any run within the activation comes to it
  pub inside_least : ((f q r p x a r2 p2 x2 a2 : ℕ) → R f q r p x a → R f q r2 p2 x2 a2 → r ≡ r2)
      → (f q r p x m : ℕ) → R f q r (skipped g (g.entry f)) q 0 → IsWithin g f q p x m → Before D (r + m) → (a : ℕ) × R f q r p x a × (a ≤ m)
  inside_least one f q r p x m row w before =
      let many : r + length w.0 ≡ r + m = omega (arith, w.1) in
      let k = goes_keep g D R closed f q r (at_pair (g.entry f) q []) (at_pair p x []) w.0 (begin_kept g D R closed f q r row) w.2 (subst (Before D) (sym many) before) in
      let r1 = subst (λ p. R k.function k.entered k.reach p x k.inside) (stays g p w.3) k.row in
      let r2 = subst (λ f. R f k.entered k.reach p x k.inside) k.below.0 r1 in
      let r3 = subst (λ q. R f q k.reach p x k.inside) k.below.1 r2 in
      let same = one f q k.reach p x k.inside r (skipped g (g.entry f)) q 0 r3 row in
      (k.inside, subst (λ r. R f q r p x k.inside) same r3, omega (arith, k.early, same, many))

-- the rows of a table
module _ (g : Game) (functions : ℕ) (t : Audit) (alone : EndAlone g functions) (good : IsGoodAudit g functions t) (made : IsAttained g t) where
  abbrev is_closed : IsClosedBy g t.distance (RowAt t)
  is_closed = closed g functions t alone good

  one_reach : (f q r p x a r2 p2 x2 a2 : ℕ) → RowAt t f q r p x a → RowAt t f q r2 p2 x2 a2 → r ≡ r2
  one_reach f q r p x a r2 p2 x2 a2 v w = sym v.reach ∙ ap (λ (grp : PlainGroup). grp.reach) (same_Some v.group w.group (sym v.there ∙ w.there)) ∙ w.reach

  -- below the distance or not
  below : (D : Option ℕ) (n : ℕ) → Before D n ⊎ ((T : ℕ) × (D ≡ Some T) × (T ≤ n))
  below None n = inl tt
  below (Some T) n = elim (leb_tells T n) [ inl h ↦ inr (T, refl, h.1) | inr h ↦ inl h.1 ]

  verdict : (D : Option ℕ) → t.distance ≡ D → IsShortest g D
  verdict None e = λ n h. let z = hits_later g t.distance (RowAt t) is_closed n h in none-some z.0 (sym e ∙ z.1)
  verdict (Some T) e = (
    (made.hit T e).0,
    λ n h. let z = hits_later g t.distance (RowAt t) is_closed n h in subst (λ m. m ≤ n) (same_Some z.0 T (sym z.1 ∙ e)) z.2,
  )

  -- a group's entry row is nearer than the distance
  entry_of : (f q : ℕ) (grp : PlainGroup) → group_at t.groups f q ≡ Some grp → RowAt t f q grp.reach (skipped g (g.entry f)) q 0
  entry_of f q grp e = entry_row g functions t alone good f q grp e

  reach_low : (f q n : ℕ) (grp : PlainGroup) → group_at t.groups f q ≡ Some grp → IsEntered g f q n → grp.reach ≤ n
  reach_low f q n grp e h = elim (below t.distance n) [
    | inl before ↦
        let z = reach_least g t.distance (RowAt t) is_closed f q n h before in
        let same = ap (λ (x : PlainGroup). x.reach) (same_Some grp z.1.group (sym e ∙ z.1.there)) ∙ z.1.reach in
        omega (arith, same, z.2)
    | inr far ↦ let w = entry_of f q grp e in
        let near = made.nearer far.0 f q (skipped g (g.entry f)) q 0 w.group far.1 w.there w.inside in
        omega (arith, near, w.reach, far.2)
  ]

  kept_before : (D : Option ℕ) (n : ℕ) → t.distance ≡ D → IsKeptBy D n → Before D n
  kept_before None n e k = tt
  kept_before (Some T) n e k = k (made.hit T e).1

  before_kept : (D : Option ℕ) (n : ℕ) → ((T : ℕ) → D ≡ Some T → n < T) → IsKeptBy D n
  before_kept None n h = tt
  before_kept (Some T) n h = λ few. h T refl

  inside_low : (f q p x a m : ℕ) (grp : PlainGroup) → group_at t.groups f q ≡ Some grp → inside_at grp.rows p x ≡ Some a → IsWithin g f q p x m → a ≤ m
  inside_low f q p x a m grp e i w = elim (below t.distance (grp.reach + m)) [
    | inl before ↦
        let z = inside_least g t.distance (RowAt t) is_closed one_reach f q grp.reach p x m (entry_of f q grp e) w before in
        let same = same_Some grp z.1.group (sym e ∙ z.1.there) in
        let is : inside_at grp.rows p x ≡ Some z.0 = subst (λ (y : PlainGroup). inside_at y.rows p x ≡ Some z.0) (sym same) z.1.inside in
        let number = same_Some a z.0 (sym i ∙ is) in
        omega (arith, number, z.2)
    | inr far ↦ let near = made.nearer far.0 f q p x a grp far.1 e i in omega (arith, near, far.2)
  ]

  pub stated : IsStated g t
  stated = record {
    states = eqb-true t.states g.states.count (parts g functions t good).states;
    verdict = verdict t.distance refl;
    reached = λ f q grp e. (made.entered f q grp e, λ n h. reach_low f q n grp e h);
    within = λ f q p x a grp e i. (made.inside f q p x a grp e i, λ m w. inside_low f q p x a m grp e i w);
    kept = λ f q p x a grp e i. before_kept t.distance (grp.reach + a) (λ T d. made.nearer T f q p x a grp d e i);
    whole = λ f q p x n m h w k.
        let before = kept_before t.distance (n + m) refl k in
        let r = reach_least g t.distance (RowAt t) is_closed f q n h (before_less t.distance n (n + m) (omega arith) before) in
        let z = inside_least g t.distance (RowAt t) is_closed one_reach f q r.0 p x m r.1 w (before_less t.distance (r.0 + m) (n + m) (omega (arith, r.2)) before) in
        (z.1.group, z.1.there, (z.0, z.1.inside));
  }

pub attained_stated : AttainedAuditsAreStated
attained_stated g functions t alone good made = stated g functions t alone good made
