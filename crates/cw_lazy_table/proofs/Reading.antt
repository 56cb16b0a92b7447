-- What the lists of a lazy table say.
use Rattle.std.proofs.Common.{◌≡◌, ℕ, ◌<◌, List, Bool, true, false, ◌&&◌, Option, Some, None, is_some, nat_eq, length, refl, sym, ap, ap₂, ◌∙◌, subst, eqb-true, eq-eqb}
use Rattle.std.specs.List.{Contains}
use Rattle.std.proofs.lemmas.Option.{same_Some}
use Rattle.cw_core.specs.declared.ids.StateId.{StateId}
use Rattle.cw_certs.specs.declared.rows.TryRow.{TryRow}
use Rattle.cw_certs.specs.declared.rows.AtRow.{AtRow}
use Rattle.cw_certs.specs.declared.rows.OpenRow.{OpenRow}
use Rattle.cw_certs.specs.declared.rows.IntoRow.{IntoRow}
use Rattle.cw_certs.specs.declared.rows.BackRow.{BackRow}
use Rattle.cw_certs.specs.Tables.{Table, same, try_at, after_at, open_at, into_at, back_at}
use Rattle.cw_game.specs.Games.{Game}
use Rattle.cw_game.specs.Pairs.{is_live, means_it}
use Rattle.std.proofs.lemmas.Bool.{and_parts, and_from as both}
use Rattle.cw_product.specs.Moves.{pos_id}
use Rattle.cw_lazy_table.specs.Live.{IsLive}
use Rattle.cw_lazy_table.specs.Lazy.{state_id, Means, IsTryRow, IsLabelRow, IsOpenRow, IsCloseRow, IsIntoRow, IsBackRow, IsLazyTable}
use Rattle.cw_lazy_table.proofs.Finding.{found, is_found, numbered}
use Rattle.cw_lazy_table.specs.Rowing.{mem_id}

pub same_is : (a b : Bool) → same a b ≡ true → a ≡ b
same_is true b e = sym e
same_is false true e = cc
same_is false false e = refl

pub same_to : (a : Bool) → same a a ≡ true
same_to true = refl
same_to false = refl

-- a memory that means a state with a promise
pub means_is : (o : Option (StateId × ℕ)) (q e : ℕ) → means_it o q e ≡ true → o ≡ Some (state_id q, e)
means_is None q e h = cc
means_is (Some r) q e h =
    let k = and_parts (nat_eq r.0.0 q) (nat_eq r.1 e) h in
    let x : r.0.0 ≡ q = eqb-true r.0.0 q k.0 in
    let y : r.1 ≡ e = eqb-true r.1 e k.1 in
    ap₂ (λ a b. Some (state_id a, b)) x y

pub means_to : (o : Option (StateId × ℕ)) (q e : ℕ) → o ≡ Some (state_id q, e) → means_it o q e ≡ true
means_to o q e h = subst (λ o. means_it o q e ≡ true) (sym h) (both (nat_eq q q) (nat_eq e e) (eq-eqb q q refl) (eq-eqb e e refl))

pub same_means : (t : Table) (m q e x y : ℕ) → Means t.mems m q e → Means t.mems m x y → (q ≡ x) × (e ≡ y)
same_means t m q e x y h k = let z = same_Some (state_id q, e) (state_id x, y) (sym h ∙ k) in (ap (λ r. r.0.0) z, ap (λ r. r.1) z)

module _ (g : Game) (t : Table) (lazy : IsLazyTable g t) where
  pub live_to : (p m q e : ℕ) → IsLive g p q e → Means t.mems m q e → is_live t p m ≡ true
  live_to p m q e l h =
      let c = (lazy.live.1 (pos_id p, mem_id m)).1 (record { state = q; promise = e; live = l; meant = h }) in
      let z = is_found (λ r. nat_eq r.0.0 p && nat_eq r.1.0 m) t.live (pos_id p, mem_id m) c (both (nat_eq p p) (nat_eq m m) (eq-eqb p p refl) (eq-eqb m m refl)) in
      ap is_some z.1

  pub memory : (p q e : ℕ) → IsLive g p q e → (m : ℕ) × (m < length t.mems) × Means t.mems m q e
  memory p q e l = numbered t.mems (state_id q, e) ((lazy.mems.1 (state_id q, e)).1 (record { pos = p; live = l }))

  -- each list, by its keys
  pub try_of : (j i m : ℕ) (r : TryRow) → try_at t j i m ≡ Some r → IsTryRow g t.mems r × (r.seam.0 ≡ j) × (r.stage ≡ i) × (r.mem.0 ≡ m)
  try_of j i m r e =
      let z = found (λ r. nat_eq r.seam.0 j && (nat_eq r.stage i && nat_eq r.mem.0 m)) t.tries r e in
      let k = and_parts (nat_eq r.seam.0 j) (nat_eq r.stage i && nat_eq r.mem.0 m) z.1 in
      let n = and_parts (nat_eq r.stage i) (nat_eq r.mem.0 m) k.1 in
      ((lazy.tries.1 r).0 z.0, eqb-true r.seam.0 j k.0, eqb-true r.stage i n.0, eqb-true r.mem.0 m n.1)

  pub try_to : (r : TryRow) → IsTryRow g t.mems r → (s : TryRow) × (try_at t r.seam.0 r.stage r.mem.0 ≡ Some s)
  try_to r h = is_found (λ s. nat_eq s.seam.0 r.seam.0 && (nat_eq s.stage r.stage && nat_eq s.mem.0 r.mem.0)) t.tries r ((lazy.tries.1 r).1 h)
      (both (nat_eq r.seam.0 r.seam.0) _ (eq-eqb r.seam.0 r.seam.0 refl) (both (nat_eq r.stage r.stage) (nat_eq r.mem.0 r.mem.0) (eq-eqb r.stage r.stage refl) (eq-eqb r.mem.0 r.mem.0 refl)))

  at_of : (rows : List AtRow) (j m : ℕ) (r : AtRow) → after_at rows j m ≡ Some r → Contains rows r × (r.seam.0 ≡ j) × (r.mem.0 ≡ m)
  at_of rows j m r e =
      let z = found (λ r. nat_eq r.seam.0 j && nat_eq r.mem.0 m) rows r e in
      let k = and_parts (nat_eq r.seam.0 j) (nat_eq r.mem.0 m) z.1 in
      (z.0, eqb-true r.seam.0 j k.0, eqb-true r.mem.0 m k.1)

  at_to : (rows : List AtRow) (r : AtRow) → Contains rows r → (s : AtRow) × (after_at rows r.seam.0 r.mem.0 ≡ Some s)
  at_to rows r c = is_found (λ s. nat_eq s.seam.0 r.seam.0 && nat_eq s.mem.0 r.mem.0) rows r c
      (both (nat_eq r.seam.0 r.seam.0) (nat_eq r.mem.0 r.mem.0) (eq-eqb r.seam.0 r.seam.0 refl) (eq-eqb r.mem.0 r.mem.0 refl))

  pub label_of : (j m : ℕ) (r : AtRow) → after_at t.ats j m ≡ Some r → IsLabelRow g t.mems r × (r.seam.0 ≡ j) × (r.mem.0 ≡ m)
  label_of j m r e = let z = at_of t.ats j m r e in ((lazy.ats.1 r).0 z.0, z.1, z.2)

  pub label_to : (r : AtRow) → IsLabelRow g t.mems r → (s : AtRow) × (after_at t.ats r.seam.0 r.mem.0 ≡ Some s)
  label_to r h = at_to t.ats r ((lazy.ats.1 r).1 h)

  pub close_of : (j m : ℕ) (r : AtRow) → after_at t.closed j m ≡ Some r → IsCloseRow g t.mems r × (r.seam.0 ≡ j) × (r.mem.0 ≡ m)
  close_of j m r e = let z = at_of t.closed j m r e in ((lazy.closed.1 r).0 z.0, z.1, z.2)

  pub close_to : (r : AtRow) → IsCloseRow g t.mems r → (s : AtRow) × (after_at t.closed r.seam.0 r.mem.0 ≡ Some s)
  close_to r h = at_to t.closed r ((lazy.closed.1 r).1 h)

  pub open_of : (j m : ℕ) (r : OpenRow) → open_at t j m ≡ Some r → IsOpenRow g t.mems r × (r.seam.0 ≡ j) × (r.mem.0 ≡ m)
  open_of j m r e =
      let z = found (λ r. nat_eq r.seam.0 j && nat_eq r.mem.0 m) t.opened r e in
      let k = and_parts (nat_eq r.seam.0 j) (nat_eq r.mem.0 m) z.1 in
      ((lazy.opened.1 r).0 z.0, eqb-true r.seam.0 j k.0, eqb-true r.mem.0 m k.1)

  pub open_to : (r : OpenRow) → IsOpenRow g t.mems r → (s : OpenRow) × (open_at t r.seam.0 r.mem.0 ≡ Some s)
  open_to r h = is_found (λ s. nat_eq s.seam.0 r.seam.0 && nat_eq s.mem.0 r.mem.0) t.opened r ((lazy.opened.1 r).1 h)
      (both (nat_eq r.seam.0 r.seam.0) (nat_eq r.mem.0 r.mem.0) (eq-eqb r.seam.0 r.seam.0 refl) (eq-eqb r.mem.0 r.mem.0 refl))

  pub into_of : (j : ℕ) (split : Bool) (m : ℕ) (r : IntoRow) → into_at t j split m ≡ Some r → IsIntoRow g t.mems r × (r.seam.0 ≡ j) × (r.split ≡ split) × (r.mem.0 ≡ m)
  into_of j split m r e =
      let z = found (λ r. nat_eq r.seam.0 j && (same r.split split && nat_eq r.mem.0 m)) t.into r e in
      let k = and_parts (nat_eq r.seam.0 j) (same r.split split && nat_eq r.mem.0 m) z.1 in
      let n = and_parts (same r.split split) (nat_eq r.mem.0 m) k.1 in
      ((lazy.into.1 r).0 z.0, eqb-true r.seam.0 j k.0, same_is r.split split n.0, eqb-true r.mem.0 m n.1)

  pub into_to : (r : IntoRow) → IsIntoRow g t.mems r → (s : IntoRow) × (into_at t r.seam.0 r.split r.mem.0 ≡ Some s)
  into_to r h = is_found (λ s. nat_eq s.seam.0 r.seam.0 && (same s.split r.split && nat_eq s.mem.0 r.mem.0)) t.into r ((lazy.into.1 r).1 h)
      (both (nat_eq r.seam.0 r.seam.0) _ (eq-eqb r.seam.0 r.seam.0 refl) (both (same r.split r.split) (nat_eq r.mem.0 r.mem.0) (same_to r.split) (eq-eqb r.mem.0 r.mem.0 refl)))

  pub back_of : (j : ℕ) (split : Bool) (m x : ℕ) (r : BackRow) → back_at t j split m x ≡ Some r → IsBackRow g t.mems r × (r.seam.0 ≡ j) × (r.split ≡ split) × (r.mem.0 ≡ m) × (r.exit.0 ≡ x)
  back_of j split m x r e =
      let z = found (λ r. nat_eq r.seam.0 j && (same r.split split && (nat_eq r.mem.0 m && nat_eq r.exit.0 x))) t.back r e in
      let k = and_parts (nat_eq r.seam.0 j) (same r.split split && (nat_eq r.mem.0 m && nat_eq r.exit.0 x)) z.1 in
      let n = and_parts (same r.split split) (nat_eq r.mem.0 m && nat_eq r.exit.0 x) k.1 in
      let o = and_parts (nat_eq r.mem.0 m) (nat_eq r.exit.0 x) n.1 in
      ((lazy.back.1 r).0 z.0, eqb-true r.seam.0 j k.0, same_is r.split split n.0, eqb-true r.mem.0 m o.0, eqb-true r.exit.0 x o.1)

  pub back_to : (r : BackRow) → IsBackRow g t.mems r → (s : BackRow) × (back_at t r.seam.0 r.split r.mem.0 r.exit.0 ≡ Some s)
  back_to r h = is_found (λ s. nat_eq s.seam.0 r.seam.0 && (same s.split r.split && (nat_eq s.mem.0 r.mem.0 && nat_eq s.exit.0 r.exit.0))) t.back r ((lazy.back.1 r).1 h)
      (both (nat_eq r.seam.0 r.seam.0) _ (eq-eqb r.seam.0 r.seam.0 refl)
      (both (same r.split r.split) _ (same_to r.split) (both (nat_eq r.mem.0 r.mem.0) (nat_eq r.exit.0 r.exit.0) (eq-eqb r.mem.0 r.mem.0 refl) (eq-eqb r.exit.0 r.exit.0 refl))))
