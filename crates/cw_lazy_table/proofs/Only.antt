-- The lazy table tries, stops and promises no more than it must.
use Rattle.std.proofs.Common.{◌≡◌, ℕ, ◌+◌, [], Bool, true, false, Option, Some, None, is_some, refl, sym, ap, ap₂, ◌∙◌, subst, arith}
use Rattle.std.specs.Prelude.{slice_get}
use Rattle.std.proofs.lemmas.Option.{none-some, same_Some}
use Rattle.cw_lemmas.proofs.Options.{some_from}
use Rattle.cw_core.specs.declared.ids.MemId.{MemId}
use Rattle.cw_rights.specs.declared.capabilities.Primitive.{Primitive}
use Rattle.cw_certs.specs.declared.moves.Move.TheVariants.{Grant, Refuse}
use Rattle.cw_certs.specs.declared.rows.TryRow.{TryRow}
use Rattle.cw_certs.specs.declared.rows.IntoRow.{IntoRow}
use Rattle.cw_certs.specs.Tables.{Table, try_at, into_at}
use Rattle.cw_game.specs.declared.spots.Spot.TheVariants.{Visit, Asked}
use Rattle.cw_game.specs.Games.{Game, Config, resumed, leads_in, IsLost}
use Rattle.cw_game.specs.Pairs.{has, all_states, means_it, Called, call_in, kept_at}
use Rattle.cw_game.specs.Necessity.{LeavesOutLost, IsLivePair, TriesOnlyLost}
use Rattle.cw_product.specs.Routed.{IsState, AreRouted}
use Rattle.cw_lazy_table.specs.Live.{IsFull, IsLive}
use Rattle.cw_lazy_table.specs.Lazy.{Means, IsAfter, GoesOn, IsRefused, IsCalled, IsLazyTable}
use Rattle.cw_lazy_table.specs.Staged.{AreStaged}
use Rattle.cw_lazy_table.proofs.Keeping.{came}
use Rattle.cw_lazy_table.proofs.Reading.{means_is, same_means, try_of, into_of}

module _ (g : Game) (functions : ℕ) (routed : AreRouted g functions) (staged : AreStaged g) (first : IsState g g.states.start)
    (start : IsLost g (g.entry g.main) g.states.start (has (all_states g)) → ⊥)
    (t : Table) (lazy : IsLazyTable g t) where
  -- where a row of tries is live
  pub record IsTriedAt (p q e : ℕ) (r : TryRow) : Type 0 where
    pub live : IsLive g p q e
    pub granted : IsAfter t.mems e (leads_in g p q [] (slice_get g.spots p) Grant) r.granted
    pub refused : IsRefused g t.mems p q e (leads_in g p q [] (slice_get g.spots p) Refuse) r.refused

  pub tried_at : (p m q e j i : ℕ) (a : Primitive) (r : TryRow) → slice_get g.spots p ≡ Some (Asked j i a) → Means t.mems m q e → try_at t j i m ≡ Some r → IsTriedAt p q e r
  tried_at p m q e j i a r es h k =
      let z = try_of g t lazy j i m r k in
      let row = z.0 in
      let here : slice_get g.spots row.pos ≡ Some (Asked j i row.prim) = row.asked ∙ ap₂ (λ x y. Some (Asked x y row.prim)) z.1 z.2 in
      let pp : row.pos ≡ p = staged.asks row.pos p j i row.prim a here es in
      let s = same_means t m row.state row.promise q e (subst (λ i. Means t.mems i row.state row.promise) z.3 row.meant) h in
      subst (λ x. IsTriedAt x q e r) pp (subst (λ x. IsTriedAt row.pos x e r) s.0 (subst (λ x. IsTriedAt row.pos row.state x r) s.1
      (record {
        live = row.live;
        granted = subst (λ o. IsAfter t.mems row.promise (leads_in g row.pos row.state [] o Grant) r.granted) (sym row.asked) row.granted;
        refused =
            subst (λ o. IsRefused g t.mems row.pos row.state row.promise (leads_in g row.pos row.state [] o Refuse) r.refused) (sym row.asked) row.refused;
      })))

  pub tries_lost : (p m q e j i : ℕ) (a : Primitive) → IsLivePair t p m q e → slice_get g.spots p ≡ Some (Visit j i a) → is_some (try_at t j i m) ≡ true → IsLost g (p + 2) q (has e)
  tries_lost p m q e j i a l es k =
      let z = some_from (try_at t j i m) k in
      let asked = staged.behind p j i a es in
      let h = tried_at (p + 1) m q e j i a z.0 asked (means_is (slice_get t.mems m) q e l.1) z.1 in
      let c = came g functions routed staged first start (p + 1) q e h.live (j, i, a, asked) in
      let pp : c.0 ≡ p = omega (arith, c.4) in
      subst (λ x. IsLost g (x + 2) q (has e)) pp c.6

  stopped : (p q e : ℕ) (o : Option Config) (w : Option (ℕ × ℕ)) (m : Option MemId) (pair : ℕ × ℕ) → resumed g p q ≡ w → IsRefused g t.mems p q e o m → m ≡ None → w ≡ Some pair
      → IsLost g pair.0 pair.1 (has e)
  stopped p q e (Some c) w None pair ew h n k = absurd h
  stopped p q e (Some c) w (Some m) pair ew h n k = absurd (none-some m (sym n))
  stopped p q e None w (Some m) pair ew h n k = absurd (none-some m (sym n))
  stopped p q e None w None pair ew h n k = subst (λ o. GoesOn g t.mems e o None) (ew ∙ k) h

  -- the call of a row is this one
  pub called_is : (p m q e : ℕ) (call : Called) → Means t.mems m q e → call_in (slice_get g.spots p) ≡ Some call → (j n : ℕ) (split : Bool) (c : IsCalled g t.mems j split n)
      → j ≡ call.seam → split ≡ call.split → n ≡ m
      → (c.call ≡ call) × (c.state ≡ q) × (c.promise ≡ e)
  called_is p m q e call h es j n split c ej ed em =
      let pp : c.pos ≡ p = staged.calls c.pos p c.call call c.is_call es (c.seams ∙ ej) (c.modes ∙ ed) in
      let s = same_means t m c.state c.promise q e (subst (λ i. Means t.mems i c.state c.promise) em c.meant) h in
      (same_Some c.call call (sym c.is_call ∙ ap (λ x. call_in (slice_get g.spots x)) pp ∙ es), s.0, s.1)

  -- what a row of calls promises
  pub into_is : (p m q e : ℕ) (call : Called) (r : IntoRow) → Means t.mems m q e → call_in (slice_get g.spots p) ≡ Some call → into_at t call.seam call.split m ≡ Some r
      → (set : ℕ) × IsFull g call q e set × Means t.mems r.callee.0 q set
  into_is p m q e call r h es k =
      let z = into_of g t lazy call.seam call.split m r k in
      let c = z.0.called in
      let i = called_is p m q e call h es r.seam.0 r.mem.0 r.split c z.1 z.2 z.3 in (
        c.set,
        subst (λ x. IsFull g call q x c.set) i.2 (subst (λ x. IsFull g call x c.promise c.set) i.1 (subst (λ x. IsFull g x c.state c.promise c.set) i.0 c.full)),
        subst (λ x. Means t.mems r.callee.0 x c.set) i.1 z.0.callee,
      )

  promised : (p m q e e2 : ℕ) (call : Called) (r : IntoRow) → Means t.mems m q e → call_in (slice_get g.spots p) ≡ Some call → into_at t call.seam call.split m ≡ Some r
      → means_it (slice_get t.mems r.callee.0) q e2 ≡ true
      → LeavesOutLost g (has e2) call.back (kept_at call.split q) (has e)
  promised p m q e e2 call r h es k w =
      let z = into_is p m q e call r h es k in
      let u = same_means t r.callee.0 q z.0 q e2 z.2 (means_is (slice_get t.mems r.callee.0) q e2 w) in
      let f : IsFull g call q e e2 = subst (λ x. IsFull g call q e x) u.1 z.1 in
      λ x l o. f.left_out x l o

  pub only_lost : TriesOnlyLost g t
  only_lost = record {
    tries = tries_lost;
    stops = λ p m q e j i a r pair l es k n is. stopped p q e (leads_in g p q [] (slice_get g.spots p) Refuse) (resumed g p q) r.refused pair refl
        (tried_at p m q e j i a r es (means_is (slice_get t.mems m) q e l.1) k).refused n is;
    calls = λ p m q e j f n e2 r l es k w. promised p m q e e2 (record { seam = j; function = f; back = n; split = false }) r (means_is (slice_get t.mems m) q e l.1) (ap call_in es) k w;
    split_calls = λ p m q e j f n e2 r l es k w. promised p m q e e2 (record { seam = j; function = f; back = n; split = true }) r (means_is (slice_get t.mems m) q e l.1) (ap call_in es) k w;
  }
