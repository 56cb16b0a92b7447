-- Under a policy that stops the lazy table is the same where nothing can be refused: it never goes on after a refusal that a stop can answer.
use Rattle.std.proofs.Common.{◌≡◌, ℕ, ◌+◌, List, [], Bool, true, false, cond, ◌&&◌, Option, Some, None, refl, sym, ap, ◌∙◌, subst, arith}
use Rattle.std.specs.Prelude.{slice_get}
use Rattle.std.specs.declared.cmp.Ordering.{Ordering}
use Rattle.std.proofs.lemmas.Option.{none-some, same_Some}
use Rattle.cw_core.specs.declared.ids.StateId.{StateId}
use Rattle.cw_core.specs.declared.ids.MemId.{MemId}
use Rattle.cw_core.specs.declared.ids.PosId.{PosId}
use Rattle.cw_rights.specs.declared.capabilities.Primitive.{Primitive}
use Rattle.cw_rights.specs.declared.capabilities.Primitive.TheVariants.{Limit, Enter, Split}
use Rattle.cw_rights.specs.Policies.{PlainPolicy}
use Rattle.cw_certs.specs.declared.moves.Move.TheVariants.{Grant, Refuse}
use Rattle.cw_certs.specs.declared.rows.TryRow.{TryRow}
use Rattle.cw_certs.specs.declared.rows.AtRow.{AtRow}
use Rattle.cw_certs.specs.declared.rows.OpenRow.{OpenRow}
use Rattle.cw_certs.specs.declared.rows.IntoRow.{IntoRow}
use Rattle.cw_certs.specs.declared.rows.BackRow.{BackRow}
use Rattle.cw_certs.specs.Tables.{Table}
use Rattle.cw_certs.specs.Ascending.{mem_cmp, live_cmp, try_cmp, at_cmp, open_cmp, into_cmp, back_cmp}
use Rattle.cw_fixpoint.specs.Closures.{Exactly}
use Rattle.cw_game.specs.declared.spots.Spot.{Spot}
use Rattle.cw_game.specs.declared.spots.Spot.TheVariants.{Asked}
use Rattle.cw_game.specs.Games.{Game, Config, can_stop_in, refuses_in, resumed, resumed_in, leads_in, returned, IsLost}
use Rattle.cw_game.specs.Pairs.{has, Called, kept_at}
use Rattle.cw_lazy_table.specs.Lazy.{IsAfter, GoesOn, IsRefused, IsMemory, IsLiveRow, IsTryRow, IsLabelRow, IsOpenRow, IsCloseRow, IsCalled, IsIntoRow, IsBackRow, IsLazyTable}
use Rattle.cw_lazy_table.specs.Laws.{CanBegin}
use Rattle.cw_lazy_table.specs.Live.{IsFull, IsLive, begins, skips, tries, moves, goes_on, calls, returns}
use Rattle.cw_lazy_table.proofs.Keeping.{came}
use Rattle.cw_audit_laws.specs.Refusing.{ruled_by}
use Rattle.cw_consequences.specs.Unrefused.{unrefused}
use Rattle.cw_consequences.specs.Stopping.{StopKeepsTheTable}
use Rattle.cw_consequences.proofs.Alike.{leads_same, lost_same, refuse_alike, refuse_back}

pub exactly : {K : Type 0} (cmp : K → K → Ordering) (P Q : K → Type 0) (xs : List K) → ((k : K) → P k → Q k) → ((k : K) → Q k → P k) → Exactly cmp P xs → Exactly cmp Q xs
exactly cmp P Q xs f h e = (e.0, λ k. ((λ c. f k ((e.1 k).0 c)), (λ q. (e.1 k).1 (h k q))))

-- from a game to one of the same positions and states that refuses alike and has the same live pairs
module _ (g : Game) (x y : PlainPolicy)
    (forth : (q : ℕ) (a : Primitive) → refuses_in (ruled_by g x) q a ≡ refuses_in (ruled_by g y) q a)
    (back : (q : ℕ) (a : Primitive) → refuses_in (ruled_by g y) q a ≡ refuses_in (ruled_by g x) q a) where
  abbrev u : Game
  u = ruled_by g x

  abbrev v : Game
  v = ruled_by g y

  pub full_same : (call : Called) (q e set : ℕ) → IsFull (ruled_by g x) call q e set → IsFull (ruled_by g y) call q e set
  full_same call q e set f = record {
    states = f.states;
    kept = λ z t l. f.kept z t (lost_same g y x back call.back (returned g.states (kept_at call.split q) z) (has e) l);
    left_out = λ z s t. lost_same g x y forth call.back (returned g.states (kept_at call.split q) z) (has e) (f.left_out z s t);
  }

  -- what is live stays so, if it goes on alike
  module _ (on : (p q e : ℕ) (pair : ℕ × ℕ) → IsLive (ruled_by g x) p q e → IsLive (ruled_by g y) p q e → resumed (ruled_by g x) p q ≡ Some pair
      → (IsLost (ruled_by g x) pair.0 pair.1 (has e) → ⊥) → IsLive (ruled_by g y) pair.0 pair.1 e) where
    pub live_same : (p q e : ℕ) → IsLive (ruled_by g x) p q e → IsLive (ruled_by g y) p q e
    live_same p q e begins = begins
    live_same r s t (skips p q e j i a live es n) = skips p q e j i a (live_same p q e live) es (λ l. n (lost_same g y x back (p + 2) q (has e) l))
    live_same r s t (tries p q e j i a live es l) = tries p q e j i a (live_same p q e live) es (lost_same g x y forth (p + 2) q (has e) l)
    live_same r s t (moves p q e by next live w c l) = moves p q e by next (live_same p q e live) w c (sym (leads_same g x y forth p q [] (slice_get g.spots p) by) ∙ l)
    live_same r s t (goes_on p q e pair live is n) = on p q e pair live (live_same p q e live) is n
    live_same r s t (calls p q e set call live es f) = calls p q e set call (live_same p q e live) es (full_same call q e set f)
    live_same r s t (returns p q e set z call live es f ended) =
        returns p q e set z call (live_same p q e live) es (full_same call q e set f) (live_same (g.exit call.function) z set ended)

  -- and so do the rows of the table, where going on is the same at what is asked
  module _ (live : (p q e : ℕ) → IsLive (ruled_by g x) p q e → IsLive (ruled_by g y) p q e)
      (goes : (ms : List (StateId × ℕ)) (p q e j i : ℕ) (a : Primitive) (m : Option MemId) → IsLive (ruled_by g x) p q e → slice_get g.spots p ≡ Some (Asked j i a)
      → GoesOn (ruled_by g x) ms e (resumed (ruled_by g x) p q) m → GoesOn (ruled_by g y) ms e (resumed (ruled_by g y) p q) m) where
    pub memory_same : (r : StateId × ℕ) → IsMemory (ruled_by g x) r → IsMemory (ruled_by g y) r
    memory_same r h = record { pos = h.pos; live = live h.pos r.0.0 r.1 h.live }

    module _ (ms : List (StateId × ℕ)) where
      pub row_same : (r : PosId × MemId) → IsLiveRow (ruled_by g x) ms r → IsLiveRow (ruled_by g y) ms r
      row_same r h = record { state = h.state; promise = h.promise; live = live r.0.0 h.state h.promise h.live; meant = h.meant }

      refused_same : (p q e j i : ℕ) (a : Primitive) (o : Option Config) (m : Option MemId) → IsLive (ruled_by g x) p q e → slice_get g.spots p ≡ Some (Asked j i a)
          → IsRefused (ruled_by g x) ms p q e o m → IsRefused (ruled_by g y) ms p q e o m
      refused_same p q e j i a None m l es h = goes ms p q e j i a m l es h
      refused_same p q e j i a (Some c) m l es h = h

      pub try_same : (r : TryRow) → IsTryRow (ruled_by g x) ms r → IsTryRow (ruled_by g y) ms r
      try_same r h =
          let s = Some (Asked r.seam.0 r.stage h.prim) in
          record {
            pos = h.pos;
            state = h.state;
            promise = h.promise;
            prim = h.prim;
            live = live h.pos h.state h.promise h.live;
            asked = h.asked;
            meant = h.meant;
            granted = subst (λ o. IsAfter ms h.promise o r.granted) (leads_same g x y forth h.pos h.state [] s Grant) h.granted;
            refused = subst (λ o. IsRefused v ms h.pos h.state h.promise o r.refused) (leads_same g x y forth h.pos h.state [] s Refuse)
                (refused_same h.pos h.state h.promise r.seam.0 r.stage h.prim (leads_in u h.pos h.state [] s Refuse) r.refused h.live h.asked h.refused);
          }

      pub label_same : (r : AtRow) → IsLabelRow (ruled_by g x) ms r → IsLabelRow (ruled_by g y) ms r
      label_same r h = record {
        pos = h.pos;
        state = h.state;
        promise = h.promise;
        label = h.label;
        next = h.next;
        live = live h.pos h.state h.promise h.live;
        spot = h.spot;
        meant = h.meant;
        after = h.after;
      }

      pub open_same : (r : OpenRow) → IsOpenRow (ruled_by g x) ms r → IsOpenRow (ruled_by g y) ms r
      open_same r h = record {
        pos = h.pos;
        state = h.state;
        promise = h.promise;
        descriptor = h.descriptor;
        next = h.next;
        live = live h.pos h.state h.promise h.live;
        spot = h.spot;
        meant = h.meant;
        opened = h.opened;
        failed = h.failed;
      }

      pub close_same : (r : AtRow) → IsCloseRow (ruled_by g x) ms r → IsCloseRow (ruled_by g y) ms r
      close_same r h = record {
        pos = h.pos;
        state = h.state;
        promise = h.promise;
        descriptor = h.descriptor;
        next = h.next;
        live = live h.pos h.state h.promise h.live;
        spot = h.spot;
        meant = h.meant;
        after = h.after;
      }

      called_same : (seam : ℕ) (split : Bool) (m : ℕ) → IsCalled (ruled_by g x) ms seam split m → IsCalled (ruled_by g y) ms seam split m
      called_same seam split m h = record {
        pos = h.pos;
        state = h.state;
        promise = h.promise;
        call = h.call;
        set = h.set;
        live = live h.pos h.state h.promise h.live;
        is_call = h.is_call;
        seams = h.seams;
        modes = h.modes;
        meant = h.meant;
        full = full_same h.call h.state h.promise h.set h.full;
      }

      pub into_same : (r : IntoRow) → IsIntoRow (ruled_by g x) ms r → IsIntoRow (ruled_by g y) ms r
      unfolding called_same
      into_same r h = record { called = called_same r.seam.0 r.split r.mem.0 h.called; callee = h.callee }

      pub back_same : (r : BackRow) → IsBackRow (ruled_by g x) ms r → IsBackRow (ruled_by g y) ms r
      unfolding called_same
      back_same r h = record {
        called = called_same r.seam.0 r.split r.mem.0 h.called;
        ended = live (g.exit h.called.call.function) r.exit.0 h.called.set h.ended;
        after = h.after;
      }

-- so the table is the same, where the live pairs are the same and going on is
module _ (g : Game) (x y : PlainPolicy)
    (forth : (q : ℕ) (a : Primitive) → refuses_in (ruled_by g x) q a ≡ refuses_in (ruled_by g y) q a)
    (back : (q : ℕ) (a : Primitive) → refuses_in (ruled_by g y) q a ≡ refuses_in (ruled_by g x) q a)
    (live : (p q e : ℕ) → IsLive (ruled_by g x) p q e → IsLive (ruled_by g y) p q e)
    (lives : (p q e : ℕ) → IsLive (ruled_by g y) p q e → IsLive (ruled_by g x) p q e)
    (goes : (ms : List (StateId × ℕ)) (p q e j i : ℕ) (a : Primitive) (m : Option MemId) → IsLive (ruled_by g x) p q e → slice_get g.spots p ≡ Some (Asked j i a)
    → GoesOn (ruled_by g x) ms e (resumed (ruled_by g x) p q) m → GoesOn (ruled_by g y) ms e (resumed (ruled_by g y) p q) m)
    (comes : (ms : List (StateId × ℕ)) (p q e j i : ℕ) (a : Primitive) (m : Option MemId) → IsLive (ruled_by g y) p q e → slice_get g.spots p ≡ Some (Asked j i a)
    → GoesOn (ruled_by g y) ms e (resumed (ruled_by g y) p q) m → GoesOn (ruled_by g x) ms e (resumed (ruled_by g x) p q) m) where
  abbrev a : Game
  a = ruled_by g x

  abbrev b : Game
  b = ruled_by g y

  pub table_same : (t : Table) → IsLazyTable (ruled_by g x) t → IsLazyTable (ruled_by g y) t
  table_same t h = record {
    states = h.states;
    start = h.start;
    mems = exactly mem_cmp (IsMemory a) (IsMemory b) t.mems (memory_same g x y forth back live goes) (memory_same g y x back forth lives comes) h.mems;
    live = exactly live_cmp (IsLiveRow a t.mems) (IsLiveRow b t.mems) t.live (row_same g x y forth back live goes t.mems) (row_same g y x back forth lives comes t.mems) h.live;
    tries = exactly try_cmp (IsTryRow a t.mems) (IsTryRow b t.mems) t.tries (try_same g x y forth back live goes t.mems) (try_same g y x back forth lives comes t.mems) h.tries;
    ats = exactly at_cmp (IsLabelRow a t.mems) (IsLabelRow b t.mems) t.ats (label_same g x y forth back live goes t.mems) (label_same g y x back forth lives comes t.mems) h.ats;
    opened = exactly open_cmp (IsOpenRow a t.mems) (IsOpenRow b t.mems) t.opened (open_same g x y forth back live goes t.mems) (open_same g y x back forth lives comes t.mems) h.opened;
    closed = exactly at_cmp (IsCloseRow a t.mems) (IsCloseRow b t.mems) t.closed (close_same g x y forth back live goes t.mems) (close_same g y x back forth lives comes t.mems) h.closed;
    into = exactly into_cmp (IsIntoRow a t.mems) (IsIntoRow b t.mems) t.into (into_same g x y forth back live goes t.mems) (into_same g y x back forth lives comes t.mems) h.into;
    back = exactly back_cmp (IsBackRow a t.mems) (IsBackRow b t.mems) t.back (back_same g x y forth back live goes t.mems) (back_same g y x back forth lives comes t.mems) h.back;
  }

-- what resumes is asked, and goes on behind it
resumed_asked : (g : Game) (p q : ℕ) (s : Option Spot) (pair : ℕ × ℕ) → resumed_in g p q s ≡ Some pair → (j : ℕ) × (i : ℕ) × (a : Primitive) × (s ≡ Some (Asked j i a)) × ((p + 1, q) ≡ pair)
resumed_asked g p q (Some (Asked j i a)) pair e = (j, i, a, refl, by (can_stop_in g q a) e)
  where
    by : (b : Bool) → cond b (Some (p + 1, q)) None ≡ Some pair → (p + 1, q) ≡ pair
    by true e = same_Some (p + 1, q) pair e
    by false e = absurd (none-some pair e)
resumed_asked g p q None pair e = absurd (none-some pair e)
resumed_asked g p q (Some _) pair e = absurd (none-some pair e)

-- where nothing can be refused nothing resumes
never_stops : (g : Game) (q : ℕ) (a : Primitive) → can_stop_in (ruled_by g (unrefused g.policy)) q a ≡ false
never_stops g q (Limit limit) = by g.policy.stop
  where
    by : (b : Bool) → (b && (false && g.states.may_grant q (Limit limit))) ≡ false
    by true = refl
    by false = refl
never_stops g q Enter = by g.policy.stop
  where
    by : (b : Bool) → (b && (false && g.states.may_grant q Enter)) ≡ false
    by true = refl
    by false = refl
never_stops g q Split = by g.policy.stop
  where
    by : (b : Bool) → (b && (false && g.states.may_grant q Split)) ≡ false
    by true = refl
    by false = refl

resumes_none : (g : Game) (p q j i : ℕ) (a : Primitive) → resumed_in (ruled_by g (unrefused g.policy)) p q (Some (Asked j i a)) ≡ None
resumes_none g p q j i a = ap (λ b. cond b (Some (p + 1, q)) None) (never_stops g q a)

module _ (g : Game) (functions : ℕ) (stop : g.policy.stop ≡ true) (can : CanBegin g functions) where
  abbrev x : PlainPolicy
  x = g.policy

  abbrev y : PlainPolicy
  y = unrefused g.policy

  -- at what is asked the skip is lost
  skip_lost : (p q e j i : ℕ) (a : Primitive) → IsLive g p q e → slice_get g.spots p ≡ Some (Asked j i a) → IsLost g (p + 1) q (has e)
  skip_lost p q e j i a live es =
      let c = came g functions can.routed can.staged can.first can.kept p q e live (j, i, a, es) in
      let z : c.0 + 2 ≡ p + 1 = omega (arith, c.4) in
      subst (λ r. IsLost g r q (has e)) z c.6

  stays : (p q e : ℕ) (pair : ℕ × ℕ) → IsLive g p q e → resumed g p q ≡ Some pair → (IsLost g pair.0 pair.1 (has e) → ⊥) → ⊥
  stays p q e pair live is n =
      let r = resumed_asked g p q (slice_get g.spots p) pair is in
      n (subst (λ (k : ℕ × ℕ). IsLost g k.0 k.1 (has e)) r.4 (skip_lost p q e r.0 r.1 r.2 live r.3))

  never : (p q e : ℕ) (pair : ℕ × ℕ) → IsLive (ruled_by g (unrefused g.policy)) p q e → resumed (ruled_by g (unrefused g.policy)) p q ≡ Some pair
      → (IsLost (ruled_by g (unrefused g.policy)) pair.0 pair.1 (has e) → ⊥) → ⊥
  never p q e pair live is n =
      let r = resumed_asked (ruled_by g y) p q (slice_get g.spots p) pair is in
      none-some pair (sym (ap (resumed_in (ruled_by g y) p q) r.3 ∙ resumes_none g p q r.0 r.1 r.2) ∙ is)

  pub live_forth : (p q e : ℕ) → IsLive g p q e → IsLive (ruled_by g (unrefused g.policy)) p q e
  live_forth = live_same g x y (refuse_alike g stop) (refuse_back g stop) (λ p q e pair live same is n. absurd (stays p q e pair live is n))

  pub live_back : (p q e : ℕ) → IsLive (ruled_by g (unrefused g.policy)) p q e → IsLive g p q e
  live_back = live_same g y x (refuse_back g stop) (refuse_alike g stop) (λ p q e pair live same is n. absurd (never p q e pair live is n))

  goes : (ms : List (StateId × ℕ)) (p q e j i : ℕ) (a : Primitive) (m : Option MemId) → IsLive g p q e → slice_get g.spots p ≡ Some (Asked j i a)
      → GoesOn g ms e (resumed g p q) m → GoesOn (ruled_by g (unrefused g.policy)) ms e (resumed (ruled_by g (unrefused g.policy)) p q) m
  goes ms p q e j i a m live es h = subst (λ o. GoesOn (ruled_by g y) ms e o m) (sym (ap (resumed_in (ruled_by g y) p q) es ∙ resumes_none g p q j i a)) (by (resumed g p q) refl m h)
    where
      by : (o : Option (ℕ × ℕ)) → resumed g p q ≡ o → (m : Option MemId) → GoesOn g ms e o m → m ≡ None
      by None is m h = h
      by (Some pair) is None h = refl
      by (Some pair) is (Some k) h = absurd (stays p q e pair live is h.0)

  comes : (ms : List (StateId × ℕ)) (p q e j i : ℕ) (a : Primitive) (m : Option MemId) → IsLive (ruled_by g (unrefused g.policy)) p q e → slice_get g.spots p ≡ Some (Asked j i a)
      → GoesOn (ruled_by g (unrefused g.policy)) ms e (resumed (ruled_by g (unrefused g.policy)) p q) m → GoesOn g ms e (resumed g p q) m
  comes ms p q e j i a m live es h =
      let n : m ≡ None = subst (λ o. GoesOn (ruled_by g y) ms e o m) (ap (resumed_in (ruled_by g y) p q) es ∙ resumes_none g p q j i a) h in
      subst (GoesOn g ms e (resumed g p q)) (sym n) (by (resumed g p q) refl)
    where
      by : (o : Option (ℕ × ℕ)) → resumed g p q ≡ o → GoesOn g ms e o None
      by None is = refl
      by (Some pair) is =
          let r = resumed_asked g p q (slice_get g.spots p) pair is in
          subst (λ (k : ℕ × ℕ). IsLost g k.0 k.1 (has e)) r.4 (skip_lost p q e r.0 r.1 r.2 (live_back p q e live) r.3)

pub table_kept : StopKeepsTheTable
table_kept g functions stop can =
    let x = g.policy in
    let y = unrefused g.policy in
    let forth = refuse_alike g stop in
    let back = refuse_back g stop in
    let live = live_forth g functions stop can in
    let lives = live_back g functions stop can in (
      λ p q e. (live p q e, lives p q e),
      λ t. (
        table_same g x y forth back live lives (goes g functions stop can) (comes g functions stop can) t,
        table_same g y x back forth lives live (comes g functions stop can) (goes g functions stop can) t,
      ),
    )
