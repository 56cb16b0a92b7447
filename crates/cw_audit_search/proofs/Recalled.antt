-- What a way stands for is a run that is no longer than its number says.
use Rattle.std.proofs.Common.{◌≡◌, ℕ, zero, suc, ◌+◌, ◌<◌, ◌≤◌, List, [], ◌∷◌, ◌++◌, true, false}
use Rattle.std.proofs.Common.{Option, Some, None, length, refl, sym, ap, ◌∙◌, subst, arith, append_assoc, append-nil, length-append, inr}
use Rattle.std.specs.Prelude.{slice_get}
use Rattle.cw_certs.specs.declared.moves.Move.{Move}
use Rattle.cw_certs.specs.declared.moves.Move.TheVariants.{On}
use Rattle.cw_game.specs.declared.spots.Spot.TheVariants.{Call, Exit}
use Rattle.cw_game.specs.Games.{Game, Ret, Config, at_pair, leads_in, bad_in}
use Rattle.cw_game.specs.Linked.{is_bad_at}
use Rattle.cw_audit_table.specs.Runs.{skipped, cut, is_step, Goes, here, goes, start_at, IsHit}
use Rattle.cw_audit_table.specs.Conditions.{is_inner}
use Rattle.cw_audit_table.proofs.Skips.{come}
use Rattle.cw_audit_table.proofs.Bounds.{inner_leads}
use Rattle.cw_audit_search.specs.Searches.{Found}
use Rattle.cw_audit_search.specs.Sound.{IsFair, IsSound}
use Rattle.cw_audit_search.specs.Ways.{Way, Begun, Moved, Returned, Caller, BadWay, Ways, IsWay, IsCaller, AreWays}
use Rattle.cw_audit_search.specs.Ways.{Todo, Reach, Row, Step, unfold_way, unfold_hit, Unfolds, done, step, row, reach}
use Rattle.cw_audit_search.proofs.Runs.{followed, deeper}

-- These are written before what stands for those.
abbrev pub Before : Game → Ways → List Todo → List Move → Type 0
Before g w todo ms = (more : List Todo) (ns : List Move) → Unfolds g w more ns → Unfolds g w (todo ++ more) (ms ++ ns)

-- a run within an activation, no longer than n, for which these stand
pub record IsRecalled (g : Game) (w : Ways) (f q p x n : ℕ) (todo : List Todo) : Type 0 where
  pub moves : List Move
  pub short : length moves ≤ n
  pub run : Goes g (at_pair (g.entry f) q []) moves (at_pair p x [])
  pub before : Before g w todo moves

-- a run from the start to an entry
pub record IsReached (g : Game) (w : Ways) (f q n : ℕ) (todo : List Todo) : Type 0 where
  pub moves : List Move
  pub short : length moves ≤ n
  pub rets : List Ret
  pub run : Goes g (start_at g) moves (at_pair (g.entry f) q rets)
  pub before : Before g w todo moves

module _ (g : Game) (functions : ℕ) (fair : IsFair g functions) (s : Found) (sound : IsSound g functions s) (w : Ways) (ways : AreWays g s w) where
  -- rows with numbers below m are recalled
  abbrev Below : ℕ → Type 0
  Below m = (f q p x a : ℕ) → s.number f q p x ≡ Some a → a < m → a ≤ 65536 → IsRecalled g w f q p x a (Row f q p x ∷ [])

  good_row : (f q p x a : ℕ) → s.number f q p x ≡ Some a → bad_in g x (slice_get g.spots p) ≡ false
  good_row f q p x a e = (sound.inside f q p x a e).1.4

  moved_recalled : (m f q p0 x0 n a : ℕ) (by : Move) (c : Config) → Below m → n ≤ m → n ≤ 65536 → s.number f q p0 x0 ≡ Some a → cut (a + 1) ≤ n
      → is_inner (slice_get g.spots p0) ≡ true → is_step by ≡ true → leads_in g p0 x0 [] (slice_get g.spots p0) by ≡ Some c
      → IsRecalled g w f q (skipped g c.pos) c.state n (unfold_way g f q (Moved p0 x0 by))
  moved_recalled m f q p0 x0 n a by c below le few e low inner st l =
      let r = below f q p0 x0 a e (omega (arith, low, le, few)) (omega (arith, low, few)) in
      let go = goes r.moves (at_pair p0 x0 []) (at_pair c.pos c.state []) by r.run (good_row f q p0 x0 a e) st (inner_leads g p0 x0 [] (slice_get g.spots p0) by c inner l).0 in
      record {
        moves = r.moves ++ by ∷ [];
        short = let short = r.short in omega (arith, length-append r.moves (by ∷ []), short, low, few);
        run = come g c.pos c.state [] (at_pair (g.entry f) q []) (r.moves ++ by ∷ []) go;
        before = λ more ns u. subst (Unfolds g w (Row f q p0 x0 ∷ Step by ∷ more)) (sym (append_assoc r.moves (by ∷ []) ns)) (r.before (Step by ∷ more) (by ∷ ns) (step by more ns u));
      }

  returned_recalled : (m f q p0 x0 h y n a e j k i : ℕ) → Below m → n ≤ m → n ≤ 65536 → s.number f q p0 x0 ≡ Some a → s.number h x0 (g.exit h) y ≡ Some e → cut (a + e + 2) ≤ n
      → slice_get g.spots p0 ≡ Some (Call j h k) → slice_get g.spots (g.exit h) ≡ Some (Exit i) → IsRecalled g w f q (skipped g k) y n (unfold_way g f q (Returned p0 x0 h y))
  returned_recalled m f q p0 x0 h y n a e j k i below le few ea ee low call exit =
      let ret : Ret = record { back = k; kept = None } in
      let r = below f q p0 x0 a ea (omega (arith, low, le, few)) (omega (arith, low, few)) in
      let v = below h x0 (g.exit h) y e ee (omega (arith, low, le, few)) (omega (arith, low, few)) in
      let start = at_pair (g.entry f) q [] in
      let go = goes r.moves (at_pair p0 x0 []) (at_pair (g.entry h) x0 (ret ∷ [])) On r.run (good_row f q p0 x0 a ea) refl (ap (λ o. leads_in g p0 x0 [] o On) call) in
      let through = followed g start (at_pair (g.entry h) x0 (ret ∷ [])) (at_pair (g.exit h) y (ret ∷ [])) (r.moves ++ On ∷ []) v.moves go
      (deeper g (ret ∷ []) (at_pair (g.entry h) x0 []) (at_pair (g.exit h) y []) v.moves v.run) in
      let back = goes ((r.moves ++ On ∷ []) ++ v.moves) (at_pair (g.exit h) y (ret ∷ [])) (at_pair k y []) On through (good_row h x0 (g.exit h) y e ee) refl
      (ap (λ o. leads_in g (g.exit h) y (ret ∷ []) o On) exit) in
      record {
        moves = ((r.moves ++ On ∷ []) ++ v.moves) ++ On ∷ [];
        short =
            let a1 = r.short in
            let a2 = v.short in
            omega (arith, length-append ((r.moves ++ On ∷ []) ++ v.moves) (On ∷ []), length-append (r.moves ++ On ∷ []) v.moves, length-append r.moves (On ∷ []), a1, a2, low, few);
        run = come g k y [] start (((r.moves ++ On ∷ []) ++ v.moves) ++ On ∷ []) back;
        before = λ more ns u.
            let last = v.before (Step On ∷ more) (On ∷ ns) (step On more ns u) in
            let first = r.before (Step On ∷ Row h x0 (g.exit h) y ∷ Step On ∷ more) (On ∷ (v.moves ++ (On ∷ ns)))
            (step On (Row h x0 (g.exit h) y ∷ Step On ∷ more) (v.moves ++ (On ∷ ns)) last) in
            subst (Unfolds g w (Row f q p0 x0 ∷ Step On ∷ Row h x0 (g.exit h) y ∷ Step On ∷ more)) (sym (parts r.moves v.moves ns)) first;
      }
    where
      parts : (xs ys zs : List Move) → (((xs ++ On ∷ []) ++ ys) ++ On ∷ []) ++ zs ≡ xs ++ (On ∷ (ys ++ (On ∷ zs)))
      parts xs ys zs =
          append_assoc ((xs ++ On ∷ []) ++ ys) (On ∷ []) zs ∙ append_assoc (xs ++ On ∷ []) ys (On ∷ zs) ∙ append_assoc xs (On ∷ []) (ys ++ (On ∷ zs))

  -- a way to a pair, bad or not
  way_recalled : (m f q p x n : ℕ) (way : Way) → Below m → n ≤ m → n ≤ 65536 → IsWay g s f q p x n way → IsRecalled g w f q p x n (unfold_way g f q way)
  way_recalled m f q p x n Begun below le few h = record {
    moves = [];
    short = omega arith;
    run = subst (λ p. Goes g (at_pair (g.entry f) q []) [] (at_pair p x [])) (sym h.0)
        (subst (λ x. Goes g (at_pair (g.entry f) q []) [] (at_pair (skipped g (g.entry f)) x [])) (sym h.1) (come g (g.entry f) q [] (at_pair (g.entry f) q []) [] here));
    before = λ more ns u. u;
  }
  way_recalled m f q p x n (Moved p0 x0 by) below le few h =
      let c = h.5.0 in
      subst (λ p. IsRecalled g w f q p x n (unfold_way g f q (Moved p0 x0 by))) (sym h.5.2)
      (subst (λ x. IsRecalled g w f q (skipped g c.pos) x n (unfold_way g f q (Moved p0 x0 by))) (sym h.5.3) (moved_recalled m f q p0 x0 n h.0 by c below le few h.1 h.2 h.3 h.4 h.5.1))
  way_recalled m f q p x n (Returned p0 x0 k y) below le few h =
      let i = fair.ends k (inr (p0, h.5.0, h.5.1, h.5.2)) in
      subst (λ p. IsRecalled g w f q p x n (unfold_way g f q (Returned p0 x0 k y))) (sym h.5.3)
      (subst (λ x. IsRecalled g w f q (skipped g h.5.1) x n (unfold_way g f q (Returned p0 x0 k y))) (sym h.6)
      (returned_recalled m f q p0 x0 k y n h.0 h.1 h.5.0 h.5.1 i.0 below le few h.2 h.3 h.4 h.5.2 i.1))

  row_from : (f q p x a : ℕ) (way : Way) → w.row f q p x ≡ Some way → IsRecalled g w f q p x a (unfold_way g f q way) → IsRecalled g w f q p x a (Row f q p x ∷ [])
  row_from f q p x a way e t = record {
    moves = t.moves;
    short = t.short;
    run = t.run;
    before = λ more ns u. row f q p x way more (t.moves ++ ns) e (t.before more ns u);
  }

  -- each row, by its number
  rows_recalled : (m : ℕ) → Below m
  rows_recalled zero f q p x a e less few = absurd (omega (arith, less))
  rows_recalled (suc m) f q p x a e less few =
      let z = ways.rows f q p x a e in
      row_from f q p x a z.0 z.1 (way_recalled m f q p x a z.0 (rows_recalled m) (omega (arith, less)) few z.2)

  call_recalled : (f q r r0 a j k : ℕ) (c : Caller) → r ≤ 65536 → IsReached g w c.function c.entered r0 (Reach c.function c.entered ∷ []) → s.number c.function c.entered c.pos q ≡ Some a
      → cut (r0 + a + 1) ≤ r → slice_get g.spots c.pos ≡ Some (Call j f k) → w.call f q ≡ Some (Some c) → IsReached g w f q r (Reach f q ∷ [])
  call_recalled f q r r0 a j k c few from e low call ec =
      let ret : Ret = record { back = k; kept = None } in
      let t = rows_recalled (suc a) c.function c.entered c.pos q a e (omega arith) (omega (arith, low, few)) in
      let first = followed g (start_at g) (at_pair (g.entry c.function) c.entered from.rets) (at_pair c.pos q from.rets) from.moves t.moves from.run
      (deeper g from.rets (at_pair (g.entry c.function) c.entered []) (at_pair c.pos q []) t.moves t.run) in
      record {
        moves = (from.moves ++ t.moves) ++ On ∷ [];
        short =
            let a1 = from.short in
            let a2 = t.short in
            omega (arith, length-append (from.moves ++ t.moves) (On ∷ []), length-append from.moves t.moves, a1, a2, low, few);
        rets = ret ∷ from.rets;
        run = goes (from.moves ++ t.moves) (at_pair c.pos q from.rets) (at_pair (g.entry f) q (ret ∷ from.rets)) On first (good_row c.function c.entered c.pos q a e) refl
            (ap (λ o. leads_in g c.pos q from.rets o On) call);
        before = λ more ns u.
            let last = t.before (Step On ∷ more) (On ∷ ns) (step On more ns u) in
            let whole = from.before (Row c.function c.entered c.pos q ∷ Step On ∷ more) (t.moves ++ (On ∷ ns)) last in
            reach f q (Some c) more (((from.moves ++ t.moves) ++ On ∷ []) ++ ns) ec
            (subst (Unfolds g w (Reach c.function c.entered ∷ Row c.function c.entered c.pos q ∷ Step On ∷ more)) (sym (parts from.moves t.moves ns)) whole);
      }
    where
      parts : (xs ys zs : List Move) → ((xs ++ ys) ++ On ∷ []) ++ zs ≡ xs ++ (ys ++ (On ∷ zs))
      parts xs ys zs = append_assoc (xs ++ ys) (On ∷ []) zs ∙ append_assoc xs ys (On ∷ zs)

  -- each group, by its reach
  reach_recalled : (m f q r : ℕ) → s.reach f q ≡ Some r → r < m → r ≤ 65536 → IsReached g w f q r (Reach f q ∷ [])
  reach_recalled zero f q r e less few = absurd (omega (arith, less))
  reach_recalled (suc m) f q r e less few = let z = ways.calls f q r e in by z.0 z.1 z.2 (λ f0 q0 r0 e0 l. reach_recalled m f0 q0 r0 e0 (omega (arith, l, less)) (omega (arith, l, few)))
    where
      by : (o : Option Caller) → w.call f q ≡ Some o → IsCaller g s f q r o → ((f0 q0 r0 : ℕ) → s.reach f0 q0 ≡ Some r0 → r0 < r → IsReached g w f0 q0 r0 (Reach f0 q0 ∷ []))
          → IsReached g w f q r (Reach f q ∷ [])
      by None ec h k = record {
        moves = [];
        short = omega arith;
        rets = [];
        run = subst (λ f. Goes g (start_at g) [] (at_pair (g.entry f) q [])) (sym h.0) (subst (λ q. Goes g (start_at g) [] (at_pair (g.entry g.main) q [])) (sym h.1) here);
        before = λ more ns u. reach f q None more ns ec u;
      }
      by (Some c) ec h k = call_recalled f q r h.0 h.1 h.5.0 h.5.1 c few (k c.function c.entered h.0 h.2 (omega (arith, h.4, few))) h.3 h.4 h.5.2 ec

  -- The way of the nearest violation stands for a run to a bad pair that is no longer; where no run is shorter it is as long.
  pub recalled : (T : ℕ) → s.best ≡ Some T → T ≤ 65536 → ((n : ℕ) → IsHit g n → T ≤ n)
      → (h : BadWay) × (w.hit ≡ Some h) × ((ms : List Move) × Unfolds g w (unfold_hit g h) ms × (length ms ≡ T) × ((c : Config) × Goes g (start_at g) ms c × (is_bad_at g c ≡ true)))
  recalled T e few least =
      let z = ways.hit T e in
      let h = z.0 in
      let b = z.2 in
      let sum = b.sum in
      let from = reach_recalled (suc b.reach) h.function h.entered b.reach b.group (omega arith) (omega (arith, sum, few)) in
      let t = way_recalled (suc b.inside) h.function h.entered b.pos b.state b.inside h.way (rows_recalled (suc b.inside)) (omega arith) (omega (arith, sum, few)) b.leads in
      let run = followed g (start_at g) (at_pair (g.entry h.function) h.entered from.rets) (at_pair b.pos b.state from.rets) from.moves t.moves from.run
      (deeper g from.rets (at_pair (g.entry h.function) h.entered []) (at_pair b.pos b.state []) t.moves t.run) in
      let hit : IsHit g (length (from.moves ++ t.moves)) = (from.moves ++ t.moves, refl, (at_pair b.pos b.state from.rets, run, b.bad)) in
      let todo = unfold_way g h.function h.entered h.way in
      let rest = subst (λ ms. Unfolds g w ms t.moves) (append-nil todo) (subst (Unfolds g w (todo ++ [])) (append-nil t.moves) (t.before [] [] done)) in
      let whole = from.before todo t.moves rest in
      let low = least (length (from.moves ++ t.moves)) hit in
      let s1 = from.short in
      let s2 = t.short in
      (h, z.1, (from.moves ++ t.moves, whole, omega (arith, length-append from.moves t.moves, low, s1, s2, sum, few), (at_pair b.pos b.state from.rets, run, b.bad)))
