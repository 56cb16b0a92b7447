-- A proposal is noted where nothing changes; and what is set keeps the search sound.
use Rattle.std.proofs.Common.{◌≡◌, ℕ, ◌+◌, ◌∙◌, ◌≤◌, Bool, true, false, Some, sym, ap, subst, arith}
use Rattle.std.specs.Prelude.{option_map, slice_get}
use Rattle.std.proofs.Math.Nat.{min-le_right}
use Rattle.cw_lemmas.proofs.Truths.{not_both}
use Rattle.cw_lemmas.proofs.Options.{option_map_some}
use Rattle.cw_game.specs.Games.{Game, bad_in}
use Rattle.cw_product.specs.Product.{Held, game_of}
use Rattle.cw_audit_store.specs.declared.row_key.RowKey.{RowKey}
use Rattle.cw_audit_store.specs.declared.row_key.Row.{Row}
use Rattle.cw_audit_store.specs.declared.row_key.Entered.{Entered}
use Rattle.cw_audit_store.specs.declared.row_key.Hit.{Hit}
use Rattle.cw_audit_store.specs.declared.row_key.Way.{Way}
use Rattle.cw_audit_store.specs.declared.store.Store.{Store}
use Rattle.indexmap.specs.IndexMap.{get}
use Rattle.cw_audit_store.specs.Stores.{row_at, entrance_eq}
use Rattle.cw_audit_table.specs.Runs.{cut, skipped}
use Rattle.cw_audit_search.specs.Sound.{IsSound, IsHitCut, HasFallen}
use Rattle.cw_audit_search.proofs.Proposing.{proposal_hits, fallen_refl}
use Rattle.cw_audit_search.specs.Ways.{AreWays}
use Rattle.cw_audit_search.proofs.Ways.{number_ways, best_ways}
use Rattle.cw_audit_search.proofs.Setting.{number_sound, number_falls, best_sound, best_falls}
use Rattle.cw_audit_visits.specs.declared.under_way.Search.{Search}
use Rattle.cw_audit_visits.specs.Searching.{entrance, row_key, found_of, functions_of, ways_of, way_of, bad_way_of, reach_of, IsFairGame, IsKept, IsDue, IsNoted}
use Rattle.cw_audit_visits.specs.Searching.{IsNear, IsPut, IsRowSet, IsHitSet, IsRowFalling, IsHitFalling, IsGoneOn}
use Rattle.cw_audit_visits.proofs.Waits.{waits_same, put_waits}
use Rattle.cw_audit_visits.proofs.Sets.{row_number, hit_best, row_way, hit_way}

abbrev pub at_rest : RowKey → ℕ → RowKey
at_rest at p = row_key at.entrance.function at.entrance.state.0 p at.state.0

-- the number of a row that is there
number_at : (s : Search) (at : RowKey) (r : Row) → row_at s.store at ≡ Some r
    → (found_of s.store).number at.entrance.function at.entrance.state.0 at.pos.0 at.state.0 ≡ Some r.inside
number_at s at r e = ap (option_map (λ (r : Row). r.inside)) e

-- the reach of a group is the same where the groups are
pub reach_same : (s s2 : Search) (at : RowKey) (r : ℕ) → s2.store.groups ≡ s.store.groups → reach_of s at ≡ Some r → reach_of s2 at ≡ Some r
reach_same s s2 at r groups e =
    ap (λ m. option_map (λ (e : Entered). e.reach) (get entrance_eq m (entrance at.entrance.function at.entrance.state.0))) groups ∙ e

module _ (h : Held) (s : Search) (at : RowKey) (n p : ℕ) (is : p ≡ skipped (game_of h) at.pos.0) where
  abbrev bad_at : ℕ → Bool
  bad_at p = bad_in (game_of h) at.state.0 (slice_get (game_of h).spots p)

  -- a row that isn't greater is there
  pub noted_row : bad_at p ≡ false → IsNear s (at_rest at p) n → IsNoted h s at n
  noted_row good near = λ r er. record {
    bad = λ b. absurd (not_both (bad_at p) (ap bad_at is ∙ b) good);
    good = λ b. (
      near.0.inside,
      subst (λ p. (found_of s.store).number at.entrance.function at.entrance.state.0 p at.state.0 ≡ Some near.0.inside) is (number_at s (at_rest at p) near.0 near.1),
      near.2,
    );
  }

  module _ (fair : IsFairGame h) (kept : IsKept (game_of h) (functions_of h) s) (by : Way) (due : IsDue h s at n by) (s2 : Search) where
    abbrev g : Game
    g = game_of h

    abbrev f : ℕ
    f = at.entrance.function

    abbrev q : ℕ
    q = at.entrance.state.0

    -- a row is set
    pub row_gone_on : (group : ℕ) → bad_at p ≡ false → IsRowFalling s (at_rest at p) n → IsRowSet s.store s2.store (at_rest at p) (record { inside = n; way = by; group = group })
        → (reach : ℕ) → reach_of s at ≡ Some reach → IsPut s s2 (at_rest at p) reach → IsGoneOn h s s2
    row_gone_on group good falls set reach known put =
        let row : Row = record { inside = n; way = by; group = group } in
        let there = subst (λ p. IsRowSet s.store s2.store (at_rest at p) row) is set in
        let wset = row_way s.store s2.store f q (skipped g at.pos.0) at.state.0 row there in
        let set2 = row_number s.store s2.store f q (skipped g at.pos.0) at.state.0 row there in
        let falls2 : (a : ℕ) → (found_of s.store).number f q (skipped g at.pos.0) at.state.0 ≡ Some a → n ≤ a =
        λ a e. subst (λ p. (found_of s.store).number f q p at.state.0 ≡ Some a → n ≤ a) is
        (λ e. let r = option_map_some (λ (r : Row). r.inside) (row_at s.store (at_rest at p)) a e in subst (λ m. n ≤ m) r.2 (falls r.0 r.1)) e in
        let x = at.state.0 in
        let fallen = number_falls g (functions_of h) fair (found_of s.store) (found_of s2.store) kept.sound f q at.pos.0 x n set2 falls2 in
        record {
          kept = record {
            sound = number_sound g (functions_of h) fair (found_of s.store) (found_of s2.store) kept.sound f q at.pos.0 x n set2 falls2 due.proposal (sym (ap bad_at is) ∙ good);
            ways = number_ways g (found_of s.store) (found_of s2.store) fallen (ways_of s.store) (ways_of s2.store) kept.ways f q (skipped g at.pos.0) x n (way_of by) set2 wset due.leads;
          };
          fallen = fallen;
          waits = put_waits s s2 (at_rest at p) reach (reach_same s s2 at reach set.groups known) put;
        }

    -- a violation is set
    pub hit_gone_on : (reach d : ℕ) → d ≡ cut (reach + n) → reach_of s at ≡ Some reach → bad_at p ≡ true → IsHitFalling s d
        → IsHitSet s.store s2.store (record { distance = d; entrance = at.entrance; way = by }) → s2.frontier.rows ≡ s.frontier.rows → IsGoneOn h s s2
    hit_gone_on reach d number er bad falls set rests =
        let set2 = hit_best s.store s2.store (record { distance = d; entrance = at.entrance; way = by }) set in
        let hit = proposal_hits g (functions_of h) fair (found_of s.store) kept.sound f q at.pos.0 at.state.0 n reach due.proposal er (sym (ap bad_at is) ∙ bad) in
        let fallen = best_falls g (functions_of h) fair (found_of s.store) (found_of s2.store) kept.sound d set2
        (λ a e. let r = option_map_some (λ (h : Hit). h.distance) s.store.hit a e in subst (λ m. d ≤ m) r.2 (falls r.0 r.1)) in
        let to : Hit = record { distance = d; entrance = at.entrance; way = by } in
        record {
          kept = record {
            sound = best_sound g (functions_of h) fair (found_of s.store) (found_of s2.store) kept.sound d set2 (subst (IsHitCut g) (sym number) hit);
            ways = best_ways g (found_of s.store) (found_of s2.store) fallen (ways_of s.store) (ways_of s2.store) kept.ways d (bad_way_of to) set2 (hit_way s.store s2.store to set)
                (record {
                  reach = reach;
                  inside = n;
                  pos = skipped g at.pos.0;
                  state = at.state.0;
                  group = er;
                  leads = due.leads;
                  bad = sym (ap bad_at is) ∙ bad;
                  sum = omega (arith, number);
                });
          };
          fallen = fallen;
          waits = waits_same s s2 set.rows rests;
        }

-- nothing is set
pub stays : (h : Held) (s s2 : Search) → s2.store ≡ s.store → s2.frontier.rows ≡ s.frontier.rows → IsKept (game_of h) (functions_of h) s → IsGoneOn h s s2
stays h s s2 e rests kept = record {
  kept = record {
    sound = subst (λ t. IsSound (game_of h) (functions_of h) (found_of t)) (sym e) kept.sound;
    ways = subst (λ t. AreWays (game_of h) (found_of t) (ways_of t)) (sym e) kept.ways;
  };
  fallen = subst (λ t. HasFallen (found_of s.store) (found_of t)) (sym e) (fallen_refl (found_of s.store));
  waits = waits_same s s2 (ap (λ (t : Store). t.rows) e) rests;
}

-- the reach of a group that is known
pub reach_low : (h : Held) (s : Search) (at : RowKey) (r : ℕ) → IsKept (game_of h) (functions_of h) s → reach_of s at ≡ Some r → r ≤ 65537
reach_low h s at r kept e =
    let a = kept.sound.entered at.entrance.function at.entrance.state.0 r e in
    omega (arith, a.number, min-le_right a.moves 65537)
