-- Steps of a search, one after another.
use Rattle.std.proofs.Common.{◌≡◌, ℕ, ◌+◌, ◌∙◌, ◌≤◌, ◌<◌, length, Bool, true, false, Some, refl, sym, ap, subst, arith}
use Rattle.std.specs.Prelude.{option_map, cond, ◌||◌}
use Rattle.std.proofs.lemmas.Option.{same_Some}
use Rattle.cw_lemmas.proofs.Options.{option_map_some}
use Rattle.cw_game.specs.Games.{Game}
use Rattle.cw_product.specs.Product.{Held, game_of}
use Rattle.cw_audit_store.specs.declared.row_key.Entrance.{Entrance}
use Rattle.cw_audit_store.specs.declared.row_key.RowKey.{RowKey}
use Rattle.cw_core.specs.declared.ids.PosId.{PosId}
use Rattle.cw_audit_store.specs.declared.row_key.Row.{Row}
use Rattle.cw_audit_store.specs.declared.row_key.Way.TheVariants.{Begun, Returned}
use Rattle.cw_audit_store.specs.declared.row_key.Entered.{Entered}
use Rattle.cw_audit_store.specs.Stores.{row_at, group_at}
use Rattle.cw_audit_table.specs.Runs.{cut, skipped}
use Rattle.cw_audit_search.specs.Sound.{IsArrival, IsProposal}
use Rattle.cw_audit_search.specs.Ways.{IsCaller}
use Rattle.cw_audit_search.proofs.Ways.{reach_ways}
use Rattle.cw_audit_search.specs.Settled.{IsCovered}
use Rattle.cw_audit_search.proofs.Proposing.{entry_proposal, return_proposal, fallen_trans}
use Rattle.cw_audit_search.proofs.Setting.{reach_sound, reach_falls, group_itself}
use Rattle.cw_audit_visits.specs.declared.met.Met.{Met}
use Rattle.cw_audit_visits.specs.declared.under_way.Search.{Search}
use Rattle.cw_audit_visits.specs.Searching.{row_key, found_of, functions_of, left, ways_of, caller_of, IsFairGame, IsKept, IsGoneOn, IsNoted, Tells}
use Rattle.cw_audit_visits.specs.Searching.{IsGroupFalling, IsGroupSet, IsCallAt, MayStand, IsReturnNoted, IsDue, IsThere}
use Rattle.cw_audit_visits.proofs.Sets.{group_reach, group_call}
use Rattle.cw_audit_visits.proofs.Oks.{by_truth}
use Rattle.cw_audit_visits.proofs.Waits.{waits_same, wait_trans}

pub gone_trans : (h : Held) (a b c : Search) → IsGoneOn h a b → IsGoneOn h b c → IsGoneOn h a c
gone_trans h a b c x y = record {
  kept = y.kept;
  fallen = fallen_trans (found_of a.store) (found_of b.store) (found_of c.store) x.fallen y.fallen;
  waits = wait_trans a b c y.fallen x.waits y.waits;
}

module _ (h : Held) (s s2 : Search) (at : Entrance) (entered : Entered) where
  abbrev g : Game
  g = game_of h

  -- a group is set
  pub group_gone_on : IsFairGame h → IsKept (game_of h) (functions_of h) s → IsArrival (game_of h) at.function at.state.0 entered.reach
      → IsCaller (game_of h) (found_of s.store) at.function at.state.0 entered.reach (option_map caller_of entered.call) → IsGroupFalling s at entered.reach
      → IsGroupSet s.store s2.store at entered → s2.frontier.rows ≡ s.frontier.rows → IsGoneOn h s s2
  group_gone_on fair kept arrival caller falls set rests =
      let set2 = group_reach s.store s2.store at.function at.state.0 entered set in
      let falls2 : (a : ℕ) → (found_of s.store).reach at.function at.state.0 ≡ Some a → entered.reach ≤ a =
      λ a e. let r = option_map_some (λ (e : Entered). e.reach) (group_at s.store at) a e in subst (λ m. entered.reach ≤ m) r.2 (falls r.0 r.1) in
      let fallen = reach_falls g (functions_of h) fair (found_of s.store) (found_of s2.store) kept.sound at.function at.state.0 entered.reach set2 falls2 in
      record {
        kept = record {
          sound = reach_sound g (functions_of h) fair (found_of s.store) (found_of s2.store) kept.sound at.function at.state.0 entered.reach set2 falls2 arrival;
          ways = reach_ways g (found_of s.store) (found_of s2.store) fallen (ways_of s.store) (ways_of s2.store) kept.ways at.function at.state.0 entered.reach (option_map caller_of entered.call)
              set2 (group_call s.store s2.store at.function at.state.0 entered set) caller;
        };
        fallen = fallen;
        waits = waits_same s s2 set.rows rests;
      }

  -- then it is there
  pub group_there : IsGroupSet s.store s2.store at entered → (found_of s2.store).reach at.function at.state.0 ≡ Some entered.reach
  group_there set =
      (group_reach s.store s2.store at.function at.state.0 entered set).reach at.function at.state.0
      ∙ ap (λ b. cond b (Some entered.reach) ((found_of s.store).reach at.function at.state.0)) (group_itself at.function at.state.0)

-- the entry of a group may be proposed
pub entry_due : (h : Held) (s : Search) (f q : ℕ) (p : PosId) → IsFairGame h → IsKept (game_of h) (functions_of h) s → p.0 ≡ (game_of h).entry f
    → (r : ℕ) × ((found_of s.store).reach f q ≡ Some r)
    → IsDue h s (row_key f q p.0 q) 0 Begun
entry_due h s f q p fair kept is known = record {
  proposal = subst (λ p. IsProposal (game_of h) (found_of s.store) f q p q 0) (sym is) (entry_proposal (game_of h) (functions_of h) fair (found_of s.store) kept.sound f q known.0 known.1);
  leads = (ap (skipped (game_of h)) is, refl);
}

module _ (h : Held) (s : Search) (at : RowKey) (f k y : ℕ) (call : IsCallAt h at f k) where
  -- behind a return
  pub return_due : (fair : IsFairGame h) (kept : IsKept (game_of h) (functions_of h) s) (row end : Row) (n : ℕ) → row_at s.store at ≡ Some row
      → row_at s.store (row_key f at.state.0 ((game_of h).exit f) y) ≡ Some end → n ≡ cut (row.inside + end.inside + 2)
      → IsDue h s (row_key at.entrance.function at.entrance.state.0 k y) n (Returned at.state at.pos f (record { 0 = y }))
  return_due fair kept row end n er ee number =
      let ra = ap (option_map (λ (r : Row). r.inside)) er in
      let re = ap (option_map (λ (r : Row). r.inside)) ee in
      record {
        proposal = subst (λ n. IsProposal (game_of h) (found_of s.store) at.entrance.function at.entrance.state.0 k y n) (sym number)
            (return_proposal (game_of h) (functions_of h) fair (found_of s.store) kept.sound at.entrance.function at.entrance.state.0 at.pos.0 at.state.0 row.inside call.0 f k y end.inside
            ra call.1 re);
        leads = (row.inside, end.inside, ra, re, omega (arith, number), (call.0, k, call.1, refl), refl);
      }

  pub return_noted : (row end : Row) (n : ℕ) → row_at s.store at ≡ Some row → row_at s.store (row_key f at.state.0 ((game_of h).exit f) y) ≡ Some end → n ≡ cut (row.inside + end.inside + 2)
      → IsNoted h s (row_key at.entrance.function at.entrance.state.0 k y) n → IsReturnNoted h s at f k y
  return_noted row end n er ee number noted = λ r a e rr ra re.
      let same_a = same_Some row.inside a (sym (ap (option_map (λ (r : Row). r.inside)) er) ∙ ra) in
      let same_e = same_Some end.inside e (sym (ap (option_map (λ (r : Row). r.inside)) ee) ∙ re) in
      subst (λ n. IsCovered (game_of h) (found_of s.store) at.entrance.function at.entrance.state.0 r k y n) (omega (arith, number, same_a, same_e)) (noted r rr)

-- where a row may stand, its position is the game's
pub standing_position : (h : Held) (at : RowKey) → IsFairGame h → MayStand h at → at.pos.0 < length (game_of h).spots
standing_position h at fair may_stand = omega (arith, may_stand.position.1, fair.short at.entrance.function may_stand.function)

-- what a row within a function may go on from
pub there_may_stand : (h : Held) (s : Search) (met : Met) → IsKept (game_of h) (functions_of h) s → IsThere s met → MayStand h met.row_key
there_may_stand h s met kept there =
    let at = met.row_key in
    kept.sound.keyed at.entrance.function at.entrance.state.0 at.pos.0 at.state.0 met.row.inside (ap (option_map (λ (r : Row). r.inside)) there.row)

-- nothing changed that is found or waits
pub tells_nothing : (a b : Search) → b.store ≡ a.store → left b ≡ left a → Tells a b false
tells_nothing a b store same = record { same = λ e. (store, same); less = λ e. cc }

-- whether either changed anything
pub tells_both : (a b c : Search) (x y : Bool) → Tells a b x → Tells b c y → Tells a c (x || y)
tells_both a b c true y h k = record {
  same = λ e. cc;
  less = λ e. by_truth {X = left c < left a} y
      (λ n. let z = (k.same n).1 in omega (arith, z, h.less refl))
      (λ n. omega (arith, k.less n, h.less refl));
}
tells_both a b c false y h k = record {
  same = λ e. ((k.same e).0 ∙ (h.same refl).0, (k.same e).1 ∙ (h.same refl).1);
  less = λ e. let z = (h.same refl).1 in omega (arith, z, k.less e);
}
