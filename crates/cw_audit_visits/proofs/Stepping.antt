-- What a row leads to within its function.
use Rattle.std.proofs.Common.{◌≡◌, ℕ, ◌+◌, ◌∙◌, ◌≤◌, [], true, false, Option, Some, refl, sym, ap, subst, arith}
use Rattle.std.specs.Prelude.{option_map}
use Rattle.std.proofs.lemmas.Option.{same_Some}
use Rattle.std.proofs.Math.Nat.{min-le_right}
use Rattle.cw_core.specs.declared.ids.PosId.{PosId}
use Rattle.cw_core.specs.declared.ids.StateId.{StateId}
use Rattle.cw_certs.specs.declared.moves.Move.{Move}
use Rattle.cw_game.specs.declared.spots.Spot.{Spot}
use Rattle.cw_game.specs.declared.spots.Spot.TheVariants.{Call}
use Rattle.cw_game.specs.Games.{Config, leads_in, bad_in}
use Rattle.cw_product.specs.Product.{Held, game_of}
use Rattle.cw_product.specs.Moves.{numbers, next_at}
use Rattle.cw_product.specs.MovesAt.{first_move, second_move}
use Rattle.cw_audit_table.specs.Runs.{cut, skipped, is_step}
use Rattle.cw_audit_table.specs.Conditions.{is_inner}
use Rattle.cw_audit_search.specs.Sound.{IsArrival, HasFallen}
use Rattle.cw_audit_search.specs.Settled.{IsCovered}
use Rattle.cw_audit_search.specs.Ways as way
use Rattle.cw_audit_search.specs.Ways.{IsCaller}
use Rattle.cw_audit_search.proofs.Proposing.{proposal_later, move_proposal, call_arrival}
use Rattle.cw_audit_search.proofs.Ways.{way_later}
use Rattle.cw_audit_store.specs.declared.row_key.RowKey.{RowKey}
use Rattle.cw_audit_store.specs.declared.row_key.Row.{Row}
use Rattle.cw_audit_store.specs.declared.row_key.Entered.{Entered}
use Rattle.cw_audit_store.specs.declared.row_key.Way.TheVariants.{Moved}
use Rattle.cw_audit_store.specs.Stores.{row_at}
use Rattle.cw_audit_visits.specs.declared.met.Met.{Met}
use Rattle.cw_audit_visits.specs.declared.met.Calling.{Calling}
use Rattle.cw_audit_visits.specs.declared.under_way.Search.{Search}
use Rattle.cw_audit_visits.specs.Searching.{row_key, found_of, functions_of, caller_of, spot_at, AreBegun, IsFairGame, IsKept, IsNoted, IsDue, IsStepDue, IsStepNoted}
use Rattle.cw_audit_visits.specs.Searching.{IsCallNear, IsCallOf, IsNoCall, IsReturnNoted, IsThere, IsVisited}
use Rattle.cw_audit_visits.proofs.Turns.{next_leads, leads_of, two_moves}

module _ (h : Held) (s : Search) (at : RowKey) (a : ℕ) (by : Move) (inner : is_inner (spot_at h at) ≡ true) (good : bad_in (game_of h) at.state.0 (spot_at h at) ≡ false) where
  leads_on : (o : Option (PosId × StateId)) (r : PosId × StateId) → numbers o ≡ next_at (game_of h) at.pos.0 at.state.0 by → o ≡ Some r
      → (c : Config) × (leads_in (game_of h) at.pos.0 at.state.0 [] (spot_at h at) by ≡ Some c) × (c.pos ≡ r.0.0) × (c.state ≡ r.1.0)
  leads_on o r next is =
      leads_of (leads_in (game_of h) at.pos.0 at.state.0 [] (spot_at h at) by) r
      (sym (next_leads (game_of h) at.pos.0 at.state.0 (spot_at h at) by inner good) ∙ sym next ∙ ap numbers is)

  pub step_proposed : (o : Option (PosId × StateId)) (r : PosId × StateId) (n : ℕ) → numbers o ≡ next_at (game_of h) at.pos.0 at.state.0 by → o ≡ Some r → IsStepDue h s at a by
      → n ≡ cut (a + 1) → IsDue h s (row_key at.entrance.function at.entrance.state.0 r.0.0 r.1.0) n (Moved at.state at.pos by)
  step_proposed o r n next is due number =
      let l = leads_on o r next is in
      let d = due l.0 l.1 in
      subst (λ n. IsDue h s (row_key at.entrance.function at.entrance.state.0 r.0.0 r.1.0) n (Moved at.state at.pos by)) (sym number)
      (subst (λ p. IsDue h s (row_key at.entrance.function at.entrance.state.0 p r.1.0) (cut (a + 1)) (Moved at.state at.pos by)) l.2
      (subst (λ x. IsDue h s (row_key at.entrance.function at.entrance.state.0 l.0.pos x) (cut (a + 1)) (Moved at.state at.pos by)) l.3 (record { proposal = d.0; leads = d.1 })))

  pub step_noted : (o : Option (PosId × StateId)) (r : PosId × StateId) (n : ℕ) → numbers o ≡ next_at (game_of h) at.pos.0 at.state.0 by → o ≡ Some r
      → n ≡ cut (a + 1) → IsNoted h s (row_key at.entrance.function at.entrance.state.0 r.0.0 r.1.0) n → IsStepNoted h s at a by
  step_noted o r n next is number noted = λ m c er lc.
      let l = leads_on o r next is in
      let same : l.0 ≡ c = same_Some l.0 c (sym l.1 ∙ lc) in
      let z = subst (λ n. IsCovered (game_of h) (found_of s.store) at.entrance.function at.entrance.state.0 m r.0.0 r.1.0 n) number (noted m er) in
      subst (λ (c : Config). IsCovered (game_of h) (found_of s.store) at.entrance.function at.entrance.state.0 m c.pos c.state (cut (a + 1))) same
      (subst (λ x. IsCovered (game_of h) (found_of s.store) at.entrance.function at.entrance.state.0 m l.0.pos x (cut (a + 1))) (sym l.3)
      (subst (λ p. IsCovered (game_of h) (found_of s.store) at.entrance.function at.entrance.state.0 m p r.1.0 (cut (a + 1))) (sym l.2) z))

pub step_later : (h : Held) (s s2 : Search) (at : RowKey) (a : ℕ) (by : Move) → IsFairGame h → HasFallen (found_of s.store) (found_of s2.store) → IsStepDue h s at a by
    → IsStepDue h s2 at a by
step_later h s s2 at a by fair fallen due = λ c l.
    let d = due c l in
    let f = at.entrance.function in
    let q = at.entrance.state.0 in (
      proposal_later (game_of h) (functions_of h) fair (found_of s.store) (found_of s2.store) f q c.pos c.state (cut (a + 1)) fallen d.0,
      way_later (game_of h) (found_of s.store) (found_of s2.store) fallen f q (skipped (game_of h) c.pos) c.state (cut (a + 1)) (way.Moved at.pos.0 at.state.0 by) d.1,
    )

-- all moves are noted where the first and the second are
pub moves_noted : (h : Held) (s : Search) (at : RowKey) (a : ℕ) → is_inner (spot_at h at) ≡ true → IsStepNoted h s at a (first_move (spot_at h at))
    → ((m : Move) → second_move (spot_at h at) ≡ Some m → IsStepNoted h s at a m) → (by : Move) → is_step by ≡ true → IsStepNoted h s at a by
moves_noted h s at a inner one other by step = λ r c er l.
    two_moves (game_of h) (λ m. IsStepNoted h s at a m) at.pos.0 at.state.0 (spot_at h at) by c inner step l one other r c er l

-- what is noted in a search is noted in one with the same store
pub noted_same : (h : Held) (s s1 : Search) (at : RowKey) (a : ℕ) (by : Move) → s1.store ≡ s.store → IsStepNoted h s1 at a by → IsStepNoted h s at a by
noted_same h s s1 at a by same noted = subst (λ t. IsStepNoted h (record { store = t; frontier = s.frontier }) at a by) same noted

-- what a row within a function may propose
pub steps_due : (h : Held) (s : Search) (at : RowKey) (row : Row) → IsFairGame h → IsKept (game_of h) (functions_of h) s → row_at s.store at ≡ Some row → is_inner (spot_at h at) ≡ true
    → (by : Move) → is_step by ≡ true → IsStepDue h s at row.inside by
steps_due h s at row fair kept e inner by step = λ c l.
    let ea = ap (option_map (λ (r : Row). r.inside)) e in (
      move_proposal (game_of h) (functions_of h) fair (found_of s.store) kept.sound at.entrance.function at.entrance.state.0 at.pos.0 at.state.0 row.inside by c ea inner step l,
      (row.inside, ea, omega arith, inner, step, (c, l, refl, refl)),
    )

-- the row isn't bad, and its number is cut
pub row_good : (h : Held) (s : Search) (at : RowKey) (row : Row) → IsKept (game_of h) (functions_of h) s → row_at s.store at ≡ Some row → bad_in (game_of h) at.state.0 (spot_at h at) ≡ false
row_good h s at row kept e =
    let w = kept.sound.inside at.entrance.function at.entrance.state.0 at.pos.0 at.state.0 row.inside (ap (option_map (λ (r : Row). r.inside)) e) in w.1.4

pub row_low : (h : Held) (s : Search) (at : RowKey) (row : Row) → IsKept (game_of h) (functions_of h) s → row_at s.store at ≡ Some row → row.inside ≤ 65537
row_low h s at row kept e =
    let w = kept.sound.inside at.entrance.function at.entrance.state.0 at.pos.0 at.state.0 row.inside (ap (option_map (λ (r : Row). r.inside)) e) in
    omega (arith, w.2, min-le_right w.0 65537)

-- a call's row enters the callee
module _ (h : Held) (s : Search) (met : Met) (f n : ℕ) (there : IsThere s met) (number : n ≡ cut (met.reach + met.row.inside + 1)) (j k : ℕ)
    (call : spot_at h met.row_key ≡ Some (Call j f k)) where
  pub callee_arrival : IsFairGame h → IsKept (game_of h) (functions_of h) s → IsArrival (game_of h) f met.row_key.state.0 n
  callee_arrival fair kept =
      let at = met.row_key in
      subst (IsArrival (game_of h) f at.state.0) (sym number)
      (call_arrival (game_of h) (functions_of h) fair (found_of s.store) kept.sound at.entrance.function at.entrance.state.0 met.reach at.pos.0 at.state.0 met.row.inside j f k
      there.reach (ap (option_map (λ (r : Row). r.inside)) there.row) call)

  pub callee_caller : IsCaller (game_of h) (found_of s.store) f met.row_key.state.0 n (Some (caller_of met.row_key))
  callee_caller = (met.reach, met.row.inside, there.reach, ap (option_map (λ (r : Row). r.inside)) there.row, omega (arith, number), (j, k, call))

pub not_call : (spot : Option Spot) → is_inner spot ≡ true → (j h k : ℕ) → spot ≡ Some (Call j h k) → ⊥
not_call spot i j h k e = let z : true ≡ false = sym i ∙ ap is_inner e in cc

not_inner : (spot : Option Spot) → (j h k : ℕ) → spot ≡ Some (Call j h k) → is_inner spot ≡ true → ⊥
not_inner spot j h k e i = not_call spot i j h k e

module _ (h : Held) (s : Search) (at : RowKey) where
  pub visited_inner : (row : Row) → row_at s.store at ≡ Some row → is_inner (spot_at h at) ≡ true → ((by : Move) → is_step by ≡ true → IsStepNoted h s at row.inside by)
      → IsVisited h s at
  visited_inner row e inner noted = λ r a er ea. record {
    steps = λ by c i step l.
        let same = same_Some row.inside a (sym (ap (option_map (λ (r : Row). r.inside)) e) ∙ ea) in
        subst (λ a. IsCovered (game_of h) (found_of s.store) at.entrance.function at.entrance.state.0 r c.pos c.state (cut (a + 1))) same (noted by step r c er l);
    calls = λ j f k l. absurd (not_call (spot_at h at) inner j f k l);
    returns = λ j f k y e2 l n. absurd (not_call (spot_at h at) inner j f k l);
  }

  pub visited_neither : is_inner (spot_at h at) ≡ false → IsNoCall h at → IsVisited h s at
  visited_neither outer none = λ r a er ea. record {
    steps = λ by c i step l. let z : true ≡ false = sym i ∙ outer in cc;
    calls = λ j f k l. absurd (none j f k l);
    returns = λ j f k y e2 l n. absurd (none j f k l);
  }

abbrev function_in : Spot → ℕ
function_in (Call j f k) = f
function_in _ = 0

abbrev back_in : Spot → ℕ
back_in (Call j f k) = k
back_in _ = 0

same_call : {j f k j2 f2 k2 : ℕ} → Call j f k ≡ Call j2 f2 k2 → (f ≡ f2) × (k ≡ k2)
same_call e = (ap function_in e, ap back_in e)

-- a call's row, where the callee is entered no later and each return is noted
pub visited_call : (h : Held) (s : Search) (call : Calling) → IsThere s call.met → IsCallOf h call.met.row_key call.callee call.back.0 → AreBegun h s → IsCallNear s call
    → ((y : ℕ) → IsReturnNoted h s call.met.row_key call.callee call.back.0 y) → IsVisited h s call.met.row_key
visited_call h s call there stands begun near returned = λ r a er ea.
    let at = call.met.row_key in
    let f = call.callee in
    let e = stands.call.1 in
    let same_r = same_Some call.met.reach r (sym there.reach ∙ er) in
    let same_a = same_Some call.met.row.inside a (sym (ap (option_map (λ (r : Row). r.inside)) there.row) ∙ ea) in
    let reached : (found_of s.store).reach f at.state.0 ≡ Some near.0.reach = ap (option_map (λ (e : Entered). e.reach)) near.1 in
    record {
      steps = λ by c i step l. absurd (not_inner (spot_at h at) stands.call.0 f call.back.0 e i);
      calls = λ j2 f2 k2 l.
          let same = same_call (same_Some (Call stands.call.0 f call.back.0) (Call j2 f2 k2) (sym e ∙ l)) in
          subst (λ f. (r2 : ℕ) × ((found_of s.store).reach f at.state.0 ≡ Some r2) × (r2 ≤ cut (r + a + 1))
          × IsCovered (game_of h) (found_of s.store) f at.state.0 r2 ((game_of h).entry f) at.state.0 0)
          same.0 (near.0.reach, reached, omega (arith, near.2, same_r, same_a), begun f at.state.0 near.0.reach reached);
      returns = λ j2 f2 k2 y n l there2.
          let same = same_call (same_Some (Call stands.call.0 f call.back.0) (Call j2 f2 k2) (sym e ∙ l)) in
          let there3 = subst (λ f. (found_of s.store).number f at.state.0 ((game_of h).exit f) y ≡ Some n) (sym same.0) there2 in
          subst (λ k. IsCovered (game_of h) (found_of s.store) at.entrance.function at.entrance.state.0 r k y (cut (a + n + 2))) same.1 (returned y r a n er ea there3);
    }

-- what is there is so in a search with the same store
pub there_same : (s s1 : Search) (met : Met) → s1.store ≡ s.store → IsThere s met → IsThere s1 met
there_same s s1 met same there = subst (λ t. IsThere (record { store = t; frontier = s1.frontier }) met) (sym same) (record { row = there.row; reach = there.reach })

pub returns_same : (h : Held) (s s1 : Search) (at : RowKey) (f k y : ℕ) → s1.store ≡ s.store → IsReturnNoted h s1 at f k y → IsReturnNoted h s at f k y
returns_same h s s1 at f k y same noted = subst (λ t. IsReturnNoted h (record { store = t; frontier = s.frontier }) at f k y) same noted
