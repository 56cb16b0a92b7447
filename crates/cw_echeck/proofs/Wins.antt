-- A strategy whose rows meet the conditions comes to a violation, whatever the weaver tries: by one induction on the number of the row,
-- for all boards and all stacks of returns at once.
use Rattle.std.proofs.Common.{◌≡◌, ℕ, zero, suc, ◌+◌, ◌<◌, ◌≤◌, List, [], ◌∷◌, length, Bool, true, false, Some, option_map, refl, sym, ap, ◌∙◌, subst, inr, arith}
use Rattle.std.specs.Prelude.{slice_get}
use Rattle.cw_certs.specs.declared.moves.Move.TheVariants.{Skip, Try, On}
use Rattle.cw_certs.specs.Strategies.{How, Bad, Out, Both, Go, Into, Row, Strategy, back_of}
use Rattle.cw_model.specs.Boards.{Problem, Board, start_board, Moves}
use Rattle.cw_model.specs.Plays.{FollowsHow, FollowsRow, FollowedPlay, Beats}
use Rattle.cw_game.specs.declared.spots.Spot.TheVariants.{Exit}
use Rattle.cw_game.specs.Games.{Game, returned, Ret, Config, at_pair, leads_in, bad_in}
use Rattle.cw_game.specs.Pairs.{has, IsAt, is_exit_in}
use Rattle.cw_game.specs.Closed.{HowOk, IsClosedStrategy}
use Rattle.cw_game.specs.Standing.{IsGameOf}
use Rattle.cw_syntax.specs.Plans.{Plan}
use Rattle.cw_lemmas.proofs.Truths.{not_both}
use Rattle.cw_game.proofs.Members.{has_none}
use Rattle.cw_echeck.proofs.Leads.{local_over, calls_to, weavers_to}
use Rattle.cw_echeck.proofs.Boards.{problem_in, Rests, violates, moves_to, environments, at_call, at_end, state_within, starts}

module _ (plan : Plan) (g : Game) (game : IsGameOf (problem_in plan g) g) (s : Strategy) (closed : IsClosedStrategy g s) where
  abbrev p : Problem
  p = problem_in plan g

  abbrev Stays : Board → Config → Type 0
  Stays b c = Rests plan g game b c

  abbrev Backs : Type 0
  Backs = List (List (ℕ × ℕ))

  -- with enough of the weaver's choices the play from this row and board comes to a violation
  abbrev Sure : ℕ → Board → Backs → Type 0
  Sure row b waiting = (n : ℕ) × ((choices : List Bool) → n ≤ length choices → (steps : ℕ) × FollowedPlay p s steps row b waiting choices)

  -- the exit state has its row on top, from which the play is sure at each board that stands where the return leads
  abbrev Back : ℕ → List Ret → Backs → Type 0
  Back x (r ∷ rets) (backs ∷ waiting) = (row : ℕ) × (back_of backs x ≡ Some row) × ((b : Board) → Stays b (at_pair r.back (returned g.states r.kept x) rets) → Sure row b waiting)
  Back x _ _ = ⊥

  -- so has each exit state of the aim
  abbrev Pays : ℕ → List Ret → Backs → Type 0
  Pays aim rets waiting = (x : ℕ) → x < g.states.count → has aim x ≡ true → Back x rets waiting

  abbrev SureAt : ℕ → Type 0
  SureAt i = (b : Board) (pos q aim : ℕ) (rets : List Ret) (waiting : Backs) → IsAt s i pos q aim → Stays b (at_pair pos q rets) → Pays aim rets waiting → Sure i b waiting

  abbrev SureBelow : ℕ → Type 0
  SureBelow i = (k : ℕ) → k < i → SureAt k

  -- one row more
  by_row : (i : ℕ) (r : Row) (b : Board) (waiting : Backs) (n : ℕ) → slice_get s.rows i ≡ Some r
      → ((choices : List Bool) → n ≤ length choices → (steps : ℕ) × FollowsHow p (FollowedPlay p s steps) b waiting r.state r.how choices) → Sure i b waiting
  by_row i r b waiting n er h =
      (n, λ choices le. let k = h choices le in (suc k.0, inr (subst (λ o. FollowsRow p (FollowedPlay p s k.0) b waiting o choices) (sym er) k.1)))

  both_how : (b skipped tried_to : Board) (waiting : Backs) (state skip tried : ℕ) → Moves p b Skip skipped → Moves p b Try tried_to → (s0 : Sure skip skipped waiting)
      → (s1 : Sure tried tried_to waiting) → (choices : List Bool) → suc (s0.0 + s1.0) ≤ length choices → (steps : ℕ) × FollowsHow p (FollowedPlay p s steps) b waiting state (Both skip tried) choices
  both_how b skipped tried_to waiting state skip tried m0 m1 s0 s1 [] le = absurd (omega (arith, le))
  both_how b skipped tried_to waiting state skip tried m0 m1 s0 s1 (false ∷ choices) le = let k = s0.1 choices (omega (arith, le)) in (k.0, (skipped, m0, k.1))
  both_how b skipped tried_to waiting state skip tried m0 m1 s0 s1 (true ∷ choices) le = let k = s1.1 choices (omega (arith, le)) in (k.0, (tried_to, m1, k.1))

  out_how : (i : ℕ) (r : Row) (b : Board) (pos q f : ℕ) (rets : List Ret) (waiting : Backs) → slice_get s.rows i ≡ Some r → r.state ≡ q → r.how ≡ Out → slice_get g.spots pos ≡ Some (Exit f)
      → Stays b (at_pair pos q rets) → Back q rets waiting → Sure i b waiting
  out_how i r b pos q f [] waiting er es eh ep h k = absurd k
  out_how i r b pos q f (ret ∷ rets) [] er es eh ep h k = absurd k
  out_how i r b pos q f (ret ∷ rets) (backs ∷ waiting) er es eh ep h k =
      let next = at_pair ret.back (returned g.states ret.kept q) rets in
      let to = moves_to plan g game b (at_pair pos q (ret ∷ rets)) next On h (ap (bad_in g q) ep) (ap (λ o. leads_in g pos q (ret ∷ rets) o On) ep) in
      let e = at_end plan g game b (at_pair pos q (ret ∷ rets)) h (ap is_exit_in ep) in
      let sure = k.2 to.0 to.2 in
      by_row i r b (backs ∷ waiting) sure.0 er (λ choices le. let w = sure.1 choices le in (w.0, rw eh (e.0, e.1, (to.0, k.0, to.1.0, ap (back_of backs) es ∙ k.1, w.1))))

  by_how : (i : ℕ) (b : Board) (pos q aim : ℕ) (rets : List Ret) (waiting : Backs) (how : How) → slice_get s.rows i ≡ Some (record { pos = pos; state = q; aim = aim; how = how })
      → HowOk g s i pos q aim how → SureBelow i → Stays b (at_pair pos q rets) → Pays aim rets waiting → Sure i b waiting
  by_how i b pos q aim rets waiting Bad er ok below h pays =
      (0, λ choices le. (0, violates plan g game b (at_pair pos q rets) h ok))
  by_how i b pos q aim rets waiting Out er ok below h pays =
      out_how i _ b pos q ok.0 rets waiting er refl refl ok.1 h (pays q (state_within plan g game b (at_pair pos q rets) h) ok.3)
  by_how i b pos q aim rets waiting (Both skip tried) er ok below h pays =
      let w = weavers_to g pos q rets (slice_get g.spots pos) ok.2 in
      let skipped = moves_to plan g game b (at_pair pos q rets) (at_pair (pos + 2) q rets) Skip h w.2 w.0 in
      let tried_to = moves_to plan g game b (at_pair pos q rets) (at_pair (pos + 1) q rets) Try h w.2 w.1 in
      let s0 = below skip ok.0 skipped.0 (pos + 2) q aim rets waiting ok.3 skipped.2 pays in
      let s1 = below tried ok.1 tried_to.0 (pos + 1) q aim rets waiting ok.4 tried_to.2 pays in
      by_row i _ b waiting (suc (s0.0 + s1.0)) er (λ choices le. both_how b skipped.0 tried_to.0 waiting q skip tried skipped.1.0 tried_to.1.0 s0 s1 choices le)
  by_how i b pos q aim rets waiting (Go by row) er ok below h pays =
      let t = ok.2 in
      let l = sym (local_over g pos q rets (slice_get g.spots pos) by ok.1.2 ok.1.3) ∙ ap (option_map (λ (c : Config). at_pair c.pos c.state rets)) t.2 in
      let to = moves_to plan g game b (at_pair pos q rets) (at_pair t.0 t.1 rets) by h ok.1.1 l in
      let turn = environments plan g game b (at_pair pos q rets) h ok.1.0 in
      let k = below row ok.0 to.0 t.0 t.1 aim rets waiting t.3 to.2 pays in
      by_row i _ b waiting k.0 er (λ choices le. let w = k.1 choices le in (w.0, (turn, (to.0, to.1, w.1))))
  by_how i b pos q aim rets waiting (Into callee backs) er ok below h pays =
      let t = ok.1 in
      let ret : Ret = record { back = t.1; kept = t.2 } in
      let l = calls_to g pos q t.0 t.1 t.2 rets (slice_get g.spots pos) t.4 in
      let to = moves_to plan g game b (at_pair pos q rets) (at_pair (g.entry t.0) q (ret ∷ rets)) On h l.2 l.0 in
      let e = at_call plan g game b (at_pair pos q rets) h l.1 in
      let deeper : Pays t.3 (ret ∷ rets) (backs ∷ waiting) = λ x lt y. let z = t.6 x lt y in (z.0, z.1, λ b2 h2. below z.0 z.2 b2 t.1 (returned g.states t.2 x) aim rets waiting z.3 h2 pays) in
      let k = below callee ok.0 to.0 (g.entry t.0) q t.3 (ret ∷ rets) (backs ∷ waiting) t.5 to.2 deeper in
      by_row i _ b waiting k.0 er (λ choices le. let w = k.1 choices le in (w.0, (e.0, e.1, (to.0, to.1.0, w.1))))

  sure : (n i : ℕ) → i < n → SureAt i
  sure zero i lt b pos q aim rets waiting at h pays = absurd (omega (arith, lt))
  sure (suc n) i lt b pos q aim rets waiting at h pays =
      by_how i b pos q aim rets waiting at.0 at.1 (closed i _ at.1) (λ k l b pos q aim rets waiting at h pays. sure n k (omega (arith, lt, l)) b pos q aim rets waiting at h pays) h pays

  wins : (row : ℕ) → IsAt s row (g.entry g.main) g.states.start 0 → (b : Board) → Stays b (at_pair (g.entry g.main) g.states.start []) → Sure row b []
  wins row at b h = sure (suc row) row (omega arith) b (g.entry g.main) g.states.start 0 [] [] at h (λ x lt y. absurd (not_both (has 0 x) y (has_none x)))

-- the same of a problem whose policy is the game's
pub as_problem : (p : Problem) (g : Game) → IsGameOf p g → IsGameOf (problem_in p.plan g) g
as_problem p g game = record { policy = refl; states = game.states; laid = game.laid; routines = game.routines }

pub closed_beats : (p : Problem) (g : Game) → IsGameOf p g → (s : Strategy) (row : ℕ) → IsClosedStrategy g s → IsAt s row (g.entry g.main) g.states.start 0 → Beats p s row
closed_beats p g game s row closed at =
    let same = as_problem p g game in
    let k = wins p.plan g same s closed row at (start_board (problem_in p.plan g)) (starts p.plan g same) in
    subst (λ q. Beats q s row) (ap (λ policy. record { plan = p.plan; policy = policy }) game.policy) (k.0, λ choices l. k.1 choices (omega (arith, l)))
