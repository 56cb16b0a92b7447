-- The pair of a row is lost, within as many moves as the row's number and one more, under every promise that leaves out the exit states
-- at which the row aims.
use Rattle.std.proofs.Common.{◌≡◌, ◌≢◌, ℕ, zero, suc, ◌+◌, ◌<◌, List, [], ◌∷◌, Bool, true, false, cond, not, ◌&&◌, ◌||◌, Option, Some, None, option_map, nat_eq, eqb-true, refl, sym, ap, ap₂}
use Rattle.std.proofs.Common.{◌∙◌, arith}
use Rattle.std.specs.Prelude.{slice_get}
use Rattle.std.proofs.lemmas.Option.{none-some, same_Some, cond_some}
use Rattle.cw_rights.specs.declared.capabilities.Primitive.{Primitive}
use Rattle.cw_rights.specs.declared.capabilities.Primitive.TheVariants.{Split}
use Rattle.cw_certs.specs.declared.moves.Move.{Move}
use Rattle.cw_certs.specs.declared.moves.Move.TheVariants.{Skip, Try, Grant, Refuse, On, Left, Right, Opened, Failed}
use Rattle.cw_certs.specs.Strategies.{How, Bad, Out, Both, Go, Into, Strategy}
use Rattle.cw_model.specs.Boards.{Board, start_board}
use Rattle.cw_game.specs.declared.spots.Spot.{Spot}
use Rattle.cw_game.specs.declared.spots.Spot.TheVariants.{Visit, Asked, Step, Branch, Label, Open, Close, Call, SplitCall, Exit}
use Rattle.cw_game.specs.Games.{Game, refuses_in, returned, Ret, Config, at_pair, leads_in, bad_in, weavers_in, Promise, holds_in, Holds, IsLost, leads_to}
use Rattle.cw_game.specs.Pairs.{has, IsAt, is_call_in, is_exit_in}
use Rattle.cw_game.specs.Closed.{CallsIn, HowOk, IsClosedStrategy}
use Rattle.cw_game.specs.Standing.{IsGameOf}
use Rattle.cw_echeck.proofs.Boards.{problem_in, Rests, moves_to, state_within, starts}
use Rattle.cw_syntax.specs.Plans.{Plan}
use Rattle.cw_lemmas.proofs.Truths.{not_both}
use Rattle.cw_game.proofs.Members.{has_none}
use Rattle.cw_game.proofs.Holding.{bad_fails}
use Rattle.cw_echeck.proofs.Leads.{local_over, calls_to, weavers_to}
use Rattle.cw_lemmas.proofs.Truths.{not_or as fails_where}
use Rattle.std.proofs.lemmas.Bool.{and_left as fails_left, and_right as fails_right, or_from as fails_both}

module _ (g : Game) (h : ℕ → ℕ → Promise → Bool) where
  both_lost : (p q : ℕ) (e : Promise) (spot : Option Spot) → weavers_in spot ≡ true → h (p + 2) q e ≡ false → h (p + 1) q e ≡ false → holds_in g h p q e spot ≡ false
  both_lost p q e (Some (Visit j i a)) w s t = fails_both (h (p + 2) q e) (h (p + 1) q e) s t
  both_lost p q e _ w s t = cc

  call_lost : (p q f n : ℕ) (kept : Option ℕ) (e : Promise) (spot : Option Spot) → CallsIn q spot f n kept → h (g.entry f) q (λ x. h n (returned g.states kept x) e) ≡ false
      → holds_in g h p q e spot ≡ false
  call_lost p q f n kept e (Some (Call j f2 n2)) c = rw (c.0, c.1, c.2) (λ y. y)
  call_lost p q f n kept e (Some (SplitCall j f2 n2)) c = rw (c.0, c.1, c.2) (λ y. y)
  call_lost p q f n kept e _ c = absurd c

  same_pair : (e : Promise) (p q p2 q2 : ℕ) → at_pair p q [] ≡ at_pair p2 q2 [] → h p2 q2 e ≡ false → h p q e ≡ false
  same_pair e p q p2 q2 s k = ap₂ (λ y z. h y z e) (ap (λ (c : Config). c.pos) s) (ap (λ (c : Config). c.state) s) ∙ k

  led : (e : Promise) (p q p2 q2 : ℕ) → Some (at_pair p q []) ≡ Some (at_pair p2 q2 []) → h p2 q2 e ≡ false → h p q e ≡ false
  led e p q p2 q2 s k = same_pair e p q p2 q2 (same_Some (at_pair p q []) (at_pair p2 q2 []) s) k

  -- a choice that is there, and what it leads to is lost
  chosen_lost : (can : Bool) (e : Promise) (p q p2 q2 : ℕ) → cond can (Some (at_pair p q [])) None ≡ Some (at_pair p2 q2 []) → h p2 q2 e ≡ false → (not can || h p q e) ≡ false
  chosen_lost can e p q p2 q2 s k = let y = cond_some can (at_pair p q []) (at_pair p2 q2 []) s in fails_where can (h p q e) y.0 (same_pair e p q p2 q2 y.1 k)

  asked_lost : (p q j i : ℕ) (a : Primitive) (e : Promise) (by : Move) (p2 q2 : ℕ) → leads_in g p q [] (Some (Asked j i a)) by ≡ Some (at_pair p2 q2 []) → h p2 q2 e ≡ false
      → holds_in g h p q e (Some (Asked j i a)) ≡ false
  asked_lost p q j i Split e Grant p2 q2 s k = fails_left _ _ (chosen_lost (g.states.may_grant q Split) e (p + 2) q p2 q2 s k)
  asked_lost p q j i a e Grant p2 q2 s k = fails_left _ _ (chosen_lost (g.states.may_grant q a) e (p + 1) (g.states.granted q a) p2 q2 s k)
  asked_lost p q j i Split e Refuse p2 q2 s k = fails_right (not (g.states.may_grant q Split) || h (p + 2) q e) _ (chosen_lost (refuses_in g q Split) e (p + 1) q p2 q2 s k)
  asked_lost p q j i a e Refuse p2 q2 s k = fails_right (not (g.states.may_grant q a) || h (p + 1) (g.states.granted q a) e) _ (chosen_lost (refuses_in g q a) e (p + 1) q p2 q2 s k)
  asked_lost p q j i a e _ p2 q2 s k = absurd (none-some (at_pair p2 q2 []) s)

  -- a move of the environment that leads to what is lost
  move_lost : (p q : ℕ) (e : Promise) (spot : Option Spot) (by : Move) (p2 q2 : ℕ) → weavers_in spot ≡ false → is_call_in spot ≡ false → is_exit_in spot ≡ false
      → leads_in g p q [] spot by ≡ Some (at_pair p2 q2 []) → h p2 q2 e ≡ false → holds_in g h p q e spot ≡ false
  move_lost p q e (Some (Visit j i a)) by p2 q2 w c x s k = cc
  move_lost p q e (Some (Call j f n)) by p2 q2 w c x s k = cc
  move_lost p q e (Some (SplitCall j f n)) by p2 q2 w c x s k = cc
  move_lost p q e (Some (Exit f)) by p2 q2 w c x s k = cc
  move_lost p q e (Some (Asked j i a)) by p2 q2 w c x s k = asked_lost p q j i a e by p2 q2 s k
  move_lost p q e (Some (Step n)) On p2 q2 w c x s k = led e n q p2 q2 s k
  move_lost p q e (Some (Branch m n)) Left p2 q2 w c x s k = fails_left (h m q e) (h n q e) (led e m q p2 q2 s k)
  move_lost p q e (Some (Branch m n)) Right p2 q2 w c x s k = fails_right (h m q e) (h n q e) (led e n q p2 q2 s k)
  move_lost p q e (Some (Label j l n)) On p2 q2 w c x s k = fails_right (not (g.states.bad q l)) (h n (g.states.lettered q l) e) (led e n (g.states.lettered q l) p2 q2 s k)
  move_lost p q e (Some (Open j d n)) Opened p2 q2 w c x s k = fails_left (h n (g.states.opened q d) e) (h n (g.states.closed q d) e) (led e n (g.states.opened q d) p2 q2 s k)
  move_lost p q e (Some (Open j d n)) Failed p2 q2 w c x s k = fails_right (h n (g.states.opened q d) e) (h n (g.states.closed q d) e) (led e n (g.states.closed q d) p2 q2 s k)
  move_lost p q e (Some (Close j d n)) On p2 q2 w c x s k = led e n (g.states.closed q d) p2 q2 s k
  move_lost p q e _ _ p2 q2 w c x s k = absurd (none-some (at_pair p2 q2 []) s)

module _ (plan : Plan) (g : Game) (game : IsGameOf (problem_in plan g) g) (s : Strategy) (closed : IsClosedStrategy g s) where
  -- some board stands there
  abbrev IsSuch : Config → Type 0
  IsSuch c = (b : Board) × Rests plan g game b c

  -- the frame above these returns may end in this state
  abbrev EndsIn : List Ret → ℕ → Type 0
  EndsIn rets x = (pos : ℕ) × (f : ℕ) × (slice_get g.spots pos ≡ Some (Exit f)) × IsSuch (at_pair pos x rets)

  goes : (c next : Config) (by : Move) → IsSuch c → bad_in g c.state (slice_get g.spots c.pos) ≡ false → leads_to g c by ≡ Some next → IsSuch next
  goes c next by h good l = let to = moves_to plan g game h.0 c next by h.1 good l in (to.0, to.2)

  -- the promise leaves out those exit states of the aim in which the frame above these returns may end
  abbrev LeavesOut : ℕ → List Ret → Promise → Type 0
  LeavesOut aim rets promised = (x : ℕ) → EndsIn rets x → has aim x ≡ true → promised x ≡ false

  abbrev IsLostFor : ℕ → ℕ → Type 0
  IsLostFor n i = (pos q aim : ℕ) (rets : List Ret) (promised : Promise) → IsSuch (at_pair pos q rets) → IsAt s i pos q aim → LeavesOut aim rets promised → Holds g n pos q promised ≡ false

  -- where the frame ended the return stands
  returns : (n x : ℕ) (kept : Option ℕ) (rets : List Ret) → EndsIn (record { back = n; kept = kept } ∷ rets) x → IsSuch (at_pair n (returned g.states kept x) rets)
  returns n x kept rets ends =
      let c = at_pair ends.0 x (record { back = n; kept = kept } ∷ rets) in
      goes c (at_pair n (returned g.states kept x) rets) On ends.3 (ap (bad_in g x) ends.2) (ap (λ o. leads_in g ends.0 x c.rets o On) ends.2)

  not_main : (f : ℕ) (b : Bool) → f ≢ g.main → nat_eq f g.main ≡ b → nat_eq f g.main ≡ false
  not_main f true ne h = absurd (ne (eqb-true f g.main h))
  not_main f false ne h = h

  by_how : (n i pos q aim : ℕ) (rets : List Ret) (promised : Promise) (how : How) → IsSuch (at_pair pos q rets) → HowOk g s i pos q aim how → ((k : ℕ) → k < i → IsLostFor n k)
      → LeavesOut aim rets promised → Holds g (suc n) pos q promised ≡ false
  by_how n i pos q aim rets promised Bad h ok below out = bad_fails g (Holds g n) pos q promised (slice_get g.spots pos) ok
  by_how n i pos q aim rets promised Out h ok below out =
      ap (holds_in g (Holds g n) pos q promised) ok.1
      ∙ fails_both (nat_eq ok.0 g.main) (promised q) (not_main ok.0 (nat_eq ok.0 g.main) ok.2 refl) (out q (pos, ok.0, ok.1, h) ok.3)
  by_how n i pos q aim rets promised (Both skip tried) h ok below out =
      let w = weavers_to g pos q rets (slice_get g.spots pos) ok.2 in
      let s0 = goes (at_pair pos q rets) (at_pair (pos + 2) q rets) Skip h w.2 w.0 in
      let s1 = goes (at_pair pos q rets) (at_pair (pos + 1) q rets) Try h w.2 w.1 in
      both_lost g (Holds g n) pos q promised (slice_get g.spots pos) ok.2 (below skip ok.0 (pos + 2) q aim rets promised s0 ok.3 out) (below tried ok.1 (pos + 1) q aim rets promised s1 ok.4 out)
  by_how n i pos q aim rets promised (Go by row) h ok below out =
      let t = ok.2 in
      let l = sym (local_over g pos q rets (slice_get g.spots pos) by ok.1.2 ok.1.3) ∙ ap (option_map (λ (c : Config). at_pair c.pos c.state rets)) t.2 in
      let to = goes (at_pair pos q rets) (at_pair t.0 t.1 rets) by h ok.1.1 l in
      move_lost g (Holds g n) pos q promised (slice_get g.spots pos) by t.0 t.1 ok.1.0 ok.1.2 ok.1.3 t.2 (below row ok.0 t.0 t.1 aim rets promised to t.3 out)
  by_how n i pos q aim rets promised (Into callee backs) h ok below out =
      let t = ok.1 in
      let ret : Ret = record { back = t.1; kept = t.2 } in
      let l = calls_to g pos q t.0 t.1 t.2 rets (slice_get g.spots pos) t.4 in
      let to = goes (at_pair pos q rets) (at_pair (g.entry t.0) q (ret ∷ rets)) On h l.2 l.0 in
      let inner : LeavesOut t.3 (ret ∷ rets) (λ x. Holds g n t.1 (returned g.states t.2 x) promised) = λ x ends y.
      let z = t.6 x (state_within plan g game ends.3.0 (at_pair ends.0 x (ret ∷ rets)) ends.3.1) y in
      below z.0 z.2 t.1 (returned g.states t.2 x) aim rets promised (returns t.1 x t.2 rets ends) z.3 out in
      call_lost g (Holds g n) pos q t.0 t.1 t.2 promised (slice_get g.spots pos) t.4
      (below callee ok.0 (g.entry t.0) q t.3 (ret ∷ rets) (λ x. Holds g n t.1 (returned g.states t.2 x) promised) to t.5 inner)

  -- by one induction on the number of the row
  row_lost : (n i : ℕ) → i < n → IsLostFor n i
  row_lost zero i lt pos q aim rets promised h at out = absurd (omega (arith, lt))
  row_lost (suc n) i lt pos q aim rets promised h at out =
      by_how n i pos q aim rets promised at.0 h (closed i _ at.1) (λ k l pos q aim rets promised h at out. row_lost n k (omega (arith, lt, l)) pos q aim rets promised h at out) out

  pub closed_loses : (row : ℕ) → IsAt s row (g.entry g.main) g.states.start 0 → IsLost g (g.entry g.main) g.states.start (λ x. true)
  closed_loses row at =
      let such : IsSuch (at_pair (g.entry g.main) g.states.start []) = (start_board (problem_in plan g), starts plan g game) in
      (suc row, row_lost (suc row) row (omega arith) (g.entry g.main) g.states.start 0 [] (λ x. true) such at (λ x ends y. absurd (not_both (has 0 x) y (has_none x))))
