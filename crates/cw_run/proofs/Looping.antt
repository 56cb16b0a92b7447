-- What the loop over the tape keeps, for a program's game and a good table.
use Rattle.std.proofs.Common.{◌≡◌, ℕ, ◌+◌, ◌<◌, ◌≤◌, List, [], take, length, get_or, Option, Some, None, refl, sym, subst}
use Rattle.std.specs.List.{All}
use Rattle.std.proofs.lemmas.List.{take_all}
use Rattle.std.proofs.lemmas.Option.{slice_get_read}
use Rattle.std.proofs.lemmas.List.Elements.{All-nil}
use Rattle.cw_rights.specs.declared.capabilities.Caps.{Caps}
use Rattle.cw_rights.specs.Words.{Word}
use Rattle.cw_rights.specs.Policies.{PlainPolicy, policy_of}
use Rattle.cw_rights.specs.Valid.{IsValid}
use Rattle.cw_certs.specs.declared.moves.Move.{Move}
use Rattle.cw_certs.specs.Tables.{Table}
use Rattle.cw_syntax.specs.Trees.{File}
use Rattle.cw_syntax.specs.Plans.{Plan, plan_of}
use Rattle.cw_syntax.specs.Runnable.{IsRunnable}
use Rattle.cw_resolve.specs.Scenes.{names_of}
use Rattle.cw_points.specs.Graphs.{IsGraph}
use Rattle.cw_positions.specs.Opens.{AssignsNames}
use Rattle.cw_positions.specs.Positions.{spots}
use Rattle.cw_model.specs.Boards.{problem_of}
use Rattle.cw_model.specs.Runs.{Sound}
use Rattle.cw_game.specs.Games.{Game}
use Rattle.cw_game.specs.Reached.{Reached}
use Rattle.cw_game.specs.Standing.{IsGameOf}
use Rattle.cw_game.specs.Conditions.{IsGoodTable}
use Rattle.cw_game.proofs.Reached.{reached_means}
use Rattle.cw_game.proofs.Goods.{good_closed}
use Rattle.cw_states.specs.States.{lists_of, AreLists, Means, caps_at, states_of}
use Rattle.cw_states.proofs.Meaning.{states_are, caps_is}
use Rattle.cw_product.specs.Product.{Held, game_of}
use Rattle.cw_product.specs.Uses.{uses_of}
use Rattle.cw_product.proofs.Holding.{has, game_is}
use Rattle.cw_wcheck.proofs.Sounds.{sound}
use Rattle.cw_trace.specs.Traces.{Names}
use Rattle.cw_trace.specs.Labels.{names_of as trace_names_of}
use Rattle.cw_trace.specs.Steps.{End, Ended, TapeSpent, BadMove}
use Rattle.cw_trace.proofs.Lists.{front_more}
use Rattle.cw_run.specs.declared.run.Landing.{Landing as LandingData}
use Rattle.cw_run.specs.declared.run.Landing.TheVariants.{At, Over}
use Rattle.cw_run.specs.declared.walk.Here.{Here as HereData}
use Rattle.cw_run.specs.declared.walk.Wait.{Wait as WaitData}
use Rattle.cw_run.specs.Walks.{here_of, wait_of, innermost, landing_in, start_here, IsHere, IsWait, IsLanding, Arrives, Answered}
use Rattle.cw_run.specs.Woven.{Tells}
use Rattle.cw_run.proofs.Going.{begun, went}
use Rattle.cw_run.proofs.Main.{same, start_on, Ran, spent, over, bad_entry, past_end}

abbrev pub plan_here : Held → List ℕ → File → Plan
plan_here h source file = plan_of (names_of (policy_of h.states.policy)) source file

-- what the loop keeps when so many entries have been read
pub record LoopKeeps (names : Names) (h : Held) (t : Table) (plan : Plan) (entries : List Move) (landing : LandingData) (waits : List WaitData) (old new : List ℕ) : Type 0 where
  pub run : Ran names (game_of h) t plan entries (landing_in landing) (innermost waits) old new
  pub there : IsLanding (game_of h) (landing_in landing)
  pub waiting : All (λ w. IsWait (game_of h) (wait_of w)) waits

module _ (h : Held) (source : List ℕ) (file : File) (t : Table) (names : Names) (valid : IsValid (policy_of h.states.policy))
    (lists : AreLists (uses_of (policy_of h.states.policy) h.graph.nodes.items) (lists_of h.states)) (drawn : IsGraph (names_of (policy_of h.states.policy)) source file h.graph)
    (run : IsRunnable (plan_of (names_of (policy_of h.states.policy)) source file)) (assigns : AssignsNames source file) (good : IsGoodTable (game_of h) t) where
  abbrev policy : PlainPolicy
  policy = policy_of h.states.policy

  abbrev g : Game
  g = game_of h

  abbrev plan : Plan
  plan = plan_here h source file

  abbrev held : ℕ → Caps
  held = caps_at (lists_of h.states)

  pub of : IsGameOf (problem_of policy source file) g
  of = game_is h valid lists source file drawn run assigns

  pub holds : (q : ℕ) (w : Word) (c : Caps) → Reached g.policy g.spots g.states q w c → held q ≡ c
  holds q w c r =
      let uses = uses_of policy h.graph.nodes.items in
      let v = lists_of h.states in
      caps_is uses v lists q w c
      (reached_means policy (spots h.graph policy) (states_of v) (Means uses v) (states_are uses v lists (spots h.graph policy) (has policy h.graph valid source file drawn assigns)) q w c r)

  pub safe : Sound (problem_of policy source file) t
  safe = sound (Reached g.policy g.spots g.states) (problem_of policy source file) g t refl of.states of.laid (good_closed g t good) valid.few_limits

  abbrev Keeps : List Move → LandingData → List WaitData → List ℕ → List ℕ → Type 0
  Keeps entries landing waits old new = LoopKeeps names h t plan entries landing waits old new

  pub loop_begun : (here : HereData) (waits : List WaitData) (old new : List ℕ) → Arrives names g t held same (start_here g t) (here_of here) old new → IsHere g (here_of here) → waits ≡ []
      → Keeps [] (At here) waits old new
  loop_begun here waits old new a there none =
      subst (λ ws. Keeps [] (At here) ws old new) (sym none)
      (record { run = begun names g t plan of.states of.laid of.routines held holds same refl (here_of here) old new a; there = there; waiting = All-nil (λ w. IsWait g (wait_of w)) })

  pub loop_went : (tape : List Move) (i : ℕ) (by : Move) (here : HereData) (p landing : LandingData) (o : Option LandingData) (waits waits2 : List WaitData) (old mid new : List ℕ) → i < length tape
      → by ≡ get_or tape i by → p ≡ At here → o ≡ Some landing → Keeps (take i tape) p waits old mid
      → Answered names g t held same (here_of here) by o (innermost waits) (innermost waits2) mid new
      → IsLanding g (landing_in landing) → All (λ w. IsWait g (wait_of w)) waits2 → Keeps (take (i + 1) tape) landing waits2 old new
  loop_went tape i by here p landing o waits waits2 old mid new lt is ep eo k0 a there all =
      let k = subst (λ z. Keeps (take i tape) z waits old mid) ep k0 in
      let w = subst (λ z. Answered names g t held same (here_of here) by z (innermost waits) (innermost waits2) mid new) eo a in
      let n = w.0 in
      subst (λ entries. Keeps entries landing waits2 old new) (sym (front_more tape i by lt is))
      (record {
        run =
            went names g t plan of.states of.laid of.routines held holds same refl (start_on g t plan) (take i tape) (here_of here) (innermost waits) (innermost waits2)
            (landing_in landing) old mid new by n k.run w.1 w.2;
        there = there;
        waiting = all;
      })

  abbrev Puts : List Move → End → List ℕ → List ℕ → Type 0
  Puts tape end old new = Tells (problem_of policy source file) (trace_names_of source file plan) t tape end old new

  named : (tape : List Move) (end : End) (old new : List ℕ) → names ≡ trace_names_of source file plan → Tells (problem_of policy source file) names t tape end old new → Puts tape end old new
  named tape end old new e k = subst (λ ns. Tells (problem_of policy source file) ns t tape end old new) e k

  pub loop_bad : (tape : List Move) (i : ℕ) (by : Move) (here : HereData) (p : LandingData) (o : Option LandingData) (waits waits2 : List WaitData) (old mid new : List ℕ)
      → names ≡ trace_names_of source file plan → i < length tape → by ≡ get_or tape i by → p ≡ At here → o ≡ None → Keeps (take i tape) p waits old mid
      → Answered names g t held same (here_of here) by o (innermost waits) (innermost waits2) mid new → Puts tape (BadMove i) old new
  loop_bad tape i by here p o waits waits2 old mid new e lt is ep eo k0 a0 =
      let k = subst (λ z. Keeps (take i tape) z waits old mid) ep k0 in
      let a = subst (λ z. Answered names g t held same (here_of here) by z (innermost waits) (innermost waits2) mid new) eo a0 in
      named tape (BadMove i) old new e
      (subst (λ l. Tells (problem_of policy source file) names t tape (BadMove i) old l) (sym a.1)
      (bad_entry names g t plan of.states of.laid of.routines held holds safe tape i by (here_of here) (innermost waits) old mid k.run (slice_get_read tape (length tape) i by refl lt is) a.0))

  pub loop_past : (tape : List Move) (i : ℕ) (by : Move) (p : LandingData) (waits : List WaitData) (old new : List ℕ) → names ≡ trace_names_of source file plan → i < length tape
      → by ≡ get_or tape i by → p ≡ Over → Keeps (take i tape) p waits old new → Puts tape (BadMove i) old new
  loop_past tape i by p waits old new e lt is ep k0 =
      let k = subst (λ z. Keeps (take i tape) z waits old new) ep k0 in
      named tape (BadMove i) old new e (past_end names g t plan of.states of.laid of.routines held holds safe tape i by (innermost waits) old new k.run
      (slice_get_read tape (length tape) i by refl lt is))

  all_read : (tape : List Move) (i : ℕ) (p : LandingData) (waits : List WaitData) (old new : List ℕ) → length tape ≤ i → Keeps (take i tape) p waits old new → Keeps tape p waits old new
  all_read tape i p waits old new le k = subst (λ l. Keeps l p waits old new) (take_all i tape le) k

  pub loop_spent : (tape : List Move) (i : ℕ) (here : HereData) (p : LandingData) (waits : List WaitData) (old new : List ℕ) → names ≡ trace_names_of source file plan → length tape ≤ i
      → p ≡ At here → Keeps (take i tape) p waits old new → Puts tape TapeSpent old new
  loop_spent tape i here p waits old new e le ep k0 =
      let k = all_read tape i (At here) waits old new le (subst (λ z. Keeps (take i tape) z waits old new) ep k0) in
      named tape TapeSpent old new e (spent names g t plan of.states of.laid of.routines held holds safe tape (here_of here) (innermost waits) old new k.run)

  pub loop_over : (tape : List Move) (i : ℕ) (p : LandingData) (waits : List WaitData) (old new : List ℕ) → names ≡ trace_names_of source file plan → length tape ≤ i
      → p ≡ Over → Keeps (take i tape) p waits old new → Puts tape Ended old new
  loop_over tape i p waits old new e le ep k0 =
      let k = all_read tape i Over waits old new le (subst (λ z. Keeps (take i tape) z waits old new) ep k0) in
      named tape Ended old new e (over names g t plan of.states of.laid of.routines held holds safe tape (innermost waits) old new k.run)
