-- Plays in which the weaver always skips, and woven runs in which nothing is tried.
use Rattle.std.proofs.Common.{◌≡◌, ℕ, zero, suc, ◌+◌, ◌≤◌, List, [], ◌∷◌, ◌++◌, length, ◌&&◌, nat_eq, find, is_some, option_map, Option, Some, None, length-append}
use Rattle.std.proofs.Common.{refl, sym, ap, ◌∙◌, subst, arith, inl, inr}
use Rattle.std.proofs.lemmas.Option.{none-some, same_Some}
use Rattle.cw_certs.specs.Tables.{Table}
use Rattle.cw_certs.specs.declared.moves.Move.{Move}
use Rattle.cw_certs.specs.declared.moves.Move.TheVariants.{Skip, Try, Stop}
use Rattle.cw_certs.specs.declared.rows.TryRow.{TryRow}
use Rattle.cw_model.specs.Boards.{Problem, Phase, Visit, Asked, Refused, Free, FreeSplit, Over, Board, start_board, passed_by, moved, Moves, Violates, Forced}
use Rattle.cw_model.specs.Boards.{Weaver, Environment, turn_of, IsWeavers, IsEnvironments}
use Rattle.cw_model.specs.Runs.{State, start_state, Goes, WovenRun, WovenStep, last, reached, memories, top_by, stays_where, try_in, front_seam, Sound, Lazy}
use Rattle.cw_model.proofs.Moving.{one_party}
use Rattle.cw_model.proofs.Running.{goes_append, last_append}
use Rattle.cw_audit_table.specs.Plays.{Played, begins, skips, goes, IsViolating, IsVerdict, IsUnasked}
use Rattle.cw_audit_table.proofs.Plays.{nothing_is_asked}
use Rattle.cw_audit_laws.specs.Trying.{NeverTries, MeetsWhereNothingIsTried, NoRowsTryNothing, ForcedIsViolated}

-- where nothing was asked, the weaver's turn is a visit, which has a skip and no stop
skip_in : (p : Problem) (b : Board) (phase : Phase) → b.phase ≡ phase → IsUnasked phase → turn_of phase ≡ Some Weaver → (next : Board) × Moves p b Skip next
skip_in p b (Visit stage a later) e u t =
    let calm : Violates p b → ⊥ = λ (v : Violates p b). let z : Visit stage a later ≡ Free = sym e ∙ v.0 in cc in
    (passed_by b stage later, (calm, ap (λ x. moved p b x Skip) e))
skip_in p b Free e u t = let z = same_Some _ _ t in absurd cc
skip_in p b Over e u t = absurd (none-some _ t)
skip_in p b _ e u t = absurd u

never_stops : (p : Problem) (b next : Board) (phase : Phase) → IsUnasked phase → moved p b phase Stop ≡ Some next → ⊥
never_stops p b next (Visit stage a later) u e = none-some next e
never_stops p b next Free u e = none-some next e
never_stops p b next Over u e = none-some next e
never_stops p b next _ u e = absurd u

module _ (p : Problem) where
  skip_at : (ms : List Move) (b : Board) → Played p ms b → IsWeavers b → (next : Board) × Moves p b Skip next
  skip_at ms b play turn = skip_in p b b.phase refl (nothing_is_asked p ms b play) turn

  -- What is forced from a board of such a play comes to pass though the weaver skips.
  forced_play : (n : ℕ) (ms : List Move) (b : Board) → Played p ms b → Forced p n b → (ns : List Move) × IsViolating p ns × (length ns ≤ length ms + n)
  forced_play zero ms b play v = (ms, (b, play, v), omega arith)
  forced_play (suc n) ms b play (inl v) = (ms, (b, play, v), omega arith)
  forced_play (suc n) ms b play (inr (inl (turn, each))) =
      let skip = skip_at ms b play turn in
      let w = forced_play n ms skip.0 (skips ms b skip.0 play skip.1) (each Skip skip.0 skip.1) in
      (w.0, w.1, omega (arith, w.2))
  forced_play (suc n) ms b play (inr (inr (turn, (by, next, move, later)))) =
      let w = forced_play n (ms ++ by ∷ []) next (goes ms b next by play turn move) later in
      (w.0, w.1, omega (arith, w.2, length-append ms (by ∷ [])))

  module _ (t : Table) where
    further : (run : List State) (by : Move) (next : State) → WovenRun p t run → WovenStep p t (reached p t run) by next
        → WovenRun p t (run ++ next ∷ []) × (reached p t (run ++ next ∷ []) ≡ next)
    further run by next woven step = (goes_append p t (start_state p t) run (next ∷ []) woven ((by, step), tt), last_append (start_state p t) run next)

    -- ---- a program that meets its policy as it is

    module _ (lazy : Lazy p t) (meets : IsVerdict p None) where
      -- what is tried where a woven run is such a play could be forced
      untried : (ms : List Move) (run : List State) (next : State) → WovenRun p t run → Played p ms (reached p t run).board → WovenStep p t (reached p t run) Try next → ⊥
      untried ms run next woven play step =
          let b = (reached p t run).board in
          let skip = skip_at ms b play (one_party p b Try next.board step.0) in
          let forced = lazy run Try next skip.0 woven (inl refl) step skip.1 in
          let w = forced_play forced.0 ms skip.0 (skips ms b skip.0 play skip.1) forced.1 in
          meets w.0 w.1

      -- so each step of a woven run goes on with one
      step_played : (ms : List Move) (run : List State) (by : Move) (next : State) → WovenRun p t run → Played p ms (reached p t run).board
          → WovenStep p t (reached p t run) by next → (ns : List Move) × Played p ns next.board
      step_played ms run Skip next woven play step = (ms, skips ms (reached p t run).board next.board play step.0)
      step_played ms run Try next woven play step = absurd (untried ms run next woven play step)
      step_played ms run Stop next woven play step =
          let b = (reached p t run).board in absurd (never_stops p b next.board b.phase (nothing_is_asked p ms b play) step.0.1)
      step_played ms run by next woven play step =
          (ms ++ by ∷ [], goes ms (reached p t run).board next.board by play (one_party p (reached p t run).board by next.board step.0) step.0)

      along : (ms : List Move) (before later : List State) → WovenRun p t before → Played p ms (reached p t before).board → Goes p t (reached p t before) later
          → (ns : List Move) × Played p ns (last (reached p t before) later).board
      along ms before [] woven play h = (ms, play)
      along ms before (next ∷ later) woven play h =
          let w = step_played ms before h.0.0 next woven play h.0.1 in
          let f = further before h.0.0 next woven h.0.1 in
          let play_on = subst (λ (s : State). Played p w.0 s.board) (sym f.1) w.1 in
          let rest = subst (λ (s : State). Goes p t s later) (sym f.1) h.1 in
          let z = along w.0 (before ++ next ∷ []) later f.0 play_on rest in
          (z.0, subst (λ (s : State). Played p z.0 (last s later).board) f.1 z.1)

      never_tries : NeverTries p t
      never_tries run next woven step = let w = along [] [] run tt begins woven in untried w.0 run next woven w.1 step

    -- ---- a table that never tries

    module _ (sound : Sound p t) (never : NeverTries p t) where
      -- a board of a woven run
      abbrev IsWoven : Board → Type 0
      IsWoven b = (run : List State) × WovenRun p t run × ((reached p t run).board ≡ b)

      chosen : (ms : List Move) (b next : Board) (run : List State) → Played p ms b → WovenRun p t run → (reached p t run).board ≡ b → Moves p b Skip next
          → (by : Move) (other : State) → WovenStep p t (reached p t run) by other → IsWeavers b → other.board ≡ next
      chosen ms b next run play woven at skip Skip other step turn =
          let one : Moves p b Skip other.board = subst (λ x. Moves p x Skip other.board) at step.0 in
          same_Some other.board next (sym one.1 ∙ skip.1)
      chosen ms b next run play woven at skip Try other step turn = absurd (never run other woven step)
      chosen ms b next run play woven at skip Stop other step turn =
          let one : Moves p b Stop other.board = subst (λ x. Moves p x Stop other.board) at step.0 in
          absurd (never_stops p b other.board b.phase (nothing_is_asked p ms b play) one.1)
      chosen ms b next run play woven at skip by other step turn =
          let one : Moves p b by other.board = subst (λ x. Moves p x by other.board) at step.0 in
          let z : Environment ≡ Weaver = same_Some _ _ (sym (one_party p b by other.board one) ∙ turn) in
          absurd cc

      -- each board of a play in which the weaver always skips is one
      played_woven : (ms : List Move) (b : Board) → Played p ms b → IsWoven b
      played_woven [] _ begins = ([], tt, refl)
      played_woven ms next (skips _ b _ play skip) =
          let w = played_woven ms b play in
          let turn = one_party p b Skip next skip in
          let choice = sound.chooses w.0 w.1 (subst IsWeavers (sym w.2) turn) in
          let f = further w.0 choice.0 choice.1 w.1 choice.2 in
          (w.0 ++ choice.1 ∷ [], f.0, ap (λ (s : State). s.board) f.1 ∙ chosen ms b next w.0 play w.1 w.2 skip choice.0 choice.1 choice.2 turn)
      played_woven _ next (goes ms b _ by play turn move) =
          let w = played_woven ms b play in
          let k = sound.answers w.0 by next w.1 (subst IsEnvironments (sym w.2) turn) (subst (λ x. Moves p x by next) (sym w.2) move) in
          let then : State = record { board = next; mems = k.0 } in
          let f = further w.0 by then w.1 k.1 in
          (w.0 ++ then ∷ [], f.0, ap (λ (s : State). s.board) f.1)

      never_violates : IsVerdict p None
      never_violates ms v = let w = played_woven ms v.0 v.1 in sound.meets w.0 w.1 (subst (Violates p) (sym w.2) v.2)

pub meets_untried : MeetsWhereNothingIsTried
meets_untried p t sound lazy = ((λ meets. never_tries p t lazy meets), (λ never. never_violates p t sound never))

pub forced_violated : ForcedIsViolated
forced_violated p n f = let w = forced_play p n [] (start_board p) begins f in (w.0, w.1, omega (arith, w.2))

-- ---- a table without a row of tries

no_row : (t : Table) (seam : Option ℕ) (stage m : ℕ) → t.tries ≡ [] → try_in t seam stage m ≡ None
no_row t None stage m e = refl
no_row t (Some j) stage m e = ap (λ (rows : List TryRow). find (λ r. nat_eq r.seam.0 j && (nat_eq r.stage stage && nat_eq r.mem.0 m)) rows) e

no_memories : (f : ℕ → Option ℕ) (ms next : List ℕ) → ((m : ℕ) → f m ≡ None) → top_by f ms ≡ Some next → ⊥
no_memories f [] next none e = none-some next e
no_memories f (m ∷ ms) next none e = none-some next (sym (ap (option_map (λ new. new ∷ ms)) (none m)) ∙ e)

untried_in : (p : Problem) (t : Table) (b next : Board) (ms later_ms : List ℕ) (phase : Phase) → t.tries ≡ [] → moved p b phase Try ≡ Some next → memories p t b ms phase Try ≡ Some later_ms → ⊥
untried_in p t b next ms later_ms (Visit stage a later) e m h =
    no_memories (λ m. stays_where (is_some (try_in t (front_seam b.stack) stage m)) m) ms later_ms
    (λ m. ap (λ o. stays_where (is_some o) m) (no_row t (front_seam b.stack) stage m e)) h
untried_in p t b next ms later_ms (Asked stage a later) e m h = none-some next m
untried_in p t b next ms later_ms (Refused stage a later) e m h = none-some next m
untried_in p t b next ms later_ms Free e m h = none-some next m
untried_in p t b next ms later_ms FreeSplit e m h = none-some next m
untried_in p t b next ms later_ms Over e m h = none-some next m

pub rows_try : NoRowsTryNothing
rows_try p t e run next woven step =
    let s = reached p t run in untried_in p t s.board next.board s.mems next.mems s.board.phase e step.0.1 step.1
