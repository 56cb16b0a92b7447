-- Woven runs, whatever the table: they are put end to end; and those of a sound table come to no board that is forced.
use Rattle.std.proofs.Common.{◌≡◌, ℕ, zero, suc, List, [], ◌∷◌, ◌++◌, refl, sym, subst, ⊎_elim}
use Rattle.cw_certs.specs.Tables.{Table}
use Rattle.cw_model.specs.Boards.{Problem, start_board, Forced}
use Rattle.cw_model.specs.Runs.{State, start_state, Goes, WovenRun, last, reached, Sound}

-- End to end.
pub goes_append : (p : Problem) (t : Table) (s : State) (run more : List State) → Goes p t s run → Goes p t (last s run) more → Goes p t s (run ++ more)
goes_append p t s [] more h k = k
goes_append p t s (next ∷ run) more h k = (h.0, goes_append p t next run more h.1 k)

pub last_append : (s : State) (run : List State) (next : State) → last s (run ++ next ∷ []) ≡ next
last_append s [] next = refl
last_append s (one ∷ run) next = last_append one run next

-- No board of a run of a sound table is forced.
forced_along : (p : Problem) (t : Table) → Sound p t → (n : ℕ) (run : List State) → WovenRun p t run → Forced p n (reached p t run).board → ⊥
forced_along p t sound zero run h f = sound.meets run h f
forced_along p t sound (suc n) run h f =
    ⊎_elim (λ v. sound.meets run h v) (λ r. ⊎_elim
    (λ w.
    let k = sound.chooses run h w.0 in
    let g = goes_append p t (start_state p t) run (k.1 ∷ []) h ((k.0, k.2), tt) in
    forced_along p t sound n (run ++ k.1 ∷ []) g (subst (λ s. Forced p n s.board) (sym (last_append (start_state p t) run k.1)) (w.1 k.0 k.1.board k.2.0)))
    (λ w.
    let m = w.1 in
    let k = sound.answers run m.0 m.1 h w.0 m.2 in
    let next : State = record { board = m.1; mems = k.0 } in
    let g = goes_append p t (start_state p t) run (next ∷ []) h ((m.0, k.1), tt) in
    forced_along p t sound n (run ++ next ∷ []) g (subst (λ s. Forced p n s.board) (sym (last_append (start_state p t) run next)) m.3)) r) f

pub never_forced : (p : Problem) (t : Table) → Sound p t → (n : ℕ) → Forced p n (start_board p) → ⊥
never_forced p t sound n f = forced_along p t sound n [] tt f
