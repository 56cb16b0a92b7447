-- What a strategy beats is forced: the play is determined by the weaver's choices.
use Rattle.std.proofs.Common.{◌≡◌, ◌⊎◌, ℕ, zero, suc, ◌+◌, ◌≤◌, List, [], ◌∷◌, length, Bool, true, false, Option, Some, None, refl, sym, ap, ◌∙◌, subst, inl, inr, ⊎_elim, arith}
use Rattle.std.specs.Prelude.{slice_get}
use Rattle.std.proofs.lemmas.Option.{none-some, same_Some}
use Rattle.cw_certs.specs.declared.moves.Move.{Move}
use Rattle.cw_certs.specs.declared.moves.Move.TheVariants.{Skip, Try, On}
use Rattle.cw_certs.specs.Strategies.{How, Bad, Out, Both, Go, Into, Row, Strategy}
use Rattle.cw_certs.specs.Tables.{Table}
use Rattle.cw_model.specs.Boards.{Problem, Phase, Visit, Asked, Refused, Free, FreeSplit, Over, Board, Violates, moved, Moves, Weaver, turn_of, IsEnvironments, Forced, start_board}
use Rattle.cw_model.specs.Runs.{Sound}
use Rattle.cw_model.specs.Plays.{choice, row_by, FollowsHow, FollowsRow, FollowedPlay, Beats}
use Rattle.cw_model.proofs.Running.{never_forced}

module _ (p : Problem) where
  -- more moves do no harm
  forced_within : (n m : ℕ) (b : Board) → n ≤ m → Forced p n b → Forced p m b
  forced_within zero zero b le f = f
  forced_within zero (suc m) b le f = inl f
  forced_within (suc n) zero b le f = absurd (omega (arith, le))
  forced_within (suc n) (suc m) b le f =
      let le2 : n ≤ m = omega (arith, le) in
      ⊎_elim (λ v. inl v) (λ r. ⊎_elim
      (λ w. inr (inl (w.0, λ by next h. forced_within n m next le2 (w.1 by next h))))
      (λ w. let k = w.1 in inr (inr (w.0, (k.0, k.1, k.2, forced_within n m k.1 le2 k.3)))) r) f

  -- a move leads to one board
  one_board : (b : Board) (by : Move) (next other : Board) → Moves p b by next → Moves p b by other → other ≡ next
  one_board b by next other h k = same_Some other next (sym k.1 ∙ h.1)

  -- where the weaver may skip and may try it has no other move
  skips_turn : (b : Board) (phase : Phase) (next tried : Board) → moved p b phase Skip ≡ Some next → moved p b phase Try ≡ Some tried → turn_of phase ≡ Some Weaver
  skips_turn b (Visit i a later) next tried e k = refl
  skips_turn b (Refused i a later) next tried e k = absurd (none-some tried k)
  skips_turn b (Asked i a later) next tried e k = absurd (none-some next e)
  skips_turn b Free next tried e k = absurd (none-some next e)
  skips_turn b FreeSplit next tried e k = absurd (none-some next e)
  skips_turn b Over next tried e k = absurd (none-some next e)

  weavers_move : (b : Board) (phase : Phase) (by : Move) (next tried : Board) → turn_of phase ≡ Some Weaver → moved p b phase Try ≡ Some tried → moved p b phase by ≡ Some next
      → (by ≡ choice false) ⊎ (by ≡ choice true)
  weavers_move b (Visit i a later) Skip next tried t k e = inl refl
  weavers_move b (Visit i a later) Try next tried t k e = inr refl
  weavers_move b (Visit i a later) _ next tried t k e = absurd (none-some next e)
  weavers_move b (Refused i a later) by next tried t k e = absurd (none-some tried k)
  weavers_move b (Asked i a later) by next tried t k e = let w = same_Some _ _ t in cc
  weavers_move b Free by next tried t k e = let w = same_Some _ _ t in cc
  weavers_move b FreeSplit by next tried t k e = let w = same_Some _ _ t in cc
  weavers_move b Over by next tried t k e = absurd (none-some _ t)

  -- the weaver is forced where both its choices lead to forced boards
  both_forced : (b skipped tried : Board) (m n : ℕ) → Moves p b Skip skipped → Moves p b Try tried → Forced p m skipped → Forced p n tried → Forced p (suc (m + n)) b
  both_forced b skipped tried m n h k f e =
      let t = skips_turn b b.phase skipped tried h.1 k.1 in
      inr (inl (
        t,
        λ by next w. ⊎_elim
            (λ y. subst (λ z. Forced p (m + n) z) (sym (one_board b Skip skipped next h (subst (λ z. Moves p b z next) y w))) (forced_within m (m + n) skipped (omega arith) f))
            (λ y. subst (λ z. Forced p (m + n) z) (sym (one_board b Try tried next k (subst (λ z. Moves p b z next) y w))) (forced_within n (m + n) tried (omega arith) e))
            (weavers_move b b.phase by next tried t k.1 w.1),
      ))

  env_forced : (b next : Board) (by : Move) → IsEnvironments b → Moves p b by next → (m : ℕ) × Forced p m next → (m : ℕ) × Forced p m b
  env_forced b next by t h f = (suc f.0, inr (inr (t, (by, next, h, f.1))))

  freed_turn : (b : Board) → (b.phase ≡ Free) ⊎ (b.phase ≡ FreeSplit) → IsEnvironments b
  freed_turn b e = ⊎_elim (λ y. ap turn_of y) (λ y. ap turn_of y) e

  module _ (s : Strategy) where
    -- whatever the weaver's next n choices are, the play comes to a violation
    abbrev IsBeaten : ℕ → ℕ → Board → List (List (ℕ × ℕ)) → Type 0
    IsBeaten n row b waiting = (choices : List Bool) → length choices ≡ n → (steps : ℕ) × FollowedPlay p s steps row b waiting choices

    abbrev BeatenIsForced : ℕ → Type 0
    BeatenIsForced n = (row : ℕ) (b : Board) (waiting : List (List (ℕ × ℕ))) → IsBeaten n row b waiting → (m : ℕ) × Forced p m b

    -- the same by the row at which the play stands
    abbrev IsBeatenBy : ℕ → ℕ → How → Board → List (List (ℕ × ℕ)) → Type 0
    IsBeatenBy n state how b waiting = (choices : List Bool) → length choices ≡ n → (steps : ℕ) × FollowsHow p (FollowedPlay p s steps) b waiting state how choices

    -- where the board doesn't violate the play goes on by the row
    at_row : (n row : ℕ) (r : Row) (b : Board) (waiting : List (List (ℕ × ℕ))) → slice_get s.rows row ≡ Some r → IsBeaten n row b waiting → (Violates p b → ⊥) → IsBeatenBy n r.state r.how b waiting
    at_row n row r b waiting e h fine choices l = by (h choices l).0 (h choices l).1
      where
        by : (steps : ℕ) → FollowedPlay p s steps row b waiting choices → (steps : ℕ) × FollowsHow p (FollowedPlay p s steps) b waiting r.state r.how choices
        by zero f = absurd (fine f)
        by (suc steps) f = ⊎_elim (λ v. absurd (fine v)) (λ y. (steps, subst (λ o. FollowsRow p (FollowedPlay p s steps) b waiting o choices) e y)) f

    falses : ℕ → List Bool
    falses zero = []
    falses (suc n) = false ∷ falses n

    falses_length : (n : ℕ) → length (falses n) ≡ n
    unfolding falses
    falses_length zero = refl
    falses_length (suc n) = ap suc (falses_length n)

    -- the rest is beaten where all that is followed leads to one board and one row
    rest_beaten : (n row : ℕ) (b : Board) (waiting : List (List (ℕ × ℕ))) (by : Move) (next : Board) → Moves p b by next
        → ((choices : List Bool) → length choices ≡ n → (steps : ℕ) × ((other : Board) × Moves p b by other × FollowedPlay p s steps row other waiting choices)) → IsBeaten n row next waiting
    rest_beaten n row b waiting by next h k choices l =
        let w = k choices l in
        let f = w.1 in
        (w.0, subst (λ y. FollowedPlay p s w.0 row y waiting choices) (one_board b by next f.0 h f.1) f.2)

    -- by the steps that the play takes where the weaver always skips
    by_how : (n : ℕ) → ((n' : ℕ) → n ≡ suc n' → BeatenIsForced n') → (state : ℕ) (how : How) (b : Board) (waiting : List (List (ℕ × ℕ))) (k : ℕ)
        → FollowsHow p (FollowedPlay p s k) b waiting state how (falses n) → ((Violates p b → ⊥) → IsBeatenBy n state how b waiting)
        → ((row : ℕ) (next : Board) (waiting : List (List (ℕ × ℕ))) → FollowedPlay p s k row next waiting (falses n) → IsBeaten n row next waiting → (m : ℕ) × Forced p m next)
        → (m : ℕ) × Forced p m b
    unfolding falses
    by_how n fewer state Bad b waiting k f h go = (0, f)
    by_how n fewer state Out b [] k f h go = absurd f.2
    by_how n fewer state Out b (backs ∷ waiting) k f h go =
        let w = f.2 in
        env_forced b w.0 On (ap turn_of f.0) w.2
        (go w.1 w.0 waiting w.4 (λ choices l.
        let y = h w.2.0 choices l in
        let z = y.1.2 in (
          y.0,
          subst (λ row. FollowedPlay p s y.0 row w.0 waiting choices) (same_Some z.1 w.1 (sym z.3 ∙ w.3))
              (subst (λ b. FollowedPlay p s y.0 z.1 b waiting choices) (one_board b On w.0 z.0 w.2 z.2) z.4),
        )))
    by_how n fewer state (Go by row) b waiting k f h go =
        let w = f.1 in
        let mv = w.1.0 in
        env_forced b w.0 by f.0 mv (go row w.0 waiting w.2 (rest_beaten n row b waiting by w.0 mv (λ choices l. let y = h mv.0 choices l in let z = y.1.1 in (y.0, (z.0, z.1.0, z.2)))))
    by_how n fewer state (Into callee backs) b waiting k f h go =
        let w = f.2 in
        env_forced b w.0 On (freed_turn b f.0) w.1 (go callee w.0 (backs ∷ waiting) w.2 (rest_beaten n callee b (backs ∷ waiting) On w.0 w.1 (λ choices l. let y = h w.1.0 choices l in (y.0, y.1.2))))
    by_how zero fewer state (Both skip tried) b waiting k f h go = absurd f
    by_how (suc n) fewer state (Both skip tried) b waiting k f h go =
        let fine = f.1.0 in
        let after : (c : Bool) (choices : List Bool) → length choices ≡ n
        → (steps : ℕ) × ((other : Board) × Moves p b (choice c) other × FollowedPlay p s steps (row_by c skip tried) other waiting choices) =
        λ c choices l. h fine (c ∷ choices) (ap suc l) in
        let f0 = (after false (falses n) (falses_length n)).1 in
        let f1 = (after true (falses n) (falses_length n)).1 in
        let m0 = fewer n refl skip f0.0 waiting (rest_beaten n skip b waiting Skip f0.0 f0.1 (after false)) in
        let m1 = fewer n refl tried f1.0 waiting (rest_beaten n tried b waiting Try f1.0 f1.1 (after true)) in
        (suc (m0.0 + m1.0), both_forced b f0.0 f1.0 m0.0 m1.0 f0.1 f1.1 m0.1 m1.1)

    by_steps : (n : ℕ) → ((n' : ℕ) → n ≡ suc n' → BeatenIsForced n') → (k row : ℕ) (b : Board) (waiting : List (List (ℕ × ℕ))) → FollowedPlay p s k row b waiting (falses n)
        → IsBeaten n row b waiting → (m : ℕ) × Forced p m b
    by_steps n fewer zero row b waiting f h = (0, f)
    by_steps n fewer (suc k) row b waiting f h = ⊎_elim (λ v. (0, v)) (λ y. at (slice_get s.rows row) refl y (λ row next waiting f h. by_steps n fewer k row next waiting f h)) f
      where
        at : (o : Option Row) → slice_get s.rows row ≡ o → FollowsRow p (FollowedPlay p s k) b waiting o (falses n)
            → ((row : ℕ) (next : Board) (waiting : List (List (ℕ × ℕ))) → FollowedPlay p s k row next waiting (falses n) → IsBeaten n row next waiting → (m : ℕ) × Forced p m next)
            → (m : ℕ) × Forced p m b
        at None e f go = absurd f
        at (Some r) e f go = by_how n fewer r.state r.how b waiting k f (at_row n row r b waiting e h) go

    pub beaten_is_forced : (n : ℕ) → BeatenIsForced n
    beaten_is_forced zero row b waiting h = let f = h (falses zero) (falses_length zero) in by_steps zero (λ n' e. absurd (omega (arith, e))) f.0 row b waiting f.1 h
    beaten_is_forced (suc n) row b waiting h =
        let f = h (falses (suc n)) (falses_length (suc n)) in
        by_steps (suc n) (λ n' e. subst BeatenIsForced (omega (arith, e)) (beaten_is_forced n)) f.0 row b waiting f.1 h

-- No table and no strategy of one program are both right.
pub never_both : (p : Problem) (t : Table) (s : Strategy) (row : ℕ) → Sound p t → Beats p s row → ⊥
never_both p t s row sound beats = let f = beaten_is_forced p s beats.0 row (start_board p) [] beats.1 in never_forced p t sound f.0 f.1
