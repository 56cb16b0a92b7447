-- What a row of a sound search leads to may be set.
use Rattle.std.proofs.Common.{◌≡◌, ℕ, ◌+◌, [], true, false, Some, refl, ap, ◌∙◌, arith, inl, inr}
use Rattle.std.specs.Prelude.{slice_get}
use Rattle.cw_certs.specs.declared.moves.Move.{Move}
use Rattle.cw_game.specs.declared.spots.Spot.TheVariants.{Call}
use Rattle.cw_game.specs.Games.{Game, Config, leads_in, bad_in}
use Rattle.cw_audit_table.specs.Runs.{is_step, skipped, cut, at_start}
use Rattle.cw_audit_table.specs.Conditions.{is_inner}
use Rattle.cw_audit_search.specs.Searches.{Found}
use Rattle.cw_audit_search.specs.Sound.{IsFair, IsRowKey, IsArrival, IsSound, IsProposal, IsHitCut, HasFallen}
use Rattle.cw_audit_search.proofs.Runs.{entry_run, move_run, return_run, within_run, through, run_of, call_enters, run_hits}

module _ (g : Game) (functions : ℕ) (fair : IsFair g functions) where
  -- `main` is entered at the start
  pub main_arrival : IsArrival g g.main g.states.start 0
  main_arrival = record { function = inl refl; state = fair.start; moves = 0; run = at_start; number = refl }

  module _ (s : Found) (sound : IsSound g functions s) where
    -- at a call the callee is entered by one move more
    pub call_arrival : (f q r p x a j h k : ℕ) → s.reach f q ≡ Some r → s.number f q p x ≡ Some a → slice_get g.spots p ≡ Some (Call j h k) → IsArrival g h x (cut (r + a + 1))
    call_arrival f q r p x a j h k er ea call =
        let e = sound.entered f q r er in
        let w = sound.inside f q p x a ea in
        record {
          function = inr (p, j, k, call);
          state = (sound.keyed f q p x a ea).state;
          moves = e.moves + w.0 + 1;
          run = call_enters g f q p x e.moves w.0 j h k e.run w.1 call;
          number = omega (arith, e.number, w.2);
        }

    -- the entry of a group
    pub entry_proposal : (f q r : ℕ) → s.reach f q ≡ Some r → IsProposal g s f q (g.entry f) q 0
    entry_proposal f q r er = record {
      known = (r, er);
      moves = 0;
      run = entry_run g f q;
      number = refl;
      position = fair.begins f (sound.entered f q r er).function;
      state = (sound.entered f q r er).state;
      begun = inr (refl, refl, refl);
    }

    -- a move within the function
    pub move_proposal : (f q p x a : ℕ) (by : Move) (c : Config) → s.number f q p x ≡ Some a → is_inner (slice_get g.spots p) ≡ true → is_step by ≡ true
        → leads_in g p x [] (slice_get g.spots p) by ≡ Some c → IsProposal g s f q c.pos c.state (cut (a + 1))
    move_proposal f q p x a by c ea inner step l =
        let w = sound.inside f q p x a ea in
        let at = sound.keyed f q p x a ea in
        let m = fair.moves f p x by c at.function at.position at.state inner w.1.4 step l in
        record {
          known = sound.known f q p x a ea;
          moves = w.0 + 1;
          run = move_run g f q p x w.0 by c w.1 inner step l;
          number = omega (arith, w.2);
          position = m.0;
          state = m.1;
          begun = inl (sound.begun f q p x a ea);
        }

    -- the return of a call
    pub return_proposal : (f q p x a j h k y e : ℕ) → s.number f q p x ≡ Some a → slice_get g.spots p ≡ Some (Call j h k) → s.number h x (g.exit h) y ≡ Some e
        → IsProposal g s f q k y (cut (a + e + 2))
    return_proposal f q p x a j h k y e ea call ee =
        let w = sound.inside f q p x a ea in
        let at = sound.keyed f q p x a ea in
        let v = sound.inside h x (g.exit h) y e ee in
        let i = fair.ends h (inr (p, j, k, call)) in
        record {
          known = sound.known f q p x a ea;
          moves = w.0 + v.0 + 2;
          run = return_run g f q p x w.0 j h k y v.0 i.0 w.1 call v.1 i.1;
          number = omega (arith, w.2, v.2);
          position = fair.returns f p j h k at.function at.position call;
          state = (sound.keyed h x (g.exit h) y e ee).state;
          begun = inl (sound.begun f q p x a ea);
        }

    -- where the pair behind the skips is bad it is a violation
    pub proposal_hits : (f q p x n r : ℕ) → IsProposal g s f q p x n → s.reach f q ≡ Some r → bad_in g x (slice_get g.spots (skipped g p)) ≡ true → IsHitCut g (cut (r + n))
    proposal_hits f q p x n r o er bad =
        let e = sound.entered f q r er in
        (e.moves + o.moves, run_hits g f q p x e.moves o.moves e.run o.run bad, omega (arith, e.number, o.number))

    -- else a row may stand there
    pub proposal_row_key : (f q p x n : ℕ) → IsProposal g s f q p x n → bad_in g x (slice_get g.spots (skipped g p)) ≡ false → IsRowKey g functions f q (skipped g p) x
    proposal_row_key f q p x n o good =
        let e = sound.entered f q o.known.0 o.known.1 in
        let w = within_run g f q p x o.moves o.run good in
        let z = through g f q (skipped g p) x e.moves o.moves e.run (run_of g f q (skipped g p) x o.moves w) in
        record {
          below = fair.below f e.function;
          function = e.function;
          entered = e.state;
          position = o.position;
          state = o.state;
          free = fair.free z.1 _ z.3 w.3;
        }

  -- a proposal stays one while numbers fall
  pub proposal_later : (s s2 : Found) (f q p x n : ℕ) → HasFallen s s2 → IsProposal g s f q p x n → IsProposal g s2 f q p x n
  proposal_later s s2 f q p x n fallen o =
      let r = fallen.reach f q o.known.0 o.known.1 in
      record {
        known = (r.0, r.1);
        moves = o.moves;
        run = o.run;
        number = o.number;
        position = o.position;
        state = o.state;
        begun = elim o.begun [
          | inl h ↦ let b = fallen.number f q (skipped g (g.entry f)) q 0 h in inl (b.1 ∙ ap (λ n. Some n) (omega (arith, b.2)))
          | inr h ↦ inr h
        ];
      }

pub fallen_refl : (s : Found) → HasFallen s s
fallen_refl s = record { reach = λ f q r e. (r, e, omega arith); number = λ f q p x a e. (a, e, omega arith); best = λ k e. (k, e, omega arith) }

pub fallen_trans : (s t u : Found) → HasFallen s t → HasFallen t u → HasFallen s u
fallen_trans s t u h k = record {
  reach = λ f q r e. let a = h.reach f q r e in let b = k.reach f q a.0 a.1 in (b.0, b.1, omega (arith, a.2, b.2));
  number = λ f q p x n e. let a = h.number f q p x n e in let b = k.number f q p x a.0 a.1 in (b.0, b.1, omega (arith, a.2, b.2));
  best = λ n e. let a = h.best n e in let b = k.best a.0 a.1 in (b.0, b.1, omega (arith, a.2, b.2));
}
