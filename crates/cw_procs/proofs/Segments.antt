-- Steps of a world from any world on: with what they read and tell, and what they come to.
use Rattle.std.proofs.Common.{◌≡◌, ℕ, List, [], ◌∷◌, ◌++◌, Option, refl, sym, ap, ap₂, ◌∙◌, subst, append_assoc, append-nil}
use Rattle.cw_certs.specs.Tables.{Table}
use Rattle.cw_model.specs.Boards.{Problem}
use Rattle.cw_trace.specs.Traces.{Names}
use Rattle.cw_worlds.specs.Worlds.{World, Act, WorldStep, Step, Goes, world_after}
use Rattle.cw_procs.specs.Steps.{Entry, weavers_first, IsInTurn, AreInTurn, entry_by, entries_of}
use Rattle.cw_procs.specs.Told.{told, world_trace}

module _ (names : Names) (p : Problem) (t : Table) (forks : List ℕ) where
  pub record Segment (w : World) (entries : List Entry) (text : List ℕ) (after : World) : Type 0 where
    pub steps : List Step
    pub goes : Goes p t forks w steps
    pub turns : AreInTurn w steps
    pub reads : entries_of w steps ≡ entries
    pub tells : world_trace names p w steps ≡ text
    pub comes : world_after w steps ≡ after

  pub none : (w : World) → Segment w [] [] w
  none w = record { steps = []; goes = tt; turns = tt; reads = refl; tells = refl; comes = refl }

  goes_on : (w : World) (steps more : List Step) → Goes p t forks w steps → Goes p t forks (world_after w steps) more → Goes p t forks w (steps ++ more)
  goes_on w [] more h k = k
  goes_on w (s ∷ steps) more h k = (h.0, goes_on s.next steps more h.1 k)

  turns_on : (w : World) (steps more : List Step) → AreInTurn w steps → AreInTurn (world_after w steps) more → AreInTurn w (steps ++ more)
  turns_on w [] more h k = k
  turns_on w (s ∷ steps) more h k = (h.0, turns_on s.next steps more h.1 k)

  entries_on : (w : World) (steps more : List Step) → entries_of w (steps ++ more) ≡ entries_of w steps ++ entries_of (world_after w steps) more
  entries_on w [] more = refl
  entries_on w (s ∷ steps) more =
      ap (λ l. entry_by (weavers_first w) s ++ l) (entries_on s.next steps more)
      ∙ sym (append_assoc (entry_by (weavers_first w) s) (entries_of s.next steps) (entries_of (world_after s.next steps) more))

  told_on : (w : World) (steps more : List Step) → world_trace names p w (steps ++ more) ≡ world_trace names p w steps ++ world_trace names p (world_after w steps) more
  told_on w [] more = refl
  told_on w (s ∷ steps) more =
      ap (λ l. told names p w s.process s.act s.next ++ l) (told_on s.next steps more)
      ∙ sym (append_assoc (told names p w s.process s.act s.next) (world_trace names p s.next steps) (world_trace names p (world_after s.next steps) more))

  after_on : (w : World) (steps more : List Step) → world_after w (steps ++ more) ≡ world_after (world_after w steps) more
  after_on w [] more = refl
  after_on w (s ∷ steps) more = after_on s.next steps more

  -- One after the other.
  pub then_on : (w x y : World) (entries more : List Entry) (text added : List ℕ) → Segment w entries text x → Segment x more added y → Segment w (entries ++ more) (text ++ added) y
  then_on w x y entries more text added h k =
      let k2 = subst (λ z. Segment z more added y) (sym h.comes) k in
      record {
        steps = h.steps ++ k2.steps;
        goes = goes_on w h.steps k2.steps h.goes k2.goes;
        turns = turns_on w h.steps k2.steps h.turns k2.turns;
        reads = entries_on w h.steps k2.steps ∙ ap₂ (λ l m. l ++ m) h.reads k2.reads;
        tells = told_on w h.steps k2.steps ∙ ap₂ (λ l m. l ++ m) h.tells k2.tells;
        comes = after_on w h.steps k2.steps ∙ k2.comes;
      }

  -- One step, as an entry of the list where no weaver moves.
  pub one : (w next : World) (i : ℕ) (act : Act) (first : Option ℕ) → weavers_first w ≡ first → WorldStep p t forks w i act next → IsInTurn first i
      → Segment w (entry_by first (record { process = i; act = act; next = next })) (told names p w i act next) next
  one w next i act first e h turn =
      let step : Step = record { process = i; act = act; next = next } in
      record {
        steps = step ∷ [];
        goes = (h, tt);
        turns = (subst (λ o. IsInTurn o i) (sym e) turn, tt);
        reads = append-nil (entry_by (weavers_first w) step) ∙ ap (λ o. entry_by o step) e;
        tells = append-nil (told names p w i act next);
        comes = refl;
      }
