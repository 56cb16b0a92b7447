-- Positions are flagged as plain, and at one all is asked for once what leads there in the same state is.
use Rattle.std.proofs.Common.{◌≡◌, ℕ, ◌+◌, ◌<◌, ◌≤◌, List, [], ◌∷◌, ◌++◌, Bool, true, false, length, get_or, set, sym, ap, ◌∙◌, subst, arith, inl, inr}
use Rattle.std.specs.Prelude.{slice_get}
use Rattle.std.proofs.lemmas.Bool.{cases_eq, cases_lt, false≢true}
use Rattle.std.proofs.lemmas.Bool.{cases_Bool as decide}
use Rattle.std.proofs.lemmas.List.{length_push, length-set, get_or_append_left, get_or_push, get_or_past, get_or-set_same, get_or-set_other}
use Rattle.cw_core.specs.declared.ids.PosId.{PosId}
use Rattle.cw_game.specs.Games.{Game}
use Rattle.cw_links.specs.Flat.{row_at}
use Rattle.cw_product.specs.Routed.{AreRouted}
use Rattle.cw_solve.proofs.Calling.{cell_within}
use Rattle.cw_linked.specs.declared.edges.Changes.{Changes}
use Rattle.cw_linked.specs.declared.work.Cell.{Cell}
use Rattle.cw_linked.specs.declared.work.Work.{Work}
use Rattle.cw_linked.specs.Calls.{AsksCallers}
use Rattle.cw_linked.specs.Founds.{AreAlike, AreRight}
use Rattle.cw_linked.specs.Plain.{IsPlain, ArePlain}
use Rattle.cw_linked.specs.Popped.{IsTaken, Finishes}
use Rattle.cw_linked.specs.Queues.{found_of, LowersKeys, AsksWaiting}
use Rattle.cw_linked.specs.Returns.{AreReturns, AsksReturns}
use Rattle.cw_linked.specs.Waiting.{keeps_state, AreChanges, AsksSources}
use Rattle.cw_linked.specs.Works.{known_of, IsKnown}
use Rattle.cw_linked.proofs.Finishing.{next_known, next_right, next_cell, no_entry, one_called, two_standing, finished}
use Rattle.cw_linked.proofs.Telling.{nothing}

-- Flags.

module _ (g : Game) where
  -- nothing leads there that may change the state, where the position isn't flagged by changes, and nothing returns there, where its row is empty
  pub bare : (changes : Changes) (returns : List (List PosId)) → AreChanges g changes → AreReturns g returns → (r : ℕ) → get_or changes.flags r false ≡ false
      → length (row_at returns r) ≡ 0 → IsPlain g 0 r
  bare changes returns are back r unmarked none = record {
    keeps = λ p q x lt state leads. elim (decide (keeps_state (slice_get g.spots p))) [
      | inl keeping ↦ keeping
      | inr changing ↦ absurd (false≢true (sym unmarked ∙ (are.leads p q r x lt state changing leads).1))
    ];
    unreturned = λ p call lt es here.
        let there = back.leads p call lt es in
        let within = there.1 in
        let same : length (row_at returns call.back) ≡ 0 = ap (λ (y : ℕ). length (row_at returns y)) here ∙ none in
        omega (arith, within, same);
    unentered = λ f lt e. omega (arith, lt);
  }

  -- none yet
  pub no_plain : (functions : ℕ) (plain : List Bool) → plain ≡ [] → ArePlain g functions 0 plain
  no_plain functions plain none = record {
    long = ap (λ (bs : List Bool). length bs) none;
    are = λ r is. absurd (false≢true (sym (ap (λ (bs : List Bool). get_or bs r false) none) ∙ is));
  }

  -- one position more
  pub plain_more : (functions m : ℕ) (plain new : List Bool) (b : Bool) → ArePlain g functions m plain → (b ≡ true → IsPlain g functions m) → new ≡ plain ++ b ∷ [] → ArePlain g functions (m + 1) new
  plain_more functions m plain new b are here is = record {
    long = (let e = ap (λ (bs : List Bool). length bs) is in let p = length_push plain b in omega (arith, e, p, are.long));
    are = λ r flagged.
        let now : get_or (plain ++ b ∷ []) r false ≡ true = sym (ap (λ (bs : List Bool). get_or bs r false) is) ∙ flagged in
        elim (cases_lt r m) [
          | inl before ↦ are.are r (sym (get_or_append_left plain (b ∷ []) false r (omega (arith, before, are.long))) ∙ now)
          | inr after ↦ elim (cases_lt m r) [
            | inl past ↦
                let p = length_push plain b in
                absurd (false≢true (sym (get_or_past (plain ++ b ∷ []) r false (omega (arith, past, p, are.long))) ∙ now))
            | inr le ↦
                let e : m ≡ r = omega (arith, after, le) in
                let last : length plain ≡ r = omega (arith, e, are.long) in
                subst (IsPlain g functions) e (here (sym (get_or_push plain b false r last) ∙ now))
          ]
        ];
  }

  -- one function more, whose entry is flagged no longer
  pub entry_flagged : (functions m : ℕ) (plain : List Bool) (e : ℕ) → ArePlain g functions m plain → e ≡ g.entry functions → e < m → ArePlain g (functions + 1) m (set plain e false)
  entry_flagged functions m plain e are entry lt = record {
    long = length-set plain e false ∙ are.long;
    are = λ r flagged. elim (cases_eq r e) [
      | inl same ↦
          let none : get_or (set plain e false) r false ≡ false = ap (λ (y : ℕ). get_or (set plain e false) y false) same ∙ get_or-set_same plain e false false (omega (arith, lt, are.long)) in
          absurd (false≢true (sym none ∙ flagged))
      | inr other ↦
          let was = are.are r (sym (get_or-set_other plain e r false false other) ∙ flagged) in
          record {
            keeps = was.keeps;
            unreturned = was.unreturned;
            unentered = λ f less here. elim (cases_lt f functions) [
              | inl before ↦ was.unentered f before here
              | inr after ↦
                  let e : functions ≡ f = omega (arith, less, after) in
                  other (sym here ∙ ap g.entry (sym e) ∙ sym entry)
            ];
          }
    ];
  }

  -- fewer functions
  pub fewer_functions : (functions many m : ℕ) (plain : List Bool) → many ≤ functions → ArePlain g functions m plain → ArePlain g many m plain
  fewer_functions functions many m plain le are = record {
    long = are.long;
    are = λ r flagged.
        let was = are.are r flagged in
        record { keeps = was.keeps; unreturned = was.unreturned; unentered = λ f lt. was.unentered f (omega (arith, lt, le)) };
  }

-- What leads to a cell in its state is asked for: at a plain position that is all.
module _ (g : Game) (functions : ℕ) (routed : AreRouted g functions) (alike : AreAlike g) (w one : Work) (cell : Cell) (height : ℕ) (taken : IsTaken g w cell height)
    (sources : AsksSources g w one cell) (many : ℕ) (plain : IsPlain g many cell.pos.0) (fits : cell.at.context.function < many) where
  known : IsKnown g (known_of one)
  known = next_known g functions routed alike w one taken.known sources.step

  right : AreRight g one.blocks.contexts.items (found_of g one)
  right = next_right g functions routed alike w one taken.known sources.step

  still : LowersKeys g one one
  still = nothing g one sources.step.long sources.step.high right

  waiting : AsksWaiting g w one
  waiting = record {
    step = sources.step;
    closed = λ i c p q is. elim (sources.closed i c p q is) [
      | inl closed ↦ inl closed
      | inr rest ↦
          let lt = cell_within g functions routed w.blocks taken.known.blocks (record { number = i; context = c }) p q is in
          absurd (false≢true (sym rest.0 ∙ plain.keeps p q cell.state.0 lt is.state rest.1.1))
    ];
  }

  callers : AsksCallers g one one
  callers = record {
    step = still;
    called = no_entry g functions routed alike one known right cell.at.number cell.at.context cell.pos.0 cell.state.0
        (next_cell g functions routed alike w one taken.known sources.step cell taken.there).at (λ e. plain.unentered cell.at.context.function fits (sym e))
        (one_called g functions routed alike w one one one cell height taken waiting);
  }

  returns : AsksReturns g one one
  returns = record {
    step = still;
    standing = λ i c p k call is. elim (two_standing g functions routed alike w one one one cell height taken waiting callers i c p k call is) [
      | inl stands ↦ inl stands
      | inr rest ↦
          let lt = cell_within g functions routed one.blocks known.blocks (record { number = i; context = c }) p k is.cell in
          absurd (plain.unreturned p rest.0 lt rest.1 rest.3)
    ];
  }

  pub plain_finished : Finishes g w one w.store.to
  plain_finished = finished g functions routed alike w one one one cell height taken waiting callers returns
