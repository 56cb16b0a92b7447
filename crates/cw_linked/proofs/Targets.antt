-- A link is taken: the context to which it is to go is needed, the link may be tied to it, and then less is left to do.
use Rattle.std.proofs.Common.{◌≡◌, ℕ, ◌+◌, ◌-◌, ◌*◌, ◌<◌, List, [], ◌∷◌, ◌++◌, Bool, Some, length, replicate, set, refl, sym, ap, ◌∙◌, subst, arith, inl, inr}
use Rattle.std.specs.Prelude.{slice_get, slice_index, option_map, Contains}
use Rattle.std.proofs.lemmas.List.Elements.{Contains-append_left}
use Rattle.std.proofs.lemmas.Option.{slice_get_within}
use Rattle.cw_lemmas.proofs.Lists.{get_contains}
use Rattle.cw_core.specs.declared.ids.PosId.{PosId}
use Rattle.cw_game.specs.Games.{Game, returned}
use Rattle.cw_game.specs.Pairs.{Called, kept_at}
use Rattle.cw_product.specs.declared.turn.Turn.TheVariants as turn
use Rattle.cw_product.specs.Moves.{turn_in}
use Rattle.cw_solve.specs.declared.contexts.Context.{Context}
use Rattle.cw_product.specs.Routed.{AreRouted, IsOf}
use Rattle.cw_solve.specs.Contexts.{context, size, IsSetOf, IsNeeded, of_call}
use Rattle.cw_solve.specs.Rounds.{positions, slot, IsCell, holds_by}
use Rattle.cw_solve.specs.Tables.{HasCell}
use Rattle.cw_solve.proofs.Falls.{back_stays}
use Rattle.cw_solve.proofs.Slots.{slot_within}
use Rattle.cw_solve.proofs.Tabling.{there_at}
use Rattle.cw_linked.specs.declared.work.Cell.{Cell}
use Rattle.cw_linked.specs.declared.work.Work.{Work}
use Rattle.cw_linked.specs.Added.{IsOpen, AddsContext}
use Rattle.cw_linked.specs.Founds.{IsLink, height_back}
use Rattle.cw_linked.specs.Links.{IsNumbered}
use Rattle.cw_linked.specs.Measures.{promised_in, ties_left, work_left}
use Rattle.cw_linked.specs.Popped.{Finishes}
use Rattle.cw_linked.specs.Queues.{found_of, IsCellAt}
use Rattle.cw_linked.specs.Steps.{IsReady}
use Rattle.cw_linked.specs.Tied.{IsFirm, IsFreed, IsTieable}
use Rattle.cw_linked.specs.Works.{known_of, heights_of, value_at}
use Rattle.cw_linked.proofs.Lengthening.{grown_length, grown_before}
use Rattle.cw_linked.proofs.Measuring.{tied_less, ties_on, added_left, fewer_states}
use Rattle.cw_linked.proofs.Pushing.{base_before, cell_on, link_on, value_on}
use Rattle.cw_linked.proofs.Taking.{one_call}
use Rattle.cw_linked.proofs.Turns.{turn_calls}

-- a context may be added to what is firm
pub firm_open : (g : Game) (w : Work) → IsFirm g w → IsOpen g w
firm_open g w firm = record {
  laid = record { begins = firm.known.blocks.begins; bases = firm.known.blocks.bases; cells = firm.known.cells; counted = firm.known.counted };
  long = firm.long;
  flagged = firm.flagged;
  high = firm.high;
  callers = firm.callers;
  dues = firm.dues;
  right = firm.right;
}

-- the call of a link, as its turn tells it
module _ (g : Game) (functions : ℕ) (routed : AreRouted g functions) (old : Work) (link : Cell) (index moves : ℕ) (freed : IsFreed g old link index moves) where
  pub call_here : (f : ℕ) (split : Bool) (back : PosId) → Some (turn.Call f split back) ≡ option_map (turn_in g) (slice_get g.spots link.pos.0)
      → (call : Called) × IsLink g old.blocks.contexts.items link.at.number link.at.context link.pos.0 link.state.0 call × (call.split ≡ split) × (call.function ≡ f) × (call.back ≡ back.0)
  call_here f split back e =
      let t = turn_calls g (slice_get g.spots link.pos.0) f split back e in (
        t.0,
        subst (λ (y : Called). IsLink g old.blocks.contexts.items link.at.number link.at.context link.pos.0 link.state.0 y)
            (one_call (slice_get g.spots link.pos.0) freed.call.0 t.0 freed.call.1.calls t.1) freed.call.1,
        t.2,
        t.3,
        t.4,
      )

  pub back_here : (call : Called) → IsLink g old.blocks.contexts.items link.at.number link.at.context link.pos.0 link.state.0 call → (back : ℕ) → call.back ≡ back
      → HasCell g old.blocks link.at back link.state.0
  back_here call is back e = record {
    at = freed.at.is.at;
    of = subst (λ (y : ℕ). IsOf g link.at.context.function y) e
        (back_stays g functions routed link.at.context.function link.pos.0 call (there_at g functions routed old.blocks freed.firm.known.blocks link.at.number link.at.context freed.at.is.at).below
        freed.at.is.of is.calls);
    state = freed.at.is.state;
  }

  pub read_here : (call : Called) (split : Bool) (back set : ℕ) → call.split ≡ split → call.back ≡ back
      → IsSetOf g set (λ x. holds_by moves (heights_of g (known_of old) link.at.number back (returned g.states (kept_at split link.state.0) x)))
      → IsSetOf g set (λ x. holds_by moves (height_back g (found_of g old) link.at.number call link.state.0 x))
  read_here call split back set same behind read =
      subst (λ (y : ℕ). IsSetOf g set (λ x. holds_by moves (heights_of g (known_of old) link.at.number y (returned g.states (kept_at call.split link.state.0) x)))) (sym behind)
      (subst (λ (y : Bool). IsSetOf g set (λ x. holds_by moves (heights_of g (known_of old) link.at.number back (returned g.states (kept_at y link.state.0) x)))) (sym same) read)

module _ (g : Game) (functions : ℕ) (routed : AreRouted g functions) (old : Work) (link : Cell) (index moves : ℕ) (freed : IsFreed g old link index moves) (call : Called)
    (is : IsLink g old.blocks.contexts.items link.at.number link.at.context link.pos.0 link.state.0 call) (to : Context) (function : call.function ≡ to.function)
    (read : IsSetOf g to.promise (λ y. holds_by moves (height_back g (found_of g old) link.at.number call link.state.0 y))) where
  abbrev Contexts : List Context
  Contexts = old.blocks.contexts.items

  ready : IsReady g Contexts (found_of g old) link.at.number link.at.context link.pos.0 link.state.0 call moves to.promise
  ready = freed.ready call to.promise is read

  inside : index < length old.store.heights
  inside = omega (arith, freed.at.index, slot_within g Contexts link.at.number link.at.context link.pos.0 link.state.0 freed.at.is, freed.firm.known.cells)

  pub is_needed : IsNeeded g to
  is_needed = subst (λ (f : ℕ). IsNeeded g (context f to.promise)) function
      (of_call link.at.context moves link.pos.0 link.state.0 to.promise call
      (freed.firm.known.blocks.needed.needed link.at.context (get_contains Contexts link.at.number link.at.context freed.at.is.at))
      freed.at.is.of freed.at.is.state is.calls ready.promise)

  -- where it is added
  module _ (mid : Work) (adds : AddsContext g old mid to) where
    abbrev More : List Context
    More = Contexts ++ to ∷ []

    height_kept : (q : ℕ) → q < g.states.count → heights_of g (known_of mid) link.at.number link.pos.0 q ≡ heights_of g (known_of old) link.at.number link.pos.0 q
    height_kept q lt =
        ap (λ (cs : List Context). value_at g cs mid.store.heights link.at.number link.pos.0 q) adds.contexts
        ∙ ap (λ (ys : List ℕ). value_at g More ys link.at.number link.pos.0 q) adds.heights
        ∙ value_on g Contexts to old.store.heights (replicate (size g to.function) 0) freed.firm.known.cells link.at.number link.at.context link.pos.0 q
        (record { at = is.cell.at; of = is.cell.of; state = lt })

    ready_then : IsReady g mid.blocks.contexts.items (found_of g mid) link.at.number link.at.context link.pos.0 link.state.0 call moves to.promise
    ready_then = record {
      promise = ready.promise;
      later = λ q lt e none. ready.later q lt e (sym (height_kept q lt) ∙ none);
      past = λ m lt other es.
          let a = ready.past m lt other es in
          (a.0, subst (λ (cs : List Context). Contains cs (context other.function a.0)) (sym adds.contexts) (Contains-append_left Contexts (to ∷ []) (context other.function a.0) a.1), a.2);
    }

    at_then : IsCellAt g mid index link
    at_then = record {
      is = subst (λ (cs : List Context). IsCell g cs link.at.number link.at.context link.pos.0 link.state.0) (sym adds.contexts)
          (cell_on g Contexts to link.at.number link.at.context link.pos.0 link.state.0 freed.at.is);
      index = freed.at.index
          ∙ ap (λ (b : ℕ). b + (link.state.0 * positions g link.at.context.function + (link.pos.0 - g.entry link.at.context.function)))
          (sym (base_before g Contexts to link.at.number (let lt = slice_get_within Contexts link.at.number link.at.context is.cell.at in omega (arith, lt))))
          ∙ ap (λ (cs : List Context). slot g cs link.at.number link.at.context.function link.pos.0 link.state.0) (sym adds.contexts);
    }

    tieable_then : (number : ℕ) → slice_get mid.blocks.contexts.items number ≡ Some to → IsTieable g mid link index moves number call.back to
    tieable_then number there = record {
      firm = adds.firm;
      at = at_then;
      low = (let w = adds.written in omega (arith, freed.low, w));
      free = adds.dues index inside ∙ freed.free;
      closed = adds.closed freed.closed;
      called = adds.called freed.called;
      standing = adds.others link.at.number link.pos.0 link.state.0 freed.standing;
      there = there;
      ready = (
        call,
        subst (λ (cs : List Context). IsLink g cs link.at.number link.at.context link.pos.0 link.state.0 call) (sym adds.contexts)
            (link_on g Contexts to link.at.number link.at.context link.pos.0 link.state.0 call is),
        refl,
        function,
        ready_then,
      );
    }

    -- as much is left to do
    left_then : work_left g mid ≡ work_left g old
    left_then = added_left g old mid to (size g to.function) adds.contexts adds.heights adds.to
        (let more = grown_length old.store.heights mid.store.heights (size g to.function) 0 adds.heights in let t = adds.firm.known in omega (arith, more, t.cells, t.blocks.few))
        freed.firm.long.to freed.firm.callers.few

    ties_then : ties_left g mid.blocks.contexts.items (slice_index mid.store.to index) ≡ ties_left g Contexts (slice_index old.store.to index)
    ties_then =
        ap (λ (cs : List Context). ties_left g cs (slice_index mid.store.to index)) adds.contexts
        ∙ ap (λ (n : ℕ). ties_left g More n) (grown_before old.store.to mid.store.to (size g to.function) adds.to index (omega (arith, inside, freed.firm.long.to)))
        ∙ ties_on g Contexts to (slice_index old.store.to index) (freed.firm.callers.few index inside)

  -- where it was there
  tieable_now : (number : ℕ) → slice_get Contexts number ≡ Some to → IsTieable g old link index moves number call.back to
  tieable_now number there = record {
    firm = freed.firm;
    at = freed.at;
    low = freed.low;
    free = freed.free;
    closed = freed.closed;
    called = freed.called;
    standing = freed.standing;
    there = there;
    ready = (call, is, refl, function, ready);
  }

  module _ (mid : Work) (number : ℕ) (numbered : IsNumbered g old mid to number) where
    pub is_tieable : IsTieable g mid link index moves number call.back to
    is_tieable = elim numbered.grows [
      | inl same ↦ subst (λ (w : Work). slice_get w.blocks.contexts.items number ≡ Some to → IsTieable g w link index moves number call.back to) (sym same) (tieable_now number) numbered.there
      | inr adds ↦ tieable_then mid adds number numbered.there
    ]

    left : work_left g mid ≡ work_left g old
    left = elim numbered.grows [ inl same ↦ ap (work_left g) same | inr adds ↦ left_then mid adds ]

    ties : ties_left g mid.blocks.contexts.items (slice_index mid.store.to index) ≡ ties_left g Contexts (slice_index old.store.to index)
    ties = elim numbered.grows [ inl same ↦ ap (λ (w : Work). ties_left g w.blocks.contexts.items (slice_index w.store.to index)) same | inr adds ↦ ties_then mid adds ]

    -- less is left to do
    pub is_less : (0 < slice_index old.store.to index → 0 < moves) → (new : Work) → Finishes g mid new (set mid.store.to index (number + 1)) → work_left g new < work_left g old
    is_less more new finishes =
        let promised : promised_in g (slice_get mid.blocks.contexts.items number) ≡ promised_in g (Some to) = ap (promised_in g) numbered.there in
        let fewer = fewer_states g functions routed old link index moves freed more call is to.promise read in
        let less = tied_less g mid new index number finishes.known finishes.to within_mid (omega (arith, promised, fewer, ties)) in
        omega (arith, less, left)
      where
        within_mid : index < length mid.store.to
        within_mid =
            let t = is_tieable in
            let lt = slot_within g mid.blocks.contexts.items link.at.number link.at.context link.pos.0 link.state.0 t.at.is in
            omega (arith, t.at.index, lt, t.firm.known.cells, t.firm.long.to)
