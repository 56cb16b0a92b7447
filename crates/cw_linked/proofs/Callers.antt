-- The call of a link is asked for, whose callee is lost.
use Rattle.std.proofs.Common.{◌≡◌, ℕ, zero, suc, ◌+◌, ◌-◌, ◌*◌, ◌<◌, ◌≤◌, Bool, List, ◌∷◌, true, false, not, Some, refl, sym, ap, ◌∙◌, subst, arith, inl, inr}
use Rattle.std.specs.Prelude.{◌⊎◌, slice_get, slice_index, nat_eq, Contains}
use Rattle.std.proofs.lemmas.Bool.{eq-eqb, ne_eqb}
use Rattle.std.proofs.lemmas.Option.{same_Some}
use Rattle.cw_lemmas.proofs.Lists.{in_either}
use Rattle.cw_game.specs.Games.{Game, Holds}
use Rattle.cw_game.specs.Pairs.{has, Called, call_in}
use Rattle.cw_links.specs.Lists.{list_at}
use Rattle.cw_links.specs.Flags.{is_flagged, rank}
use Rattle.cw_links.proofs.Ranks.{same_from_rank}
use Rattle.cw_solve.specs.declared.contexts.Context.{Context}
use Rattle.cw_solve.specs.Contexts.{context}
use Rattle.cw_product.specs.Routed.{AreRouted}
use Rattle.cw_solve.specs.Rounds.{slot, IsCell}
use Rattle.cw_solve.specs.Tables.{HasCell}
use Rattle.cw_lemmas.proofs.Truths.{not_both}
use Rattle.cw_solve.proofs.Slots.{same_slot}
use Rattle.cw_linked.specs.declared.work.Cell.{Cell}
use Rattle.cw_linked.specs.declared.work.Work.{Work}
use Rattle.cw_linked.specs.Calls.{CallsLeft, AsksCaller}
use Rattle.cw_linked.specs.Founds.{Found, class_of, AreAlike, IsLink, IsTied, AreRight, Waits, IsCalled, AllCalled}
use Rattle.cw_linked.specs.Queues.{found_of, IsLinkAt, AreFlagged, AreLong, AreHigh, AsksForCell, LowersKeys, IsCellAt}
use Rattle.cw_linked.specs.Steps.{IsSame, CallsThere}
use Rattle.cw_linked.specs.Works.{known_of, IsKnown, heights_of, index_at, value_at}
use Rattle.cw_linked.proofs.Bounding.{index_is}
use Rattle.cw_linked.proofs.Closing.{called_asked}
use Rattle.cw_linked.proofs.Least.{link_of}
use Rattle.cw_linked.proofs.Losing.{call_lost}
use Rattle.cw_linked.proofs.Taking.{at_same, one_call}
use Rattle.cw_linked.proofs.Telling.{below, asked_step, asked_waits, nothing, still_called}
use Rattle.cw_linked.proofs.Working.{Keys, found_keys}

-- a link that isn't tied has no calls to ask for
pub untied_called : (g : Game) (s : Found) (i p q : ℕ) (call : Called) → call_in (slice_get g.spots p) ≡ Some call → s.tied i p (class_of g call.split q) ≡ false → IsCalled g s i p q
untied_called g s i p q call es free other fs tied =
    let same = one_call (slice_get g.spots p) call other es fs in
    absurd (not_both (s.tied i p (class_of g other.split q)) tied (subst (λ (y : Called). s.tied i p (class_of g y.split q) ≡ false) same free))

pub is_tied : (v j : ℕ) → v ≡ suc j → not (nat_eq v 0) ≡ true
is_tied v j e = ap (λ (y : ℕ). not (nat_eq y 0)) e ∙ ap not (ne_eqb (suc j) 0 (λ z. omega (arith, z)))

-- a number is 0, or one more than another
pub tied_or_not : (v j : ℕ) → v - 1 ≡ j → (not (nat_eq v 0) ≡ false) ⊎ (v ≡ suc j)
tied_or_not zero j e = inl (ap not (eq-eqb 0 0 refl))
tied_or_not (suc v) j e = inr (omega (arith, e))

module _ (g : Game) (functions : ℕ) (routed : AreRouted g functions) (alike : AreAlike g) (old : Work) (known : IsKnown g (known_of old)) where
  abbrev Contexts : List Context
  Contexts = old.blocks.contexts.items

  -- all calls whose link goes to the context are in its list
  pub all_calls : AreFlagged g old
      → ((index : ℕ) → is_flagged old.store.flags index ≡ true → Contains (list_at old.store.lists (slice_index old.store.to index)) (rank old.store.flags index))
      → (j r x : ℕ) → AllCalled g Contexts (found_of g old) (CallsThere g (found_of g old) j r x)
      → AllCalled g Contexts (found_of g old) (CallsLeft g Contexts old.store.flags (found_of g old) (list_at old.store.lists (j + 1)) j r x)
  all_calls flagged there j r x all i c p q is =
      elim (all i c p q is) [
        | inl called ↦ inl called
        | inr rest ↦ elim (tied_or_not (value_at g Contexts old.store.to i p (class_of g rest.0.split q)) j rest.2.0) [
          | inl free ↦ inl (untied_called g (found_of g old) i p q rest.0 rest.1 free)
          | inr here ↦
              let k = class_of g rest.0.split q in
              let link = link_of g functions routed alike Contexts (below g functions routed alike old old known) i c p q rest.0 is rest.1 in
              let list : value_at g Contexts old.store.to i p k ≡ j + 1 = omega (arith, here) in
              let stands = there (index_at g Contexts i p k) (flagged (index_at g Contexts i p k) (i, c, p, k, rest.0, link, refl)) in
              inr (rest.0, rest.1, rest.2, subst (λ (y : ℕ). Contains (list_at old.store.lists y) (rank old.store.flags (index_at g Contexts i p k))) list stands)
        ]
      ]

  -- the index of a link is that of one
  module _ (link : ℕ) (caller : Cell) (at : IsCellAt g old link caller) (i : ℕ) (c : Context) (p q : ℕ) (call : Called) (is : IsCell g Contexts i c p q)
      (es : call_in (slice_get g.spots p) ≡ Some call)
      (index : link ≡ index_at g Contexts i p (class_of g call.split q)) where
    pub same_link : IsSame i p (class_of g call.split q) caller.at.number caller.pos.0 caller.state.0
    same_link =
        let k = class_of g call.split q in
        let there = link_of g functions routed alike Contexts (below g functions routed alike old old known) i c p q call is es in
        let s = same_slot g Contexts i caller.at.number c caller.at.context p caller.pos.0 k caller.state.0 there.cell at.is (sym (index_is g Contexts i c p k is.at) ∙ sym index ∙ at.index) in
        (s.number, s.position, s.state)

    pub call_at_link : call_in (slice_get g.spots caller.pos.0) ≡ Some call
    call_at_link = subst (λ (y : ℕ). call_in (slice_get g.spots y) ≡ Some call) same_link.1 es

  -- The call is asked for, under one more than the greater of the callee's height and the link's number of moves.
  module _ (new : Work) (long : AreLong old) (high : AreHigh old) (right : AreRight g Contexts (found_of g old)) (cell : Cell) (is_cell : HasCell g old.blocks cell.at cell.pos.0 cell.state.0)
      (height : ℕ) (some : 0 < height) (taken : heights_of g (known_of old) cell.at.number cell.pos.0 cell.state.0 ≡ height)
      (link : ℕ) (caller : Cell) (at : IsCellAt g old link caller) (called : Called) (calls : call_in (slice_get g.spots caller.pos.0) ≡ Some called)
      (class : class_of g called.split cell.state.0 ≡ caller.state.0) (goes : slice_index old.store.to link ≡ suc cell.at.number) (entry : cell.pos.0 ≡ g.entry cell.at.context.function)
      (most n index : ℕ) (more : n ≡ suc most) (greatest : (slice_index old.store.waves link ≡ most) ⊎ (height ≡ most)) (waves : slice_index old.store.waves link ≤ most) (heights : height ≤ most)
      (low : n ≤ old.written + 1) (spot : index ≡ slot g Contexts caller.at.number caller.at.context.function caller.pos.0 cell.state.0) (asks : AsksForCell old new index (2 * n)) where
    abbrev k : ℕ
    k = class_of g called.split cell.state.0

    asked_cell : IsCell g Contexts caller.at.number caller.at.context caller.pos.0 cell.state.0
    asked_cell = record { at = at.is.at; of = at.is.of; state = is_cell.state }

    here : link ≡ index_at g Contexts caller.at.number caller.pos.0 k
    here = at.index ∙ sym (index_is g Contexts caller.at.number caller.at.context caller.pos.0 caller.state.0 at.is.at)
        ∙ ap (λ (y : ℕ). index_at g Contexts caller.at.number caller.pos.0 y) (sym class)

    number : value_at g Contexts old.store.to caller.at.number caller.pos.0 k ≡ suc cell.at.number
    number = ap (slice_index old.store.to) (sym here) ∙ goes

    tied : IsTied (found_of g old) caller.at.number caller.pos.0 k
    tied = is_tied (value_at g Contexts old.store.to caller.at.number caller.pos.0 k) cell.at.number number

    link_there : IsLink g Contexts caller.at.number caller.at.context caller.pos.0 k called
    link_there = link_of g functions routed alike Contexts (below g functions routed alike old old known) caller.at.number caller.at.context caller.pos.0 cell.state.0 called asked_cell calls

    callee : g.entry called.function ≡ cell.pos.0
    callee =
        let l = right.linked caller.at.number caller.at.context caller.pos.0 k called link_there tied in
        let to : (found_of g old).to caller.at.number caller.pos.0 k ≡ cell.at.number = omega (arith, number) in
        let same : context called.function l.0 ≡ cell.at.context = same_Some _ _ (sym l.1 ∙ ap (slice_get Contexts) to ∙ is_cell.at) in
        ap (λ (y : Context). g.entry y.function) same ∙ sym entry

    callee_height : (found_of g old).height ((found_of g old).to caller.at.number caller.pos.0 k) (g.entry called.function) cell.state.0 ≡ height
    callee_height =
        let to : (found_of g old).to caller.at.number caller.pos.0 k ≡ cell.at.number = omega (arith, number) in
        ap (λ (y : ℕ). heights_of g (known_of old) y (g.entry called.function) cell.state.0) to ∙ ap (λ (y : ℕ). heights_of g (known_of old) cell.at.number y cell.state.0) callee ∙ taken

    wave : (found_of g old).wave caller.at.number caller.pos.0 k ≡ slice_index old.store.waves link
    wave = ap (slice_index old.store.waves) (sym here)

    lost : Holds g n caller.pos.0 cell.state.0 (has caller.at.context.promise) ≡ false
    lost = subst (λ (y : ℕ). Holds g y caller.pos.0 cell.state.0 (has caller.at.context.promise) ≡ false) (sym more)
        (call_lost g functions routed alike Contexts (below g functions routed alike old old known)
        (found_of g old) right most caller.at.number caller.at.context caller.pos.0 cell.state.0 called asked_cell calls tied
        (omega (arith, wave, waves)) (omega (arith, callee_height, some)) (omega (arith, callee_height, heights)))

    step : LowersKeys g old new
    step = asked_step g functions routed alike old new known long high right caller.at.number caller.at.context caller.pos.0 cell.state.0 asked_cell n index (omega (arith, more)) low spot lost asks

    waits : (Keys g old new).height caller.at.number caller.pos.0 cell.state.0 ≡ 0 → Waits ((Keys g old new).asked caller.at.number caller.pos.0 cell.state.0) (2 * n)
    waits = asked_waits g functions routed alike old new known long high right caller.at.number caller.at.context caller.pos.0 cell.state.0 asked_cell n index (omega (arith, more)) low spot lost asks

    is_called : IsCalled g (found_of g new) caller.at.number caller.pos.0 cell.state.0
    is_called = subst (λ (y : Found). IsCalled g y caller.at.number caller.pos.0 cell.state.0) (sym (found_keys g old new asks.others))
        (called_asked g functions routed alike Contexts (below g functions routed alike old old known) (Keys g old new) caller.at.number caller.at.context caller.pos.0 cell.state.0 called most calls
        (elim greatest [ inl e ↦ inl (wave ∙ e) | inr e ↦ inr (callee_height ∙ e) ])
        (λ none. let w = waits none in (w.0, omega (arith, w.1, more))))

    pub call_asked : AsksCaller g old new link cell
    call_asked = record {
      step = step;
      called = λ i c p q call is es goes index.
          let same = same_link link caller at i c p q call is es index in
          let state : q ≡ cell.state.0 = goes.2 in
          at_same g Contexts i c p q caller.at.number caller.at.context caller.pos.0 cell.state.0 is asked_cell (same.0, same.1, state) (λ i c p q. IsCalled g (found_of g new) i p q) is_called;
    }

  -- no link of the cell's class is there
  pub call_unasked : (link : ℕ) (caller : Cell) → AreLong old → AreHigh old → AreRight g Contexts (found_of g old) → IsCellAt g old link caller → (cell : Cell)
      → ((call : Called) → call_in (slice_get g.spots caller.pos.0) ≡ Some call → class_of g call.split cell.state.0 ≡ caller.state.0 → ⊥) → AsksCaller g old old link cell
  call_unasked link caller long high right at cell none = record {
    step = nothing g old long high right;
    called = λ i c p q call is es goes index.
        let same = same_link link caller at i c p q call is es index in
        absurd (none call (call_at_link link caller at i c p q call is es index) (subst (λ (y : ℕ). class_of g call.split y ≡ caller.state.0) goes.2 same.2));
  }

  -- and a link that goes elsewhere isn't asked for
  pub call_elsewhere : (link : ℕ) → AreLong old → AreHigh old → AreRight g Contexts (found_of g old) → (cell : Cell) → (slice_index old.store.to link ≡ suc cell.at.number → ⊥)
      → AsksCaller g old old link cell
  call_elsewhere link long high right cell other = record {
    step = nothing g old long high right;
    called = λ i c p q call is es goes index. elim (tied_or_not (value_at g Contexts old.store.to i p (class_of g call.split q)) cell.at.number goes.0) [
      | inl free ↦ untied_called g (found_of g old) i p q call es free
      | inr here ↦ absurd (other (ap (slice_index old.store.to) index ∙ here))
    ];
  }

  -- One link fewer is left, which stands at this index.
  pub one_call_left : (new : Work) (flags : List Bool) (edge index : ℕ) (back : List ℕ) (cell : Cell) → ((k : ℕ) → IsLinkAt g Contexts k → is_flagged flags k ≡ true)
      → is_flagged flags index ≡ true → rank flags index ≡ edge → AsksCaller g old new index cell
      → AllCalled g Contexts (found_of g old) (CallsLeft g Contexts flags (found_of g old) (edge ∷ back) cell.at.number cell.pos.0 cell.state.0)
      → AllCalled g Contexts (found_of g new) (CallsLeft g Contexts flags (found_of g old) back cell.at.number cell.pos.0 cell.state.0)
  one_call_left new flags edge index back cell flagged here its asks all i c p q is =
      elim (still_called g functions routed alike old new known asks.step.others asks.step.lowers
      (CallsLeft g Contexts flags (found_of g old) (edge ∷ back) cell.at.number cell.pos.0 cell.state.0) all i c p q is) [
        | inl called ↦ inl called
        | inr rest ↦ elim (in_either edge back (rank flags (index_at g Contexts i p (class_of g rest.0.split q))) rest.3) [
          | inr later ↦ inr (rest.0, rest.1, rest.2, later)
          | inl now ↦
              let k = class_of g rest.0.split q in
              let link = link_of g functions routed alike Contexts (below g functions routed alike old old known) i c p q rest.0 is rest.1 in
              let there = flagged (index_at g Contexts i p k) (i, c, p, k, rest.0, link, refl) in
              inl (asks.called i c p q rest.0 is rest.1 rest.2 (same_from_rank flags index (index_at g Contexts i p k) here there (its ∙ now)))
        ]
      ]
