-- One call more of those that return to a cell, or whose callee a cell is, is asked for.
use Rattle.std.proofs.Common.{◌≡◌, ℕ, zero, suc, ◌+◌, ◌-◌, ◌*◌, ◌<◌, ◌≤◌, List, [], ◌∷◌, Bool, true, false, not, Option, Some, refl, sym, ap, ◌∙◌, subst, arith, inl, inr}
use Rattle.std.specs.Prelude.{◌⊎◌, slice_get, slice_index, nat_eq, option_map}
use Rattle.std.proofs.lemmas.Bool.{cases_eq, eq-eqb, false≢true}
use Rattle.std.proofs.lemmas.Option.{same_Some}
use Rattle.cw_core.specs.declared.ids.PosId.{PosId}
use Rattle.cw_game.specs.declared.spots.Spot.{Spot}
use Rattle.cw_game.specs.Games.{Game, returned}
use Rattle.cw_game.specs.Pairs.{has, Called, call_in, kept_at}
use Rattle.cw_links.specs.Flags.{is_flagged, rank}
use Rattle.cw_product.specs.declared.turn.Turn.{Turn}
use Rattle.cw_product.specs.Moves.{pos_id, turn_in}
use Rattle.cw_solve.specs.declared.contexts.Context.{Context}
use Rattle.cw_product.specs.Routed.{AreRouted, IsOf}
use Rattle.cw_solve.specs.Contexts.{context, promise_at, IsSetOf}
use Rattle.cw_solve.specs.Rounds.{slot}
use Rattle.cw_solve.specs.Tables.{HasCell}
use Rattle.cw_lemmas.proofs.Truths.{not_both}
use Rattle.cw_solve.proofs.Turning.{is_call}
use Rattle.cw_linked.specs.declared.work.Cell.{Cell}
use Rattle.cw_linked.specs.declared.work.Work.{Work}
use Rattle.cw_linked.specs.Calls.{CallsLeft, AsksCaller}
use Rattle.cw_linked.specs.Founds.{Found, class_of, AreAlike, IsLink, height_back, GoesTo, IsShrinking, AreRight, Waits, IsStanding, Nothing, AllCalled, AllStanding}
use Rattle.cw_linked.specs.Queues.{found_of, IsLinkAt, AreFlagged, AreLong, AreHigh, AsksForLink, LowersKeys}
use Rattle.cw_linked.specs.Returns.{IsPromised, Returns, AsksReturn}
use Rattle.cw_linked.specs.Steps.{ReturnsThere}
use Rattle.cw_linked.specs.Works.{Known, known_of, IsKnown, heights_of, index_at, value_at}
use Rattle.cw_linked.proofs.Backs.{ReturnsLeft, stands_on, fresh_on, link_step, link_waits, returns_stand}
use Rattle.cw_linked.proofs.Bounding.{index_is}
use Rattle.cw_linked.proofs.Callers.{one_call_left, is_tied}
use Rattle.cw_linked.proofs.Least.{link_of}
use Rattle.cw_linked.proofs.Taking.{one_call}
use Rattle.cw_linked.proofs.Telling.{below, nothing, still_standing, two_steps}
use Rattle.cw_linked.proofs.Turns.{calls_turn}
use Rattle.cw_linked.proofs.Walking.{now_or_later}
use Rattle.cw_linked.proofs.Working.{found_keys}

-- no call stands where the turn is none
pub no_call : (g : Game) (o : Option Spot) (t : Turn) → Some t ≡ option_map (turn_in g) o → is_call t ≡ false → (call : Called) → call_in o ≡ Some call → ⊥
no_call g o t e plain call es = not_both (is_call t) (ap is_call (calls_turn g o t call e es)) plain

-- the greater of two low numbers is low
pub greater_low : (most a b written : ℕ) → (b ≡ most) ⊎ (a ≡ most) → b ≤ written → a ≤ written → most + 1 ≤ written + 1
greater_low most a b written (inl e) lb la = omega (arith, e, lb)
greater_low most a b written (inr e) lb la = omega (arith, e, la)

-- a state of another class
pub other_class : (g : Game) (o : Option Spot) (q k x : ℕ) (called : Called) → call_in o ≡ Some called → class_of g called.split q ≡ k → (k ≡ x → ⊥)
    → (call : Called) → call_in o ≡ Some call → class_of g call.split q ≡ x → ⊥
other_class g o q k x called es class other call fs same =
    other (sym class ∙ ap (λ (c : Called). class_of g c.split q) (one_call o called call es fs) ∙ same)

-- a state returns to itself at the call of its own class
pub own_state : (g : Game) (alike : AreAlike g) (split : Bool) (q : ℕ) → 0 < g.states.count → q < g.states.count → returned g.states (kept_at split (class_of g split q)) q ≡ q
own_state g alike false q some lt = refl
own_state g alike true q some lt = alike.same q 0 q lt some lt ∙ alike.own q lt

module _ (g : Game) (functions : ℕ) (routed : AreRouted g functions) (alike : AreAlike g) (w mid new : Work) (known : IsKnown g (known_of w)) (step : LowersKeys g w mid) where
  abbrev Contexts : List Context
  Contexts = w.blocks.contexts.items

  unchanged : known_of w ≡ known_of mid
  unchanged = sym step.others.known

  -- of the calls whose link goes there
  pub asked_call_left : (edge index : ℕ) (back : List ℕ) (cell : Cell) → AreFlagged g w → is_flagged mid.store.flags index ≡ true → rank mid.store.flags index ≡ edge → AsksCaller g mid new index cell
      → AllCalled g Contexts (found_of g mid) (CallsLeft g Contexts w.store.flags (found_of g w) (edge ∷ back) cell.at.number cell.pos.0 cell.state.0)
      → AllCalled g Contexts (found_of g new) (CallsLeft g Contexts w.store.flags (found_of g w) back cell.at.number cell.pos.0 cell.state.0)
  asked_call_left edge index back cell flagged here its asks all =
      let flags = w.store.flags in
      let keys = found_keys g w mid step.others in
      let now : AllCalled g Contexts (found_of g mid) (CallsLeft g Contexts flags (found_of g mid) (edge ∷ back) cell.at.number cell.pos.0 cell.state.0)
      = subst (λ (y : Found). AllCalled g Contexts (found_of g mid) (CallsLeft g Contexts flags y (edge ∷ back) cell.at.number cell.pos.0 cell.state.0)) (sym keys) all in
      let there : AllCalled g mid.blocks.contexts.items (found_of g mid) (CallsLeft g mid.blocks.contexts.items flags (found_of g mid) (edge ∷ back) cell.at.number cell.pos.0 cell.state.0)
      = subst (λ (t : Known). AllCalled g t.blocks.contexts.items (found_of g mid) (CallsLeft g t.blocks.contexts.items flags (found_of g mid) (edge ∷ back) cell.at.number cell.pos.0 cell.state.0))
      unchanged now in
      let links : (k : ℕ) → IsLinkAt g mid.blocks.contexts.items k → is_flagged flags k ≡ true
      = subst (λ (t : Known). (k : ℕ) → IsLinkAt g t.blocks.contexts.items k → is_flagged flags k ≡ true) unchanged flagged in
      let done = one_call_left g functions routed alike mid (subst (IsKnown g) unchanged known) new flags edge index back cell links
      (subst (λ (ms : List Bool). is_flagged ms index ≡ true) step.others.flags here) (subst (λ (ms : List Bool). rank ms index ≡ edge) step.others.flags its) asks there in
      let back_here : AllCalled g Contexts (found_of g new) (CallsLeft g Contexts flags (found_of g mid) back cell.at.number cell.pos.0 cell.state.0)
      = subst (λ (t : Known). AllCalled g t.blocks.contexts.items (found_of g new) (CallsLeft g t.blocks.contexts.items flags (found_of g mid) back cell.at.number cell.pos.0 cell.state.0))
      (sym unchanged) done in
      subst (λ (y : Found). AllCalled g Contexts (found_of g new) (CallsLeft g Contexts flags y back cell.at.number cell.pos.0 cell.state.0)) keys back_here

  -- of the links that return there
  module _ (row : List PosId) (n : ℕ) (cell : Cell) (pos : PosId) (at : slice_get Contexts cell.at.number ≡ Some cell.at.context)
      (here : slice_get row n ≡ Some pos) (asks : AsksReturn g mid new cell pos.0) where
    both : LowersKeys g w new
    both = two_steps g w mid new step asks.step

    standing : (k : ℕ) (call : Called) → IsLink g Contexts cell.at.number cell.at.context pos.0 k call → call.back ≡ cell.pos.0
        → (y : ℕ) → y < g.states.count → returned g.states (kept_at call.split k) y ≡ cell.state.0 → IsStanding g Contexts (found_of g new) cell.at.number pos.0 k call y
    standing = subst (λ (t : Known). (k : ℕ) (call : Called) → IsLink g t.blocks.contexts.items cell.at.number cell.at.context pos.0 k call → call.back ≡ cell.pos.0
        → (y : ℕ) → y < g.states.count → returned g.states (kept_at call.split k) y ≡ cell.state.0 → IsStanding g t.blocks.contexts.items (found_of g new) cell.at.number pos.0 k call y)
        (sym unchanged) asks.standing

    -- what stood but for the states that return to the cell
    stood : (p k : ℕ) (call other : Called) → IsLink g Contexts cell.at.number cell.at.context p k call → call_in (slice_get g.spots p) ≡ Some other → pos.0 ≡ p → other.back ≡ cell.pos.0
        → ((y : ℕ) → y < g.states.count → (returned g.states (kept_at other.split k) y ≡ cell.state.0 → ⊥) → IsStanding g Contexts (found_of g w) cell.at.number p k other y)
        → (y : ℕ) → y < g.states.count → IsStanding g Contexts (found_of g new) cell.at.number p k call y
    stood p k call other link es same back others y lt =
        let one : other ≡ call = one_call (slice_get g.spots p) other call es link.calls in
        elim (cases_eq (returned g.states (kept_at call.split k) y) cell.state.0) [
          | inr apart ↦ stands_on g functions routed alike w new known both cell.at.number cell.at.context p k call y link
              (subst (λ (c : Called). (returned g.states (kept_at c.split k) y ≡ cell.state.0 → ⊥) → IsStanding g Contexts (found_of g w) cell.at.number p k c y) one (others y lt) apart)
          | inl there ↦ subst (λ (z : ℕ). IsLink g Contexts cell.at.number cell.at.context z k call → IsStanding g Contexts (found_of g new) cell.at.number z k call y) same
              (λ is. standing k call is (subst (λ (c : Called). c.back ≡ cell.pos.0) one back) y lt there) link
        ]

    pub asked_return_left : AllStanding g Contexts (found_of g mid) (ReturnsLeft g Contexts (found_of g w) row n cell.at.number cell.pos.0 cell.state.0)
        → AllStanding g Contexts (found_of g new) (ReturnsLeft g Contexts (found_of g w) row (n + 1) cell.at.number cell.pos.0 cell.state.0)
    asked_return_left all i c p k call is =
        elim (later i c p k call is) [
          | inl stands ↦ inl stands
          | inr rest ↦ elim (now_or_later row n pos (pos_id p) here rest.1) [
            | inr more ↦ inr (rest.0, more)
            | inl now ↦
                let same : pos.0 ≡ p = ap (λ (y : PosId). y.0) now in
                let context : cell.at.context ≡ c = same_Some cell.at.context c (sym at ∙ ap (slice_get Contexts) (sym rest.0.2) ∙ is.cell.at) in
                inl (
                  fresh_on g functions routed alike w new known both i c p k call is rest.0.4,
                  each i c p k call is rest.0 same context,
                )
          ]
        ]
      where
        later : AllStanding g Contexts (found_of g new) (ReturnsLeft g Contexts (found_of g w) row n cell.at.number cell.pos.0 cell.state.0)
        later = subst (λ (t : Known). AllStanding g t.blocks.contexts.items (found_of g new) (ReturnsLeft g Contexts (found_of g w) row n cell.at.number cell.pos.0 cell.state.0)) (sym unchanged)
            (still_standing g functions routed alike mid new (subst (IsKnown g) unchanged known) asks.step.others asks.step.lowers _
            (subst (λ (t : Known). AllStanding g t.blocks.contexts.items (found_of g mid) (ReturnsLeft g Contexts (found_of g w) row n cell.at.number cell.pos.0 cell.state.0)) unchanged all))

        each : (i : ℕ) (c : Context) (p k : ℕ) (call : Called) → IsLink g Contexts i c p k call → ReturnsThere g Contexts (found_of g w) cell.at.number cell.pos.0 cell.state.0 i p k
            → pos.0 ≡ p → cell.at.context ≡ c
            → (y : ℕ) → y < g.states.count → IsStanding g Contexts (found_of g new) i p k call y
        each i c p k call is there same context y lt =
            let link : IsLink g Contexts cell.at.number cell.at.context p k call
            = subst (λ (z : ℕ). IsLink g Contexts z cell.at.context p k call) there.2 (subst (λ (z : Context). IsLink g Contexts i z p k call) (sym context) is) in
            subst (λ (z : ℕ). IsStanding g Contexts (found_of g new) z p k call y) (sym there.2)
            (stood p k call there.0 link there.1 same there.3
            (subst (λ (z : ℕ). (y : ℕ) → y < g.states.count → (returned g.states (kept_at there.0.split k) y ≡ cell.state.0 → ⊥)
            → IsStanding g Contexts (found_of g w) z p k there.0 y) there.2 there.5) y lt)

-- at last no call is left
pub no_calls_left : (g : Game) (contexts : List Context) (flags : List Bool) (t s : Found) (j r x : ℕ) → AllCalled g contexts t (CallsLeft g contexts flags s [] j r x) → AllCalled g contexts t Nothing
no_calls_left g contexts flags t s j r x all i c p q is =
    elim (all i c p q is) [
      | inl called ↦ inl called
      | inr rest ↦ absurd (let lt = rest.3.1 in omega (arith, lt))
    ]

tied_some : (v : ℕ) → not (nat_eq v 0) ≡ true → 0 < v
tied_some zero e = absurd (false≢true (sym (ap not (eq-eqb 0 0 refl)) ∙ e))
tied_some (suc v) e = omega arith

-- The link of a call that returns to a cell, and from whose state it returns there.
module _ (g : Game) (functions : ℕ) (routed : AreRouted g functions) (alike : AreAlike g) (w : Work) (known : IsKnown g (known_of w)) (long : AreLong w) (high : AreHigh w)
    (right : AreRight g w.blocks.contexts.items (found_of g w)) (cell : Cell) (is : HasCell g w.blocks cell.at cell.pos.0 cell.state.0) (height : ℕ) (some : 0 < height)
    (taken : heights_of g (known_of w) cell.at.number cell.pos.0 cell.state.0 ≡ height) (p : ℕ) (of : IsOf g cell.at.context.function p) (returns : Returns g p cell.pos.0)
    (call : Called) (es : call_in (slice_get g.spots p) ≡ Some call) (k : ℕ) (class : class_of g call.split cell.state.0 ≡ k)
    (index : ℕ) (at : index ≡ slot g w.blocks.contexts.items cell.at.number cell.at.context.function p k) where
  abbrev Cells : List Context
  Cells = w.blocks.contexts.items

  functions_below : (i : ℕ) (c : Context) → slice_get Cells i ≡ Some c → c.function < functions
  functions_below = below g functions routed alike w w known

  link : IsLink g Cells cell.at.number cell.at.context p k call
  link = subst (λ (y : ℕ). IsLink g Cells cell.at.number cell.at.context p y call) class
      (link_of g functions routed alike Cells functions_below cell.at.number cell.at.context p cell.state.0 call (record { at = is.at; of = of; state = is.state }) es)

  spot : index ≡ index_at g Cells cell.at.number p k
  spot = at ∙ sym (index_is g Cells cell.at.number cell.at.context p k is.at)

  behind : call.back ≡ cell.pos.0
  behind = ap (λ (c : Called). c.back) (one_call (slice_get g.spots p) call returns.0 es returns.1) ∙ returns.2

  own : returned g.states (kept_at call.split k) cell.state.0 ≡ cell.state.0
  own = subst (λ (y : ℕ). returned g.states (kept_at call.split y) cell.state.0 ≡ cell.state.0) class (own_state g alike call.split cell.state.0 routed.some is.state)

  back_height : height_back g (found_of g w) cell.at.number call k cell.state.0 ≡ height
  back_height = ap (λ (y : ℕ). heights_of g (known_of w) cell.at.number y (returned g.states (kept_at call.split k) cell.state.0)) behind
      ∙ ap (λ (y : ℕ). heights_of g (known_of w) cell.at.number cell.pos.0 y) own ∙ taken

  pub own_link : IsLinkAt g Cells index
  own_link = (cell.at.number, cell.at.context, p, k, call, link, spot)

  -- it is asked for
  module _ (new : Work) (promised : IsPromised w index cell.state.0) (asks : AsksForLink w new index (2 * height + 1)) where
    value : value_at g Cells w.store.to cell.at.number p k ≡ suc (value_at g Cells w.store.to cell.at.number p k - 1)
    value = let v = ap (slice_index w.store.to) (sym spot) in let lt = promised.1 in omega (arith, v, lt)

    goes : slice_get Cells ((found_of g w).to cell.at.number p k) ≡ Some promised.0
    goes = ap (λ (y : ℕ). slice_get Cells (slice_index w.store.to y - 1)) (sym spot) ∙ promised.2

    linked : (set_of : ℕ) × GoesTo Cells (found_of g w) cell.at.number p k call set_of
        × IsSetOf g set_of (promise_at g ((found_of g w).wave cell.at.number p k) call.back (kept_at call.split k) cell.at.context.promise)
    linked = right.linked cell.at.number cell.at.context p k call link (is_tied (value_at g Cells w.store.to cell.at.number p k) _ value)

    shrinks : IsShrinking g Cells (found_of g w) cell.at.number p k call height
    shrinks =
        let same : promised.0 ≡ context call.function linked.0 = same_Some _ _ (sym goes ∙ linked.1) in
        (linked.0, cell.state.0, linked.1, is.state, sym (ap (λ (y : Context). has y.promise cell.state.0) same) ∙ promised.3, back_height)

    low : height ≤ w.written
    low = let h = high.heights (index_at g Cells cell.at.number cell.pos.0 cell.state.0) in omega (arith, h, taken)

    step : LowersKeys g w new
    step = link_step g functions routed alike w new known long high right cell.at.number cell.at.context p k call link height index some low at shrinks promised.1 asks

    pub own_asked : AsksReturn g w new cell p
    own_asked = returns_stand g functions routed alike w new known step cell is height
        (ap (λ (t : Known). heights_of g t cell.at.number cell.pos.0 cell.state.0) step.others.known ∙ taken) p call es
        (λ set_of tied goes_to member. subst (λ (y : ℕ). Waits ((found_of g new).due cell.at.number p y) (2 * height + 1)) (sym class)
        (link_waits g functions routed alike w new known long high right cell.at.number cell.at.context p k call link height index some low at shrinks promised.1 asks))

  -- or doesn't promise its state
  pub own_unpromised : (IsPromised w index cell.state.0 → ⊥) → AsksReturn g w w cell p
  own_unpromised none = returns_stand g functions routed alike w w known (nothing g w long high right) cell is height taken p call es
      (λ set_of tied goes member. absurd (none (
        context call.function set_of,
        (let v = tied_some (value_at g Cells w.store.to cell.at.number p (class_of g call.split cell.state.0)) tied in omega (arith, v, ap (slice_index w.store.to) there)),
        ap (λ (y : ℕ). slice_get Cells (slice_index w.store.to y - 1)) there ∙ goes,
        member,
      )))
    where
      there : index ≡ index_at g Cells cell.at.number p (class_of g call.split cell.state.0)
      there = spot ∙ ap (λ (y : ℕ). index_at g Cells cell.at.number p y) (sym class)
