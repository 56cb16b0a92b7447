-- One pair more of those that wait is asked for.
use Rattle.std.proofs.Common.{◌≡◌, ℕ, ◌+◌, ◌<◌, ◌≤◌, List, [], ◌∷◌, false, Option, Some, length, get_or, sym, ap, ◌∙◌, subst, arith, inl, inr}
use Rattle.std.specs.Prelude.{◌⊎◌, slice_get, Contains}
use Rattle.std.proofs.lemmas.Bool.{false≢true}
use Rattle.std.proofs.lemmas.Option.{same_Some}
use Rattle.cw_game.specs.Games.{Game}
use Rattle.cw_links.specs.Flat.{row_at}
use Rattle.cw_links.specs.Lists.{list_at}
use Rattle.cw_solve.specs.declared.contexts.Context.{Context}
use Rattle.cw_product.specs.Routed.{AreRouted, IsOf}
use Rattle.cw_solve.specs.Rounds.{IsCell}
use Rattle.cw_linked.specs.declared.edges.Changes.{Changes}
use Rattle.cw_linked.specs.declared.edges.Pair.{Pair}
use Rattle.cw_linked.specs.declared.edges.Source.{Source}
use Rattle.cw_linked.specs.declared.work.Cell.{Cell}
use Rattle.cw_linked.specs.declared.work.Work.{Work}
use Rattle.cw_linked.specs.Founds.{Found, AreAlike, IsClosed, Nothing, AllClosed}
use Rattle.cw_linked.specs.Queues.{found_of, LowersKeys, AsksPair, AsksWaiting}
use Rattle.cw_linked.specs.Steps.{WaitsFor}
use Rattle.cw_linked.specs.Waiting.{pair_of, list_of, keeps_state, source_at, AreSources, AreChanges, ChangesFor, AsksSources}
use Rattle.cw_linked.specs.Walks.{IsFrom}
use Rattle.cw_linked.specs.Works.{Known, known_of, IsKnown}
use Rattle.std.proofs.lemmas.Bool.{cases_Bool as decide}
use Rattle.cw_lemmas.proofs.Lists.{in_either}
use Rattle.cw_linked.proofs.Sourcing.{leads_alike}
use Rattle.cw_linked.proofs.Telling.{still_closed, two_steps}
use Rattle.cw_linked.proofs.Walking.{row_whole, now_or_later, row_done}

-- the pair of each link of the lists
abbrev pub PairsBy : Type 0
PairsBy = ℕ → Option Pair

abbrev pub change_pairs : Changes → PairsBy
change_pairs changes = λ edge. slice_get changes.pairs.values edge

-- the pairs of a context that are left to ask for: those of the links that are left, beside those that come later
abbrev pub AreLeft : Game → PairsBy → (ℕ → ℕ → ℕ → Type 0) → ℕ → List ℕ → ℕ → ℕ → ℕ → Type 0
AreLeft g pairs Later j rest i p q = Later i p q ⊎ ((i ≡ j) × ((edge : ℕ) × Contains rest edge × (pairs edge ≡ Some (pair_of g p q))))

-- the pairs in the state of a cell that are left to ask for: those of a row from a number on, beside those that come later
abbrev pub SourcesLeft : Game → List Source → ℕ → (j r x : ℕ) → ℕ → ℕ → ℕ → Type 0
SourcesLeft g row n j r x i p q = ChangesFor g j r x i p q ⊎ ((i ≡ j) × (q ≡ x) × IsFrom row n (source_at g p))

module _ (g : Game) (contexts : List Context) where
  -- at first, all that wait for the cell
  pub sources_left : (sources : List (List Source)) (s : Found) → AreSources g sources → (j r x : ℕ) → ((i : ℕ) (c : Context) (p q : ℕ) → IsCell g contexts i c p q → p < length g.spots)
      → AllClosed g contexts s (WaitsFor g j r x) → AllClosed g contexts s (SourcesLeft g (row_at sources r) 0 j r x)
  sources_left sources s are j r x within all i c p q is =
      elim (all i c p q is) [
        | inl closed ↦ inl closed
        | inr rest ↦ elim (decide (keeps_state (slice_get g.spots p))) [
          | inr changing ↦ inr (inl (changing, rest))
          | inl keeping ↦
              let same : q ≡ x = (leads_alike g p q r x (slice_get g.spots p) rest.1.0 keeping rest.1.2).0 in
              inr (inr (rest.0, same, row_whole (row_at sources r) (source_at g p) (are.leads p q r x (within i c p q is) keeping rest.1)))
        ]
      ]

  -- one fewer, where the first of them is closed or is none of the function's
  pub one_source_left : (s : Found) (j : ℕ) (d : Context) → slice_get contexts j ≡ Some d → (row : List Source) (n r x : ℕ) (source : Source) → slice_get row n ≡ Some source
      → (IsOf g d.function source.pos.0 → IsClosed g s j d source.pos.0 x)
      → AllClosed g contexts s (SourcesLeft g row n j r x) → AllClosed g contexts s (SourcesLeft g row (n + 1) j r x)
  one_source_left s j d at row n r x source here closed all i c p q is =
      elim (all i c p q is) [
        | inl done ↦ inl done
        | inr (inl later) ↦ inr (inl later)
        | inr (inr rest) ↦ elim (now_or_later row n source (source_at g p) here rest.2) [
          | inr later ↦ inr (inr (rest.0, rest.1, later))
          | inl now ↦
              let same : source.pos.0 ≡ p = ap (λ (y : Source). y.pos.0) now in
              let context : d ≡ c = same_Some d c (sym at ∙ ap (slice_get contexts) (sym rest.0) ∙ is.at) in
              inl (by i c p q is rest.0 rest.1 same context)
        ]
      ]
    where
      by : (i : ℕ) (c : Context) (p q : ℕ) → IsCell g contexts i c p q → i ≡ j → q ≡ x → source.pos.0 ≡ p → d ≡ c → IsClosed g s i c p q
      by i c p q is number state same context =
          let of : IsOf g d.function source.pos.0 = subst (λ (y : ℕ). IsOf g d.function y) (sym same) (subst (λ (y : Context). IsOf g y.function p) (sym context) is.of) in
          subst (λ (y : ℕ). IsClosed g s y c p q) (sym number) (subst (λ (y : ℕ). IsClosed g s j c p y) (sym state)
          (subst (λ (y : Context). IsClosed g s j y p x) context (subst (λ (y : ℕ). IsClosed g s j d y x) same (closed of))))

  -- and at last none
  pub no_source_left : (s : Found) (row : List Source) (n j r x : ℕ) → length row ≤ n → AllClosed g contexts s (SourcesLeft g row n j r x) → AllClosed g contexts s (ChangesFor g j r x)
  no_source_left s row n j r x past all i c p q is =
      elim (all i c p q is) [
        | inl closed ↦ inl closed
        | inr (inl later) ↦ inr later
        | inr (inr rest) ↦ absurd (row_done row n (source_at g p) past rest.2)
      ]

  pub changes_left : (changes : Changes) (s : Found) → AreChanges g changes → (j r x : ℕ) → ((i : ℕ) (c : Context) (p q : ℕ) → IsCell g contexts i c p q → p < length g.spots)
      → AllClosed g contexts s (ChangesFor g j r x) → AllClosed g contexts s (AreLeft g (change_pairs changes) Nothing j (list_at changes.pairs.lists (list_of g changes.flags r x)))
  changes_left changes s are j r x within all i c p q is =
      elim (all i c p q is) [
        | inl closed ↦ inl closed
        | inr rest ↦ inr (inr (rest.1.0, (are.leads p q r x (within i c p q is) is.state rest.0 rest.1.1).0))
      ]

  -- none, where the position isn't flagged
  pub unmarked_left : (changes : Changes) (s : Found) → AreChanges g changes → (j r x : ℕ) → ((i : ℕ) (c : Context) (p q : ℕ) → IsCell g contexts i c p q → p < length g.spots)
      → get_or changes.flags r false ≡ false → AllClosed g contexts s (ChangesFor g j r x) → AllClosed g contexts s Nothing
  unmarked_left changes s are j r x within unmarked all i c p q is =
      elim (all i c p q is) [
        | inl closed ↦ inl closed
        | inr rest ↦ absurd (false≢true (sym unmarked ∙ (are.leads p q r x (within i c p q is) is.state rest.0 rest.1.1).1))
      ]

  module _ (pairs : PairsBy) (Later : ℕ → ℕ → ℕ → Type 0) where
    -- one fewer, where the first of them is closed or is none of the function's
    pub one_left : (s : Found) (j : ℕ) (d : Context) → slice_get contexts j ≡ Some d → (edge : ℕ) (back : List ℕ) (pair : Pair) → pairs edge ≡ Some pair
        → (IsOf g d.function pair.pos.0 → IsClosed g s j d pair.pos.0 pair.state.0)
        → AllClosed g contexts s (AreLeft g pairs Later j (edge ∷ back)) → AllClosed g contexts s (AreLeft g pairs Later j back)
    one_left s j d at edge back pair here closed all i c p q is =
        elim (all i c p q is) [
          | inl done ↦ inl done
          | inr (inl later) ↦ inr (inl later)
          | inr (inr rest) ↦ elim (in_either edge back rest.1.0 rest.1.1) [
            | inr later ↦ inr (inr (rest.0, (rest.1.0, later, rest.1.2)))
            | inl now ↦
                let same : pair ≡ pair_of g p q = same_Some pair (pair_of g p q) (sym here ∙ ap pairs now ∙ rest.1.2) in
                let context : d ≡ c = same_Some d c (sym at ∙ ap (slice_get contexts) (sym rest.0) ∙ is.at) in
                inl (by i c p q is rest.0 same context)
          ]
        ]
      where
        by : (i : ℕ) (c : Context) (p q : ℕ) → IsCell g contexts i c p q → i ≡ j → pair ≡ pair_of g p q → d ≡ c → IsClosed g s i c p q
        by i c p q is number same context =
            let of : IsOf g d.function pair.pos.0 = subst (λ (y : Pair). IsOf g d.function y.pos.0) (sym same) (subst (λ (y : Context). IsOf g y.function p) (sym context) is.of) in
            subst (λ (y : ℕ). IsClosed g s y c p q) (sym number) (subst (λ (y : Context). IsClosed g s j y p q) context (subst (λ (y : Pair). IsClosed g s j d y.pos.0 y.state.0) same (closed of)))

    -- and at last none
    pub none_left : (s : Found) (j : ℕ) → AllClosed g contexts s (AreLeft g pairs Later j []) → AllClosed g contexts s Later
    none_left s j all i c p q is =
        elim (all i c p q is) [
          | inl closed ↦ inl closed
          | inr (inl later) ↦ inr later
          | inr (inr rest) ↦ absurd (let lt = rest.1.1.1 in omega (arith, lt))
        ]

-- The first of the pairs that are left is asked for, after some steps.
pub asked_left : (g : Game) (functions : ℕ) (routed : AreRouted g functions) (alike : AreAlike g) (w mid new : Work) → IsKnown g (known_of w) → LowersKeys g w mid
    → (pairs : PairsBy) (Later : ℕ → ℕ → ℕ → Type 0) (cell : Cell) → slice_get w.blocks.contexts.items cell.at.number ≡ Some cell.at.context
    → (edge : ℕ) (back : List ℕ) (pair : Pair) → pairs edge ≡ Some pair → AsksPair g mid new cell pair
    → AllClosed g w.blocks.contexts.items (found_of g mid) (AreLeft g pairs Later cell.at.number (edge ∷ back))
    → AllClosed g w.blocks.contexts.items (found_of g new) (AreLeft g pairs Later cell.at.number back)
asked_left g functions routed alike w mid new known step pairs Later cell at edge back pair here asks all =
    let Before = AreLeft g pairs Later cell.at.number (edge ∷ back) in
    let unchanged : known_of w ≡ known_of mid = sym step.others.known in
    let later : AllClosed g mid.blocks.contexts.items (found_of g new) Before
    = still_closed g functions routed alike mid new (subst (IsKnown g) unchanged known) asks.step.others asks.step.lowers Before
    (subst (λ (t : Known). AllClosed g t.blocks.contexts.items (found_of g mid) Before) unchanged all) in
    one_left g w.blocks.contexts.items pairs Later (found_of g new) cell.at.number cell.at.context at edge back pair here asks.closed
    (subst (λ (t : Known). AllClosed g t.blocks.contexts.items (found_of g new) Before) (sym unchanged) later)

-- The first of the sources that are left is asked for, after some steps.
pub asked_source_left : (g : Game) (functions : ℕ) (routed : AreRouted g functions) (alike : AreAlike g) (w mid new : Work) → IsKnown g (known_of w) → LowersKeys g w mid
    → (row : List Source) (n : ℕ) (cell : Cell) → slice_get w.blocks.contexts.items cell.at.number ≡ Some cell.at.context
    → (source : Source) → slice_get row n ≡ Some source → AsksPair g mid new cell (pair_of g source.pos.0 cell.state.0)
    → AllClosed g w.blocks.contexts.items (found_of g mid) (SourcesLeft g row n cell.at.number cell.pos.0 cell.state.0)
    → AllClosed g w.blocks.contexts.items (found_of g new) (SourcesLeft g row (n + 1) cell.at.number cell.pos.0 cell.state.0)
asked_source_left g functions routed alike w mid new known step row n cell at source here asks all =
    let Before = SourcesLeft g row n cell.at.number cell.pos.0 cell.state.0 in
    let unchanged : known_of w ≡ known_of mid = sym step.others.known in
    let later : AllClosed g mid.blocks.contexts.items (found_of g new) Before
    = still_closed g functions routed alike mid new (subst (IsKnown g) unchanged known) asks.step.others asks.step.lowers Before
    (subst (λ (t : Known). AllClosed g t.blocks.contexts.items (found_of g mid) Before) unchanged all) in
    one_source_left g w.blocks.contexts.items (found_of g new) cell.at.number cell.at.context at row n cell.pos.0 cell.state.0 source here asks.closed
    (subst (λ (t : Known). AllClosed g t.blocks.contexts.items (found_of g new) Before) (sym unchanged) later)

-- what keeps its state is asked for, and then what may change it
pub asked_both : (g : Game) (old mid new : Work) (cell : Cell) → AsksSources g old mid cell → AsksWaiting g mid new → AsksWaiting g old new
asked_both g old mid new cell first second = record {
  step = two_steps g old mid new first.step second.step;
  closed = subst (λ (t : Known). AllClosed g t.blocks.contexts.items (found_of g new) Nothing) first.step.others.known second.closed;
}
