-- The lists of what waits for pairs, and of what returns to positions, grow by one.
use Rattle.std.proofs.Common.{◌≡◌, ℕ, ◌+◌, ◌*◌, ◌<◌, ◌≤◌, List, [], ◌∷◌, ◌++◌, Bool, true, false, Option, Some, None, length, sym, ap, ◌∙◌, subst, arith, inl, inr}
use Rattle.std.specs.Prelude.{◌⊎◌, slice_get, Contains, replicate}
use Rattle.std.proofs.lemmas.Bool.{cases_lt}
use Rattle.std.proofs.lemmas.List.{length-replicate}
use Rattle.std.proofs.lemmas.Option.{same_Some, none-some}
use Rattle.cw_lemmas.proofs.Lists.{get_last, get_front}
use Rattle.cw_core.specs.declared.ids.PosId.{PosId}
use Rattle.cw_certs.specs.declared.moves.Move.{Move}
use Rattle.cw_game.specs.declared.spots.Spot.{Spot}
use Rattle.cw_game.specs.Games.{Game}
use Rattle.cw_game.specs.Pairs.{Called, call_in}
use Rattle.cw_links.specs.Flat.{AreRowsOf}
use Rattle.cw_links.specs.Lists.{Chained, list_at, with_front}
use Rattle.cw_links.specs.Flags.{is_flagged, number}
use Rattle.cw_links.proofs.FlatRows.{as_many_rows, value_in, value_from}
use Rattle.cw_links.proofs.Linking.{lists_kept, one_more, still_in, front_in}
use Rattle.cw_product.specs.Moves.{pos_id, next_at}
use Rattle.cw_product.specs.MovesAt.{first_move, second_move}
use Rattle.cw_linked.specs.declared.edges.Pair.{Pair}
use Rattle.cw_linked.specs.Edges.{AreLed, AreReached, IsListed, AddsMove, AddsMoves, AreChangesTo, AreReturnsTo}
use Rattle.cw_linked.specs.Returns.{AreReturns}
use Rattle.cw_linked.specs.Steps.{IsMoveIn, Leads}
use Rattle.cw_linked.specs.Waiting.{pair_of, list_of, HasIn, keeps_state, AreChanges}
use Rattle.cw_linked.proofs.Adding.{push_cases}
use Rattle.cw_linked.proofs.Soles.{none_there, only_leads, soles_more}

-- a new link in front of a list
module _ {T : Type 0} (old new : Chained T) (list : ℕ) (v : T) (lists : new.lists ≡ with_front old.lists list (length old.values)) (values : new.values ≡ old.values ++ v ∷ [])
    (within : list < length old.lists) where
  pub kept_in : (l : ℕ) (w : T) → HasIn old l w → HasIn new l w
  kept_in l w h = (h.0, still_in old new list v lists values within l h.0 h.1, ap (λ (vs : List T). slice_get vs h.0) values ∙ get_front old.values (v ∷ []) h.0 w h.2)

  pub new_in : HasIn new list v
  new_in = (length old.values, front_in old new list v lists values within, ap (λ (vs : List T). slice_get vs (length old.values)) values ∙ get_last old.values v)

  -- each value is an old one or the new one
  pub value_cases : (edge : ℕ) (w : T) → slice_get new.values edge ≡ Some w → (slice_get old.values edge ≡ Some w) ⊎ (v ≡ w)
  value_cases edge w e = elim (push_cases old.values v edge w (ap (λ (vs : List T). slice_get vs edge) (sym values) ∙ e)) [ inl h ↦ inl h | inr h ↦ inr h.1 ]

-- what holds of the moves at a position, one or two
pub each_move : (o : Option Spot) (P : Move → Type 0) → P (first_move o) → ((by : Move) → second_move o ≡ Some by → P by) → (by : Move) → IsMoveIn o by → P by
each_move o P first second by is = elim is [ inl e ↦ subst P e first | inr e ↦ second by e ]

module _ (g : Game) where
  pub a_return_more : (old new : Chained PosId) (p : ℕ) (called : Called) → AreReturnsTo g old p → call_in (slice_get g.spots p) ≡ Some called → p < length g.spots → called.back < length g.spots
      → new.lists ≡ with_front old.lists called.back (length old.values) → new.values ≡ old.values ++ pos_id p ∷ [] → AreReturnsTo g new (p + 1)
  a_return_more old new p called are es lt back lists values =
      let within : called.back < length old.lists = omega (arith, back, are.lists) in
      let more = one_more old new called.back (pos_id p) lists values within in
      record {
        lists = lists_kept old new called.back (pos_id p) lists values within ∙ are.lists;
        few = omega (arith, more, are.few);
        fine = λ edge pos e. elim (value_cases old new called.back (pos_id p) lists values within edge pos e) [
          | inl was ↦ are.fine edge pos was
          | inr same ↦ subst (λ (y : PosId). y.0 < length g.spots) same lt
        ];
        leads = λ r call less fs. elim (cases_lt r p) [
          | inl before ↦ kept_in old new called.back (pos_id p) lists values within call.back (pos_id r) (are.leads r call before fs)
          | inr ge ↦
              let here : p ≡ r = omega (arith, less, ge) in
              let one : called ≡ call = same_Some called call (sym es ∙ ap (λ (y : ℕ). call_in (slice_get g.spots y)) here ∙ fs) in
              subst (λ (c : Called). HasIn new c.back (pos_id r)) one
              (subst (λ (y : ℕ). HasIn new called.back (pos_id y)) here (new_in old new called.back (pos_id p) lists values within))
        ];
      }

  -- all positions are in, and the lists are rows
  pub all_returns_in : (returns : Chained PosId) (rows : List (List PosId)) (m : ℕ) → length g.spots ≤ m → AreReturnsTo g returns m → AreRowsOf returns rows → AreReturns g rows
  all_returns_in returns rows m le are is = record {
    rows = as_many_rows returns rows is ∙ are.lists;
    fine = λ r pos h. let v = value_from returns rows is r pos h in are.fine v.0 pos v.2;
    leads = λ p call lt es. let h = are.leads p call (omega (arith, lt, le)) es in value_in returns rows is call.back h.0 (pos_id p) h.1 h.2;
  }

  -- What is so of each move from the pairs before a pair: with this pair, and with all of its position.
  pub led_pair_more : (Is New : ℕ → ℕ → ℕ → ℕ → Type 0) (p q : ℕ) → ((m n r x : ℕ) → Is m n r x → New m n r x) → AreLed g Is p q → ((r x : ℕ) → Leads g p q r x → New p q r x) → AreLed g New p (q + 1)
  led_pair_more Is New p q keeps are here m n r x before lt changing leads =
      elim before [
        | inl less ↦ keeps m n r x (are m n r x (inl less) lt changing leads)
        | inr same ↦ elim (cases_lt n q) [
          | inl less ↦ keeps m n r x (are m n r x (inr (same.0, less)) lt changing leads)
          | inr ge ↦
              let e : q ≡ n = (let k = same.1 in omega (arith, k, ge)) in
              subst (λ (y : ℕ). Leads g y n r x → New y n r x) (sym same.0)
              (subst (λ (y : ℕ). Leads g p y r x → New p y r x) e (here r x)) leads
        ]
      ]

  pub led_position_more : (Is : ℕ → ℕ → ℕ → ℕ → Type 0) (p q : ℕ) → g.states.count ≡ q → AreLed g Is p q → AreLed g Is (p + 1) 0
  led_position_more Is p q e are m n r x before lt changing leads =
      are m n r x (elim before [
        | inl less ↦ elim (cases_lt m p) [ inl earlier ↦ inl earlier | inr ge ↦ inr (omega (arith, less, ge), omega (arith, lt, e)) ]
        | inr same ↦ absurd (let k = same.1 in omega (arith, k))
      ]) lt changing leads

  -- a position from which no move leads that may change the state has none
  pub led_none_more : (Is : ℕ → ℕ → ℕ → ℕ → Type 0) (p : ℕ) → ((n r x : ℕ) → keeps_state (slice_get g.spots p) ≡ false → Leads g p n r x → ⊥) → AreLed g Is p 0 → AreLed g Is (p + 1) 0
  led_none_more Is p none are m n r x before lt changing leads =
      elim before [
        | inl less ↦ elim (cases_lt m p) [
          | inl earlier ↦ are m n r x (inl earlier) lt changing leads
          | inr ge ↦
              let here : m ≡ p = omega (arith, less, ge) in
              absurd (none n r x (ap (λ (y : ℕ). keeps_state (slice_get g.spots y)) (sym here) ∙ changing) (subst (λ (y : ℕ). Leads g y n r x) here leads))
        ]
        | inr same ↦ absurd (let k = same.1 in omega (arith, k))
      ]

  -- all moves at a position, one or two
  pub one_leads : (New : ℕ → ℕ → Type 0) (p q : ℕ) → second_move (slice_get g.spots p) ≡ None → ((r x : ℕ) → next_at g p q (first_move (slice_get g.spots p)) ≡ Some (r, x) → New r x)
      → (r x : ℕ) → Leads g p q r x → New r x
  one_leads New p q alone first r x is = each_move (slice_get g.spots p) (λ by. next_at g p q by ≡ Some (r, x) → New r x) (first r x) (λ by e. absurd (none-some by (sym alone ∙ e))) is.0 is.1 is.2

  pub two_lead : (New : ℕ → ℕ → Type 0) (p q : ℕ) (other : Move) → second_move (slice_get g.spots p) ≡ Some other
      → ((r x : ℕ) → next_at g p q (first_move (slice_get g.spots p)) ≡ Some (r, x) → New r x) → ((r x : ℕ) → next_at g p q other ≡ Some (r, x) → New r x) → (r x : ℕ) → Leads g p q r x → New r x
  two_lead New p q other also first second r x is = each_move (slice_get g.spots p) (λ by. next_at g p q by ≡ Some (r, x) → New r x) (first r x)
      (λ by e. subst (λ (m : Move). next_at g p q m ≡ Some (r, x) → New r x) (same_Some other by (sym also ∙ e)) (second r x)) is.0 is.1 is.2

  -- Pairs that wait, at positions that may change the state.
  module _ (flags : List Bool) where
    pub a_move_more : (old new : Chained Pair) (p q r x : ℕ) (by : Move) → keeps_state (slice_get g.spots p) ≡ false → IsMoveIn (slice_get g.spots p) by → next_at g p q by ≡ Some (r, x)
        → p < length g.spots → q < g.states.count → is_flagged flags r ≡ true → x < g.states.count → list_of g flags r x < length old.lists
        → new.lists ≡ with_front old.lists (list_of g flags r x) (length old.values) → new.values ≡ old.values ++ pair_of g p q ∷ [] → AddsMove g flags old new p q by
    a_move_more old new p q r x by changing moved leads lp lq flagged lx within lists values =
        let list = list_of g flags r x in
        let more = one_more old new list (pair_of g p q) lists values within in
        record {
          lists = lists_kept old new list (pair_of g p q) lists values within;
          grows = omega (arith, more);
          fine = λ are edge pair e. elim (value_cases old new list (pair_of g p q) lists values within edge pair e) [
            | inl was ↦ are edge pair was
            | inr same ↦ subst (λ (y : Pair). (y.pos.0 < length g.spots) × (y.state.0 < g.states.count)) same (lp, lq)
          ];
          keeps = kept_in old new list (pair_of g p q) lists values within;
          leads = λ s y e.
              let same : (r, x) ≡ (s, y) = same_Some (r, x) (s, y) (sym leads ∙ e) in
              subst (λ (z : ℕ × ℕ). IsListed g flags new p q z.0 z.1) same (new_in old new list (pair_of g p q) lists values within);
          soles = soles_more g flags old new p q r x (only_leads g p q r x by changing moved leads) flagged lx within lists values;
        }

    -- none is in yet
    pub begun_changes : (pairs : Chained Pair) (many : ℕ) → many ≡ number flags * g.states.count → pairs.lists ≡ replicate many [] → pairs.values ≡ [] → AreChangesTo g flags pairs 0 0
    begun_changes pairs many is lists values =
        let none : length pairs.values ≡ 0 = ap (λ (vs : List Pair). length vs) values in
        record {
          lists = ap (λ (ls : List (List ℕ)). length ls) lists ∙ length-replicate {A = List ℕ} many [] ∙ is;
          few = omega (arith, none);
          fine = λ edge pair e. absurd (none-some pair (ap (λ (vs : List Pair). slice_get vs edge) (sym values) ∙ e));
          leads = λ p q r x before lt changing leads. elim before [ inl less ↦ absurd (omega (arith, less)) | inr same ↦ absurd (let k = same.1 in omega (arith, k)) ];
          soles = λ r x edge flagged lx h.
              absurd (none_there many (list_of g flags r x) edge (subst (λ (ls : List (List ℕ)). Contains (list_at ls (list_of g flags r x)) edge) lists h));
        }

    pub one_move : (a b : Chained Pair) (p q : ℕ) → second_move (slice_get g.spots p) ≡ None → AddsMove g flags a b p q (first_move (slice_get g.spots p)) → AddsMoves g flags a b p q
    one_move a b p q alone first = record {
      lists = first.lists;
      grows = (let h = first.grows in omega (arith, h));
      fine = first.fine;
      keeps = first.keeps;
      leads = one_leads (IsListed g flags b p q) p q alone first.leads;
      soles = first.soles;
    }

    pub two_moves : (a b c : Chained Pair) (p q : ℕ) (other : Move) → second_move (slice_get g.spots p) ≡ Some other → AddsMove g flags a b p q (first_move (slice_get g.spots p))
        → AddsMove g flags b c p q other → AddsMoves g flags a c p q
    two_moves a b c p q other also first second = record {
      lists = second.lists ∙ first.lists;
      grows = omega (arith, first.grows, second.grows);
      fine = λ are. second.fine (first.fine are);
      keeps = λ l pair is. second.keeps l pair (first.keeps l pair is);
      leads = two_lead (IsListed g flags c p q) p q other also (λ r x e. second.keeps (list_of g flags r x) (pair_of g p q) (first.leads r x e)) second.leads;
      soles = λ are. second.soles (first.soles are);
    }

    pub a_pair_more : (old new : Chained Pair) (p q : ℕ) → AreChangesTo g flags old p q → AddsMoves g flags old new p q → AreChangesTo g flags new p (q + 1)
    a_pair_more old new p q are adds = record {
      lists = adds.lists ∙ are.lists;
      few = (let f = are.few in let h = adds.grows in omega (arith, f, h));
      fine = adds.fine are.fine;
      leads = led_pair_more (IsListed g flags old) (IsListed g flags new) p q (λ m n r x. adds.keeps (list_of g flags r x) (pair_of g m n)) are.leads adds.leads;
      soles = adds.soles are.soles;
    }

    pub a_position_more : (pairs : Chained Pair) (p q : ℕ) → g.states.count ≡ q → AreChangesTo g flags pairs p q → AreChangesTo g flags pairs (p + 1) 0
    a_position_more pairs p q e are = record {
      lists = are.lists;
      few = (let f = are.few in omega (arith, f, e));
      fine = are.fine;
      leads = led_position_more (IsListed g flags pairs) p q e are.leads;
      soles = are.soles;
    }

    pub no_pair_more : (pairs : Chained Pair) (p : ℕ) → ((n r x : ℕ) → keeps_state (slice_get g.spots p) ≡ false → Leads g p n r x → ⊥) → AreChangesTo g flags pairs p 0
        → AreChangesTo g flags pairs (p + 1) 0
    no_pair_more pairs p none are = record {
      lists = are.lists;
      few = (let f = are.few in omega (arith, f));
      fine = are.fine;
      leads = led_none_more (IsListed g flags pairs) p none are.leads;
      soles = are.soles;
    }

    pub all_changes_in : (pairs : Chained Pair) (m : ℕ) → length g.spots ≤ m → AreReached g flags → AreChangesTo g flags pairs m 0 → AreChanges g (record { flags = flags; pairs = pairs })
    all_changes_in pairs m le reached are = record {
      lists = are.lists;
      flags = reached.long;
      fine = are.fine;
      leads = λ p q r x lt state changing leads. (are.leads p q r x (inl (omega (arith, lt, le))) state changing leads, reached.leads p q r x lt state changing leads);
      soles = are.soles;
    }
