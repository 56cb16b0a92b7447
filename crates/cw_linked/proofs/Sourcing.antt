-- The lists of positions that keep the state, while they are made.
use Rattle.std.proofs.Common.{◌≡◌, ℕ, ◌+◌, ◌<◌, ◌≤◌, List, [], ◌∷◌, ◌++◌, true, Option, Some, None, length, refl, sym, ap, ◌∙◌, subst, arith, inl, inr}
use Rattle.std.specs.Prelude.{◌⊎◌, slice_get, IfSome, Contains, replicate}
use Rattle.std.proofs.lemmas.Bool.{cases_lt, false≢true}
use Rattle.std.proofs.lemmas.Option.{same_Some, none-some}
use Rattle.std.proofs.lemmas.List.{length-replicate}
use Rattle.cw_lemmas.proofs.Lists.{get_last, get_front}
use Rattle.cw_certs.specs.declared.moves.Move.{Move}
use Rattle.cw_certs.specs.declared.moves.Move.TheVariants.{Skip, Try, On, Left, Right}
use Rattle.cw_game.specs.declared.spots.Spot.{Spot}
use Rattle.cw_game.specs.declared.spots.Spot.TheVariants.{Visit, Asked, Step, Branch, Label, Open, Close, Call, SplitCall, Exit}
use Rattle.cw_game.specs.Games.{Game}
use Rattle.cw_links.specs.Flat.{AreRowsOf}
use Rattle.cw_links.specs.Lists.{Chained, list_at, with_front}
use Rattle.cw_links.proofs.CallerLemmas.{Contains-with_front}
use Rattle.cw_links.proofs.FlatRows.{as_many_rows, value_in, value_from}
use Rattle.cw_links.proofs.Linking.{lists_kept, one_more}
use Rattle.cw_positions.specs.Closed.{LeadsWithin}
use Rattle.cw_product.specs.Moves.{next_in}
use Rattle.cw_linked.specs.declared.edges.Source.{Source}
use Rattle.cw_linked.specs.Edges.{AreSteps, first_kept, second_kept, AddsSource, AreSourcesTo}
use Rattle.cw_linked.specs.Steps.{Leads}
use Rattle.cw_linked.specs.Waiting.{HasIn, keeps_state, is_step, source_at, IsStepTo, IsVisit, AreSources}
use Rattle.cw_linked.proofs.Edging.{kept_in, new_in}
use Rattle.cw_linked.proofs.Soles.{none_there}

-- the same position, and the state is kept
kept : (m q r x : ℕ) → ◌≡◌ {A = Option (ℕ × ℕ)} (Some (m, q)) (Some (r, x)) → (q ≡ x) × (◌≡◌ {A = Option ℕ} (Some m) (Some r))
kept m q r x e = let same : (m, q) ≡ (r, x) = same_Some (m, q) (r, x) e in (ap (λ (z : ℕ × ℕ). z.1) same, ap {B = Option ℕ} (λ (z : ℕ × ℕ). Some z.0) same)

-- Where the moves at a position keep the state, each leads to one of both, from all states.
pub leads_alike : (g : Game) (p q r x : ℕ) (o : Option Spot) (by : Move) → keeps_state o ≡ true → next_in g p q o by ≡ Some (r, x)
    → (q ≡ x) × ((first_kept p o ≡ Some r) ⊎ (second_kept p o ≡ Some r))
leads_alike g p q r x (Some (Visit j i a)) Skip k e = let h = kept (p + 2) q r x e in (h.0, inl h.1)
leads_alike g p q r x (Some (Visit j i a)) Try k e = let h = kept (p + 1) q r x e in (h.0, inr h.1)
leads_alike g p q r x (Some (Visit j i a)) by k e = absurd (none-some (r, x) e)
leads_alike g p q r x (Some (Step n)) On k e = let h = kept n q r x e in (h.0, inl h.1)
leads_alike g p q r x (Some (Step n)) by k e = absurd (none-some (r, x) e)
leads_alike g p q r x (Some (Branch m n)) Left k e = let h = kept m q r x e in (h.0, inl h.1)
leads_alike g p q r x (Some (Branch m n)) Right k e = let h = kept n q r x e in (h.0, inr h.1)
leads_alike g p q r x (Some (Branch m n)) by k e = absurd (none-some (r, x) e)
leads_alike g p q r x o by k e = absurd (false≢true k)

-- a step leads to one position
pub first_steps : (p r : ℕ) (o : Option Spot) → first_kept p o ≡ Some r → is_step o ≡ true → o ≡ Some (Step r)
first_steps p r (Some (Step n)) e k = ap {B = Option Spot} (λ (y : ℕ). Some (Step y)) (same_Some n r e)
first_steps p r o e k = absurd (false≢true k)

pub second_steps : (p r : ℕ) (o : Option Spot) → second_kept p o ≡ Some r → is_step o ≡ true → o ≡ Some (Step r)
second_steps p r (Some (Step n)) e k = absurd (none-some r e)
second_steps p r o e k = absurd (false≢true k)

-- both are within the game
pub first_inside : (size functions p : ℕ) (s : Spot) → LeadsWithin size functions p s → IfSome (first_kept p (Some s)) (λ r. r < size)
first_inside size functions p (Visit j i a) leads = leads
first_inside size functions p (Step n) leads = leads
first_inside size functions p (Branch m n) leads = leads.0
first_inside size functions p (Asked j i a) leads = tt
first_inside size functions p (Label j l n) leads = tt
first_inside size functions p (Open j d n) leads = tt
first_inside size functions p (Close j d n) leads = tt
first_inside size functions p (Call j f n) leads = tt
first_inside size functions p (SplitCall j f n) leads = tt
first_inside size functions p (Exit f) leads = tt

pub second_inside : (size functions p : ℕ) (s : Spot) → LeadsWithin size functions p s → IfSome (second_kept p (Some s)) (λ r. r < size)
second_inside size functions p (Visit j i a) leads = omega (arith, leads)
second_inside size functions p (Step n) leads = tt
second_inside size functions p (Branch m n) leads = leads.1
second_inside size functions p (Asked j i a) leads = tt
second_inside size functions p (Label j l n) leads = tt
second_inside size functions p (Open j d n) leads = tt
second_inside size functions p (Close j d n) leads = tt
second_inside size functions p (Call j f n) leads = tt
second_inside size functions p (SplitCall j f n) leads = tt
second_inside size functions p (Exit f) leads = tt

module _ (g : Game) where
  -- a source that leads to a position is put in front of its list
  steps_more : (old new : Chained Source) (r : ℕ) (source : Source) → r < length old.lists → new.lists ≡ with_front old.lists r (length old.values) → new.values ≡ old.values ++ source ∷ []
      → IsStepTo g source r → IsVisit g source → AreSteps g old → AreSteps g new
  steps_more old new r source within lists values step visit are l edge h =
      elim (Contains-with_front old.lists r (length old.values) l edge within (subst (λ (ls : List (List ℕ)). Contains (list_at ls l) edge) lists h)) [
        | inl here ↦ (
          source,
          ap (λ (vs : List Source). slice_get vs edge) values ∙ ap (slice_get (old.values ++ source ∷ [])) here.1 ∙ get_last old.values source,
          subst (λ (y : ℕ). IsStepTo g source y) (sym here.0) step,
          visit,
        )
        | inr there ↦
            let was = are l edge there in
            (was.0, ap (λ (vs : List Source). slice_get vs edge) values ∙ get_front old.values (source ∷ []) edge was.0 was.1, was.2, was.3)
      ]

  -- no link is in any list
  no_steps : (sources : Chained Source) (many : ℕ) → sources.lists ≡ replicate many [] → AreSteps g sources
  no_steps sources many empty l edge h = absurd (none_there many l edge (subst (λ (ls : List (List ℕ)). Contains (list_at ls l) edge) empty h))

  -- nothing is in yet
  pub begun : (sources : Chained Source) (many : ℕ) → many ≡ length g.spots → sources.lists ≡ replicate many [] → sources.values ≡ [] → AreSourcesTo g sources 0
  begun sources many is lists values =
      let none : length sources.values ≡ 0 = ap (λ (vs : List Source). length vs) values in
      record {
        lists = ap (λ (ls : List (List ℕ)). length ls) lists ∙ length-replicate {A = List ℕ} many [] ∙ is;
        few = omega (arith, none);
        steps = no_steps sources many lists;
        leads = λ p q r x lt keeping leads. absurd (omega (arith, lt));
      }

  pub a_source_more : (old new : Chained Source) (source : Source) (to : Option ℕ) (r : ℕ) → to ≡ Some r → r < length old.lists → new.lists ≡ with_front old.lists r (length old.values)
      → new.values ≡ old.values ++ source ∷ [] → IsStepTo g source r → IsVisit g source → AddsSource g old new source to
  a_source_more old new source to r is within lists values step visit = record {
    lists = lists_kept old new r source lists values within;
    grows = (let more = one_more old new r source lists values within in omega (arith, more));
    keeps = kept_in old new r source lists values within;
    steps = steps_more old new r source within lists values step visit;
    leads = λ s e. subst (λ (z : ℕ). HasIn new z source) (same_Some r s (sym is ∙ e)) (new_in old new r source lists values within);
  }

  pub no_source_more : (old : Chained Source) (source : Source) (to : Option ℕ) → to ≡ None → AddsSource g old old source to
  no_source_more old source to none = record {
    lists = refl;
    grows = omega arith;
    keeps = λ l source is. is;
    steps = λ are. are;
    leads = λ r e. absurd (none-some r (sym none ∙ e));
  }

  -- one position more, in the lists of both to which its moves lead, if they keep the state
  pub both_in : (a b c : Chained Source) (p : ℕ) (source : Source) (first second : Option ℕ) → source ≡ source_at g p → first ≡ first_kept p (slice_get g.spots p)
      → second ≡ second_kept p (slice_get g.spots p) → AreSourcesTo g a p → AddsSource g a b source first → AddsSource g b c source second → AreSourcesTo g c (p + 1)
  both_in a b c p source first second is is_first is_second are one two = record {
    lists = two.lists ∙ one.lists ∙ are.lists;
    few = (let f = are.few in omega (arith, f, one.grows, two.grows));
    steps = two.steps (one.steps are.steps);
    leads = λ m q r x lt keeping leads. elim (cases_lt m p) [
      | inl less ↦ two.keeps r (source_at g m) (one.keeps r (source_at g m) (are.leads m q r x less keeping leads))
      | inr ge ↦
          let same : m ≡ p = omega (arith, lt, ge) in
          let there = subst (λ (y : ℕ). Leads g y q r x) same leads in
          subst (λ (y : ℕ). HasIn c r (source_at g y)) (sym same)
          (subst (λ (y : Source). HasIn c r y) is (elim (leads_alike g p q r x (slice_get g.spots p) there.0 (subst (λ (y : ℕ). keeps_state (slice_get g.spots y) ≡ true) same keeping) there.2).1 [
            | inl e ↦ two.keeps r source (one.leads r (is_first ∙ e))
            | inr e ↦ two.leads r (is_second ∙ e)
          ]))
    ];
  }

  -- all positions are in, and the lists are rows
  pub all_sources_in : (sources : Chained Source) (rows : List (List Source)) (m : ℕ) → length g.spots ≤ m → AreSourcesTo g sources m → AreRowsOf sources rows → AreSources g rows
  all_sources_in sources rows m le are is = record {
    rows = as_many_rows sources rows is ∙ are.lists;
    steps = λ r source h step.
        let v = value_from sources rows is r source h in
        let was = are.steps r v.0 v.1 in
        let same : was.0 ≡ source = same_Some was.0 source (sym was.1 ∙ v.2) in
        subst (λ (y : Source). IsStepTo g y r) same was.2 step;
    visits = λ r source h visit.
        let v = value_from sources rows is r source h in
        let was = are.steps r v.0 v.1 in
        let same : was.0 ≡ source = same_Some was.0 source (sym was.1 ∙ v.2) in
        subst (λ (y : Source). IsVisit g y) same was.3 visit;
    leads = λ p q r x lt keeping leads.
        let h = are.leads p q r x (omega (arith, lt, le)) keeping leads in
        value_in sources rows is r h.0 (source_at g p) h.1 h.2;
  }
