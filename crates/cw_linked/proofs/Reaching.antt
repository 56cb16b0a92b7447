-- The positions to which a move leads that may change the state are flagged, and lists stand for the pairs of these alone.
use Rattle.std.proofs.Common.{◌≡◌, ℕ, zero, suc, ◌+◌, ◌*◌, ◌<◌, ◌≤◌, List, [], Bool, true, false, Option, Some, None, length, get_or, set, refl, sym, ap, ◌∙◌, subst, arith, inl, inr}
use Rattle.std.specs.Prelude.{◌⊎◌, slice_get, option_map, IfSome, Contains}
use Rattle.std.proofs.lemmas.Bool.{cases_eq, cases_lt, false≢true}
use Rattle.std.proofs.lemmas.List.{length-set, get_or-set_same, get_or-set_other}
use Rattle.std.proofs.lemmas.Nat.{mul-add-lt}
use Rattle.std.proofs.lemmas.Option.{same_Some, none-some}
use Rattle.cw_lemmas.proofs.Lists.{contains_one}
use Rattle.cw_lemmas.proofs.Options.{cond_none_some as not_left}
use Rattle.cw_lemmas.proofs.Truths.{or_middle}
use Rattle.cw_rights.specs.declared.capabilities.Primitive.TheVariants.{Limit, Enter, Split}
use Rattle.cw_game.specs.declared.spots.Spot.{Spot}
use Rattle.cw_game.specs.declared.spots.Spot.TheVariants.{Visit, Asked, Step, Branch, Label, Open, Close, Call, SplitCall, Exit}
use Rattle.cw_game.specs.Games.{Game, bad_in, leads_in}
use Rattle.cw_game.specs.Pairs.{is_call_in, is_exit_in}
use Rattle.cw_links.specs.Flags.{number, rank}
use Rattle.cw_links.proofs.Ranks.{rank_below}
use Rattle.cw_positions.specs.Closed.{LeadsWithin}
use Rattle.cw_product.specs.Moves.{pair_of, is_left_in}
use Rattle.cw_product.specs.Routed.{targets}
use Rattle.cw_solve.proofs.Calling.{next_target}
use Rattle.cw_linked.specs.Edges.{changes_state, first_target, second_target, FlagsTarget, AreReachedTo, AreReached}
use Rattle.cw_linked.specs.Steps.{Leads}
use Rattle.cw_linked.specs.Waiting.{keeps_state, list_of}

-- what is flagged stays flagged
flagged_still : (flags : List Bool) (i r : ℕ) → i < length flags → get_or flags r false ≡ true → get_or (set flags i true) r false ≡ true
flagged_still flags i r lt is =
    elim (cases_eq r i) [
      | inl e ↦ ap (λ (y : ℕ). get_or (set flags i true) y false) e ∙ get_or-set_same flags i true false lt
      | inr ne ↦ get_or-set_other flags i r true false ne ∙ is
    ]

pub target_flagged : (flags : List Bool) (to : Option ℕ) (n : ℕ) → to ≡ Some n → n < length flags → FlagsTarget flags (set flags n true) to
target_flagged flags to n is inside = record {
  long = length-set flags n true;
  keeps = λ r flagged. flagged_still flags n r inside flagged;
  flagged = λ r e. subst (λ (y : ℕ). get_or (set flags n true) y false ≡ true) (same_Some n r (sym is ∙ e)) (get_or-set_same flags n true false inside);
}

-- both are within the game
pub first_within : (size functions p : ℕ) (s : Spot) → LeadsWithin size functions p s → IfSome (first_target p (Some s)) (λ r. r < size)
first_within size functions p (Asked j i Split) leads = omega (arith, leads)
first_within size functions p (Asked j i Enter) leads = leads
first_within size functions p (Asked j i (Limit l)) leads = leads
first_within size functions p (Label j l n) leads = leads
first_within size functions p (Open j d n) leads = leads
first_within size functions p (Close j d n) leads = leads
first_within size functions p (Visit j i a) leads = tt
first_within size functions p (Step n) leads = tt
first_within size functions p (Branch m n) leads = tt
first_within size functions p (Call j f n) leads = tt
first_within size functions p (SplitCall j f n) leads = tt
first_within size functions p (Exit f) leads = tt

pub second_within : (size functions p : ℕ) (s : Spot) → LeadsWithin size functions p s → IfSome (second_target p (Some s)) (λ r. r < size)
second_within size functions p (Asked j i Split) leads = leads
second_within size functions p (Asked j i Enter) leads = tt
second_within size functions p (Asked j i (Limit l)) leads = tt
second_within size functions p (Label j l n) leads = tt
second_within size functions p (Open j d n) leads = tt
second_within size functions p (Close j d n) leads = tt
second_within size functions p (Visit j i a) leads = tt
second_within size functions p (Step n) leads = tt
second_within size functions p (Branch m n) leads = tt
second_within size functions p (Call j f n) leads = tt
second_within size functions p (SplitCall j f n) leads = tt
second_within size functions p (Exit f) leads = tt

-- a move that may change the state leads to one of them
one_of_both : (p r : ℕ) (o : Option Spot) → keeps_state o ≡ false → is_call_in o ≡ false → Contains (targets p o) r → (first_target p o ≡ Some r) ⊎ (second_target p o ≡ Some r)
one_of_both p r (Some (Asked j i Split)) changing plain (zero, lt, is) = inr (ap (λ (y : ℕ). Some y) is)
one_of_both p r (Some (Asked j i Split)) changing plain (suc zero, lt, is) = inl (ap (λ (y : ℕ). Some y) is)
one_of_both p r (Some (Asked j i Split)) changing plain (suc (suc k), lt, is) = absurd (omega (arith, lt))
one_of_both p r (Some (Asked j i Enter)) changing plain at = inl (ap (λ (y : ℕ). Some y) (contains_one (p + 1) r at))
one_of_both p r (Some (Asked j i (Limit l))) changing plain at = inl (ap (λ (y : ℕ). Some y) (contains_one (p + 1) r at))
one_of_both p r (Some (Label j l n)) changing plain at = inl (ap (λ (y : ℕ). Some y) (contains_one n r at))
one_of_both p r (Some (Open j d n)) changing plain at = inl (ap (λ (y : ℕ). Some y) (contains_one n r at))
one_of_both p r (Some (Close j d n)) changing plain at = inl (ap (λ (y : ℕ). Some y) (contains_one n r at))
one_of_both p r (Some (Visit j i a)) changing plain at = absurd (false≢true (sym changing))
one_of_both p r (Some (Step n)) changing plain at = absurd (false≢true (sym changing))
one_of_both p r (Some (Branch m n)) changing plain at = absurd (false≢true (sym changing))
one_of_both p r (Some (Call j f n)) changing plain at = absurd (false≢true (sym plain))
one_of_both p r (Some (SplitCall j f n)) changing plain at = absurd (false≢true (sym plain))
one_of_both p r (Some (Exit f)) changing plain at = absurd (let lt = at.1 in omega (arith, lt))
one_of_both p r None changing plain at = absurd (let lt = at.1 in omega (arith, lt))

-- where no moves lead that may change the state, there is none of both
no_first : (p : ℕ) (o : Option Spot) → changes_state o ≡ false → first_target p o ≡ None
no_first p (Some (Asked j i a)) e = absurd (false≢true (sym e))
no_first p (Some (Label j l n)) e = absurd (false≢true (sym e))
no_first p (Some (Open j d n)) e = absurd (false≢true (sym e))
no_first p (Some (Close j d n)) e = absurd (false≢true (sym e))
no_first p (Some (Visit j i a)) e = refl
no_first p (Some (Step n)) e = refl
no_first p (Some (Branch m n)) e = refl
no_first p (Some (Call j f n)) e = refl
no_first p (Some (SplitCall j f n)) e = refl
no_first p (Some (Exit f)) e = refl
no_first p None e = refl

no_second : (p : ℕ) (o : Option Spot) → changes_state o ≡ false → second_target p o ≡ None
no_second p (Some (Asked j i a)) e = absurd (false≢true (sym e))
no_second p (Some (Label j l n)) e = absurd (false≢true (sym e))
no_second p (Some (Open j d n)) e = absurd (false≢true (sym e))
no_second p (Some (Close j d n)) e = absurd (false≢true (sym e))
no_second p (Some (Visit j i a)) e = refl
no_second p (Some (Step n)) e = refl
no_second p (Some (Branch m n)) e = refl
no_second p (Some (Call j f n)) e = refl
no_second p (Some (SplitCall j f n)) e = refl
no_second p (Some (Exit f)) e = refl
no_second p None e = refl

-- where they lead, they may change the state
pub no_keeper : (o : Option Spot) → changes_state o ≡ true → keeps_state o ≡ false
no_keeper (Some (Asked j i a)) e = refl
no_keeper (Some (Label j l n)) e = refl
no_keeper (Some (Open j d n)) e = refl
no_keeper (Some (Close j d n)) e = refl
no_keeper (Some (Visit j i a)) e = absurd (false≢true e)
no_keeper (Some (Step n)) e = absurd (false≢true e)
no_keeper (Some (Branch m n)) e = absurd (false≢true e)
no_keeper (Some (Call j f n)) e = absurd (false≢true e)
no_keeper (Some (SplitCall j f n)) e = absurd (false≢true e)
no_keeper (Some (Exit f)) e = absurd (false≢true e)
no_keeper None e = absurd (false≢true e)

module _ (g : Game) where
  leads_to_one : (p q r x : ℕ) → keeps_state (slice_get g.spots p) ≡ false → Leads g p q r x → (first_target p (slice_get g.spots p) ≡ Some r) ⊎ (second_target p (slice_get g.spots p) ≡ Some r)
  leads_to_one p q r x changing leads =
      let o = slice_get g.spots p in
      let left = not_left (is_left_in g q o) (option_map pair_of (leads_in g p q [] o leads.0)) (r, x) leads.2 in
      let plain = or_middle (bad_in g q o) (is_call_in o) (is_exit_in o) left.0 in
      one_of_both p r o changing plain (next_target g p q o leads.0 (r, x) leads.2)

  -- so no move leads anywhere then that may change the state
  pub idle_leads : (p q r x : ℕ) → changes_state (slice_get g.spots p) ≡ false → keeps_state (slice_get g.spots p) ≡ false → Leads g p q r x → ⊥
  idle_leads p q r x idle changing leads =
      let o = slice_get g.spots p in
      elim (leads_to_one p q r x changing leads) [ inl e ↦ none-some r (sym (no_first p o idle) ∙ e) | inr e ↦ none-some r (sym (no_second p o idle) ∙ e) ]

  -- those of one position more
  pub a_position_flagged : (old mid new : List Bool) (p : ℕ) (first second : Option ℕ) → AreReachedTo g old p 0 → first ≡ first_target p (slice_get g.spots p)
      → second ≡ second_target p (slice_get g.spots p) → FlagsTarget old mid first → FlagsTarget mid new second → AreReachedTo g new (p + 1) 0
  a_position_flagged old mid new p first second are is_first is_second one two = record {
    long = two.long ∙ one.long ∙ are.long;
    leads = λ m n r x before lt changing leads. elim before [
      | inl less ↦ elim (cases_lt m p) [
        | inl earlier ↦ two.keeps r (one.keeps r (are.leads m n r x (inl earlier) lt changing leads))
        | inr ge ↦
            let here : m ≡ p = omega (arith, less, ge) in
            let changes : keeps_state (slice_get g.spots p) ≡ false = subst (λ (y : ℕ). keeps_state (slice_get g.spots y) ≡ false) here changing in
            elim (leads_to_one p n r x changes (subst (λ (y : ℕ). Leads g y n r x) here leads)) [
              | inl e ↦ two.keeps r (one.flagged r (is_first ∙ e))
              | inr e ↦ two.flagged r (is_second ∙ e)
            ]
      ]
      | inr same ↦ absurd (let k = same.1 in omega (arith, k))
    ];
  }

  pub all_flagged : (flags : List Bool) (m : ℕ) → length g.spots ≤ m → AreReachedTo g flags m 0 → AreReached g flags
  all_flagged flags m le are = record { long = are.long; leads = λ p q r x lt. are.leads p q r x (inl (omega (arith, lt, le))) }

  -- the list of a pair at a flagged position is one of the lists
  pub list_within : (flags : List Bool) (r x : ℕ) → get_or flags r false ≡ true → x < g.states.count → list_of g flags r x < number flags * g.states.count
  list_within flags r x flagged state = (let m = mul-add-lt (rank flags r) g.states.count x (number flags) (rank_below flags r flagged) state in omega (arith, m))
