-- Pairs from which one move alone leads anywhere: what is asked of such a pair is asked of the one to which that leads.
use Rattle.std.proofs.Common.{◌≡◌, ℕ, ◌+◌, ◌*◌, ◌<◌, List, [], ◌∷◌, ◌++◌, Bool, true, false, ◌&&◌, ◌||◌, Option, Some, None, length, refl, sym, ap, ◌∙◌, subst, arith, inl, inr}
use Rattle.std.specs.Prelude.{slice_get, option_map, replicate, Contains}
use Rattle.std.proofs.lemmas.Bool.{cases_lt, false≢true}
use Rattle.std.proofs.lemmas.List.{length-replicate, get_or-replicate, get_or_past}
use Rattle.std.proofs.lemmas.Nat.{mul-add-lt}
use Rattle.std.proofs.lemmas.Option.{same_Some, none-some}
use Rattle.cw_lemmas.proofs.Lists.{get_last, get_front}
use Rattle.cw_lemmas.proofs.Options.{cond_none_some as not_left}
use Rattle.cw_lemmas.proofs.Truths.{or_first as neither, or_middle}
use Rattle.cw_certs.specs.declared.moves.Move.{Move}
use Rattle.cw_certs.specs.declared.moves.Move.TheVariants.{Grant, Refuse, Opened, Failed}
use Rattle.cw_game.specs.declared.spots.Spot.{Spot}
use Rattle.cw_game.specs.declared.spots.Spot.TheVariants.{Visit, Asked, Step, Branch, Label, Open, Close, Call, SplitCall, Exit}
use Rattle.cw_game.specs.Games.{Game, Promise, bad_in, leads_in}
use Rattle.cw_game.specs.Pairs.{has, is_call_in, is_exit_in}
use Rattle.cw_links.specs.Lists.{Chained, list_at, with_front}
use Rattle.cw_links.specs.Flags.{is_flagged, rank}
use Rattle.cw_links.proofs.CallerLemmas.{Contains-with_front}
use Rattle.cw_links.proofs.Ranks.{same_from_rank}
use Rattle.cw_product.specs.Moves.{pair_of as pair_in, is_left_in, next_in, next_at}
use Rattle.cw_product.specs.MovesAt.{first_move, second_move}
use Rattle.cw_solve.specs.Asking.{holds_after, holds_by_moves}
use Rattle.cw_solve.specs.Rounds.{holds_by}
use Rattle.cw_solve.proofs.Moves.{by_moves}
use Rattle.cw_linked.specs.declared.edges.Pair.{Pair}
use Rattle.cw_linked.specs.Founds.{implied}
use Rattle.cw_linked.specs.Steps.{IsMoveIn, IsBound}
use Rattle.cw_linked.specs.Waiting.{keeps_state, list_of, lone, next_by, is_sole, pair_of, IsOnly, AreSoles}
use Rattle.cw_linked.proofs.Blocking.{more_tells}

and_true : (b : Bool) → (b && true) ≡ b
and_true true = refl
and_true false = refl

or_end : (a b c : Bool) → (a || (b || c)) ≡ false → c ≡ false
or_end true b c h = absurd (false≢true (sym h))
or_end false true c h = absurd (false≢true (sym h))
or_end false false c h = h

module _ (h : ℕ → ℕ → Promise → Bool) (e : Promise) where
  -- of two moves, of which one leads nowhere
  first_alone : (a b : Option (ℕ × ℕ)) (r x : ℕ) → a ≡ Some (r, x) → lone a b ≡ true → (holds_after h e a && holds_after h e b) ≡ h r x e
  first_alone None b r x is one = absurd (none-some (r, x) is)
  first_alone (Some a) None r x is one = and_true (h a.0 a.1 e) ∙ ap (λ (z : ℕ × ℕ). h z.0 z.1 e) (same_Some a (r, x) is)
  first_alone (Some a) (Some b) r x is one = absurd (false≢true one)

  second_alone : (a b : Option (ℕ × ℕ)) (r x : ℕ) → b ≡ Some (r, x) → lone a b ≡ true → (holds_after h e a && holds_after h e b) ≡ h r x e
  second_alone None None r x is one = absurd (none-some (r, x) is)
  second_alone None (Some b) r x is one = ap (λ (z : ℕ × ℕ). h z.0 z.1 e) (same_Some b (r, x) is)
  second_alone (Some a) None r x is one = absurd (none-some (r, x) is)
  second_alone (Some a) (Some b) r x is one = absurd (false≢true one)

  module _ (g : Game) (p q r x : ℕ) where
    -- the first move at a position, and the second
    by_first : (o : Option Spot) → keeps_state o ≡ false → next_in g p q o (first_move o) ≡ Some (r, x) → lone (next_in g p q o (first_move o)) (next_by g p q o (second_move o)) ≡ true
        → holds_by_moves g h p q e o ≡ h r x e
    by_first (Some (Visit j i a)) keeps is one = absurd (false≢true (sym keeps))
    by_first (Some (Step n)) keeps is one = absurd (false≢true (sym keeps))
    by_first (Some (Branch m n)) keeps is one = absurd (false≢true (sym keeps))
    by_first (Some (Asked j i a)) keeps is one = first_alone (next_in g p q (Some (Asked j i a)) Grant) (next_in g p q (Some (Asked j i a)) Refuse) r x is one
    by_first (Some (Open j d n)) keeps is one = first_alone (next_in g p q (Some (Open j d n)) Opened) (next_in g p q (Some (Open j d n)) Failed) r x is one
    by_first (Some (Label j l n)) keeps is one = ap (holds_after h e) is
    by_first (Some (Close j d n)) keeps is one = ap (holds_after h e) is
    by_first (Some (Call j f n)) keeps is one = ap (holds_after h e) is
    by_first (Some (SplitCall j f n)) keeps is one = ap (holds_after h e) is
    by_first (Some (Exit f)) keeps is one = ap (holds_after h e) is
    by_first None keeps is one = ap (holds_after h e) is

    by_second : (o : Option Spot) (by : Move) → keeps_state o ≡ false → second_move o ≡ Some by → next_in g p q o by ≡ Some (r, x)
        → lone (next_in g p q o (first_move o)) (next_by g p q o (second_move o)) ≡ true → holds_by_moves g h p q e o ≡ h r x e
    by_second (Some (Visit j i a)) by keeps also is one = absurd (false≢true (sym keeps))
    by_second (Some (Step n)) by keeps also is one = absurd (false≢true (sym keeps))
    by_second (Some (Branch m n)) by keeps also is one = absurd (false≢true (sym keeps))
    by_second (Some (Asked j i a)) by keeps also is one =
        second_alone (next_in g p q (Some (Asked j i a)) Grant) (next_in g p q (Some (Asked j i a)) Refuse) r x
        (subst (λ (m : Move). next_in g p q (Some (Asked j i a)) m ≡ Some (r, x)) (sym (same_Some Refuse by also)) is) one
    by_second (Some (Open j d n)) by keeps also is one =
        second_alone (next_in g p q (Some (Open j d n)) Opened) (next_in g p q (Some (Open j d n)) Failed) r x
        (subst (λ (m : Move). next_in g p q (Some (Open j d n)) m ≡ Some (r, x)) (sym (same_Some Failed by also)) is) one
    by_second (Some (Label j l n)) by keeps also is one = absurd (none-some by also)
    by_second (Some (Close j d n)) by keeps also is one = absurd (none-some by also)
    by_second (Some (Call j f n)) by keeps also is one = absurd (none-some by also)
    by_second (Some (SplitCall j f n)) by keeps also is one = absurd (none-some by also)
    by_second (Some (Exit f)) by keeps also is one = absurd (none-some by also)
    by_second None by keeps also is one = absurd (none-some by also)

-- a pair leads where its one move does
pub only_leads : (g : Game) (p q r x : ℕ) (by : Move) → keeps_state (slice_get g.spots p) ≡ false → IsMoveIn (slice_get g.spots p) by → next_at g p q by ≡ Some (r, x)
    → is_sole g p q ≡ true → IsOnly g p q r x
only_leads g p q r x by changing moved leads sole =
    let o = slice_get g.spots p in
    let left = not_left (is_left_in g q o) (option_map pair_in (leads_in g p q [] o by)) (r, x) leads in
    let bad = neither (bad_in g q o) (is_call_in o || is_exit_in o) left.0 in
    let call = or_middle (bad_in g q o) (is_call_in o) (is_exit_in o) left.0 in
    let exit = or_end (bad_in g q o) (is_call_in o) (is_exit_in o) left.0 in (
      call,
      λ h e. sym (by_moves g h p q e o bad call exit)
          ∙ elim moved [
            | inl first ↦ by_first h e g p q r x o changing (subst (λ (m : Move). next_in g p q o m ≡ Some (r, x)) (sym first) leads) sole
            | inr second ↦ by_second h e g p q r x o by changing second leads sole
          ],
    )

-- its bound is one more than the height of the pair to which that leads
pub sole_told : (g : Game) (heights : ℕ → ℕ → ℕ → ℕ) (i p q promise r x height : ℕ) → IsOnly g p q r x → heights i r x ≡ height → 0 < height → IsBound g heights i p q promise (height + 1)
sole_told g heights i p q promise r x height only taken some n =
    more_tells n height some ∙ ap (λ (k : ℕ). holds_by n k) (sym taken) ∙ sym (only.1 (implied heights i n) (has promise))

-- a list is that of one pair alone
list_same : (g : Game) (flags : List Bool) (s y r x : ℕ) → is_flagged flags s ≡ true → is_flagged flags r ≡ true → y < g.states.count → x < g.states.count
    → list_of g flags s y ≡ list_of g flags r x → (s ≡ r) × (y ≡ x)
list_same g flags s y r x ms mr ly lx e =
    let n = g.states.count in
    let a = rank flags s in
    let b = rank flags r in
    let swapped : n * a ≡ a * n = omega arith in
    let swapped_too : n * b ≡ b * n = omega arith in
    let same : a ≡ b = elim (cases_lt a b) [
      | inl lt ↦ absurd (let less = mul-add-lt a n y b lt ly in omega (arith, less, e, swapped_too))
      | inr ge ↦ elim (cases_lt b a) [ inl lt ↦ absurd (let less = mul-add-lt b n x a lt lx in omega (arith, less, e, swapped)) | inr le ↦ omega (arith, ge, le) ]
    ] in
    let rows = ap (λ (k : ℕ). k * n) same in
    (same_from_rank flags s r ms mr same, omega (arith, e, rows))

empty_at : (many l : ℕ) → list_at (replicate many []) l ≡ []
empty_at many l = elim (cases_lt l many) [
  | inl lt ↦ get_or-replicate many l [] [] lt
  | inr ge ↦ get_or_past (replicate many []) l [] (let e = length-replicate {A = List ℕ} many [] in omega (arith, e, ge))
]

-- nothing stands in empty lists
pub none_there : (many l edge : ℕ) → Contains (list_at (replicate many []) l) edge → ⊥
none_there many l edge h = let lt = h.1 in let none = ap (λ (ys : List ℕ). length ys) (empty_at many l) in omega (arith, lt, none)

-- a pair is put in front of the list of one to which it leads
pub soles_more : (g : Game) (flags : List Bool) (old new : Chained Pair) (p q r x : ℕ) → (is_sole g p q ≡ true → IsOnly g p q r x) → is_flagged flags r ≡ true → x < g.states.count
    → list_of g flags r x < length old.lists → new.lists ≡ with_front old.lists (list_of g flags r x) (length old.values) → new.values ≡ old.values ++ pair_of g p q ∷ []
    → AreSoles g flags old → AreSoles g flags new
soles_more g flags old new p q r x only flagged lx within lists values are s y edge ms ly h =
    let list = list_of g flags s y in
    elim (Contains-with_front old.lists (list_of g flags r x) (length old.values) list edge within (subst (λ (ls : List (List ℕ)). Contains (list_at ls list) edge) lists h)) [
      | inl here ↦
          let same = list_same g flags s y r x ms flagged ly lx here.0 in (
            pair_of g p q,
            ap (λ (vs : List Pair). slice_get vs edge) values ∙ ap (slice_get (old.values ++ pair_of g p q ∷ [])) here.1 ∙ get_last old.values (pair_of g p q),
            λ sole. subst (λ (z : ℕ). IsOnly g p q z y) (sym same.0) (subst (λ (z : ℕ). IsOnly g p q r z) (sym same.1) (only sole)),
          )
      | inr there ↦
          let was = are s y edge ms ly there in
          (was.0, ap (λ (vs : List Pair). slice_get vs edge) values ∙ get_front old.values (pair_of g p q ∷ []) edge was.0 was.1, was.2)
    ]
