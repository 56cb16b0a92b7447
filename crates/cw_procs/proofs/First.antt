-- The first process at which it is the weaver's turn.
use Rattle.std.proofs.Common.{◌≡◌, ◌<◌, ℕ, zero, suc, [], ◌∷◌, Bool, true, false, cond, Option, Some, None, option_map, refl, sym, ap, ◌∙◌, subst, arith}
use Rattle.std.specs.Prelude.{slice_get}
use Rattle.std.proofs.lemmas.Option.{none-some, same_Some}
use Rattle.cw_model.specs.Boards.{Phase, Visit, Refused, Asked, Free, FreeSplit, Over, Weaver, Environment, turn_of}
use Rattle.cw_model.specs.Runs.{State}
use Rattle.cw_worlds.specs.Worlds.{World}
use Rattle.cw_procs.specs.Steps.{is_weavers_in, weavers_first}

pub turn_weavers : (phase : Phase) → turn_of phase ≡ Some Weaver → is_weavers_in phase ≡ true
turn_weavers (Visit i a later) e = refl
turn_weavers (Refused i a later) e = refl
turn_weavers (Asked i a later) e = let k = same_Some Environment Weaver e in cc
turn_weavers Free e = let k = same_Some Environment Weaver e in cc
turn_weavers FreeSplit e = let k = same_Some Environment Weaver e in cc
turn_weavers Over e = absurd (none-some Weaver e)

pub weavers_turn : (phase : Phase) → is_weavers_in phase ≡ true → turn_of phase ≡ Some Weaver
weavers_turn (Visit i a later) e = refl
weavers_turn (Refused i a later) e = refl
weavers_turn _ e = cc

found : (first : Bool) (o : Option ℕ) (j : ℕ) → cond first (Some 0) (option_map (λ i. suc i) o) ≡ Some (suc j) → (first ≡ false) × (o ≡ Some j)
found true o j e = let k = same_Some 0 (suc j) e in cc
found false None j e = absurd (none-some (suc j) e)
found false (Some i) j e = let k = same_Some (suc i) (suc j) e in (refl, cc)

found_here : (first : Bool) (o : Option ℕ) → cond first (Some 0) (option_map (λ i. suc i) o) ≡ Some 0 → first ≡ true
found_here true o e = refl
found_here false None e = absurd (none-some 0 e)
found_here false (Some i) e = let k = same_Some (suc i) 0 e in cc

-- it is at it
pub first_is : (w : World) (j : ℕ) (s : State) → weavers_first w ≡ Some j → slice_get w j ≡ Some s → is_weavers_in s.board.phase ≡ true
first_is [] j s e g = absurd (none-some s g)
first_is (x ∷ w) zero s e g =
    subst (λ (z : State). is_weavers_in z.board.phase ≡ true) (same_Some x s g) (found_here (is_weavers_in x.board.phase) (weavers_first w) e)
first_is (x ∷ w) (suc j) s e g = first_is w j s (found (is_weavers_in x.board.phase) (weavers_first w) j e).1 g

-- none of these is at it
abbrev pub NoneBefore : World → ℕ → Type 0
NoneBefore w i = (k : ℕ) (z : State) → k < i → slice_get w k ≡ Some z → is_weavers_in z.board.phase ≡ false

abbrev pub AllRest : World → Type 0
AllRest w = (k : ℕ) (z : State) → slice_get w k ≡ Some z → is_weavers_in z.board.phase ≡ false

-- and the first one is found
pub first_at : (w : World) (i : ℕ) (s : State) → slice_get w i ≡ Some s → is_weavers_in s.board.phase ≡ true → NoneBefore w i → weavers_first w ≡ Some i
first_at [] i s g e none = absurd (none-some s g)
first_at (x ∷ w) zero s g e none =
    let k : is_weavers_in x.board.phase ≡ true = subst (λ (z : State). is_weavers_in z.board.phase ≡ true) (sym (same_Some x s g)) e in
    ap (λ b. cond b (Some 0) (option_map (λ i. suc i) (weavers_first w))) k
first_at (x ∷ w) (suc i) s g e none =
    ap (λ b. cond b (Some 0) (option_map (λ i. suc i) (weavers_first w))) (none 0 x (omega arith) refl)
    ∙ ap (option_map (λ i. suc i)) (first_at w i s g e (λ k z lt h. none (suc k) z (omega (arith, lt)) h))

pub none_first : (w : World) → AllRest w → weavers_first w ≡ None
none_first [] none = refl
none_first (x ∷ w) none =
    ap (λ b. cond b (Some 0) (option_map (λ i. suc i) (weavers_first w))) (none 0 x refl)
    ∙ ap (option_map (λ i. suc i)) (none_first w (λ k z h. none (suc k) z h))
