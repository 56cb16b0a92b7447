-- What stands in a list of cells, what holds at the end of a function, and where what holds is read off the moves.
use Rattle.std.proofs.Common.{◌≡◌, ℕ, List, Bool, true, false, ◌||◌, Option, Some, refl, sym, ap, ◌∙◌, subst}
use Rattle.std.specs.Prelude.{slice_get, slice_index, nat_eq}
use Rattle.std.proofs.lemmas.Bool.{eq-eqb, ne_eqb, false≢true}
use Rattle.cw_game.specs.declared.spots.Spot.{Spot}
use Rattle.cw_game.specs.declared.spots.Spot.TheVariants.{Visit, Asked, Step, Branch, Label, Open, Close, Call, SplitCall, Exit}
use Rattle.cw_game.specs.Games.{Game, bad_in, weavers_in}
use Rattle.cw_game.specs.Pairs.{is_call_in, is_exit_in}
use Rattle.cw_solve.specs.declared.contexts.Context.{Context}
use Rattle.cw_solve.specs.Rounds.{slot}
use Rattle.cw_linked.specs.Works.{function_in, index_at, value_at}

-- where the value of a cell stands
pub index_is : (g : Game) (contexts : List Context) (i : ℕ) (c : Context) (p q : ℕ) → slice_get contexts i ≡ Some c → index_at g contexts i p q ≡ slot g contexts i c.function p q
index_is g contexts i c p q at = ap (λ (o : Option Context). slot g contexts i (function_in o) p q) at

pub read_value : (g : Game) (contexts : List Context) (values : List ℕ) (i : ℕ) (c : Context) (p q k index : ℕ) → slice_get contexts i ≡ Some c → index ≡ slot g contexts i c.function p q
    → k ≡ slice_index values index → k ≡ value_at g contexts values i p q
read_value g contexts values i c p q k index at e is = is ∙ ap (slice_index values) (e ∙ sym (index_is g contexts i c p q at))

-- the end of a function holds where it is the end of `main`, and elsewhere where its state is promised
pub main_ends : (f main : ℕ) (held : Bool) → f ≡ main → true ≡ (nat_eq f main || held)
main_ends f main held is = sym (ap (λ (b : Bool). b || held) (eq-eqb f main is))

pub other_ends : (f main : ℕ) (held : Bool) → (f ≡ main → ⊥) → held ≡ (nat_eq f main || held)
other_ends f main held other = sym (ap (λ (b : Bool). b || held) (ne_eqb f main other))

-- where a visit stands
pub plain_visit : (g : Game) (q : ℕ) (o : Option Spot) → weavers_in o ≡ true → (bad_in g q o ≡ false) × (is_call_in o ≡ false) × (is_exit_in o ≡ false)
plain_visit g q (Some (Visit j i a)) w = (refl, refl, refl)
plain_visit g q o w = absurd (false≢true w)

-- where neither a label, a call nor an exit stands
pub plain_spot : (g : Game) (q : ℕ) (o : Option Spot) (s : Spot) → Some s ≡ o
    → ((x y z : ℕ) → s ≡ Label x y z → ⊥) → ((x y z : ℕ) → s ≡ Call x y z → ⊥) → ((x y z : ℕ) → s ≡ SplitCall x y z → ⊥) → ((x : ℕ) → s ≡ Exit x → ⊥)
    → (bad_in g q o ≡ false) × (is_call_in o ≡ false) × (is_exit_in o ≡ false)
plain_spot g q o s is label call split exit = subst (λ (y : Option Spot). (bad_in g q y ≡ false) × (is_call_in y ≡ false) × (is_exit_in y ≡ false)) is (by s label call split exit)
  where
    by : (s : Spot) → ((x y z : ℕ) → s ≡ Label x y z → ⊥) → ((x y z : ℕ) → s ≡ Call x y z → ⊥) → ((x y z : ℕ) → s ≡ SplitCall x y z → ⊥) → ((x : ℕ) → s ≡ Exit x → ⊥)
        → (bad_in g q (Some s) ≡ false) × (is_call_in (Some s) ≡ false) × (is_exit_in (Some s) ≡ false)
    by (Label j l n) label call split exit = absurd (label j l n refl)
    by (Call j f n) label call split exit = absurd (call j f n refl)
    by (SplitCall j f n) label call split exit = absurd (split j f n refl)
    by (Exit f) label call split exit = absurd (exit f refl)
    by (Visit j i a) label call split exit = (refl, refl, refl)
    by (Asked j i a) label call split exit = (refl, refl, refl)
    by (Step n) label call split exit = (refl, refl, refl)
    by (Branch m n) label call split exit = (refl, refl, refl)
    by (Open j d n) label call split exit = (refl, refl, refl)
    by (Close j d n) label call split exit = (refl, refl, refl)
