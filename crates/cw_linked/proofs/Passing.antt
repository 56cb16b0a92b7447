-- A position of a context is passed over where there is nothing to do.
use Rattle.std.proofs.Common.{◌≡◌, ℕ, List, Bool, true, false, not, ◌||◌, Option, Some, None, suc, refl, sym, ◌∙◌, subst}
use Rattle.std.specs.Prelude.{◌<◌, slice_get}
use Rattle.cw_rights.specs.declared.capabilities.Primitive.TheVariants.{Limit, Enter, Split}
use Rattle.cw_game.specs.declared.spots.Spot.{Spot}
use Rattle.cw_game.specs.declared.spots.Spot.TheVariants.{Visit, Asked, Step, Branch, Label, Open, Close, Call, SplitCall, Exit}
use Rattle.cw_game.specs.Games.{Game, refuses_in, bad_in, Promise, holds_in}
use Rattle.cw_game.specs.Pairs.{has, is_call_in, is_exit_in}
use Rattle.cw_solve.specs.declared.contexts.Context.{Context}
use Rattle.cw_product.specs.Routed.{AreRouted}
use Rattle.cw_solve.specs.Rounds.{IsCell}
use Rattle.cw_lemmas.proofs.Truths.{not_both}
use Rattle.cw_linked.specs.Added.{loss_begins_in}
use Rattle.cw_linked.specs.Founds.{Found, implied, tells, IsClosed}
use Rattle.cw_linked.specs.Steps.{IsBound}
use Rattle.cw_linked.proofs.Leading.{in_gives, next_cell}
use Rattle.cw_linked.proofs.Least.{tells_none}

or_true : (b : Bool) → (b || true) ≡ true
or_true true = refl
or_true false = refl

-- Where all later pairs hold, a pair holds that is no call, no label and no exit.
all_hold : (g : Game) (p q : ℕ) (e : Promise) (o : Option Spot) → is_call_in o ≡ false → loss_begins_in o ≡ false → holds_in g (λ r x f. true) p q e o ≡ true
all_hold g p q e None plain quiet = refl
all_hold g p q e (Some (Visit j i a)) plain quiet = refl
all_hold g p q e (Some (Asked j i Split)) plain quiet = rw (or_true (not (g.states.may_grant q Split))) (or_true (not (refuses_in g q Split)))
all_hold g p q e (Some (Asked j i Enter)) plain quiet = rw (or_true (not (g.states.may_grant q Enter))) (or_true (not (refuses_in g q Enter)))
all_hold g p q e (Some (Asked j i (Limit l))) plain quiet = rw (or_true (not (g.states.may_grant q (Limit l)))) (or_true (not (refuses_in g q (Limit l))))
all_hold g p q e (Some (Step n)) plain quiet = refl
all_hold g p q e (Some (Branch m n)) plain quiet = refl
all_hold g p q e (Some (Label j l n)) plain quiet = cc
all_hold g p q e (Some (Open j d n)) plain quiet = refl
all_hold g p q e (Some (Close j d n)) plain quiet = refl
all_hold g p q e (Some (Call j f n)) plain quiet = cc
all_hold g p q e (Some (SplitCall j f n)) plain quiet = cc
all_hold g p q e (Some (Exit f)) plain quiet = cc

-- So in a context in which no cell has a height nothing is missing there.
pub closed_fresh : (g : Game) (functions : ℕ) → AreRouted g functions → (contexts : List Context) (s : Found) (i : ℕ) (c : Context) (p q : ℕ) → c.function < functions
    → IsCell g contexts i c p q → loss_begins_in (slice_get g.spots p) ≡ false → ((r x : ℕ) → IsCell g contexts i c r x → s.height i r x ≡ 0) → IsClosed g s i c p q
closed_fresh g functions routed contexts s i c p q below is quiet fresh none plain n lost =
    absurd (not_both (holds_in g (tells s i n) p q (has c.promise) (slice_get g.spots p))
    (in_gives g (λ r x e. true) (tells s i n) (has c.promise) p q (slice_get g.spots p) plain
    (λ by r m e y. tells_none n (s.height i r.0 r.1) (fresh r.0 r.1 (next_cell g functions routed contexts i c p q by r below is e)))
    (all_hold g p q (has c.promise) (slice_get g.spots p) plain quiet))
    lost)

-- And a pair there that is no call, no exit and not bad isn't told to be lost.
fine_holds : (g : Game) (p q : ℕ) (e : Promise) (o : Option Spot) → is_call_in o ≡ false → is_exit_in o ≡ false → bad_in g q o ≡ false → holds_in g (λ r x f. true) p q e o ≡ true
fine_holds g p q e (Some (Label j l n)) plain inner fine = rw fine refl
fine_holds g p q e (Some (Exit f)) plain inner fine = cc
fine_holds g p q e None plain inner fine = refl
fine_holds g p q e (Some (Visit j i a)) plain inner fine = refl
fine_holds g p q e (Some (Asked j i a)) plain inner fine = all_hold g p q e (Some (Asked j i a)) refl refl
fine_holds g p q e (Some (Step n)) plain inner fine = refl
fine_holds g p q e (Some (Branch m n)) plain inner fine = refl
fine_holds g p q e (Some (Open j d n)) plain inner fine = refl
fine_holds g p q e (Some (Close j d n)) plain inner fine = refl
fine_holds g p q e (Some (Call j f n)) plain inner fine = cc
fine_holds g p q e (Some (SplitCall j f n)) plain inner fine = cc

pub no_bound : (g : Game) (functions : ℕ) → AreRouted g functions → (contexts : List Context) (heights : ℕ → ℕ → ℕ → ℕ) (i : ℕ) (c : Context) (p q : ℕ) → c.function < functions
    → IsCell g contexts i c p q → is_call_in (slice_get g.spots p) ≡ false → is_exit_in (slice_get g.spots p) ≡ false → bad_in g q (slice_get g.spots p) ≡ false
    → ((r x : ℕ) → IsCell g contexts i c r x → heights i r x ≡ 0) → IsBound g heights i p q c.promise 0
no_bound g functions routed contexts heights i c p q below is plain inner fine fresh n =
    tells_none (suc n) 0 refl
    ∙ sym (in_gives g (λ r x e. true) (implied heights i n) (has c.promise) p q (slice_get g.spots p) plain
    (λ by r m e y. tells_none n (heights i r.0 r.1) (fresh r.0 r.1 (next_cell g functions routed contexts i c p q by r below is e)))
    (fine_holds g p q (has c.promise) (slice_get g.spots p) plain inner fine))

-- where neither a label nor an exit stands
pub quiet_spot : (g : Game) (q : ℕ) (o : Option Spot) (s : Spot) → Some s ≡ o → ((x y z : ℕ) → s ≡ Label x y z → ⊥) → ((x : ℕ) → s ≡ Exit x → ⊥) → (bad_in g q o ≡ false) × (is_exit_in o ≡ false)
quiet_spot g q o s is label exit = subst (λ (y : Option Spot). (bad_in g q y ≡ false) × (is_exit_in y ≡ false)) is (by s label exit)
  where
    by : (s : Spot) → ((x y z : ℕ) → s ≡ Label x y z → ⊥) → ((x : ℕ) → s ≡ Exit x → ⊥) → (bad_in g q (Some s) ≡ false) × (is_exit_in (Some s) ≡ false)
    by (Label j l n) label exit = absurd (label j l n refl)
    by (Exit f) label exit = absurd (exit f refl)
    by (Call j f n) label exit = (refl, refl)
    by (SplitCall j f n) label exit = (refl, refl)
    by (Visit j i a) label exit = (refl, refl)
    by (Asked j i a) label exit = (refl, refl)
    by (Step n) label exit = (refl, refl)
    by (Branch m n) label exit = (refl, refl)
    by (Open j d n) label exit = (refl, refl)
    by (Close j d n) label exit = (refl, refl)
