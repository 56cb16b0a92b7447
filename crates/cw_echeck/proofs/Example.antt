-- A program with a call that may be split, its game, and a strategy that meets the conditions: the laws aren't empty. The policy wants a
-- label never to be reached with ambient authority, and entering may be refused.
use Rattle.std.proofs.Common.{◌≡◌, ℕ, zero, suc, ◌<◌, List, [], ◌∷◌, Contains, Bool, true, false, ◌&&◌, Some, None, nat_eq, eqb-true, refl, sym, ap, ◌∙◌, subst, ⊎_elim, arith}
use Rattle.std.specs.Prelude.{slice_get}
use Rattle.std.specs.List.{list_all}
use Rattle.std.proofs.lemmas.Option.{none-some, same_Some}
use Rattle.cw_rights.specs.declared.capabilities.Caps.{Caps}
use Rattle.cw_rights.specs.declared.capabilities.Primitive.{Primitive}
use Rattle.cw_rights.specs.declared.capabilities.Primitive.TheVariants.{Limit, Enter, Split}
use Rattle.cw_rights.specs.Capabilities.{applied}
use Rattle.cw_rights.specs.Words.{Word}
use Rattle.cw_rights.specs.Policies.{PlainPolicy, primitives}
use Rattle.cw_certs.specs.declared.moves.Move.TheVariants.{Grant, Refuse, On}
use Rattle.cw_certs.specs.Strategies.{How, Bad, Out, Both, Go, Into, Row, Strategy}
use Rattle.cw_syntax.specs.Frames.{new_frame}
use Rattle.cw_syntax.specs.Plans.{Plain, Call, Label, Stms, end, then, Routine, Plan}
use Rattle.cw_model.specs.Boards.{Problem, may_grant}
use Rattle.cw_model.specs.Plays.{Beats}
use Rattle.cw_game.specs.declared.spots.Spot.{Spot}
use Rattle.cw_game.specs.declared.spots.Spot.TheVariants.{Step, Exit, Visit as VisitSpot, Asked as AskedSpot, Label as LabelSpot, Call as CallSpot, SplitCall}
use Rattle.cw_game.specs.Games.{States, AreStates, letter_of, Game, IsLost}
use Rattle.cw_game.specs.Places.{At, IsLaidOut, HasRoutines}
use Rattle.cw_game.specs.Conditions.{fault_in, strategy_fault, IsGoodStrategy}
use Rattle.cw_game.specs.Standing.{IsGameOf}
use Rattle.cw_game.proofs.Reached.{are_reached}
use Rattle.cw_echeck.specs.Beating.{IsStartRow}
use Rattle.cw_echeck.proofs.LastLetters.{LetterTest, bad_words, is_bad, AreOfTests, bad_last, last_bad}
use Rattle.cw_echeck.proofs.Laws.{good_starts, good_beat, good_lose}
use Rattle.std.proofs.lemmas.Bool.{and_parts as parts}

abbrev tests : List LetterTest
tests = record { label = 0; wanted = true } ∷ []

-- the label `a`, and the function `f`, which may be called in a process of its own
abbrev policy : PlainPolicy
policy = record { descriptors = []; limits = []; refuse_limit = false; refuse_enter = true; refuse_split = false; split = (102 ∷ []) ∷ []; labels = (97 ∷ []) ∷ []; rules = record { name = []; bad = bad_words (record { label = 0; wanted = true }) } ∷ []; stop = false; format = 1; detached = [] }

of_tests : AreOfTests policy tests
of_tests = refl

-- nothing is limited here, and every other primitive may be granted
abbrev is_granted : Primitive → Bool
is_granted (Limit limit) = false
is_granted _ = true

-- state 0 has ambient authority, state 1 has none
abbrev state_with : Bool → ℕ
state_with true = 0
state_with false = 1

abbrev after_grant : ℕ → Primitive → ℕ
after_grant q Enter = 1
after_grant q _ = q

abbrev states : States
states = record { count = 2; start = 0; granted = after_grant; opened = λ q d. q; closed = λ q d. q; lettered = λ q l. q; bad = λ q l. is_bad tests l (nat_eq q 0); may_grant = λ q a. is_granted a; with_rights = λ x q. q }

abbrev Means : ℕ → Word → Caps → Type 0
Means q word caps = q ≡ state_with caps.amb

within : (amb : Bool) → state_with amb < 2
within true = omega arith
within false = omega arith

has_flag : (amb : Bool) → nat_eq (state_with amb) 0 ≡ amb
has_flag true = refl
has_flag false = refl

flag_is : (q : ℕ) (amb : Bool) → q ≡ state_with amb → nat_eq q 0 ≡ amb
flag_is q amb e = ap (λ y. nat_eq y 0) e ∙ has_flag amb

no_limit : (a : Primitive) → Contains (primitives policy true) a → is_granted a ≡ true
no_limit a (zero, lt, e) = ap is_granted (sym e)
no_limit a (suc zero, lt, e) = ap is_granted (sym e)
no_limit a (suc (suc k), lt, e) = absurd (omega (arith, lt))

grants_is : (c : Caps) (a : Primitive) → is_granted a ≡ true → is_granted a ≡ may_grant c a
grants_is c (Limit l) e = cc
grants_is c Enter e = refl
grants_is c Split e = refl

granted_is : (q : ℕ) (c : Caps) (a : Primitive) → is_granted a ≡ true → q ≡ state_with c.amb → after_grant q a ≡ state_with (applied c a).amb
granted_is q c (Limit l) e h = cc
granted_is q c Enter e h = refl
granted_is q c Split e h = h

-- main: a call of the other function, then the label
abbrev main_body : Stms
main_body = then (Call 1 1 (record { number = 1; split = true; result = None })) (then (Label 2 2 2 0 (Plain 3)) end)

abbrev plan : Plan
plan = record { routines = record { mark = 0; seam = 0; body = main_body } ∷ (record { mark = 0; seam = 3; body = end } ∷ []); main = 0 }

abbrev spots : List Spot
spots = VisitSpot 0 0 Enter ∷ AskedSpot 0 0 Enter ∷ Step 3 ∷ VisitSpot 1 0 Enter ∷ AskedSpot 1 0 Enter ∷ VisitSpot 1 1 Split
    ∷ AskedSpot 1 1 Split ∷ CallSpot 1 1 9 ∷ SplitCall 1 1 9 ∷ VisitSpot 2 0 Enter ∷ AskedSpot 2 0 Enter ∷ LabelSpot 2 0 12
    ∷ Step 13 ∷ Exit 0 ∷ VisitSpot 3 0 Enter ∷ AskedSpot 3 0 Enter ∷ Step 17 ∷ Exit 1 ∷ []

right : AreStates policy spots states Means
right = record {
  begins = refl;
  within = λ q w c h. subst (λ y. y < 2) (sym h) (within c.amb);
  grants = λ q w c a at h. grants_is c a (no_limit a at);
  granted = λ q w c a at h may. granted_is q c a (no_limit a at) h;
  opened = λ q w c d at lt h. absurd (omega (arith, lt));
  closed = λ q w c d at lt h. absurd (omega (arith, lt));
  bad = λ q w c l at h. (
    (λ e. last_bad policy tests of_tests w (letter_of l c) (sym (ap (is_bad tests l) (flag_is q c.amb h)) ∙ e)),
    (λ b. ap (is_bad tests l) (flag_is q c.amb h) ∙ bad_last policy tests of_tests w (letter_of l c) b),
  );
  lettered = λ q w c l at h fine. h;
  returned = λ x q w v c k h h2. h2;
}

abbrev entries : ℕ → ℕ
entries zero = 0
entries (suc f) = 14

abbrev exits : ℕ → ℕ
exits zero = 13
exits (suc f) = 17

abbrev game : Game
game = record { spots = spots; entry = entries; exit = exits; main = 0; policy = policy; states = states }

laid_at : (f : ℕ) (r : Routine) → slice_get plan.routines f ≡ Some r → At spots policy (exits f) (new_frame f r) (entries f)
laid_at zero r e = subst (λ y. At spots policy 13 (new_frame 0 y) 0) (same_Some _ r e) (None, None, (2, (refl, refl, tt, refl), (3, refl, (9, (7, (refl, refl, tt, (refl, refl, refl, refl)), (refl, λ y. refl)), (13, (11, (refl, refl, tt, refl), (12, refl, refl)), (refl, refl, refl, refl, refl))))))
laid_at (suc zero) r e = subst (λ y. At spots policy 17 (new_frame 1 y) 14) (same_Some _ r e) (None, None, (16, (refl, refl, tt, refl), (17, refl, (refl, refl, refl, refl, refl))))
laid_at (suc (suc f)) r e = absurd (none-some r e)

laid : IsLaidOut plan game
laid = record { main = refl; functions = laid_at }

-- only the other function is called
abbrev called : Spot → ℕ
called (CallSpot j f n) = f
called (SplitCall j f n) = f
called _ = 1

each_called : (list : List Spot) → list_all (λ s. nat_eq (called s) 1) list ≡ true → (p : ℕ) (s : Spot) → slice_get list p ≡ Some s → called s ≡ 1
each_called [] h p s e = absurd (none-some s e)
each_called (x ∷ list) h zero s e = ap called (sym (same_Some x s e)) ∙ eqb-true (called x) 1 (parts (nat_eq (called x) 1) (list_all (λ s. nat_eq (called s) 1) list) h).0
each_called (x ∷ list) h (suc p) s e = each_called list (parts (nat_eq (called x) 1) (list_all (λ s. nat_eq (called s) 1) list) h).1 p s e

other : (f : ℕ) → f ≡ 1 → (r : Routine) × (slice_get plan.routines f ≡ Some r)
other f e = subst (λ y. (r : Routine) × (slice_get plan.routines y ≡ Some r)) (sym e) (record { mark = 0; seam = 3; body = end }, refl)

has_routines : HasRoutines plan game
has_routines = record {
  main = (record { mark = 0; seam = 0; body = main_body }, refl);
  called = λ p j f n e. other f (⊎_elim (λ y. each_called spots refl p (CallSpot j f n) y) (λ y. each_called spots refl p (SplitCall j f n) y) e);
}

abbrev problem : Problem
problem = record { plan = plan; policy = policy }

is_game : IsGameOf problem game
is_game = record { policy = refl; states = are_reached policy spots states Means right; laid = laid; routines = has_routines }

abbrev row : ℕ → ℕ → How → Row
row p aim how = record { pos = p; state = 0; aim = aim; how = how }

-- Enter is refused wherever it is tried, a split is granted, and the other function may end in state 0. The rows are first those of the
-- label, then those of the other function, then those of `main` up to the call.
abbrev rows : List Row
rows = row 11 0 Bad ∷ row 10 0 (Go Refuse 0) ∷ row 9 0 (Both 0 1)
    ∷ row 17 1 Out ∷ row 16 1 (Go On 3) ∷ row 15 1 (Go Refuse 4) ∷ row 14 1 (Both 4 5)
    ∷ row 8 0 (Into 6 ((0, 2) ∷ [])) ∷ row 7 0 (Into 6 ((0, 2) ∷ [])) ∷ row 6 0 (Go Grant 7) ∷ row 5 0 (Both 8 9)
    ∷ row 4 0 (Go Refuse 10) ∷ row 3 0 (Both 10 11) ∷ row 2 0 (Go On 12) ∷ row 1 0 (Go Refuse 13) ∷ row 0 0 (Both 13 14) ∷ []

abbrev strategy : Strategy
strategy = record { states = 2; rows = rows }

-- it meets the eight conditions
good : IsGoodStrategy game strategy
good = refl

-- so it beats every weaver of this program from its start row
start : (row : ℕ) × IsStartRow game strategy row
start = good_starts game strategy good

beats : Beats problem strategy start.0
beats = good_beat problem game strategy start.0 is_game good start.1

loses : IsLost game 0 0 (λ x. true)
loses = good_lose problem game strategy is_game good

-- Where the weaver may stop after a refusal it answers the first refusal so, and the strategy fails.
abbrev stopping : Game
stopping = record game { policy = record policy { stop = true } }

needs_another_move : strategy_fault stopping strategy ≡ Some (fault_in 1 5)
needs_another_move = refl

-- A row that names itself, a call without a row after its return, a row for another exit state, a label that isn't bad, a state that is none:
-- none of these meets the conditions.
names_itself : strategy_fault game (record { states = 2; rows = row 10 0 (Go Refuse 0) ∷ [] }) ≡ Some (fault_in 0 1)
names_itself = refl

needs_backs : strategy_fault game (record { states = 2; rows = row 17 1 Out ∷ row 16 1 (Go On 0) ∷ row 15 1 (Go Refuse 1) ∷ row 14 1 (Both 1 2) ∷ row 7 0 (Into 3 []) ∷ [] }) ≡ Some (fault_in 4 7)
needs_backs = refl

needs_bad : strategy_fault game (record { states = 2; rows = record { pos = 11; state = 1; aim = 0; how = Bad } ∷ [] }) ≡ Some (fault_in 0 2)
needs_bad = refl

needs_states : strategy_fault game (record { states = 2; rows = record { pos = 11; state = 2; aim = 0; how = Bad } ∷ [] }) ≡ Some (fault_in 0 1)
needs_states = refl

needs_a_start : strategy_fault game (record { states = 2; rows = row 11 0 Bad ∷ [] }) ≡ Some (fault_in 1 8)
needs_a_start = refl
