-- A program with each kind of loop, jumps and calls in both modes, its game, and a table that meets the conditions: the theorem isn't empty.
use Rattle.std.proofs.Common.{◌≡◌, ℕ, suc, ◌<◌, List, [], ◌∷◌, Contains, Bool, true, false, Some, None, refl, zero, sym, ap, ap₂, ◌∙◌, subst, arith}
use Rattle.std.specs.Prelude.{slice_get}
use Rattle.std.proofs.lemmas.Option.{none-some, same_Some}
use Rattle.cw_core.specs.declared.ids.MemId.{MemId}
use Rattle.cw_core.specs.declared.ids.SeamId.{SeamId}
use Rattle.cw_core.specs.declared.ids.StateId.{StateId}
use Rattle.cw_core.specs.declared.ids.PosId.{PosId}
use Rattle.cw_rights.specs.declared.capabilities.Caps.{Caps}
use Rattle.cw_rights.specs.declared.capabilities.Hold.{Hold}
use Rattle.cw_rights.specs.declared.capabilities.Hold.TheVariants.{Closed, Open as Held}
use Rattle.cw_rights.specs.declared.capabilities.Limit.{Limit as ALimit}
use Rattle.cw_rights.specs.Capabilities.{applied, closed}
use Rattle.cw_rights.specs.declared.capabilities.Primitive.{Primitive}
use Rattle.cw_rights.specs.declared.capabilities.Primitive.TheVariants.{Limit, Enter, Split}
use Rattle.cw_rights.specs.Words.{Word}
use Rattle.cw_rights.specs.Policies.{PlainPolicy, primitives}
use Rattle.cw_certs.specs.declared.rows.AtRow.{AtRow}
use Rattle.cw_certs.specs.Tables.{Table}
use Rattle.cw_syntax.specs.Frames.{new_frame}
use Rattle.cw_syntax.specs.Plans.{Plain, Break, Continue, Return, Open, Close, Call, Group, Label, If, While, Do, For, Stms, end, then, Routine, Plan}
use Rattle.cw_model.specs.Boards.{may_grant, with_opened}
use Rattle.cw_model.specs.Runs.{Sound}
use Rattle.cw_game.specs.declared.spots.Spot.{Spot}
use Rattle.cw_game.specs.declared.spots.Spot.TheVariants.{Step, Branch, Exit, Visit as VisitSpot, Asked as AskedSpot, Label as LabelSpot, Open as OpenSpot, Close as CloseSpot}
use Rattle.cw_game.specs.declared.spots.Spot.TheVariants.{Call as CallSpot, SplitCall}
use Rattle.cw_game.specs.Games.{States, AreStates, Game}
use Rattle.cw_game.specs.Places.{At, IsLaidOut}
use Rattle.cw_game.specs.Closed.{is_closed_table}
use Rattle.cw_game.specs.Conditions.{InMems, InLive, fault_at, table_fault, IsGoodTable}
use Rattle.cw_wcheck.proofs.Sounds.{sound}

-- A descriptor that starts closed, and a limit on it.
abbrev limit : ALimit
limit = record { descriptor = 0; keep = record { 0 = 1 } }

abbrev policy : PlainPolicy
policy =
    record {
      descriptors = record { name = 120 ∷ []; number = None; rights = record { 0 = 1 } } ∷ [];
      limits = limit ∷ [];
      refuse_limit = false;
      refuse_enter = true;
      refuse_split = false;
      split = [];
      labels = [];
      rules = [];
      stop = false;
      format = 1;
      detached = [];
    }

-- A state is 0 or 1 with ambient authority, 2 or 3 without, and odd where the descriptor is open.
abbrev caps : Bool → Hold → Caps
caps amb held = record { amb = amb; holds = held ∷ (Closed ∷ (Closed ∷ (Closed ∷ (Closed ∷ (Closed ∷ (Closed ∷ (Closed ∷ []))))))) }

abbrev caps_of : ℕ → Caps
caps_of zero = caps true Closed
caps_of (suc zero) = caps true (Held (record { 0 = 1 }))
caps_of (suc (suc zero)) = caps false Closed
caps_of (suc (suc (suc n))) = caps false (Held (record { 0 = 1 }))

abbrev entered : ℕ → ℕ
entered zero = 2
entered (suc zero) = 3
entered (suc (suc n)) = suc (suc n)

abbrev after_grant : ℕ → Primitive → ℕ
after_grant q Enter = entered q
after_grant q _ = q

abbrev after_open : ℕ → ℕ
after_open zero = 1
after_open (suc zero) = 1
after_open (suc (suc n)) = 3

abbrev after_close : ℕ → ℕ
after_close zero = 0
after_close (suc zero) = 0
after_close (suc (suc n)) = 2

abbrev states : States
states =
    record {
      count = 4;
      start = 0;
      granted = after_grant;
      opened = λ q d. after_open q;
      closed = λ q d. after_close q;
      lettered = λ q l. q;
      bad = λ q l. false;
      may_grant = λ q a. may_grant
          (caps_of q) a;
      with_rights = λ x q. q;
    }

abbrev Means : ℕ → Word → Caps → Type 0
Means q word c = (q < 4) × (c ≡ caps_of q)

only_limit : (l : ALimit) → Contains (primitives policy true) (Limit l) → limit ≡ l
only_limit l (zero, lt, e) = ap (λ a. limit_in a) e
  where
    limit_in : Primitive → ALimit
    limit_in (Limit l) = l
    limit_in _ = limit
only_limit l (suc zero, lt, e) = cc
only_limit l (suc (suc zero), lt, e) = cc
only_limit l (suc (suc (suc k)), lt, e) = absurd (omega (arith, lt))

limited : (q : ℕ) → q < 4 → may_grant (caps_of q) (Limit limit) ≡ true → applied (caps_of q) (Limit limit) ≡ caps_of q
limited zero lt may = cc
limited (suc zero) lt may = refl
limited (suc (suc zero)) lt may = cc
limited (suc (suc (suc n))) lt may = refl

entered_is : (q : ℕ) → q < 4 → (entered q < 4) × (applied (caps_of q) Enter ≡ caps_of (entered q))
entered_is zero lt = (omega arith, refl)
entered_is (suc zero) lt = (omega arith, refl)
entered_is (suc (suc zero)) lt = (omega arith, refl)
entered_is (suc (suc (suc n))) lt = (lt, refl)

granted_is : (q : ℕ) (c : Caps) (a : Primitive) → Contains (primitives policy true) a → q < 4 → c ≡ caps_of q → may_grant c a ≡ true → (after_grant q a < 4) × (applied c a ≡ caps_of (after_grant q a))
granted_is q c Enter at lt e may = let h = entered_is q lt in (h.0, ap (λ y. applied y Enter) e ∙ h.1)
granted_is q c Split at lt e may = (lt, e)
granted_is q c (Limit l) at lt e may =
    let o = only_limit l at in
    (lt, ap₂ (λ y z. applied y (Limit z)) e (sym o) ∙ limited q lt (ap₂ (λ y z. may_grant y (Limit z)) (sym e) o ∙ may))

opened_is : (q d : ℕ) → d < 1 → q < 4 → (after_open q < 4) × (with_opened (caps_of q) d (slice_get policy.descriptors d) ≡ caps_of (after_open q))
opened_is zero zero one lt = (omega arith, refl)
opened_is (suc zero) zero one lt = (omega arith, refl)
opened_is (suc (suc zero)) zero one lt = (omega arith, refl)
opened_is (suc (suc (suc n))) zero one lt = (omega arith, refl)
opened_is q (suc d) one lt = absurd (omega (arith, one))

closed_is : (q d : ℕ) → d < 1 → q < 4 → (after_close q < 4) × (closed (caps_of q) d ≡ caps_of (after_close q))
closed_is zero zero one lt = (omega arith, refl)
closed_is (suc zero) zero one lt = (omega arith, refl)
closed_is (suc (suc zero)) zero one lt = (omega arith, refl)
closed_is (suc (suc (suc n))) zero one lt = (omega arith, refl)
closed_is q (suc d) one lt = absurd (omega (arith, one))

-- main: a label; a loop that is left or begun again; an open; a loop with init and step and no condition, which calls in a process of its own and is left.
abbrev main_body : Stms
main_body =
    then (Label 1 1 1 0 (Plain 2))
    (then (While 3 (Group (then (If 4 (Break 5) (Continue 6)) end)))
    (then (Open 7 2 0)
    (then (For 8 (Some 9) false true (Group (then (Call 10 3 (record { number = 1; split = true; result = None })) (then (Break 11) end)))) end)))

-- the other: a close, a loop that calls the function itself, a return
abbrev other_body : Stms
other_body = then (Close 12 5 0) (then (Do 13 (If 16 (Call 14 6 (record { number = 1; split = false; result = None })) (Plain 17))) (then (Return 15) end))

abbrev plan : Plan
plan = record { routines = record { mark = 0; seam = 0; body = main_body } ∷ (record { mark = 0; seam = 4; body = other_body } ∷ []); main = 0 }

abbrev spots : List Spot
spots = VisitSpot 0 0 (Limit limit) ∷ AskedSpot 0 0 (Limit limit) ∷ VisitSpot 0 1 Enter ∷ AskedSpot 0 1 Enter ∷ Step 5 ∷ VisitSpot 1 0 (Limit limit)
    ∷ AskedSpot 1 0 (Limit limit) ∷ VisitSpot 1 1 Enter ∷ AskedSpot 1 1 Enter ∷ LabelSpot 1 0 10 ∷ Step 11 ∷ Branch 12 15 ∷ Branch 13 14 ∷ Step 15
    ∷ Step 11 ∷ OpenSpot 2 0 16 ∷ Step 17 ∷ Step 18 ∷ VisitSpot 3 0 (Limit limit) ∷ AskedSpot 3 0 (Limit limit) ∷ VisitSpot 3 1 Enter
    ∷ AskedSpot 3 1 Enter ∷ VisitSpot 3 2 Split ∷ AskedSpot 3 2 Split ∷ CallSpot 3 1 26 ∷ SplitCall 3 1 26 ∷ Step 28 ∷ Step 17 ∷ Exit 0
    ∷ VisitSpot 4 0 (Limit limit) ∷ AskedSpot 4 0 (Limit limit) ∷ VisitSpot 4 1 Enter ∷ AskedSpot 4 1 Enter ∷ Step 34 ∷ CloseSpot 5 0 35
    ∷ Branch 36 41 ∷ VisitSpot 6 0 (Limit limit) ∷ AskedSpot 6 0 (Limit limit) ∷ VisitSpot 6 1 Enter ∷ AskedSpot 6 1 Enter ∷ CallSpot 6 1 42 ∷ Step 42
    ∷ Branch 35 43 ∷ Step 44 ∷ Exit 1 ∷ []

right : AreStates policy spots states Means
right = record {
  begins = (omega arith, refl);
  within = λ q w c h. h.0;
  grants = λ q w c a at h. ap (λ y. may_grant y a) (sym h.1);
  granted = λ q w c a at h may. granted_is q c a at h.0 h.1 may;
  opened = λ q w c d at one h. let k = opened_is q d one h.0 in (k.0, ap (λ y. with_opened y d (slice_get policy.descriptors d)) h.1 ∙ k.1);
  closed = λ q w c d at one h. let k = closed_is q d one h.0 in (k.0, ap (λ y. closed y d) h.1 ∙ k.1);
  bad = λ q w c l at h. (λ e. cc, λ b. absurd (none-some b.1.1 b.1.2));
  lettered = λ q w c l at h fine. h;
  returned = λ x q w v c k h h2. h2;
}

abbrev entries : ℕ → ℕ
entries zero = 0
entries (suc f) = 29

abbrev exits : ℕ → ℕ
exits zero = 28
exits (suc f) = 44

abbrev game : Game
game = record { spots = spots; entry = entries; exit = exits; main = 0; policy = policy; states = states }

laid_at : (f : ℕ) (r : Routine) → slice_get plan.routines f ≡ Some r → At spots policy (exits f) (new_frame f r) (entries f)
laid_at zero r e =
    subst (λ y. At spots policy 28 (new_frame 0 y) 0) (same_Some _ r e) (
      None,
      None,
      (
        4,
        (refl, refl, tt, (refl, refl, tt, refl)),
        (
          5,
          refl,
          (
            11,
            (9, (refl, refl, tt, (refl, refl, tt, refl)), (10, refl, refl)),
            (
              15,
              (12, refl, (11, (13, 14, refl, (15, refl, refl), (11, refl, refl)), refl)),
              (
                16,
                (omega arith, refl),
                (
                  28,
                  (17, 18, 27, refl, refl, refl, (26, (24, (refl, refl, tt, (refl, refl, tt, (refl, refl, refl, refl))), (refl, λ y. refl)), (27, (28, refl, refl), refl))),
                  (refl, refl, refl, refl, refl),
                ),
              ),
            ),
          ),
        ),
      ),
    )
laid_at (suc zero) r e =
    subst (λ y. At spots policy 44 (new_frame 1 y) 29) (same_Some _ r e) (
      None,
      None,
      (
        33,
        (refl, refl, tt, (refl, refl, tt, refl)),
        (34, refl, (35, (omega arith, refl), (43, (42, refl, (36, 41, refl, (40, (refl, refl, tt, (refl, refl, tt, refl)), (refl, λ y. cc)), refl)), (44, refl, (refl, refl, refl, refl, refl))))),
      ),
    )
laid_at (suc (suc f)) r e = absurd (none-some r e)

laid : IsLaidOut plan game
laid = record { main = refl; functions = laid_at }

abbrev mem : ℕ → MemId
mem n = record { 0 = n }

abbrev seam : ℕ → SeamId
seam n = record { 0 = n }

abbrev state : ℕ → StateId
state n = record { 0 = n }

abbrev live_at : ℕ → ℕ → PosId × MemId
live_at p m = (record { 0 = p }, mem m)

abbrev meant : ℕ → StateId × ℕ
meant q = (state q, 15)

abbrev row : ℕ → ℕ → ℕ → AtRow
row j m after = record { seam = seam j; mem = mem m; after = mem after }

-- The memories are the states. Enter is tried at the start and the limit at the label and before the call, which is split off.
abbrev table : Table
table = record {
  states = 4;
  start = mem 0;
  mems = meant 0 ∷ (meant 1 ∷ (meant 2 ∷ (meant 3 ∷ [])));
  live = live_at 0 0 ∷ live_at 2 0 ∷ live_at 3 0 ∷ live_at 4 0 ∷ live_at 4 2 ∷ live_at 5 0 ∷ live_at 5 2 ∷ live_at 6 0 ∷ live_at 6 2 ∷ live_at 7 0
      ∷ live_at 7 2 ∷ live_at 9 0 ∷ live_at 9 2 ∷ live_at 10 0 ∷ live_at 10 2 ∷ live_at 11 0 ∷ live_at 11 2 ∷ live_at 12 0 ∷ live_at 12 2
      ∷ live_at 13 0 ∷ live_at 13 2 ∷ live_at 14 0 ∷ live_at 14 2 ∷ live_at 15 0 ∷ live_at 15 2 ∷ live_at 16 0 ∷ live_at 16 1 ∷ live_at 16 2
      ∷ live_at 16 3 ∷ live_at 17 0 ∷ live_at 17 1 ∷ live_at 17 2 ∷ live_at 17 3 ∷ live_at 18 0 ∷ live_at 18 1 ∷ live_at 18 2 ∷ live_at 18 3
      ∷ live_at 19 0 ∷ live_at 19 1 ∷ live_at 19 2 ∷ live_at 19 3 ∷ live_at 20 0 ∷ live_at 20 1 ∷ live_at 20 2 ∷ live_at 20 3 ∷ live_at 22 0
      ∷ live_at 22 1 ∷ live_at 22 2 ∷ live_at 22 3 ∷ live_at 23 0 ∷ live_at 23 1 ∷ live_at 23 2 ∷ live_at 23 3 ∷ live_at 25 0 ∷ live_at 25 1
      ∷ live_at 25 2 ∷ live_at 25 3 ∷ live_at 26 0 ∷ live_at 26 1 ∷ live_at 26 2 ∷ live_at 26 3 ∷ live_at 28 0 ∷ live_at 28 1 ∷ live_at 28 2
      ∷ live_at 28 3 ∷ live_at 29 0 ∷ live_at 29 1 ∷ live_at 29 2 ∷ live_at 29 3 ∷ live_at 31 0 ∷ live_at 31 1 ∷ live_at 31 2 ∷ live_at 31 3
      ∷ live_at 33 0 ∷ live_at 33 1 ∷ live_at 33 2 ∷ live_at 33 3 ∷ live_at 34 0 ∷ live_at 34 1 ∷ live_at 34 2 ∷ live_at 34 3 ∷ live_at 35 0
      ∷ live_at 35 2 ∷ live_at 36 0 ∷ live_at 36 2 ∷ live_at 38 0 ∷ live_at 38 2 ∷ live_at 40 0 ∷ live_at 40 2 ∷ live_at 41 0 ∷ live_at 41 2
      ∷ live_at 42 0 ∷ live_at 42 2 ∷ live_at 43 0 ∷ live_at 43 2 ∷ live_at 44 0 ∷ live_at 44 2 ∷ [];
  tries = record { seam = seam 0; stage = 1; mem = mem 0; granted = Some (mem 2); refused = Some (mem 0) }
      ∷ record { seam = seam 1; stage = 0; mem = mem 0; granted = None; refused = Some (mem 0) }
      ∷ record { seam = seam 1; stage = 0; mem = mem 2; granted = None; refused = Some (mem 2) }
      ∷ record { seam = seam 3; stage = 0; mem = mem 0; granted = None; refused = Some (mem 0) }
      ∷ record { seam = seam 3; stage = 0; mem = mem 1; granted = Some (mem 1); refused = None }
      ∷ record { seam = seam 3; stage = 0; mem = mem 2; granted = None; refused = Some (mem 2) }
      ∷ record { seam = seam 3; stage = 0; mem = mem 3; granted = Some (mem 3); refused = None }
      ∷ record { seam = seam 3; stage = 2; mem = mem 0; granted = Some (mem 0); refused = None }
      ∷ record { seam = seam 3; stage = 2; mem = mem 1; granted = Some (mem 1); refused = None }
      ∷ record { seam = seam 3; stage = 2; mem = mem 2; granted = Some (mem 2); refused = None }
      ∷ record { seam = seam 3; stage = 2; mem = mem 3; granted = Some (mem 3); refused = None } ∷ [];
  ats = row 1 0 0 ∷ row 1 2 2 ∷ [];
  opened = record { seam = seam 2; mem = mem 0; opened = mem 1; failed = mem 0 } ∷ record { seam = seam 2; mem = mem 2; opened = mem 3; failed = mem 2 } ∷ [];
  closed = row 5 0 0 ∷ row 5 1 0 ∷ row 5 2 2 ∷ row 5 3 2 ∷ [];
  into = record { seam = seam 3; split = true; mem = mem 0; callee = mem 0 } ∷ record { seam = seam 3; split = true; mem = mem 1; callee = mem 1 }
      ∷ record { seam = seam 3; split = true; mem = mem 2; callee = mem 2 } ∷ record { seam = seam 3; split = true; mem = mem 3; callee = mem 3 }
      ∷ record { seam = seam 6; split = false; mem = mem 0; callee = mem 0 } ∷ record { seam = seam 6; split = false; mem = mem 2; callee = mem 2 }
      ∷ [];
  back = record { seam = seam 3; split = true; mem = mem 0; exit = state 0; after = mem 0 }
      ∷ record { seam = seam 3; split = true; mem = mem 0; exit = state 2; after = mem 0 }
      ∷ record { seam = seam 3; split = true; mem = mem 1; exit = state 0; after = mem 1 }
      ∷ record { seam = seam 3; split = true; mem = mem 1; exit = state 2; after = mem 1 }
      ∷ record { seam = seam 3; split = true; mem = mem 2; exit = state 0; after = mem 2 }
      ∷ record { seam = seam 3; split = true; mem = mem 2; exit = state 2; after = mem 2 }
      ∷ record { seam = seam 3; split = true; mem = mem 3; exit = state 0; after = mem 3 }
      ∷ record { seam = seam 3; split = true; mem = mem 3; exit = state 2; after = mem 3 }
      ∷ record { seam = seam 6; split = false; mem = mem 0; exit = state 0; after = mem 0 }
      ∷ record { seam = seam 6; split = false; mem = mem 0; exit = state 2; after = mem 2 }
      ∷ record { seam = seam 6; split = false; mem = mem 2; exit = state 0; after = mem 0 }
      ∷ record { seam = seam 6; split = false; mem = mem 2; exit = state 2; after = mem 2 } ∷ [];
}

meets : is_closed_table game table ≡ true
meets = refl

is_sound : Sound (record { plan = plan; policy = policy }) table
is_sound = sound Means (record { plan = plan; policy = policy }) game table refl right laid meets (omega arith)

-- without the ways back, or with a start that isn't live, it doesn't meet them
needs_ways_back : is_closed_table game (record table { back = [] }) ≡ false
needs_ways_back = refl

needs_start : is_closed_table game (record table { start = mem 1 }) ≡ false
needs_start = refl

needs_answers : is_closed_table game (record table { tries = [] }) ≡ false
needs_answers = refl

-- The table meets the numbered conditions too; without the ways back the first that fails is told.
is_good : IsGoodTable game table
is_good = refl

lacks_ways_back : table_fault game (record table { back = [] }) ≡ Some (fault_at InLive 53 8)
lacks_ways_back = refl

other_states : table_fault game (record table { states = 5 }) ≡ Some (fault_at InMems 0 1)
other_states = refl

-- Enter is tried at the start, and the program stops where it is refused.
abbrev stopping : Table
stopping = record table {
  tries = record { seam = seam 0; stage = 1; mem = mem 0; granted = Some (mem 2); refused = None }
      ∷ record { seam = seam 1; stage = 0; mem = mem 0; granted = None; refused = Some (mem 0) }
      ∷ record { seam = seam 1; stage = 0; mem = mem 2; granted = None; refused = Some (mem 2) }
      ∷ record { seam = seam 3; stage = 0; mem = mem 0; granted = None; refused = Some (mem 0) }
      ∷ record { seam = seam 3; stage = 0; mem = mem 1; granted = Some (mem 1); refused = None }
      ∷ record { seam = seam 3; stage = 0; mem = mem 2; granted = None; refused = Some (mem 2) }
      ∷ record { seam = seam 3; stage = 0; mem = mem 3; granted = Some (mem 3); refused = None }
      ∷ record { seam = seam 3; stage = 2; mem = mem 0; granted = Some (mem 0); refused = None }
      ∷ record { seam = seam 3; stage = 2; mem = mem 1; granted = Some (mem 1); refused = None }
      ∷ record { seam = seam 3; stage = 2; mem = mem 2; granted = Some (mem 2); refused = None }
      ∷ record { seam = seam 3; stage = 2; mem = mem 3; granted = Some (mem 3); refused = None } ∷ [];
}

abbrev with_stop : Game
with_stop = record game { policy = record policy { stop = true } }

stopping_is_good : IsGoodTable with_stop stopping
stopping_is_good = refl

-- where the policy has no stop the refusal must be gone on from
must_go_on : table_fault game stopping ≡ Some (fault_at InLive 2 5)
must_go_on = refl

-- and where it has one, going on must lead on
must_lead_on : table_fault with_stop (record table { tries = record { seam = seam 0; stage = 1; mem = mem 0; granted = Some (mem 2); refused = Some (mem 1) } ∷ [] }) ≡ Some (fault_at InLive 2 5)
must_lead_on = refl
