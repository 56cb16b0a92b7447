-- A strategy that meets the conditions has a text.
use Rattle.std.proofs.Common.{◌≡◌, ℕ, ◌+◌, ◌<◌, ◌≤◌, List, [], ◌∷◌, length, map, true, false, Option, Some, None, nat_eq, nat_lt, get_or, refl, subst, arith}
use Rattle.std.specs.Prelude.{slice_get, sum_by}
use Rattle.std.specs.List.{AllByRecursion, list_all}
use Rattle.std.specs.List.Sorted.{IsStrictlySortedBy}
use Rattle.std.specs.declared.cmp.Ordering.TheVariants.{Less}
use Rattle.std.proofs.lemmas.Bool.{ltb-true, eqb-true}
use Rattle.std.proofs.lemmas.List.{get_or_default}
use Rattle.std.proofs.lemmas.List.Sums.{sum_by-cons}
use Rattle.std.proofs.lemmas.Option.{none-some, slice_get-get_or}
use Rattle.cw_rights.specs.Policies.{policy_of}
use Rattle.cw_certs.specs.declared.moves.Move.{Move}
use Rattle.cw_certs.specs.declared.moves.Move.TheVariants.{Skip, Try, Grant, Refuse, On, Left, Right, Opened, Failed, Stop}
use Rattle.cw_certs.specs.Strategies.{How, Bad, Out, Both, Go, Into, Row, Strategy}
use Rattle.cw_game.specs.declared.spots.Spot.{Spot}
use Rattle.cw_game.specs.declared.spots.Spot.TheVariants.{Visit, Asked, Step, Branch, Label, Open, Close, Call, SplitCall, Exit}
use Rattle.cw_game.specs.Games.{Game, Config, leads_in, weavers_in}
use Rattle.cw_game.specs.Closed.{HowOk}
use Rattle.cw_game.specs.Conditions.{exits_by, fault_in, is_position, is_row, is_set, is_state, named_by, IsGoodStrategy}
use Rattle.std.proofs.lemmas.Bool.{and_parts}
use Rattle.cw_lemmas.proofs.Orders.{nat_less}
use Rattle.cw_game.proofs.Goods.{taken, rows_hold, parts, good_strategy_closed}
use Rattle.cw_least_strategy.specs.Backs.{back_cmp, Ascends}
use Rattle.cw_least_strategy.specs.Strategies.{backs_in}
use Rattle.cw_product.specs.Product.{Held, game_of}
use Rattle.cw_text.specs.Moves.{IsEnvironments}
use Rattle.cw_strategy_text.specs.StrategyText.{row_count, rows_in, AreBacks, FitsHow, FitsRow}
use Rattle.cw_answer_texts.specs.Spelled.{IsGameMade, StrategiesHaveTexts}
use Rattle.cw_answer_texts.proofs.Bounds.{few_states, state_small, position_small, set_within}

-- ---- how many rows there are

rows_in_is : (how : How) → rows_in how ≡ 1 + backs_in how
rows_in_is Bad = refl
rows_in_is Out = refl
rows_in_is (Both skip tried) = refl
rows_in_is (Go by row) = refl
rows_in_is (Into callee backs) = refl

rows_are_all : (rows : List Row) → row_count rows ≡ length rows + sum_by (λ r. backs_in r.how) rows
unfolding row_count
rows_are_all [] = refl
rows_are_all (r ∷ rows) = let k = rows_are_all rows in let e = rows_in_is r.how in let more = sum_by-cons (λ (x : Row). backs_in x.how) r rows in omega (arith, k, e, more)

-- ---- backs and moves

-- backs that ascend, from a number on
are_backs : (i low : ℕ) (backs : List (ℕ × ℕ)) → i ≤ 65536 → AllByRecursion (λ (b : ℕ × ℕ). low ≤ b.0) backs → IsStrictlySortedBy back_cmp backs → AllByRecursion (λ (b : ℕ × ℕ). b.0 < 1024) backs
    → list_all (λ n. nat_lt n i) (map (λ (b : ℕ × ℕ). b.1) backs) ≡ true → AreBacks low backs
unfolding IsStrictlySortedBy
are_backs i low [] le above sorted small named = tt
are_backs i low (b ∷ backs) le above sorted small named =
    let k = and_parts (nat_lt b.1 i) (list_all (λ n. nat_lt n i) (map (λ (b : ℕ × ℕ). b.1) backs)) named in
    let row = ltb-true b.1 i k.0 in
    let exit = small.0 in
    (above.0, omega (arith, exit), omega (arith, row, le), are_backs i (b.0 + 1) backs le (later backs sorted.0) sorted.1 small.1 k.1)
  where
    later : (xs : List (ℕ × ℕ)) → AllByRecursion (λ (y : ℕ × ℕ). back_cmp b y ≡ Less) xs → AllByRecursion (λ (y : ℕ × ℕ). b.0 + 1 ≤ y.0) xs
    later [] h = tt
    later (x ∷ xs) h = let lt = nat_less b.0 x.0 h.0 in (omega (arith, lt), later xs h.1)

all_above : (backs : List (ℕ × ℕ)) → AllByRecursion (λ (b : ℕ × ℕ). 0 ≤ b.0) backs
all_above [] = tt
all_above (b ∷ backs) = (omega arith, all_above backs)

-- a move of the game where it isn't the weaver's turn is one of the environment
environments : (g : Game) (p q : ℕ) (s : Option Spot) (by : Move) (c : Config) → weavers_in s ≡ false → leads_in g p q [] s by ≡ Some c → IsEnvironments by
environments g p q s Grant c w e = tt
environments g p q s Refuse c w e = tt
environments g p q s On c w e = tt
environments g p q s Left c w e = tt
environments g p q s Right c w e = tt
environments g p q s Opened c w e = tt
environments g p q s Failed c w e = tt
environments g p q None Skip c w e = absurd (none-some c e)
environments g p q (Some (Visit j i a)) Skip c w e = cc
environments g p q (Some (Asked j i a)) Skip c w e = absurd (none-some c e)
environments g p q (Some (Step n)) Skip c w e = absurd (none-some c e)
environments g p q (Some (Branch m n)) Skip c w e = absurd (none-some c e)
environments g p q (Some (Label j l n)) Skip c w e = absurd (none-some c e)
environments g p q (Some (Open j d n)) Skip c w e = absurd (none-some c e)
environments g p q (Some (Close j d n)) Skip c w e = absurd (none-some c e)
environments g p q (Some (Call j f n)) Skip c w e = absurd (none-some c e)
environments g p q (Some (SplitCall j f n)) Skip c w e = absurd (none-some c e)
environments g p q (Some (Exit f)) Skip c w e = absurd (none-some c e)
environments g p q None Try c w e = absurd (none-some c e)
environments g p q (Some (Visit j i a)) Try c w e = cc
environments g p q (Some (Asked j i a)) Try c w e = absurd (none-some c e)
environments g p q (Some (Step n)) Try c w e = absurd (none-some c e)
environments g p q (Some (Branch m n)) Try c w e = absurd (none-some c e)
environments g p q (Some (Label j l n)) Try c w e = absurd (none-some c e)
environments g p q (Some (Open j d n)) Try c w e = absurd (none-some c e)
environments g p q (Some (Close j d n)) Try c w e = absurd (none-some c e)
environments g p q (Some (Call j f n)) Try c w e = absurd (none-some c e)
environments g p q (Some (SplitCall j f n)) Try c w e = absurd (none-some c e)
environments g p q (Some (Exit f)) Try c w e = absurd (none-some c e)
environments g p q None Stop c w e = absurd (none-some c e)
environments g p q (Some (Visit j i a)) Stop c w e = cc
environments g p q (Some (Asked j i a)) Stop c w e = absurd (none-some c e)
environments g p q (Some (Step n)) Stop c w e = absurd (none-some c e)
environments g p q (Some (Branch m n)) Stop c w e = absurd (none-some c e)
environments g p q (Some (Label j l n)) Stop c w e = absurd (none-some c e)
environments g p q (Some (Open j d n)) Stop c w e = absurd (none-some c e)
environments g p q (Some (Close j d n)) Stop c w e = absurd (none-some c e)
environments g p q (Some (Call j f n)) Stop c w e = absurd (none-some c e)
environments g p q (Some (SplitCall j f n)) Stop c w e = absurd (none-some c e)
environments g p q (Some (Exit f)) Stop c w e = absurd (none-some c e)

-- ---- each row

module _ (h : Held) (s : Strategy) (is : IsGameMade h) (few : length s.rows ≤ 65536) where
  abbrev g : Game
  g = game_of h

  exits_small : (backs : List (ℕ × ℕ)) → list_all (is_state g) (map (λ (b : ℕ × ℕ). b.0) backs) ≡ true → AllByRecursion (λ (b : ℕ × ℕ). b.0 < 1024) backs
  exits_small [] e = tt
  exits_small (b ∷ backs) e =
      let k = and_parts (is_state g b.0) (list_all (is_state g) (map (λ (b : ℕ × ℕ). b.0) backs)) e in
      (state_small h is b.0 k.0, exits_small backs k.1)

  how_fits : (i p q e : ℕ) (how : How) → i < length s.rows → HowOk g s i p q e how → Ascends how → list_all (λ n. nat_lt n i) (named_by how) ≡ true → list_all (is_state g) (exits_by how) ≡ true → FitsHow how
  how_fits i p q e Bad lt ok sorted named exits = tt
  how_fits i p q e Out lt ok sorted named exits = tt
  how_fits i p q e (Both skip tried) lt ok sorted named exits =
      let a = ok.0 in
      let b = ok.1 in
      (omega (arith, a, lt, few), omega (arith, b, lt, few))
  how_fits i p q e (Go by row) lt ok sorted named exits =
      let a = ok.0 in
      (environments g p q (slice_get g.spots p) by _ ok.1.0 ok.2.2, omega (arith, a, lt, few))
  how_fits i p q e (Into callee backs) lt ok sorted named exits =
      let a = ok.0 in
      let k = and_parts (nat_lt callee i) (list_all (λ n. nat_lt n i) (map (λ (b : ℕ × ℕ). b.1) backs)) named in
      (omega (arith, a, lt, few), are_backs i 0 backs (omega (arith, lt, few)) (all_above backs) sorted (exits_small backs exits) k.1)

  row_fits : (i : ℕ) (r : Row) → i < length s.rows → slice_get s.rows i ≡ Some r → IsGoodStrategy g s → Ascends r.how → FitsRow (policy_of h.states.policy).format r
  row_fits i r lt at good sorted =
      let n : 0 + i ≡ i = omega arith in
      let holds = subst (λ (m : ℕ). is_row g m r ≡ true) n (taken (is_row g (0 + i) r) _ 1 (rows_hold g s 0 s.rows (parts g s good).0 i r at)).0 in
      let a = and_parts (is_position g r.pos) _ holds in
      let b = and_parts (is_state g r.state) _ a.1 in
      let c = and_parts (is_set g r.aim) _ b.1 in
      let d = and_parts (list_all (λ n. nat_lt n i) (named_by r.how)) (list_all (is_state g) (exits_by r.how)) c.1 in
      let q = ltb-true r.state g.states.count b.0 in
      let small = state_small h is r.state b.0 in
      let pos = position_small h is r.pos (omega (arith, q)) a.0 in
      record {
        pos = omega (arith, pos);
        state = omega (arith, small);
        aim = set_within h is r.aim c.0;
        how = how_fits i r.pos r.state r.aim r.how lt (good_strategy_closed g s good i r at) sorted d.0 d.1;
      }

pub strategies_have_texts : StrategiesHaveTexts
strategies_have_texts h s is good sorted rows =
    let g = game_of h in
    let states = eqb-true s.states g.states.count (taken (nat_eq s.states g.states.count) _ (fault_in 0 1) good).0 in
    let fewer = few_states h is in
    let count = rows_are_all s.rows in
    record {
      states = omega (arith, states, fewer);
      rows = λ k d lt. row_fits h s is (omega (arith, rows)) k (get_or s.rows k d) lt (slice_get-get_or s.rows k d lt) good (sorted (get_or s.rows k d) (k, lt, get_or_default s.rows k (get_or s.rows k d) d lt));
      few = omega (arith, rows, count);
    }
