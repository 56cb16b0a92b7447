-- What the check in code finds is what the conditions ask.
use Rattle.std.proofs.Common.{◌≡◌, ℕ, zero, suc, ◌+◌, ◌<◌, ◌≤◌, List, [], ◌∷◌, ◌++◌, Bool, true, false, not, ◌&&◌, ◌||◌, cond, Option, Some, None, option_map, is_some, map, length, get_or, take, drop}
use Rattle.std.proofs.Common.{Vec, Global, nat_eq, nat_lt, eq-eqb, refl, sym, ap, ap₂, ◌∙◌, subst, arith}
use Rattle.std.specs.Prelude.{slice_get}
use Rattle.std.specs.List.{list_all, list_any, enumerate_from, range_with_len}
use Rattle.std.proofs.Math.Seq.{drop-cons}
use Rattle.std.proofs.lemmas.Bool.{ltb-true, ne_eqb}
use Rattle.std.proofs.lemmas.Option.{none-some, same_Some, slice_get-get_or, slice_get-map}
use Rattle.std.proofs.lemmas.List.{take_all}
use Rattle.std.proofs.lemmas.List.Folds.{list_any_at}
use Rattle.cw_core.specs.declared.ids.PosId.{PosId}
use Rattle.cw_core.specs.declared.ids.StateId.{StateId}
use Rattle.cw_certs.specs.declared.moves.Move.{Move}
use Rattle.cw_certs.specs.declared.strategy.EnvRow.{EnvRow}
use Rattle.cw_certs.specs.declared.strategy.How.TheVariants.{Into as IntoData}
use Rattle.cw_certs.specs.Strategies.{How, Into, Strategy, Row, back_of, how_of, row_of}
use Rattle.cw_game.specs.declared.spots.Spot.{Spot}
use Rattle.cw_game.specs.declared.spots.Spot.TheVariants.{Visit, Asked, Step, Branch, Label, Open, Close, Call, SplitCall, Exit}
use Rattle.cw_game.specs.Games.{Game, Config, bad_in, leads_in, weavers_in}
use Rattle.cw_game.specs.Pairs.{Called, has, call_in, is_call_in, is_exit_in}
use Rattle.cw_game.specs.Conditions.{RowFault, fault_in, first_failing, is_position, is_state, is_set, is_row, row_conditions, all_rows, is_start, strategy_fault, stands_after, enters, are_backs}
use Rattle.cw_game.proofs.Failing.{first_mapped, append_none, append_some}
use Rattle.std.proofs.lemmas.Bool.{and_parts, and_from as both}
use Rattle.cw_positions.specs.Closed.{LeadsWithin}
use Rattle.cw_product.specs.declared.turn.Turn.{Turn}
use Rattle.cw_product.specs.declared.turn.Turn.TheVariants as turn
use Rattle.cw_product.specs.Moves.{pair_of, pos_id, next_in, turn_in}
use Rattle.cw_echeck.specs.Checks.{AreExits, backs_of, calls_in, returns_by, stands_by, unless}

abbrev row_in : ℕ → ℕ → ℕ → How → Row
row_in p q e how = record { pos = p; state = q; aim = e; how = how }

module _ (g : Game) (s : Strategy) (p q row e : ℕ) (by : Move) where
  if_there : (o : Option Config) → stands_by s row e (option_map pair_of o) ≡ stands_after s row e o
  if_there None = refl
  if_there (Some c) = refl

  if_good : (b : Bool) (o : Option Config)
      → stands_by s row e
      (cond (b || (false || false)) None (option_map pair_of o)) ≡ (not (false || (false || (false || b))) && stands_after s row e o)
  if_good true o = refl
  if_good false o = if_there o

  -- where the environment moves
  pub goes_is : (spot : Option Spot) → Some turn.Environment ≡ option_map (turn_in g) spot
      → stands_by s row e (next_in g p q spot by)
      ≡ (not (weavers_in spot || (is_call_in spot || (is_exit_in spot || bad_in g q spot))) && stands_after s row e (leads_in g p q [] spot by))
  goes_is None t = cc
  goes_is (Some (Visit j i a)) t = cc
  goes_is (Some (Asked j i a)) t = if_good false (leads_in g p q [] (Some (Asked j i a)) by)
  goes_is (Some (Step n)) t = if_good false (leads_in g p q [] (Some (Step n)) by)
  goes_is (Some (Branch m n)) t = if_good false (leads_in g p q [] (Some (Branch m n)) by)
  goes_is (Some (Label j l n)) t = if_good (g.states.bad q l) (leads_in g p q [] (Some (Label j l n)) by)
  goes_is (Some (Open j d n)) t = if_good false (leads_in g p q [] (Some (Open j d n)) by)
  goes_is (Some (Close j d n)) t = if_good false (leads_in g p q [] (Some (Close j d n)) by)
  goes_is (Some (Call j f n)) t = cc
  goes_is (Some (SplitCall j f n)) t = cc
  goes_is (Some (Exit f)) t = cc

-- ---- the loops over rows and backs

any_mapped : {A B : Type 0} (test : B → Bool) (f : A → B) (xs : List A) → list_any test (map f xs) ≡ list_any (λ x. test (f x)) xs
any_mapped test f [] = refl
any_mapped test f (x ∷ xs) = ap (λ t. test (f x) || t) (any_mapped test f xs)

pub any_none : {A B : Type 0} (test : B → Bool) (f : A → B) (xs : List A) (i : ℕ) → length xs ≤ i → list_any (λ x. test (f x)) (take i xs) ≡ false
    → list_any test (map f xs) ≡ false
any_none test f xs i le h = any_mapped test f xs ∙ ap (list_any (λ x. test (f x))) (sym (take_all i xs le)) ∙ h

pub any_here : {A B : Type 0} (test : B → Bool) (f : A → B) (xs : List A) (i : ℕ) (d : A) → i < length xs → test (f (get_or xs i d)) ≡ true
    → list_any test (map f xs) ≡ true
any_here test f xs i d lt h = any_mapped test f xs ∙ list_any_at (λ x. test (f x)) xs i d lt h

-- ---- the first condition that fails

-- the conditions of a row, told with its number
abbrev Faults : ℕ → List (ℕ × Bool) → List (RowFault × Bool)
Faults row cs = map (λ c. (fault_in row c.0, c.1)) cs

none_in : (row : ℕ) (cs : List (ℕ × Bool)) (rest : List (RowFault × Bool)) → first_failing cs ≡ None
    → first_failing (Faults row cs ++ rest) ≡ first_failing rest
none_in row cs rest e = append_none (Faults row cs) rest (first_mapped (fault_in row) cs ∙ ap (option_map (fault_in row)) e)

some_in : (row : ℕ) (cs : List (ℕ × Bool)) (rest : List (RowFault × Bool)) (condition : ℕ) → first_failing cs ≡ Some condition
    → first_failing (Faults row cs ++ rest) ≡ Some (fault_in row condition)
some_in row cs rest condition e =
    append_some (Faults row cs) rest (fault_in row condition) (first_mapped (fault_in row) cs ∙ ap (option_map (fault_in row)) e)

-- ---- the first row that fails

module _ (g : Game) (s : Strategy) (rows : List EnvRow) where
  -- what fails first from a row on
  abbrev pub From : ℕ → Option RowFault
  From i = first_failing (all_rows g s (enumerate_from i (map row_of (drop i rows))))

  abbrev pub conditions_at : ℕ → EnvRow → List (ℕ × Bool)
  conditions_at i r = row_conditions g s i (row_of r) (slice_get g.spots r.pos.0)

  stepped : (i : ℕ) (d : EnvRow) → i < length rows
      → From i ≡ first_failing (Faults i (conditions_at i (get_or rows i d))
      ++ all_rows g s (enumerate_from (i + 1) (map row_of (drop (i + 1) rows))))
  stepped i d lt =
      let next : suc i ≡ i + 1 = omega arith in
      ap (λ (rs : List EnvRow). first_failing (all_rows g s (enumerate_from i (map row_of rs))))
      (subst (λ n. drop i rows ≡ get_or rows i d ∷ drop n rows) next (drop-cons rows i d lt))

  pub from_next : (i : ℕ) (d : EnvRow) → i < length rows → first_failing (conditions_at i (get_or rows i d)) ≡ None → From 0 ≡ From i
      → From 0 ≡ From (i + 1)
  from_next i d lt e h =
      h ∙ stepped i d lt ∙ none_in i (conditions_at i (get_or rows i d)) (all_rows g s (enumerate_from (i + 1) (map row_of (drop (i + 1) rows)))) e

  pub from_here : (i : ℕ) (d : EnvRow) (condition : ℕ) → i < length rows → first_failing (conditions_at i (get_or rows i d)) ≡ Some condition
      → From 0 ≡ From i → From 0 ≡ Some (fault_in i condition)
  from_here i d condition lt e h = h ∙ stepped i d lt
      ∙ some_in i (conditions_at i (get_or rows i d)) (all_rows g s (enumerate_from (i + 1) (map row_of (drop (i + 1) rows)))) condition e

-- ---- a row that calls a function

abbrev of_turn : ℕ → Turn → Option Called
of_turn j (turn.Call f split back) = Some (record { seam = j; function = f; back = back.0; split = split })
of_turn j _ = None

turn_calls : (g : Game) (spot : Option Spot) (t : Turn) → Some t ≡ option_map (turn_in g) spot → (j : ℕ) × (call_in spot ≡ of_turn j t)
turn_calls g None t e = absurd (none-some t (sym e))
turn_calls g (Some (Call j f n)) t e = (j, ap (of_turn j) (sym (same_Some t (turn.Call f false (pos_id n)) e)))
turn_calls g (Some (SplitCall j f n)) t e = (j, ap (of_turn j) (sym (same_Some t (turn.Call f true (pos_id n)) e)))
turn_calls g (Some (Visit j i a)) t e = (0, ap (of_turn 0) (sym (same_Some t turn.Weaver e)))
turn_calls g (Some (Exit f)) t e = (0, ap (of_turn 0) (sym (same_Some t (turn.Exit (nat_eq f g.main)) e)))
turn_calls g (Some (Asked j i a)) t e = (0, ap (of_turn 0) (sym (same_Some t turn.Environment e)))
turn_calls g (Some (Step n)) t e = (0, ap (of_turn 0) (sym (same_Some t turn.Environment e)))
turn_calls g (Some (Branch m n)) t e = (0, ap (of_turn 0) (sym (same_Some t turn.Environment e)))
turn_calls g (Some (Label j l n)) t e = (0, ap (of_turn 0) (sym (same_Some t turn.Environment e)))
turn_calls g (Some (Open j d n)) t e = (0, ap (of_turn 0) (sym (same_Some t turn.Environment e)))
turn_calls g (Some (Close j d n)) t e = (0, ap (of_turn 0) (sym (same_Some t turn.Environment e)))

-- a function that is called is one that there is
abbrev function_of : Turn → ℕ
function_of (turn.Call f split back) = f
function_of _ = 0

pub callee_there : (g : Game) (size functions p f : ℕ) (split : Bool) (back : PosId) (spot : Option Spot)
    → Some (turn.Call f split back) ≡ option_map (turn_in g) spot
    → ((s : Spot) → spot ≡ Some s → LeadsWithin size functions p s) → f < functions
callee_there g size functions p f split back None e leads = absurd (none-some (turn.Call f split back) (sym e))
callee_there g size functions p f split back (Some (Call j f2 n)) e leads =
    let same : f ≡ f2 = ap function_of (same_Some (turn.Call f split back) (turn.Call f2 false (pos_id n)) e) in
    subst (λ k. k < functions) (sym same) (leads (Call j f2 n) refl).0
callee_there g size functions p f split back (Some (SplitCall j f2 n)) e leads =
    let same : f ≡ f2 = ap function_of (same_Some (turn.Call f split back) (turn.Call f2 true (pos_id n)) e) in
    subst (λ k. k < functions) (sym same) (leads (SplitCall j f2 n) refl).0
callee_there g size functions p f split back (Some (Visit j i a)) e leads = let z = same_Some (turn.Call f split back) turn.Weaver e in cc
callee_there g size functions p f split back (Some (Exit k)) e leads = let z = same_Some (turn.Call f split back) (turn.Exit (nat_eq k g.main)) e in
    cc
callee_there g size functions p f split back (Some (Asked j i a)) e leads = let z = same_Some (turn.Call f split back) turn.Environment e in cc
callee_there g size functions p f split back (Some (Step n)) e leads = let z = same_Some (turn.Call f split back) turn.Environment e in cc
callee_there g size functions p f split back (Some (Branch m n)) e leads = let z = same_Some (turn.Call f split back) turn.Environment e in cc
callee_there g size functions p f split back (Some (Label j l n)) e leads = let z = same_Some (turn.Call f split back) turn.Environment e in cc
callee_there g size functions p f split back (Some (Open j d n)) e leads = let z = same_Some (turn.Call f split back) turn.Environment e in cc
callee_there g size functions p f split back (Some (Close j d n)) e leads = let z = same_Some (turn.Call f split back) turn.Environment e in cc

module _ (g : Game) (s : Strategy) (r : Row) (callee : ℕ) (backs : List (ℕ × ℕ)) where
  -- what conditions 6 and 7 tell of a call and the callee's row
  abbrev Told : Option Called → Option Row → Option ℕ
  Told call row = cond (enters g r.state call row) (unless 7 (are_backs g s r.state r.aim backs call row)) (Some 6)

  pub call_is : (f : ℕ) (split : Bool) (back : PosId) (x : Row) (t : Bool)
      → Some (turn.Call f split back) ≡ option_map (turn_in g) (slice_get g.spots r.pos)
      → slice_get s.rows callee ≡ Some x → x.pos ≡ g.entry f → x.state ≡ r.state
      → t ≡ (list_all (λ x2. not (has x.aim x2) || is_some (back_of backs x2)) (range_with_len 0 g.states.count) && list_all
      (returns_by g s r x.aim split back.0) backs)
      → unless 7 t ≡ calls_in g s r callee backs
  call_is f split back x t turned row pos state e =
      let k = turn_calls g (slice_get g.spots r.pos) (turn.Call f split back) turned in
      ap (unless 7) e
      ∙ sym (ap (λ t. cond t (unless 7 (are_backs g s r.state r.aim backs (of_turn k.0 (turn.Call f split back)) (Some x))) (Some 6))
      (both (nat_eq x.pos (g.entry f)) (nat_eq x.state r.state) (eq-eqb x.pos (g.entry f) pos) (eq-eqb x.state r.state state)))
      ∙ ap₂ Told (sym k.1) (sym row)

  -- the callee's row stands elsewhere
  pub call_fails : (f : ℕ) (split : Bool) (back : PosId) (x : Row) → Some (turn.Call f split back) ≡ option_map (turn_in g) (slice_get g.spots r.pos)
      → slice_get s.rows callee ≡ Some x → (nat_eq x.pos (g.entry f) && nat_eq x.state r.state) ≡ false → Some 6 ≡ calls_in g s r callee backs
  call_fails f split back x turned row apart =
      let k = turn_calls g (slice_get g.spots r.pos) (turn.Call f split back) turned in
      sym (ap (λ t. cond t (unless 7 (are_backs g s r.state r.aim backs (of_turn k.0 (turn.Call f split back)) (Some x))) (Some 6)) apart)
      ∙ ap₂ Told (sym k.1) (sym row)

pub first_apart : (a b : ℕ) (t : Bool) → (a ≡ b → ⊥) → (nat_eq a b && t) ≡ false
first_apart a b t h = ap (λ x. x && t) (ne_eqb a b h)

pub second_apart : (a b : ℕ) (t : Bool) → (a ≡ b → ⊥) → (t && nat_eq a b) ≡ false
second_apart a b true h = ne_eqb a b h
second_apart a b false h = refl

-- the numbers of a row that are in range
exits_all : (n : ℕ) (backs : List (StateId × ℕ)) → list_all (λ x. nat_lt x n) (map (λ (b : ℕ × ℕ). b.0) (backs_of backs)) ≡ true → AreExits n backs
exits_all n [] h k d lt = absurd (omega (arith, lt))
exits_all n (b ∷ backs) h zero d lt =
    ltb-true b.0.0 n (and_parts (nat_lt b.0.0 n) (list_all (λ x. nat_lt x n) (map (λ (b : ℕ × ℕ). b.0) (backs_of backs))) h).0
exits_all n (b ∷ backs) h (suc k) d lt =
    exits_all n backs (and_parts (nat_lt b.0.0 n) (list_all (λ x. nat_lt x n) (map (λ (b : ℕ × ℕ). b.0) (backs_of backs))) h).1 k d
    (omega (arith, lt))

module _ (g : Game) (s : Strategy) (i : ℕ) (r : EnvRow) (callee : ℕ) (backs : Vec (StateId × ℕ) Global) (into : r.how ≡ IntoData callee backs)
    (good : is_row g i (row_of r) ≡ true) where
  into_good : is_row g i (row_in r.pos.0 r.state.0 r.aim (Into callee (backs_of backs.items))) ≡ true
  into_good = ap (λ how. is_row g i (row_in r.pos.0 r.state.0 r.aim (how_of how))) (sym into) ∙ good

  pub into_exits : AreExits g.states.count backs.items
  into_exits =
      let a = and_parts (is_position g r.pos.0) _ into_good in
      let b = and_parts (is_state g r.state.0) _ a.1 in
      let c = and_parts (is_set g r.aim) _ b.1 in
      let d = and_parts (list_all (λ n. nat_lt n i) (callee ∷ map (λ (b : ℕ × ℕ). b.1) (backs_of backs.items)))
      (list_all (is_state g) (map (λ (b : ℕ × ℕ). b.0) (backs_of backs.items))) c.1 in
      exits_all g.states.count backs.items d.1

  pub into_is : calls_in g s (row_of r) callee (backs_of backs.items) ≡ first_failing (row_conditions g s i (row_of r) (slice_get g.spots r.pos.0))
  into_is =
      sym (ap (λ t. cond t (calls_in g s (row_of r) callee (backs_of backs.items)) (Some 1)) into_good)
      ∙ ap (λ how. first_failing (row_conditions g s i (row_in r.pos.0 r.state.0 r.aim (how_of how)) (slice_get g.spots r.pos.0))) (sym into)

-- ---- the strategy

module _ (g : Game) (s : Strategy) (states : s.states ≡ g.states.count) where
  abbrev rows_fault : Option RowFault
  rows_fault = first_failing (all_rows g s (enumerate_from 0 s.rows))

  abbrev last : List (RowFault × Bool)
  last = (fault_in (length s.rows) 8, list_any (is_start g) s.rows) ∷ []

  fault_is : (o : Option RowFault) → first_failing (all_rows g s (enumerate_from 0 s.rows) ++ last) ≡ o → strategy_fault g s ≡ o
  fault_is o e =
      ap (λ t. cond t (first_failing (all_rows g s (enumerate_from 0 s.rows) ++ last)) (Some (fault_in 0 1)))
      (eq-eqb s.states g.states.count states) ∙ e

  pub row_fails : (bad : RowFault) → Some bad ≡ rows_fault → strategy_fault g s ≡ Some bad
  row_fails bad e = fault_is (Some bad) (append_some (all_rows g s (enumerate_from 0 s.rows)) last bad (sym e))

  pub start_fails : None ≡ rows_fault → list_any (is_start g) s.rows ≡ false → strategy_fault g s ≡ Some (fault_in (length s.rows) 8)
  start_fails e h =
      fault_is (Some (fault_in (length s.rows) 8))
      (append_none (all_rows g s (enumerate_from 0 s.rows)) last (sym e) ∙ ap (λ t. cond t None (Some (fault_in (length s.rows) 8))) h)

  pub none_fails : None ≡ rows_fault → list_any (is_start g) s.rows ≡ true → strategy_fault g s ≡ None
  none_fails e h =
      fault_is None (append_none (all_rows g s (enumerate_from 0 s.rows)) last (sym e) ∙ ap (λ t. cond t None (Some (fault_in (length s.rows) 8))) h)

-- a row that a look-up gives
pub row_there : (rows : List EnvRow) (i : ℕ) (x : EnvRow) → true ≡ nat_lt i (length rows) → x ≡ get_or rows i x
    → slice_get (map row_of rows) i ≡ Some (row_of x)
row_there rows i x l e =
    slice_get-map row_of rows i ∙ ap (option_map row_of) (slice_get-get_or rows i x (ltb-true i (length rows) (sym l)) ∙ ap Some (sym e))

-- ---- both halves of condition 7

abbrev pub covered : ℕ → List (ℕ × ℕ) → ℕ → Bool
covered aim backs n = list_all (λ x. not (has aim x) || is_some (back_of backs x)) (range_with_len 0 n)

pub both_halves : (t a b u : Bool) → t ≡ a → t ≡ true → u ≡ b → u ≡ (a && b)
both_halves t a b u e h k = k ∙ ap (λ x. x && b) (sym h ∙ e)

pub first_half : (t a b u : Bool) → t ≡ a → t ≡ false → u ≡ t → u ≡ (a && b)
first_half t a b u e h k = k ∙ h ∙ ap (λ x. x && b) (sym h ∙ e)
