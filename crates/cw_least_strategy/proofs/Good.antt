-- The strategy by least heights meets the conditions.
use Rattle.std.proofs.Common.{◌≡◌, ◌⊎◌, ℕ, suc, ◌+◌, ◌-◌, ◌<◌, ◌^◌, List, [], ◌∷◌, Bool, true, false, cond, not, ◌&&◌, ◌||◌, Option, Some, None, is_some, map}
use Rattle.std.proofs.Common.{find, length, nat_eq, nat_lt, refl, sym, ap, ◌∙◌, subst, arith, inl, inr}
use Rattle.std.specs.Prelude.{slice_get, option_map}
use Rattle.std.specs.List.{Contains, list_all, list_any, enumerate_from, range_with_len}
use Rattle.std.specs.List.Sorted.{IsStrictlySortedBy}
use Rattle.std.proofs.lemmas.Bool.{lt-ltb, eq-eqb}
use Rattle.std.proofs.lemmas.Option.{same_Some, none-some, slice_get-map, slice_get_within, get_or_from_slice_get}
use Rattle.cw_certs.specs.Strategies.{Row, Strategy, back_of}
use Rattle.cw_fixpoint.specs.Closures.{Reached, first, then}
use Rattle.cw_game.specs.declared.spots.Spot.{Spot}
use Rattle.cw_game.specs.declared.spots.Spot.TheVariants.{Visit, Asked, Step, Branch, Label, Open, Close, Call, SplitCall, Exit}
use Rattle.cw_game.specs.Games.{Game, Holds, holds_in, bad_in, weavers_in, leads_in, returned}
use Rattle.cw_game.specs.Pairs.{has, Called, call_in, is_call_in, is_exit_in, kept_at}
use Rattle.cw_game.specs.Conditions.{first_failing, is_state, named_by, exits_by, is_row, is_violated, is_exit, ends_well, is_row_at, stands_after, weaver_moves, environment_moves}
use Rattle.cw_game.specs.Conditions.{callee_stands, is_back, are_backs, backs_stand, row_conditions, fault_in, all_rows, is_start, IsGoodStrategy}
use Rattle.cw_game.proofs.Failing.{none_more, none_append, none_mapped}
use Rattle.std.proofs.lemmas.Bool.{and_from as both}
use Rattle.cw_solve.specs.Contexts.{context}
use Rattle.cw_product.specs.Routed.{IsState, AreRouted}
use Rattle.cw_solve.proofs.Moves.{by_moves}
use Rattle.cw_solve.proofs.Tabling.{there}
use Rattle.cw_least_strategy.specs.declared.key.Key.{Key}
use Rattle.cw_least_strategy.specs.declared.key.Way.{Way}
use Rattle.cw_least_strategy.specs.Heights.{others}
use Rattle.cw_least_strategy.specs.Kept.{IsKey}
use Rattle.cw_least_strategy.specs.Strategies.{key_cmp, below, moves, best, after_return, is_lost_after, aim_at, back_at, backs_at, Act, Bad, Out, Both, Go, Into, goes, inner, act_in, act}
use Rattle.cw_least_strategy.specs.Strategies.{keys_in, named, number, how_by, row_at, start_key, IsLeastStrategy}
use Rattle.cw_solve.proofs.Sets.{has_set}
use Rattle.cw_fixpoint.proofs.Numbers.{at_number}
use Rattle.cw_least_strategy.proofs.Keys.{key_total, key_exact, before}
use Rattle.cw_least_strategy.proofs.Moving.{moved}
use Rattle.cw_least_strategy.proofs.Naming.{in_range, named_lower, fails, best_taken, taken_at, backs_lower, reached_keys, start_is}
use Rattle.cw_least_strategy.proofs.Ways.{no_call, way_by}
use Rattle.cw_lemmas.proofs.Lists.{map_contains as from_mapped, head_in, tail_in, in_either, contains_none}
use Rattle.std.proofs.lemmas.Bool.{not-false as not_false, or_parts as both_fail}
use Rattle.cw_lemmas.proofs.Numbers.{nat_eq_self as itself}
use Rattle.cw_lemmas.proofs.Lists.{contains_map as to_mapped, to_kept}
use Rattle.std.proofs.lemmas.Map.Keys.{any_passes_from_place as any_at}

-- no condition fails
seven : (a b c d e f h : Bool) → a ≡ true → b ≡ true → c ≡ true → d ≡ true → e ≡ true → f ≡ true → h ≡ true
    → first_failing {A = ℕ} ((1, a) ∷ (2, b) ∷ (3, c) ∷ (4, d) ∷ (5, e) ∷ (6, f) ∷ (7, h) ∷ []) ≡ None
seven a b c d e f h p q r s t u v =
    none_more a _ 1 p (none_more b _ 2 q (none_more c _ 3 r (none_more d _ 4 s (none_more e _ 5 t (none_more f _ 6 u (none_more h _ 7 v refl))))))

rows_none : (g : Game) (s : Strategy) (rows : List Row) (n : ℕ) → ((j : ℕ) (r : Row) → slice_get rows j ≡ Some r → first_failing (row_conditions g s (n + j) r (slice_get g.spots r.pos)) ≡ None)
    → first_failing (all_rows g s (enumerate_from n rows)) ≡ None
rows_none g s [] n h = refl
rows_none g s (r ∷ rows) n h =
    let z : n + 0 ≡ n = omega arith in
    none_append (map (λ c. (fault_in n c.0, c.1)) (row_conditions g s n r (slice_get g.spots r.pos))) (all_rows g s (enumerate_from (n + 1) rows))
    (none_mapped (λ c. fault_in n c) (row_conditions g s n r (slice_get g.spots r.pos)) (subst (λ i. first_failing (row_conditions g s i r (slice_get g.spots r.pos)) ≡ None) z (h 0 r refl)))
    (rows_none g s rows (n + 1) (λ j x e. let y : n + suc j ≡ n + 1 + j = omega arith in subst (λ i. first_failing (row_conditions g s i x (slice_get g.spots x.pos)) ≡ None) y (h (suc j) x e)))

-- tests of lists
all_of : {A : Type 0} (test : A → Bool) (xs : List A) → ((x : A) → Contains xs x → test x ≡ true) → list_all test xs ≡ true
all_of test [] h = refl
all_of test (x ∷ xs) h = both (test x) (list_all test xs) (h x (head_in x xs)) (all_of test xs (λ y c. h y (tail_in x xs y c)))

-- a back that is there is found
back_there : (backs : List (ℕ × ℕ)) (x b : ℕ) → Contains backs (x, b) → is_some (back_of backs x) ≡ true
back_there [] x b c = absurd (contains_none (x, b) c)
back_there (y ∷ backs) x b c = by (nat_eq y.0 x) refl (in_either y backs (x, b) c) (back_there backs x b)
  where
    by : (t : Bool) → nat_eq y.0 x ≡ t → (y ≡ (x, b)) ⊎ Contains backs (x, b) → (Contains backs (x, b) → is_some (back_of backs x) ≡ true)
        → is_some (option_map (λ b. b.1) (cond t (Some y) (find (λ b. nat_eq b.0 x) backs))) ≡ true
    by true t i rec = refl
    by false t (inl e) rec = let w : true ≡ false = sym (eq-eqb y.0 x (ap (λ (b : ℕ × ℕ). b.0) e)) ∙ t in cc
    by false t (inr d) rec = rec d

is_same : (p q e : ℕ) → (nat_eq p p && (nat_eq q q && nat_eq e e)) ≡ true
is_same p q e = both (nat_eq p p) (nat_eq q q && nat_eq e e) (itself p) (both (nat_eq q q) (nat_eq e e) (itself q) (itself e))

module _ (g : Game) (functions : ℕ) (routed : AreRouted g functions) (keys : List Key) (order : IsStrictlySortedBy key_cmp keys) (s : Strategy) (rows : s.rows ≡ map (row_at g keys) keys) where
  -- a key's row stands at its number
  row_is : (b : Key) → Contains keys b → slice_get s.rows (number keys b) ≡ Some (row_at g keys b)
  row_is b c = ap (λ r. slice_get r (number keys b)) rows ∙ slice_get-map (row_at g keys) keys (number keys b) ∙ ap (option_map (row_at g keys)) (at_number key_cmp key_total key_exact keys b c)

  stands : (b : Key) → Contains keys b → is_row_at b.pos b.state b.aim (slice_get s.rows (number keys b)) ≡ true
  stands b c = ap (is_row_at b.pos b.state b.aim) (row_is b c) ∙ is_same b.pos b.state b.aim

  module _ (i : ℕ) (k : Key) (at : slice_get keys i ≡ Some k) (is : IsKey g functions k) (named_in : (b : Key) → Contains (named g k) b → Contains keys b) where
    abbrev n : ℕ
    n = k.height - 1

    abbrev e : ℕ
    e = others g k.aim

    abbrev spot : Option Spot
    spot = slice_get g.spots k.pos

    abbrev row_by : Act → Row
    row_by a = record { pos = k.pos; state = k.state; aim = k.aim; how = how_by keys a }

    abbrev Meets : Act → Type 0
    Meets a = first_failing (row_conditions g s i (row_by a) (slice_get g.spots k.pos)) ≡ None

    smaller : (b : Key) → Contains (named g k) b → nat_lt (number keys b) i ≡ true
    smaller b c = lt-ltb (number keys b) i (before keys order i b k (named_in b c) at (named_lower g functions routed k is b c).1)

    -- the numbers of a row are in range
    row_range : (a : Act) → list_all (λ m. nat_lt m i) (named_by (how_by keys a)) ≡ true → list_all (is_state g) (exits_by (how_by keys a)) ≡ true → is_row g i (row_by a) ≡ true
    row_range a h x =
        let th = there g functions routed (context is.function e) is.needed in
        both (nat_lt k.pos (length g.spots)) _ (lt-ltb k.pos (length g.spots) (omega (arith, is.of.1, th.ends)))
        (both (nat_lt k.state g.states.count) _ (lt-ltb k.state g.states.count is.state)
        (both (nat_lt k.aim (2 ^ g.states.count)) _ (lt-ltb k.aim (2 ^ g.states.count) is.aim)
        (both (list_all (λ m. nat_lt m i) (named_by (how_by keys a))) (list_all (is_state g) (exits_by (how_by keys a))) h x)))

    meets : (a : Act) → is_row g i (row_by a) ≡ true → is_violated g k.state spot (how_by keys a) ≡ true → ends_well g k.state k.aim spot (how_by keys a) ≡ true
        → weaver_moves g s k.pos k.state k.aim spot (how_by keys a) ≡ true → environment_moves g s k.pos k.state k.aim spot (how_by keys a) ≡ true
        → callee_stands g s k.state (call_in spot) (how_by keys a) ≡ true → backs_stand g s k.state k.aim (call_in spot) (how_by keys a) ≡ true → Meets a
    meets a c1 c2 c3 c4 c5 c6 c7 =
        seven (is_row g i (row_by a)) (is_violated g k.state spot (how_by keys a)) (ends_well g k.state k.aim spot (how_by keys a)) (weaver_moves g s k.pos k.state k.aim spot (how_by keys a))
        (environment_moves g s k.pos k.state k.aim spot (how_by keys a)) (callee_stands g s k.state (call_in spot) (how_by keys a))
        (backs_stand g s k.state k.aim (call_in spot) (how_by keys a)) c1 c2 c3 c4 c5 c6 c7

    -- at a position where the environment moves
    goes_meets : (o : Option Way) → best g k moves ≡ o → weavers_in spot ≡ false → is_call_in spot ≡ false → is_exit_in spot ≡ false
        → ((b : Key) → Contains (keys_in (goes o)) b → Contains (named g k) b) → Meets (goes o)
    goes_meets None none w c x names = by (bad_in g k.state spot) refl
      where
        by : (b : Bool) → bad_in g k.state spot ≡ b → Meets Bad
        by true t = meets Bad (row_range Bad refl refl) t refl refl refl refl refl
        by false f =
            let v = way_by g functions routed k is spot refl w (by_moves g (Holds g n) k.pos k.state (has e) spot f c x ∙ fails g functions routed k is) in
            absurd (none-some v.0 (sym none ∙ v.1))
    goes_meets (Some v) some w c x names =
        let t = taken_at g functions routed k is v (best_taken g functions routed k is moves v some) in
        let r = t.1.0 in
        let m = moved g routed.closed k.pos k.state v.by r is.state t.1.1 in
        let at_is : is_row_at r.0 r.1 k.aim (slice_get s.rows (number keys v.to)) ≡ true =
        ap (λ (b : Key). is_row_at b.pos b.state b.aim (slice_get s.rows (number keys v.to))) (sym t.1.2) ∙ stands v.to (named_in v.to (names v.to (head_in v.to []))) in
        let after_is : stands_after s (number keys v.to) k.aim (leads_in g k.pos k.state [] spot v.by) ≡ true =
        ap (stands_after s (number keys v.to) k.aim) m.3.1 ∙ ap (λ (p : ℕ × ℕ). is_row_at p.0 p.1 k.aim (slice_get s.rows (number keys v.to))) m.3.2 ∙ at_is in
        let turn : not (weavers_in spot || (is_call_in spot || (is_exit_in spot || bad_in g k.state spot))) ≡ true =
        all_four (weavers_in spot) (is_call_in spot) (is_exit_in spot) (bad_in g k.state spot) w c x m.0 in
        meets (Go v) (row_range (Go v) (both (nat_lt (number keys v.to) i) true (smaller v.to (names v.to (head_in v.to []))) refl) refl) refl refl refl (both _ _ turn after_is) refl refl
      where
        all_four : (a b c d : Bool) → a ≡ false → b ≡ false → c ≡ false → d ≡ false → not (a || (b || (c || d))) ≡ true
        all_four false false false false w x y z = refl
        all_four true b c d w x y z = cc
        all_four false true c d w x y z = cc
        all_four false false true d w x y z = cc
        all_four false false false true w x y z = cc

    -- at a visit
    visit_meets : (j x : ℕ) (a : _) → spot ≡ Some (Visit j x a) → ((b : Key) → Contains (keys_in (inner g k (Some (Visit j x a)))) b → Contains (named g k) b) → Meets (inner g k (Some (Visit j x a)))
    visit_meets j x a es names =
        let skip = below g k (k.pos + 2) k.state k.aim in
        let tried = below g k (k.pos + 1) k.state k.aim in
        let cs : Contains (named g k) skip = names skip (head_in skip (tried ∷ [])) in
        let ct : Contains (named g k) tried = names tried (tail_in skip (tried ∷ []) tried (head_in tried [])) in
        let at_visit : weaver_moves g s k.pos k.state k.aim (Some (Visit j x a)) (how_by keys (Both skip tried)) ≡ true =
        both (is_row_at (k.pos + 2) k.state k.aim (slice_get s.rows (number keys skip))) (is_row_at (k.pos + 1) k.state k.aim (slice_get s.rows (number keys tried)))
        (stands skip (named_in skip cs)) (stands tried (named_in tried ct)) in
        meets (Both skip tried)
        (row_range (Both skip tried) (both (nat_lt (number keys skip) i) _ (smaller skip cs) (both (nat_lt (number keys tried) i) true (smaller tried ct) refl)) refl)
        refl refl (ap (λ o. weaver_moves g s k.pos k.state k.aim o (how_by keys (Both skip tried))) es ∙ at_visit) refl refl refl

    -- at an exit
    exit_meets : (f : ℕ) → spot ≡ Some (Exit f) → Meets Out
    exit_meets f es =
        let lost : (nat_eq f g.main || has e k.state) ≡ false = sym (ap (holds_in g (Holds g n) k.pos k.state (has e)) es) ∙ fails g functions routed k is in
        let h = both_fail (nat_eq f g.main) (has e k.state) lost in
        let o = sym (has_set (λ x. not (has k.aim x)) g.states.count k.state) ∙ h.1 in
        let aimed : has k.aim k.state ≡ true = not_false (has k.aim k.state) (sym (ap (λ b. b && not (has k.aim k.state)) (lt-ltb k.state g.states.count is.state)) ∙ o) in
        meets Out (row_range Out refl refl) refl
        (ap (λ o. is_exit g o && has k.aim k.state) es ∙ both (not (nat_eq f g.main)) (has k.aim k.state) (ap not h.0) aimed) refl refl refl refl

    -- at a call
    into_meets : (c : Called) → call_in spot ≡ Some c → ((b : Key) → Contains (keys_in (act_in g k spot (Some c))) b → Contains (named g k) b) → Meets (act_in g k spot (Some c))
    into_meets c es names =
        let callee = below g k (g.entry c.function) k.state (aim_at g k c) in
        let backs = backs_at g k c in
        let count = g.states.count in
        let numbered : List (ℕ × ℕ) = map (λ b. (b.0, number keys b.1)) backs in
        let a : Act = Into callee backs in
        let cc_in : Contains (named g k) callee = names callee (head_in callee (map (λ b. b.1) backs)) in
        let callee_row : slice_get s.rows (number keys callee) ≡ Some (row_at g keys callee) = row_is callee (named_in callee cc_in) in
        let back_in : (b : ℕ × Key) → Contains backs b → Contains (named g k) b.1
        = λ b d. names b.1 (tail_in callee (map (λ b. b.1) backs) b.1 (to_mapped (λ (b : ℕ × Key). b.1) backs b d)) in
        let smaller_all : list_all (λ m. nat_lt m i) (number keys callee ∷ map (λ b. b.1) numbered) ≡ true
        = both (nat_lt (number keys callee) i) _ (smaller callee cc_in) (all_of (λ m. nat_lt m i) (map (λ b. b.1) numbered) (λ m d.
        let y = from_mapped (λ (b : ℕ × ℕ). b.1) numbered m d in
        let z = from_mapped (λ (b : ℕ × Key). (b.0, number keys b.1)) backs y.0 y.1 in
        subst (λ m. nat_lt m i ≡ true) (ap (λ (b : ℕ × ℕ). b.1) z.2 ∙ y.2) (smaller z.0.1 (back_in z.0 z.1)))) in
        let exits_all : list_all (is_state g) (map (λ b. b.0) numbered) ≡ true
        = all_of (is_state g) (map (λ b. b.0) numbered) (λ m d.
        let y = from_mapped (λ (b : ℕ × ℕ). b.0) numbered m d in
        let z = from_mapped (λ (b : ℕ × Key). (b.0, number keys b.1)) backs y.0 y.1 in
        subst (λ m. is_state g m ≡ true) (ap (λ (b : ℕ × ℕ). b.0) z.2 ∙ y.2) (lt-ltb z.0.0 count (backs_lower g functions routed k is c es z.0 z.1).0)) in
        let enters_is : callee_stands g s k.state (Some c) (how_by keys a) ≡ true
        = ap (λ o. callee_by c o) callee_row ∙ both (nat_eq (g.entry c.function) (g.entry c.function)) (nat_eq k.state k.state) (itself (g.entry c.function)) (itself k.state) in
        let every_aim : list_all (λ x. not (has (aim_at g k c) x) || is_some (back_of numbered x)) (range_with_len 0 count) ≡ true
        = all_of (λ x. not (has (aim_at g k c) x) || is_some (back_of numbered x)) (range_with_len 0 count) (λ x d. aimed_back c numbered x (in_range count x d) (λ t.
        back_there numbered x (number keys (after_return g k c x)) (to_mapped (λ (b : ℕ × Key). (b.0, number keys b.1)) backs (x, after_return g k c x)
        (to_kept (back_at g k c) (range_with_len 0 count) x (x, after_return g k c x) d (ap (λ t. cond t (Some (x, after_return g k c x)) None) t))))) in
        let every_back : list_all (is_back g s k.state k.aim c (aim_at g k c)) numbered ≡ true
        = all_of (is_back g s k.state k.aim c (aim_at g k c)) numbered (λ b d.
        let z = from_mapped (λ (b : ℕ × Key). (b.0, number keys b.1)) backs b d in
        let l = backs_lower g functions routed k is c es z.0 z.1 in
        subst (λ (b : ℕ × ℕ). is_back g s k.state k.aim c (aim_at g k c) b ≡ true) z.2
        (both (has (aim_at g k c) z.0.0) (is_row_at c.back (returned g.states (kept_at c.split k.state) z.0.0) k.aim (slice_get s.rows (number keys z.0.1)))
        (has_set (is_lost_after g k c) count z.0.0 ∙ both (nat_lt z.0.0 count) (is_lost_after g k c z.0.0) (lt-ltb z.0.0 count l.0) l.1)
        (ap (λ (b : Key). is_row_at b.pos b.state b.aim (slice_get s.rows (number keys z.0.1))) (sym l.2) ∙ stands z.0.1 (named_in z.0.1 (back_in z.0 z.1))))) in
        let backs_is : backs_stand g s k.state k.aim (Some c) (how_by keys a) ≡ true
        = ap (are_backs g s k.state k.aim numbered (Some c)) callee_row
        ∙ both (list_all (λ x. not (has (aim_at g k c) x) || is_some (back_of numbered x)) (range_with_len 0 count)) _ every_aim every_back in
        meets a (row_range a smaller_all exits_all) refl refl refl refl
        (ap (λ o. callee_stands g s k.state o (how_by keys a)) es ∙ enters_is) (ap (λ o. backs_stand g s k.state k.aim o (how_by keys a)) es ∙ backs_is)
      where
        callee_by : Called → Option Row → Bool
        callee_by c None = false
        callee_by c (Some r) = nat_eq r.pos (g.entry c.function) && nat_eq r.state k.state

        aimed_back : (c : Called) (numbered : List (ℕ × ℕ)) (x : ℕ) → x < g.states.count → (is_lost_after g k c x ≡ true → is_some (back_of numbered x) ≡ true)
            → (not (has (aim_at g k c) x) || is_some (back_of numbered x)) ≡ true
        aimed_back c numbered x lt h = by (is_lost_after g k c x) refl
          where
            is_has : has (aim_at g k c) x ≡ is_lost_after g k c x
            is_has = has_set (is_lost_after g k c) g.states.count x ∙ ap (λ b. b && is_lost_after g k c x) (lt-ltb x g.states.count lt)

            by : (t : Bool) → is_lost_after g k c x ≡ t → (not (has (aim_at g k c) x) || is_some (back_of numbered x)) ≡ true
            by true t = ap (λ b. not b || is_some (back_of numbered x)) (is_has ∙ t) ∙ h t
            by false t = ap (λ b. not b || is_some (back_of numbered x)) (is_has ∙ t)

    Names : Act → Type 0
    Names a = (b : Key) → Contains (keys_in a) b → Contains (named g k) b

    inner_meets : (o : Option Spot) → spot ≡ o → is_call_in spot ≡ false → ((b : Key) → Contains (keys_in (inner g k o)) b → Contains (named g k) b) → Meets (inner g k o)
    inner_meets (Some (Visit j x a)) es c names = visit_meets j x a es names
    inner_meets (Some (Exit f)) es c names = exit_meets f es
    inner_meets None es c names = goes_meets (best g k moves) refl (ap weavers_in es) c (ap is_exit_in es) names
    inner_meets (Some (Asked j x a)) es c names = goes_meets (best g k moves) refl (ap weavers_in es) c (ap is_exit_in es) names
    inner_meets (Some (Step m)) es c names = goes_meets (best g k moves) refl (ap weavers_in es) c (ap is_exit_in es) names
    inner_meets (Some (Branch l m)) es c names = goes_meets (best g k moves) refl (ap weavers_in es) c (ap is_exit_in es) names
    inner_meets (Some (Label j l m)) es c names = goes_meets (best g k moves) refl (ap weavers_in es) c (ap is_exit_in es) names
    inner_meets (Some (Open j d m)) es c names = goes_meets (best g k moves) refl (ap weavers_in es) c (ap is_exit_in es) names
    inner_meets (Some (Close j d m)) es c names = goes_meets (best g k moves) refl (ap weavers_in es) c (ap is_exit_in es) names
    inner_meets (Some (Call j f m)) es c names = goes_meets (best g k moves) refl (ap weavers_in es) c (ap is_exit_in es) names
    inner_meets (Some (SplitCall j f m)) es c names = goes_meets (best g k moves) refl (ap weavers_in es) c (ap is_exit_in es) names

    pub act_meets : Meets (act g k)
    act_meets = by (call_in spot) refl (λ b c. c)
      where
        by : (o : Option Called) → call_in spot ≡ o → ((b : Key) → Contains (keys_in (act_in g k spot o)) b → Contains (keys_in (act_in g k spot (call_in spot))) b) → Meets (act_in g k spot o)
        by None e names = inner_meets spot refl (no_call spot e) names
        by (Some c) e names = into_meets c e names

module _ (g : Game) (functions : ℕ) (routed : AreRouted g functions) (s : Strategy) (is : IsLeastStrategy g s) (state : IsState g g.states.start) where
  abbrev start : Key
  start = start_key g is.height

  needed : (k : Key) → Contains is.keys k → Reached (named g) (start ∷ []) k
  needed k c = (is.exactly.1 k).0 c

  key_is : (k : Key) → Contains is.keys k → IsKey g functions k
  key_is k c = reached_keys g functions routed start k (start_is g functions routed is.height state is.is_height) (needed k c)

  begins : Contains is.keys start
  begins = (is.exactly.1 start).1 (first start (head_in start []))

  row_meets : (i : ℕ) (k : Key) → slice_get is.keys i ≡ Some k → first_failing (row_conditions g s i (row_at g is.keys k) (slice_get g.spots k.pos)) ≡ None
  row_meets i k at =
      let c : Contains is.keys k = (i, slice_get_within is.keys i k at, get_or_from_slice_get is.keys i k k at) in
      act_meets g functions routed is.keys is.exactly.0 s is.rows i k at (key_is k c) (λ b d. (is.exactly.1 b).1 (then k b (needed k c) d))

  at_row : (i : ℕ) (r : Row) → slice_get s.rows i ≡ Some r → first_failing (row_conditions g s i r (slice_get g.spots r.pos)) ≡ None
  at_row i r e = by (slice_get is.keys i) refl (sym (ap (λ l. slice_get l i) is.rows ∙ slice_get-map (row_at g is.keys) is.keys i) ∙ e)
    where
      by : (o : Option Key) → slice_get is.keys i ≡ o → option_map (row_at g is.keys) o ≡ Some r → first_failing (row_conditions g s i r (slice_get g.spots r.pos)) ≡ None
      by None eo f = absurd (none-some r f)
      by (Some k) eo f = subst (λ (r : Row). first_failing (row_conditions g s i r (slice_get g.spots r.pos)) ≡ None) (same_Some (row_at g is.keys k) r f) (row_meets i k eo)

  -- The strategy by least heights meets the conditions.
  pub least_good : IsGoodStrategy g s
  least_good =
      none_more (nat_eq s.states g.states.count) _ (fault_in 0 1) (eq-eqb s.states g.states.count is.states)
      (none_append (all_rows g s (enumerate_from 0 s.rows)) ((fault_in (length s.rows) 8, list_any (is_start g) s.rows) ∷ [])
      (rows_none g s s.rows 0 (λ j r e. let z : j ≡ 0 + j = omega arith in subst (λ i. first_failing (row_conditions g s i r (slice_get g.spots r.pos)) ≡ None) z (at_row j r e)))
      (none_more (list_any (is_start g) s.rows) _ (fault_in (length s.rows) 8)
      (any_at (is_start g) s.rows (number is.keys start) (row_at g is.keys start) (row_is g functions routed is.keys is.exactly.0 s is.rows start begins)
      (is_same (g.entry g.main) g.states.start 0)) refl))
