-- Each fair game has a search that is sound and settled everywhere: what lowers a number is set until nothing does.
use Rattle.std.proofs.Common.{◌≡◌, ℕ, zero, suc, ◌+◌, ◌<◌, ◌≤◌, [], Bool, true, false, cond, Option, Some, None, length, refl, sym, ap, ◌∙◌, subst, arith, ◌⊎◌, inl, inr, le_refl}
use Rattle.std.specs.Prelude.{slice_get}
use Rattle.std.proofs.lemmas.Option.{none-some, same_Some}
use Rattle.std.proofs.lemmas.Bool.{cases_eq}
use Rattle.std.proofs.lemmas.Bool.Decides.{leb_tells}
use Rattle.cw_lemmas.proofs.Truths.{not_both}
use Rattle.cw_certs.specs.declared.moves.Move.{Move}
use Rattle.cw_certs.specs.declared.moves.Move.TheVariants.{On, Left, Right, Opened, Failed}
use Rattle.cw_game.specs.declared.spots.Spot.{Spot}
use Rattle.cw_game.specs.declared.spots.Spot.TheVariants.{Call}
use Rattle.cw_game.specs.Games.{Game, Config, leads_in, bad_in}
use Rattle.cw_audit_table.specs.Runs.{skipped, cut, is_step}
use Rattle.cw_audit_table.specs.Conditions.{is_inner}
use Rattle.cw_audit_search.specs.Searches.{Found, is_group, is_row, IsNumberSet, IsReachSet, IsBestSet}
use Rattle.cw_audit_search.specs.Sound.{IsFair, IsArrival, IsSound, IsProposal, IsHitCut, HasFallen}
use Rattle.cw_audit_search.specs.Settled.{IsCovered, IsClosedAt, IsSettled}
use Rattle.cw_audit_search.proofs.Proposing.{main_arrival, call_arrival, entry_proposal, move_proposal, return_proposal, proposal_hits, proposal_row_key}
use Rattle.cw_audit_search.proofs.Setting.{row_itself, group_itself, number_falls, number_sound, reach_falls, reach_sound, best_falls, best_sound, begins_sound}

-- ---- finitely many cases

either_both : {Q A B : Type 0} → Q ⊎ A → Q ⊎ B → Q ⊎ (A × B)
either_both (inl q) b = inl q
either_both (inr a) (inl q) = inl q
either_both (inr a) (inr b) = inr (a, b)

either_to : {Q A B : Type 0} → Q ⊎ A → (A → B) → Q ⊎ B
either_to (inl q) f = inl q
either_to (inr a) f = inr (f a)

-- one of the first n numbers gives the one, or each the other
each_or : {Q : Type 0} (n : ℕ) (P : ℕ → Type 0) → ((i : ℕ) → i < n → Q ⊎ P i) → Q ⊎ ((i : ℕ) → i < n → P i)
each_or zero P h = inr (λ i l. absurd (omega (arith, l)))
each_or (suc n) P h =
    either_to (either_both (h n (omega arith)) (each_or n P (λ i l. h i (omega (arith, l)))))
    (λ k i l. elim (cases_eq i n) [ inl e ↦ subst P (sym e) k.0 | inr d ↦ k.1 i (omega (arith, l, d)) ])

-- ---- what is left to lower

abbrev value : Option ℕ → ℕ
value None = 65538
value (Some a) = a

abbrev sum_to : (ℕ → ℕ) → ℕ → ℕ
sum_to h zero = 0
sum_to h (suc n) = h n + sum_to h n

sum_le : (h k : ℕ → ℕ) (n : ℕ) → ((i : ℕ) → h i ≤ k i) → sum_to h n ≤ sum_to k n
sum_le h k zero le = omega arith
sum_le h k (suc n) le = let a = le n in let b = sum_le h k n le in omega (arith, a, b)

sum_lt : (h k : ℕ → ℕ) (n i : ℕ) → ((i : ℕ) → h i ≤ k i) → i < n → h i < k i → sum_to h n < sum_to k n
sum_lt h k zero i le l lt = absurd (omega (arith, l))
sum_lt h k (suc n) i le l lt = elim (cases_eq i n) [
  | inl e ↦ let a = subst (λ j. h j < k j) e lt in let b = sum_le h k n le in omega (arith, a, b)
  | inr d ↦ let a = le n in let b = sum_lt h k n i le (omega (arith, l, d)) lt in omega (arith, a, b)
]

module _ (g : Game) (functions : ℕ) where
  abbrev groups_left : Found → ℕ
  groups_left s = sum_to (λ f. sum_to (λ q. value (s.reach f q)) g.states.count) functions

  abbrev rows_left : Found → ℕ
  rows_left s = sum_to (λ f. sum_to (λ q. sum_to (λ p. sum_to (λ x. value (s.number f q p x)) g.states.count) (length g.spots)) g.states.count) functions

  abbrev left : Found → ℕ
  left s = value s.best + (groups_left s + rows_left s)

  value_falls : (o o2 : Option ℕ) → ((a : ℕ) → o ≡ Some a → (b : ℕ) × (o2 ≡ Some b) × (b ≤ a)) → value o2 ≤ 65538 → value o2 ≤ value o
  value_falls None o2 h low = low
  value_falls (Some a) o2 h low = let z = h a refl in let e = ap value z.1 in omega (arith, e, z.2)

  value_low : (o : Option ℕ) → ((a : ℕ) → o ≡ Some a → a ≤ 65537) → value o ≤ 65538
  value_low None h = omega arith
  value_low (Some a) h = let z = h a refl in omega (arith, z)

  module _ (s s2 : Found) (sound : IsSound g functions s2) (fallen : HasFallen s s2) where
    number_le : (f q p x : ℕ) → value (s2.number f q p x) ≤ value (s.number f q p x)
    number_le f q p x =
        value_falls (s.number f q p x) (s2.number f q p x) (fallen.number f q p x)
        (value_low (s2.number f q p x) (λ a e. let z = (sound.inside f q p x a e).2 in omega (arith, z)))

    reach_le : (f q : ℕ) → value (s2.reach f q) ≤ value (s.reach f q)
    reach_le f q =
        value_falls (s.reach f q) (s2.reach f q) (fallen.reach f q) (value_low (s2.reach f q) (λ a e. let z = (sound.entered f q a e).number in omega (arith, z)))

    best_le : value s2.best ≤ value s.best
    best_le = value_falls s.best s2.best fallen.best (value_low s2.best (λ k e. let z = (sound.violated k e).2 in omega (arith, z)))

    groups_le : groups_left s2 ≤ groups_left s
    groups_le = sum_le (λ f. sum_to (λ q. value (s2.reach f q)) g.states.count) (λ f. sum_to (λ q. value (s.reach f q)) g.states.count) functions
        (λ f. sum_le (λ q. value (s2.reach f q)) (λ q. value (s.reach f q)) g.states.count (reach_le f))

    line_le : (f q p : ℕ) → sum_to (λ x. value (s2.number f q p x)) g.states.count ≤ sum_to (λ x. value (s.number f q p x)) g.states.count
    line_le f q p = sum_le (λ x. value (s2.number f q p x)) (λ x. value (s.number f q p x)) g.states.count (number_le f q p)

    sheet_le : (f q : ℕ) → sum_to (λ p. sum_to (λ x. value (s2.number f q p x)) g.states.count) (length g.spots)
        ≤ sum_to (λ p. sum_to (λ x. value (s.number f q p x)) g.states.count) (length g.spots)
    sheet_le f q =
        sum_le (λ p. sum_to (λ x. value (s2.number f q p x)) g.states.count) (λ p. sum_to (λ x. value (s.number f q p x)) g.states.count) (length g.spots) (line_le f q)

    book_le : (f : ℕ) → sum_to (λ q. sum_to (λ p. sum_to (λ x. value (s2.number f q p x)) g.states.count) (length g.spots)) g.states.count
        ≤ sum_to (λ q. sum_to (λ p. sum_to (λ x. value (s.number f q p x)) g.states.count) (length g.spots)) g.states.count
    book_le f =
        sum_le (λ q. sum_to (λ p. sum_to (λ x. value (s2.number f q p x)) g.states.count) (length g.spots))
        (λ q. sum_to (λ p. sum_to (λ x. value (s.number f q p x)) g.states.count) (length g.spots)) g.states.count (sheet_le f)

    rows_le : rows_left s2 ≤ rows_left s
    rows_le =
        sum_le (λ f. sum_to (λ q. sum_to (λ p. sum_to (λ x. value (s2.number f q p x)) g.states.count) (length g.spots)) g.states.count)
        (λ f. sum_to (λ q. sum_to (λ p. sum_to (λ x. value (s.number f q p x)) g.states.count) (length g.spots)) g.states.count) functions book_le

    best_less : value s2.best < value s.best → left s2 < left s
    best_less l = let a = groups_le in let b = rows_le in omega (arith, l, a, b)

    reach_less : (f q : ℕ) → f < functions → q < g.states.count → value (s2.reach f q) < value (s.reach f q) → left s2 < left s
    reach_less f q lf lq l =
        let inner = sum_lt (λ q. value (s2.reach f q)) (λ q. value (s.reach f q)) g.states.count q (reach_le f) lq l in
        let a = sum_lt (λ f. sum_to (λ q. value (s2.reach f q)) g.states.count) (λ f. sum_to (λ q. value (s.reach f q)) g.states.count) functions f
        (λ f. sum_le (λ q. value (s2.reach f q)) (λ q. value (s.reach f q)) g.states.count (reach_le f)) lf inner in
        let b = rows_le in
        let c = best_le in
        omega (arith, a, b, c)

    number_less : (f q p x : ℕ) → f < functions → q < g.states.count → p < length g.spots → x < g.states.count
        → value (s2.number f q p x) < value (s.number f q p x) → left s2 < left s
    number_less f q p x lf lq lp lx l =
        let in_line = sum_lt (λ x. value (s2.number f q p x)) (λ x. value (s.number f q p x)) g.states.count x (number_le f q p) lx l in
        let in_sheet = sum_lt (λ p. sum_to (λ x. value (s2.number f q p x)) g.states.count) (λ p. sum_to (λ x. value (s.number f q p x)) g.states.count)
        (length g.spots) p (line_le f q) lp in_line in
        let in_book = sum_lt (λ q. sum_to (λ p. sum_to (λ x. value (s2.number f q p x)) g.states.count) (length g.spots))
        (λ q. sum_to (λ p. sum_to (λ x. value (s.number f q p x)) g.states.count) (length g.spots)) g.states.count q (sheet_le f) lq in_sheet in
        let a = sum_lt (λ f. sum_to (λ q. sum_to (λ p. sum_to (λ x. value (s2.number f q p x)) g.states.count) (length g.spots)) g.states.count)
        (λ f. sum_to (λ q. sum_to (λ p. sum_to (λ x. value (s.number f q p x)) g.states.count) (length g.spots)) g.states.count) functions f book_le lf in_book in
        let b = groups_le in
        let c = best_le in
        omega (arith, a, b, c)

-- a number is there that isn't greater, or this one is less than what is there
lower_or : (o : Option ℕ) (n : ℕ) → n ≤ 65537 → ((b : ℕ) × (o ≡ Some b) × (b ≤ n)) ⊎ (n < value o)
lower_or None n low = inr (omega (arith, low))
lower_or (Some b) n low = elim (leb_tells b n) [ inl h ↦ inl (b, refl, h.1) | inr h ↦ inr h.1 ]

not_more : (o : Option ℕ) (n a : ℕ) → n < value o → o ≡ Some a → n ≤ a
not_more o n a l e = let z = ap value e in omega (arith, l, z)

-- ---- a step more, or all is settled

module _ (g : Game) (functions : ℕ) (fair : IsFair g functions) (s : Found) (sound : IsSound g functions s) where
  -- a sound search with less left
  abbrev Better : Type 0
  Better = (s2 : Found) × IsSound g functions s2 × (left g functions s2 < left g functions s)

  set_best : (k : ℕ) → k < value s.best → IsHitCut g k → Better
  set_best k l hit =
      let s2 : Found = record { reach = s.reach; number = s.number; best = Some k } in
      let set : IsBestSet s s2 k = record { reach = λ f q. refl; number = λ f q p x. refl; best = refl } in
      let good = best_sound g functions fair s s2 sound k set hit in
      (s2, good, best_less g functions s s2 good (best_falls g functions fair s s2 sound k set (λ a e. not_more s.best k a l e)) l)

  set_reach : (f q r : ℕ) → r < value (s.reach f q) → IsArrival g f q r → Better
  set_reach f q r l arrival =
      let s2 : Found = record { reach = λ f2 q2. cond (is_group f q f2 q2) (Some r) (s.reach f2 q2); number = s.number; best = s.best } in
      let set : IsReachSet s s2 f q r = record { reach = λ f2 q2. refl; number = λ f2 q2 p2 x2. refl; best = refl } in
      let falls : (a : ℕ) → s.reach f q ≡ Some a → r ≤ a = λ a e. not_more (s.reach f q) r a l e in
      let good = reach_sound g functions fair s s2 sound f q r set falls arrival in
      let here : s2.reach f q ≡ Some r = ap (λ b. cond b (Some r) (s.reach f q)) (group_itself f q) in
      let less : value (s2.reach f q) < value (s.reach f q) = subst (λ o. value o < value (s.reach f q)) (sym here) l in
      (s2, good, reach_less g functions s s2 good (reach_falls g functions fair s s2 sound f q r set falls) f q (fair.below f arrival.function) arrival.state less)

  set_number : (f q p x n : ℕ) → n < value (s.number f q (skipped g p) x) → IsProposal g s f q p x n → bad_in g x (slice_get g.spots (skipped g p)) ≡ false → Better
  set_number f q p x n l o fine =
      let z = skipped g p in
      let s2 : Found = record { reach = s.reach; number = λ f2 q2 p2 x2. cond (is_row f q z x f2 q2 p2 x2) (Some n) (s.number f2 q2 p2 x2); best = s.best } in
      let set : IsNumberSet s s2 f q z x n = record { reach = λ f2 q2. refl; number = λ f2 q2 p2 x2. refl; best = refl } in
      let falls : (a : ℕ) → s.number f q z x ≡ Some a → n ≤ a = λ a e. not_more (s.number f q z x) n a l e in
      let good = number_sound g functions fair s s2 sound f q p x n set falls o fine in
      let row_key = proposal_row_key g functions fair s sound f q p x n o fine in
      let short = fair.short f row_key.function in
      let within : z < length g.spots = let le = row_key.position.1 in omega (arith, le, short) in
      let here : s2.number f q z x ≡ Some n = ap (λ b. cond b (Some n) (s.number f q z x)) (row_itself f q z x) in
      let less : value (s2.number f q z x) < value (s.number f q z x) = subst (λ o. value o < value (s.number f q z x)) (sym here) l in
      (s2, good, number_less g functions s s2 good (number_falls g functions fair s s2 sound f q p x n set falls) f q z x row_key.below row_key.entered within row_key.state less)

  cover : (f q r p x n : ℕ) → IsProposal g s f q p x n → s.reach f q ≡ Some r → Better ⊎ IsCovered g s f q r p x n
  cover f q r p x n o er = by (bad_in g x (slice_get g.spots (skipped g p))) refl
    where
      by : (b : Bool) → bad_in g x (slice_get g.spots (skipped g p)) ≡ b → Better ⊎ IsCovered g s f q r p x n
      by true bad = elim (lower_or s.best (cut (r + n)) (omega arith)) [
        | inl h ↦ inr (record { bad = λ e. h; good = λ e. absurd (not_both (bad_in g x (slice_get g.spots (skipped g p))) bad e) })
        | inr l ↦ inl (set_best (cut (r + n)) l (proposal_hits g functions fair s sound f q p x n r o er bad))
      ]
      by false fine = elim (lower_or (s.number f q (skipped g p) x) n (let z = o.number in omega (arith, z))) [
        | inl h ↦ inr (record { bad = λ e. absurd (not_both (bad_in g x (slice_get g.spots (skipped g p))) e fine); good = λ e. h })
        | inr l ↦ inl (set_number f q p x n l o fine)
      ]

  module _ (f q r p x a : ℕ) (er : s.reach f q ≡ Some r) (ea : s.number f q p x ≡ Some a) where
    abbrev Steps : Move → Type 0
    Steps by = (c : Config) → is_inner (slice_get g.spots p) ≡ true → leads_in g p x [] (slice_get g.spots p) by ≡ Some c → IsCovered g s f q r c.pos c.state (cut (a + 1))

    step_or : (by : Move) → is_step by ≡ true → Better ⊎ Steps by
    step_or by step = on_inner (is_inner (slice_get g.spots p)) refl (leads_in g p x [] (slice_get g.spots p) by) refl
      where
        on_inner : (b : Bool) → is_inner (slice_get g.spots p) ≡ b → (o : Option Config) → leads_in g p x [] (slice_get g.spots p) by ≡ o → Better ⊎ Steps by
        on_inner false e o eo = inr (λ c inner l. absurd (not_both (is_inner (slice_get g.spots p)) inner e))
        on_inner true e None eo = inr (λ c inner l. absurd (none-some c (sym eo ∙ l)))
        on_inner true e (Some c) eo =
            either_to (cover f q r c.pos c.state (cut (a + 1)) (move_proposal g functions fair s sound f q p x a by c ea e step eo) er)
            (λ covered d inner l. subst (λ (z : Config). IsCovered g s f q r z.pos z.state (cut (a + 1))) (same_Some c d (sym eo ∙ l)) covered)

    abbrev AllSteps : Type 0
    AllSteps = Steps On × (Steps Left × (Steps Right × (Steps Opened × Steps Failed)))

    steps_or : Better ⊎ AllSteps
    steps_or = either_both (step_or On refl) (either_both (step_or Left refl) (either_both (step_or Right refl) (either_both (step_or Opened refl) (step_or Failed refl))))

    step_of : AllSteps → (by : Move) → is_step by ≡ true → Steps by
    step_of h On e = h.0
    step_of h Left e = h.1.0
    step_of h Right e = h.1.1.0
    step_of h Opened e = h.1.1.1.0
    step_of h Failed e = h.1.1.1.1
    step_of h _ e = cc

    abbrev CallsIn : Option Spot → Type 0
    CallsIn (Some (Call j h k)) = (r2 : ℕ) × (s.reach h x ≡ Some r2) × (r2 ≤ cut (r + a + 1)) × IsCovered g s h x r2 (g.entry h) x 0
    CallsIn _ = Unit {0}

    call_or : (o : Option Spot) → slice_get g.spots p ≡ o → Better ⊎ CallsIn o
    call_or (Some (Call j h k)) eo = elim (lower_or (s.reach h x) (cut (r + a + 1)) (omega arith)) [
      | inl z ↦ either_to (cover h x z.0 (g.entry h) x 0 (entry_proposal g functions fair s sound h x z.0 z.1) z.1) (λ covered. (z.0, z.1, z.2, covered))
      | inr l ↦ inl (set_reach h x (cut (r + a + 1)) l (call_arrival g functions fair s sound f q r p x a j h k er ea eo))
    ]
    call_or _ eo = inr tt

    abbrev ReturnsIn : Option Spot → Type 0
    ReturnsIn (Some (Call j h k)) = (y e : ℕ) → s.number h x (g.exit h) y ≡ Some e → IsCovered g s f q r k y (cut (a + e + 2))
    ReturnsIn _ = Unit {0}

    return_or : (o : Option Spot) → slice_get g.spots p ≡ o → Better ⊎ ReturnsIn o
    return_or (Some (Call j h k)) eo =
        either_to (each_or g.states.count (λ y. (e : ℕ) → s.number h x (g.exit h) y ≡ Some e → IsCovered g s f q r k y (cut (a + e + 2))) (λ y l. one y (s.number h x (g.exit h) y) refl))
        (λ each y e i. each y (sound.keyed h x (g.exit h) y e i).state e i)
      where
        one : (y : ℕ) (o : Option ℕ) → s.number h x (g.exit h) y ≡ o → Better ⊎ ((e : ℕ) → s.number h x (g.exit h) y ≡ Some e → IsCovered g s f q r k y (cut (a + e + 2)))
        one y None en = inr (λ e i. absurd (none-some e (sym en ∙ i)))
        one y (Some e) en =
            either_to (cover f q r k y (cut (a + e + 2)) (return_proposal g functions fair s sound f q p x a j h k y e ea eo en) er)
            (λ covered d i. subst (λ n. IsCovered g s f q r k y (cut (a + n + 2))) (same_Some e d (sym en ∙ i)) covered)
    return_or _ eo = inr tt

    closed_or : Better ⊎ IsClosedAt g s f q r p x a
    closed_or =
        either_to (either_both steps_or (either_both (call_or (slice_get g.spots p) refl) (return_or (slice_get g.spots p) refl)))
        (λ k. record {
          steps = λ by c inner step l. step_of k.0 by step c inner l;
          calls = λ j h back e. subst CallsIn e k.1.0;
          returns = λ j h back y n e i. subst ReturnsIn e k.1.1 y n i;
        })

  abbrev ClosedIn : (f q p x : ℕ) → Type 0
  ClosedIn f q p x = (r a : ℕ) → s.reach f q ≡ Some r → s.number f q p x ≡ Some a → IsClosedAt g s f q r p x a

  at_or : (f q p x : ℕ) (o m : Option ℕ) → s.reach f q ≡ o → s.number f q p x ≡ m → Better ⊎ ClosedIn f q p x
  at_or f q p x None m eo em = inr (λ r a er ea. absurd (none-some r (sym eo ∙ er)))
  at_or f q p x (Some r) None eo em = inr (λ r2 a er ea. absurd (none-some a (sym em ∙ ea)))
  at_or f q p x (Some r) (Some a) eo em =
      either_to (closed_or f q r p x a eo em)
      (λ closed r2 a2 er ea. subst (λ n. IsClosedAt g s f q n p x a2) (same_Some r r2 (sym eo ∙ er)) (subst (λ n. IsClosedAt g s f q r p x n) (same_Some a a2 (sym em ∙ ea)) closed))

  settled_or : Better ⊎ IsSettled g s 65538
  settled_or =
      either_to (either_both (cover g.main g.states.start 0 (g.entry g.main) g.states.start 0 (entry_proposal g functions fair s sound g.main g.states.start 0 sound.main) sound.main)
      (each_or functions (λ f. (q : ℕ) → q < g.states.count → (p : ℕ) → p < length g.spots → (x : ℕ) → x < g.states.count → ClosedIn f q p x)
      (λ f lf. each_or g.states.count (λ q. (p : ℕ) → p < length g.spots → (x : ℕ) → x < g.states.count → ClosedIn f q p x)
      (λ q lq. each_or (length g.spots) (λ p. (x : ℕ) → x < g.states.count → ClosedIn f q p x)
      (λ p lp. each_or g.states.count (λ x. ClosedIn f q p x) (λ x lx. at_or f q p x (s.reach f q) (s.number f q p x) refl refl))))))
      (λ k. record {
        begins = k.0;
        closed = λ f q r p x a er ea low.
            let at = sound.keyed f q p x a ea in
            let short = fair.short f at.function in
            let le = at.position.1 in
            k.1 f at.below q at.entered p (omega (arith, le, short)) x at.state r a er ea;
      })

-- a search that has ended
pub record IsOver (g : Game) (functions : ℕ) (s : Found) : Type 0 where
  pub sound : IsSound g functions s
  pub settled : IsSettled g s 65538

settle : (g : Game) (functions : ℕ) → IsFair g functions → (n : ℕ) (s : Found) → IsSound g functions s → left g functions s ≤ n → (s2 : Found) × IsOver g functions s2
settle g functions fair zero s sound le = elim (settled_or g functions fair s sound) [
  | inl b ↦ absurd (let l = b.2 in omega (arith, l, le))
  | inr d ↦ (s, record { sound = sound; settled = d })
]
settle g functions fair (suc n) s sound le = elim (settled_or g functions fair s sound) [
  | inl b ↦ settle g functions fair n b.0 b.1 (let l = b.2 in omega (arith, l, le))
  | inr d ↦ (s, record { sound = sound; settled = d })
]

pub search_ends : (g : Game) (functions : ℕ) → IsFair g functions → (s : Found) × IsOver g functions s
search_ends g functions fair =
    let s : Found = record { reach = λ f q. cond (is_group g.main g.states.start f q) (Some 0) None; number = λ f q p x. None; best = None } in
    let sound = begins_sound g functions fair s (λ f q. refl) (λ f q p x. refl) refl (main_arrival g functions fair) in
    settle g functions fair (left g functions s) s sound (le_refl (left g functions s))
