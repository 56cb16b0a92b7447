-- Tables, row by row.
use Rattle.std.proofs.Common.{◌≡◌, ℕ, zero, suc, ◌+◌, ◌*◌, ◌<◌, List, [], ◌∷◌, ◌++◌, length, get_or, map, refl, sym, ap, ap₂, ◌∙◌, arith, append_assoc, append-nil, one-add, zero-mul as no_times}
use Rattle.std.specs.Int.RustNames.{bit_and}
use Rattle.std.proofs.lemmas.List.{get_or-map, length-map}
use Rattle.std.proofs.lemmas.Nat.{and_assoc, div-mul-add, mod-mul-add}
use Rattle.cw_rights.specs.declared.capabilities.Caps.{Caps}
use Rattle.cw_rights.specs.Policies.{PlainRule, start_caps}
use Rattle.cw_dfa.specs.Tables.{named, tested}
use Rattle.cw_dfa.specs.Verdicts.{next_of}
use Rattle.cw_dfa.proofs.Following.{next_masked}
use Rattle.cw_dfa.proofs.Picked.{matching_both}
use Rattle.cw_game.specs.Games.{letter_of}
use Rattle.cw_states.specs.declared.masks.Masks.{Masks}
use Rattle.cw_states.specs.Masks.{IsMasks, ahead_of, row, rows}
use Rattle.cw_states.specs.States.{Lists, caps_at, set_at}
use Rattle.cw_states.specs.Tables.{tabled, index_of, entry, entries}

module _ {A : Type 0} where
  tabled_same : (f g : ℕ → A) (n : ℕ) → ((i : ℕ) → i < n → f i ≡ g i) → tabled f n ≡ tabled g n
  tabled_same f g zero h = refl
  tabled_same f g (suc n) h = ap₂ (λ l x. l ++ x ∷ []) (tabled_same f g n (λ i l. h i (omega (arith, l)))) (h n (omega arith))

  tabled_append : (f : ℕ → A) (a b : ℕ) → tabled f (a + b) ≡ tabled f a ++ tabled (λ j. f (a + j)) b
  tabled_append f a zero =
      let e : a + 0 ≡ a = omega arith in
      ap (tabled f) e ∙ sym (append-nil (tabled f a))
  tabled_append f a (suc b) =
      let e : a + suc b ≡ suc (a + b) = omega arith in
      ap (tabled f) e ∙ ap (λ l. l ++ f (a + b) ∷ []) (tabled_append f a b) ∙ append_assoc (tabled f a) (tabled (λ j. f (a + j)) b) (f (a + b) ∷ [])

  tabled_first : (f : ℕ → A) (n : ℕ) → tabled f (suc n) ≡ f 0 ∷ tabled (λ j. f (suc j)) n
  tabled_first f n =
      let e : suc n ≡ 1 + n = omega arith in
      ap (tabled f) e ∙ tabled_append f 1 n ∙ ap (λ l. f 0 ∷ l) (tabled_same (λ j. f (1 + j)) (λ j. f (suc j)) n (λ j l. ap f (one-add j)))

map_tabled : {A B : Type 0} (xs : List A) (h : A → B) (f : ℕ → B) (d : A) → ((j : ℕ) → j < length xs → h (get_or xs j d) ≡ f j) → map h xs ≡ tabled f (length xs)
map_tabled [] h f d e = refl
map_tabled (x ∷ xs) h f d e = ap₂ (λ y l. y ∷ l) (e 0 (omega arith)) (map_tabled xs h (λ j. f (suc j)) d (λ j l. e (suc j) (omega (arith, l))))
    ∙ sym (tabled_first f (length xs))

row_more : (k n q : ℕ) → k * n + (n + q) ≡ (k + 1) * n + q
row_more k n q = omega arith

suc_times : (m n : ℕ) → suc m * n ≡ n + m * n
suc_times m n = omega arith

module _ (v : Lists) (naming : ℕ) (tests : List ℕ) (at : ℕ → ℕ) where
  abbrev n : ℕ
  n = length tests

  Rowed : List ℕ → ℕ → Type 0
  Rowed aheads k = (i j : ℕ) → i < length aheads → j < n → index_of v (bit_and (bit_and (get_or aheads i 0) naming) (get_or tests j 0)) ≡ at ((k + i) * n + j)

  rows_tabled : (aheads : List ℕ) (k : ℕ) → Rowed aheads k → rows v naming aheads tests ≡ tabled (λ q. at (k * n + q)) (length aheads * n)
  unfolding Rowed
  rows_tabled [] k h = ap (tabled (λ q. at (k * n + q))) (sym (no_times n))
  rows_tabled (a ∷ rest) k h =
      let start : (i : ℕ) → k + 0 ≡ k = λ i. omega arith in
      let here : row v (bit_and a naming) tests ≡ tabled (λ j. at (k * n + j)) n =
      map_tabled tests (λ t. index_of v (bit_and (bit_and a naming) t)) (λ j. at (k * n + j)) 0 (λ j l. h 0 j (omega arith) l ∙ ap (λ z. at (z * n + j)) (start j)) in
      let next : (i : ℕ) → k + suc i ≡ (k + 1) + i = λ i. omega arith in
      let later = rows_tabled rest (k + 1) (λ i j l m. h (suc i) j (omega (arith, l)) m ∙ ap (λ z. at (z * n + j)) (next i)) in
      let moved = tabled_same (λ q. at ((k + 1) * n + q)) (λ q. at (k * n + (n + q))) (length rest * n) (λ q l. ap at (sym (row_more k n q))) in
      ap₂ (λ x y. x ++ y) here (later ∙ moved) ∙ sym (ap (tabled (λ q. at (k * n + q))) (suc_times (length rest) n) ∙ tabled_append (λ q. at (k * n + q)) n (length rest * n))

-- a step, by what may follow, what names the label, and the tests that hold
next_met : (rules : List PlainRule) (set label : ℕ) (caps : Caps) → bit_and (bit_and (ahead_of rules set) (named rules label)) (tested rules caps)
    ≡ next_of rules set (letter_of label caps)
next_met rules set label caps = and_assoc (tested rules caps) (ahead_of rules set) (named rules label)
    ∙ ap (bit_and (ahead_of rules set)) (sym (matching_both rules (letter_of label caps))) ∙ sym (next_masked rules set (letter_of label caps))

module _ (v : Lists) (label : ℕ) (masks : Masks) (are : IsMasks v masks) where
  abbrev width : ℕ
  width = length v.rights

  one_entry : (i j : ℕ) → i < length v.sets → j < width
      → index_of v (bit_and (bit_and (get_or masks.aheads.items i 0) (named v.policy.rules label)) (get_or masks.tested.items j 0)) ≡ entry v label (i * width + j)
  one_entry i j l m =
      let rules = v.policy.rules in
      let start = start_caps v.policy in
      let set = get_or v.sets i 0 in
      let caps = get_or v.rights j start in
      let ahead : get_or masks.aheads.items i 0 ≡ ahead_of rules set = ap (λ (x : List ℕ). get_or x i 0) are.aheads ∙ get_or-map (ahead_of rules) v.sets i 0 0 l in
      let tests : get_or masks.tested.items j 0 ≡ tested rules caps = ap (λ (x : List ℕ). get_or x j 0) are.tested ∙ get_or-map (tested rules) v.rights j start 0 m in
      let set_is : set ≡ set_at v (i * width + j) = ap (λ r. get_or v.sets r 0) (sym (div-mul-add i width j m)) in
      let caps_is : caps ≡ caps_at v (i * width + j) = ap (λ r. get_or v.rights r start) (sym (mod-mul-add i width j m)) in
      ap (index_of v) (ap₂ (λ a t. bit_and (bit_and a (named rules label)) t) ahead tests ∙ next_met rules set label caps
      ∙ ap₂ (λ s c. next_of rules s (letter_of label c)) set_is caps_is)

  pub entries_are : rows v (named v.policy.rules label) masks.aheads.items masks.tested.items ≡ entries v label
  unfolding Rowed
  entries_are =
      let size : length masks.tested.items ≡ width = ap length are.tested ∙ length-map v.rights (tested v.policy.rules) in
      let high : length masks.aheads.items ≡ length v.sets = ap length are.aheads ∙ length-map v.sets (ahead_of v.policy.rules) in
      let same : (i j : ℕ) → i * width + j ≡ (0 + i) * length masks.tested.items + j =
      λ i j. ap (λ w. i * w + j) (sym size) ∙ ap (λ k. k * length masks.tested.items + j) (nothing_more i) in
      let all = rows_tabled v (named v.policy.rules label) masks.tested.items (entry v label) masks.aheads.items 0
      (λ i j l m. one_entry i j (omega (arith, l, high)) (omega (arith, m, size)) ∙ ap (entry v label) (same i j)) in
      all ∙ tabled_same (λ q. entry v label (0 * length masks.tested.items + q)) (entry v label) (length masks.aheads.items * length masks.tested.items) (λ q l. ap (entry v label) (none q))
      ∙ ap (tabled (entry v label)) (ap₂ (λ a b. a * b) high size)
    where
      nothing_more : (i : ℕ) → i ≡ 0 + i
      nothing_more i = omega arith

      none : (q : ℕ) → 0 * length masks.tested.items + q ≡ q
      none q = omega arith
