-- The first condition that fails of a list's rows, and of several lists.
use Rattle.std.proofs.Common.{◌≡◌, ℕ, zero, suc, ◌+◌, ◌<◌, List, [], ◌∷◌, ◌++◌, map, length, Bool, true, false, cond, not, Option, Some, None, option_map, nat_lt, refl, sym, ap, ap₂, ◌∙◌}
use Rattle.std.proofs.Common.{subst, arith}
use Rattle.std.specs.Option.{option_or}
use Rattle.std.specs.List.{enumerate_from, list_all, position_or_len}
use Rattle.std.specs.Prelude.{position, slice_get}
use Rattle.std.proofs.lemmas.Bool.Decides.{nat_tests}
use Rattle.std.proofs.lemmas.Bool.{ltb-true}
use Rattle.cw_core.specs.declared.ids.StateId.{StateId}
use Rattle.cw_certs.specs.Tables.{Table}
use Rattle.cw_game.specs.Games.{Game}
use Rattle.cw_game.specs.Conditions.{first_failing, Part, TableFault, fault_at, in_range, is_mem_row}
use Rattle.cw_game.proofs.Failing.{first_append}
use Rattle.cw_wcheck.specs.declared.fault.BadRow.{BadRow}
use Rattle.cw_wcheck.specs.Checking.{table_of, numbered}
use Rattle.cw_wcheck.specs.Working.{MeanStates}
use Rattle.cw_lemmas.proofs.Truths.{and_first as first_part, and_second as second_part}

pub map_or : {A B : Type 0} (f : A → B) (o p : Option A) → option_map f (option_or o p) ≡ option_or (option_map f o) (option_map f p)
map_or f None p = refl
map_or f (Some x) p = refl

module _ {A : Type 0} (p : A → Bool) where
  position-cons : (x : A) (xs : List A) → position p (x ∷ xs) ≡ cond (p x) (Some 0) (option_map (λ i. 1 + i) (position p xs))
  position-cons x xs = by (p x)
    where
      n : ℕ
      n = position_or_len p xs

      here : (t : Bool) → nat_lt n (length xs) ≡ t → cond (nat_lt (1 + n) (suc (length xs))) (Some (1 + n)) None ≡ option_map (λ i. 1 + i) (cond t (Some n) None)
      here true t = let more : nat_lt (1 + n) (suc (length xs)) ≡ true = grind (arith, nat_tests) in ap (λ b. cond b (Some (1 + n)) None) more
      here false t = let more : nat_lt (1 + n) (suc (length xs)) ≡ false = grind (arith, nat_tests) in ap (λ b. cond b (Some (1 + n)) None) more

      by : (b : Bool) → cond (nat_lt (cond (not b) (1 + n) 0) (suc (length xs))) (Some (cond (not b) (1 + n) 0)) None ≡ cond b (Some 0) (option_map (λ i. 1 + i) (position p xs))
      by true = let first : nat_lt 0 (suc (length xs)) ≡ true = grind (arith, nat_tests) in ap (λ b. cond b (Some 0) None) first
      by false = here (nat_lt n (length xs)) refl

-- the first row that is out of range
pub first-in_range : {A : Type 0} (part : Part) (test : A → Bool) (n : ℕ) (rows : List A)
    → first_failing (map (λ r. (fault_at part r.0 1, test r.1)) (enumerate_from n rows)) ≡ option_map (λ i. fault_at part (n + i) 1) (position (λ r. not (test r)) rows)
first-in_range part test n [] = refl
first-in_range part test n (r ∷ rows) =
    by (test r) (first-in_range part test (n + 1) rows) ∙ sym (ap (option_map (λ i. fault_at part (n + i) 1)) (position-cons (λ r. not (test r)) r rows))
  where
    later : (o : Option ℕ) → option_map (λ i. fault_at part (n + 1 + i) 1) o ≡ option_map (λ i. fault_at part (n + i) 1) (option_map (λ i. 1 + i) o)
    later None = refl
    later (Some i) = let e : n + 1 + i ≡ n + (1 + i) = omega arith in ap (λ k. Some (fault_at part k 1)) e

    by : (b : Bool) → first_failing (map (λ r. (fault_at part r.0 1, test r.1)) (enumerate_from (n + 1) rows)) ≡ option_map (λ i. fault_at part (n + 1 + i) 1) (position (λ r. not (test r)) rows)
        → cond b (first_failing (map (λ r. (fault_at part r.0 1, test r.1)) (enumerate_from (n + 1) rows))) (Some (fault_at part n 1))
        ≡ option_map (λ i. fault_at part (n + i) 1) (cond (not b) (Some 0) (option_map (λ i. 1 + i) (position (λ r. not (test r)) rows)))
    by true h = h ∙ later _
    by false h = let e : n ≡ n + 0 = omega arith in ap (λ k. Some (fault_at part k 1)) e

-- as it is told
abbrev pub out_of : ℕ → Option ℕ → Option BadRow
out_of table number = option_map (λ n. record { table = table; number = n; condition = 1 }) number

pub numbered_range : {A : Type 0} (part : Part) (test : A → Bool) (rows : List A) (found : Option ℕ) (row : Option BadRow)
    → row ≡ out_of (table_of part) found → found ≡ position (λ r. not (test r)) rows → row ≡ option_map numbered (first_failing (in_range part test rows))
numbered_range part test rows found row e f = e ∙ ap (out_of (table_of part)) f ∙ same (position (λ r. not (test r)) rows) ∙ sym (ap (option_map numbered) (first-in_range part test 0 rows))
  where
    same : (o : Option ℕ) → out_of (table_of part) o ≡ option_map numbered (option_map (λ i. fault_at part (0 + i) 1) o)
    same None = refl
    same (Some i) = let z : i ≡ 0 + i = omega arith in ap (λ n. Some (numbered (fault_at part n 1))) z

numbered-append : (xs ys : List (TableFault × Bool)) (o p : Option BadRow) → o ≡ option_map numbered (first_failing xs) → p ≡ option_map numbered (first_failing ys)
    → option_or o p ≡ option_map numbered (first_failing (xs ++ ys))
numbered-append xs ys o p e f = ap₂ option_or e f ∙ sym (map_or numbered (first_failing xs) (first_failing ys)) ∙ sym (ap (option_map numbered) (first_append xs ys))

-- the first of eight lists that has one
pub numbered_ranges : (mems live tries ats opened closed into back : List (TableFault × Bool)) (a b c d e f g h : Option BadRow)
    → a ≡ option_map numbered (first_failing mems) → b ≡ option_map numbered (first_failing live) → c ≡ option_map numbered (first_failing tries) → d ≡ option_map numbered (first_failing ats)
    → e ≡ option_map numbered (first_failing opened) → f ≡ option_map numbered (first_failing closed) → g ≡ option_map numbered (first_failing into) → h ≡ option_map numbered (first_failing back)
    → option_or (option_or (option_or (option_or (option_or (option_or (option_or a b) c) d) e) f) g) h
    ≡ option_map numbered (first_failing (mems ++ live ++ tries ++ ats ++ opened ++ closed ++ into ++ back))
numbered_ranges mems live tries ats opened closed into back a b c d e f g h pa pb pc pd pe pf pg ph =
    let two = numbered-append mems live a b pa pb in
    let three = numbered-append (mems ++ live) tries _ c two pc in
    let four = numbered-append (mems ++ live ++ tries) ats _ d three pd in
    let five = numbered-append (mems ++ live ++ tries ++ ats) opened _ e four pe in
    let six = numbered-append (mems ++ live ++ tries ++ ats ++ opened) closed _ f five pf in
    let seven = numbered-append (mems ++ live ++ tries ++ ats ++ opened ++ closed) into _ g six pg in
    numbered-append (mems ++ live ++ tries ++ ats ++ opened ++ closed ++ into) back _ h seven ph

-- Where no row is out of range.
pub mean_states : (g : Game) (t : Table) → list_all (is_mem_row g) t.mems ≡ true → MeanStates g t
mean_states g t h = record { each = among t.mems h }
  where
    among : (rows : List (StateId × ℕ)) → list_all (is_mem_row g) rows ≡ true → (m : ℕ) (meant : StateId × ℕ) → slice_get rows m ≡ Some meant → meant.0.0 < g.states.count
    among [] k m meant e = cc
    among (r ∷ rows) k zero meant e =
        let same : r ≡ meant = cc in
        subst (λ x. x.0.0 < g.states.count) same (ltb-true _ _ (first_part _ _ (first_part _ _ k)))
    among (r ∷ rows) k (suc m) meant e = among rows (second_part _ _ k) m meant e
