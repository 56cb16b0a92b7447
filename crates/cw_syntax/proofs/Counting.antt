-- The numbers of the seams.
use Rattle.std.proofs.Common.{◌≡◌, ℕ, zero, suc, ◌+◌, List, [], ◌∷◌, ◌++◌, refl, sym, ap, ap₂, ◌∙◌, arith}
use Rattle.std.specs.Prelude.{map, length}
use Rattle.std.specs.List.{range_with_len}
use Rattle.std.proofs.lemmas.List.{map-append, length-map}
use Rattle.std.proofs.lemmas.List.FromFn.{length-range_with_len}
use Rattle.cw_syntax.specs.Trees.{Definition}
use Rattle.cw_syntax.specs.Plans.{Stm, Plain, Break, Continue, Return, Open, Close, Call, Group, Label, If, While, Do, For, Stms, end, then, plan_of, scene_of, numbered, numbered_all, seams, seams_all, Scene, steps_of_all, routines_from}
use Rattle.cw_syntax.specs.Marks.{SeamMark, marks_in, marks_in_all, marks_from, marks_of, SeamsAreInOrder}

abbrev number_of : SeamMark → ℕ
number_of m = m.seam

range_join : (a m n : ℕ) → range_with_len a (m + n) ≡ range_with_len a m ++ range_with_len (a + m) n
range_join a zero n =
    let e : zero + n ≡ n = omega arith in
    let f : a + zero ≡ a = omega arith in
    ap (range_with_len a) e ∙ ap (λ b. range_with_len b n) (sym f)
range_join a (suc m) n =
    let e : suc m + n ≡ suc (m + n) = omega arith in
    let f : a + 1 + m ≡ a + suc m = omega arith in
    ap (range_with_len a) e ∙ ap (λ l. a ∷ l) (range_join (a + 1) m n ∙ ap (λ b. range_with_len (a + 1) m ++ range_with_len b n) f)

-- two lists of marks, the second numbered behind the first
joined : (xs ys : List SeamMark) (a m n : ℕ) → map number_of xs ≡ range_with_len a m → map number_of ys ≡ range_with_len (a + m) n → map number_of (xs ++ ys) ≡ range_with_len a (m + n)
joined xs ys a m n h k = map-append number_of xs ys ∙ ap₂ (λ u v. u ++ v) h k ∙ sym (range_join a m n)

behind : (a n : ℕ) (l : List ℕ) → l ≡ range_with_len (a + 1) n → a ∷ l ≡ range_with_len a (n + 1)
behind a n l h = let e : n + 1 ≡ suc n = omega arith in ap (λ t. a ∷ t) h ∙ ap (range_with_len a) (sym e)

mutual
  numbers : (s : Stm) (j : ℕ) → map number_of (marks_in (numbered s j)) ≡ range_with_len j (seams s)
  numbers (Plain at) j = refl
  numbers (Break at) j = refl
  numbers (Continue at) j = refl
  numbers (Return at) j = refl
  numbers (Open at i d) j = refl
  numbers (Close at i d) j = refl
  numbers (Call at i callee) j = refl
  numbers (Group ss) j = numbers_all ss j
  numbers (Label at mark i l s) j = behind j (seams s) (map number_of (marks_in (numbered s (j + 1)))) (numbers s (j + 1))
  numbers (If at s t) j = joined (marks_in (numbered s j)) (marks_in (numbered t (j + seams s))) j (seams s) (seams t) (numbers s j) (numbers t (j + seams s))
  numbers (While at s) j = numbers s j
  numbers (Do at s) j = numbers s j
  numbers (For at init decided stepped s) j = numbers s j

  numbers_all : (ss : Stms) (j : ℕ) → map number_of (marks_in_all (numbered_all ss j)) ≡ range_with_len j (seams_all ss)
  numbers_all end j = refl
  numbers_all (then s ss) j = joined (marks_in (numbered s j)) (marks_in_all (numbered_all ss (j + seams s))) j (seams s) (seams_all ss) (numbers s j) (numbers_all ss (j + seams s))

abbrev total : Scene → List Definition → ℕ
total s [] = 0
total s (f ∷ fs) = seams_all (steps_of_all s f.body) + total s fs + 1

numbers_from : (s : Scene) (j : ℕ) (fs : List Definition) → map number_of (marks_from (routines_from s j fs)) ≡ range_with_len j (total s fs)
numbers_from s j [] = refl
numbers_from s j (f ∷ fs) =
    let n = seams_all (steps_of_all s f.body) in
    let body = marks_in_all (numbered_all (steps_of_all s f.body) (j + 1)) in
    behind j (n + total s fs) (map number_of (body ++ marks_from (routines_from s (j + 1 + n) fs)))
    (joined body (marks_from (routines_from s (j + 1 + n) fs)) (j + 1) n (total s fs) (numbers_all (steps_of_all s f.body) (j + 1)) (numbers_from s (j + 1 + n) fs))

pub in_order : SeamsAreInOrder
in_order names source file =
    let marks = marks_of (plan_of names source file) in
    let n = total (scene_of names source file) file.functions in
    let h : map number_of marks ≡ range_with_len 0 n = numbers_from (scene_of names source file) 0 file.functions in
    let e : n ≡ length marks = sym (length-range_with_len 0 n) ∙ sym (ap length h) ∙ length-map marks number_of in
    h ∙ ap (range_with_len 0) e

-- a plan has a routine for each function
pub length_routines : (s : Scene) (j : ℕ) (fs : List Definition) → length (routines_from s j fs) ≡ length fs
length_routines s j [] = refl
length_routines s j (f ∷ fs) = ap suc (length_routines s (j + 1 + seams_all (steps_of_all s f.body)) fs)
