-- Lists that stand within others at a place, and how many items a statement has.
use Rattle.std.proofs.Common.{◌≡◌, ℕ, zero, suc, ◌+◌, ◌<◌, List, [], ◌∷◌, ◌++◌, length, Bool, true, false, Option, Some, None, refl, sym, ap, ap₂, ◌∙◌, subst, append_assoc, length-append, add-one as one_up}
use Rattle.std.proofs.Common.{arith, zero-add, add-zero}
use Rattle.std.specs.Prelude.{slice_get}
use Rattle.std.proofs.Math.Seq.{get_or-append_seam}
use Rattle.std.proofs.lemmas.Option.{slice_get-get_or}
use Rattle.cw_syntax.specs.Plans.{Stm, Plain, Break, Continue, Return, Open, Close, Call, Group, Label, If, While, Do, For, Stms, end, then}
use Rattle.cw_syntax.specs.Frames.{Item, Test, init_if, after_if}
use Rattle.cw_points.specs.Points.{points_in, points_in_all, one_if, one_if_some, count, count_all}
use Rattle.cw_points.specs.Graphs.{first}

-- these stand at this place
abbrev pub HasAt : {A : Type 0} → List A → ℕ → List A → Type 0
HasAt g p [] = Unit {0}
HasAt g p (i ∷ is) = (slice_get g p ≡ Some i) × HasAt g (p + 1) is

pub has_front : {A : Type 0} (g : List A) (p : ℕ) (a b : List A) → HasAt g p (a ++ b) → HasAt g p a
has_front g p [] b h = tt
has_front g p (i ∷ a) b h = (h.0, has_front g (p + 1) a b h.1)

pub has_back : {A : Type 0} (g : List A) (p : ℕ) (a b : List A) → HasAt g p (a ++ b) → HasAt g (p + length a) b
has_back g p [] b h = let e : p ≡ p + 0 = omega arith in subst (λ n. HasAt g n b) e h
has_back g p (i ∷ a) b h =
    let e : p + 1 + length a ≡ p + length (i ∷ a) = omega arith in
    subst (λ n. HasAt g n b) e (has_back g (p + 1) a b h.1)

pub has_all : {A : Type 0} (is pre : List A) → HasAt (pre ++ is) (length pre) is
has_all [] pre = tt
has_all (i ∷ is) pre =
    let within : length pre < length (pre ++ i ∷ is) = omega (arith, length-append pre (i ∷ is)) in
    let here = slice_get-get_or (pre ++ i ∷ is) (length pre) i within ∙ ap Some (get_or-append_seam pre i is i) in
    let n : length (pre ++ i ∷ []) ≡ length pre + 1 = omega (arith, length-append pre (i ∷ [])) in
    let rest = has_all is (pre ++ i ∷ []) in
    let rest' = subst (λ l. HasAt l (length (pre ++ i ∷ [])) is) (append_assoc pre (i ∷ []) is) rest in
    (here, subst (λ m. HasAt (pre ++ i ∷ is) m is) n rest')

-- behind so many
pub has_behind : {A : Type 0} (g : List A) (p n : ℕ) (a b : List A) → length a ≡ n → HasAt g p (a ++ b) → HasAt g (p + n) b
has_behind g p n a b e h = subst (λ z. HasAt g (p + z) b) e (has_back g p a b h)

pub first_own : (z n k : ℕ) → 0 < z → first z n k ≡ n
first_own zero n k h = absurd (omega arith)
first_own (suc z) n k h = refl

pub first_two : (a b n k : ℕ) → first (a + b) n k ≡ first a n (first b (n + a) k)
first_two zero b n k = ap (λ z. first z n k) (zero-add b) ∙ ap (λ m. first b m k) (sym (add-zero n))
first_two (suc a) b n k = first_own (suc a + b) n k (omega arith)

-- a part that nothing stands behind begins where it is counted from
pub first_last : (z n : ℕ) → first z n (n + z) ≡ n
first_last zero n = add-zero n
first_last (suc z) n = refl

length_two : {A : Type 0} (a b : List A) (m n : ℕ) → length a ≡ m → length b ≡ n → length (a ++ b) ≡ m + n
length_two a b m n e h = length-append a b ∙ ap₂ (λ u v. u + v) e h

length_init_if : (init : Option ℕ) (is : List Item) (n : ℕ) → length is ≡ n → length (init_if init is) ≡ one_if_some init + n
length_init_if None is n e = e ∙ sym (zero-add n)
length_init_if (Some at) is n e = let g : suc n ≡ 1 + n = omega arith in ap suc e ∙ g

length_after_if : (stepped : Bool) (at : ℕ) (is : List Item) (n : ℕ) → length is ≡ n → length (after_if stepped at is) ≡ one_if stepped + n
length_after_if false at is n e = e ∙ sym (zero-add n)
length_after_if true at is n e = let g : suc n ≡ 1 + n = omega arith in ap suc e ∙ g

mutual
  pub points_length : (s : Stm) → length (points_in s) ≡ count s
  points_length (Group ss) = points_length_all ss
  points_length (Label at mark j l s) = ap suc (points_length s)
  points_length (If at s t) = ap suc (length_two (points_in s) (points_in t) (count s) (count t) (points_length s) (points_length t))
  points_length (While at s) = ap suc (points_length s)
  points_length (Do at s) =
      let e = length_two (points_in s) (Test at true false s ∷ []) (count s) 1 (points_length s) refl in
      e ∙ one_up (count s)
  points_length (For at init decided stepped s) =
      length_init_if init (Test at decided stepped s ∷ after_if stepped at (points_in s)) (suc (one_if stepped + count s))
      (ap suc (length_after_if stepped at (points_in s) (count s) (points_length s)))
  points_length (Plain at) = refl
  points_length (Break at) = refl
  points_length (Continue at) = refl
  points_length (Return at) = refl
  points_length (Open at j d) = refl
  points_length (Close at j d) = refl
  points_length (Call at j callee) = refl

  pub points_length_all : (ss : Stms) → length (points_in_all ss) ≡ count_all ss
  points_length_all end = refl
  points_length_all (then s ss) = length_two (points_in s) (points_in_all ss) (count s) (count_all ss) (points_length s) (points_length_all ss)
