-- What the numbers of cells tell.
use Rattle.std.proofs.Common.{◌≡◌, ℕ, zero, suc, ◌+◌, ◌*◌, ◌/◌, ◌%◌, Bool, cond, List, ◌∷◌, ◌++◌, map, replicate, set, refl, ap, ◌∙◌, arith}
use Rattle.std.specs.Prelude.{slice_index}
use Rattle.std.proofs.lemmas.Bool.{eq-eqb, ne_eqb}
use Rattle.std.proofs.lemmas.List.{map-append, map-set, set-get_or}
use Rattle.cw_links.specs.Cells.{height_in, key_in}

-- twice a number tells a key, and one more a height
pub height_of_even : (n : ℕ) → height_in (2 * n) ≡ 0
height_of_even n = ap (λ (b : Bool). cond {A = ℕ} b 0 (2 * n / 2)) (eq-eqb (2 * n % 2) 0 (omega arith))

pub key_of_even : (n : ℕ) → key_in (2 * n) ≡ 2 * n
key_of_even n = ap (λ (b : Bool). cond b (2 * n) 0) (eq-eqb (2 * n % 2) 0 (omega arith))

pub height_of_odd : (n : ℕ) → height_in (2 * n + 1) ≡ n
height_of_odd n =
    let half : (2 * n + 1) / 2 ≡ n = omega arith in
    ap (λ (b : Bool). cond {A = ℕ} b 0 ((2 * n + 1) / 2)) (ne_eqb ((2 * n + 1) % 2) 0 (λ e. omega (arith, e))) ∙ half

pub key_of_odd : (n : ℕ) → key_in (2 * n + 1) ≡ 0
key_of_odd n = ap (λ (b : Bool). cond b (2 * n + 1) 0) (ne_eqb ((2 * n + 1) % 2) 0 (λ e. omega (arith, e)))

-- ---- heights and keys are maps of the numbers

pub map-replicate : {A B : Type 0} (f : A → B) (n : ℕ) (x : A) → map f (replicate n x) ≡ replicate n (f x)
map-replicate f zero x = refl
map-replicate {A} {B} f (suc n) x = ap (λ (ys : List B). f x ∷ ys) (map-replicate f n x)

-- a number is written
pub told_set : (f : ℕ → ℕ) (numbers : List ℕ) (cell number v : ℕ) → f number ≡ v → map f (set numbers cell number) ≡ set (map f numbers) cell v
told_set f numbers cell number v tells = map-set f numbers cell number ∙ ap (λ (y : ℕ). set (map f numbers) cell y) tells

-- .. which tells what was told
pub told_same : (f : ℕ → ℕ) (numbers : List ℕ) (cell number : ℕ) → f number ≡ slice_index (map f numbers) cell → map f (set numbers cell number) ≡ map f numbers
told_same f numbers cell number tells = told_set f numbers cell number (slice_index (map f numbers) cell) tells ∙ set-get_or (map f numbers) cell 0

-- so many numbers more that tell nothing
pub told_more : (f : ℕ → ℕ) → f 0 ≡ 0 → (numbers : List ℕ) (many : ℕ) → map f (numbers ++ replicate many 0) ≡ map f numbers ++ replicate many 0
told_more f none numbers many =
    map-append f numbers (replicate many 0) ∙ ap (λ (ys : List ℕ). map f numbers ++ ys) (map-replicate f many 0 ∙ ap (λ (y : ℕ). replicate many y) none)
