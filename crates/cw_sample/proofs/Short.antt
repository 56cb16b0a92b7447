-- The source of a sample is short.
use Rattle.std.proofs.Common.{◌≡◌, ◌≤◌, ℕ, ◌+◌, ◌*◌, zero, suc, List, ◌++◌, length, length-append, refl, sym, subst, arith}
use Rattle.std.specs.Prelude.{codes, cond, nat_lt, Bool, true, false}
use Rattle.std.specs.Fmt.{decimal}
use Rattle.std.proofs.lemmas.Fmt.{length-decimal-le}
use Rattle.cw_sample.specs.Samples.{definition, definitions, main_line, next, prototype, prototypes, sample_source}

three_digits : (i : ℕ) → i ≤ 400 → length (decimal i) ≤ 3
three_digits i le = length-decimal-le 3 i (omega arith) (omega (arith, le)) (omega (arith, le))

prototype_short : (i : ℕ) → i ≤ 400 → length (prototype i) ≤ 60
prototype_short i le =
    let a : length (codes "void f") ≡ 6 = refl in
    let b : length (codes "(int x);") ≡ 8 = refl in
    let z : length (codes "\n") ≡ 1 = refl in
    omega (
      arith,
      a,
      b,
      z,
      three_digits i le,
      length-append (codes "void f" ++ (decimal i ++ codes "(int x);")) (codes "\n"),
      length-append (codes "void f") (decimal i ++ codes "(int x);"),
      length-append (decimal i) (codes "(int x);"),
    )

next_few : (n i : ℕ) → n ≤ 400 → i ≤ 400 → next n i ≤ 401
next_few n i le few = by (nat_lt i n)
  where
    by : (b : Bool) → cond b (i + 1) 1 ≤ 401
    by true = omega (arith, few)
    by false = omega arith

four_digits : (i : ℕ) → i ≤ 401 → length (decimal i) ≤ 3
four_digits i le = length-decimal-le 3 i (omega arith) (omega (arith, le)) (omega (arith, le))

parts : (a b d e f z : List ℕ) → length ((a ++ b ++ d ++ e ++ f) ++ z) ≡ length a + length b + length d + length e + length f + length z
parts a b d e f z =
    omega (arith, length-append (a ++ b ++ d ++ e ++ f) z, length-append (a ++ b ++ d ++ e) f, length-append (a ++ b ++ d) e, length-append (a ++ b) d, length-append a b)

definition_short : (n i : ℕ) → n ≤ 400 → i ≤ 400 → length (definition n i) ≤ 60
definition_short n i le few =
    let a : length (codes "void f") ≡ 6 = refl in
    let b : length (codes "(int x){if(x){w:;f") ≡ 18 = refl in
    let d : length (codes "(x);}}") ≡ 6 = refl in
    let z : length (codes "\n") ≡ 1 = refl in
    let whole = parts (codes "void f") (decimal i) (codes "(int x){if(x){w:;f") (decimal (next n i)) (codes "(x);}}") (codes "\n") in
    let bound : length (codes "void f") + length (decimal i) + length (codes "(int x){if(x){w:;f") + length (decimal (next n i)) + length (codes "(x);}}") + length (codes "\n") ≤ 60 =
    omega (arith, a, b, d, z, three_digits i few, four_digits (next n i) (next_few n i le few)) in
    subst (λ k. k ≤ 60) (sym whole) bound

prototypes_short : (i : ℕ) → i ≤ 400 → length (prototypes i) ≤ i * 60
prototypes_short zero le = omega arith
prototypes_short (suc i) le =
    let less : i ≤ 400 = omega (arith, le) in
    omega (arith, length-append (prototypes i) (prototype (suc i)), prototypes_short i less, prototype_short (suc i) le)

definitions_short : (n i : ℕ) → n ≤ 400 → i ≤ 400 → length (definitions n i) ≤ i * 60
definitions_short n zero le few = omega arith
definitions_short n (suc i) le few =
    let less : i ≤ 400 = omega (arith, few) in
    omega (arith, length-append (definitions n i) (definition n (suc i)), definitions_short n i le less, definition_short n (suc i) le few)

pub source_short : (n : ℕ) → n ≤ 400 → length (sample_source n) ≤ 262144
source_short n le =
    let m : length main_line ≡ 38 = refl in
    let all : length (sample_source n) ≡ length (prototypes n ++ definitions n n) + length main_line = length-append (prototypes n ++ definitions n n) main_line in
    let rest : length (prototypes n ++ definitions n n) ≡ length (prototypes n) + length (definitions n n) = length-append (prototypes n) (definitions n n) in
    omega (arith, le, m, all, rest, prototypes_short n le, definitions_short n n le le)
