-- The sample of a number n: a policy, and a source of n functions that call one another in a ring.
use Rattle.std.specs.Prelude.{◌≡◌, ◌<◌, ◌≤◌, ◌⊎◌, ℕ, zero, suc, ◌+◌, List, [], ◌++◌, Option, Some, None, cond, if◌then◌else◌, nat_lt, codes}
use Rattle.std.specs.Fmt.{decimal}
use Rattle.std.specs.Str.{bytes_eq}
use Rattle.cw_text.specs.Lines.{line}
use Rattle.cw_sample.specs.declared.sample.SampleFault.{SampleFault}
use Rattle.cw_sample.specs.declared.sample.SampleFault.TheVariants.{OutOfRange, NoMemory}

-- The first function is split; no label `w` may be reached with ambient authority, the label `done` may not without it.
abbrev pub sample_policy : List ℕ
sample_policy =
    line (codes "format = 1")
    ++ line (codes "split = [\"f1\"]")
    ++ line (codes "[[at]]")
    ++ line (codes "label = \"w\"")
    ++ line (codes "never = [\"amb\"]")
    ++ line (codes "[[at]]")
    ++ line (codes "label = \"done\"")
    ++ line (codes "must = [\"amb\"]")

abbrev pub prototype : ℕ → List ℕ
prototype i = line (codes "void f" ++ decimal i ++ codes "(int x);")

-- each function calls the next one, the last one the first
abbrev pub next : ℕ → ℕ → ℕ
next n i = cond (nat_lt i n) (i + 1) 1

abbrev pub definition : ℕ → ℕ → List ℕ
definition n i = line (codes "void f" ++ decimal i ++ codes "(int x){if(x){w:;f" ++ decimal (next n i) ++ codes "(x);}}")

-- those of the functions 1 to i
abbrev pub prototypes : ℕ → List ℕ
prototypes zero = []
prototypes (suc i) = prototypes i ++ prototype (suc i)

abbrev pub definitions : ℕ → ℕ → List ℕ
definitions n zero = []
definitions n (suc i) = definitions n i ++ definition n (suc i)

abbrev pub main_line : List ℕ
main_line = line (codes "int main(void){f1(9);done:;return 0;}")

abbrev pub sample_source : ℕ → List ℕ
sample_source n = prototypes n ++ definitions n n ++ main_line

-- a number has a sample where it is 1 to 400
abbrev pub HasSample : ℕ → Type 0
HasSample n = (0 < n) × (n ≤ 400)

abbrev pub IsSampleFault : ℕ → SampleFault → Type 0
IsSampleFault n OutOfRange = (n ≡ 0) ⊎ (400 < n)
IsSampleFault n NoMemory = HasSample n

-- the number from 1 to the last whose decimal, without leading zeros, an argument is
unfoldable pub number_up_to : (last : ℕ) → (argument : List ℕ) → Option ℕ
number_up_to zero argument = None
number_up_to (suc n) argument = if bytes_eq argument (decimal (suc n)) then Some (suc n) else number_up_to n argument

-- the number of a sample that an argument tells
abbrev pub sample_number : (argument : List ℕ) → Option ℕ
sample_number argument = number_up_to 400 argument
