-- Fields of a text that have no separator: names, numbers and moves of the environment, and what one and more such fields are.
use Rattle.std.proofs.Common.{◌≡◌, ℕ, ◌^◌, ◌<◌, true, false, eqb, List, [], ◌∷◌, refl, arith}
use Rattle.std.specs.Prelude.{codes}
use Rattle.std.specs.Char.{is_ascii_digit}
use Rattle.std.specs.Fmt.{decimal}
use Rattle.std.specs.List.{All, list_all}
use Rattle.std.proofs.lemmas.Fmt.{decimal_injective}
use Rattle.std.proofs.lemmas.List.Elements.{All-nil, All-cons}
use Rattle.cw_core.specs.Ranges.{is_spelling_byte}
use Rattle.cw_certs.specs.declared.moves.Move.{Move}
use Rattle.cw_certs.specs.declared.moves.Move.TheVariants.{Skip, Try, Grant, Refuse, On, Left, Right, Opened, Failed, Stop}
use Rattle.cw_text.specs.Lines.{IsFree}
use Rattle.cw_text.specs.Moves.{move_name, IsEnvironments}
use Rattle.cw_text.proofs.Free.{free_from_test, decimal_free}

-- a byte that isn't in any field of a line
pub record Separates (separator : ℕ) : Type 0 where
  pub digit : is_ascii_digit separator ≡ false
  pub letter : is_spelling_byte separator ≡ false
  pub equals : eqb 61 separator ≡ false

pub space : Separates 32
space = record { digit = refl; letter = refl; equals = refl }

pub lf : Separates 10
lf = record { digit = refl; letter = refl; equals = refl }

pub name_free : (separator : ℕ) → Separates separator → (name : List ℕ) → list_all is_spelling_byte name ≡ true → IsFree separator name
name_free separator s name all = free_from_test is_spelling_byte separator name s.letter all

pub number_free : (separator : ℕ) → Separates separator → (n : ℕ) → n < 2 ^ 32 → IsFree separator (decimal n)
number_free separator s n small = decimal_free separator n s.digit (omega (arith, small))

pub move_free : (separator : ℕ) → Separates separator → (by : Move) → IsEnvironments by → IsFree separator (move_name by)
move_free separator s Grant fits = name_free separator s (codes "grant") refl
move_free separator s Refuse fits = name_free separator s (codes "refuse") refl
move_free separator s On fits = name_free separator s (codes "on") refl
move_free separator s Left fits = name_free separator s (codes "left") refl
move_free separator s Right fits = name_free separator s (codes "right") refl
move_free separator s Opened fits = name_free separator s (codes "opened") refl
move_free separator s Failed fits = name_free separator s (codes "failed") refl
move_free separator s Skip fits = absurd fits
move_free separator s Try fits = absurd fits
move_free separator s Stop fits = absurd fits

pub one_free : (separator : ℕ) (a : List ℕ) → IsFree separator a → All (IsFree separator) (a ∷ [])
one_free separator a free = All-cons (IsFree separator) a [] free (All-nil (IsFree separator))

pub more_free : (separator : ℕ) (a : List ℕ) (rest : List (List ℕ)) → IsFree separator a → All (IsFree separator) rest → All (IsFree separator) (a ∷ rest)
more_free separator a rest free also = All-cons (IsFree separator) a rest free also

-- two numbers that are spelled alike are one
pub one_number : (a b : ℕ) → a < 2 ^ 32 → b < 2 ^ 32 → decimal a ≡ decimal b → a ≡ b
one_number a b small also e = decimal_injective a b (omega (arith, small)) (omega (arith, also)) e
