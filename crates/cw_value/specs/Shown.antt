-- The answers that a run is given and what it shows, as plain data. What follows maps the generated types to it, and says nothing of its own.
use Rattle.std.specs.Prelude.{ℕ, ℤ, List, map}
use Rattle.std.specs.Ordering.{nat_cmp, on}
use Rattle.std.specs.Cmp.Lexicographic.{slice_cmp}
use Rattle.std.specs.List.{All}
use Rattle.std.specs.List.Sorted.{IsStrictlySortedBy}
use Rattle.cw_certs.specs.declared.moves.Move.{Move}
use Rattle.cw_certs.specs.declared.moves.Move.TheVariants.{Grant, Refuse}
use Rattle.cw_value.specs.declared.values.Answers.{Answers as AnswersData}
use Rattle.cw_value.specs.declared.values.Made.{Made as MadeData}
use Rattle.cw_value.specs.declared.values.Values.{Values as ValuesData}
use Rattle.cw_value.specs.declared.values.Stop.{Stop}
use Rattle.cw_value.specs.Expressions.{Made}

-- Values for names, what is answered to tries, what external calls give.
pub record Answers : Type 0 where
  pub names : List (List ℕ × ℤ)
  pub tries : List Move
  pub calls : List ℤ

-- a try is granted or refused
abbrev pub IsAnswer : Move → Type 0
IsAnswer Grant = Unit {0}
IsAnswer Refuse = Unit {0}
IsAnswer _ = ⊥

-- the names ascend strictly by their bytes, and each answer to a try is a grant or a refusal
pub record AreInOrder (a : Answers) : Type 0 where
  pub ascend : IsStrictlySortedBy (on (λ p. p.0) (slice_cmp nat_cmp)) a.names
  pub answer : All IsAnswer a.tries

-- The external calls that a run made, how many tries it made, and how it ended.
pub record Values : Type 0 where
  pub made : List Made
  pub tried : ℕ
  pub stop : Stop

abbrev pub answers_of : AnswersData → Answers
answers_of a = record { names = map (λ n. (n.0.items, n.1)) a.names.items; tries = a.tries.items; calls = a.calls.items }

abbrev pub made_of : MadeData → Made
made_of m = record { name = m.name; args = m.args.items; answer = m.answer }

abbrev pub values_of : ValuesData → Values
values_of v = record { made = map made_of v.made.items; tried = v.tried; stop = v.stop }
