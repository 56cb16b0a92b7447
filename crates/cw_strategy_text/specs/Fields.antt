-- Working definitions, for proofs and the contracts of code alone: a row's fields, by what the row does.
use Rattle.std.specs.Prelude.{◌≡◌, ℕ, ◌^◌, ◌<◌, List, [], ◌∷◌, ◌++◌, map, codes}
use Rattle.std.specs.List.{flat_map}
use Rattle.std.specs.Fmt.{decimal}
use Rattle.cw_core.specs.declared.ids.StateId.{StateId}
use Rattle.cw_certs.specs.Strategies.{How, Bad, Out, Both, Go, Into, Row}
use Rattle.cw_text.specs.Lines.{joined, line, set_text}
use Rattle.cw_text.specs.Moves.{move_name, IsEnvironments}
use Rattle.cw_strategy_text.specs.declared.kind.RowKind.{RowKind}
use Rattle.cw_strategy_text.specs.declared.kind.RowKind.TheVariants as kind
use Rattle.cw_strategy_text.specs.StrategyText.{back_field, how_fields, row_fields, FitsHow, FitsRow}

-- what a row does without its numbers, its first field, and the others
abbrev pub kind_of_how : How → RowKind
kind_of_how Bad = kind.Bad
kind_of_how Out = kind.Out
kind_of_how (Both skip tried) = kind.Both
kind_of_how (Go by row) = kind.Go by
kind_of_how (Into callee backs) = kind.Into

abbrev pub kind_field : RowKind → List ℕ
kind_field kind.Bad = codes "bad"
kind_field kind.Out = codes "out"
kind_field kind.Both = codes "both"
kind_field (kind.Go by) = move_name by
kind_field kind.Into = codes "into"

abbrev pub rest_fields : How → List (List ℕ)
rest_fields Bad = []
rest_fields Out = []
rest_fields (Both skip tried) = decimal skip ∷ decimal tried ∷ []
rest_fields (Go by row) = decimal row ∷ []
rest_fields (Into callee backs) = decimal callee ∷ map back_field backs

abbrev pub FitsKind : RowKind → Type 0
FitsKind kind.Bad = Unit {0}
FitsKind kind.Out = Unit {0}
FitsKind kind.Both = Unit {0}
FitsKind (kind.Go by) = IsEnvironments by
FitsKind kind.Into = Unit {0}

pub record IsOf (k : RowKind) (how : How) : Type 0 where
  pub fits : FitsHow how
  pub kind : kind_of_how how ≡ k

-- the program's backs as pairs of numbers
abbrev pub backs_of : List (StateId × ℕ) → List (ℕ × ℕ)
backs_of backs = map (λ b. (b.0.0, b.1)) backs

abbrev pub FitsBack : ℕ × ℕ → Type 0
FitsBack back = (back.0 < 2 ^ 16) × (back.1 < 2 ^ 32)

-- a row under a number, and its line without its LF
pub record FitsNamed (format : ℕ) (named : ℕ × Row) : Type 0 where
  pub number : named.0 < 2 ^ 32
  pub row : FitsRow format named.1

unfoldable pub row_text : (format : ℕ) → ℕ × Row → List ℕ
row_text format named = joined 32 (row_fields format named.0 named.1)

-- a row's line as it is put, each field but the first after a space
abbrev pub put_line : (format number : ℕ) → Row → List ℕ
put_line format number r = line (decimal number ++ flat_map (λ field. 32 ∷ field) (decimal r.pos ∷ decimal r.state ∷ set_text format r.aim ∷ how_fields r.how))
