-- Why a policy that doesn't fit a program is refused, with the line that tells it.
use Rattle.std.specs.Prelude.{◌≡◌, ℕ, List, ◌++◌, codes}
use Rattle.std.specs.Fmt.{decimal}
use Rattle.cw_rights.specs.Policies.{PlainPolicy}
use Rattle.cw_syntax.specs.Trees.{File}
use Rattle.cw_callgraph.specs.declared.fit.FitFault.{FitFault}
use Rattle.cw_callgraph.specs.declared.fit.FitFault.TheVariants.{NoLabel, NoFunction, NotSplittable}
use Rattle.cw_callgraph.specs.Fitting.{IsFitFault}
use Rattle.cw_source.specs.Places.{column_of, line_of}
use Rattle.cw_commands.specs.declared.outcome.Cause.TheVariants.{Policy}
use Rattle.cw_commands.specs.Outcomes.{Due, Refused}
use Rattle.cw_resolve.specs.Held.{name_in}

-- `policy: not splittable NAME LINE:COLUMN`
unfoldable pub splitting_line : List ℕ → (name : List ℕ) → (place : ℕ) → List ℕ
splitting_line source name place =
    codes "policy: not splittable " ++ name ++ codes " " ++ decimal (line_of source place) ++ codes ":" ++ decimal (column_of source place)

abbrev pub fit_line : List ℕ → PlainPolicy → FitFault → List ℕ
fit_line source whole (NoLabel i) = codes "policy: no label " ++ name_in whole.labels i
fit_line source whole (NoFunction i) = codes "policy: no function " ++ name_in whole.split i
fit_line source whole (NotSplittable i place) = splitting_line source (name_in whole.split i) place

-- The policy is refused, by the first of its labels and of the functions that it splits that doesn't fit.
abbrev pub IsFitRefusal : List ℕ → File → PlainPolicy → Due → Type 0
IsFitRefusal source file whole due = (f : FitFault) × IsFitFault source file whole f × (due ≡ Refused Policy (fit_line source whole f))
