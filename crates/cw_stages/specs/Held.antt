-- Working definitions: what the parts of the code answer.
use Rattle.std.specs.Prelude.{ℕ, nat_eq, if◌then◌else◌, List, [], ◌∷◌, ◌++◌, codes}
use Rattle.std.specs.Fmt.{decimal}
use Rattle.cw_wcheck.specs.declared.fault.BadRow.{BadRow}
use Rattle.cw_commands.specs.declared.outcome.Cause.{Cause}
use Rattle.cw_commands.specs.declared.outcome.Cause.TheVariants.{Grammar, Source}

-- the name of a list, by its number
abbrev pub list_name : ℕ → List ℕ
list_name n =
    if nat_eq n 1 then codes "mems"
    else if nat_eq n 2 then codes "live"
    else if nat_eq n 3 then codes "tries"
    else if nat_eq n 4 then codes "ats"
    else if nat_eq n 5 then codes "opened"
    else if nat_eq n 6 then codes "closed"
    else if nat_eq n 7 then codes "into"
    else codes "back"

abbrev pub told_row : BadRow → List ℕ
told_row bad = list_name bad.table ++ (codes " " ++ decimal bad.number) ++ (codes " condition " ++ decimal bad.condition) ++ (10 ∷ [])

-- the cause of a source's refusal, and what stands before its line, where it is the source of a woven text
abbrev pub woven_cause : Cause → Cause
woven_cause Source = Grammar
woven_cause cause = cause

abbrev pub woven_front : Cause → List ℕ
woven_front Source = codes "woven: "
woven_front cause = []
