-- The commands: the name, the arguments and the files of each.
use Rattle.std.specs.Prelude.{ℕ, List, [], ◌∷◌, if◌then◌else◌, Option, Some, None, codes}
use Rattle.std.specs.Str.{bytes_eq}
use Rattle.cw_core.specs.declared.quantity.Quantity.{Quantity}
use Rattle.cw_core.specs.declared.quantity.Quantity.TheVariants.{PolicyBytes, SourceBytes, FileBytes}
use Rattle.cw_sample.specs.Samples.{HasSample}
use Rattle.cw_commands.specs.declared.command.Command.{Command}
use Rattle.cw_commands.specs.declared.command.Command.TheVariants.{Weave, Procs, Graph, Refute, Check, Play, Run, Sample, Reaudit, World, Audit, Values}
use Rattle.cw_commands.specs.declared.name.Name.{Name}
use Rattle.cw_commands.specs.declared.name.Name.TheVariants as name

-- the name that an argument is
abbrev pub named_by : List ℕ → Option Name
named_by argument =
    if bytes_eq argument (codes "weave") then Some name.Weave
    else if bytes_eq argument (codes "procs") then Some name.Procs
    else if bytes_eq argument (codes "graph") then Some name.Graph
    else if bytes_eq argument (codes "refute") then Some name.Refute
    else if bytes_eq argument (codes "check") then Some name.Check
    else if bytes_eq argument (codes "play") then Some name.Play
    else if bytes_eq argument (codes "run") then Some name.Run
    else if bytes_eq argument (codes "world") then Some name.World
    else if bytes_eq argument (codes "values") then Some name.Values
    else if bytes_eq argument (codes "sample") then Some name.Sample
    else if bytes_eq argument (codes "reaudit") then Some name.Reaudit
    else if bytes_eq argument (codes "audit") then Some name.Audit
    else None

-- the operands of the arguments behind a name
abbrev pub operands_of : Name → List (List ℕ)
operands_of name.Weave = codes "POLICY" ∷ (codes "SOURCE" ∷ [])
operands_of name.Procs = codes "POLICY" ∷ (codes "SOURCE" ∷ [])
operands_of name.Graph = codes "SOURCE" ∷ []
operands_of name.Refute = codes "POLICY" ∷ (codes "SOURCE" ∷ (codes "STRATEGY" ∷ []))
operands_of name.Check = codes "POLICY" ∷ (codes "WOVEN" ∷ [])
operands_of name.Play = codes "POLICY" ∷ (codes "SOURCE" ∷ (codes "STRATEGY" ∷ (codes "TAPE" ∷ [])))
operands_of name.Run = codes "POLICY" ∷ (codes "WOVEN" ∷ (codes "TAPE" ∷ []))
operands_of name.World = codes "POLICY" ∷ (codes "WOVEN" ∷ (codes "STEPS" ∷ []))
operands_of name.Values = codes "POLICY" ∷ (codes "WOVEN" ∷ (codes "ANSWERS" ∷ []))
operands_of name.Sample = codes "N" ∷ []
operands_of name.Audit = codes "POLICY" ∷ (codes "SOURCE" ∷ [])
operands_of name.Reaudit = codes "POLICY" ∷ (codes "SOURCE" ∷ (codes "AUDIT" ∷ []))

-- the arguments of a command, as the line on usage tells them
abbrev pub usage_of : Name → List ℕ
usage_of name.Weave = codes "weave POLICY SOURCE"
usage_of name.Procs = codes "procs POLICY SOURCE"
usage_of name.Graph = codes "graph SOURCE"
usage_of name.Refute = codes "refute POLICY SOURCE STRATEGY"
usage_of name.Check = codes "check POLICY WOVEN"
usage_of name.Play = codes "play POLICY SOURCE STRATEGY TAPE"
usage_of name.Run = codes "run POLICY WOVEN TAPE"
usage_of name.World = codes "world POLICY WOVEN STEPS"
usage_of name.Values = codes "values POLICY WOVEN ANSWERS"
usage_of name.Sample = codes "sample N"
usage_of name.Audit = codes "audit POLICY SOURCE"
usage_of name.Reaudit = codes "reaudit POLICY SOURCE AUDIT"

-- the quantities that the bytes of a command's files are, one a file, in the order of its arguments
abbrev pub quantities_of : Command → List Quantity
quantities_of Weave = PolicyBytes ∷ (SourceBytes ∷ [])
quantities_of Procs = PolicyBytes ∷ (SourceBytes ∷ [])
quantities_of Graph = SourceBytes ∷ []
quantities_of Refute = PolicyBytes ∷ (SourceBytes ∷ (FileBytes ∷ []))
quantities_of Check = PolicyBytes ∷ (FileBytes ∷ [])
quantities_of Play = PolicyBytes ∷ (SourceBytes ∷ (FileBytes ∷ (FileBytes ∷ [])))
quantities_of Run = PolicyBytes ∷ (FileBytes ∷ (FileBytes ∷ []))
quantities_of World = PolicyBytes ∷ (FileBytes ∷ (FileBytes ∷ []))
quantities_of Values = PolicyBytes ∷ (FileBytes ∷ (FileBytes ∷ []))
quantities_of (Sample number) = []
quantities_of Audit = PolicyBytes ∷ (SourceBytes ∷ [])
quantities_of Reaudit = PolicyBytes ∷ (SourceBytes ∷ (FileBytes ∷ []))

-- the number of a sample is one that has a sample
abbrev pub IsNumbered : Command → Type 0
IsNumbered (Sample number) = HasSample number
IsNumbered _ = Unit {0}
