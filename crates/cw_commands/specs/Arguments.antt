-- The arguments of a command line.
use Rattle.std.specs.Prelude.{◌≡◌, ℕ, List, [], ◌∷◌, map, Option, Some, None, option_map, option_and_then}
use Rattle.std.specs.Prelude.{String, string_bytes}
use Rattle.std.specs.declared.alloc.Global.{Global}
use Rattle.cw_sample.specs.Samples.{sample_number}
use Rattle.cw_commands.specs.declared.command.Command.{Command}
use Rattle.cw_commands.specs.declared.command.Command.TheVariants.{Weave, Procs, Graph, Refute, Check, Play, Run, Sample, Reaudit, World, Audit, Values}
use Rattle.cw_commands.specs.declared.name.Name.{Name}
use Rattle.cw_commands.specs.declared.name.Name.TheVariants as name
use Rattle.cw_commands.specs.declared.arguments.Request.{Request}
use Rattle.cw_commands.specs.Commands.{named_by, operands_of}
use Rattle.cw_commands.specs.Lines.{taken}

-- the command that the first argument names
abbrev pub first_command : List (String Global) → Option Name
first_command [] = None
first_command (argument ∷ rest) = named_by (string_bytes argument)

-- a command, and the names of its files
abbrev pub Wish : Type 0
Wish = Command × List (List ℕ)

-- the sample whose number one argument tells
abbrev pub sample_of : List (List ℕ) → Option Wish
sample_of (argument ∷ []) = option_map (λ number. (Sample number, [])) (sample_number argument)
sample_of arguments = None

-- what a name asks for with the values of its operands: they are the names of files, or the number of a sample
abbrev pub asked : Name → List (List ℕ) → Option Wish
asked name.Weave arguments = Some (Weave, arguments)
asked name.Procs arguments = Some (Procs, arguments)
asked name.Graph arguments = Some (Graph, arguments)
asked name.Refute arguments = Some (Refute, arguments)
asked name.Check arguments = Some (Check, arguments)
asked name.Play arguments = Some (Play, arguments)
asked name.Run arguments = Some (Run, arguments)
asked name.World arguments = Some (World, arguments)
asked name.Values arguments = Some (Values, arguments)
asked name.Sample arguments = sample_of arguments
asked name.Audit arguments = Some (Audit, arguments)
asked name.Reaudit arguments = Some (Reaudit, arguments)

abbrev pub request_of : Option Name → List (String Global) → Option Wish
request_of None arguments = None
request_of (Some name) arguments = option_and_then (asked name) (taken (operands_of name) (map string_bytes arguments))

-- what the arguments ask for: the first names a command, and the others fit it
abbrev pub requested : List (String Global) → Option Wish
requested [] = None
requested (argument ∷ rest) = request_of (named_by (string_bytes argument)) rest

-- the same as the code keeps it
abbrev pub wish_of : Request → Wish
wish_of a = (a.command, map (λ name. name.now) a.names.items)

-- one argument asks for nothing
abbrev pub OneArgumentIsNoCommand : Type 0
OneArgumentIsNoCommand = (argument : String Global) → requested (argument ∷ []) ≡ None
