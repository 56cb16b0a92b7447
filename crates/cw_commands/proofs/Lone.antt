-- A name alone asks for nothing.
use Rattle.std.proofs.Common.{◌≡◌, List, [], ◌∷◌, Option, Some, None, refl}
use Rattle.std.specs.Prelude.{String, string_bytes}
use Rattle.std.specs.declared.alloc.Global.{Global}
use Rattle.clap.specs.Takes.{walk_passes}
use Rattle.cw_commands.specs.declared.name.Name.{Name}
use Rattle.cw_commands.specs.declared.name.Name.TheVariants as name
use Rattle.cw_commands.specs.Commands.{named_by}
use Rattle.cw_commands.specs.Arguments.{request_of, requested, Wish}

alone : (o : Option Name) → request_of o [] ≡ None
unfolding walk_passes
alone None = refl
alone (Some name.Weave) = refl
alone (Some name.Procs) = refl
alone (Some name.Graph) = refl
alone (Some name.Refute) = refl
alone (Some name.Check) = refl
alone (Some name.Play) = refl
alone (Some name.Run) = refl
alone (Some name.World) = refl
alone (Some name.Values) = refl
alone (Some name.Sample) = refl
alone (Some name.Reaudit) = refl
alone (Some name.Audit) = refl

pub one_argument : (argument : String Global) → requested (argument ∷ []) ≡ None
one_argument argument = alone (named_by (string_bytes argument))
