-- The command lines of the commands, as clap reads them.
use Rattle.std.specs.Prelude.{List, [], ◌∷◌, true, map, Option, Some, None, if◌then◌else◌, option_map, option_and_then, codes}
use Rattle.clap.specs.Simple.{new_shape}
use Rattle.clap.specs.Words.{App, Row, Rule, Text, first_of, matches_of, new_rule, takes}

-- an argument that has to stand there
abbrev pub argument_rule : (operand : Text) → Rule
argument_rule operand = record (new_rule operand) { required = true }

-- The arguments behind a command's name are its operands, one after the other. No flag is known, not even those for help and the version.
abbrev pub line_app : (operands : List Text) → App
line_app operands = record {
  top = record (new_shape (codes "capweave")) { rules = map argument_rule operands; no_binary_name = true; disable_help_flag = true; disable_version_flag = true };
  subs = [];
}

-- all of them, where each is there
abbrev pub with_first : Option Text → Option (List Text) → Option (List Text)
with_first first rest = option_and_then (λ argument. option_map (λ arguments. argument ∷ arguments) rest) first

abbrev pub values : (operands : List Text) → List Row → Option (List Text)
values [] rows = Some []
values (operand ∷ operands) rows = with_first (first_of operand rows) (values operands rows)

-- the values of the operands, where the arguments fit
abbrev pub taken : (operands arguments : List Text) → Option (List Text)
taken operands arguments = if takes (line_app operands) arguments then values operands (matches_of (line_app operands) arguments) else None
