-- What a run over values shows, as text: a line for each external call, the number of tries, how it ended.
use Rattle.std.specs.Prelude.{ℕ, List, ◌++◌, map, codes}
use Rattle.std.specs.Fmt.{decimal, signed_decimal}
use Rattle.std.specs.List.{flat_map}
use Rattle.cw_syntax.specs.Names.{text}
use Rattle.cw_text.specs.Lines.{joined, line}
use Rattle.cw_source.specs.Places.{line_of, column_of}
use Rattle.cw_value.specs.declared.values.Arg.{Arg}
use Rattle.cw_value.specs.declared.values.Arg.TheVariants.{Number, Text}
use Rattle.cw_value.specs.declared.values.Stop.{Stop}
use Rattle.cw_value.specs.declared.values.Stop.TheVariants.{Ended, Form, Unset, Unknown, Overflow, Division, Index, Answers, Steps, Refused}
use Rattle.cw_value.specs.Expressions.{Made}
use Rattle.cw_value.specs.Shown.{Values}

-- an argument is its value, or, where it is no number, its bytes in the source
abbrev pub arg_text : (source : List ℕ) → Arg → List ℕ
arg_text source (Number z) = signed_decimal z
arg_text source (Text name) = text source name

abbrev pub args_text : (source : List ℕ) → List Arg → List ℕ
args_text source args = joined 44 (map (arg_text source) args)

-- `call NAME(ARGS) = ANSWER`
unfoldable pub call_line : (source : List ℕ) → Made → List ℕ
call_line source m = line (codes "call " ++ (text source m.name ++ (codes "(" ++ (args_text source m.args ++ (codes ") = " ++ signed_decimal m.answer)))))

-- `tries N`
unfoldable pub tries_line : ℕ → List ℕ
tries_line n = line (codes "tries " ++ decimal n)

-- `LINE:COLUMN`
unfoldable pub place_text : (source : List ℕ) → (at : ℕ) → List ℕ
place_text source at = decimal (line_of source at) ++ (codes ":" ++ decimal (column_of source at))

-- `stop REASON LINE:COLUMN`
unfoldable pub stopped : (source reason : List ℕ) → (at : ℕ) → List ℕ
stopped source reason at = line (codes "stop " ++ (reason ++ (codes " " ++ place_text source at)))

-- `ended`, or why and where it stopped; `stop steps`; `stop refused SEAM`
unfoldable pub stop_line : (source : List ℕ) → Stop → List ℕ
stop_line source Ended = line (codes "ended")
stop_line source (Form at) = stopped source (codes "form") at
stop_line source (Unset at) = stopped source (codes "unset") at
stop_line source (Unknown at) = stopped source (codes "unknown") at
stop_line source (Overflow at) = stopped source (codes "overflow") at
stop_line source (Division at) = stopped source (codes "division") at
stop_line source (Index at) = stopped source (codes "index") at
stop_line source (Answers at) = stopped source (codes "answers") at
stop_line source Steps = line (codes "stop steps")
stop_line source (Refused seam) = line (codes "stop refused " ++ decimal seam.0)

unfoldable pub values_text : (source : List ℕ) → Values → List ℕ
values_text source v = flat_map (call_line source) v.made ++ (tries_line v.tried ++ stop_line source v.stop)
