-- Working definitions: an argument behind a comma.
use Rattle.std.specs.Prelude.{ℕ, List, ◌∷◌}
use Rattle.cw_value.specs.declared.values.Arg.{Arg}
use Rattle.cw_value_text.specs.ValuesText.{arg_text}

abbrev pub behind : (source : List ℕ) → Arg → List ℕ
behind source arg = 44 ∷ arg_text source arg
