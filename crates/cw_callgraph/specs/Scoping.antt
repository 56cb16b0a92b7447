-- What the names in a function mean, by the scopes of C. Public source: ISO/IEC 9899:2011, sections 6.2.1, 6.2.2 and 6.7.
use Rattle.std.specs.Prelude.{ℕ, List, [], ◌∷◌, ◌++◌, map, Bool, true, false, cond, Option, Some, None, is_some, is_none, unwrap_or}
use Rattle.std.specs.List.{filter, filter_map, flat_map}
use Rattle.std.specs.Option.{option_map}
use Rattle.std.specs.Str.{bytes_eq}
use Rattle.cw_syntax.specs.declared.program.Name.{Name}
use Rattle.cw_syntax.specs.declared.program.Op.{Op}
use Rattle.cw_syntax.specs.declared.program.Op.TheVariants.{Name as NameOp}
use Rattle.cw_syntax.specs.declared.program.Param.{Param}
use Rattle.cw_syntax.specs.Names.{slice, text}
use Rattle.cw_syntax.specs.Trees.{Tree, Node, Trees, none, more, Declared, Declaration, File}
use Rattle.cw_callgraph.specs.declared.scopes.Meaning.{Meaning}
use Rattle.cw_callgraph.specs.declared.scopes.Meaning.TheVariants.{Variable, Array, Parameter, Local}
use Rattle.cw_callgraph.specs.declared.scopes.Known.{Known}

-- What a name means, where the last of these declarations that has it counts; without one it means what it meant before.
abbrev pub latest : List ℕ → Option Meaning → List Known → List ℕ → Option Meaning
latest source before [] name = before
latest source before (k ∷ ks) name = latest source (cond (bytes_eq name (text source k.name)) (Some k.means) before) ks name

abbrev pub is_shared : Option Meaning → Bool
is_shared (Some Variable) = true
is_shared (Some Array) = true
is_shared _ = false

abbrev pub is_array : Option Meaning → Bool
is_array (Some Array) = true
is_array _ = false

abbrev pub is_parameter : Option Meaning → Bool
is_parameter (Some Parameter) = true
is_parameter _ = false

-- The names at file scope, before or behind the function: a name that any declaration gives brackets is an array.
abbrev pub has_shape : Bool → Declared → Bool
has_shape true i = is_some i.array
has_shape false i = is_none i.array

abbrev pub global : Bool → Declared → Known
global arrays i = record { name = i.name; means = cond arrays Array Variable }

abbrev pub globals_in : Bool → Declaration → List Known
globals_in arrays d = map (global arrays) (filter (has_shape arrays) d.items)

abbrev pub file_scope : File → List Known
file_scope file = flat_map (globals_in false) file.globals ++ flat_map (globals_in true) file.globals

abbrev pub parameters : List Param → List Known
parameters params = filter_map (λ p. option_map (λ name. record { name = name; means = Parameter }) p.name) params

-- The names at file scope and those of the function, of which a later one hides an earlier one.
module _ (source : List ℕ) (file : List Known) where
  abbrev pub name_means : List Known → List ℕ → Option Meaning
  name_means inner name = latest source (latest source None file name) inner name

  -- an expression that is a name means what the name means
  abbrev pub meaning_at : List Known → Op → ℕ → ℕ → Option Meaning
  meaning_at inner NameOp from to = name_means inner (slice source from to)
  meaning_at inner _ from to = None

  abbrev pub meaning_of : List Known → Tree → Option Meaning
  meaning_of inner (Node op parts from to) = meaning_at inner op from to

  abbrev pub first_means : List Known → Trees → Option Meaning
  first_means inner none = None
  first_means inner (more t ts) = meaning_of inner t

  -- a declaration in a function with `extern` means the file's own variable, where there is one
  abbrev pub local_meaning : Bool → Name → Meaning
  local_meaning false name = Local
  local_meaning true name = unwrap_or (latest source None file (text source name)) Local

  abbrev pub local : Bool → Declared → Known
  local external i = record { name = i.name; means = local_meaning external i.name }
