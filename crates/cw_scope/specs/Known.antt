-- Working definitions: the functions of a file by their names, as the program holds them.
use Rattle.std.specs.Prelude.{◌≡◌, ℕ, Bool, false, List, None, slice_index, slice_index_or}
use Rattle.std.specs.List.{find}
use Rattle.std.specs.Map.{lookup}
use Rattle.std.specs.Option.{option_map}
use Rattle.std.specs.Borrow.{Bor}
use Rattle.std.specs.Str.{bytes_eq}
use Rattle.cw_syntax.specs.declared.program.Function.{Function}
use Rattle.cw_syntax.specs.Names.{text}
use Rattle.cw_syntax.specs.Trees.{Definition, definition_of, file_of}
use Rattle.cw_scope.specs.declared.functions.Functions.{Functions}

-- These entries have at each name the first of the functions with it.
abbrev pub AreFirst : List ℕ → List Definition → List (Bor (List ℕ) × Bor Function) → Type 0
AreFirst source functions entries =
    (name : Bor (List ℕ)) → option_map (λ f. definition_of f.now) (lookup (λ k. bytes_eq name.now k.now) entries) ≡ find (λ f. bytes_eq name.now (text source f.name)) functions

-- No function has a name that begins with a byte which isn't flagged.
abbrev pub Begin : List ℕ → List Definition → List Bool → Type 0
Begin source functions flags = (name : List ℕ) → slice_index_or flags (slice_index name 0) false ≡ false → find (λ f. bytes_eq name (text source f.name)) functions ≡ None

pub record IsKnown (known : Functions) : Type 0 where
  pub first : AreFirst known.source.now (file_of known.program.now).functions known.by_name.entries
  pub begin : Begin known.source.now (file_of known.program.now).functions known.first_bytes
