use Rattle.std.proofs.Common.{List, map, ap₂, ◌∙◌}
use Rattle.cw_syntax.specs.Trees.{Declared}
use Rattle.cw_value.specs.Stores.{Cell, Store}
use Rattle.cw_value.specs.Expressions.{Named}
use Rattle.cw_starts.specs.Held.{begins_with}
use Rattle.cw_starts.specs.Sources.{array_with, source_in}
use Rattle.cw_starts.proofs.sizes.start_store.Goals as goal

abbrev made : List Cell → List (List Cell) → Store
made cells arrays = record { cells = cells; arrays = arrays }

pub returns : goal.returns
returns c =
    let s = source_in c.args.source.now in
    record {
      store = ap₂ made
          (c.in_ok-cells.ensures ∙ ap₂ (λ (is : List Declared) (n : Named). map (begins_with s.bytes is) n.plain) c.requires.items c.requires.names)
          (c.in_ok-arrays.ensures ∙ ap₂ (λ (is : List Declared) (n : Named). map (array_with s is) n.arrays) c.requires.items c.requires.names);
    }
