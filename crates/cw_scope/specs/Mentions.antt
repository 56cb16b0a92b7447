-- Working definitions: the plain names and the calls of an expression, as the walk finds them.
use Rattle.std.specs.Prelude.{List, [], ◌∷◌, ◌++◌}
use Rattle.std.specs.List.{filter, filter_map, flat_map}
use Rattle.cw_syntax.specs.declared.program.Name.{Name}
use Rattle.cw_syntax.specs.Trees.{Tree, Node, Trees, none, more, File}
use Rattle.cw_scope.specs.Names.{plain_name}
use Rattle.cw_scope.specs.Rules.{is_call}
use Rattle.cw_scope.specs.Walks.{every_whole}

abbrev pub own_name : Tree → List Name
own_name t = filter_map plain_name (t ∷ [])

abbrev pub own_call : Tree → List Tree
own_call t = filter is_call (t ∷ [])

abbrev mutual
  pub names_at : Tree → List Name
  names_at (Node op parts from to) = own_name (Node op parts from to) ++ names_all parts

  pub names_all : Trees → List Name
  names_all none = []
  names_all (more t ts) = names_at t ++ names_all ts

abbrev mutual
  pub calls_at : Tree → List Tree
  calls_at (Node op parts from to) = own_call (Node op parts from to) ++ calls_all parts

  pub calls_all : Trees → List Tree
  calls_all none = []
  calls_all (more t ts) = calls_at t ++ calls_all ts

-- those of a file
abbrev pub every_plain : File → List Name
every_plain file = flat_map (λ w. names_at w.tree) (every_whole file)

abbrev pub every_call : File → List Tree
every_call file = flat_map (λ w. calls_at w.tree) (every_whole file)
