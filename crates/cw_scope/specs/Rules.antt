-- The scope rules, each with the first place at which it fails. Public source: ISO/IEC 9899:2011, sections 6.2.1, 6.5.2.2, 6.8.1,
-- 6.8.6 and 6.9, and this project's subset of C.
use Rattle.std.specs.Prelude.{ℕ, zero, List, [], ◌∷◌, ◌++◌, map, length, Bool, true, false, cond, not, ◌||◌, ◌&&◌, nat_eq, Option, Some, None, is_some, slice_get, take, codes, ◌+◌}
use Rattle.std.specs.List.{filter_map, find, list_any}
use Rattle.std.specs.Option.{option_or}
use Rattle.std.specs.Str.{bytes_eq}
use Rattle.cw_syntax.specs.declared.program.Name.{Name}
use Rattle.cw_syntax.specs.declared.program.Op.TheVariants.{Name as NameOp, Call as CallOp, Assign}
use Rattle.cw_syntax.specs.Names.{text}
use Rattle.cw_syntax.specs.Trees.{Tree, Node, none, more, Statement, Stated, Form, Breaks, Continues, Definition, File, parts_of, count}
use Rattle.cw_scope.specs.Walks.{nodes, nodes_in, body_of, Whole}
use Rattle.cw_scope.specs.Names.{labels_of}
use Rattle.cw_resolve.specs.Soonest.{sooner, soonest}

-- a place, where something fails there
abbrev pub at_if : Bool → ℕ → Option ℕ
at_if false place = None
at_if true place = Some place

-- The first name of a list with the text of one before it, in the list or among the texts `before`.
abbrev pub repeated : List ℕ → List (List ℕ) → List Name → Option Name
repeated source before [] = None
repeated source before (name ∷ names) = cond (list_any (bytes_eq (text source name)) before) (Some name) (repeated source (before ++ text source name ∷ []) names)

-- The different texts of these names, each once, but for the texts `before`.
abbrev pub different : List ℕ → List (List ℕ) → List Name → List (List ℕ)
different source before [] = []
different source before (name ∷ names) =
    cond (list_any (bytes_eq (text source name)) before) (different source before names) (text source name ∷ different source (before ++ text source name ∷ []) names)

abbrev pub is_main : List ℕ → Bool
is_main name = bytes_eq name (codes "main")

abbrev pub is_reserved : List ℕ → Bool
is_reserved name = bytes_eq (take 3 name) (codes "cw_") || bytes_eq (take 3 name) (codes "CW_")

abbrev pub is_call : Tree → Bool
is_call (Node (CallOp f) arguments from to) = true
is_call _ = false

-- the place of a call, where its name passes a test
abbrev pub call_if : (Name → Bool) → Tree → Option ℕ
call_if test (Node (CallOp f) arguments from to) = at_if (test f) from
call_if test _ = None

-- the call of a whole statement `f(..);`, or `x = f(..);` with x a plain name
abbrev pub statement_call : Tree → Option Tree
statement_call (Node (CallOp f) arguments from to) = Some (Node (CallOp f) arguments from to)
statement_call (Node (Assign zero) (more (Node NameOp parts at end) (more (Node (CallOp f) arguments at' end') none)) from to) = Some (Node (CallOp f) arguments at' end')
statement_call _ = None

abbrev pub standing_call : Whole → Option Tree
standing_call w = cond w.stands (statement_call w.tree) None

-- A label's name is unique within its function: function by function, the first label that stands there again.
abbrev pub second_label : List ℕ → List Definition → Option Name
second_label source [] = None
second_label source (f ∷ fs) = option_or (repeated source [] (labels_of (body_of f))) (second_label source fs)

abbrev pub miscounted : Option Definition → ℕ → ℕ → Option ℕ
miscounted None n place = None
miscounted (Some f) n place = at_if (not (nat_eq n (length f.params))) place

module _ (source : List ℕ) (file : File) where
  -- the definition of the function with this name
  abbrev pub defined : List ℕ → Option Definition
  defined name = find (λ f. bytes_eq name (text source f.name)) file.functions

  abbrev pub is_defined : List ℕ → Bool
  is_defined name = is_some (defined name)

  -- There is a definition of `main`.
  abbrev pub has_main : Bool
  has_main = is_defined (codes "main")

  -- No function is defined twice: the first that is defined again.
  abbrev pub second_function : Option Name
  second_function = repeated source [] (map (λ f. f.name) file.functions)

  -- A call of a defined function has as many arguments as the definition has parameters.
  abbrev pub wrong_arity : Tree → Option ℕ
  wrong_arity (Node (CallOp f) arguments from to) = miscounted (defined (text source f)) (count arguments) from
  wrong_arity _ = None

  -- A variable, a parameter, a label or a plain name of an expression hasn't a defined function's name.
  abbrev pub function_name : Name → Option ℕ
  function_name name = at_if (is_defined (text source name)) name.from

  abbrev pub defined_call : Tree → Option ℕ
  defined_call t = call_if (λ f. is_defined (text source f)) t

  abbrev pub external_call : Tree → Option ℕ
  external_call t = call_if (λ f. not (is_defined (text source f))) t

  -- The calls of defined functions that may not stand where they do: of a whole statement the call itself may, unless a call is in
  -- its arguments; any other may not.
  abbrev pub misplaced : Option Tree → Tree → List (Option ℕ)
  misplaced None t = map defined_call (nodes t)
  misplaced (Some call) t = cond (list_any is_call (nodes_in (parts_of call))) (defined_call call) None ∷ map defined_call (nodes_in (parts_of call))

  -- An expression holds at most one call of another name.
  abbrev pub second_external : Tree → Option ℕ
  second_external t = slice_get (filter_map external_call (nodes t)) 1

  abbrev pub wrong_form : Whole → Option ℕ
  wrong_form w = sooner (soonest (misplaced (standing_call w) w.tree)) (second_external w.tree)

-- `main` isn't called.
abbrev pub main_call : List ℕ → Tree → Option ℕ
main_call source t = call_if (λ f. is_main (text source f)) t

-- No name begins with `cw_` or `CW_`.
abbrev pub reserved : List ℕ → Name → Option ℕ
reserved source name = at_if (is_reserved (text source name)) name.from

-- `break` and `continue` stand in a loop.
abbrev pub is_jump : Form → Bool
is_jump Breaks = true
is_jump Continues = true
is_jump _ = false

abbrev pub loose_jump : Bool → Statement → Option ℕ
loose_jump looped (Stated form from to) = at_if (is_jump form && not looped) from
