-- The rules for the variables that a policy's descriptors name: where they are declared, and how they may be used. Public source:
-- ISO/IEC 9899:2011, sections 6.5.2.4, 6.5.3.1, 6.5.3.2, 6.5.16, 6.7 and 6.9.2, and this project's model of descriptors.
use Rattle.std.specs.Prelude.{◌≡◌, ◌⊎◌, ℕ, List, [], ◌∷◌, map, Bool, true, false, cond, not, ◌&&◌, nat_eq, nat_lt, nat_le, Option, Some, None, is_some, is_none, codes}
use Rattle.std.specs.List.{flat_map, filter, list_any, list_all, position_from}
use Rattle.std.specs.Option.{option_map, option_or}
use Rattle.std.specs.Str.{bytes_eq}
use Rattle.cw_syntax.specs.declared.program.Base.{Base}
use Rattle.cw_syntax.specs.declared.program.Base.TheVariants.{Int}
use Rattle.cw_syntax.specs.declared.program.CType.{CType}
use Rattle.cw_syntax.specs.declared.program.Name.{Name}
use Rattle.cw_syntax.specs.declared.program.Op.{Op}
use Rattle.cw_syntax.specs.declared.program.Op.TheVariants.{Name as NameOp, Number, Call as CallOp, Prefix, Suffix, Assign}
use Rattle.cw_syntax.specs.Names.{slice, text, number_in}
use Rattle.cw_syntax.specs.Trees.{Tree, Node, Trees, none, more, Declared, Declaration, Definition, File, op_of, parts_of}
use Rattle.cw_syntax.specs.Plans.{Scene, scene_of, Action, Opens, Closes, action_of, descriptor_of}
use Rattle.cw_rights.specs.Policies.{PlainPolicy, PlainDescriptor}
use Rattle.cw_resolve.specs.Scenes.{names_of}
use Rattle.cw_scope.specs.declared.descriptors.DescriptorFault.{DescriptorFault}
use Rattle.cw_scope.specs.declared.descriptors.DescriptorFault.TheVariants.{NoVariable, Shadowed, Misuse, NoMemory}
use Rattle.cw_scope.specs.Walks.{nodes, nodes_in, listed, Whole, every_whole}
use Rattle.cw_scope.specs.Names.{locals}
use Rattle.cw_scope.specs.Rules.{at_if}
use Rattle.cw_resolve.specs.Soonest.{soonest}

-- a source under the names that a policy has
abbrev pub scene_under : PlainPolicy → List ℕ → File → Scene
scene_under policy source file = scene_of (names_of policy) source file

-- the expression is `-1`
abbrev pub is_number : ℕ → Op → Bool
is_number n (Number m) = nat_eq m n
is_number n _ = false

abbrev pub is_minus : Op → Bool
is_minus (Prefix n) = nat_eq n 1
is_minus _ = false

abbrev pub is_minus_one : Tree → Bool
is_minus_one (Node op (more operand none) from to) = is_minus op && is_number 1 (op_of operand)
is_minus_one _ = false

-- no initialiser, or `-1` without braces
abbrev pub is_start : Bool → List Tree → Bool
is_start braces [] = true
is_start braces (e ∷ []) = not braces && is_minus_one e
is_start braces _ = false

abbrev pub is_int : Base → Bool
is_int Int = true
is_int _ = false

abbrev pub is_plain_int : CType → Bool
is_plain_int kind = is_int kind.base && not kind.unsigned && nat_eq kind.stars 0

abbrev pub is_before : ℕ → List Definition → Bool
is_before place functions = list_all (λ f. nat_lt place f.name.from) functions

-- An item of a declaration at file scope may be a descriptor's variable where it is an `int` without `unsigned`, `const`, stars or
-- brackets, not `extern`, without initialiser or with `-1`, and before each definition of a function.
abbrev pub may_be_variable : File → Declaration → Declared → Bool
may_be_variable file d i =
    not d.external && not d.constant && is_plain_int i.kind && is_none i.array && is_start i.braces (listed i.init) && is_before i.name.from file.functions

-- A name declared at file scope, and whether it may be a descriptor's variable.
pub record Entry : Type 0 where
  pub name : Name
  pub fits : Bool

abbrev pub entry_in : File → Declaration → Declared → Entry
entry_in file d i = record { name = i.name; fits = may_be_variable file d i }

abbrev pub entries_of : File → Declaration → List Entry
entries_of file d = map (entry_in file d) d.items

abbrev pub entries : File → List Entry
entries file = flat_map (entries_of file) file.globals

-- it is declared once
abbrev pub is_empty : List Entry → Bool
is_empty [] = true
is_empty (entry ∷ rest) = false

abbrev pub is_one : List Entry → Bool
is_one [] = false
is_one (entry ∷ rest) = entry.fits && is_empty rest

abbrev pub is_declared : List ℕ → List Entry → List ℕ → Bool
is_declared source declared name = is_one (filter (λ e. bytes_eq name (text source e.name)) declared)

-- a parameter or a local declaration has its name
abbrev pub is_shadowed : List ℕ → List Name → List ℕ → Bool
is_shadowed source names name = list_any (λ n. bytes_eq name (text source n)) names

abbrev pub is_variable : PlainDescriptor → Bool
is_variable d = is_none d.number

-- The first descriptor that is a variable and has no such declaration; the first that is shadowed.
abbrev pub first_undeclared : List ℕ → List Entry → List PlainDescriptor → Option ℕ
first_undeclared source declared descriptors = position_from (λ d. is_variable d && not (is_declared source declared d.name)) 0 descriptors

abbrev pub first_shadowed : List ℕ → List Name → List PlainDescriptor → Option ℕ
first_shadowed source names descriptors = position_from (λ d. is_variable d && is_shadowed source names d.name) 0 descriptors

-- an expression that is a descriptor's variable
abbrev pub names_variable : Scene → Tree → Bool
names_variable s (Node NameOp parts from to) = is_some (number_in s.names.descriptors (slice s.source from to))
names_variable s _ = false

-- `&`, `++` and `--`
abbrev pub is_change : ℕ → Bool
is_change n = nat_le 5 n && nat_le n 7

abbrev pub first_is_variable : Scene → Trees → Bool
first_is_variable s none = false
first_is_variable s (more t ts) = names_variable s t

abbrev pub names_some : Scene → Trees → Bool
names_some s ts = list_any (λ t. is_some (descriptor_of s t)) (listed ts)

-- A use of a descriptor that isn't one of the two forms of statements: an assignment to its variable, `++`, `--` or `&` of it, a
-- call of `close` with a descriptor among its arguments.
abbrev pub misuse : Scene → Tree → Option ℕ
misuse s (Node (Assign n) parts from to) = at_if (first_is_variable s parts) from
misuse s (Node (Prefix n) parts from to) = at_if (is_change n && first_is_variable s parts) from
misuse s (Node (Suffix n) parts from to) = at_if (first_is_variable s parts) from
misuse s (Node (CallOp f) arguments from to) = at_if (bytes_eq (text s.source f) (codes "close") && names_some s arguments) from
misuse s _ = None

-- The statements `v = g(..);` and `close(d);` themselves are an open and a close; what is in them is used like any other.
abbrev pub is_own : Action → Bool
is_own (Opens d) = true
is_own (Closes d) = true
is_own _ = false

abbrev pub used : Scene → Whole → List Tree
used s w = cond (w.stands && is_own (action_of s w.tree)) (nodes_in (parts_of w.tree)) (nodes w.tree)

abbrev pub least_misuse : Scene → File → Option ℕ
least_misuse s file = soonest (map (misuse s) (flat_map (used s) (every_whole file)))

-- The rules in their order: the first that is broken, with the descriptor's number or the place.
abbrev pub descriptor_fault : List ℕ → File → PlainPolicy → Option DescriptorFault
descriptor_fault source file policy =
    option_or
    (option_or (option_map NoVariable (first_undeclared source (entries file) policy.descriptors)) (option_map Shadowed (first_shadowed source (locals file) policy.descriptors)))
    (option_map Misuse (least_misuse (scene_under policy source file) file))

abbrev pub IsDueDescriptor : Option DescriptorFault → DescriptorFault → Type 0
IsDueDescriptor due fault = (fault ≡ NoMemory) ⊎ (due ≡ Some fault)
