-- Which scope rule a file breaks first, and where.
use Rattle.std.specs.Prelude.{◌≡◌, ◌⊎◌, ℕ, List, [], map, length, cond, nat_lt, Option, Some, None}
use Rattle.std.specs.Option.{option_map, option_or}
use Rattle.cw_core.specs.declared.quantity.Quantity.TheVariants.{Functions, Labels}
use Rattle.cw_core.specs.Quantities.{limit_of}
use Rattle.cw_syntax.specs.declared.program.Name.{Name}
use Rattle.cw_syntax.specs.Trees.{Tree, File}
use Rattle.cw_scope.specs.declared.faults.ScopeFault.{ScopeFault}
use Rattle.cw_scope.specs.declared.faults.ScopeFault.TheVariants.{NoMain, TwoFunctions, TwoLabels, Arity, CallForm, MainCalled, Reserved, Jump, Limit, NoMemory}
use Rattle.cw_scope.specs.Walks.{Nested, every_statement, Whole, every_whole, every_node}
use Rattle.cw_scope.specs.Names.{uses, every_name, every_label}
use Rattle.cw_scope.specs.Rules.{different, has_main, second_function, second_label, wrong_arity, function_name, wrong_form, main_call, reserved, loose_jump}
use Rattle.cw_resolve.specs.Soonest.{sooner, soonest}

-- Each rule by the fault that is due where it is broken, over the lists of what stands in the file.
unfoldable pub no_main : List ℕ → File → Option ScopeFault
no_main source file = cond (has_main source file) None (Some NoMain)

unfoldable pub two_functions : List ℕ → File → Option ScopeFault
two_functions source file = option_map TwoFunctions (second_function source file)

unfoldable pub two_labels : List ℕ → File → Option ScopeFault
two_labels source file = option_map TwoLabels (second_label source file.functions)

unfoldable pub arity : List ℕ → File → List Tree → Option ScopeFault
arity source file nodes = option_map Arity (soonest (map (wrong_arity source file) nodes))

unfoldable pub call_form : List ℕ → File → List Name → List Whole → Option ScopeFault
call_form source file names wholes = option_map CallForm (sooner (soonest (map (function_name source file) names)) (soonest (map (wrong_form source file) wholes)))

unfoldable pub main_called : List ℕ → List Tree → Option ScopeFault
main_called source nodes = option_map MainCalled (soonest (map (main_call source) nodes))

unfoldable pub reserved_name : List ℕ → List Name → Option ScopeFault
reserved_name source names = option_map Reserved (soonest (map (reserved source) names))

unfoldable pub jump : List Nested → Option ScopeFault
jump statements = option_map Jump (soonest (map (λ p. loose_jump p.looped p.statement) statements))

-- no more functions, and no more different names of labels, than a source may have
unfoldable pub limit : List ℕ → File → List Name → Option ScopeFault
limit source file labels =
    cond (nat_lt (limit_of Functions) (length file.functions)) (Some (Limit Functions))
    (cond (nat_lt (limit_of Labels) (length (different source [] labels))) (Some (Limit Labels)) None)

infixl 10 ◌or_else◌
abbrev pub ◌or_else◌ : Option ScopeFault → Option ScopeFault → Option ScopeFault
rule or_else other = option_or rule other

-- The rules in their order: the fault of the first that is broken, and None where all are kept.
abbrev pub scope_fault : List ℕ → File → Option ScopeFault
scope_fault source file =
    no_main source file
    or_else two_functions source file
    or_else two_labels source file
    or_else arity source file (every_node file)
    or_else call_form source file (uses file) (every_whole file)
    or_else main_called source (every_node file)
    or_else reserved_name source (every_name file)
    or_else jump (every_statement file)
    or_else limit source file (every_label file)

-- A fault that is answered is the one that is due, or want of memory.
abbrev pub IsDue : Option ScopeFault → ScopeFault → Type 0
IsDue due fault = (fault ≡ NoMemory) ⊎ (due ≡ Some fault)
