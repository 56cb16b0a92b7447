-- Where a program forks: a condition that is exactly `!fork()`. Public source: fork(2), which gives 0 in the child alone.
use Rattle.std.specs.Prelude.{ℕ, List, [], ◌∷◌, Bool, true, false, cond, ◌&&◌, Some, nat_eq, codes}
use Rattle.std.specs.List.{flat_map, list_any}
use Rattle.std.specs.Str.{bytes_eq}
use Rattle.cw_syntax.specs.declared.program.Op.{Op}
use Rattle.cw_syntax.specs.declared.program.Op.TheVariants.{Prefix, Call as CallOp}
use Rattle.cw_syntax.specs.Names.{text}
use Rattle.cw_syntax.specs.Trees.{Tree, Node, Trees, none, more, Statement, Stated, Form, Chooses, Whiles, Does, Fors, File}
use Rattle.cw_syntax.specs.Plans.{If}
use Rattle.cw_syntax.specs.Frames.{Item, Todo, Test, Frame}
use Rattle.cw_model.specs.Boards.{Phase, Free, Board}
use Rattle.cw_scope.specs.Walks.{every_statement}

-- a call of `fork` without arguments
abbrev pub calls_fork : List ℕ → Op → Trees → Bool
calls_fork source (CallOp f) none = bytes_eq (text source f) (codes "fork")
calls_fork source _ _ = false

abbrev pub is_fork_operand : List ℕ → Trees → Bool
is_fork_operand source (more (Node op parts from to) none) = calls_fork source op parts
is_fork_operand source _ = false

-- the operator `!`, of number 2 among those before an operand, over such a call
abbrev pub is_fork_test : List ℕ → Tree → Bool
is_fork_test source (Node (Prefix n) operand from to) = nat_eq n 2 && is_fork_operand source operand
is_fork_test source _ = false

abbrev pub place_if : List ℕ → Tree → ℕ → List ℕ
place_if source test place = cond (is_fork_test source test) (place ∷ []) []

-- the place of an `if` or a loop with such a condition
abbrev pub fork_in : List ℕ → ℕ → Form → List ℕ
fork_in source place (Chooses test arm other) = place_if source test place
fork_in source place (Whiles test body) = place_if source test place
fork_in source place (Does body test) = place_if source test place
fork_in source place (Fors init (Some test) step body) = place_if source test place
fork_in source place _ = []

abbrev pub fork_of : List ℕ → Statement → List ℕ
fork_of source (Stated form from to) = fork_in source from form

-- those of a source
abbrev pub fork_places : List ℕ → File → List ℕ
fork_places source file = flat_map (λ p. fork_of source p.statement) (every_statement file)

abbrev pub is_place : List ℕ → ℕ → Bool
is_place places at = list_any (λ place. nat_eq place at) places

-- an item that is an `if` at one of these places, or the test of a loop there
abbrev pub is_fork_item : List ℕ → Item → Bool
is_fork_item forks (Todo (If at s t)) = is_place forks at
is_fork_item forks (Test at true stepped s) = is_place forks at
is_fork_item forks _ = false

abbrev pub front_forks : List ℕ → List Frame → Bool
front_forks forks ((i ∷ is) ∷ frames) = is_fork_item forks i
front_forks forks _ = false

abbrev pub forks_in : List ℕ → Phase → List Frame → Bool
forks_in forks Free stack = front_forks forks stack
forks_in forks _ stack = false

-- a board at which the program forks
abbrev pub at_fork : List ℕ → Board → Bool
at_fork forks b = forks_in forks b.phase b.stack
