-- The form of a source: what stands for its calls of functions that a policy detaches. Public source: ISO/IEC 9899:2011, 6.8
-- (statements), and fork(2) and _exit(2).
use Rattle.std.specs.Prelude.{ℕ, zero, ◌+◌, ◌≤◌, max, List, [], ◌∷◌, ◌++◌, drop, Bool, false, cond, Option, Some, None, codes}
use Rattle.std.specs.List.{filter_map, list_any}
use Rattle.std.specs.Str.{bytes_eq}
use Rattle.cw_syntax.specs.declared.program.Op.TheVariants.{Call as CallOp, Assign}
use Rattle.cw_syntax.specs.Names.{slice, text}
use Rattle.cw_syntax.specs.Trees.{Tree, Node, none, more, Statement, Stated, Form, Block, Evaluates, Labels, Chooses, Whiles, Does, Fors, Perhaps, nothing, just, Statements, nil, cons, File}
use Rattle.cw_scope.specs.Walks.{every_statement}
use Rattle.cw_detach.specs.declared.spans.Span.{Span}

-- what stands before a call that isn't waited for, and what behind it
unfoldable pub before : List ℕ
before = codes "{if(!fork()){"

unfoldable pub behind : List ℕ
behind = codes "_exit(0);for(;;);}}"

-- The source from a place on, with each of these spans between the two texts.
unfoldable pub form_from : List ℕ → ℕ → List Span → List ℕ
form_from source at [] = drop at source
form_from source at (s ∷ ss) = slice source at s.from ++ (before ++ (slice source s.from s.to ++ (behind ++ form_from source s.to ss)))

-- the name is one of these
abbrev pub is_among : List (List ℕ) → List ℕ → Bool
is_among names name = list_any (bytes_eq name) names

-- the expression is a call of one of these functions
abbrev pub calls_one : List ℕ → List (List ℕ) → Tree → Bool
calls_one source names (Node (CallOp f) arguments from to) = is_among names (text source f)
calls_one source names _ = false

-- the span of a statement `f(..);` with f one of these functions, its `;` with it
abbrev pub span_at : List ℕ → List (List ℕ) → Form → ℕ → ℕ → Option Span
span_at source names (Evaluates e) from to = cond (calls_one source names e) (Some (record { from = from; to = to })) None
span_at source names _ from to = None

abbrev pub span_of : List ℕ → List (List ℕ) → Statement → Option Span
span_of source names (Stated form from to) = span_at source names form from to

-- The statements that are such calls, in the order of the text: none stands in another.
abbrev pub spans : List ℕ → List (List ℕ) → File → List Span
spans source names file = filter_map (λ p. span_of source names p.statement) (every_statement file)

-- The form of a source: each statement `f(ARGS);` of a detached function stands between `{if(!fork()){` and `_exit(0);for(;;);}}`, and
-- all else is as it was. So the child makes the call and goes no further, and the parent doesn't wait for it.
unfoldable pub form_of : List ℕ → List (List ℕ) → File → List ℕ
form_of source names file = form_from source 0 (spans source names file)

-- the place of the call in an assignment `x = f(..)` with f one of these functions
abbrev pub place_if : List ℕ → List (List ℕ) → Tree → Option ℕ
place_if source names (Node op parts from to) = cond (calls_one source names (Node op parts from to)) (Some from) None

abbrev pub result_of : List ℕ → List (List ℕ) → Tree → Option ℕ
result_of source names (Node (Assign zero) (more x (more call none)) from to) = place_if source names call
result_of source names _ = None

abbrev pub result_at : List ℕ → List (List ℕ) → Form → Option ℕ
result_at source names (Evaluates e) = result_of source names e
result_at source names _ = None

abbrev pub result_in : List ℕ → List (List ℕ) → Statement → Option ℕ
result_in source names (Stated form from to) = result_at source names form

-- How deep a statement of the form nests, by the statement of the source: what stands for a call is a block, an `if`, a block, a loop
-- and its body.
abbrev mutual
  pub nesting : List ℕ → List (List ℕ) → Statement → ℕ
  nesting source names (Stated form from to) = nesting_in source names form

  pub nesting_in : List ℕ → List (List ℕ) → Form → ℕ
  nesting_in source names (Block ss) = nesting_all source names ss + 1
  nesting_in source names (Evaluates e) = cond (calls_one source names e) 5 1
  nesting_in source names (Labels name mark s) = nesting source names s + 1
  nesting_in source names (Chooses test s other) = max (nesting source names s) (nesting_arm source names other) + 1
  nesting_in source names (Whiles test s) = nesting source names s + 1
  nesting_in source names (Does s test) = nesting source names s + 1
  nesting_in source names (Fors init test step s) = nesting source names s + 1
  nesting_in source names _ = 1

  pub nesting_arm : List ℕ → List (List ℕ) → Perhaps → ℕ
  nesting_arm source names nothing = 0
  nesting_arm source names (just s) = nesting source names s

  pub nesting_all : List ℕ → List (List ℕ) → Statements → ℕ
  nesting_all source names nil = 0
  nesting_all source names (cons s ss) = max (nesting source names s) (nesting_all source names ss)

-- The form without the two texts.
unfoldable pub kept_from : List ℕ → ℕ → List Span → List ℕ
kept_from source at [] = drop at source
kept_from source at (s ∷ ss) = slice source at s.from ++ (slice source s.from s.to ++ kept_from source s.to ss)

-- The spans stand one behind the other between two places.
abbrev pub AreApart : ℕ → ℕ → List Span → Type 0
AreApart from to [] = from ≤ to
AreApart from to (s ∷ ss) = (from ≤ s.from) × (s.from ≤ s.to) × AreApart s.to to ss
