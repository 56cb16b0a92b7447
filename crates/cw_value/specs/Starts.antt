-- How a run begins: the values at file scope, whose initialisers are evaluated in the order of the text, and the frame of `main`. And what may
-- not be run: a function that declares a name twice, a name of file scope, or a `static` one.
use Rattle.std.specs.Prelude.{ℕ, ℤ, pos, List, [], ◌∷◌, ◌++◌, map, replicate, Bool, true, false, cond, ◌&&◌, ◌||◌, Option, Some, None, unwrap_or, is_some}
use Rattle.std.specs.Option.{option_or}
use Rattle.std.specs.List.{flat_map, filter_map, list_any}
use Rattle.std.specs.Str.{bytes_eq}
use Rattle.cw_syntax.specs.declared.program.Name.{Name}
use Rattle.cw_syntax.specs.Names.{text}
use Rattle.cw_syntax.specs.Trees.{Tree, Trees, none, more, Declared, Statement, Stated, Form, Declares, Definition, File}
use Rattle.cw_value.specs.Stores.{Cell, Store}
use Rattle.cw_value.specs.Expressions.{Scope, Memory, Outcome, gives, stops, ◌and◌, Location, Shared, SharedArray, location_of, given_for}
use Rattle.cw_value.specs.Declarations.{Done, done, listed, size_in, sized, made_array, new_plain, new_array}
use Rattle.cw_value.specs.Deeds.{said_all}
use Rattle.cw_value.specs.Machines.{Source, Machine, no_names, shared_names, scope_in, globals, parameters, new_locals, function}

abbrev pub has_list : Trees → Bool
has_list none = false
has_list (more e es) = true

abbrev pub no_store : Store
no_store = record { cells = []; arrays = [] }

abbrev pub no_memory : Memory
no_memory = record { own = no_store; shared = no_store; calls = []; made = [] }

abbrev pub blank : List ℕ → Scope
blank bytes = record { source = bytes; own = no_names; shared = no_names; given = [] }

abbrev pub number_of : Outcome ℕ → Option ℕ
number_of (gives n m) = Some n
number_of (stops x m) = None

module _ (s : Source) where
  abbrev pub is_named : List ℕ → Declared → Bool
  is_named name i = bytes_eq name (text s.bytes i.name)

  -- A name of file scope begins unset where some declaration of it has an initialiser, and as 0 otherwise.
  abbrev pub start_cell : List ℕ → Cell
  start_cell name = cond (list_any (λ i. is_named name i && has_list i.init) (globals s.file)) None (Some (pos 0))

  -- the size that a declaration tells by its list, or by an expression of numbers alone
  abbrev pub known_size : Option Tree → Bool → Trees → Option ℕ
  known_size None true init = Some (listed true init)
  known_size None false init = None
  known_size (Some e) braces init = number_of (sized (blank s.bytes) (Some e) braces init no_memory)

  abbrev pub stated : List ℕ → Declared → Option ℕ
  stated name i = cond (is_named name i) (known_size (size_in i.array) i.braces i.init) None

  abbrev pub first_stated : List ℕ → List Declared → Option ℕ
  first_stated name [] = None
  first_stated name (i ∷ is) = option_or (stated name i) (first_stated name is)

  -- an array has its elements from the beginning where that is told
  abbrev pub start_array : List ℕ → List Cell
  start_array name = replicate (unwrap_or (first_stated name (globals s.file)) 0) (start_cell name)

  abbrev pub start_store : Store
  start_store = let names = shared_names s.bytes s.file in record { cells = map start_cell names.plain; arrays = map start_array names.arrays }

  -- ---- the turns of declarations at file scope

  abbrev pub has_size : Declared → Bool
  has_size i = is_some (size_in i.array) || i.braces

  -- without an initialiser an array is made of its size, unless an earlier declaration has told one
  abbrev pub made_once : Bool → Location → Cell → ℕ → Memory → Outcome Done
  made_once true p c n m = gives done m
  made_once false p c n m = gives done (made_array m p (replicate n c))

  abbrev pub array_turn : List Declared → Location → List ℕ → Declared → Trees → Memory → Outcome Done
  array_turn earlier p name i none m =
      sized (scope_in s None) (size_in i.array) i.braces i.init m and (λ n k. made_once (list_any (λ e. is_named name e && has_size e) earlier) p (start_cell name) n k)
  array_turn earlier p name i (more e es) m = new_array (scope_in s None) p (size_in i.array) i.braces i.init m

  abbrev pub plain_turn : Location → Trees → Memory → Outcome Done
  plain_turn p none m = gives done m
  plain_turn p (more e es) m = new_plain (scope_in s None) p (more e es) m

  abbrev pub turn_at : List Declared → List ℕ → Declared → Location → Memory → Outcome Done
  turn_at earlier name i (Shared n) m = plain_turn (Shared n) i.init m
  turn_at earlier name i (SharedArray n) m = array_turn earlier (SharedArray n) name i i.init m
  turn_at earlier name i _ m = gives done m

  abbrev pub turns : List Declared → List Declared → Memory → Outcome Done
  turns earlier [] m = gives done m
  turns earlier (i ∷ is) m =
      turn_at earlier (text s.bytes i.name) i (location_of (scope_in s None) (text s.bytes i.name)) m and (λ d k. turns (earlier ++ i ∷ []) is k)

  abbrev pub begun : List ℤ → Outcome Done
  begun calls = turns [] (globals s.file) (record { own = no_store; shared = start_store; calls = calls; made = [] })

  -- a parameter of `main` has the value that is handed in for its name
  abbrev pub main_cells : Option Definition → List Cell
  main_cells None = []
  main_cells (Some f) = map (given_for (scope_in s None)) (parameters s.bytes f)

  abbrev pub main_machine : ℕ → Memory → Machine
  main_machine main m = record { shared = m.shared; frames = new_locals s main (main_cells (function s main)) None ∷ []; calls = m.calls; made = m.made }

-- ---- what may not be run

-- A name of a function, a parameter or a declared one, and whether it is `static`.
pub record Own : Type 0 where
  pub name : Name
  pub fixed : Bool

abbrev pub owns_in : Form → List Own
owns_in (Declares d) = map (λ i. record { name = i.name; fixed = d.fixed }) d.items
owns_in _ = []

abbrev pub owns_by : Statement → List Own
owns_by (Stated form from to) = owns_in form

abbrev pub owns : Definition → List Own
owns f = map (λ n. record { name = n; fixed = false }) (filter_map (λ p. p.name) f.params) ++ flat_map owns_by (said_all f.body)

abbrev pub first_shape : List ℕ → List (List ℕ) → List (List ℕ) → List Own → Option ℕ
first_shape bytes outer before [] = None
first_shape bytes outer before (o ∷ os) =
    cond (o.fixed || (list_any (bytes_eq (text bytes o.name)) outer || list_any (bytes_eq (text bytes o.name)) before)) (Some o.name.from)
    (first_shape bytes outer (before ++ text bytes o.name ∷ []) os)

abbrev pub shape_in : List ℕ → List (List ℕ) → List Definition → Option ℕ
shape_in bytes outer [] = None
shape_in bytes outer (f ∷ fs) = option_or (first_shape bytes outer [] (owns f)) (shape_in bytes outer fs)

abbrev pub shape : List ℕ → File → Option ℕ
shape bytes file = shape_in bytes (map (λ i. text bytes i.name) (globals file)) file.functions
