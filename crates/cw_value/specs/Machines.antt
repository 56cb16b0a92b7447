-- The values of a state, and how a step of the program changes them.
use Rattle.std.specs.Prelude.{ℕ, ◌-◌, ℤ, List, [], ◌∷◌, ◌++◌, map, Bool, true, false, Option, Some, None, slice_get, unwrap_or, replicate, length, is_some, is_none}
use Rattle.std.specs.Option.{option_or}
use Rattle.std.specs.List.{flat_map, filter, filter_map}
use Rattle.cw_syntax.specs.declared.program.Name.{Name}
use Rattle.cw_syntax.specs.Names.{text}
use Rattle.cw_syntax.specs.Trees.{Node, Trees, more, Declared, Statement, Stated, Form, Evaluates, Declares, Definition, File}
use Rattle.cw_syntax.specs.Plans.{Call}
use Rattle.cw_syntax.specs.Frames.{Item, Todo, End, Frame, Way, On}
use Rattle.cw_value.specs.declared.values.Stop.{Stop}
use Rattle.cw_value.specs.declared.values.Stop.TheVariants.{Form as FormStop}
use Rattle.cw_value.specs.Stores.{Cell, Store}
use Rattle.cw_value.specs.Expressions.{Made, Named, Scope, Memory, Outcome, gives, stops, location_of, Target, Nothing, stored, target_at, from_of}
use Rattle.cw_value.specs.Deeds.{said_all, form_at, deed_of, Passing, does}

-- A source with its program, and the values that are handed in for names.
pub record Source : Type 0 where
  pub bytes : List ℕ
  pub file : File
  pub given : List (List ℕ × ℤ)

-- ---- names

abbrev pub declared_in : Form → List Declared
declared_in (Declares d) = d.items
declared_in _ = []

abbrev pub declared_by : Statement → List Declared
declared_by (Stated form from to) = declared_in form

abbrev pub items_in : Definition → List Declared
items_in f = flat_map declared_by (said_all f.body)

abbrev pub is_array : Declared → Bool
is_array i = is_some i.array

abbrev pub is_plain : Declared → Bool
is_plain i = is_none i.array

abbrev pub names_of : List ℕ → (Declared → Bool) → List Declared → List (List ℕ)
names_of bytes kind items = map (λ i. text bytes i.name) (filter kind items)

abbrev pub parameters : List ℕ → Definition → List (List ℕ)
parameters bytes f = map (text bytes) (filter_map (λ p. p.name) f.params)

abbrev pub own_names : List ℕ → Definition → Named
own_names bytes f = record { plain = parameters bytes f ++ names_of bytes is_plain (items_in f); arrays = names_of bytes is_array (items_in f) }

abbrev pub globals : File → List Declared
globals file = flat_map (λ d. d.items) file.globals

abbrev pub shared_names : List ℕ → File → Named
shared_names bytes file = record { plain = names_of bytes is_plain (globals file); arrays = names_of bytes is_array (globals file) }

abbrev pub no_names : Named
no_names = record { plain = []; arrays = [] }

abbrev pub own_if : List ℕ → Option Definition → Named
own_if bytes None = no_names
own_if bytes (Some f) = own_names bytes f

abbrev pub scope_in : Source → Option Definition → Scope
scope_in s f = record { source = s.bytes; own = own_if s.bytes f; shared = shared_names s.bytes s.file; given = s.given }

abbrev pub function : Source → ℕ → Option Definition
function s f = slice_get s.file.functions f

-- ---- values

-- the values of a frame: its function, those of its names, what it has returned, and the file's values that come back at its end, where it runs in a process of its own
pub record Locals : Type 0 where
  pub function : ℕ
  pub own : Store
  pub answer : Cell
  pub saved : Option Store

-- the values of a state, the top frame's first; the answers that are left; the calls made
pub record Machine : Type 0 where
  pub shared : Store
  pub frames : List Locals
  pub calls : List ℤ
  pub made : List Made

abbrev pub memory : Machine → Locals → Memory
memory m top = record { own = top.own; shared = m.shared; calls = m.calls; made = m.made }

abbrev pub unset_store : Named → Store
unset_store n = record { cells = replicate (length n.plain) None; arrays = replicate (length n.arrays) [] }

-- a new frame: its parameters have these values, all else is unset
abbrev pub with_first : List Cell → Store → Store
with_first cells s = record { cells = cells ++ replicate (length s.cells - length cells) None; arrays = s.arrays }

abbrev pub new_locals : Source → ℕ → List Cell → Option Store → Locals
new_locals s f cells saved = record { function = f; own = with_first cells (unset_store (own_if s.bytes (function s f))); answer = None; saved = saved }

-- ---- steps

-- A step goes on by a way, with the values behind it, or the run halts, with the values at that.
pub data Step : Type 0 where
  goes : Way → Machine → Step
  halts : Stop → Machine → Step

abbrev pub settled_in : Memory → Locals → List Locals → Machine
settled_in k top rest = record { shared = k.shared; frames = record top { own = k.own } ∷ rest; calls = k.calls; made = k.made }

abbrev pub saved_if : Bool → Store → Option Store
saved_if true shared = Some shared
saved_if false shared = None

-- a call's frame comes on top; a `return` leaves its value
abbrev pub entered : Source → Bool → Item → Passing → Machine → Machine
entered s split (Todo (Call at j callee)) p m = record m { frames = new_locals s callee.number (map Some p.arguments) (saved_if split m.shared) ∷ m.frames }
entered s split i p m = m

abbrev pub answering : Cell → Locals → Locals
answering answer top = record top { answer = option_or answer top.answer }

abbrev pub by_outcome : Source → Bool → Item → Locals → List Locals → Outcome Passing → Step
by_outcome s split i top rest (stops x k) = halts x (settled_in k top rest)
by_outcome s split i top rest (gives p k) = goes p.way (entered s split i p (settled_in k (answering p.answer top) rest))

abbrev pub deed_in : Option Definition → Item → Scope → Memory → Outcome Passing
deed_in None i s m = gives (record { way = On; arguments = []; answer = None }) m
deed_in (Some f) i s m = does s (deed_of f i) m

abbrev pub within : Source → Bool → Item → Machine → List Locals → Step
within s split i m [] = goes On m
within s split i m (top ∷ rest) =
    by_outcome s split i top rest (deed_in (function s top.function) i (scope_in s (function s top.function)) (memory m top))

-- the places of `x = f(..)` and of `f(..)`
abbrev pub second_from : ℕ → Trees → ℕ
second_from at (more x (more g rest)) = from_of g
second_from at _ = at

abbrev pub call_from : ℕ → Option Form → ℕ
call_from at (Some (Evaluates (Node op parts from to))) = second_from from parts
call_from at _ = at

abbrev pub whole_from : ℕ → Option Form → ℕ
whole_from at (Some (Evaluates e)) = from_of e
whole_from at _ = at

abbrev pub form_in : Option Definition → ℕ → Option Form
form_in None at = None
form_in (Some f) at = form_at f at

-- The result of a call is taken over by the caller's name.
abbrev pub taken_by : ℕ → Target → ℤ → Locals → List Locals → Machine → Step
taken_by at Nothing z caller rest m = halts (FormStop at) m
taken_by at t z caller rest m = goes On (settled_in (stored (memory m caller) t z) caller rest)

abbrev pub taken_over : Source → ℕ → Name → Cell → Locals → List Locals → Machine → Step
taken_over s at x None caller rest m = halts (FormStop (call_from at (form_in (function s caller.function) at))) m
taken_over s at x (Some z) caller rest m =
    taken_by (whole_from at (form_in (function s caller.function) at)) (target_at (location_of (scope_in s (function s caller.function)) (text s.bytes x))) z caller rest m

abbrev pub result_by : Source → ℕ → Option Name → Cell → Locals → List Locals → Machine → Step
result_by s at None answer caller rest m = goes On m
result_by s at (Some x) answer caller rest m = taken_over s at x answer caller rest m

-- the call at the front of a frame: its place, and the name that takes its result
abbrev pub call_in : Frame → Option (ℕ × Option Name)
call_in (Todo (Call at j callee) ∷ is) = Some (at, callee.result)
call_in _ = None

abbrev pub back_by : Source → Option (ℕ × Option Name) → Locals → Locals → List Locals → Machine → Step
back_by s None top caller rest m = goes On m
back_by s (Some call) top caller rest m = result_by s call.0 call.1 top.answer caller rest m

-- at the end of a frame the file's values that it kept come back
abbrev pub back_to : Source → Option (ℕ × Option Name) → Locals → List Locals → Machine → Step
back_to s call top [] m = goes On m
back_to s call top (caller ∷ rest) m = back_by s call top caller rest (record m { shared = unwrap_or top.saved m.shared; frames = caller ∷ rest })

abbrev pub ends_in : Source → List Frame → Machine → List Locals → Step
ends_in s (frame ∷ frames) m (top ∷ rest) = back_to s (call_in frame) top rest m
ends_in s frames m locals = goes On m

abbrev pub step_by : Source → Bool → Item → List Frame → Machine → Step
step_by s split (End f) frames m = ends_in s frames m m.frames
step_by s split i frames m = within s split i m m.frames

-- What a step of the program does with the values, and its way.
abbrev pub step : Source → Bool → List Frame → Machine → Step
step s split ((i ∷ is) ∷ frames) m = step_by s split i frames m
step s split _ m = goes On m
