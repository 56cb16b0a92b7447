-- What expressions give, in a memory that they change. Operands are evaluated from left to right.
-- Public source: ISO/IEC 9899:2011, section 6.5, over numbers of 64 bits.
use Rattle.std.specs.Prelude.{ℕ, ◌-◌, ℤ, pos, negsuc, neg_ℤ, ◌+ℤ◌, List, [], ◌∷◌, ◌++◌, length, Bool, true, false, cond, not, ◌||◌, nat_eq, nat_lt, Option, Some, None, Ok, Err, option_map, is_some, find}
use Rattle.std.specs.Int.{w64, int_bit_not}
use Rattle.std.specs.Str.{bytes_eq}
use Rattle.cw_syntax.specs.declared.program.Name.{Name}
use Rattle.cw_syntax.specs.declared.program.Op.{Op}
use Rattle.cw_syntax.specs.declared.program.Op.TheVariants.{Name as NameOp, Number, Char, Text as TextOp, Call as CallOp, Index as IndexOp, Prefix, Suffix, Binary, Assign, Cast, SizeOf, SizeOfType}
use Rattle.cw_syntax.specs.Names.{slice, number_in}
use Rattle.cw_syntax.specs.Trees.{Tree, Node, Trees, none, more, op_of, parts_of}
use Rattle.cw_figures.specs.declared.operators.Want.TheVariants.{Overflow as TooLarge, Division as ByZero}
use Rattle.cw_figures.specs.declared.operators.Operator.{Operator}
use Rattle.cw_figures.specs.declared.joints.Joint.{Joint}
use Rattle.cw_figures.specs.declared.joints.Joint.TheVariants.{Or, And, By, Nothing as NoJoint}
use Rattle.cw_figures.specs.Figures.{Figure, fitting, truth, is_zero, operated, joint_of, compound_of}
use Rattle.cw_value.specs.declared.values.Stop.{Stop}
use Rattle.cw_value.specs.declared.values.Stop.TheVariants.{Form, Unset, Unknown, Overflow, Division, Index, Answers}
use Rattle.cw_value.specs.declared.values.Arg.{Arg}
use Rattle.cw_value.specs.declared.values.Arg.TheVariants.{Number as NumberArg, Text as TextArg}
use Rattle.cw_value.specs.Stores.{Cell, Store, Spot, Plain, Element, array_of, cell_of, with_cell}

-- An external call that was made.
pub record Made : Type 0 where
  pub name : Name
  pub args : List Arg
  pub answer : ℤ

-- Names by their numbers: those that are no arrays, and the arrays.
pub record Named : Type 0 where
  pub plain : List (List ℕ)
  pub arrays : List (List ℕ)

-- What is known of names where an expression stands: the bytes of the source, the names of its function and those at file scope,
-- and the values that are handed in for names that nothing declares.
pub record Scope : Type 0 where
  pub source : List ℕ
  pub own : Named
  pub shared : Named
  pub given : List (List ℕ × ℤ)

-- What an expression reads and changes: the values of both kinds of names, the answers to external calls that are left, the calls made.
pub record Memory : Type 0 where
  pub own : Store
  pub shared : Store
  pub calls : List ℤ
  pub made : List Made

-- A value with the memory after it, or a stop with the memory at it.
pub data Outcome (A : Type 0) : Type 0 where
  gives : A → Memory → Outcome A
  stops : Stop → Memory → Outcome A

infixl 10 ◌and◌
abbrev pub ◌and◌ : {A B : Type 0} → Outcome A → (A → Memory → Outcome B) → Outcome B
(gives a m) and f = f a m
(stops s m) and f = stops s m

abbrev pub from_of : Tree → ℕ
from_of (Node op parts from to) = from

abbrev pub to_of : Tree → ℕ
to_of (Node op parts from to) = to

-- ---- names

-- Where the value of a name is kept, by its number: of the function or of the file, apart by whether it is an array; or nowhere.
pub data Location : Type 0 where
  Own : ℕ → Location
  OwnArray : ℕ → Location
  Shared : ℕ → Location
  SharedArray : ℕ → Location
  Nowhere : Location

abbrev pub shared_by : Option ℕ → Option ℕ → Location
shared_by (Some n) plain = SharedArray n
shared_by None (Some n) = Shared n
shared_by None None = Nowhere

abbrev pub own_by : Option ℕ → Option ℕ → Location → Location
own_by (Some n) plain other = OwnArray n
own_by None (Some n) other = Own n
own_by None None other = other

-- a name of the function hides one at file scope
abbrev pub location_of : Scope → List ℕ → Location
location_of s name =
    own_by (number_in s.own.arrays name) (number_in s.own.plain name)
    (shared_by (number_in s.shared.arrays name) (number_in s.shared.plain name))

-- ---- where an assignment writes, if there is something that can be changed

-- A cell of the function or of the file, or nothing.
pub data Target : Type 0 where
  OwnSpot : Spot → Target
  SharedSpot : Spot → Target
  Nothing : Target

abbrev pub stored : Memory → Target → ℤ → Memory
stored m (OwnSpot p) z = record m { own = with_cell m.own p (Some z) }
stored m (SharedSpot p) z = record m { shared = with_cell m.shared p (Some z) }
stored m Nothing z = m

abbrev pub cell_at : Memory → Target → Cell
cell_at m (OwnSpot p) = cell_of m.own p
cell_at m (SharedSpot p) = cell_of m.shared p
cell_at m Nothing = None

-- ---- reading

abbrev pub figured : ℕ → Memory → Figure → Outcome ℤ
figured at m (Ok z) = gives z m
figured at m (Err TooLarge) = stops (Overflow at) m
figured at m (Err ByZero) = stops (Division at) m

abbrev pub cell_read : ℕ → Memory → Cell → Outcome ℤ
cell_read at m (Some z) = gives z m
cell_read at m None = stops (Unset at) m

abbrev pub given_read : ℕ → Memory → Option ℤ → Outcome ℤ
given_read at m (Some z) = gives z m
given_read at m None = stops (Unknown at) m

abbrev pub given_for : Scope → List ℕ → Option ℤ
given_for s name = option_map (λ g. g.1) (find (λ g. bytes_eq name g.0) s.given)

-- A name: its value. An undeclared one has the value that was handed in, and a bare array has none.
abbrev pub name_read : Scope → List ℕ → ℕ → Memory → Location → Outcome ℤ
name_read s name at m (Own n) = cell_read at m (cell_of m.own (Plain n))
name_read s name at m (Shared n) = cell_read at m (cell_of m.shared (Plain n))
name_read s name at m Nowhere = given_read at m (given_for s name)
name_read s name at m _ = stops (Form at) m

abbrev pub read_name : Scope → ℕ → ℕ → Memory → Outcome ℤ
read_name s from to m = name_read s (slice s.source from to) from m (location_of s (slice s.source from to))

-- a name can be changed where it is declared and no array
abbrev pub target_at : Location → Target
target_at (Own n) = OwnSpot (Plain n)
target_at (Shared n) = SharedSpot (Plain n)
target_at _ = Nothing

abbrev pub name_target : Scope → ℕ → ℕ → Target
name_target s from to = target_at (location_of s (slice s.source from to))

-- the location of an expression that is a bare name
abbrev pub bare_at : Scope → Op → ℕ → ℕ → Location
bare_at s NameOp from to = location_of s (slice s.source from to)
bare_at s _ from to = Nowhere

abbrev pub bare_location : Scope → Tree → Location
bare_location s (Node op parts from to) = bare_at s op from to

abbrev pub first_location : Scope → Trees → Location
first_location s none = Nowhere
first_location s (more t ts) = bare_location s t

abbrev pub is_array : Location → Bool
is_array (OwnArray n) = true
is_array (SharedArray n) = true
is_array _ = false

-- an element, where the number is one of the array's
abbrev pub spot_if : List Cell → ℤ → ℕ → Option Spot
spot_if cells (pos i) n = cond (nat_lt i (length cells)) (Some (Element n i)) None
spot_if cells (negsuc i) n = None

abbrev pub indexed : ℕ → Memory → (Spot → Target) → Option Spot → Outcome Target
indexed at m made None = stops (Index at) m
indexed at m made (Some p) = gives (made p) m

abbrev pub element_in : ℕ → Location → ℤ → Memory → Outcome Target
element_in at (OwnArray n) i m = indexed at m OwnSpot (spot_if (array_of m.own n) i n)
element_in at (SharedArray n) i m = indexed at m SharedSpot (spot_if (array_of m.shared n) i n)
element_in at _ i m = stops (Form at) m

-- what an argument that is a whole string, a whole `&` expression, a bare array or an undeclared name without a value is passed as
abbrev pub is_undeclared : Scope → List ℕ → Location → Bool
is_undeclared s name Nowhere = not (is_some (given_for s name))
is_undeclared s name p = false

abbrev pub is_span : Scope → Op → ℕ → ℕ → Bool
is_span s TextOp from to = true
is_span s (Prefix n) from to = nat_eq n 5
is_span s NameOp from to = is_array (location_of s (slice s.source from to)) || is_undeclared s (slice s.source from to) (location_of s (slice s.source from to))
is_span s _ from to = false

-- an external call takes the next answer, and has it as its value
abbrev pub answered : Name → ℕ → List Arg → Memory → List ℤ → Outcome ℤ
answered f at args m [] = stops (Answers at) m
answered f at args m (z ∷ zs) = gives z (record m { calls = zs; made = m.made ++ (record { name = f; args = args; answer = z } ∷ []) })

-- ---- operators over what their operands give

-- what a part gives, in the memory before it
abbrev pub Part : Type 0
Part = Memory → Outcome ℤ

abbrev pub signed : ℕ → ℕ → ℤ → Memory → Outcome ℤ
signed n at z m =
    cond (nat_eq n 0) (gives z m) (cond (nat_eq n 1) (figured at m (fitting (neg_ℤ z))) (cond (nat_eq n 2) (gives (truth (is_zero z)) m)
    (cond (nat_eq n 3) (gives (int_bit_not w64 z) m) (stops (Form at) m))))

abbrev pub truth_of : Outcome ℤ → Outcome ℤ
truth_of o = o and (λ z k. gives (truth (not (is_zero z))) k)

abbrev pub either : Bool → Part → Memory → Outcome ℤ
either true right m = gives (pos 1) m
either false right m = truth_of (right m)

abbrev pub both : Bool → Part → Memory → Outcome ℤ
both true right m = truth_of (right m)
both false right m = gives (pos 0) m

-- `||` and `&&` stop early; every other operator takes both
abbrev pub joined : ℕ → Joint → ℤ → Part → Memory → Outcome ℤ
joined at Or a right m = either (not (is_zero a)) right m
joined at And a right m = both (not (is_zero a)) right m
joined at (By o) a right m = right m and (λ b k. figured at k (operated o a b))
joined at NoJoint a right m = stops (Form at) m

abbrev pub combined : ℕ → Option Operator → ℤ → ℤ → Memory → Outcome ℤ
combined at None a b m = stops (Form at) m
combined at (Some o) a b m = figured at m (operated o a b)

abbrev pub binary : ℕ → ℕ → Part → Part → Memory → Outcome ℤ
binary n at left right m = left m and (λ a k. joined at (joint_of n) a right k)

-- the new value is stored, where the target can be changed
abbrev pub put : ℕ → Target → ℤ → Memory → Outcome ℤ
put at Nothing z m = stops (Form at) m
put at t z m = gives z (stored m t z)

-- the value before a change: that of the target, or of the name that can't be changed
abbrev pub old_value : ℕ → Target → Part → Memory → Outcome ℤ
old_value at Nothing name m = name m
old_value at t name m = cell_read at m (cell_at m t)

-- `++` and `--`: the value before the change or after it
abbrev pub after_change : Bool → ℤ → ℤ → ℤ
after_change true old new = new
after_change false old new = old

abbrev pub changed : Bool → ℕ → ℤ → Target → ℤ → Memory → Outcome ℤ
changed after at by Nothing old m = stops (Form at) m
changed after at by t old m = figured at m (fitting (old +ℤ by)) and (λ new k. gives (after_change after old new) (stored k t new))

abbrev pub by_one : ℕ → ℤ
by_one n = cond (nat_eq n 0) (pos 1) (negsuc 0)

-- the element of an index; a base that is no array is an operand like others, and has no elements
abbrev pub element : ℕ → Location → Part → Part → Memory → Outcome Target
element at p base index m =
    cond (is_array p) (index m and element_in at p)
    (base m and (λ b k. index k and (λ i l. stops (Form at) l)))

abbrev pub element_read : ℕ → Target → Memory → Outcome ℤ
element_read at t m = cell_read at m (cell_at m t)

-- what a target is that is a name, an index, or another operand, which is evaluated
abbrev pub target_of : Scope → Op → ℕ → ℕ → Location → Part → Part → Part → Memory → Outcome Target
target_of s NameOp from to array base index operand m = gives (name_target s from to) m
target_of s IndexOp from to array base index operand m = element from array base index m
target_of s _ from to array base index operand m = operand m and (λ z k. gives Nothing k)

-- its value before a change
abbrev pub no_name : Part
no_name m = gives (pos 0) m

abbrev pub name_if : Scope → Op → ℕ → ℕ → Part
name_if s NameOp from to m = read_name s from to m
name_if s _ from to m = no_name m

abbrev pub before : Scope → Op → ℕ → ℕ → Target → Memory → Outcome ℤ
before s op from to t m = old_value from t (name_if s op from to) m

abbrev pub before_first : Scope → Trees → Target → Memory → Outcome ℤ
before_first s none t m = stops (Form 0) m
before_first s (more (Node op parts from to) ts) t m = before s op from to t m

abbrev pub updated : ℕ → ℕ → Target → ℤ → ℤ → Memory → Outcome ℤ
updated n at Nothing a b m = stops (Form at) m
updated n at t a b m = combined at (compound_of n) a b m and (λ z k. put at t z k)

-- `++` and `--`
abbrev pub stepped : Bool → ℕ → ℤ → (Target → Part) → Target → Memory → Outcome ℤ
stepped after at by old t m = old t m and (λ z k. changed after at by t z k)

-- `=`, and `+=` and its like
abbrev pub assigned : ℕ → ℕ → (Target → Part) → Part → Target → Memory → Outcome ℤ
assigned n at old right t m =
    cond (nat_eq n 0) (right m and (λ z k. put at t z k))
    (old t m and (λ a k. right k and (λ b l. updated n at t a b l)))

abbrev pub prefixed : ℕ → ℕ → (Target → Part) → (Memory → Outcome Target) → Part → Memory → Outcome ℤ
prefixed n at old target operand m =
    cond (nat_eq n 6 || nat_eq n 7) (target m and (λ t k. stepped true at (by_one (n - 6)) old t k)) (operand m and (λ z k. signed n at z k))

abbrev pub argued : Bool → ℕ → ℕ → Part → Memory → Outcome Arg
argued true from to operand m = gives (TextArg (record { from = from; to = to })) m
argued false from to operand m = operand m and (λ z k. gives (NumberArg z) k)

-- ---- expressions

module _ (s : Scope) where
  abbrev mutual
    pub value : Tree → Memory → Outcome ℤ
    value (Node NameOp parts from to) m = read_name s from to m
    value (Node (Number n) parts from to) m = figured from m (fitting (pos n))
    value (Node (Char n) parts from to) m = gives (pos n) m
    value (Node TextOp parts from to) m = stops (Form from) m
    value (Node (CallOp f) parts from to) m = arguments parts m and (λ args k. answered f from args k k.calls)
    value (Node IndexOp parts from to) m = element from (first_location s parts) (first parts) (second parts) m and element_read from
    value (Node (Prefix n) parts from to) m = prefixed n from (before_first s parts) (target parts) (first parts) m
    value (Node (Suffix n) parts from to) m = target parts m and stepped false from (by_one n) (before_first s parts)
    value (Node (Binary n) parts from to) m = binary n from (first parts) (second parts) m
    value (Node (Assign n) parts from to) m = target parts m and assigned n from (before_first s parts) (second parts)
    value (Node (Cast kind) parts from to) m = first parts m
    value (Node SizeOf parts from to) m = first parts m and (λ z k. stops (Form from) k)
    value (Node (SizeOfType kind) parts from to) m = stops (Form from) m

    -- the first part and the second
    pub first : Trees → Memory → Outcome ℤ
    first none m = stops (Form 0) m
    first (more t ts) m = value t m

    pub second : Trees → Memory → Outcome ℤ
    second none m = stops (Form 0) m
    second (more t ts) m = first ts m

    -- what the first part is as a target
    pub target : Trees → Memory → Outcome Target
    target none m = stops (Form 0) m
    target (more t ts) m = target_of s (op_of t) (from_of t) (to_of t) (first_location s (parts_of t)) (base t) (index t) (value t) m

    -- the parts of an index that is a target
    pub base : Tree → Memory → Outcome ℤ
    base (Node op parts from to) m = first parts m

    pub index : Tree → Memory → Outcome ℤ
    index (Node op parts from to) m = second parts m

    pub arguments : Trees → Memory → Outcome (List Arg)
    arguments none m = gives [] m
    arguments (more t ts) m =
        argued (is_span s (op_of t) (from_of t) (to_of t)) (from_of t) (to_of t) (value t) m and (λ a k. arguments ts k and (λ rest l. gives (a ∷ rest) l))
