-- What expressions, declarations and deeds keep: a relation of memories that goes on from each to the next, where each change is one that is
-- spared. It is used thrice: what is quiet leaves the file's values, the calls made only grow in number, stores keep their lengths.
use Rattle.std.proofs.Common.{◌≡◌, ℕ, ◌+◌, ◌-◌, ℤ, pos, negsuc, List, [], ◌∷◌, ◌++◌, length, Bool, true, false, cond, not, Option, Some, None, Ok, Err, refl}
use Rattle.std.specs.Prelude.{nat_eq, nat_lt, nat_le, ◌||◌, ◌+ℤ◌, neg_ℤ, take, replicate}
use Rattle.std.specs.Int.{w64, int_bit_not}
use Rattle.cw_syntax.specs.declared.program.Name.{Name}
use Rattle.cw_syntax.specs.declared.program.Op.{Op}
use Rattle.cw_syntax.specs.declared.program.Op.TheVariants.{Name as NameOp, Number, Char, Text as TextOp, Call as CallOp, Index as IndexOp, Prefix, Suffix, Binary, Assign, Cast, SizeOf, SizeOfType}
use Rattle.cw_syntax.specs.Names.{slice, text}
use Rattle.cw_syntax.specs.Trees.{Tree, Node, Trees, none, more, Declared, op_of, parts_of, count}
use Rattle.cw_figures.specs.declared.operators.Want.TheVariants.{Overflow as TooLarge, Division as ByZero}
use Rattle.cw_figures.specs.declared.operators.Operator.{Operator}
use Rattle.cw_figures.specs.declared.joints.Joint.{Joint}
use Rattle.cw_figures.specs.declared.joints.Joint.TheVariants.{Or, And, By, Nothing as NoJoint}
use Rattle.cw_figures.specs.Figures.{Figure, fitting, truth, is_zero, operated, joint_of, compound_of}
use Rattle.cw_value.specs.declared.values.Stop.TheVariants.{Form}
use Rattle.cw_value.specs.declared.values.Arg.{Arg}
use Rattle.cw_value.specs.Stores.{Cell, Spot, Element, array_of}
use Rattle.cw_value.specs.Expressions.{Made, Scope, Memory, Outcome, gives, stops, ◌and◌, from_of, to_of, Location, Own, OwnArray, Shared, SharedArray, Nowhere, location_of, Target, OwnSpot, SharedSpot, Nothing, stored, cell_at, figured, cell_read, given_read, given_for, name_read, read_name, target_at}
use Rattle.cw_value.specs.Expressions.{first_location, is_array, spot_if, indexed, element_in, is_span, answered, Part, signed, truth_of, either, both, joined, combined, binary, put, old_value, after_change, changed, by_one, element, target_of, name_if, before_first, updated, stepped, assigned, prefixed, argued, value, first, second, target, base, index, arguments}
use Rattle.cw_value.specs.Declarations.{array_at, made_array, made_plain, element_target, most_elements, size_if, size_in, sized, listed_one, filled, with_list, new_array, rest_stops, new_plain, by_location, declares_all, declares}
use Rattle.cw_agree.specs.Agreements.{IsPlaced}
use Rattle.cw_value.specs.Deeds.{Deed, Rests, Computes, Makes, Decides, Opens, Calls, Answers, values, value_if, does}

-- A relation of memories, and the targets that may be changed, so that each change and each answer keeps it.
pub record Keeping (R : Memory → Memory → Type 0) (Spared : Target → Type 0) : Type 0 where
  pub same : (m : Memory) → R m m
  pub joins : (m k l : Memory) → R m k → R k l → R m l
  pub nothing : Spared Nothing
  pub own : (p : Spot) → Spared (OwnSpot p)
  pub store : (m : Memory) (t : Target) (z : ℤ) → Spared t → R m (stored m t z)
  pub answer : (m : Memory) (z : ℤ) (zs : List ℤ) (call : Made) → R m (record m { calls = zs; made = m.made ++ (call ∷ []) })
  pub array : (m : Memory) (n : ℕ) (cells : List Cell) → R m (made_array m (OwnArray n) cells)
  pub plain : (m : Memory) (n : ℕ) (c : Cell) → R m (made_plain m (Own n) c)

-- what changes its first part
abbrev pub changes : Op → Bool
changes (Assign n) = true
changes (Suffix n) = true
changes (Prefix n) = nat_eq n 6 || nat_eq n 7
changes _ = false

module _ (Spared : Target → Type 0) (s : Scope) where
  abbrev pub ElementsSpared : Location → Type 0
  ElementsSpared p = (i : ℕ) → Spared (element_target p i)

  abbrev pub spared_at : Op → Trees → ℕ → ℕ → Type 0
  spared_at NameOp parts from to = Spared (target_at (location_of s (slice s.source from to)))
  spared_at IndexOp parts from to = ElementsSpared (first_location s parts)
  spared_at _ parts from to = Unit {0}

  abbrev pub SparesFirst : Trees → Type 0
  SparesFirst none = Unit {0}
  SparesFirst (more t ts) = spared_at (op_of t) (parts_of t) (from_of t) (to_of t)

  -- each change in an expression is one that is spared
  abbrev mutual
    pub Quiet : Tree → Type 0
    Quiet (Node op parts from to) = (changes op ≡ true → SparesFirst parts) × QuietAll parts

    pub QuietAll : Trees → Type 0
    QuietAll none = Unit {0}
    QuietAll (more t ts) = Quiet t × QuietAll ts

  abbrev pub QuietIf : Option Tree → Type 0
  QuietIf None = Unit {0}
  QuietIf (Some t) = Quiet t

  abbrev pub QuietItem : Declared → Type 0
  QuietItem i = QuietIf (size_in i.array) × QuietAll i.init

  abbrev pub QuietItems : List Declared → Type 0
  QuietItems [] = Unit {0}
  QuietItems (i ∷ is) = QuietItem i × QuietItems is

  abbrev pub QuietDeed : Deed → Type 0
  QuietDeed Rests = Unit {0}
  QuietDeed (Computes e) = QuietIf e
  QuietDeed (Makes d) = QuietItems d.items
  QuietDeed (Decides e) = QuietIf e
  QuietDeed (Opens e) = QuietIf e
  QuietDeed (Calls es) = QuietAll es
  QuietDeed (Answers e) = QuietIf e

module _ (R : Memory → Memory → Type 0) (Spared : Target → Type 0) (keep : Keeping R Spared) where
  -- What is given passes a test, and the memory after it keeps the relation, also at a stop, which is at an expression.
  abbrev pub Ends : {A : Type 0} → Memory → (A → Type 0) → Outcome A → Type 0
  Ends g P (gives a m) = P a × R g m
  Ends g P (stops x m) = IsPlaced x × R g m

  abbrev pub Any : {A : Type 0} → A → Type 0
  Any a = Unit {0}

  -- this keeps the relation
  abbrev pub Leaves : {A : Type 0} → (A → Type 0) → (Memory → Outcome A) → Type 0
  Leaves P f = (m : Memory) (g : Memory) → R g m → Ends g P (f m)

  then_ends : {A B : Type 0} (g : Memory) (P : A → Type 0) (Q : B → Type 0) (o : Outcome A) (f : A → Memory → Outcome B)
      → Ends g P o → ((a : A) (k : Memory) → P a → R g k → Ends g Q (f a k)) → Ends g Q (o and f)
  then_ends g P Q (gives a m) f h k = k a m h.0 h.1
  then_ends g P Q (stops x m) f h k = h

  figure_ends : (g : Memory) (at : ℕ) (m : Memory) (f : Figure) → R g m → Ends g Any (figured at m f)
  figure_ends g at m (Ok z) h = (tt, h)
  figure_ends g at m (Err TooLarge) h = (tt, h)
  figure_ends g at m (Err ByZero) h = (tt, h)

  cell_ends : (g : Memory) (at : ℕ) (m : Memory) (c : Cell) → R g m → Ends g Any (cell_read at m c)
  cell_ends g at m (Some z) h = (tt, h)
  cell_ends g at m None h = (tt, h)

  given_ends : (g : Memory) (at : ℕ) (m : Memory) (c : Option ℤ) → R g m → Ends g Any (given_read at m c)
  given_ends g at m (Some z) h = (tt, h)
  given_ends g at m None h = (tt, h)

  location_ends : (s : Scope) (name : List ℕ) (at : ℕ) (g m : Memory) (p : Location) → R g m → Ends g Any (name_read s name at m p)
  location_ends s name at g m (Own n) h = cell_ends g at m _ h
  location_ends s name at g m (Shared n) h = cell_ends g at m _ h
  location_ends s name at g m Nowhere h = given_ends g at m (given_for s name) h
  location_ends s name at g m (OwnArray n) h = (tt, h)
  location_ends s name at g m (SharedArray n) h = (tt, h)

  name_leaves : (s : Scope) (from to : ℕ) → Leaves Any (read_name s from to)
  name_leaves s from to m g h = location_ends s (slice s.source from to) from g m (location_of s (slice s.source from to)) h

  stored_next : (g m : Memory) (t : Target) (z : ℤ) → Spared t → R g m → R g (stored m t z)
  stored_next g m t z own h = keep.joins g m (stored m t z) h (keep.store m t z own)

  put_ends : (g : Memory) (at : ℕ) (t : Target) (z : ℤ) (m : Memory) → Spared t → R g m → Ends g Any (put at t z m)
  put_ends g at (OwnSpot p) z m own h = (tt, stored_next g m (OwnSpot p) z own h)
  put_ends g at (SharedSpot p) z m own h = (tt, stored_next g m (SharedSpot p) z own h)
  put_ends g at Nothing z m own h = (tt, h)

  own_ends : (g : Memory) (at : ℕ) (m : Memory) (o : Option Spot) → R g m → Ends g Spared (indexed at m OwnSpot o)
  own_ends g at m None h = (tt, h)
  own_ends g at m (Some p) h = (keep.own p, h)

  if_element : (g : Memory) (at : ℕ) (m : Memory) (n i : ℕ) (b : Bool) → ((j : ℕ) → Spared (SharedSpot (Element n j))) → R g m
      → Ends g Spared (indexed at m SharedSpot (cond b (Some (Element n i)) None))
  if_element g at m n i true own h = (own i, h)
  if_element g at m n i false own h = (tt, h)

  shared_ends : (g : Memory) (at : ℕ) (m : Memory) (cells : List Cell) (z : ℤ) (n : ℕ) → ((j : ℕ) → Spared (SharedSpot (Element n j))) → R g m
      → Ends g Spared (indexed at m SharedSpot (spot_if cells z n))
  shared_ends g at m cells (pos i) n own h = if_element g at m n i (nat_lt i (length cells)) own h
  shared_ends g at m cells (negsuc i) n own h = (tt, h)

  element_ends : (s : Scope) (g : Memory) (at : ℕ) (p : Location) (i : ℤ) (m : Memory) → ElementsSpared Spared s p → R g m → Ends g Spared (element_in at p i m)
  element_ends s g at (OwnArray n) i m own h = own_ends g at m (spot_if (array_of m.own n) i n) h
  element_ends s g at (SharedArray n) i m own h = shared_ends g at m (array_of m.shared n) i n own h
  element_ends s g at (Own n) i m own h = (tt, h)
  element_ends s g at (Shared n) i m own h = (tt, h)
  element_ends s g at Nowhere i m own h = (tt, h)

  index_reads : (g : Memory) (at : ℕ) (m : Memory) (f : Spot → Target) (o : Option Spot) → R g m → Ends g Any (indexed at m f o)
  index_reads g at m f None h = (tt, h)
  index_reads g at m f (Some p) h = (tt, h)

  element_reads : (g : Memory) (at : ℕ) (p : Location) (i : ℤ) (m : Memory) → R g m → Ends g Any (element_in at p i m)
  element_reads g at (OwnArray n) i m h = index_reads g at m OwnSpot (spot_if (array_of m.own n) i n) h
  element_reads g at (SharedArray n) i m h = index_reads g at m SharedSpot (spot_if (array_of m.shared n) i n) h
  element_reads g at (Own n) i m h = (tt, h)
  element_reads g at (Shared n) i m h = (tt, h)
  element_reads g at Nowhere i m h = (tt, h)

  -- ---- operators

  truth_ends : (g : Memory) (o : Outcome ℤ) → Ends g Any o → Ends g Any (truth_of o)
  truth_ends g (gives z m) h = (tt, h.1)
  truth_ends g (stops x m) h = h

  either_ends : (g : Memory) (b : Bool) (right : Part) (m : Memory) → Leaves Any right → R g m → Ends g Any (either b right m)
  either_ends g true right m r h = (tt, h)
  either_ends g false right m r h = truth_ends g (right m) (r m g h)

  both_ends : (g : Memory) (b : Bool) (right : Part) (m : Memory) → Leaves Any right → R g m → Ends g Any (both b right m)
  both_ends g true right m r h = truth_ends g (right m) (r m g h)
  both_ends g false right m r h = (tt, h)

  joined_ends : (g : Memory) (at : ℕ) (j : Joint) (a : ℤ) (right : Part) (m : Memory) → Leaves Any right → R g m → Ends g Any (joined at j a right m)
  joined_ends g at Or a right m r h = either_ends g (not (is_zero a)) right m r h
  joined_ends g at And a right m r h = both_ends g (not (is_zero a)) right m r h
  joined_ends g at (By o) a right m r h = then_ends g Any Any (right m) _ (r m g h) (λ b k u e. figure_ends g at k (operated o a b) e)
  joined_ends g at NoJoint a right m r h = (tt, h)

  binary_leaves : (n at : ℕ) (left right : Part) → Leaves Any left → Leaves Any right → Leaves Any (binary n at left right)
  binary_leaves n at left right l r m g h = then_ends g Any Any (left m) _ (l m g h) (λ a k u e. joined_ends g at (joint_of n) a right k r e)

  combined_ends : (g : Memory) (at : ℕ) (o : Option Operator) (a b : ℤ) (m : Memory) → R g m → Ends g Any (combined at o a b m)
  combined_ends g at None a b m h = (tt, h)
  combined_ends g at (Some o) a b m h = figure_ends g at m (operated o a b) h

  updated_ends : (g : Memory) (n at : ℕ) (t : Target) (a b : ℤ) (m : Memory) → Spared t → R g m → Ends g Any (updated n at t a b m)
  updated_ends g n at (OwnSpot p) a b m own h =
      then_ends g Any Any (combined at (compound_of n) a b m) _ (combined_ends g at (compound_of n) a b m h) (λ z k u e. put_ends g at (OwnSpot p) z k own e)
  updated_ends g n at (SharedSpot p) a b m own h =
      then_ends g Any Any (combined at (compound_of n) a b m) _ (combined_ends g at (compound_of n) a b m h) (λ z k u e. put_ends g at (SharedSpot p) z k own e)
  updated_ends g n at Nothing a b m own h = (tt, h)

  changed_ends : (g : Memory) (after : Bool) (at : ℕ) (by old : ℤ) (t : Target) (m : Memory) → Spared t → R g m → Ends g Any (changed after at by t old m)
  changed_ends g after at by old (OwnSpot p) m own h =
      then_ends g Any Any (figured at m (fitting (old +ℤ by))) (λ new k. gives (after_change after old new) (stored k (OwnSpot p) new))
      (figure_ends g at m (fitting (old +ℤ by)) h) (λ z k u e. (tt, stored_next g k (OwnSpot p) z own e))
  changed_ends g after at by old (SharedSpot p) m own h =
      then_ends g Any Any (figured at m (fitting (old +ℤ by))) (λ new k. gives (after_change after old new) (stored k (SharedSpot p) new))
      (figure_ends g at m (fitting (old +ℤ by)) h) (λ z k u e. (tt, stored_next g k (SharedSpot p) z own e))
  changed_ends g after at by old Nothing m own h = (tt, h)

  old_ends : (g : Memory) (at : ℕ) (t : Target) (name : Part) (m : Memory) → Leaves Any name → R g m → Ends g Any (old_value at t name m)
  old_ends g at (OwnSpot p) name m l h = cell_ends g at m (cell_at m (OwnSpot p)) h
  old_ends g at (SharedSpot p) name m l h = cell_ends g at m (cell_at m (SharedSpot p)) h
  old_ends g at Nothing name m l h = l m g h

  if_leaves : (s : Scope) (op : Op) (from to : ℕ) → Leaves Any (name_if s op from to)
  if_leaves s NameOp from to m g h = name_leaves s from to m g h
  if_leaves s (Number n) from to m g h = (tt, h)
  if_leaves s (Char n) from to m g h = (tt, h)
  if_leaves s TextOp from to m g h = (tt, h)
  if_leaves s (CallOp f) from to m g h = (tt, h)
  if_leaves s IndexOp from to m g h = (tt, h)
  if_leaves s (Prefix n) from to m g h = (tt, h)
  if_leaves s (Suffix n) from to m g h = (tt, h)
  if_leaves s (Binary n) from to m g h = (tt, h)
  if_leaves s (Assign n) from to m g h = (tt, h)
  if_leaves s (Cast kind) from to m g h = (tt, h)
  if_leaves s SizeOf from to m g h = (tt, h)
  if_leaves s (SizeOfType kind) from to m g h = (tt, h)

  before_ends : (s : Scope) (parts : Trees) (t : Target) → Leaves Any (before_first s parts t)
  before_ends s none t m g h = (tt, h)
  before_ends s (more (Node op ps from to) ts) t m g h = old_ends g from t (name_if s op from to) m (if_leaves s op from to) h

  stepped_ends : (s : Scope) (after : Bool) (at : ℕ) (by : ℤ) (parts : Trees) (t : Target) (g m : Memory) → Spared t → R g m
      → Ends g Any (stepped after at by (before_first s parts) t m)
  stepped_ends s after at by parts t g m own h = then_ends g Any Any _ _ (before_ends s parts t m g h) (λ z k u e. changed_ends g after at by z t k own e)

  assigned_ends : (s : Scope) (n at : ℕ) (parts : Trees) (right : Part) (t : Target) (g m : Memory) → Leaves Any right → Spared t → R g m
      → Ends g Any (assigned n at (before_first s parts) right t m)
  assigned_ends s n at parts right t g m r own h = by_kind (nat_eq n 0) where
    by_kind : (b : Bool) → Ends g Any (cond b (right m and (λ z k. put at t z k)) (before_first s parts t m and (λ a k. right k and (λ b l. updated n at t a b l))))
    by_kind true = then_ends g Any Any (right m) _ (r m g h) (λ z k u e. put_ends g at t z k own e)
    by_kind false = then_ends g Any Any _ _ (before_ends s parts t m g h) (λ a k u e. then_ends g Any Any (right k) _ (r k g e) (λ b l v f. updated_ends g n at t a b l own f))

  signed_ends : (g : Memory) (n at : ℕ) (z : ℤ) (m : Memory) → R g m → Ends g Any (signed n at z m)
  signed_ends g n at z m h = by_kind (nat_eq n 0) (nat_eq n 1) (nat_eq n 2) (nat_eq n 3) where
    by_kind : (a b c d : Bool)
        → Ends g Any (cond a (gives z m) (cond b (figured at m (fitting (neg_ℤ z))) (cond c (gives (truth (is_zero z)) m) (cond d (gives (int_bit_not w64 z) m) (stops (Form at) m)))))
    by_kind true b c d = (tt, h)
    by_kind false true c d = figure_ends g at m (fitting (neg_ℤ z)) h
    by_kind false false true d = (tt, h)
    by_kind false false false true = (tt, h)
    by_kind false false false false = (tt, h)

  module _ (s : Scope) where
    element_quiet : (at : ℕ) (p : Location) (b i : Part) → Leaves Any b → Leaves Any i → ElementsSpared Spared s p → Leaves Spared (element at p b i)
    element_quiet at p b i lb li own m g h = by_kind (is_array p) where
      by_kind : (c : Bool) → Ends g Spared (cond c (i m and element_in at p) (b m and (λ x k. i k and (λ y l. stops (Form at) l))))
      by_kind true = then_ends g Any Spared (i m) _ (li m g h) (λ z k u e. element_ends s g at p z k own e)
      by_kind false = then_ends g Any Spared (b m) _ (lb m g h) (λ z k u e. then_ends g Any Spared (i k) _ (li k g e) (λ y l v f. (tt, f)))

    element_leaves : (at : ℕ) (p : Location) (b i : Part) → Leaves Any b → Leaves Any i → Leaves Any (element at p b i)
    element_leaves at p b i lb li m g h = by_kind (is_array p) where
      by_kind : (c : Bool) → Ends g Any (cond c (i m and element_in at p) (b m and (λ x k. i k and (λ y l. stops (Form at) l))))
      by_kind true = then_ends g Any Any (i m) _ (li m g h) (λ z k u e. element_reads g at p z k e)
      by_kind false = then_ends g Any Any (b m) _ (lb m g h) (λ z k u e. then_ends g Any Any (i k) _ (li k g e) (λ y l v f. (tt, f)))

    target_leaves : (op : Op) (parts : Trees) (from to : ℕ) (b i o : Part) → Leaves Any b → Leaves Any i → Leaves Any o → spared_at Spared s op parts from to
        → Leaves Spared (target_of s op from to (first_location s parts) b i o)
    target_leaves NameOp parts from to b i o lb li lo own m g h = (own, h)
    target_leaves IndexOp parts from to b i o lb li lo own m g h = element_quiet from (first_location s parts) b i lb li own m g h
    target_leaves (Number n) parts from to b i o lb li lo own m g h = then_ends g Any Spared (o m) _ (lo m g h) (λ z k u e. (keep.nothing, e))
    target_leaves (Char n) parts from to b i o lb li lo own m g h = then_ends g Any Spared (o m) _ (lo m g h) (λ z k u e. (keep.nothing, e))
    target_leaves TextOp parts from to b i o lb li lo own m g h = then_ends g Any Spared (o m) _ (lo m g h) (λ z k u e. (keep.nothing, e))
    target_leaves (CallOp f) parts from to b i o lb li lo own m g h = then_ends g Any Spared (o m) _ (lo m g h) (λ z k u e. (keep.nothing, e))
    target_leaves (Prefix n) parts from to b i o lb li lo own m g h = then_ends g Any Spared (o m) _ (lo m g h) (λ z k u e. (keep.nothing, e))
    target_leaves (Suffix n) parts from to b i o lb li lo own m g h = then_ends g Any Spared (o m) _ (lo m g h) (λ z k u e. (keep.nothing, e))
    target_leaves (Binary n) parts from to b i o lb li lo own m g h = then_ends g Any Spared (o m) _ (lo m g h) (λ z k u e. (keep.nothing, e))
    target_leaves (Assign n) parts from to b i o lb li lo own m g h = then_ends g Any Spared (o m) _ (lo m g h) (λ z k u e. (keep.nothing, e))
    target_leaves (Cast c) parts from to b i o lb li lo own m g h = then_ends g Any Spared (o m) _ (lo m g h) (λ z k u e. (keep.nothing, e))
    target_leaves SizeOf parts from to b i o lb li lo own m g h = then_ends g Any Spared (o m) _ (lo m g h) (λ z k u e. (keep.nothing, e))
    target_leaves (SizeOfType c) parts from to b i o lb li lo own m g h = then_ends g Any Spared (o m) _ (lo m g h) (λ z k u e. (keep.nothing, e))

    prefixed_leaves : (n at : ℕ) (parts : Trees) (t : Memory → Outcome Target) (o : Part) → ((nat_eq n 6 || nat_eq n 7) ≡ true → Leaves Spared t) → Leaves Any o
        → Leaves Any (prefixed n at (before_first s parts) t o)
    prefixed_leaves n at parts t o lt lo m g h = by_kind (nat_eq n 6 || nat_eq n 7) refl where
      by_kind : (c : Bool) → (nat_eq n 6 || nat_eq n 7) ≡ c → Ends g Any (cond c (t m and (λ t k. stepped true at (by_one (n - 6)) (before_first s parts) t k)) (o m and (λ z k. signed n at z k)))
      by_kind true q = then_ends g Spared Any (t m) _ (lt q m g h) (λ x k u e. stepped_ends s true at _ parts x g k u e)
      by_kind false q = then_ends g Any Any (o m) _ (lo m g h) (λ z k u e. signed_ends g n at z k e)

    argued_ends : (b : Bool) (from to : ℕ) (o : Part) (g m : Memory) → Leaves Any o → R g m → Ends g Any (argued b from to o m)
    argued_ends true from to o g m l h = (tt, h)
    argued_ends false from to o g m l h = then_ends g Any Any (o m) _ (l m g h) (λ z k u e. (tt, e))

    answered_ends : (f : Name) (at : ℕ) (args : List Arg) (g m : Memory) (zs : List ℤ) → R g m → Ends g Any (answered f at args m zs)
    answered_ends f at args g m [] h = (tt, h)
    answered_ends f at args g m (z ∷ zs) h = (tt, keep.joins g m _ h (keep.answer m z zs (record { name = f; args = args; answer = z })))

    mutual
      pub value_quiet : (t : Tree) → Quiet Spared s t → Leaves Any (value s t)
      value_quiet (Node NameOp parts from to) q m g h = name_leaves s from to m g h
      value_quiet (Node (Number n) parts from to) q m g h = figure_ends g from m (fitting (pos n)) h
      value_quiet (Node (Char n) parts from to) q m g h = (tt, h)
      value_quiet (Node TextOp parts from to) q m g h = (tt, h)
      value_quiet (Node (CallOp f) parts from to) q m g h =
          then_ends g Any Any (arguments s parts m) _ (arguments_quiet parts q.1 m g h) (λ args k u e. answered_ends f from args g k k.calls e)
      value_quiet (Node IndexOp parts from to) q m g h =
          then_ends g Any Any _ _ (element_leaves from (first_location s parts) (first s parts) (second s parts) (first_quiet parts q.1) (second_quiet parts q.1) m g h)
          (λ t k u e. cell_ends g from k (cell_at k t) e)
      value_quiet (Node (Prefix n) parts from to) q m g h =
          prefixed_leaves n from parts (target s parts) (first s parts) (λ c. target_quiet parts q.1 (q.0 c)) (first_quiet parts q.1) m g h
      value_quiet (Node (Suffix n) parts from to) q m g h =
          then_ends g Spared Any _ _ (target_quiet parts q.1 (q.0 refl) m g h) (λ t k u e. stepped_ends s false from (by_one n) parts t g k u e)
      value_quiet (Node (Binary n) parts from to) q m g h = binary_leaves n from (first s parts) (second s parts) (first_quiet parts q.1) (second_quiet parts q.1) m g h
      value_quiet (Node (Assign n) parts from to) q m g h =
          then_ends g Spared Any _ _ (target_quiet parts q.1 (q.0 refl) m g h) (λ t k u e. assigned_ends s n from parts (second s parts) t g k (second_quiet parts q.1) u e)
      value_quiet (Node (Cast kind) parts from to) q m g h = first_quiet parts q.1 m g h
      value_quiet (Node SizeOf parts from to) q m g h = then_ends g Any Any (first s parts m) _ (first_quiet parts q.1 m g h) (λ z k u e. (tt, e))
      value_quiet (Node (SizeOfType kind) parts from to) q m g h = (tt, h)

      first_quiet : (ts : Trees) → QuietAll Spared s ts → Leaves Any (first s ts)
      first_quiet none q m g h = (tt, h)
      first_quiet (more t ts) q m g h = value_quiet t q.0 m g h

      second_quiet : (ts : Trees) → QuietAll Spared s ts → Leaves Any (second s ts)
      second_quiet none q m g h = (tt, h)
      second_quiet (more t ts) q m g h = first_quiet ts q.1 m g h

      target_quiet : (ts : Trees) → QuietAll Spared s ts → SparesFirst Spared s ts → Leaves Spared (target s ts)
      target_quiet none q own m g h = (tt, h)
      target_quiet (more t ts) q own m g h =
          target_leaves (op_of t) (parts_of t) (from_of t) (to_of t) (base s t) (index s t) (value s t) (base_quiet t q.0) (index_quiet t q.0) (value_quiet t q.0) own m g h

      base_quiet : (t : Tree) → Quiet Spared s t → Leaves Any (base s t)
      base_quiet (Node op parts from to) q m g h = first_quiet parts q.1 m g h

      index_quiet : (t : Tree) → Quiet Spared s t → Leaves Any (index s t)
      index_quiet (Node op parts from to) q m g h = second_quiet parts q.1 m g h

      arguments_quiet : (ts : Trees) → QuietAll Spared s ts → Leaves Any (arguments s ts)
      arguments_quiet none q m g h = (tt, h)
      arguments_quiet (more t ts) q m g h =
          then_ends g Any Any _ _ (argued_ends (is_span s (op_of t) (from_of t) (to_of t)) (from_of t) (to_of t) (value s t) g m (value_quiet t q.0) h)
          (λ a k u e. then_ends g Any Any (arguments s ts k) _ (arguments_quiet ts q.1 k g e) (λ r l v f. (tt, f)))

    -- ---- declarations

    size_ends : (at : ℕ) (z : ℤ) (g m : Memory) → R g m → Ends g Any (size_if at z m)
    size_ends at (pos n) g m h = by_kind (nat_le n most_elements) where
      by_kind : (b : Bool) → Ends g Any (cond b (gives n m) (stops (Form at) m))
      by_kind true = (tt, h)
      by_kind false = (tt, h)
    size_ends at (negsuc n) g m h = (tt, h)

    sized_ends : (size : Option Tree) (braces : Bool) (init : Trees) (g m : Memory) → QuietIf Spared s size → R g m → Ends g Any (sized s size braces init m)
    sized_ends None braces init g m q h = (tt, h)
    sized_ends (Some e) braces init g m q h = then_ends g Any Any (value s e m) _ (value_quiet e q m g h) (λ z k u r. size_ends (from_of e) z g k r)

    one_ends : (b : Bool) (at n i : ℕ) (one : Part) (g m : Memory) → Leaves Any one → R g m → Ends g Any (listed_one s b at (OwnArray n) i one m)
    one_ends true at n i one g m l h = then_ends g Any Any (one m) _ (l m g h) (λ z k u e. (tt, stored_next g k (OwnSpot (Element n i)) z (keep.own (Element n i)) e))
    one_ends false at n i one g m l h = (tt, h)

    filled_ends : (n size i : ℕ) (es : Trees) (g m : Memory) → QuietAll Spared s es → R g m → Ends g Any (filled s (OwnArray n) size i es m)
    filled_ends n size i none g m q h = (tt, h)
    filled_ends n size i (more e es) g m q h =
        then_ends g Any Any (listed_one s (nat_lt i size) (from_of e) (OwnArray n) i (value s e) m) _
        (one_ends (nat_lt i size) (from_of e) n i (value s e) g m (value_quiet e q.0) h) (λ d k u r. filled_ends n size (i + 1) es g k q.1 r)

    array_next : (n : ℕ) (cells : List Cell) (g m : Memory) → R g m → R g (made_array m (OwnArray n) cells)
    array_next n cells g m h = keep.joins g m (made_array m (OwnArray n) cells) h (keep.array m n cells)

    plain_next : (n : ℕ) (c : Cell) (g m : Memory) → R g m → R g (made_plain m (Own n) c)
    plain_next n c g m h = keep.joins g m (made_plain m (Own n) c) h (keep.plain m n c)

    list_ends : (n : ℕ) (braces : Bool) (init : Trees) (size : ℕ) (g m : Memory) → QuietAll Spared s init → R g m → Ends g Any (with_list s (OwnArray n) braces init size m)
    list_ends n true init size g m q h =
        then_ends g Any Any (filled s (OwnArray n) size 0 init (made_array m (OwnArray n) (replicate size None))) _
        (filled_ends n size 0 init g (made_array m (OwnArray n) (replicate size None)) q (array_next n (replicate size None) g m h))
        (λ d k u r. (tt, array_next n (take (count init) (array_at k (OwnArray n)) ++ replicate (size - count init) (Some (pos 0))) g k r))
    list_ends n false none size g m q h = (tt, array_next n (replicate size None) g m h)
    list_ends n false (more e es) size g m q h = (tt, h)

    array_ends : (n : ℕ) (size : Option Tree) (braces : Bool) (init : Trees) (g m : Memory) → QuietIf Spared s size → QuietAll Spared s init → R g m
        → Ends g Any (new_array s (OwnArray n) size braces init m)
    array_ends n size braces init g m q r h =
        then_ends g Any Any (sized s size braces init m) _ (sized_ends size braces init g m q h) (λ size k u e. list_ends n braces init size g k r e)

    rest_ends : (es : Trees) (g m : Memory) → R g m → Ends g Any (rest_stops s es m)
    rest_ends none g m h = (tt, h)
    rest_ends (more e es) g m h = (tt, h)

    plain_ends : (n : ℕ) (es : Trees) (g m : Memory) → QuietAll Spared s es → R g m → Ends g Any (new_plain s (Own n) es m)
    plain_ends n none g m q h = (tt, plain_next n None g m h)
    plain_ends n (more e es) g m q h =
        then_ends g Any Any (value s e m) _ (value_quiet e q.0 m g h) (λ z k u r. rest_ends es g (made_plain k (Own n) (Some z)) (plain_next n (Some z) g k r))

    item_ends : (p : Location) (i : Declared) (g m : Memory) → QuietItem Spared s i → R g m → Ends g Any (by_location s p i m)
    item_ends (OwnArray n) i g m q h = array_ends n (size_in i.array) i.braces i.init g m q.0 q.1 h
    item_ends (Own n) i g m q h = plain_ends n i.init g m q.1 h
    item_ends (Shared n) i g m q h = (tt, h)
    item_ends (SharedArray n) i g m q h = (tt, h)
    item_ends Nowhere i g m q h = (tt, h)

    items_end : (is : List Declared) (g m : Memory) → QuietItems Spared s is → R g m → Ends g Any (declares_all s is m)
    items_end [] g m q h = (tt, h)
    items_end (i ∷ is) g m q h =
        then_ends g Any Any (by_location s (location_of s (text s.source i.name)) i m) _ (item_ends (location_of s (text s.source i.name)) i g m q.0 h) (λ d k u r. items_end is g k q.1 r)

    -- ---- deeds

    values_end : (es : Trees) (g m : Memory) → QuietAll Spared s es → R g m → Ends g Any (values s es m)
    values_end none g m q h = (tt, h)
    values_end (more e es) g m q h =
        then_ends g Any Any (value s e m) _ (value_quiet e q.0 m g h)
        (λ z k u r. then_ends g Any Any (values s es k) _ (values_end es g k q.1 r) (λ zs l v f. (tt, f)))

    if_ends : (e : Option Tree) (g m : Memory) → QuietIf Spared s e → R g m → Ends g Any (value_if s e m)
    if_ends None g m q h = (tt, h)
    if_ends (Some e) g m q h = then_ends g Any Any (value s e m) _ (value_quiet e q m g h) (λ z k u r. (tt, r))

    does_end : (d : Deed) (g m : Memory) → QuietDeed Spared s d → R g m → Ends g Any (does s d m)
    does_end Rests g m q h = (tt, h)
    does_end (Computes e) g m q h = then_ends g Any Any (value_if s e m) _ (if_ends e g m q h) (λ z k u r. (tt, r))
    does_end (Makes d) g m q h = then_ends g Any Any (declares s d m) _ (items_end d.items g m q h) (λ z k u r. (tt, r))
    does_end (Decides e) g m q h = then_ends g Any Any (value_if s e m) _ (if_ends e g m q h) (λ z k u r. (tt, r))
    does_end (Opens e) g m q h = then_ends g Any Any (value_if s e m) _ (if_ends e g m q h) (λ z k u r. (tt, r))
    does_end (Calls es) g m q h = then_ends g Any Any (values s es m) _ (values_end es g m q h) (λ z k u r. (tt, r))
    does_end (Answers e) g m q h = then_ends g Any Any (value_if s e m) _ (if_ends e g m q h) (λ z k u r. (tt, r))

    -- what a deed that is quiet does keeps the relation
    pub does_keeps : (d : Deed) (m : Memory) → QuietDeed Spared s d → Ends m Any (does s d m)
    does_keeps d m q = does_end d m m q (keep.same m)
