-- Where no scope rule is broken each statement `f(..);` or `x = f(..);` calls another function than `main`.
use Rattle.std.proofs.Common.{◌≡◌, ℕ, zero, ◌<◌, List, [], ◌∷◌, ◌++◌, map, length, Bool, true, false, cond, nat_lt, get_or, Option, None, Some, refl, sym, ap, ◌∙◌, arith}
use Rattle.std.specs.Prelude.{codes}
use Rattle.std.specs.List.{flat_map, position_or_len}
use Rattle.std.specs.Str.{bytes_eq}
use Rattle.std.proofs.lemmas.Bool.Decides.{nat_tests}
use Rattle.std.proofs.lemmas.Option.{same_Some}
use Rattle.std.proofs.lemmas.List.Sums.{passes_at_first}
use Rattle.std.proofs.lemmas.Slice.Eq.{bytes_eq-Decides}
use Rattle.cw_syntax.specs.declared.program.Name.{Name}
use Rattle.cw_syntax.specs.declared.program.Op.TheVariants.{Name as NameOp, Call as CallOp, Assign}
use Rattle.cw_syntax.specs.Names.{Names, text, number_in, number_or_other}
use Rattle.cw_syntax.specs.Trees.{Tree, Node, Trees, none, more, Statement, Stated, Form, Block, Declares, Evaluates, Empties, Labels, Chooses, Whiles, Does, Fors, Breaks, Continues, Returns}
use Rattle.cw_syntax.specs.Trees.{Perhaps, nothing, just, Statements, nil, cons, Definition, File}
use Rattle.cw_syntax.specs.Plans.{Action, Computes, Scene, action_of, call_action, assigned_action, closed_by, closes_if, descriptor_of, opens_if, scene_of, function_names}
use Rattle.cw_scope.specs.declared.faults.ScopeFault.{ScopeFault}
use Rattle.cw_scope.specs.declared.faults.ScopeFault.TheVariants.{MainCalled}
use Rattle.cw_scope.specs.Walks.{nodes, Nested, nested, nested_within, nested_arm, nested_all, body_of, every_statement, Whole, inner, declaration_trees, wholes_in, wholes_of, every_whole, every_node}
use Rattle.cw_scope.specs.Names.{uses, every_name, every_label}
use Rattle.cw_scope.specs.Rules.{at_if, is_main, main_call}
use Rattle.cw_resolve.specs.Soonest.{soonest}
use Rattle.cw_scope.specs.Faults.{no_main, two_functions, two_labels, arity, call_form, main_called, reserved_name, jump, limit, ◌or_else◌, scope_fault}
use Rattle.cw_positions.specs.Opens.{EachStands, EachStandsIn, EachStandsArm, EachStandsAll, EachStandsFrom}
use Rattle.cw_positions.proofs.Fitting.{ActFits}
use Rattle.cw_source.proofs.Landing.{neither}
use Rattle.cw_lemmas.proofs.Options.{option_map_none}

-- the rule on `main` is kept where all are
first_kept : (a b : Option ScopeFault) → a or_else b ≡ None → a ≡ None
first_kept None b e = refl
first_kept (Some x) b e = absurd (cc)

last_kept : (a b : Option ScopeFault) → a or_else b ≡ None → b ≡ None
last_kept None b e = e
last_kept (Some x) b e = absurd (cc)

sixth_kept : (a b c d e f g h i : Option ScopeFault) → a or_else b or_else c or_else d or_else e or_else f or_else g or_else h or_else i ≡ None → f ≡ None
sixth_kept a b c d e f g h i kept =
    let eight = first_kept (a or_else b or_else c or_else d or_else e or_else f or_else g or_else h) i kept in
    let seven = first_kept (a or_else b or_else c or_else d or_else e or_else f or_else g) h eight in
    let six = first_kept (a or_else b or_else c or_else d or_else e or_else f) g seven in
    last_kept (a or_else b or_else c or_else d or_else e) f six

main_kept : (source : List ℕ) (file : File) → scope_fault source file ≡ None → soonest (map (main_call source) (every_node file)) ≡ None
unfolding main_called
main_kept source file kept =
    option_map_none MainCalled (soonest (map (main_call source) (every_node file)))
    (sixth_kept (no_main source file) (two_functions source file) (two_labels source file) (arity source file (every_node file))
    (call_form source file (uses file) (every_whole file)) (main_called source (every_node file)) (reserved_name source (every_name file)) (jump (every_statement file))
    (limit source file (every_label file)) kept)

module _ (source : List ℕ) where
  -- none of these calls `main`
  abbrev pub Leave : List Tree → Type 0
  Leave [] = Unit {0}
  Leave (t ∷ ts) = (main_call source t ≡ None) × Leave ts

  leave_of : (ts : List Tree) → soonest (map (main_call source) ts) ≡ None → Leave ts
  leave_of [] e = tt
  leave_of (t ∷ ts) e = let both = neither (main_call source t) (soonest (map (main_call source) ts)) e in (both.0, leave_of ts both.1)

  split : (ts us : List Tree) → Leave (ts ++ us) → Leave ts × Leave us
  split [] us h = (tt, h)
  split (t ∷ ts) us h = let both = split ts us h.1 in ((h.0, both.0), both.1)

  -- an expression with all that are in it
  abbrev pub LeavesAll : Tree → Type 0
  LeavesAll t = Leave (nodes t)

  abbrev Wholes : List Whole → Type 0
  Wholes [] = Unit {0}
  Wholes (w ∷ ws) = LeavesAll w.tree × Wholes ws

  wholes_leave : (ws : List Whole) → Leave (flat_map (λ w. nodes w.tree) ws) → Wholes ws
  wholes_leave [] h = tt
  wholes_leave (w ∷ ws) h = let both = split (nodes w.tree) (flat_map (λ v. nodes v.tree) ws) h in (both.0, wholes_leave ws both.1)

  split_wholes : (ws vs : List Whole) → Wholes (ws ++ vs) → Wholes ws × Wholes vs
  split_wholes [] vs h = (tt, h)
  split_wholes (w ∷ ws) vs h = let both = split_wholes ws vs h.1 in ((h.0, both.0), both.1)

  abbrev AllPlaced : List Nested → Type 0
  AllPlaced [] = Unit {0}
  AllPlaced (p ∷ ps) = Wholes (wholes_of p.statement) × AllPlaced ps

  placed_leave : (ps : List Nested) → Wholes (flat_map (λ p. wholes_of p.statement) ps) → AllPlaced ps
  placed_leave [] h = tt
  placed_leave (p ∷ ps) h = let both = split_wholes (wholes_of p.statement) (flat_map (λ q. wholes_of q.statement) ps) h in (both.0, placed_leave ps both.1)

  split_placed : (ps qs : List Nested) → AllPlaced (ps ++ qs) → AllPlaced ps × AllPlaced qs
  split_placed [] qs h = (tt, h)
  split_placed (p ∷ ps) qs h = let both = split_placed ps qs h.1 in ((h.0, both.0), both.1)

  mutual
    stands : (looped : Bool) (s : Statement) → AllPlaced (nested looped s) → EachStands LeavesAll s
    stands looped (Stated form from to) h = stands_in looped form h.0 h.1

    stands_in : (looped : Bool) (form : Form) → Wholes (wholes_in form) → AllPlaced (nested_within looped form) → EachStandsIn LeavesAll form
    stands_in looped (Block ss) w h = stand_all looped ss h
    stands_in looped (Declares d) w h = tt
    stands_in looped (Evaluates e) w h = w.0
    stands_in looped Empties w h = tt
    stands_in looped (Labels name mark s) w h = stands looped s h
    stands_in looped (Chooses test s other) w h =
        let both = split_placed (nested looped s) (nested_arm looped other) h in
        (stands looped s both.0, stands_arm looped other both.1)
    stands_in looped (Whiles test s) w h = stands true s h
    stands_in looped (Does s test) w h = stands true s h
    stands_in looped (Fors init test step s) w h = stands true s h
    stands_in looped Breaks w h = tt
    stands_in looped Continues w h = tt
    stands_in looped (Returns value) w h = tt

    stands_arm : (looped : Bool) (arm : Perhaps) → AllPlaced (nested_arm looped arm) → EachStandsArm LeavesAll arm
    stands_arm looped nothing h = tt
    stands_arm looped (just s) h = stands looped s h

    stand_all : (looped : Bool) (ss : Statements) → AllPlaced (nested_all looped ss) → EachStandsAll LeavesAll ss
    stand_all looped nil h = tt
    stand_all looped (cons s ss) h =
        let both = split_placed (nested looped s) (nested_all looped ss) h in
        (stands looped s both.0, stand_all looped ss both.1)

  stand_from : (fs : List Definition) → AllPlaced (flat_map body_of fs) → EachStandsFrom LeavesAll fs
  stand_from [] h = tt
  stand_from (f ∷ fs) h =
      let both = split_placed (body_of f) (flat_map body_of fs) h in
      (stand_all false f.body both.0, stand_from fs both.1)

  pub statements_leave : (file : File) → scope_fault source file ≡ None → EachStandsFrom LeavesAll file.functions
  statements_leave file kept =
      let all = wholes_leave (every_whole file) (leave_of (every_node file) (main_kept source file kept)) in
      let nested = split_wholes (map inner (flat_map declaration_trees file.globals)) (flat_map (λ p. wholes_of p.statement) (every_statement file)) all in
      stand_from file.functions (placed_leave (every_statement file) nested.1)

  -- a name that has a number among these names, and the number of the name that it is
  numbered_at : (t : List ℕ) (names : List (List ℕ)) (n : ℕ) → number_in names t ≡ Some n → (position_or_len (bytes_eq t) names ≡ n) × (n < length names)
  numbered_at t names n e = by (nat_lt (position_or_len (bytes_eq t) names) (length names)) refl
    where
      by : (b : Bool) → nat_lt (position_or_len (bytes_eq t) names) (length names) ≡ b → (position_or_len (bytes_eq t) names ≡ n) × (n < length names)
      by true b =
          let s : Some (position_or_len (bytes_eq t) names) ≡ Some n = sym (ap (λ y. cond y (Some (position_or_len (bytes_eq t) names)) None) b) ∙ e in
          let m : position_or_len (bytes_eq t) names ≡ n = same_Some (position_or_len (bytes_eq t) names) n s in
          let lt : n < length names = grind (arith, nat_tests) in
          (m, lt)
      by false b = let z : None ≡ Some n = sym (ap (λ y. cond y (Some (position_or_len (bytes_eq t) names)) None) b) ∙ e in absurd (cc)

  same_name : (t u : List ℕ) (names : List (List ℕ)) (n : ℕ) → number_in names t ≡ Some n → n ≡ number_or_other names u → t ≡ u
  same_name t u names n e m =
      let is = numbered_at t names n e in
      let first = passes_at_first (bytes_eq t) names [] (omega (arith, is.0, is.1)) in
      let other = passes_at_first (bytes_eq u) names [] (omega (arith, m, is.1)) in
      let z : position_or_len (bytes_eq t) names ≡ position_or_len (bytes_eq u) names = is.0 ∙ m in
      let here : t ≡ get_or names (position_or_len (bytes_eq t) names) [] = (bytes_eq-Decides t _).0 first in
      let there : u ≡ get_or names (position_or_len (bytes_eq u) names) [] = (bytes_eq-Decides u _).0 other in
      here ∙ ap (λ k. get_or names k []) z ∙ sym there

  not_called : (f : Name) (from : ℕ) → at_if (is_main (text source f)) from ≡ None → text source f ≡ codes "main" → ⊥
  not_called f from h e = by (is_main (text source f)) refl h
    where
      by : (b : Bool) → is_main (text source f) ≡ b → at_if b from ≡ None → ⊥
      by true is n = absurd (cc)
      by false is n = let z : true ≡ false = sym ((bytes_eq-Decides (text source f) (codes "main")).1 e) ∙ is in cc

  module _ (names : Names) (file : File) where
    abbrev c : Scene
    c = scene_of names source file

    -- an action doesn't call `main`
    abbrev pub ActLeaves : Action → Type 0
    ActLeaves a = ActFits (λ d. Unit {0}) (λ d. Unit {0}) (λ l. Unit {0}) (λ callee. callee.number ≡ number_or_other (function_names source file) (codes "main") → ⊥) a

    opening_leaves : (o : Option ℕ) → ActLeaves (opens_if o)
    opening_leaves None = tt
    opening_leaves (Some d) = tt

    closes_leave : (o : Option ℕ) → ActLeaves (closes_if o)
    closes_leave None = tt
    closes_leave (Some d) = tt

    closing_leaves : (b : Bool) (t : Tree) → ActLeaves (cond b (closes_if (descriptor_of c t)) Computes)
    closing_leaves true t = closes_leave (descriptor_of c t)
    closing_leaves false t = tt

    closed_leaves : (name : List ℕ) (ts : Trees) → ActLeaves (closed_by c name ts)
    closed_leaves name (more t none) = closing_leaves (bytes_eq name (codes "close")) t
    closed_leaves name none = tt
    closed_leaves name (more t (more u ts)) = tt

    call_leaves : (name : List ℕ) (ts : Trees) (o : Option ℕ) → ((n : ℕ) → o ≡ Some n → n ≡ number_or_other (function_names source file) (codes "main") → ⊥) → ActLeaves (call_action c name ts o)
    call_leaves name ts (Some n) h = h n refl
    call_leaves name ts None h = closed_leaves name ts

    assigned_leaves : (x : Name) (name : List ℕ) (o : Option ℕ) → ((n : ℕ) → o ≡ Some n → n ≡ number_or_other (function_names source file) (codes "main") → ⊥) → ActLeaves (assigned_action c x name o)
    assigned_leaves x name (Some n) h = h n refl
    assigned_leaves x name None h = opening_leaves (number_in names.descriptors (text source x))

    called : (f : Name) (from : ℕ) → at_if (is_main (text source f)) from ≡ None → (n : ℕ) → number_in (function_names source file) (text source f) ≡ Some n
        → n ≡ number_or_other (function_names source file) (codes "main") → ⊥
    called f from h n e m = not_called f from h (same_name (text source f) (codes "main") (function_names source file) n e m)

    pub acts_leave : (t : Tree) → LeavesAll t → ActLeaves (action_of (scene_of names source file) t)
    acts_leave (Node (CallOp f) arguments from to) h =
        call_leaves (text source f) arguments (number_in (function_names source file) (text source f)) (called f from h.0)
    acts_leave (Node (Assign zero) (more (Node NameOp parts at end) (more (Node (CallOp f) arguments at' end') none)) from to) h =
        let behind = split (nodes (Node NameOp parts at end)) (nodes (Node (CallOp f) arguments at' end') ++ []) h.1 in
        let call = split (nodes (Node (CallOp f) arguments at' end')) [] behind.1 in
        assigned_leaves (record { from = at; to = end }) (text source f) (number_in (function_names source file) (text source f)) (called f at' call.0.0)
    acts_leave _ h = tt
