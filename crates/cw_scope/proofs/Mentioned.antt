-- The plain names and the calls of expressions are those among all that are in them, and a rule for calls needs these alone.
use Rattle.std.proofs.Common.{◌≡◌, ◌≤◌, ℕ, arith, List, [], ◌∷◌, ◌++◌, map, length, slice_get, Bool, true, false, not, cond, Option, Some, None, refl, sym, ap, ap₂, ◌∙◌}
use Rattle.std.specs.List.{filter, filter_map, cons_option, flat_map}
use Rattle.std.proofs.lemmas.List.Elements.{filter-append, filter_map-append}
use Rattle.cw_syntax.specs.declared.program.Op.{Op}
use Rattle.cw_syntax.specs.declared.program.Op.TheVariants.{Call as CallOp}
use Rattle.cw_syntax.specs.declared.program.Expr.{Expr, out-Expr}
use Rattle.cw_syntax.specs.Names.{text}
use Rattle.cw_syntax.specs.Trees.{Tree, Node, Trees, none, more, File, tree_of, trees_of}
use Rattle.cw_syntax.proofs.Shapes.{node_is}
use Rattle.cw_scope.specs.Walks.{nodes, nodes_in, Whole, every_whole, every_node}
use Rattle.cw_scope.specs.Names.{plain_name, called_name}
use Rattle.cw_scope.specs.Rules.{is_call, is_main, wrong_arity, main_call, defined_call, external_call, is_defined, second_external}
use Rattle.cw_resolve.specs.Soonest.{sooner, soonest}
use Rattle.cw_scope.specs.Mentions.{own_name, own_call, names_at, names_all, calls_at, calls_all, every_plain, every_call}
use Rattle.cw_scope.proofs.Calling.{no_place}

-- one expression, by its parts
pub names_of : (e : Expr) → names_at (tree_of e) ≡ own_name (tree_of e) ++ names_all (trees_of (out-Expr e).parts.items)
names_of e =
    let rest = names_all (trees_of (out-Expr e).parts.items) in
    ap names_at (node_is e) ∙ ap (λ t. own_name t ++ rest) (sym (node_is e))

pub calls_of : (e : Expr) → calls_at (tree_of e) ≡ own_call (tree_of e) ++ calls_all (trees_of (out-Expr e).parts.items)
calls_of e =
    let rest = calls_all (trees_of (out-Expr e).parts.items) in
    ap calls_at (node_is e) ∙ ap (λ t. own_call t ++ rest) (sym (node_is e))

mutual
  names_found : (t : Tree) → names_at t ≡ filter_map plain_name (nodes t)
  names_found (Node op parts from to) =
      let t = Node op parts from to in
      ap (λ l. own_name t ++ l) (all_names_found parts) ∙ sym (filter_map-append plain_name (t ∷ []) (nodes_in parts))

  all_names_found : (ts : Trees) → names_all ts ≡ filter_map plain_name (nodes_in ts)
  all_names_found none = refl
  all_names_found (more t ts) = ap₂ (λ a b. a ++ b) (names_found t) (all_names_found ts) ∙ sym (filter_map-append plain_name (nodes t) (nodes_in ts))

mutual
  pub calls_found : (t : Tree) → calls_at t ≡ filter is_call (nodes t)
  calls_found (Node op parts from to) =
      let t = Node op parts from to in
      ap (λ l. own_call t ++ l) (all_calls_found parts) ∙ sym (filter-append is_call (t ∷ []) (nodes_in parts))

  all_calls_found : (ts : Trees) → calls_all ts ≡ filter is_call (nodes_in ts)
  all_calls_found none = refl
  all_calls_found (more t ts) = ap₂ (λ a b. a ++ b) (calls_found t) (all_calls_found ts) ∙ sym (filter-append is_call (nodes t) (nodes_in ts))

names_listed : (ws : List Whole) → flat_map (λ w. names_at w.tree) ws ≡ filter_map plain_name (flat_map (λ w. nodes w.tree) ws)
names_listed [] = refl
names_listed (w ∷ ws) =
    ap₂ (λ a b. a ++ b) (names_found w.tree) (names_listed ws) ∙ sym (filter_map-append plain_name (nodes w.tree) (flat_map (λ w. nodes w.tree) ws))

calls_listed : (ws : List Whole) → flat_map (λ w. calls_at w.tree) ws ≡ filter is_call (flat_map (λ w. nodes w.tree) ws)
calls_listed [] = refl
calls_listed (w ∷ ws) = ap₂ (λ a b. a ++ b) (calls_found w.tree) (calls_listed ws) ∙ sym (filter-append is_call (nodes w.tree) (flat_map (λ w. nodes w.tree) ws))

-- a function that gives nothing where no call is, over the calls alone
given_more : {Y : Type 0} (h : Tree → Option Y) (t : Tree) (ts kept : List Tree) → (is_call t ≡ false → h t ≡ None) → filter_map h kept ≡ filter_map h ts
    → (b : Bool) → is_call t ≡ b → filter_map h (cond b (t ∷ kept) kept) ≡ filter_map h (t ∷ ts)
given_more h t ts kept nothing same true e = ap (cons_option (h t)) same
given_more h t ts kept nothing same false e = same ∙ ap (λ o. cons_option o (filter_map h ts)) (sym (nothing e))

pub given_by_calls : {Y : Type 0} (h : Tree → Option Y) → ((t : Tree) → is_call t ≡ false → h t ≡ None) → (ts : List Tree) → filter_map h (filter is_call ts) ≡ filter_map h ts
given_by_calls h nothing [] = refl
given_by_calls h nothing (t ∷ ts) = given_more h t ts (filter is_call ts) (nothing t) (given_by_calls h nothing ts) (is_call t) refl

least_more : (rule : Tree → Option ℕ) (t : Tree) (ts kept : List Tree) → (is_call t ≡ false → rule t ≡ None) → soonest (map rule kept) ≡ soonest (map rule ts)
    → (b : Bool) → is_call t ≡ b → soonest (map rule (cond b (t ∷ kept) kept)) ≡ soonest (map rule (t ∷ ts))
least_more rule t ts kept nothing same true e = ap (sooner (rule t)) same
least_more rule t ts kept nothing same false e = same ∙ ap (λ o. sooner o (soonest (map rule ts))) (sym (nothing e))

pub least_of_calls : (rule : Tree → Option ℕ) → ((t : Tree) → is_call t ≡ false → rule t ≡ None) → (ts : List Tree) → soonest (map rule (filter is_call ts)) ≡ soonest (map rule ts)
least_of_calls rule nothing [] = refl
least_of_calls rule nothing (t ∷ ts) = least_more rule t ts (filter is_call ts) (nothing t) (least_of_calls rule nothing ts) (is_call t) refl

-- such functions
uncalled : (t : Tree) → is_call t ≡ false → called_name t ≡ None
uncalled (Node op ts from to) = at op
  where
    at : (op : Op) → is_call (Node op ts from to) ≡ false → called_name (Node op ts from to) ≡ None
    at (CallOp f) e = absurd (cc)
    at _ e = refl

uncounted : (source : List ℕ) (file : File) (t : Tree) → is_call t ≡ false → wrong_arity source file t ≡ None
uncounted source file (Node op ts from to) = at op
  where
    at : (op : Op) → is_call (Node op ts from to) ≡ false → wrong_arity source file (Node op ts from to) ≡ None
    at (CallOp f) e = absurd (cc)
    at _ e = refl

-- over a whole file
pub names_of_file : (file : File) → every_plain file ≡ filter_map plain_name (every_node file)
names_of_file file = names_listed (every_whole file)

pub callees_of_file : (file : File) → filter_map called_name (every_call file) ≡ filter_map called_name (every_node file)
callees_of_file file = ap (filter_map called_name) (calls_listed (every_whole file)) ∙ given_by_calls called_name uncalled (every_node file)

pub arities_of_file : (source : List ℕ) (file : File) → soonest (map (wrong_arity source file) (every_call file)) ≡ soonest (map (wrong_arity source file) (every_node file))
arities_of_file source file =
    ap (λ l. soonest (map (wrong_arity source file) l)) (calls_listed (every_whole file)) ∙ least_of_calls (wrong_arity source file) (uncounted source file) (every_node file)

pub main_of_file : (source : List ℕ) (file : File) → soonest (map (main_call source) (every_call file)) ≡ soonest (map (main_call source) (every_node file))
main_of_file source file =
    ap (λ l. soonest (map (main_call source) l)) (calls_listed (every_whole file)) ∙ least_of_calls (main_call source) (no_place (λ f. is_main (text source f))) (every_node file)

-- over one expression
pub defined_in : (source : List ℕ) (file : File) (t : Tree) → soonest (map (defined_call source file) (calls_at t)) ≡ soonest (map (defined_call source file) (nodes t))
defined_in source file t =
    ap (λ l. soonest (map (defined_call source file) l)) (calls_found t) ∙ least_of_calls (defined_call source file) (no_place (λ f. is_defined source file (text source f))) (nodes t)

pub external_in : (source : List ℕ) (file : File) (t : Tree) → filter_map (external_call source file) (calls_at t) ≡ filter_map (external_call source file) (nodes t)
external_in source file t =
    ap (filter_map (external_call source file)) (calls_found t)
    ∙ given_by_calls (external_call source file) (no_place (λ f. not (is_defined source file (text source f)))) (nodes t)

-- one call has no second
at_one : {Y : Type 0} (o : Option Y) → slice_get (cons_option o []) 1 ≡ None
at_one None = refl
at_one (Some y) = refl

no_second_of : {X Y : Type 0} (f : X → Option Y) (xs : List X) → length xs ≤ 1 → slice_get (filter_map f xs) 1 ≡ None
no_second_of f [] few = refl
no_second_of f (x ∷ []) few = at_one (f x)
no_second_of f (x ∷ y ∷ xs) few = absurd (omega (arith, few))

pub few_calls : (source : List ℕ) (file : File) (t : Tree) → length (calls_at t) ≤ 1 → second_external source file t ≡ None
few_calls source file t few =
    ap (λ l. slice_get l 1) (sym (external_in source file t)) ∙ no_second_of (external_call source file) (calls_at t) few
