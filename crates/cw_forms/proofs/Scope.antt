-- No scope rule is broken in a form, where none is in its source.
use Rattle.std.proofs.Common.{◌≡◌, ℕ, Bool, true, false, cond, not, is_some, nat_eq, nat_lt, List, [], ◌∷◌, ◌++◌, map, length, Option, None, Some, slice_get, refl, sym, ap}
use Rattle.std.proofs.Common.{subst, ◌∙◌}
use Rattle.std.specs.Prelude.{codes}
use Rattle.std.specs.List.{filter_map, list_any}
use Rattle.std.specs.Option.{option_map}
use Rattle.std.specs.Str.{bytes_eq}
use Rattle.cw_core.specs.declared.quantity.Quantity.TheVariants.{Functions, Labels}
use Rattle.cw_core.specs.Quantities.{limit_of}
use Rattle.cw_syntax.specs.declared.program.Name.{Name}
use Rattle.cw_syntax.specs.declared.program.Op.{Op}
use Rattle.cw_syntax.specs.declared.program.Op.TheVariants as op
use Rattle.cw_syntax.specs.Names.{text}
use Rattle.cw_syntax.specs.Trees.{Tree, Node, Trees, none, more, Definition, File, parts_of, count}
use Rattle.cw_scope.specs.declared.faults.ScopeFault.{ScopeFault}
use Rattle.cw_scope.specs.declared.faults.ScopeFault.TheVariants.{NoMain, TwoFunctions, TwoLabels, Arity, CallForm, MainCalled, Reserved, Jump, Limit}
use Rattle.cw_scope.specs.Walks.{nodes, nodes_in, body_of, every_statement, Whole, inner, every_whole, every_node}
use Rattle.cw_scope.specs.Names.{labels_of, every_label, globals, locals, plain_name, called_name, uses, function_places, every_name}
use Rattle.cw_scope.specs.Rules.{repeated, different, is_main, is_reserved, is_call, call_if, statement_call, standing_call, second_label, miscounted, defined, is_defined}
use Rattle.cw_scope.specs.Rules.{second_function, wrong_arity, function_name, defined_call, external_call, misplaced, second_external, wrong_form, main_call, reserved}
use Rattle.cw_scope.specs.Faults.{no_main, two_functions, two_labels, arity, call_form, main_called, reserved_name, jump, limit, ◌or_else◌, scope_fault}
use Rattle.cw_resolve.specs.Soonest.{sooner, soonest}
use Rattle.cw_source.proofs.Landing.{neither}
use Rattle.cw_forms.specs.Moved.{Pairs, SameName, Alike}
use Rattle.cw_forms.specs.Declared.{Both, SameParam}
use Rattle.cw_forms.specs.Statements.{standing, SameWhole, IsFork, IsExit, SameFunction, SameFile}
use Rattle.cw_forms.proofs.Declarations.{pairs_length}
use Rattle.cw_forms.proofs.Observed.{pairs_map}
use Rattle.cw_forms.proofs.Trees.{NoneAll, none_of, of_none, none_split, none_join, none_pairs, no_place, place_none, call_of, called_by, plain_by, name_at, is_name_op, same_call}
use Rattle.cw_forms.proofs.Trees.{same_plain, nodes_alike, parts_alike, counts_alike, both_some, any_calls_alike, call_if_none, calls_long, second_none, statement_call_alike}
use Rattle.cw_forms.proofs.Lists.{AllOf, if_name, filter_none, none_filter, loose, jumps_stand, wholes_made, statements_stand, labels_stand, node_rule, globals_pairs, locals_pairs}
use Rattle.cw_forms.proofs.Lists.{every_label_pairs, places_pairs, found_same}
use Rattle.cw_lemmas.proofs.Options.{option_map_none}
use Rattle.cw_source.proofs.Kept.{neither as one_none, Nine, nine_of}

-- ---- rules one after the other

of_nine : (a b c d e f g h i : Option ScopeFault) → Nine a b c d e f g h i → a or_else b or_else c or_else d or_else e or_else f or_else g or_else h or_else i ≡ None
of_nine a b c d e f g h i (p, q, r, s, t, u, v, x, y) = rw (p, q, r, s, t, u, v, x, y) refl

remapped : {X : Type 0} (F : X → ScopeFault) (o : Option X) → o ≡ None → option_map F o ≡ None
remapped F o e = ap (option_map F) e

-- ---- lists of names

module _ (source form : List ℕ) where
  abbrev SN : Name → Name → Type 0
  SN n m = SameName source form n m

  abbrev L : Tree → Tree → Type 0
  L x y = Alike source form x y

  repeated_none : (before : List (List ℕ)) (ns ms : List Name) → Pairs SN ns ms → repeated source before ns ≡ None → repeated form before ms ≡ None
  repeated_none before [] [] h e = refl
  repeated_none before [] (m ∷ ms) h e = absurd h
  repeated_none before (n ∷ ns) [] h e = absurd h
  repeated_none before (n ∷ ns) (m ∷ ms) h e = by (list_any (bytes_eq (text source n)) before) refl e (repeated_none (before ++ text source n ∷ []) ns ms h.1)
    where
      by : (b : Bool) → list_any (bytes_eq (text source n)) before ≡ b → cond b (Some n) (repeated source (before ++ text source n ∷ []) ns) ≡ None
          → (repeated source (before ++ text source n ∷ []) ns ≡ None → repeated form (before ++ text source n ∷ []) ms ≡ None) → repeated form before (m ∷ ms) ≡ None
      by true is g rest = absurd (cc)
      by false is g rest = subst (λ (z : List ℕ). cond (list_any (bytes_eq z) before) (Some m) (repeated form (before ++ z ∷ []) ms) ≡ None) (sym h.0) (rw is (rest g))

  different_same : (before : List (List ℕ)) (ns ms : List Name) → Pairs SN ns ms → different form before ms ≡ different source before ns
  different_same before [] [] h = refl
  different_same before [] (m ∷ ms) h = absurd h
  different_same before (n ∷ ns) [] h = absurd h
  different_same before (n ∷ ns) (m ∷ ms) h =
      subst (λ (z : List ℕ). cond (list_any (bytes_eq z) before) (different form before ms) (z ∷ different form (before ++ z ∷ []) ms)
      ≡ cond (list_any (bytes_eq (text source n)) before) (different source before ns) (text source n ∷ different source (before ++ text source n ∷ []) ns)) (sym h.0)
      (rw (different_same before ns ms h.1, different_same (before ++ text source n ∷ []) ns ms h.1) refl)

  labels_none : (fs gs : List Definition) → Pairs (SameFunction source form) fs gs → second_label source fs ≡ None → second_label form gs ≡ None
  labels_none [] [] h e = refl
  labels_none [] (g ∷ gs) h e = absurd h
  labels_none (f ∷ fs) [] h e = absurd h
  labels_none (f ∷ fs) (g ∷ gs) h e =
      let both = one_none (repeated source [] (labels_of (body_of f))) (second_label source fs) e in
      let first = repeated_none [] (labels_of (body_of f)) (labels_of (body_of g)) (labels_stand source form (body_of f) (body_of g) h.0.3) both.0 in
      rw first (labels_none fs gs h.1 both.1)

  -- ---- a file and that of its form

  module _ (file made : File) (same : SameFile source form file made) (no_fork : is_defined source file (codes "fork") ≡ false) (no_exit : is_defined source file (codes "_exit") ≡ false) where
    found : (name : List ℕ) → Both (SameFunction source form) (defined source file name) (defined form made name)
    found name = found_same source form name file.functions made.functions same.functions

    is_found : (name : List ℕ) → is_defined form made name ≡ is_defined source file name
    is_found name = both_some source form (SameFunction source form) (defined source file name) (defined form made name) (found name)

    is_found_at : (n m : Name) → SN n m → is_defined form made (text form m) ≡ is_defined source file (text source n)
    is_found_at n m h = ap (is_defined form made) h ∙ is_found (text source n)

    fork_free : (f : Name) → text form f ≡ codes "fork" → is_defined form made (text form f) ≡ false
    fork_free f e = ap (is_defined form made) e ∙ is_found (codes "fork") ∙ no_fork

    exit_free : (f : Name) → text form f ≡ codes "_exit" → is_defined form made (text form f) ≡ false
    exit_free f e = ap (is_defined form made) e ∙ is_found (codes "_exit") ∙ no_exit

    -- `main`, two functions, two labels
    main_there : no_main source file ≡ None → no_main form made ≡ None
    unfolding no_main
    main_there e = ap (λ (b : Bool). cond b None (Some NoMain)) (is_found (codes "main")) ∙ e

    functions_once : two_functions source file ≡ None → two_functions form made ≡ None
    unfolding two_functions
    functions_once e =
        let names = pairs_map (SameFunction source form) SN (λ f. f.name) (λ f. f.name) (λ x y s. s.1.0) file.functions made.functions same.functions in
        remapped TwoFunctions (second_function form made) (repeated_none [] _ _ names (option_map_none TwoFunctions (second_function source file) e))

    labels_once : two_labels source file ≡ None → two_labels form made ≡ None
    unfolding two_labels
    labels_once e = remapped TwoLabels (second_label form made.functions) (labels_none file.functions made.functions same.functions (option_map_none TwoLabels (second_label source file.functions) e))

    -- as many arguments as parameters
    abbrev arity_of : List ℕ → File → Option Name → Trees → ℕ → Option ℕ
    arity_of s f None ts a = None
    arity_of s f (Some g) ts a = miscounted (defined s f (text s g)) (count ts) a

    arity_by : (s : List ℕ) (f : File) (p : Op) (ts : Trees) (a b : ℕ) → wrong_arity s f (Node p ts a b) ≡ arity_of s f (call_of p) ts a
    arity_by s f (op.Call g) ts a b = refl
    arity_by s f _ ts a b = refl

    miscounted_none : (f g : Option Definition) (n a a' : ℕ) → Both (SameFunction source form) f g → miscounted f n a ≡ None → miscounted g n a' ≡ None
    miscounted_none None None n a a' h e = refl
    miscounted_none None (Some y) n a a' h e = absurd h
    miscounted_none (Some x) None n a a' h e = absurd h
    miscounted_none (Some x) (Some y) n a a' h e =
        place_none (not (nat_eq n (length y.params))) a' (ap (λ (k : ℕ). not (nat_eq n k)) (pairs_length (SameParam source form) x.params y.params h.2)
        ∙ no_place (not (nat_eq n (length x.params))) a e)

    arity_calls : (f g : Option Name) (ts us : Trees) (a a' : ℕ) → Both SN f g → count us ≡ count ts → arity_of source file f ts a ≡ None → arity_of form made g us a' ≡ None
    arity_calls None None ts us a a' h c e = refl
    arity_calls None (Some y) ts us a a' h c e = absurd h
    arity_calls (Some x) None ts us a a' h c e = absurd h
    arity_calls (Some x) (Some y) ts us a a' h c e =
        let there : Both (SameFunction source form) (defined source file (text source x)) (defined form made (text form y)) =
        subst (λ (z : List ℕ). Both (SameFunction source form) (defined source file (text source x)) (defined form made z)) (sym h) (found (text source x)) in
        ap (λ (n : ℕ). miscounted (defined form made (text form y)) n a') c ∙ miscounted_none (defined source file (text source x)) (defined form made (text form y)) (count ts) a a' there e

    arity_none : (t u : Tree) → L t u → wrong_arity source file t ≡ None → wrong_arity form made u ≡ None
    arity_none (Node p ts a b) (Node q us a' b') h e =
        arity_by form made q us a' b'
        ∙ arity_calls (call_of p) (call_of q) ts us a a' (same_call source form p a b q a' b' h.0) (counts_alike source form ts us h.1) (sym (arity_by source file p ts a b) ∙ e)

    undefined : (o : Option Definition) (n a : ℕ) → is_some o ≡ false → miscounted o n a ≡ None
    undefined None n a e = refl
    undefined (Some x) n a e = absurd (cc)

    arity_fork : (t : Tree) → IsFork source form t → NoneAll (wrong_arity form made) (nodes t)
    arity_fork t (f, a, b, c, d, is, e) =
        subst (λ (z : Tree). NoneAll (wrong_arity form made) (nodes z)) (sym is) (refl, (undefined (defined form made (text form f)) 0 a (fork_free f e), tt))

    arity_exit : (t : Tree) → IsExit source form t → NoneAll (wrong_arity form made) (nodes t)
    arity_exit t (f, a, b, c, d, is, e) =
        subst (λ (z : Tree). NoneAll (wrong_arity form made) (nodes z)) (sym is) (undefined (defined form made (text form f)) 1 c (exit_free f e), (refl, tt))

    each_pair : (f g : Tree → Option ℕ) → ((t u : Tree) → L t u → f t ≡ None → g u ≡ None) → (t u : Tree) → Pairs L (nodes t) (nodes u) → NoneAll f (nodes t) → NoneAll g (nodes u)
    each_pair f g each t u h k = none_pairs L f g each (nodes t) (nodes u) h k

    on_nodes : (f g : Tree → Option ℕ) → ((t u : Tree) → L t u → f t ≡ None → g u ≡ None) → ((t : Tree) → IsFork source form t → NoneAll g (nodes t)) → ((t : Tree) → IsExit source form t
        → NoneAll g (nodes t))
        → NoneAll f (every_node file) → NoneAll g (every_node made)
    on_nodes f g each test exit k = node_rule source form f g (each_pair f g each) test exit (λ t u h. nodes_alike source form t u h) file made same k

    arities : arity source file (every_node file) ≡ None → arity form made (every_node made) ≡ None
    unfolding arity
    arities e =
        remapped Arity (soonest (map (wrong_arity form made) (every_node made)))
        (of_none (wrong_arity form made) (every_node made)
        (on_nodes (wrong_arity source file) (wrong_arity form made) arity_none arity_fork arity_exit
        (none_of (wrong_arity source file) (every_node file) (option_map_none Arity (soonest (map (wrong_arity source file) (every_node file))) e))))

    -- `main` isn't called
    main_none : (t u : Tree) → L t u → main_call source t ≡ None → main_call form u ≡ None
    main_none t u h e = call_if_none source form (λ f. is_main (text source f)) (λ f. is_main (text form f)) (λ n m k. ap is_main k) t u h e

    main_fork : (t : Tree) → IsFork source form t → NoneAll (main_call form) (nodes t)
    main_fork t (f, a, b, c, d, is, e) = subst (λ (z : Tree). NoneAll (main_call form) (nodes z)) (sym is) (refl, (place_none (is_main (text form f)) a (ap is_main e), tt))

    main_exit : (t : Tree) → IsExit source form t → NoneAll (main_call form) (nodes t)
    main_exit t (f, a, b, c, d, is, e) = subst (λ (z : Tree). NoneAll (main_call form) (nodes z)) (sym is) (place_none (is_main (text form f)) c (ap is_main e), (refl, tt))

    main_not_called : main_called source (every_node file) ≡ None → main_called form (every_node made) ≡ None
    unfolding main_called
    main_not_called e =
        remapped MainCalled (soonest (map (main_call form) (every_node made)))
        (of_none (main_call form) (every_node made)
        (on_nodes (main_call source) (main_call form) main_none main_fork main_exit (none_of (main_call source) (every_node file) (option_map_none MainCalled (soonest (map (main_call source)
        (every_node file))) e))))

    -- names
    if_name_none : (r r' : Name → Option ℕ) → ((n m : Name) → SN n m → r n ≡ None → r' m ≡ None) → (a b : Option Name) → Both SN a b → if_name a r ≡ None → if_name b r' ≡ None
    if_name_none r r' each None None h e = refl
    if_name_none r r' each None (Some y) h e = absurd h
    if_name_none r r' each (Some x) None h e = absurd h
    if_name_none r r' each (Some x) (Some y) h e = each x y h e

    plain_none : (r r' : Name → Option ℕ) → ((n m : Name) → SN n m → r n ≡ None → r' m ≡ None) → (t u : Tree) → L t u → if_name (plain_name t) r ≡ None → if_name (plain_name u) r' ≡ None
    plain_none r r' each (Node p ts a b) (Node q us a' b') h e =
        ap (λ (z : Option Name). if_name z r') (plain_by q us a' b')
        ∙ if_name_none r r' each (name_at (is_name_op p) a b) (name_at (is_name_op q) a' b') (same_plain source form p a b q a' b' h.0) (ap (λ (z : Option Name). if_name z r) (sym
        (plain_by p ts a b)) ∙ e)

    called_none : (r r' : Name → Option ℕ) → ((n m : Name) → SN n m → r n ≡ None → r' m ≡ None) → (t u : Tree) → L t u → if_name (called_name t) r ≡ None → if_name (called_name u) r' ≡ None
    called_none r r' each (Node p ts a b) (Node q us a' b') h e =
        ap (λ (z : Option Name). if_name z r') (called_by q us a' b')
        ∙ if_name_none r r' each (call_of p) (call_of q) (same_call source form p a b q a' b' h.0) (ap (λ (z : Option Name). if_name z r) (sym (called_by p ts a b)) ∙ e)

    plain_names : (r r' : Name → Option ℕ) → ((n m : Name) → SN n m → r n ≡ None → r' m ≡ None) → NoneAll r (filter_map plain_name (every_node file))
        → NoneAll r' (filter_map plain_name (every_node made))
    plain_names r r' each k =
        none_filter r' plain_name (every_node made)
        (on_nodes (λ t. if_name (plain_name t) r) (λ u. if_name (plain_name u) r') (plain_none r r' each)
        (λ t (f, a, b, c, d, is, e). subst (λ (z : Tree). NoneAll (λ u. if_name (plain_name u) r') (nodes z)) (sym is) (refl, (refl, tt)))
        (λ t (f, a, b, c, d, is, e). subst (λ (z : Tree). NoneAll (λ u. if_name (plain_name u) r') (nodes z)) (sym is) (refl, (refl, tt)))
        (filter_none r plain_name (every_node file) k))

    used_names : (r r' : Name → Option ℕ) → ((n m : Name) → SN n m → r n ≡ None → r' m ≡ None) → NoneAll r (uses file) → NoneAll r' (uses made)
    used_names r r' each k =
        let four = none_split r (globals file ++ locals file ++ every_label file) (filter_map plain_name (every_node file)) k in
        let three = none_split r (globals file ++ locals file) (every_label file) four.0 in
        let two = none_split r (globals file) (locals file) three.0 in
        none_join r' (globals made ++ locals made ++ every_label made) (filter_map plain_name (every_node made))
        (none_join r' (globals made ++ locals made) (every_label made)
        (none_join r' (globals made) (locals made)
        (none_pairs SN r r' each (globals file) (globals made) (globals_pairs source form file made same) two.0)
        (none_pairs SN r r' each (locals file) (locals made) (locals_pairs source form file made same) two.1))
        (none_pairs SN r r' each (every_label file) (every_label made) (every_label_pairs source form file made same) three.1))
        (plain_names r r' each four.1)

    reserved_none : (n m : Name) → SN n m → reserved source n ≡ None → reserved form m ≡ None
    reserved_none n m h e = place_none (is_reserved (text form m)) m.from (ap is_reserved h ∙ no_place (is_reserved (text source n)) n.from e)

    reserved_kept : reserved_name source (every_name file) ≡ None → reserved_name form (every_name made) ≡ None
    unfolding reserved_name
    reserved_kept e =
        let all = none_of (reserved source) (every_name file) (option_map_none Reserved (soonest (map (reserved source) (every_name file))) e) in
        let three = none_split (reserved source) (uses file ++ function_places file) (filter_map called_name (every_node file)) all in
        let two = none_split (reserved source) (uses file) (function_places file) three.0 in
        let calls : NoneAll (reserved form) (filter_map called_name (every_node made)) =
        none_filter (reserved form) called_name (every_node made)
        (on_nodes (λ t. if_name (called_name t) (reserved source)) (λ u. if_name (called_name u) (reserved form)) (called_none (reserved source) (reserved form) reserved_none)
        (λ t (f, a, b, c, d, is, e). subst (λ (z : Tree). NoneAll (λ u. if_name (called_name u) (reserved form)) (nodes z)) (sym is) (
          refl,
          (
            place_none (is_reserved (text form f)) f.from
                (ap is_reserved e),
            tt,
          ),
        ))
        (λ t (f, a, b, c, d, is, e). subst (λ (z : Tree). NoneAll (λ u. if_name (called_name u) (reserved form)) (nodes z)) (sym is) (
          place_none (is_reserved (text form f)) f.from
              (ap is_reserved e),
          (refl, tt),
        ))
        (filter_none (reserved source) called_name (every_node file) three.1)) in
        remapped Reserved (soonest (map (reserved form) (every_name made)))
        (of_none (reserved form) (every_name made)
        (none_join (reserved form) (uses made ++ function_places made) (filter_map called_name (every_node made))
        (none_join (reserved form) (uses made) (function_places made) (used_names (reserved source) (reserved form) reserved_none two.0)
        (none_pairs SN (reserved source) (reserved form) reserved_none (function_places file) (function_places made) (places_pairs source form file made same) two.1))
        calls))

    -- the forms of calls
    function_name_none : (n m : Name) → SN n m → function_name source file n ≡ None → function_name form made m ≡ None
    function_name_none n m h e = place_none (is_defined form made (text form m)) m.from (is_found_at n m h ∙ no_place (is_defined source file (text source n)) n.from e)

    defined_none : (t u : Tree) → L t u → defined_call source file t ≡ None → defined_call form made u ≡ None
    defined_none t u h e = call_if_none source form (λ f. is_defined source file (text source f)) (λ f. is_defined form made (text form f)) is_found_at t u h e

    cond_none : (b c : Bool) (x y : Option ℕ) → c ≡ b → (x ≡ None → y ≡ None) → cond b x None ≡ None → cond c y None ≡ None
    cond_none true c x y same f e = rw same (f e)
    cond_none false c x y same f e = rw same refl

    misplaced_none : (a b : Option Tree) (t u : Tree) → Both L a b → L t u → soonest (misplaced source file a t) ≡ None → soonest (misplaced form made b u) ≡ None
    misplaced_none None None t u h k e =
        of_none (defined_call form made) (nodes u) (none_pairs L (defined_call source file) (defined_call form made) defined_none (nodes t) (nodes u) (nodes_alike source form t u k) (none_of
        (defined_call source file) (nodes t) e))
    misplaced_none None (Some y) t u h k e = absurd h
    misplaced_none (Some x) None t u h k e = absurd h
    misplaced_none (Some x) (Some y) t u h k e =
        let first = cond (list_any is_call (nodes_in (parts_of x))) (defined_call source file x) None in
        let both = neither first (soonest (map (defined_call source file) (nodes_in (parts_of x)))) e in
        let parts = parts_alike source form x y h in
        let here : cond (list_any is_call (nodes_in (parts_of y))) (defined_call form made y) None ≡ None =
        cond_none (list_any is_call (nodes_in (parts_of x))) (list_any is_call (nodes_in (parts_of y))) (defined_call source file x) (defined_call form made y)
        (any_calls_alike source form (nodes_in (parts_of x)) (nodes_in (parts_of y)) parts) (defined_none x y h) both.0 in
        ap (λ (z : Option ℕ). sooner z (soonest (map (defined_call form made) (nodes_in (parts_of y))))) here
        ∙ of_none (defined_call form made) (nodes_in (parts_of y))
        (none_pairs L (defined_call source file) (defined_call form made) defined_none (nodes_in (parts_of x)) (nodes_in (parts_of y)) parts (none_of (defined_call source file) (nodes_in
        (parts_of x)) both.1))

    standing_alike : (w v : Whole) → SameWhole source form w v → Both L (standing_call w) (standing_call v)
    standing_alike w v h = by w.stands v.stands h.1
      where
        by : (b c : Bool) → c ≡ b → Both L (cond b (statement_call w.tree) None) (cond c (statement_call v.tree) None)
        by true true e = statement_call_alike source form w.tree v.tree h.0
        by true false e = absurd (cc)
        by false true e = absurd (cc)
        by false false e = tt

    form_none : (w v : Whole) → SameWhole source form w v → wrong_form source file w ≡ None → wrong_form form made v ≡ None
    form_none w v h e =
        let both = neither (soonest (misplaced source file (standing_call w) w.tree)) (second_external source file w.tree) e in
        let first = misplaced_none (standing_call w) (standing_call v) w.tree v.tree (standing_alike w v h) h.0 both.0 in
        let long = calls_long source form (λ f. not (is_defined source file (text source f))) (λ f. not (is_defined form made (text form f))) (λ n m k. ap not (is_found_at n m k))
        (nodes w.tree) (nodes v.tree)
        (nodes_alike source form w.tree v.tree h.0) in
        let second : second_external form made v.tree ≡ None = second_none source form (filter_map (external_call source file) (nodes w.tree)) (filter_map (external_call form made)
        (nodes v.tree)) long both.1 in
        ap (λ (z : Option ℕ). sooner z (second_external form made v.tree)) first ∙ second

    -- of `!fork()` and `_exit(0)`
    one_call : (test : Name → Bool) (f : Name) (a b c d : ℕ) → test f ≡ false
        → sooner (soonest (map (call_if test) (nodes (Node (op.Prefix 2) (more (Node (op.Call f) none a b) none) c d))))
        (slice_get (filter_map (call_if (λ g. not (test g))) (nodes (Node (op.Prefix 2) (more (Node (op.Call f) none a b) none) c d))) 1) ≡ None
    one_call test f a b c d e = rw e refl

    exit_call : (test : Name → Bool) (f : Name) (a b c d : ℕ) → test f ≡ false
        → sooner (soonest (cond false (call_if test (Node (op.Call f) (more (Node (op.Number 0) none a b) none) c d)) None ∷ map (call_if test) (nodes_in (more (Node (op.Number 0) none a b) none))))
        (slice_get (filter_map (call_if (λ g. not (test g))) (nodes (Node (op.Call f) (more (Node (op.Number 0) none a b) none) c d))) 1) ≡ None
    exit_call test f a b c d e = rw e refl

    form_fork : (t : Tree) → IsFork source form t → wrong_form form made (inner t) ≡ None
    form_fork t (f, a, b, c, d, is, e) = subst (λ (z : Tree). wrong_form form made (inner z) ≡ None) (sym is) (one_call (λ g. is_defined form made (text form g)) f a b c d (fork_free f e))

    form_exit : (t : Tree) → IsExit source form t → wrong_form form made (standing t) ≡ None
    form_exit t (f, a, b, c, d, is, e) = subst (λ (z : Tree). wrong_form form made (standing z) ≡ None) (sym is) (exit_call (λ g. is_defined form made (text form g)) f a b c d (exit_free f e))

    all_none_of : (f : Whole → Option ℕ) (ws : List Whole) → NoneAll f ws → AllOf (λ w. f w ≡ None) ws
    all_none_of f [] h = tt
    all_none_of f (w ∷ ws) h = (h.0, all_none_of f ws h.1)

    none_all_of : (f : Whole → Option ℕ) (ws : List Whole) → AllOf (λ w. f w ≡ None) ws → NoneAll f ws
    none_all_of f [] h = tt
    none_all_of f (w ∷ ws) h = (h.0, none_all_of f ws h.1)

    call_forms : call_form source file (uses file) (every_whole file) ≡ None → call_form form made (uses made) (every_whole made) ≡ None
    unfolding call_form
    call_forms e =
        let both = neither (soonest (map (function_name source file) (uses file))) (soonest (map (wrong_form source file) (every_whole file)))
        (option_map_none CallForm (sooner (soonest (map (function_name source file) (uses file))) (soonest (map (wrong_form source file) (every_whole file)))) e) in
        let first = of_none (function_name form made) (uses made) (used_names (function_name source file) (function_name form made) function_name_none (none_of (function_name source file)
        (uses file) both.0)) in
        let wholes = wholes_made source form (λ w. wrong_form source file w ≡ None) (λ v. wrong_form form made v ≡ None) form_none form_fork form_exit file made same
        (all_none_of (wrong_form source file) (every_whole file) (none_of (wrong_form source file) (every_whole file) both.1)) in
        let second = of_none (wrong_form form made) (every_whole made) (none_all_of (wrong_form form made) (every_whole made) wholes) in
        remapped CallForm (sooner (soonest (map (function_name form made) (uses made))) (soonest (map (wrong_form form made) (every_whole made))))
        (ap (λ (z : Option ℕ). sooner z (soonest (map (wrong_form form made) (every_whole made)))) first ∙ second)

    -- jumps, and limits
    jumps_kept : jump (every_statement file) ≡ None → jump (every_statement made) ≡ None
    unfolding jump
    jumps_kept e =
        remapped Jump (soonest (map (loose source form) (every_statement made)))
        (of_none (loose source form) (every_statement made)
        (jumps_stand source form (every_statement file) (every_statement made) (statements_stand source form file.functions made.functions same.functions)
        (none_of (loose source form) (every_statement file) (option_map_none Jump (soonest (map (loose source form) (every_statement file))) e))))

    limits_kept : limit source file (every_label file) ≡ None → limit form made (every_label made) ≡ None
    unfolding limit
    limits_kept e =
        let functions = pairs_length (SameFunction source form) file.functions made.functions same.functions in
        let labels = different_same [] (every_label file) (every_label made) (every_label_pairs source form file made same) in
        ap (λ (n : ℕ). cond (nat_lt (limit_of Functions) n) (Some (Limit Functions)) (cond (nat_lt (limit_of Labels) (length (different form [] (every_label made)))) (Some
        (Limit Labels)) None)) functions
        ∙ ap (λ (l : List (List ℕ)). cond (nat_lt (limit_of Functions) (length file.functions)) (Some (Limit Functions)) (cond (nat_lt (limit_of Labels) (length l)) (Some
        (Limit Labels)) None)) labels ∙ e

    pub scope_kept : scope_fault source file ≡ None → scope_fault form made ≡ None
    scope_kept e =
        let k = nine_of _ _ _ _ _ _ _ _ _ e in
        of_nine (no_main form made) (two_functions form made) (two_labels form made) (arity form made (every_node made)) (call_form form made (uses made) (every_whole made))
        (main_called form (every_node made))
        (reserved_name form (every_name made)) (jump (every_statement made)) (limit form made (every_label made))
        (main_there k.0, functions_once k.1, labels_once k.2, arities k.3, call_forms k.4, main_not_called k.5, reserved_kept k.6, jumps_kept k.7, limits_kept k.8)
