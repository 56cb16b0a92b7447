-- The lists of what stands in a file, of a source and of its form.
use Rattle.std.proofs.Common.{◌≡◌, ℕ, Bool, true, false, not, ◌&&◌, ◌||◌, List, [], ◌∷◌, ◌++◌, map, Option, None, Some, refl, sym, ap, subst, ◌∙◌, inl, inr}
use Rattle.std.specs.List.{filter_map, flat_map, list_any, find}
use Rattle.std.specs.Str.{bytes_eq}
use Rattle.std.proofs.lemmas.Grind.{flat_map-append}
use Rattle.cw_syntax.specs.declared.program.Name.{Name}
use Rattle.cw_syntax.specs.declared.program.Param.{Param}
use Rattle.cw_syntax.specs.Names.{text}
use Rattle.cw_syntax.specs.Trees.{Tree, Statement, Stated, Definition, File}
use Rattle.cw_scope.specs.Walks.{nodes, Nested, Whole, inner, wholes_of, declaration_trees, body_of, every_statement, every_whole, every_node}
use Rattle.cw_scope.specs.Names.{label_of, labels_of, every_label, local_names, declared_names, param_names, globals, locals}
use Rattle.cw_scope.specs.Rules.{is_jump, loose_jump}
use Rattle.cw_forms.specs.Moved.{Pairs, SameName, Alike}
use Rattle.cw_forms.specs.Declared.{Both, SameParam, SameDeclaration, SamePrototype}
use Rattle.cw_forms.specs.Statements.{jumps, standing, SameWhole, SamePlaced, IsFork, IsExit, IsCalled, StandFor, SameFunction, SameFile}
use Rattle.cw_forms.proofs.Observed.{pairs_both, pairs_flat, pairs_map, declaration_pairs, declared_pairs, inner_pairs}
use Rattle.cw_forms.proofs.Parts.{stand_for_both}
use Rattle.cw_forms.proofs.Trees.{NoneAll, none_split, none_join, no_place, place_none}

abbrev pub AllOf : {X : Type 0} → (X → Type 0) → List X → Type 0
AllOf G [] = Unit {0}
AllOf G (x ∷ xs) = G x × AllOf G xs

pub all_split : {X : Type 0} (G : X → Type 0) (xs ys : List X) → AllOf G (xs ++ ys) → AllOf G xs × AllOf G ys
all_split G [] ys h = (tt, h)
all_split G (x ∷ xs) ys h = let both = all_split G xs ys h.1 in ((h.0, both.0), both.1)

pub all_join : {X : Type 0} (G : X → Type 0) (xs ys : List X) → AllOf G xs → AllOf G ys → AllOf G (xs ++ ys)
all_join G [] ys h k = k
all_join G (x ∷ xs) ys h k = (h.0, all_join G xs ys h.1 k)

pub all_pairs : {X Y : Type 0} (R : X → Y → Type 0) (G : X → Type 0) (H : Y → Type 0) → ((x : X) (y : Y) → R x y → G x → H y) → (xs : List X) (ys : List Y) → Pairs R xs ys → AllOf G xs → AllOf H ys
all_pairs R G H each [] [] h k = tt
all_pairs R G H each [] (y ∷ ys) h k = absurd h
all_pairs R G H each (x ∷ xs) [] h k = absurd h
all_pairs R G H each (x ∷ xs) (y ∷ ys) h k = (each x y h.0 k.0, all_pairs R G H each xs ys h.1 k.1)

each_none : {X Y : Type 0} (f : Y → Option ℕ) (g : X → List Y) (xs : List X) → NoneAll f (flat_map g xs) → AllOf (λ x. NoneAll f (g x)) xs
each_none f g [] h = tt
each_none f g (x ∷ xs) h = let both = none_split f (g x) (flat_map g xs) h in (both.0, each_none f g xs both.1)

all_none : {X Y : Type 0} (f : Y → Option ℕ) (g : X → List Y) (xs : List X) → AllOf (λ x. NoneAll f (g x)) xs → NoneAll f (flat_map g xs)
all_none f g [] h = tt
all_none f g (x ∷ xs) h = none_join f (g x) (flat_map g xs) h.0 (all_none f g xs h.1)

abbrev pub if_name : Option Name → (Name → Option ℕ) → Option ℕ
if_name None r = None
if_name (Some n) r = r n

pub filter_none : (r : Name → Option ℕ) (h : Tree → Option Name) (ts : List Tree) → NoneAll r (filter_map h ts) → NoneAll (λ t. if_name (h t) r) ts
filter_none r h [] k = tt
filter_none r h (t ∷ ts) k = by (h t) refl k (filter_none r h ts)
  where
    by : (o : Option Name) → h t ≡ o → NoneAll r (filter_map h (t ∷ ts)) → (NoneAll r (filter_map h ts) → NoneAll (λ u. if_name (h u) r) ts) → NoneAll (λ u. if_name (h u) r) (t ∷ ts)
    by None is k rest = (rw is refl, rest (rw is at k))
    by (Some n) is k rest = let both : NoneAll r (n ∷ filter_map h ts) = rw is at k in (rw is both.0, rest both.1)

pub none_filter : (r : Name → Option ℕ) (h : Tree → Option Name) (ts : List Tree) → NoneAll (λ t. if_name (h t) r) ts → NoneAll r (filter_map h ts)
none_filter r h [] k = tt
none_filter r h (t ∷ ts) k = by (h t) refl (none_filter r h ts k.1)
  where
    by : (o : Option Name) → h t ≡ o → NoneAll r (filter_map h ts) → NoneAll r (filter_map h (t ∷ ts))
    by None is rest = rw is rest
    by (Some n) is rest = let first : if_name (Some n) r ≡ None = ap (λ (z : Option Name). if_name z r) (sym is) ∙ k.0 in rw is (first, rest)

module _ (source form : List ℕ) where
  abbrev SN : Name → Name → Type 0
  SN n m = SameName source form n m

  stand_fold : (C : List Nested → List Nested → Type 0) → C [] [] → ((p q : Nested) (ps qs : List Nested) → SamePlaced source form p q → C ps qs → C (p ∷ ps) (q ∷ qs))
      → ((p : Nested) (own ps qs : List Nested) → IsCalled source form p own → C ps qs → C (p ∷ ps) (own ++ qs)) → (ps qs : List Nested) → StandFor source form ps qs → C ps qs
  stand_fold C none one many [] qs h = subst (λ (z : List Nested). C [] z) (sym h) none
  stand_fold C none one many (p ∷ ps) qs (own, rest, whole, inl (q, own_is, same), h) =
      subst (λ (z : List Nested). C (p ∷ ps) z) (sym (whole ∙ ap (λ (z : List Nested). z ++ rest) own_is)) (one p q ps rest same (stand_fold C none one many ps rest h))
  stand_fold C none one many (p ∷ ps) qs (own, rest, whole, inr called, h) =
      subst (λ (z : List Nested). C (p ∷ ps) z) (sym whole) (many p own ps rest called (stand_fold C none one many ps rest h))

  pub labels_stand : (ps qs : List Nested) → StandFor source form ps qs → Pairs SN (labels_of ps) (labels_of qs)
  labels_stand ps qs h = stand_fold (λ xs ys. Pairs SN (labels_of xs) (labels_of ys)) tt
      (λ p q xs ys same rest. pairs_both SN (label_of p.statement) (label_of q.statement) (labels_of xs) (labels_of ys) same.labels rest)
      (λ p own xs ys called rest. (rw (called.no_label, flat_map-append (λ r. label_of r.statement) own ys, called.no_labels) rest)) ps qs h

  pub locals_stand : (ps qs : List Nested) → StandFor source form ps qs → Pairs SN (flat_map (λ p. local_names p.statement) ps) (flat_map (λ p. local_names p.statement) qs)
  locals_stand ps qs h = stand_fold (λ xs ys. Pairs SN (flat_map (λ p. local_names p.statement) xs) (flat_map (λ p. local_names p.statement) ys)) tt
      (λ p q xs ys same rest. pairs_both SN (local_names p.statement) (local_names q.statement) (flat_map (λ r. local_names r.statement) xs) (flat_map
      (λ r. local_names r.statement) ys) same.locals rest)
      (λ p own xs ys called rest. (rw (called.no_local, flat_map-append (λ r. local_names r.statement) own ys, called.no_locals) rest)) ps qs h

  -- jumps
  abbrev pub loose : Nested → Option ℕ
  loose p = loose_jump p.looped p.statement

  loose_is : (l : Bool) (st : Statement) → loose_jump l st ≡ None → (jumps st && not l) ≡ false
  loose_is l (Stated form a b) e = no_place (is_jump form && not l) a e

  is_loose : (l : Bool) (st : Statement) → (jumps st && not l) ≡ false → loose_jump l st ≡ None
  is_loose l (Stated form a b) e = place_none (is_jump form && not l) a e

  none_jumps : (own : List Nested) → list_any (λ q. jumps q.statement) own ≡ false → NoneAll loose own
  none_jumps [] e = tt
  none_jumps (q ∷ own) e = by (jumps q.statement) refl e (none_jumps own)
    where
      by : (b : Bool) → jumps q.statement ≡ b → (b || list_any (λ r. jumps r.statement) own) ≡ false → (list_any (λ r. jumps r.statement) own ≡ false → NoneAll loose own) → NoneAll loose (q ∷ own)
      by true is f rest = absurd cc
      by false is f rest = (is_loose q.looped q.statement (rw is refl), rest f)

  pub jumps_stand : (ps qs : List Nested) → StandFor source form ps qs → NoneAll loose ps → NoneAll loose qs
  jumps_stand ps qs h = stand_fold (λ xs ys. NoneAll loose xs → NoneAll loose ys) (λ k. tt)
      (λ p q xs ys same rest k. (is_loose q.looped q.statement (rw (same.jump, same.looped) (loose_is p.looped p.statement k.0)), rest k.1))
      (λ p own xs ys called rest k. none_join loose own ys (none_jumps own called.no_jump) (rest k.1)) ps qs h

  -- whole expressions
  module _ (G H : Whole → Type 0) (same : (w v : Whole) → SameWhole source form w v → G w → H v) (test : (t : Tree) → IsFork source form t → H (inner t)) (exit : (t : Tree)
      → IsExit source form t → H (standing t)) where
    abbrev whole_list : List Nested → List Whole
    whole_list ps = flat_map (λ p. wholes_of p.statement) ps

    wholes_stand : (ps qs : List Nested) → StandFor source form ps qs → AllOf G (whole_list ps) → AllOf H (whole_list qs)
    wholes_stand ps qs h = stand_fold (λ xs ys. AllOf G (whole_list xs) → AllOf H (whole_list ys)) (λ k. tt)
        (λ p q xs ys alike rest k. (
        let both = all_split G (wholes_of p.statement) (whole_list xs) k in
        all_join H (wholes_of q.statement) (whole_list ys) (all_pairs (SameWhole source form) G H same (wholes_of p.statement) (wholes_of q.statement) alike.wholes both.0) (rest both.1)))
        (λ p own xs ys called rest k. (
        let both = all_split G (wholes_of p.statement) (whole_list xs) k in
        let first : AllOf G (standing called.call ∷ []) = subst (λ (z : List Whole). AllOf G z) called.whole both.0 in
        let made : AllOf H (inner called.test ∷ standing called.again ∷ standing called.exit ∷ []) =
        (test called.test called.is_test, (same (standing called.call) (standing called.again) (called.alike, refl) first.0, (exit called.exit called.is_exit, tt))) in
        subst (λ (z : List Whole). AllOf H z) (sym (flat_map-append (λ r. wholes_of r.statement) own ys))
        (all_join H (whole_list own) (whole_list ys) (subst (λ (z : List Whole). AllOf H z) (sym called.wholes) made) (rest both.1)))) ps qs h

    bodies_stand : (fs gs : List Definition) → Pairs (SameFunction source form) fs gs → StandFor source form (flat_map body_of fs) (flat_map body_of gs)
    bodies_stand [] [] h = refl
    bodies_stand [] (g ∷ gs) h = absurd h
    bodies_stand (f ∷ fs) [] h = absurd h
    bodies_stand (f ∷ fs) (g ∷ gs) h = stand_for_both source form (body_of f) (flat_map body_of fs) (body_of g) (flat_map body_of gs) h.0.3 (bodies_stand fs gs h.1)

    pub wholes_made : (file made : File) → SameFile source form file made → AllOf G (every_whole file) → AllOf H (every_whole made)
    wholes_made file made h k =
        let fixed = map inner (flat_map declaration_trees file.globals) in
        let both = all_split G fixed (whole_list (every_statement file)) k in
        let pairs = inner_pairs source form (flat_map declaration_trees file.globals) (flat_map declaration_trees made.globals)
        (pairs_flat (λ x y. (d : ℕ) × SameDeclaration source form d x y) (Alike source form) declaration_trees declaration_trees
        (λ x y s. declaration_pairs source form s.0 x y s.1) file.globals made.globals h.globals) in
        all_join H (map inner (flat_map declaration_trees made.globals)) (whole_list (every_statement made))
        (all_pairs (SameWhole source form) G H same fixed (map inner (flat_map declaration_trees made.globals)) pairs both.0)
        (wholes_stand (every_statement file) (every_statement made) (bodies_stand file.functions made.functions h.functions) both.1)

  pub statements_stand : (fs gs : List Definition) → Pairs (SameFunction source form) fs gs → StandFor source form (flat_map body_of fs) (flat_map body_of gs)
  statements_stand [] [] h = refl
  statements_stand [] (g ∷ gs) h = absurd h
  statements_stand (f ∷ fs) [] h = absurd h
  statements_stand (f ∷ fs) (g ∷ gs) h = stand_for_both source form (body_of f) (flat_map body_of fs) (body_of g) (flat_map body_of gs) h.0.3 (statements_stand fs gs h.1)

  -- a rule on each expression of a file
  pub node_rule : (f g : Tree → Option ℕ) → ((t u : Tree) → Pairs (Alike source form) (nodes t) (nodes u) → NoneAll f (nodes t) → NoneAll g (nodes u)) → ((t : Tree) → IsFork source form t
      → NoneAll g (nodes t))
      → ((t : Tree) → IsExit source form t → NoneAll g (nodes t)) → ((t u : Tree) → Alike source form t u → Pairs (Alike source form) (nodes t) (nodes u)) → (file made : File)
      → SameFile source form file made
      → NoneAll f (every_node file) → NoneAll g (every_node made)
  node_rule f g each test exit alike file made h k =
      all_none g (λ w. nodes w.tree) (every_whole made)
      (wholes_made (λ w. NoneAll f (nodes w.tree)) (λ w. NoneAll g (nodes w.tree)) (λ w v s. each w.tree v.tree (alike w.tree v.tree s.0)) test exit file made h
      (each_none f (λ w. nodes w.tree) (every_whole file) k))

  -- ---- names

  params_pairs : (ps qs : List Param) → Pairs (SameParam source form) ps qs → Pairs SN (param_names ps) (param_names qs)
  params_pairs [] [] h = tt
  params_pairs [] (q ∷ qs) h = absurd h
  params_pairs (p ∷ ps) [] h = absurd h
  params_pairs (p ∷ ps) (q ∷ qs) h = by p.name q.name refl refl h.0 (params_pairs ps qs h.1)
    where
      by : (a b : Option Name) → p.name ≡ a → q.name ≡ b → Both SN a b → Pairs SN (param_names ps) (param_names qs) → Pairs SN (param_names (p ∷ ps)) (param_names (q ∷ qs))
      by None None e f s rest = rw (e, f) rest
      by None (Some m) e f s rest = absurd s
      by (Some n) None e f s rest = absurd s
      by (Some n) (Some m) e f s rest = rw (e, f) (s, rest)

  pub globals_pairs : (file made : File) → SameFile source form file made → Pairs SN (globals file) (globals made)
  globals_pairs file made h =
      pairs_flat (λ x y. (d : ℕ) × SameDeclaration source form d x y) SN declared_names declared_names (λ x y s. declared_pairs source form s.0 x y s.1) file.globals made.globals h.globals

  pub locals_pairs : (file made : File) → SameFile source form file made → Pairs SN (locals file) (locals made)
  locals_pairs file made h =
      pairs_both SN _ _ _ _
      (pairs_both SN _ _ _ _
      (pairs_flat (SamePrototype source form) SN (λ p. param_names p.params) (λ p. param_names p.params) (λ x y s. params_pairs x.params y.params s.1) file.protos made.protos h.protos)
      (pairs_flat (SameFunction source form) SN (λ f. param_names f.params) (λ f. param_names f.params) (λ x y s. params_pairs x.params y.params s.2) file.functions made.functions h.functions))
      (locals_stand (every_statement file) (every_statement made) (statements_stand file.functions made.functions h.functions))

  pub every_label_pairs : (file made : File) → SameFile source form file made → Pairs SN (every_label file) (every_label made)
  every_label_pairs file made h = labels_stand (every_statement file) (every_statement made) (statements_stand file.functions made.functions h.functions)

  pub places_pairs : (file made : File) → SameFile source form file made
      → Pairs SN (map (λ p. p.name) file.protos ++ map (λ f. f.name) file.functions) (map (λ p. p.name) made.protos ++ map (λ f. f.name) made.functions)
  places_pairs file made h =
      pairs_both SN _ _ _ _
      (pairs_map (SamePrototype source form) SN (λ p. p.name) (λ p. p.name) (λ x y s. s.0) file.protos made.protos h.protos)
      (pairs_map (SameFunction source form) SN (λ f. f.name) (λ f. f.name) (λ x y s. s.1.0) file.functions made.functions h.functions)

  -- the function of a name
  pub found_same : (name : List ℕ) (fs gs : List Definition) → Pairs (SameFunction source form) fs gs
      → Both (SameFunction source form) (find (λ f. bytes_eq name (text source f.name)) fs) (find (λ g. bytes_eq name (text form g.name)) gs)
  found_same name [] [] h = tt
  found_same name [] (g ∷ gs) h = absurd h
  found_same name (f ∷ fs) [] h = absurd h
  found_same name (f ∷ fs) (g ∷ gs) h = by (bytes_eq name (text source f.name)) (bytes_eq name (text form g.name)) refl refl (ap (bytes_eq name) h.0.1.0) (found_same name fs gs h.1)
    where
      by : (a b : Bool) → bytes_eq name (text source f.name) ≡ a → bytes_eq name (text form g.name) ≡ b → bytes_eq name (text form g.name) ≡ bytes_eq name (text source f.name)
          → Both (SameFunction source form) (find (λ x. bytes_eq name (text source x.name)) fs) (find (λ x. bytes_eq name (text form x.name)) gs)
          → Both (SameFunction source form) (find (λ x. bytes_eq name (text source x.name)) (f ∷ fs)) (find (λ x. bytes_eq name (text form x.name)) (g ∷ gs))
      by true true e k s rest = rw (e, k) h.0
      by true false e k s rest = absurd cc
      by false true e k s rest = absurd cc
      by false false e k s rest = rw (e, k) rest
