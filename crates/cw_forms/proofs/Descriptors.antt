-- No rule of descriptors is broken in a form, where none is in its source.
use Rattle.std.proofs.Common.{◌≡◌, ℕ, zero, suc, ◌+◌, Bool, true, false, cond, not, ◌&&◌, ◌||◌, is_some, is_none, List, [], ◌∷◌, map, Option, None, Some, refl}
use Rattle.std.proofs.Common.{sym, ap, subst, ◌∙◌}
use Rattle.std.specs.Prelude.{codes}
use Rattle.std.specs.List.{filter, flat_map, list_any, position_from}
use Rattle.std.specs.Option.{option_map, option_or}
use Rattle.std.specs.Str.{bytes_eq}
use Rattle.std.proofs.lemmas.Bool.{and_parts, and_from}
use Rattle.cw_syntax.specs.declared.program.Name.{Name}
use Rattle.cw_syntax.specs.declared.program.Op.{Op}
use Rattle.cw_syntax.specs.declared.program.Op.TheVariants as op
use Rattle.cw_syntax.specs.Names.{Names, text, number_in}
use Rattle.cw_syntax.specs.Trees.{Tree, Node, Trees, none, more, Declared, Declaration, Definition, File, parts_of}
use Rattle.cw_syntax.specs.Plans.{Scene, scene_of, Action, Computes, action_of, call_action, assigned_action, closed_by, opens_if, closes_if, descriptor_of}
use Rattle.cw_rights.specs.Policies.{PlainPolicy, PlainDescriptor}
use Rattle.cw_resolve.specs.Scenes.{names_of}
use Rattle.cw_scope.specs.declared.descriptors.DescriptorFault.{DescriptorFault}
use Rattle.cw_scope.specs.declared.descriptors.DescriptorFault.TheVariants.{NoVariable, Shadowed, Misuse}
use Rattle.cw_scope.specs.Walks.{nodes, nodes_in, listed, Whole, inner, every_whole}
use Rattle.cw_scope.specs.Names.{locals}
use Rattle.cw_scope.specs.Rules.{at_if}
use Rattle.cw_scope.specs.Descriptors.{scene_under, is_number, is_minus, is_minus_one, is_start, is_plain_int, is_before, may_be_variable, Entry, entry_in, entries_of, entries}
use Rattle.cw_scope.specs.Descriptors.{is_one, is_declared, is_shadowed, is_variable, first_undeclared, first_shadowed, names_variable, is_change, first_is_variable, names_some, misuse, is_own}
use Rattle.cw_scope.specs.Descriptors.{used, least_misuse, descriptor_fault}
use Rattle.cw_forms.specs.Moved.{Pairs, SameName, SameOp, Alike, AllAlike}
use Rattle.cw_forms.specs.Declared.{Both, SameItem, SameDeclaration}
use Rattle.cw_forms.specs.Statements.{standing, SameWhole, IsFork, IsExit, SameFunction, StaysBefore, StayBefore, SameFile}
use Rattle.cw_forms.proofs.Observed.{pairs_both, listed_pairs}
use Rattle.cw_forms.proofs.Trees.{NoneAll, none_of, of_none, none_split, none_join, none_pairs, no_place, place_none, call_of, is_name_op, same_call, same_read, nodes_alike, parts_alike}
use Rattle.cw_forms.proofs.Lists.{AllOf, wholes_made, locals_pairs}
use Rattle.cw_lemmas.proofs.Options.{option_map_none}
use Rattle.cw_source.proofs.Kept.{neither}

of_neither : (a b : Option DescriptorFault) → a ≡ None → b ≡ None → option_or a b ≡ None
of_neither a b e f = rw (e, f) refl

-- a place that no item has
position_none : (p q : PlainDescriptor → Bool) → ((x : PlainDescriptor) → p x ≡ false → q x ≡ false) → (i : ℕ) (xs : List PlainDescriptor) → position_from p i xs ≡ None → position_from q i xs ≡ None
position_none p q each i [] e = refl
position_none p q each i (x ∷ xs) e = by (p x) refl e (position_none p q each (i + 1) xs)
  where
    by : (b : Bool) → p x ≡ b → cond b (Some i) (position_from p (i + 1) xs) ≡ None → (position_from p (i + 1) xs ≡ None → position_from q (i + 1) xs ≡ None) → position_from q i (x ∷ xs) ≡ None
    by true is f rest = absurd (cc)
    by false is f rest = rw (each x is) (rest f)

module _ (source form : List ℕ) where
  abbrev SN : Name → Name → Type 0
  SN n m = SameName source form n m

  abbrev L : Tree → Tree → Type 0
  L x y = Alike source form x y

  -- ---- where variables are declared

  same_minus : (p : Op) (a b : ℕ) (q : Op) (a' b' : ℕ) → SameOp source form p a b q a' b' → is_minus q ≡ is_minus p
  same_minus p a b q a' b' h = same_read source form is_minus (λ n m. refl) p a b q a' b' h

  same_number : (m : ℕ) (p : Op) (a b : ℕ) (q : Op) (a' b' : ℕ) → SameOp source form p a b q a' b' → is_number m q ≡ is_number m p
  same_number m p a b q a' b' h = same_read source form (is_number m) (λ n k. refl) p a b q a' b' h

  minus_same : (t u : Tree) → L t u → is_minus_one u ≡ is_minus_one t
  minus_same (Node p none a b) (Node q none a' b') h = refl
  minus_same (Node p none a b) (Node q (more u us) a' b') h = absurd h.1
  minus_same (Node p (more t ts) a b) (Node q none a' b') h = absurd h.1
  minus_same (Node p (more (Node r xs i j) none) a b) (Node q (more (Node s ys i' j') none) a' b') h =
      rw (same_minus p a b q a' b' h.0, same_number 1 r i j s i' j' h.1.0.0) refl
  minus_same (Node p (more t none) a b) (Node q (more u (more v us)) a' b') h = absurd h.1.1
  minus_same (Node p (more t (more w ts)) a b) (Node q (more u none) a' b') h = absurd h.1.1
  minus_same (Node p (more t (more w ts)) a b) (Node q (more u (more v us)) a' b') h = refl

  start_same : (braces : Bool) (ts us : List Tree) → Pairs L ts us → is_start braces us ≡ is_start braces ts
  start_same braces [] [] h = refl
  start_same braces [] (u ∷ us) h = absurd h
  start_same braces (t ∷ ts) [] h = absurd h
  start_same braces (t ∷ []) (u ∷ []) h = ap (λ (b : Bool). not braces && b) (minus_same t u h.0)
  start_same braces (t ∷ []) (u ∷ (v ∷ us)) h = absurd h.1
  start_same braces (t ∷ (w ∷ ts)) (u ∷ []) h = absurd h.1
  start_same braces (t ∷ (w ∷ ts)) (u ∷ (v ∷ us)) h = refl

  none_same : {X Y : Type 0} (R : X → Y → Type 0) (a : Option X) (b : Option Y) → Both R a b → is_none b ≡ is_none a
  none_same R None None h = refl
  none_same R None (Some y) h = absurd h
  none_same R (Some x) None h = absurd h
  none_same R (Some x) (Some y) h = refl

  abbrev SameEntry : Entry → Entry → Type 0
  SameEntry e f = SN e.name f.name × (e.fits ≡ true → f.fits ≡ true)

  filtered : (name : List ℕ) (es fs : List Entry) → Pairs SameEntry es fs → Pairs SameEntry (filter (λ e. bytes_eq name (text source e.name)) es) (filter (λ e. bytes_eq name (text form e.name)) fs)
  filtered name [] [] h = tt
  filtered name [] (f ∷ fs) h = absurd h
  filtered name (e ∷ es) [] h = absurd h
  filtered name (e ∷ es) (f ∷ fs) h = by (bytes_eq name (text source e.name)) (bytes_eq name (text form f.name)) refl refl (ap (bytes_eq name) h.0.0) (filtered name es fs h.1)
    where
      by : (a b : Bool) → bytes_eq name (text source e.name) ≡ a → bytes_eq name (text form f.name) ≡ b → bytes_eq name (text form f.name) ≡ bytes_eq name (text source e.name)
          → Pairs SameEntry (filter (λ x. bytes_eq name (text source x.name)) es) (filter (λ x. bytes_eq name (text form x.name)) fs)
          → Pairs SameEntry (filter (λ x. bytes_eq name (text source x.name)) (e ∷ es)) (filter (λ x. bytes_eq name (text form x.name)) (f ∷ fs))
      by true true k l s rest = rw (k, l) (h.0, rest)
      by true false k l s rest = absurd cc
      by false true k l s rest = absurd cc
      by false false k l s rest = rw (k, l) rest

  one_stays : (es fs : List Entry) → Pairs SameEntry es fs → is_one es ≡ true → is_one fs ≡ true
  one_stays [] fs h e = absurd cc
  one_stays (x ∷ es) [] h e = absurd h
  one_stays (x ∷ []) (y ∷ []) h e = and_from y.fits true (h.0.1 (and_parts x.fits true e).0) refl
  one_stays (x ∷ []) (y ∷ (z ∷ fs)) h e = absurd h.1
  one_stays (x ∷ (w ∷ es)) (y ∷ fs) h e = absurd (let p = (and_parts x.fits false e).1 in cc)

  module _ (file made : File) (same : SameFile source form file made) where
    fits_stay : (k : ℕ) (d e : Declaration) (x y : Declared) → (e.external ≡ d.external) → (e.constant ≡ d.constant) → SameItem source form k x y
        → StaysBefore source form file.functions made.functions x y
        → may_be_variable file d x ≡ true → may_be_variable made e y ≡ true
    fits_stay k d e x y external constant (kind, name, array, init, braces) before h =
        let five = and_parts (not d.external && not d.constant && is_plain_int x.kind && is_none x.array && is_start x.braces (listed x.init)) (is_before x.name.from file.functions) h in
        let front : (not e.external && not e.constant && is_plain_int y.kind && is_none y.array && is_start y.braces (listed y.init))
        ≡ (not d.external && not d.constant && is_plain_int x.kind && is_none x.array && is_start x.braces (listed x.init)) =
        rw (external, constant, kind, none_same (Both L) x.array y.array array, braces, start_same x.braces (listed x.init) (listed y.init) (listed_pairs source form x.init y.init init)) refl in
        and_from (not e.external && not e.constant && is_plain_int y.kind && is_none y.array && is_start y.braces (listed y.init)) (is_before y.name.from made.functions) (front
        ∙ five.0) (before five.1)

    items_stay : (k : ℕ) (d e : Declaration) → (e.external ≡ d.external) → (e.constant ≡ d.constant) → (xs ys : List Declared) → Pairs (SameItem source form k) xs ys
        → Pairs (StaysBefore source form file.functions made.functions) xs ys
        → Pairs SameEntry (map (entry_in file d) xs) (map (entry_in made e) ys)
    items_stay k d e external constant [] [] h b = tt
    items_stay k d e external constant [] (y ∷ ys) h b = absurd h
    items_stay k d e external constant (x ∷ xs) [] h b = absurd h
    items_stay k d e external constant (x ∷ xs) (y ∷ ys) h b = ((h.0.1.0, fits_stay k d e x y external constant h.0 b.0), items_stay k d e external constant xs ys h.1 b.1)

    entries_stay : (ds es : List Declaration) → Pairs (λ x y. (d : ℕ) × SameDeclaration source form d x y) ds es → Pairs (StayBefore source form file.functions made.functions) ds es
        → Pairs SameEntry (flat_map (entries_of file) ds) (flat_map (entries_of made) es)
    entries_stay [] [] h b = tt
    entries_stay [] (e ∷ es) h b = absurd h
    entries_stay (d ∷ ds) [] h b = absurd h
    entries_stay (d ∷ ds) (e ∷ es) h b =
        pairs_both SameEntry (entries_of file d) (entries_of made e) _ _ (items_stay h.0.0 d e h.0.1.0 h.0.1.1 d.items e.items h.0.1.2 b.0) (entries_stay ds es h.1 b.1)

    declared_stays : (name : List ℕ) → is_declared source (entries file) name ≡ true → is_declared form (entries made) name ≡ true
    declared_stays name e = one_stays _ _ (filtered name (entries file) (entries made) (entries_stay file.globals made.globals same.globals same.before)) e

    undeclared_none : (ds : List PlainDescriptor) → first_undeclared source (entries file) ds ≡ None → first_undeclared form (entries made) ds ≡ None
    undeclared_none ds e = position_none (λ d. is_variable d && not (is_declared source (entries file) d.name)) (λ d. is_variable d && not (is_declared form (entries made) d.name)) each 0 ds e
      where
        by : (v b c : Bool) → (b ≡ true → c ≡ true) → (v && not b) ≡ false → (v && not c) ≡ false
        by false b c f e = refl
        by true true c f e = rw (f refl) refl
        by true false c f e = absurd cc

        each : (d : PlainDescriptor) → (is_variable d && not (is_declared source (entries file) d.name)) ≡ false → (is_variable d && not (is_declared form (entries made) d.name)) ≡ false
        each d e = by (is_variable d) (is_declared source (entries file) d.name) (is_declared form (entries made) d.name) (declared_stays d.name) e

    shadowed_same : (name : List ℕ) (ns ms : List Name) → Pairs SN ns ms → is_shadowed form ms name ≡ is_shadowed source ns name
    shadowed_same name [] [] h = refl
    shadowed_same name [] (m ∷ ms) h = absurd h
    shadowed_same name (n ∷ ns) [] h = absurd h
    shadowed_same name (n ∷ ns) (m ∷ ms) h = ap (λ (z : List ℕ). bytes_eq name z || is_shadowed form ms name) h.0
        ∙ ap (λ (b : Bool). bytes_eq name (text source n) || b) (shadowed_same name ns ms h.1)

    shadowed_none : (ds : List PlainDescriptor) → first_shadowed source (locals file) ds ≡ None → first_shadowed form (locals made) ds ≡ None
    shadowed_none ds e =
        position_none (λ d. is_variable d && is_shadowed source (locals file) d.name) (λ d. is_variable d && is_shadowed form (locals made) d.name)
        (λ d k. ap (λ (b : Bool). is_variable d && b) (shadowed_same d.name (locals file) (locals made) (locals_pairs source form file made same)) ∙ k) 0 ds e

    -- ---- how they are used

    module _ (names : Names) where
      abbrev s : Scene
      s = scene_of names source file

      abbrev r : Scene
      r = scene_of names form made

      names_same : (fs gs : List Definition) → Pairs (SameFunction source form) fs gs → map (λ f. text form f.name) gs ≡ map (λ f. text source f.name) fs
      names_same [] [] h = refl
      names_same [] (g ∷ gs) h = absurd h
      names_same (f ∷ fs) [] h = absurd h
      names_same (f ∷ fs) (g ∷ gs) h = rw (h.0.1.0, names_same fs gs h.1) refl

      functions_same : r.functions ≡ s.functions
      functions_same = names_same file.functions made.functions same.functions

      numbered : (f g : Name) → SN f g → number_in r.functions (text form g) ≡ number_in s.functions (text source f)
      numbered f g h = ap (number_in r.functions) h ∙ ap (λ (l : List (List ℕ)). number_in l (text source f)) functions_same

      -- the descriptor that an expression is
      descriptor_same : (t u : Tree) → L t u → descriptor_of r u ≡ descriptor_of s t
      descriptor_same (Node op.Name ts a b) (Node q us a' b') h = ap (λ (z : Op). descriptor_of r (Node z us a' b')) h.0.0 ∙ ap (number_in names.descriptors) h.0.1
      descriptor_same (Node (op.Call f) ts a b) (Node q us a' b') h = ap (λ (z : Op). descriptor_of r (Node z us a' b')) h.0.1
      descriptor_same (Node (op.Number n) ts a b) (Node q us a' b') h = ap (λ (z : Op). descriptor_of r (Node z us a' b')) h.0
      descriptor_same (Node (op.Char n) ts a b) (Node q us a' b') h = ap (λ (z : Op). descriptor_of r (Node z us a' b')) h.0
      descriptor_same (Node op.Text ts a b) (Node q us a' b') h = ap (λ (z : Op). descriptor_of r (Node z us a' b')) h.0
      descriptor_same (Node op.Index ts a b) (Node q us a' b') h = ap (λ (z : Op). descriptor_of r (Node z us a' b')) h.0
      descriptor_same (Node (op.Prefix n) ts a b) (Node q us a' b') h = ap (λ (z : Op). descriptor_of r (Node z us a' b')) h.0
      descriptor_same (Node (op.Suffix n) ts a b) (Node q us a' b') h = ap (λ (z : Op). descriptor_of r (Node z us a' b')) h.0
      descriptor_same (Node (op.Binary n) ts a b) (Node q us a' b') h = ap (λ (z : Op). descriptor_of r (Node z us a' b')) h.0
      descriptor_same (Node (op.Assign n) ts a b) (Node q us a' b') h = ap (λ (z : Op). descriptor_of r (Node z us a' b')) h.0
      descriptor_same (Node (op.Cast n) ts a b) (Node q us a' b') h = ap (λ (z : Op). descriptor_of r (Node z us a' b')) h.0
      descriptor_same (Node op.SizeOf ts a b) (Node q us a' b') h = ap (λ (z : Op). descriptor_of r (Node z us a' b')) h.0
      descriptor_same (Node (op.SizeOfType n) ts a b) (Node q us a' b') h = ap (λ (z : Op). descriptor_of r (Node z us a' b')) h.0

      variable_same : (t u : Tree) → L t u → names_variable r u ≡ names_variable s t
      variable_same (Node op.Name ts a b) (Node q us a' b') h = ap (λ (z : Op). names_variable r (Node z us a' b')) h.0.0 ∙ ap (λ (z : List ℕ). is_some (number_in names.descriptors z)) h.0.1
      variable_same (Node (op.Call f) ts a b) (Node q us a' b') h = ap (λ (z : Op). names_variable r (Node z us a' b')) h.0.1
      variable_same (Node (op.Number n) ts a b) (Node q us a' b') h = ap (λ (z : Op). names_variable r (Node z us a' b')) h.0
      variable_same (Node (op.Char n) ts a b) (Node q us a' b') h = ap (λ (z : Op). names_variable r (Node z us a' b')) h.0
      variable_same (Node op.Text ts a b) (Node q us a' b') h = ap (λ (z : Op). names_variable r (Node z us a' b')) h.0
      variable_same (Node op.Index ts a b) (Node q us a' b') h = ap (λ (z : Op). names_variable r (Node z us a' b')) h.0
      variable_same (Node (op.Prefix n) ts a b) (Node q us a' b') h = ap (λ (z : Op). names_variable r (Node z us a' b')) h.0
      variable_same (Node (op.Suffix n) ts a b) (Node q us a' b') h = ap (λ (z : Op). names_variable r (Node z us a' b')) h.0
      variable_same (Node (op.Binary n) ts a b) (Node q us a' b') h = ap (λ (z : Op). names_variable r (Node z us a' b')) h.0
      variable_same (Node (op.Assign n) ts a b) (Node q us a' b') h = ap (λ (z : Op). names_variable r (Node z us a' b')) h.0
      variable_same (Node (op.Cast n) ts a b) (Node q us a' b') h = ap (λ (z : Op). names_variable r (Node z us a' b')) h.0
      variable_same (Node op.SizeOf ts a b) (Node q us a' b') h = ap (λ (z : Op). names_variable r (Node z us a' b')) h.0
      variable_same (Node (op.SizeOfType n) ts a b) (Node q us a' b') h = ap (λ (z : Op). names_variable r (Node z us a' b')) h.0

      first_same : (ts us : Trees) → AllAlike source form ts us → first_is_variable r us ≡ first_is_variable s ts
      first_same none none h = refl
      first_same none (more u us) h = absurd h
      first_same (more t ts) none h = absurd h
      first_same (more t ts) (more u us) h = variable_same t u h.0

      some_same : (ts us : List Tree) → Pairs L ts us → list_any (λ t. is_some (descriptor_of r t)) us ≡ list_any (λ t. is_some (descriptor_of s t)) ts
      some_same [] [] h = refl
      some_same [] (u ∷ us) h = absurd h
      some_same (t ∷ ts) [] h = absurd h
      some_same (t ∷ ts) (u ∷ us) h =
          ap (λ (o : Option ℕ). is_some o || list_any (λ x. is_some (descriptor_of r x)) us) (descriptor_same t u h.0) ∙ ap (λ (b : Bool). is_some (descriptor_of s t) || b) (some_same ts us h.1)

      moved_place : (b c : Bool) (p q : ℕ) → c ≡ b → at_if b p ≡ None → at_if c q ≡ None
      moved_place b c p q same e = place_none c q (same ∙ no_place b p e)

      misuse_none : (t u : Tree) → L t u → misuse s t ≡ None → misuse r u ≡ None
      misuse_none (Node (op.Assign n) ts a b) (Node q us a' b') h e =
          ap (λ (z : Op). misuse r (Node z us a' b')) h.0 ∙ moved_place (first_is_variable s ts) (first_is_variable r us) a a' (first_same ts us h.1) e
      misuse_none (Node (op.Prefix n) ts a b) (Node q us a' b') h e =
          ap (λ (z : Op). misuse r (Node z us a' b')) h.0
          ∙ moved_place (is_change n && first_is_variable s ts) (is_change n && first_is_variable r us) a a' (ap (λ (b : Bool). is_change n && b) (first_same ts us h.1)) e
      misuse_none (Node (op.Suffix n) ts a b) (Node q us a' b') h e =
          ap (λ (z : Op). misuse r (Node z us a' b')) h.0 ∙ moved_place (first_is_variable s ts) (first_is_variable r us) a a' (first_same ts us h.1) e
      misuse_none (Node (op.Call f) ts a b) (Node q us a' b') h e =
          let g = h.0.0 in
          let name : bytes_eq (text form g) (codes "close") ≡ bytes_eq (text source f) (codes "close") = ap (λ (z : List ℕ). bytes_eq z (codes "close")) h.0.2 in
          let some : names_some r us ≡ names_some s ts = some_same (listed ts) (listed us) (listed_pairs source form ts us h.1) in
          ap (λ (z : Op). misuse r (Node z us a' b')) h.0.1
          ∙ moved_place (bytes_eq (text source f) (codes "close") && names_some s ts) (bytes_eq (text form g) (codes "close") && names_some r us) a a' (rw (name, some) refl) e
      misuse_none (Node op.Name ts a b) (Node q us a' b') h e = ap (λ (z : Op). misuse r (Node z us a' b')) h.0.0
      misuse_none (Node (op.Number n) ts a b) (Node q us a' b') h e = ap (λ (z : Op). misuse r (Node z us a' b')) h.0
      misuse_none (Node (op.Char n) ts a b) (Node q us a' b') h e = ap (λ (z : Op). misuse r (Node z us a' b')) h.0
      misuse_none (Node op.Text ts a b) (Node q us a' b') h e = ap (λ (z : Op). misuse r (Node z us a' b')) h.0
      misuse_none (Node op.Index ts a b) (Node q us a' b') h e = ap (λ (z : Op). misuse r (Node z us a' b')) h.0
      misuse_none (Node (op.Binary n) ts a b) (Node q us a' b') h e = ap (λ (z : Op). misuse r (Node z us a' b')) h.0
      misuse_none (Node (op.Cast n) ts a b) (Node q us a' b') h e = ap (λ (z : Op). misuse r (Node z us a' b')) h.0
      misuse_none (Node op.SizeOf ts a b) (Node q us a' b') h e = ap (λ (z : Op). misuse r (Node z us a' b')) h.0
      misuse_none (Node (op.SizeOfType n) ts a b) (Node q us a' b') h e = ap (λ (z : Op). misuse r (Node z us a' b')) h.0

      -- an open or a close
      own_closes : (a b : Option ℕ) → b ≡ a → is_own (closes_if b) ≡ is_own (closes_if a)
      own_closes a b e = ap (λ (z : Option ℕ). is_own (closes_if z)) e

      closed_same : (name : List ℕ) (ts us : Trees) → AllAlike source form ts us → is_own (closed_by r name us) ≡ is_own (closed_by s name ts)
      closed_same name none none h = refl
      closed_same name none (more u us) h = absurd h
      closed_same name (more t ts) none h = absurd h
      closed_same name (more t none) (more u none) h = by (bytes_eq name (codes "close"))
        where
          by : (b : Bool) → is_own (cond b (closes_if (descriptor_of r u)) Computes) ≡ is_own (cond b (closes_if (descriptor_of s t)) Computes)
          by true = own_closes (descriptor_of s t) (descriptor_of r u) (descriptor_same t u h.0)
          by false = refl
      closed_same name (more t none) (more u (more v us)) h = absurd h.1
      closed_same name (more t (more w ts)) (more u none) h = absurd h.1
      closed_same name (more t (more w ts)) (more u (more v us)) h = refl

      call_same : (name : List ℕ) (ts us : Trees) (o : Option ℕ) → AllAlike source form ts us → is_own (call_action r name us o) ≡ is_own (call_action s name ts o)
      call_same name ts us (Some n) h = refl
      call_same name ts us None h = closed_same name ts us h

      assigned_same : (x y : Name) (name : List ℕ) (o : Option ℕ) → SN x y → is_own (assigned_action r y name o) ≡ is_own (assigned_action s x name o)
      assigned_same x y name (Some n) h = refl
      assigned_same x y name None h = ap (λ (z : List ℕ). is_own (opens_if (number_in names.descriptors z))) h

      abbrev acts : Scene → Bool → Option Name → ℕ → ℕ → Action
      acts c true (Some f) i j = assigned_action c (record { from = i; to = j }) (text c.source f) (number_in c.functions (text c.source f))
      acts c true None i j = Computes
      acts c false o i j = Computes

      acts_by : (c : Scene) (p q : Op) (xs ts : Trees) (i j k l a b : ℕ)
          → action_of c (Node (op.Assign 0) (more (Node p xs i j) (more (Node q ts k l) none)) a b) ≡ acts c (is_name_op p) (call_of q) i j
      acts_by c op.Name (op.Call f) xs ts i j k l a b = refl
      acts_by c op.Name _ xs ts i j k l a b = refl
      acts_by c _ q xs ts i j k l a b = refl

      no_acts_one : (c : Scene) (x : Tree) (a b : ℕ) → action_of c (Node (op.Assign 0) (more x none) a b) ≡ Computes
      no_acts_one c (Node op.Name xs i j) a b = refl
      no_acts_one c (Node _ xs i j) a b = refl

      no_acts_three : (c : Scene) (x y z : Tree) (ts : Trees) (a b : ℕ) → action_of c (Node (op.Assign 0) (more x (more y (more z ts))) a b) ≡ Computes
      no_acts_three c (Node op.Name xs i j) (Node (op.Call f) cs k l) z ts a b = refl
      no_acts_three c (Node op.Name xs i j) (Node _ cs k l) z ts a b = refl
      no_acts_three c (Node _ xs i j) y z ts a b = refl

      acts_called : (x y : Name) (f g : Option Name) → SN x y → Both SN f g → is_own (acts r true g y.from y.to) ≡ is_own (acts s true f x.from x.to)
      acts_called x y None None h k = refl
      acts_called x y None (Some g) h k = absurd k
      acts_called x y (Some f) None h k = absurd k
      acts_called x y (Some f) (Some g) h k =
          ap (λ (o : Option ℕ). is_own (assigned_action r y (text form g) o)) (numbered f g k)
          ∙ ap (λ (z : List ℕ). is_own (assigned_action r y z (number_in s.functions (text source f)))) k
          ∙ assigned_same x y (text source f) (number_in s.functions (text source f)) h

      acts_same : (p : Op) (i j : ℕ) (p' : Op) (i' j' : ℕ) (f g : Option Name) → SameOp source form p i j p' i' j' → Both SN f g
          → is_own (acts r (is_name_op p') g i' j') ≡ is_own (acts s (is_name_op p) f i j)
      acts_same op.Name i j p' i' j' f g h k = ap (λ (z : Op). is_own (acts r (is_name_op z) g i' j')) h.0 ∙ acts_called (record { from = i; to = j }) (record { from = i'; to = j' }) f g h.1 k
      acts_same (op.Call x) i j p' i' j' f g h k = ap (λ (z : Op). is_own (acts r (is_name_op z) g i' j')) h.1
      acts_same (op.Number n) i j p' i' j' f g h k = ap (λ (z : Op). is_own (acts r (is_name_op z) g i' j')) h
      acts_same (op.Char n) i j p' i' j' f g h k = ap (λ (z : Op). is_own (acts r (is_name_op z) g i' j')) h
      acts_same op.Text i j p' i' j' f g h k = ap (λ (z : Op). is_own (acts r (is_name_op z) g i' j')) h
      acts_same op.Index i j p' i' j' f g h k = ap (λ (z : Op). is_own (acts r (is_name_op z) g i' j')) h
      acts_same (op.Prefix n) i j p' i' j' f g h k = ap (λ (z : Op). is_own (acts r (is_name_op z) g i' j')) h
      acts_same (op.Suffix n) i j p' i' j' f g h k = ap (λ (z : Op). is_own (acts r (is_name_op z) g i' j')) h
      acts_same (op.Binary n) i j p' i' j' f g h k = ap (λ (z : Op). is_own (acts r (is_name_op z) g i' j')) h
      acts_same (op.Assign n) i j p' i' j' f g h k = ap (λ (z : Op). is_own (acts r (is_name_op z) g i' j')) h
      acts_same (op.Cast n) i j p' i' j' f g h k = ap (λ (z : Op). is_own (acts r (is_name_op z) g i' j')) h
      acts_same op.SizeOf i j p' i' j' f g h k = ap (λ (z : Op). is_own (acts r (is_name_op z) g i' j')) h
      acts_same (op.SizeOfType n) i j p' i' j' f g h k = ap (λ (z : Op). is_own (acts r (is_name_op z) g i' j')) h

      assign_own : (n a b a' b' : ℕ) (ts us : Trees) → AllAlike source form ts us → is_own (action_of r (Node (op.Assign n) us a' b')) ≡ is_own (action_of s (Node (op.Assign n) ts a b))
      assign_own (suc n) a b a' b' ts us h = refl
      assign_own zero a b a' b' none none h = refl
      assign_own zero a b a' b' none (more u us) h = absurd h
      assign_own zero a b a' b' (more t ts) none h = absurd h
      assign_own zero a b a' b' (more t none) (more u none) h = ap is_own (no_acts_one r u a' b' ∙ sym (no_acts_one s t a b))
      assign_own zero a b a' b' (more t none) (more u (more v us)) h = absurd h.1
      assign_own zero a b a' b' (more t (more c ts)) (more u none) h = absurd h.1
      assign_own zero a b a' b' (more (Node p xs i j) (more (Node q cs k l) none)) (more (Node p' xs' i' j') (more (Node q' cs' k' l') none)) h =
          ap is_own (acts_by r p' q' xs' cs' i' j' k' l' a' b')
          ∙ acts_same p i j p' i' j' (call_of q) (call_of q') h.0.0 (same_call source form q k l q' k' l' h.1.0.0)
          ∙ ap is_own (sym (acts_by s p q xs cs i j k l a b))
      assign_own zero a b a' b' (more x (more c none)) (more x' (more c' (more d us))) h = absurd h.1.1
      assign_own zero a b a' b' (more x (more c (more d ts))) (more x' (more c' none)) h = absurd h.1.1
      assign_own zero a b a' b' (more x (more c (more d ts))) (more x' (more c' (more d' us))) h = ap is_own (no_acts_three r x' c' d' us a' b' ∙ sym (no_acts_three s x c d ts a b))

      own_same : (t u : Tree) → L t u → is_own (action_of r u) ≡ is_own (action_of s t)
      own_same (Node (op.Call f) ts a b) (Node q us a' b') h =
          let g = h.0.0 in
          ap (λ (z : Op). is_own (action_of r (Node z us a' b'))) h.0.1
          ∙ ap (λ (o : Option ℕ). is_own (call_action r (text form g) us o)) (numbered f g h.0.2)
          ∙ ap (λ (z : List ℕ). is_own (call_action r z us (number_in s.functions (text source f)))) h.0.2
          ∙ call_same (text source f) ts us (number_in s.functions (text source f)) h.1
      own_same (Node (op.Assign n) ts a b) (Node q us a' b') h = ap (λ (z : Op). is_own (action_of r (Node z us a' b'))) h.0 ∙ assign_own n a b a' b' ts us h.1
      own_same (Node op.Name ts a b) (Node q us a' b') h = ap (λ (z : Op). is_own (action_of r (Node z us a' b'))) h.0.0
      own_same (Node (op.Number n) ts a b) (Node q us a' b') h = ap (λ (z : Op). is_own (action_of r (Node z us a' b'))) h.0
      own_same (Node (op.Char n) ts a b) (Node q us a' b') h = ap (λ (z : Op). is_own (action_of r (Node z us a' b'))) h.0
      own_same (Node op.Text ts a b) (Node q us a' b') h = ap (λ (z : Op). is_own (action_of r (Node z us a' b'))) h.0
      own_same (Node op.Index ts a b) (Node q us a' b') h = ap (λ (z : Op). is_own (action_of r (Node z us a' b'))) h.0
      own_same (Node (op.Prefix n) ts a b) (Node q us a' b') h = ap (λ (z : Op). is_own (action_of r (Node z us a' b'))) h.0
      own_same (Node (op.Suffix n) ts a b) (Node q us a' b') h = ap (λ (z : Op). is_own (action_of r (Node z us a' b'))) h.0
      own_same (Node (op.Binary n) ts a b) (Node q us a' b') h = ap (λ (z : Op). is_own (action_of r (Node z us a' b'))) h.0
      own_same (Node (op.Cast n) ts a b) (Node q us a' b') h = ap (λ (z : Op). is_own (action_of r (Node z us a' b'))) h.0
      own_same (Node op.SizeOf ts a b) (Node q us a' b') h = ap (λ (z : Op). is_own (action_of r (Node z us a' b'))) h.0
      own_same (Node (op.SizeOfType n) ts a b) (Node q us a' b') h = ap (λ (z : Op). is_own (action_of r (Node z us a' b'))) h.0

      abbrev Clean : Scene → Whole → Type 0
      Clean c w = NoneAll (misuse c) (used c w)

      clean_same : (w v : Whole) → SameWhole source form w v → Clean s w → Clean r v
      clean_same w v h k =
          by (w.stands && is_own (action_of s w.tree)) (v.stands && is_own (action_of r v.tree)) refl refl (rw (h.1, own_same w.tree v.tree h.0) refl) k
        where
          by : (b c : Bool) → (w.stands && is_own (action_of s w.tree)) ≡ b → (v.stands && is_own (action_of r v.tree)) ≡ c → c ≡ b
              → NoneAll (misuse s) (cond b (nodes_in (parts_of w.tree)) (nodes w.tree)) → NoneAll (misuse r) (cond c (nodes_in (parts_of v.tree)) (nodes v.tree))
          by true true e f g n = none_pairs L (misuse s) (misuse r) misuse_none _ _ (parts_alike source form w.tree v.tree h.0) n
          by true false e f g n = absurd cc
          by false true e f g n = absurd cc
          by false false e f g n = none_pairs L (misuse s) (misuse r) misuse_none _ _ (nodes_alike source form w.tree v.tree h.0) n

      clean_fork : (t : Tree) → IsFork source form t → Clean r (inner t)
      clean_fork t (f, a, b, c, d, is, e) =
          subst (λ (z : Tree). Clean r (inner z)) (sym is) (refl, (place_none (bytes_eq (text form f) (codes "close") && false) a (ap (λ (z : List ℕ). bytes_eq z (codes "close") && false) e), tt))

      exit_clean : (f : Name) (a b c d : ℕ) → text form f ≡ codes "_exit" → (o : Option ℕ) → number_in r.functions (text form f) ≡ o
          → Clean r (standing (Node (op.Call f) (more (Node (op.Number 0) none a b) none) c d))
      exit_clean f a b c d e o is =
          let name : bytes_eq (text form f) (codes "close") ≡ false = ap (λ (z : List ℕ). bytes_eq z (codes "close")) e in
          let own : is_own (action_of r (Node (op.Call f) (more (Node (op.Number 0) none a b) none) c d)) ≡ false = by o is name in
          rw own (
            place_none (bytes_eq (text form f) (codes "close") && names_some r (more (Node (op.Number 0) none a b) none)) c (ap (λ (x : Bool). x && names_some r (more (Node
                (op.Number 0) none a b) none)) name),
            (refl, tt),
          )
        where
          by : (o : Option ℕ) → number_in r.functions (text form f) ≡ o → bytes_eq (text form f) (codes "close") ≡ false
              → is_own (call_action r (text form f) (more (Node (op.Number 0) none a b) none) (number_in r.functions (text form f))) ≡ false
          by (Some n) is name = rw is refl
          by None is name = rw is (rw name refl)

      clean_exit : (t : Tree) → IsExit source form t → Clean r (standing t)
      clean_exit t (f, a, b, c, d, is, e) = subst (λ (z : Tree). Clean r (standing z)) (sym is) (exit_clean f a b c d e (number_in r.functions (text form f)) refl)

      each_clean : (c : Scene) (ws : List Whole) → NoneAll (misuse c) (flat_map (used c) ws) → AllOf (Clean c) ws
      each_clean c [] h = tt
      each_clean c (w ∷ ws) h = let both = none_split (misuse c) (used c w) (flat_map (used c) ws) h in (both.0, each_clean c ws both.1)

      all_clean : (c : Scene) (ws : List Whole) → AllOf (Clean c) ws → NoneAll (misuse c) (flat_map (used c) ws)
      all_clean c [] h = tt
      all_clean c (w ∷ ws) h = none_join (misuse c) (used c w) (flat_map (used c) ws) h.0 (all_clean c ws h.1)

      misuses_none : least_misuse s file ≡ None → least_misuse r made ≡ None
      misuses_none e =
          of_none (misuse r) (flat_map (used r) (every_whole made))
          (all_clean r (every_whole made) (wholes_made source form (Clean s) (Clean r) clean_same clean_fork clean_exit file made same
          (each_clean s (every_whole file) (none_of (misuse s) (flat_map (used s) (every_whole file)) e))))

    pub descriptors_kept : (policy : PlainPolicy) → descriptor_fault source file policy ≡ None → descriptor_fault form made policy ≡ None
    descriptors_kept policy e =
        let both = neither (option_or (option_map NoVariable (first_undeclared source (entries file) policy.descriptors)) (option_map Shadowed (first_shadowed source
        (locals file) policy.descriptors)))
        (option_map Misuse (least_misuse (scene_under policy source file) file)) e in
        let two = neither (option_map NoVariable (first_undeclared source (entries file) policy.descriptors)) (option_map Shadowed (first_shadowed source (locals file) policy.descriptors)) both.0 in
        of_neither _ _
        (of_neither _ _
        (ap (option_map NoVariable) (undeclared_none policy.descriptors (option_map_none NoVariable (first_undeclared source (entries file) policy.descriptors) two.0)))
        (ap (option_map Shadowed) (shadowed_none policy.descriptors (option_map_none Shadowed (first_shadowed source (locals file) policy.descriptors) two.1))))
        (ap (option_map Misuse) (misuses_none (names_of policy) (option_map_none Misuse (least_misuse (scene_under policy source file) file) both.1)))
