-- Trees that are alike have alike trees in them, and call functions of one name.
use Rattle.std.proofs.Common.{◌≡◌, ℕ, zero, suc, ◌+◌, Bool, true, false, cond, ◌&&◌, is_some, List, [], ◌∷◌, ◌++◌, map, length, Option, None, Some, slice_get, refl, sym, ap, subst, ◌∙◌, arith}
use Rattle.std.specs.List.{filter_map, list_any}
use Rattle.cw_syntax.specs.declared.program.Name.{Name}
use Rattle.cw_syntax.specs.declared.program.Op.{Op}
use Rattle.cw_syntax.specs.declared.program.Op.TheVariants as op
use Rattle.cw_syntax.specs.Trees.{Tree, Node, Trees, none, more, parts_of, count}
use Rattle.cw_scope.specs.Walks.{nodes, nodes_in}
use Rattle.cw_scope.specs.Names.{plain_name, called_name}
use Rattle.cw_scope.specs.Rules.{at_if, is_call, call_if, statement_call}
use Rattle.cw_resolve.specs.Soonest.{soonest}
use Rattle.cw_source.proofs.Landing.{neither}
use Rattle.cw_forms.specs.Moved.{Pairs, SameName, SameOp, Alike, AllAlike}
use Rattle.cw_forms.specs.Declared.{Both}
use Rattle.cw_forms.proofs.Observed.{pairs_both}

-- ---- no place

abbrev pub NoneAll : {X : Type 0} → (X → Option ℕ) → List X → Type 0
NoneAll f [] = Unit {0}
NoneAll f (x ∷ xs) = (f x ≡ None) × NoneAll f xs

pub none_of : {X : Type 0} (f : X → Option ℕ) (xs : List X) → soonest (map f xs) ≡ None → NoneAll f xs
none_of f [] e = tt
none_of f (x ∷ xs) e = let both = neither (f x) (soonest (map f xs)) e in (both.0, none_of f xs both.1)

pub of_none : {X : Type 0} (f : X → Option ℕ) (xs : List X) → NoneAll f xs → soonest (map f xs) ≡ None
of_none f [] h = refl
of_none f (x ∷ xs) h = rw h.0 (of_none f xs h.1)

pub none_split : {X : Type 0} (f : X → Option ℕ) (xs ys : List X) → NoneAll f (xs ++ ys) → NoneAll f xs × NoneAll f ys
none_split f [] ys h = (tt, h)
none_split f (x ∷ xs) ys h = let both = none_split f xs ys h.1 in ((h.0, both.0), both.1)

pub none_join : {X : Type 0} (f : X → Option ℕ) (xs ys : List X) → NoneAll f xs → NoneAll f ys → NoneAll f (xs ++ ys)
none_join f [] ys h k = k
none_join f (x ∷ xs) ys h k = (h.0, none_join f xs ys h.1 k)

pub none_pairs : {X Y : Type 0} (R : X → Y → Type 0) (f : X → Option ℕ) (g : Y → Option ℕ) → ((x : X) (y : Y) → R x y → f x ≡ None → g y ≡ None) → (xs : List X) (ys : List Y)
    → Pairs R xs ys → NoneAll f xs → NoneAll g ys
none_pairs R f g each [] [] h k = tt
none_pairs R f g each [] (y ∷ ys) h k = absurd h
none_pairs R f g each (x ∷ xs) [] h k = absurd h
none_pairs R f g each (x ∷ xs) (y ∷ ys) h k = (each x y h.0 k.0, none_pairs R f g each xs ys h.1 k.1)

pub no_place : (b : Bool) (p : ℕ) → at_if b p ≡ None → b ≡ false
no_place true p e = absurd cc
no_place false p e = refl

pub place_none : (b : Bool) (p : ℕ) → b ≡ false → at_if b p ≡ None
place_none b p e = rw e refl

-- ---- operators

abbrev pub call_of : Op → Option Name
call_of (op.Call f) = Some f
call_of _ = None

abbrev pub is_name_op : Op → Bool
is_name_op op.Name = true
is_name_op _ = false

abbrev pub if_called : Option Name → (Name → Bool) → ℕ → Option ℕ
if_called None test place = None
if_called (Some f) test place = at_if (test f) place

pub call_if_by : (test : Name → Bool) (p : Op) (ts : Trees) (a b : ℕ) → call_if test (Node p ts a b) ≡ if_called (call_of p) test a
call_if_by test (op.Call f) ts a b = refl
call_if_by test _ ts a b = refl

pub is_call_by : (p : Op) (ts : Trees) (a b : ℕ) → is_call (Node p ts a b) ≡ is_some (call_of p)
is_call_by (op.Call f) ts a b = refl
is_call_by _ ts a b = refl

pub called_by : (p : Op) (ts : Trees) (a b : ℕ) → called_name (Node p ts a b) ≡ call_of p
called_by (op.Call f) ts a b = refl
called_by _ ts a b = refl

abbrev pub name_at : Bool → ℕ → ℕ → Option Name
name_at true a b = Some (record { from = a; to = b })
name_at false a b = None

pub plain_by : (p : Op) (ts : Trees) (a b : ℕ) → plain_name (Node p ts a b) ≡ name_at (is_name_op p) a b
plain_by op.Name ts a b = refl
plain_by _ ts a b = refl

-- `x = f(..)` with x a plain name
abbrev pub assigned : Bool → Tree → Option Tree
assigned named (Node p ts a b) = cond (named && is_some (call_of p)) (Some (Node p ts a b)) None

pub assigned_by : (x q : Op) (xs ts : Trees) (a b c d from to : ℕ)
    → statement_call (Node (op.Assign 0) (more (Node x xs a b) (more (Node q ts c d) none)) from to) ≡ assigned (is_name_op x) (Node q ts c d)
assigned_by op.Name (op.Call f) xs ts a b c d from to = refl
assigned_by op.Name _ xs ts a b c d from to = refl
assigned_by _ q xs ts a b c d from to = refl

module _ (source form : List ℕ) where
  abbrev L : Tree → Tree → Type 0
  L x y = Alike source form x y

  pub same_call : (p : Op) (a b : ℕ) (q : Op) (a' b' : ℕ) → SameOp source form p a b q a' b' → Both (SameName source form) (call_of p) (call_of q)
  same_call op.Name a b q a' b' h = subst (λ (z : Op). Both (SameName source form) None (call_of z)) (sym h.0) tt
  same_call (op.Call f) a b q a' b' h = subst (λ (z : Op). Both (SameName source form) (Some f) (call_of z)) (sym h.1) h.2
  same_call (op.Number n) a b q a' b' h = subst (λ (z : Op). Both (SameName source form) None (call_of z)) (sym h) tt
  same_call (op.Char n) a b q a' b' h = subst (λ (z : Op). Both (SameName source form) None (call_of z)) (sym h) tt
  same_call op.Text a b q a' b' h = subst (λ (z : Op). Both (SameName source form) None (call_of z)) (sym h) tt
  same_call op.Index a b q a' b' h = subst (λ (z : Op). Both (SameName source form) None (call_of z)) (sym h) tt
  same_call (op.Prefix n) a b q a' b' h = subst (λ (z : Op). Both (SameName source form) None (call_of z)) (sym h) tt
  same_call (op.Suffix n) a b q a' b' h = subst (λ (z : Op). Both (SameName source form) None (call_of z)) (sym h) tt
  same_call (op.Binary n) a b q a' b' h = subst (λ (z : Op). Both (SameName source form) None (call_of z)) (sym h) tt
  same_call (op.Assign n) a b q a' b' h = subst (λ (z : Op). Both (SameName source form) None (call_of z)) (sym h) tt
  same_call (op.Cast n) a b q a' b' h = subst (λ (z : Op). Both (SameName source form) None (call_of z)) (sym h) tt
  same_call op.SizeOf a b q a' b' h = subst (λ (z : Op). Both (SameName source form) None (call_of z)) (sym h) tt
  same_call (op.SizeOfType n) a b q a' b' h = subst (λ (z : Op). Both (SameName source form) None (call_of z)) (sym h) tt

  -- what is read off an operator, and not off the name of a call, is the same of both
  pub same_read : {A : Type 0} (f : Op → A) → ((n m : Name) → f (op.Call m) ≡ f (op.Call n)) → (p : Op) (a b : ℕ) (q : Op) (a' b' : ℕ) → SameOp source form p a b q a' b' → f q ≡ f p
  same_read f calls op.Name a b q a' b' h = ap f h.0
  same_read f calls (op.Call n) a b q a' b' h = ap f h.1 ∙ calls n h.0
  same_read f calls (op.Number n) a b q a' b' h = ap f h
  same_read f calls (op.Char n) a b q a' b' h = ap f h
  same_read f calls op.Text a b q a' b' h = ap f h
  same_read f calls op.Index a b q a' b' h = ap f h
  same_read f calls (op.Prefix n) a b q a' b' h = ap f h
  same_read f calls (op.Suffix n) a b q a' b' h = ap f h
  same_read f calls (op.Binary n) a b q a' b' h = ap f h
  same_read f calls (op.Assign n) a b q a' b' h = ap f h
  same_read f calls (op.Cast n) a b q a' b' h = ap f h
  same_read f calls op.SizeOf a b q a' b' h = ap f h
  same_read f calls (op.SizeOfType n) a b q a' b' h = ap f h

  same_is_name : (p : Op) (a b : ℕ) (q : Op) (a' b' : ℕ) → SameOp source form p a b q a' b' → is_name_op q ≡ is_name_op p
  same_is_name p a b q a' b' h = same_read is_name_op (λ n m. refl) p a b q a' b' h

  pub same_plain : (p : Op) (a b : ℕ) (q : Op) (a' b' : ℕ) → SameOp source form p a b q a' b' → Both (SameName source form) (name_at (is_name_op p) a b) (name_at (is_name_op q) a' b')
  same_plain op.Name a b q a' b' h = subst (λ (z : Op). Both (SameName source form) (Some (record { from = a; to = b })) (name_at (is_name_op z) a' b')) (sym h.0) h.1
  same_plain (op.Call f) a b q a' b' h = subst (λ (z : Op). Both (SameName source form) None (name_at (is_name_op z) a' b')) (sym h.1) tt
  same_plain (op.Number n) a b q a' b' h = subst (λ (z : Op). Both (SameName source form) None (name_at (is_name_op z) a' b')) (sym h) tt
  same_plain (op.Char n) a b q a' b' h = subst (λ (z : Op). Both (SameName source form) None (name_at (is_name_op z) a' b')) (sym h) tt
  same_plain op.Text a b q a' b' h = subst (λ (z : Op). Both (SameName source form) None (name_at (is_name_op z) a' b')) (sym h) tt
  same_plain op.Index a b q a' b' h = subst (λ (z : Op). Both (SameName source form) None (name_at (is_name_op z) a' b')) (sym h) tt
  same_plain (op.Prefix n) a b q a' b' h = subst (λ (z : Op). Both (SameName source form) None (name_at (is_name_op z) a' b')) (sym h) tt
  same_plain (op.Suffix n) a b q a' b' h = subst (λ (z : Op). Both (SameName source form) None (name_at (is_name_op z) a' b')) (sym h) tt
  same_plain (op.Binary n) a b q a' b' h = subst (λ (z : Op). Both (SameName source form) None (name_at (is_name_op z) a' b')) (sym h) tt
  same_plain (op.Assign n) a b q a' b' h = subst (λ (z : Op). Both (SameName source form) None (name_at (is_name_op z) a' b')) (sym h) tt
  same_plain (op.Cast n) a b q a' b' h = subst (λ (z : Op). Both (SameName source form) None (name_at (is_name_op z) a' b')) (sym h) tt
  same_plain op.SizeOf a b q a' b' h = subst (λ (z : Op). Both (SameName source form) None (name_at (is_name_op z) a' b')) (sym h) tt
  same_plain (op.SizeOfType n) a b q a' b' h = subst (λ (z : Op). Both (SameName source form) None (name_at (is_name_op z) a' b')) (sym h) tt

  -- ---- trees

  mutual
    pub nodes_alike : (t u : Tree) → L t u → Pairs L (nodes t) (nodes u)
    nodes_alike (Node p ts a b) (Node q us a' b') h = (h, nodes_in_alike ts us h.1)

    pub nodes_in_alike : (ts us : Trees) → AllAlike source form ts us → Pairs L (nodes_in ts) (nodes_in us)
    nodes_in_alike none none h = tt
    nodes_in_alike none (more u us) h = absurd h
    nodes_in_alike (more t ts) none h = absurd h
    nodes_in_alike (more t ts) (more u us) h = pairs_both L (nodes t) (nodes u) (nodes_in ts) (nodes_in us) (nodes_alike t u h.0) (nodes_in_alike ts us h.1)

  pub parts_alike : (t u : Tree) → L t u → Pairs L (nodes_in (parts_of t)) (nodes_in (parts_of u))
  parts_alike (Node p ts a b) (Node q us a' b') h = nodes_in_alike ts us h.1

  pub counts_alike : (ts us : Trees) → AllAlike source form ts us → count us ≡ count ts
  counts_alike none none h = refl
  counts_alike none (more u us) h = absurd h
  counts_alike (more t ts) none h = absurd h
  counts_alike (more t ts) (more u us) h = ap (λ (n : ℕ). n + 1) (counts_alike ts us h.1)

  pub both_some : {X Y : Type 0} (R : X → Y → Type 0) (a : Option X) (b : Option Y) → Both R a b → is_some b ≡ is_some a
  both_some R None None h = refl
  both_some R None (Some y) h = absurd h
  both_some R (Some x) None h = absurd h
  both_some R (Some x) (Some y) h = refl

  pub is_call_alike : (t u : Tree) → L t u → is_call u ≡ is_call t
  is_call_alike (Node p ts a b) (Node q us a' b') h =
      is_call_by q us a' b' ∙ both_some (SameName source form) (call_of p) (call_of q) (same_call p a b q a' b' h.0) ∙ sym (is_call_by p ts a b)

  pub any_calls_alike : (ts us : List Tree) → Pairs L ts us → list_any is_call us ≡ list_any is_call ts
  any_calls_alike [] [] h = refl
  any_calls_alike [] (u ∷ us) h = absurd h
  any_calls_alike (t ∷ ts) [] h = absurd h
  any_calls_alike (t ∷ ts) (u ∷ us) h = rw (is_call_alike t u h.0, any_calls_alike ts us h.1) refl

  -- a test of the name that is called, which says the same of names with the same bytes
  module _ (test other : Name → Bool) (same : (n m : Name) → SameName source form n m → other m ≡ test n) where
    if_called_some : (f g : Option Name) (a a' : ℕ) → Both (SameName source form) f g → is_some (if_called g other a') ≡ is_some (if_called f test a)
    if_called_some None None a a' h = refl
    if_called_some None (Some g) a a' h = absurd h
    if_called_some (Some f) None a a' h = absurd h
    if_called_some (Some f) (Some g) a a' h = rw (same f g h) (by (test f))
      where
        by : (b : Bool) → is_some (at_if b a') ≡ is_some (at_if b a)
        by true = refl
        by false = refl

    pub call_if_some : (t u : Tree) → L t u → is_some (call_if other u) ≡ is_some (call_if test t)
    call_if_some (Node p ts a b) (Node q us a' b') h =
        ap is_some (call_if_by other q us a' b') ∙ if_called_some (call_of p) (call_of q) a a' (same_call p a b q a' b' h.0) ∙ sym (ap is_some (call_if_by test p ts a b))

    pub call_if_none : (t u : Tree) → L t u → call_if test t ≡ None → call_if other u ≡ None
    call_if_none t u h e = none_there (call_if other u) (call_if_some t u h ∙ ap is_some e)
      where
        none_there : (o : Option ℕ) → is_some o ≡ false → o ≡ None
        none_there None is = refl
        none_there (Some x) is = absurd cc

    pub calls_long : (ts us : List Tree) → Pairs L ts us → length (filter_map (call_if other) us) ≡ length (filter_map (call_if test) ts)
    calls_long [] [] h = refl
    calls_long [] (u ∷ us) h = absurd h
    calls_long (t ∷ ts) [] h = absurd h
    calls_long (t ∷ ts) (u ∷ us) h = by (call_if test t) (call_if other u) refl refl (call_if_some t u h.0) (calls_long ts us h.1)
      where
        by : (a b : Option ℕ) → call_if test t ≡ a → call_if other u ≡ b → is_some b ≡ is_some a → length (filter_map (call_if other) us) ≡ length (filter_map (call_if test) ts)
            → length (filter_map (call_if other) (u ∷ us)) ≡ length (filter_map (call_if test) (t ∷ ts))
        by None None p q e rest = rw (p, q) rest
        by None (Some y) p q e rest = absurd cc
        by (Some x) None p q e rest = absurd cc
        by (Some x) (Some y) p q e rest = rw (p, q) (ap suc rest)

  pub second_none : {X Y : Type 0} (xs : List X) (ys : List Y) → length ys ≡ length xs → slice_get xs 1 ≡ None → slice_get ys 1 ≡ None
  second_none xs [] e h = refl
  second_none xs (y ∷ []) e h = refl
  second_none [] (y ∷ (z ∷ ys)) e h = absurd (omega arith)
  second_none (x ∷ []) (y ∷ (z ∷ ys)) e h = absurd (omega arith)
  second_none (x ∷ (w ∷ xs)) (y ∷ (z ∷ ys)) e h = absurd cc

  -- ---- the call of a whole statement

  assigned_alike : (n m : Bool) (t u : Tree) → m ≡ n → L t u → Both L (assigned n t) (assigned m u)
  assigned_alike n m (Node p ts a b) (Node q us a' b') same h =
      by (n && is_some (call_of p)) (m && is_some (call_of q)) refl refl (rw (same, both_some (SameName source form) (call_of p) (call_of q) (same_call p a b q a' b' h.0)) refl)
    where
      by : (x y : Bool) → (n && is_some (call_of p)) ≡ x → (m && is_some (call_of q)) ≡ y → y ≡ x → Both L (cond x (Some (Node p ts a b)) None) (cond y (Some (Node q us a' b')) None)
      by true true e f g = h
      by true false e f g = absurd cc
      by false true e f g = absurd cc
      by false false e f g = tt

  abbrev Says : Op → Trees → Op → Trees → (a b a' b' : ℕ) → Type 0
  Says p ts q us a b a' b' = Both L (statement_call (Node p ts a b)) (statement_call (Node q us a' b'))

  two_parts : (a b a' b' : ℕ) (x c x' c' : Tree) → L x x' → L c c' → Says (op.Assign 0) (more x (more c none)) (op.Assign 0) (more x' (more c' none)) a b a' b'
  two_parts a b a' b' (Node p xs i j) (Node q cs k l) (Node p' xs' i' j') (Node q' cs' k' l') hx hc =
      subst (λ (z : Option Tree). Both L z (statement_call (Node (op.Assign 0) (more (Node p' xs' i' j') (more (Node q' cs' k' l') none)) a' b'))) (sym (assigned_by p q xs cs i j k l a b))
      (subst (λ (z : Option Tree). Both L (assigned (is_name_op p) (Node q cs k l)) z) (sym (assigned_by p' q' xs' cs' i' j' k' l' a' b'))
      (assigned_alike (is_name_op p) (is_name_op p') (Node q cs k l) (Node q' cs' k' l') (same_is_name p i j p' i' j' hx.0) hc))

  -- no call where there is another number of parts
  no_one : (x : Tree) (a b : ℕ) → statement_call (Node (op.Assign 0) (more x none) a b) ≡ None
  no_one (Node op.Name xs i j) a b = refl
  no_one (Node _ xs i j) a b = refl

  no_three : (x c d : Tree) (ts : Trees) (a b : ℕ) → statement_call (Node (op.Assign 0) (more x (more c (more d ts))) a b) ≡ None
  no_three (Node op.Name xs i j) (Node (op.Call f) cs k l) d ts a b = refl
  no_three (Node op.Name xs i j) (Node _ cs k l) d ts a b = refl
  no_three (Node _ xs i j) c d ts a b = refl

  neither_says : (p q : Op) (ts us : Trees) (a b a' b' : ℕ) → statement_call (Node p ts a b) ≡ None → statement_call (Node q us a' b') ≡ None → Says p ts q us a b a' b'
  neither_says p q ts us a b a' b' e f = rw (e, f) tt

  by_parts : (n a b a' b' : ℕ) (ts us : Trees) → AllAlike source form ts us → Says (op.Assign n) ts (op.Assign n) us a b a' b'
  by_parts (suc n) a b a' b' ts us h = tt
  by_parts zero a b a' b' none none h = tt
  by_parts zero a b a' b' none (more u us) h = absurd h
  by_parts zero a b a' b' (more t ts) none h = absurd h
  by_parts zero a b a' b' (more t none) (more u none) h = neither_says (op.Assign 0) (op.Assign 0) (more t none) (more u none) a b a' b' (no_one t a b) (no_one u a' b')
  by_parts zero a b a' b' (more t none) (more u (more v us)) h = absurd h.1
  by_parts zero a b a' b' (more t (more c ts)) (more u none) h = absurd h.1
  by_parts zero a b a' b' (more x (more c none)) (more x' (more c' none)) h = two_parts a b a' b' x c x' c' h.0 h.1.0
  by_parts zero a b a' b' (more x (more c none)) (more x' (more c' (more d us))) h = absurd h.1.1
  by_parts zero a b a' b' (more x (more c (more d ts))) (more x' (more c' none)) h = absurd h.1.1
  by_parts zero a b a' b' (more x (more c (more d ts))) (more x' (more c' (more d' us))) h =
      neither_says (op.Assign 0) (op.Assign 0) (more x (more c (more d ts))) (more x' (more c' (more d' us))) a b a' b' (no_three x c d ts a b) (no_three x' c' d' us a' b')

  pub statement_call_alike : (t u : Tree) → L t u → Both L (statement_call t) (statement_call u)
  statement_call_alike (Node (op.Call f) ts a b) (Node q us a' b') h =
      subst (λ (z : Op). Both L (Some (Node (op.Call f) ts a b)) (statement_call (Node z us a' b'))) (sym h.0.1) ((h.0.0, refl, h.0.2), h.1)
  statement_call_alike (Node (op.Assign n) ts a b) (Node q us a' b') h =
      subst (λ (z : Op). Both L (statement_call (Node (op.Assign n) ts a b)) (statement_call (Node z us a' b'))) (sym h.0) (by_parts n a b a' b' ts us h.1)
  statement_call_alike (Node op.Name ts a b) (Node q us a' b') h = subst (λ (z : Op). Both L None (statement_call (Node z us a' b'))) (sym h.0.0) tt
  statement_call_alike (Node (op.Number n) ts a b) (Node q us a' b') h = subst (λ (z : Op). Both L None (statement_call (Node z us a' b'))) (sym h.0) tt
  statement_call_alike (Node (op.Char n) ts a b) (Node q us a' b') h = subst (λ (z : Op). Both L None (statement_call (Node z us a' b'))) (sym h.0) tt
  statement_call_alike (Node op.Text ts a b) (Node q us a' b') h = subst (λ (z : Op). Both L None (statement_call (Node z us a' b'))) (sym h.0) tt
  statement_call_alike (Node op.Index ts a b) (Node q us a' b') h = subst (λ (z : Op). Both L None (statement_call (Node z us a' b'))) (sym h.0) tt
  statement_call_alike (Node (op.Prefix n) ts a b) (Node q us a' b') h = subst (λ (z : Op). Both L None (statement_call (Node z us a' b'))) (sym h.0) tt
  statement_call_alike (Node (op.Suffix n) ts a b) (Node q us a' b') h = subst (λ (z : Op). Both L None (statement_call (Node z us a' b'))) (sym h.0) tt
  statement_call_alike (Node (op.Binary n) ts a b) (Node q us a' b') h = subst (λ (z : Op). Both L None (statement_call (Node z us a' b'))) (sym h.0) tt
  statement_call_alike (Node (op.Cast n) ts a b) (Node q us a' b') h = subst (λ (z : Op). Both L None (statement_call (Node z us a' b'))) (sym h.0) tt
  statement_call_alike (Node op.SizeOf ts a b) (Node q us a' b') h = subst (λ (z : Op). Both L None (statement_call (Node z us a' b'))) (sym h.0) tt
  statement_call_alike (Node (op.SizeOfType n) ts a b) (Node q us a' b') h = subst (λ (z : Op). Both L None (statement_call (Node z us a' b'))) (sym h.0) tt
