-- Where no place of a function's body forbids splitting it, all that it does leaves the file's values.
use Rattle.std.proofs.Common.{◌≡◌, ℕ, List, [], ◌∷◌, ◌++◌, map, Bool, true, false, cond, ◌||◌, ◌&&◌, Option, Some, None, refl, sym, ap, ◌∙◌}
use Rattle.std.specs.Prelude.{nat_eq}
use Rattle.std.specs.List.{AllByRecursion}
use Rattle.std.specs.Str.{bytes_eq}
use Rattle.std.proofs.lemmas.Slice.Eq.{bytes_eq-Decides}
use Rattle.std.proofs.lemmas.Bool.{or_parts, false_from_ne_true}
use Rattle.cw_lemmas.proofs.Truths.{not_both, and_second_false}
use Rattle.cw_lemmas.proofs.Lists.{all_append}
use Rattle.cw_syntax.specs.declared.program.Op.{Op}
use Rattle.cw_syntax.specs.declared.program.Op.TheVariants.{Name as NameOp, Number, Char, Text as TextOp, Call as CallOp, Index as IndexOp, Prefix, Suffix, Binary, Assign, Cast, SizeOf, SizeOfType}
use Rattle.cw_syntax.specs.Names.{slice, text, Names}
use Rattle.cw_syntax.specs.Trees.{Tree, Node, Trees, none, more, Declared, Declaration, Statement, Stated, Form, Block, Declares, Evaluates, Empties, Labels, Chooses, Whiles, Does, Fors, Breaks}
use Rattle.cw_syntax.specs.Trees.{Continues, Returns, Perhaps, nothing, just, Statements, nil, cons, Definition}
use Rattle.cw_syntax.specs.Plans.{Scene, scene_of, action_of}
use Rattle.cw_callgraph.specs.Scoping.{latest, is_shared, is_array, is_parameter, name_means, meaning_at, first_means, local, file_scope}
use Rattle.cw_callgraph.specs.Forbidding.{place_if, first_role, writes, element_at, forbids_itself, places, places_in, given, size, in_items, declared, is_seam, known_after, known_in, init_in, init}
use Rattle.cw_callgraph.specs.Forbidding.{known_by_init_in, known_by_init, stated, formed, stated_arm, stated_all}
use Rattle.cw_value.specs.Expressions.{Scope, Location, Own, OwnArray, Shared, SharedArray, Nowhere, Target, SharedSpot, target_at, first_location}
use Rattle.cw_value.specs.Declarations.{element_target, size_in}
use Rattle.cw_value.specs.Deeds.{said, said_if, said_init, said_all}
use Rattle.cw_value.specs.Deeds.{init_in as said_form}
use Rattle.cw_value.specs.Machines.{Source, scope_in, declared_by}
use Rattle.cw_agree.proofs.Keeps.{changes, ElementsSpared, spared_at, SparesFirst, Quiet, QuietAll, QuietIf, QuietItems}
use Rattle.cw_agree.proofs.Meanings.{Known, Meaning, is_file, is_file_array, here, file_means, file_array_means, IsOwn, AreOwn}

-- what is no value of the file's
abbrev pub IsSpared : Target → Type 0
IsSpared (SharedSpot p) = ⊥
IsSpared _ = Unit {0}

target_spared : (p : Location) → is_file p ≡ false → IsSpared (target_at p)
target_spared (Own n) h = tt
target_spared (OwnArray n) h = tt
target_spared (Shared n) h = absurd (cc)
target_spared (SharedArray n) h = absurd (cc)
target_spared Nowhere h = tt

elements_spared : (p : Location) → is_file_array p ≡ false → (i : ℕ) → IsSpared (element_target p i)
elements_spared (Own n) h i = tt
elements_spared (OwnArray n) h i = tt
elements_spared (Shared n) h i = tt
elements_spared (SharedArray n) h i = absurd (cc)
elements_spared Nowhere h i = tt

-- ---- lists without places

append_empty : {A : Type 0} (xs ys : List A) → xs ++ ys ≡ [] → (xs ≡ []) × (ys ≡ [])
append_empty [] ys e = (refl, e)
append_empty (x ∷ xs) ys e = absurd (cc)

if_empty : (b : Bool) (at : ℕ) → place_if b at ≡ [] → b ≡ false
if_empty true at e = absurd (cc)
if_empty false at e = refl

pub every_both : {A : Type 0} (P : A → Type 0) (xs ys : List A) → AllByRecursion P (xs ++ ys) → AllByRecursion P xs × AllByRecursion P ys
every_both P [] ys h = (tt, h)
every_both P (x ∷ xs) ys h = let r = every_both P xs ys h.1 in ((h.0, r.0), r.1)

abbrev argument_of : {A B : Type 0} → (A → B) → Type 0
argument_of {A} f = A

abbrev Role : Type 0
Role = argument_of (places [] [] [])

module _ (s : Source) (f : Definition) where
  abbrev scope : Scope
  scope = scope_in s (Some f)

  abbrev file : List Known
  file = file_scope s.file

  -- names that a function declares, as the rules know them
  abbrev pub AreKnown : List Known → Type 0
  AreKnown inner = AllByRecursion (λ k. IsOwn s f k.name) inner

  -- a name of the file isn't hidden by them
  passes : (inner : List Known) (name : List ℕ) (before : Option Meaning) → AreKnown inner → is_file (here s f name) ≡ true → latest s.bytes before inner name ≡ before
  passes [] name before own h = refl
  passes (k ∷ ks) name before own h = by_name (bytes_eq name (text s.bytes k.name)) refl (passes ks name before own.1 h) where
    by_name : (b : Bool) → bytes_eq name (text s.bytes k.name) ≡ b → latest s.bytes before ks name ≡ before → latest s.bytes (cond b (Some k.means) before) ks name ≡ before
    by_name true e r = absurd (not_both (is_file (here s f (text s.bytes k.name))) (ap (λ x. is_file (here s f x)) (sym ((bytes_eq-Decides name (text s.bytes k.name)).0 e)) ∙ h) own.0)
    by_name false e r = r

  module _ (inner : List Known) (known : AreKnown inner) where
    file_named : (name : List ℕ) → is_shared (name_means s.bytes file inner name) ≡ false → is_file (here s f name) ≡ false
    file_named name h = false_from_ne_true (is_file (here s f name)) (λ e.
        not_both (is_shared (name_means s.bytes file inner name)) (ap is_shared (passes inner name (latest s.bytes None file name) known e) ∙ file_means s f name e) h)

    array_file : (p : Location) → is_file_array p ≡ true → is_file p ≡ true
    array_file (SharedArray n) h = refl
    array_file (Own n) h = absurd (cc)
    array_file (OwnArray n) h = absurd (cc)
    array_file (Shared n) h = absurd (cc)
    array_file Nowhere h = absurd (cc)

    array_named : (name : List ℕ) → is_array (name_means s.bytes file inner name) ≡ false → is_file_array (here s f name) ≡ false
    array_named name h = false_from_ne_true (is_file_array (here s f name)) (λ e.
        not_both (is_array (name_means s.bytes file inner name))
        (ap is_array (passes inner name (latest s.bytes None file name) known (array_file (here s f name) e)) ∙ file_array_means s f name e) h)

    elements_of : (ts : Trees) → is_array (first_means s.bytes file inner ts) ≡ false → ElementsSpared IsSpared scope (first_location scope ts)
    elements_of none h i = tt
    elements_of (more (Node NameOp parts from to) ts) h i = elements_spared (here s f (slice s.bytes from to)) (array_named (slice s.bytes from to) h) i
    elements_of (more (Node (Number n) parts from to) ts) h i = tt
    elements_of (more (Node (Char n) parts from to) ts) h i = tt
    elements_of (more (Node TextOp parts from to) ts) h i = tt
    elements_of (more (Node (CallOp g) parts from to) ts) h i = tt
    elements_of (more (Node IndexOp parts from to) ts) h i = tt
    elements_of (more (Node (Prefix n) parts from to) ts) h i = tt
    elements_of (more (Node (Suffix n) parts from to) ts) h i = tt
    elements_of (more (Node (Binary n) parts from to) ts) h i = tt
    elements_of (more (Node (Assign n) parts from to) ts) h i = tt
    elements_of (more (Node (Cast k) parts from to) ts) h i = tt
    elements_of (more (Node SizeOf parts from to) ts) h i = tt
    elements_of (more (Node (SizeOfType k) parts from to) ts) h i = tt

    -- what isn't written by the rules isn't changed in a run
    spares_one : (op : Op) (parts : Trees) (from to : ℕ) → is_shared (meaning_at s.bytes file inner op from to) ≡ false → element_at s.bytes file inner op parts ≡ false
        → spared_at IsSpared scope op parts from to
    spares_one NameOp parts from to h k = target_spared (here s f (slice s.bytes from to)) (file_named (slice s.bytes from to) h)
    spares_one IndexOp parts from to h k = elements_of parts k
    spares_one (Number n) parts from to h k = tt
    spares_one (Char n) parts from to h k = tt
    spares_one TextOp parts from to h k = tt
    spares_one (CallOp g) parts from to h k = tt
    spares_one (Prefix n) parts from to h k = tt
    spares_one (Suffix n) parts from to h k = tt
    spares_one (Binary n) parts from to h k = tt
    spares_one (Assign n) parts from to h k = tt
    spares_one (Cast c) parts from to h k = tt
    spares_one SizeOf parts from to h k = tt
    spares_one (SizeOfType c) parts from to h k = tt

    spares : (ts : Trees) → writes s.bytes file inner ts ≡ false → SparesFirst IsSpared scope ts
    spares none h = tt
    spares (more (Node op parts from to) ts) h =
        let r = or_parts (is_shared (meaning_at s.bytes file inner op from to)) (element_at s.bytes file inner op parts) h in
        spares_one op parts from to r.0 r.1

    spares_by : (role : Role) (op : Op) (parts : Trees) (from to : ℕ) → forbids_itself s.bytes file inner role op parts from to ≡ false → changes op ≡ true
        → SparesFirst IsSpared scope parts
    spares_by role (Assign n) parts from to h c = spares parts h
    spares_by role (Suffix n) parts from to h c = spares parts h
    spares_by role (Prefix n) parts from to h c =
        let means = first_means s.bytes file inner parts in
        let address = nat_eq n 5 && (is_shared means || is_parameter means) in
        let change = (nat_eq n 6 || nat_eq n 7) && writes s.bytes file inner parts in
        let r = or_parts (nat_eq n 4 && is_parameter means || address) change h in
        spares parts (and_second_false (nat_eq n 6 || nat_eq n 7) (writes s.bytes file inner parts) r.1 c)
    spares_by role NameOp parts from to h c = absurd (cc)
    spares_by role IndexOp parts from to h c = absurd (cc)
    spares_by role (Number n) parts from to h c = absurd (cc)
    spares_by role (Char n) parts from to h c = absurd (cc)
    spares_by role TextOp parts from to h c = absurd (cc)
    spares_by role (CallOp g) parts from to h c = absurd (cc)
    spares_by role (Binary n) parts from to h c = absurd (cc)
    spares_by role (Cast k) parts from to h c = absurd (cc)
    spares_by role SizeOf parts from to h c = absurd (cc)
    spares_by role (SizeOfType k) parts from to h c = absurd (cc)

    mutual
      -- an expression without places is quiet
      quiet_without : (role : Role) (t : Tree) → places s.bytes file inner role t ≡ [] → Quiet IsSpared scope t
      quiet_without role (Node op parts from to) e =
          let r = append_empty (place_if (forbids_itself s.bytes file inner role op parts from to) from) (places_in s.bytes file inner (first_role role op) parts) e in
          (spares_by role op parts from to (if_empty (forbids_itself s.bytes file inner role op parts from to) from r.0), quiet_all (first_role role op) parts r.1)

      quiet_all : (role : Role) (ts : Trees) → places_in s.bytes file inner role ts ≡ [] → QuietAll IsSpared scope ts
      quiet_all role none e = tt
      quiet_all role (more t ts) e = let r = append_empty (places s.bytes file inner role t) _ e in (quiet_without role t r.0, quiet_all _ ts r.1)

    quiet_given : (e : Option Tree) → given s.bytes file inner e ≡ [] → QuietIf IsSpared scope e
    quiet_given None h = tt
    quiet_given (Some t) h = quiet_without _ t h

    quiet_size : (e : Option (Option Tree)) → size s.bytes file inner e ≡ [] → QuietIf IsSpared scope (size_in e)
    quiet_size None h = tt
    quiet_size (Some e) h = quiet_given e h

  -- ---- declarations

  with_local : (inner : List Known) (external : Bool) (i : Declared) → AreKnown inner → IsOwn s f i.name → AreKnown (inner ++ local s.bytes file external i ∷ [])
  with_local inner external i known own = all_append (λ k. IsOwn s f k.name) inner (local s.bytes file external i ∷ []) known (own, tt)

  quiet_items : (inner : List Known) → AreKnown inner → (external : Bool) (is : List Declared) → AreOwn s f is → in_items s.bytes file inner external is ≡ [] → QuietItems IsSpared scope is
  quiet_items inner known external [] own e = tt
  quiet_items inner known external (i ∷ is) own e =
      let next = inner ++ local s.bytes file external i ∷ [] in
      let known_next = with_local inner external i known own.0 in
      let r = append_empty (size s.bytes file inner i.array ++ places_in s.bytes file next _ i.init) (in_items s.bytes file next external is) e in
      let q = append_empty (size s.bytes file inner i.array) (places_in s.bytes file next _ i.init) r.0 in
      ((quiet_size inner known i.array q.0, quiet_all next known_next _ i.init q.1), quiet_items next known_next external is own.1 r.1)

  quiet_declared : (inner : List Known) → AreKnown inner → (d : Declaration) → AreOwn s f d.items → declared s.bytes file inner d ≡ [] → QuietItems IsSpared scope d.items
  quiet_declared inner known d own e = quiet_items inner known d.external d.items own (append_empty (place_if d.fixed d.from) (in_items s.bytes file inner d.external d.items) e).1

  known_items : (external : Bool) (is : List Declared) → AreOwn s f is → AreKnown (map (local s.bytes file external) is)
  known_items external [] own = tt
  known_items external (i ∷ is) own = (own.0, known_items external is own.1)

  -- ---- statements

  abbrev pub OwnStatement : Statement → Type 0
  OwnStatement st = AreOwn s f (declared_by st)

  -- what a statement evaluates itself is quiet
  abbrev pub QuietForm : Form → Type 0
  QuietForm (Declares d) = QuietItems IsSpared scope d.items
  QuietForm (Evaluates e) = Quiet IsSpared scope e
  QuietForm (Chooses e a b) = Quiet IsSpared scope e
  QuietForm (Whiles e a) = Quiet IsSpared scope e
  QuietForm (Does a e) = Quiet IsSpared scope e
  QuietForm (Fors i t u a) = QuietIf IsSpared scope t × QuietIf IsSpared scope u
  QuietForm (Returns e) = QuietIf IsSpared scope e
  QuietForm _ = Unit {0}

  abbrev pub QuietStatement : Statement → Type 0
  QuietStatement (Stated form from to) = QuietForm form

  abbrev pub AllOwn : List Statement → Type 0
  AllOwn ss = AllByRecursion OwnStatement ss

  abbrev pub AllQuiet : List Statement → Type 0
  AllQuiet ss = AllByRecursion QuietStatement ss

  module _ (names : Names) where
    abbrev sc : Scene
    sc = scene_of names s.bytes s.file

    mutual
      known_own : (st : Statement) → AllOwn (said st) → AreKnown (known_after sc file st)
      known_own (Stated form from to) h = form_own form from to h

      form_own : (form : Form) (from to : ℕ) → AllOwn (said (Stated form from to)) → AreKnown (known_in sc file form)
      form_own (Declares d) from to h = known_items d.external d.items h.0
      form_own (Labels n m body) from to h = known_own body h.1
      form_own (Block ss) from to h = tt
      form_own (Evaluates e) from to h = tt
      form_own Empties from to h = tt
      form_own (Chooses e a b) from to h = tt
      form_own (Whiles e a) from to h = tt
      form_own (Does a e) from to h = tt
      form_own (Fors i t u a) from to h = tt
      form_own Breaks from to h = tt
      form_own Continues from to h = tt
      form_own (Returns e) from to h = tt

    init_own : (form : Form) (from to : ℕ) → AllOwn (said_form form from to) → AreKnown (known_by_init_in sc file form)
    init_own (Declares d) from to h = known_items d.external d.items h.0
    init_own (Labels n m body) from to h = tt
    init_own (Block ss) from to h = tt
    init_own (Evaluates e) from to h = tt
    init_own Empties from to h = tt
    init_own (Chooses e a b) from to h = tt
    init_own (Whiles e a) from to h = tt
    init_own (Does a e) from to h = tt
    init_own (Fors i t u a) from to h = tt
    init_own Breaks from to h = tt
    init_own Continues from to h = tt
    init_own (Returns e) from to h = tt

    inits_own : (p : Perhaps) → AllOwn (said_init p) → AreKnown (known_by_init sc file p)
    inits_own nothing h = tt
    inits_own (just (Stated form from to)) h = init_own form from to h

    init_quiet : (inner : List Known) → AreKnown inner → (form : Form) (from to : ℕ) → AllOwn (said_form form from to) → init_in sc file inner form ≡ [] → AllQuiet (said_form form from to)
    init_quiet inner known (Declares d) from to h e = (quiet_declared inner known d h.0 e, tt)
    init_quiet inner known (Evaluates t) from to h e = (quiet_without inner known _ t e, tt)
    init_quiet inner known (Labels n m body) from to h e = tt
    init_quiet inner known (Block ss) from to h e = tt
    init_quiet inner known Empties from to h e = tt
    init_quiet inner known (Chooses t a b) from to h e = tt
    init_quiet inner known (Whiles t a) from to h e = tt
    init_quiet inner known (Does a t) from to h e = tt
    init_quiet inner known (Fors i t u a) from to h e = tt
    init_quiet inner known Breaks from to h e = tt
    init_quiet inner known Continues from to h e = tt
    init_quiet inner known (Returns t) from to h e = tt

    inits_quiet : (inner : List Known) → AreKnown inner → (p : Perhaps) → AllOwn (said_init p) → init sc file inner p ≡ [] → AllQuiet (said_init p)
    inits_quiet inner known nothing h e = tt
    inits_quiet inner known (just (Stated form from to)) h e = init_quiet inner known form from to h e

    mutual
      stated_quiet : (inner : List Known) → AreKnown inner → (st : Statement) → AllOwn (said st) → stated sc file inner st ≡ [] → AllQuiet (said st)
      stated_quiet inner known (Stated form from to) h e = formed_quiet inner known form from to h e

      formed_quiet : (inner : List Known) → AreKnown inner → (form : Form) (from to : ℕ) → AllOwn (said (Stated form from to)) → formed sc file inner from form ≡ []
          → AllQuiet (said (Stated form from to))
      formed_quiet inner known (Block ss) from to h e = (tt, all_quiet inner known ss h.1 e)
      formed_quiet inner known (Declares d) from to h e = (quiet_declared inner known d h.0 e, tt)
      formed_quiet inner known (Evaluates t) from to h e =
          (quiet_without inner known _ t (append_empty (place_if (is_seam (action_of sc t)) from) (places s.bytes file inner _ t) e).1, tt)
      formed_quiet inner known Empties from to h e = (tt, tt)
      formed_quiet inner known (Labels n m body) from to h e = (tt, stated_quiet inner known body h.1 e)
      formed_quiet inner known (Chooses t a b) from to h e =
          let r = append_empty (places s.bytes file inner _ t ++ stated sc file inner a) (stated_arm sc file inner b) e in
          let q = append_empty (places s.bytes file inner _ t) (stated sc file inner a) r.0 in
          let own = every_both OwnStatement (said a) (said_if b) h.1 in
          (quiet_without inner known _ t q.0, all_append QuietStatement (said a) (said_if b) (stated_quiet inner known a own.0 q.1) (arm_quiet inner known b own.1 r.1))
      formed_quiet inner known (Whiles t a) from to h e =
          let q = append_empty (places s.bytes file inner _ t) (stated sc file inner a) e in
          (quiet_without inner known _ t q.0, stated_quiet inner known a h.1 q.1)
      formed_quiet inner known (Does a t) from to h e =
          let q = append_empty (stated sc file inner a) (places s.bytes file inner _ t) e in
          (quiet_without inner known _ t q.1, stated_quiet inner known a h.1 q.0)
      formed_quiet inner known (Fors i t u a) from to h e =
          let own = every_both OwnStatement (said_init i) (said a) h.1 in
          let next = inner ++ known_by_init sc file i in
          let known_next = all_append (λ k. IsOwn s f k.name) inner (known_by_init sc file i) known (inits_own i own.0) in
          let r = append_empty (init sc file inner i ++ given s.bytes file next t ++ given s.bytes file next u) (stated sc file next a) e in
          let q = append_empty (init sc file inner i ++ given s.bytes file next t) (given s.bytes file next u) r.0 in
          let o = append_empty (init sc file inner i) (given s.bytes file next t) q.0 in (
            (quiet_given next known_next t o.1, quiet_given next known_next u q.1),
            all_append QuietStatement (said_init i) (said a) (inits_quiet inner known i own.0 o.0) (stated_quiet next known_next a own.1 r.1),
          )
      formed_quiet inner known Breaks from to h e = (tt, tt)
      formed_quiet inner known Continues from to h e = (tt, tt)
      formed_quiet inner known (Returns t) from to h e = (quiet_given inner known t e, tt)

      arm_quiet : (inner : List Known) → AreKnown inner → (p : Perhaps) → AllOwn (said_if p) → stated_arm sc file inner p ≡ [] → AllQuiet (said_if p)
      arm_quiet inner known nothing h e = tt
      arm_quiet inner known (just a) h e = stated_quiet inner known a h e

      pub all_quiet : (inner : List Known) → AreKnown inner → (ss : Statements) → AllOwn (said_all ss) → stated_all sc file inner ss ≡ [] → AllQuiet (said_all ss)
      all_quiet inner known nil h e = tt
      all_quiet inner known (cons one rest) h e =
          let own = every_both OwnStatement (said one) (said_all rest) h in
          let q = append_empty (stated sc file inner one) (stated_all sc file (inner ++ known_after sc file one) rest) e in
          all_append QuietStatement (said one) (said_all rest) (stated_quiet inner known one own.0 q.0)
          (all_quiet (inner ++ known_after sc file one)
          (all_append (λ k. IsOwn s f k.name) inner (known_after sc file one) known (known_own one own.0)) rest own.1 q.1)
