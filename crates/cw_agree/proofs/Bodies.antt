-- A function's names are among its own; so where nothing in its body forbids splitting it, each of its deeds is quiet.
use Rattle.std.proofs.Common.{◌≡◌, ℕ, List, [], ◌∷◌, ◌++◌, map, Bool, true, false, cond, ◌||◌, ◌&&◌, Option, Some, None, refl, sym, ap, ◌∙◌}
use Rattle.std.specs.Prelude.{is_some, is_none, option_map, option_and_then, find}
use Rattle.std.specs.List.{filter_map, flat_map, list_any, cons_option}
use Rattle.std.specs.Str.{bytes_eq}
use Rattle.std.proofs.lemmas.List.Folds.{list_any-append}
use Rattle.std.proofs.lemmas.List.{append_assoc}
use Rattle.std.proofs.lemmas.Slice.Eq.{bytes_eq-Decides}
use Rattle.std.proofs.lemmas.Bool.{or_right}
use Rattle.cw_syntax.specs.declared.program.Name.{Name}
use Rattle.cw_syntax.specs.declared.program.Op.{Op}
use Rattle.cw_syntax.specs.declared.program.Op.TheVariants.{Name as NameOp, Number, Char, Text as TextOp, Call as CallOp, Index as IndexOp, Prefix, Suffix, Binary, Assign, Cast, SizeOf, SizeOfType}
use Rattle.cw_syntax.specs.declared.program.Base.TheVariants.{Void}
use Rattle.cw_syntax.specs.declared.program.Param.{Param}
use Rattle.cw_syntax.specs.Names.{text, Names}
use Rattle.cw_syntax.specs.Trees.{Tree, Node, Trees, none, more, Declared, Statement, Stated, Form, Block, Declares, Evaluates, Empties, Labels, Chooses, Whiles, Does, Fors, Breaks, Continues, Returns, Definition}
use Rattle.cw_syntax.specs.Plans.{Stm, Plain, Break, Continue, Return, Open, Close, Call, Group, Label, If, While, Do, For, scene_of}
use Rattle.cw_syntax.specs.Frames.{Item, Entry, Todo, Test, After, LoopEnd, End}
use Rattle.cw_callgraph.specs.Scoping.{global, parameters}
use Rattle.cw_callgraph.specs.Forbidding.{body_places}
use Rattle.cw_value.specs.Deeds.{said_all, begins_at, form_of, form_at, plain_if, returned, evaluated, condition, next_turn, arguments_of, arguments_if, statement_deed, deed_of}
use Rattle.cw_value.specs.Machines.{Source, scope_in, own_names, items_in, declared_by, parameters as parameter_names, names_of, is_plain}
use Rattle.cw_agree.proofs.Keeps.{QuietAll, QuietIf, QuietDeed}
use Rattle.cw_agree.proofs.Meanings.{named, IsOwn, AreOwn, item_own, listed_own, or_both, Known, some_item}
use Rattle.cw_agree.proofs.Forbidden.{IsSpared, AreKnown, AllOwn, AllQuiet, QuietForm, every_both, all_quiet}

or_here : (a b c d e f : Bool) → (b || e) ≡ true → ((a || (b || c)) || (d || (e || f))) ≡ true
or_here true b c d e f h = refl
or_here false true c d e f h = refl
or_here false false true d e f h = refl
or_here false false false true e f h = refl
or_here false false false false true f h = refl
or_here false false false false false f h = absurd (cc)

-- a parameter as the rules know it
abbrev one_parameter : Name → Param
one_parameter name = record { kind = record { base = Void; unsigned = false; stars = 0 }; name = Some name; array = false }

abbrev first_known : List Known → Known → Known
first_known [] k = k
first_known (x ∷ xs) k = x

abbrev known_parameter : Name → Known
known_parameter name = first_known (parameters (one_parameter name ∷ [])) (global true some_item)

module _ (s : Source) (f : Definition) where
  same_name : (name : Name) → bytes_eq (text s.bytes name) (text s.bytes name) ≡ true
  same_name name = (bytes_eq-Decides (text s.bytes name) (text s.bytes name)).1 refl

  -- an item has brackets or has none
  one_kind : (i : Declared) → (named s.bytes (text s.bytes i.name) true i || named s.bytes (text s.bytes i.name) false i) ≡ true
  one_kind i = by_kind i.array (same_name i.name) where
    by_kind : (a : Option (Option Tree)) → bytes_eq (text s.bytes i.name) (text s.bytes i.name) ≡ true
        → ((is_some a && bytes_eq (text s.bytes i.name) (text s.bytes i.name)) || (is_none a && bytes_eq (text s.bytes i.name) (text s.bytes i.name))) ≡ true
    by_kind None e = e
    by_kind (Some x) e = ap (λ b. b || false) e

  own_items : (before is : List Declared) → before ++ is ≡ items_in f → AreOwn s f is
  own_items before [] e = tt
  own_items before (i ∷ is) e =
      let word = text s.bytes i.name in
      let any = λ (b : Bool). sym (ap (list_any (named s.bytes word b)) e) ∙ list_any-append (named s.bytes word b) before (i ∷ is) in
      let here = or_here (list_any (named s.bytes word true) before) (named s.bytes word true i) (list_any (named s.bytes word true) is)
      (list_any (named s.bytes word false) before) (named s.bytes word false i) (list_any (named s.bytes word false) is) (one_kind i) in (
        item_own s f i (or_both _ _ _ _ (any true) (any false) ∙ here),
        own_items (before ++ i ∷ []) is (append_assoc before (i ∷ []) is ∙ e),
      )

  own_statements : (sts : List Statement) → AreOwn s f (flat_map declared_by sts) → AllOwn s f sts
  own_statements [] h = tt
  own_statements (st ∷ sts) h =
      let r = every_both (λ i. IsOwn s f i.name) (declared_by st) (flat_map declared_by sts) h in
      (r.0, own_statements sts r.1)

  all_own : AllOwn s f (said_all f.body)
  all_own = own_statements (said_all f.body) (own_items [] (items_in f) refl)

  -- ---- parameters

  abbrev name_in : Param → Option Name
  name_in p = p.name

  param_listed : (before : List Param) (p : Param) (ps : List Param) (name : Name) → p.name ≡ Some name
      → list_any (bytes_eq (text s.bytes name)) (map (text s.bytes) (filter_map name_in (before ++ p ∷ ps))) ≡ true
  param_listed [] p ps name e =
      ap (λ o. list_any (bytes_eq (text s.bytes name)) (map (text s.bytes) (cons_option o (filter_map name_in ps)))) e
      ∙ ap (λ b. b || list_any (bytes_eq (text s.bytes name)) (map (text s.bytes) (filter_map name_in ps))) (same_name name)
  param_listed (q ∷ before) p ps name e = by_name q.name (param_listed before p ps name e) where
    by_name : (o : Option Name) → list_any (bytes_eq (text s.bytes name)) (map (text s.bytes) (filter_map name_in (before ++ p ∷ ps))) ≡ true
        → list_any (bytes_eq (text s.bytes name)) (map (text s.bytes) (cons_option o (filter_map name_in (before ++ p ∷ ps)))) ≡ true
    by_name None h = h
    by_name (Some x) h = or_right (bytes_eq (text s.bytes name) (text s.bytes x)) (list_any (bytes_eq (text s.bytes name)) (map (text s.bytes) (filter_map name_in (before ++ p ∷ ps)))) h

  parameter_own : (name : Name) → list_any (bytes_eq (text s.bytes name)) (parameter_names s.bytes f) ≡ true → IsOwn s f name
  parameter_own name h =
      let word = text s.bytes name in
      listed_own s f name (or_right (list_any (bytes_eq word) (own_names s.bytes f).arrays) (list_any (bytes_eq word) (own_names s.bytes f).plain)
      (list_any-append (bytes_eq word) (parameter_names s.bytes f) (names_of s.bytes is_plain (items_in f))
      ∙ ap (λ b. b || list_any (bytes_eq word) (names_of s.bytes is_plain (items_in f))) h))

  known_parameters : (before ps : List Param) → before ++ ps ≡ f.params → AreKnown s f (parameters ps)
  known_parameters before [] e = tt
  known_parameters before (p ∷ ps) e =
      by_name p.name refl (known_parameters (before ++ p ∷ []) ps (append_assoc before (p ∷ []) ps ∙ e)) where
        by_name : (o : Option Name) → p.name ≡ o → AreKnown s f (parameters ps)
            → AreKnown s f (cons_option (option_map (λ (name : Name). known_parameter name) o) (parameters ps))
        by_name None h rest = rest
        by_name (Some x) h rest =
            (parameter_own x (ap (λ l. list_any (bytes_eq (text s.bytes x)) (map (text s.bytes) (filter_map name_in l))) (sym e) ∙ param_listed before p ps x h), rest)

  -- ---- a body

  -- nothing in a body forbids splitting: all that its statements evaluate is quiet
  pub body_quiet : (names : Names) → body_places (scene_of names s.bytes s.file) s.file f ≡ [] → AllQuiet s f (said_all f.body)
  body_quiet names e = all_quiet s f names (parameters f.params) (known_parameters [] f.params refl) f.body all_own e

  module _ (quiet : AllQuiet s f (said_all f.body)) where
    abbrev QuietFormIf : Option Form → Type 0
    QuietFormIf None = Unit {0}
    QuietFormIf (Some form) = QuietForm s f form

    found_quiet : (at : ℕ) (sts : List Statement) → AllQuiet s f sts → QuietFormIf (option_map form_of (find (begins_at at) sts))
    found_quiet at [] h = tt
    found_quiet at (Stated form from to ∷ sts) h = by_location (begins_at at (Stated form from to)) (found_quiet at sts h.1) where
      by_location : (b : Bool) → QuietFormIf (option_map form_of (find (begins_at at) sts))
          → QuietFormIf (option_map form_of (cond b (Some (Stated form from to)) (find (begins_at at) sts)))
      by_location true r = h.0
      by_location false r = r

    at_quiet : (at : ℕ) → QuietFormIf (form_at f at)
    at_quiet at = found_quiet at (said_all f.body) quiet

    plain_quiet : (o : Option Form) → QuietFormIf o → QuietDeed IsSpared (scope_in s (Some f)) (plain_if o)
    plain_quiet None h = tt
    plain_quiet (Some (Evaluates e)) h = h
    plain_quiet (Some (Declares d)) h = h
    plain_quiet (Some (Block ss)) h = tt
    plain_quiet (Some Empties) h = tt
    plain_quiet (Some (Labels n k b)) h = tt
    plain_quiet (Some (Chooses e a b)) h = tt
    plain_quiet (Some (Whiles e a)) h = tt
    plain_quiet (Some (Does a e)) h = tt
    plain_quiet (Some (Fors i t u a)) h = tt
    plain_quiet (Some Breaks) h = tt
    plain_quiet (Some Continues) h = tt
    plain_quiet (Some (Returns e)) h = tt

    returned_quiet : (o : Option Form) → QuietFormIf o → QuietIf IsSpared (scope_in s (Some f)) (option_and_then returned o)
    returned_quiet None h = tt
    returned_quiet (Some (Evaluates e)) h = tt
    returned_quiet (Some (Declares d)) h = tt
    returned_quiet (Some (Block ss)) h = tt
    returned_quiet (Some Empties) h = tt
    returned_quiet (Some (Labels n k b)) h = tt
    returned_quiet (Some (Chooses e a b)) h = tt
    returned_quiet (Some (Whiles e a)) h = tt
    returned_quiet (Some (Does a e)) h = tt
    returned_quiet (Some (Fors i t u a)) h = tt
    returned_quiet (Some Breaks) h = tt
    returned_quiet (Some Continues) h = tt
    returned_quiet (Some (Returns e)) h = h

    evaluated_quiet : (o : Option Form) → QuietFormIf o → QuietIf IsSpared (scope_in s (Some f)) (option_and_then evaluated o)
    evaluated_quiet None h = tt
    evaluated_quiet (Some (Evaluates e)) h = h
    evaluated_quiet (Some (Declares d)) h = tt
    evaluated_quiet (Some (Block ss)) h = tt
    evaluated_quiet (Some Empties) h = tt
    evaluated_quiet (Some (Labels n k b)) h = tt
    evaluated_quiet (Some (Chooses e a b)) h = tt
    evaluated_quiet (Some (Whiles e a)) h = tt
    evaluated_quiet (Some (Does a e)) h = tt
    evaluated_quiet (Some (Fors i t u a)) h = tt
    evaluated_quiet (Some Breaks) h = tt
    evaluated_quiet (Some Continues) h = tt
    evaluated_quiet (Some (Returns e)) h = tt

    condition_quiet : (o : Option Form) → QuietFormIf o → QuietIf IsSpared (scope_in s (Some f)) (option_and_then condition o)
    condition_quiet None h = tt
    condition_quiet (Some (Evaluates e)) h = tt
    condition_quiet (Some (Declares d)) h = tt
    condition_quiet (Some (Block ss)) h = tt
    condition_quiet (Some Empties) h = tt
    condition_quiet (Some (Labels n k b)) h = tt
    condition_quiet (Some (Chooses e a b)) h = h
    condition_quiet (Some (Whiles e a)) h = h
    condition_quiet (Some (Does a e)) h = h
    condition_quiet (Some (Fors i t u a)) h = h.0
    condition_quiet (Some Breaks) h = tt
    condition_quiet (Some Continues) h = tt
    condition_quiet (Some (Returns e)) h = tt

    turn_quiet : (o : Option Form) → QuietFormIf o → QuietIf IsSpared (scope_in s (Some f)) (option_and_then next_turn o)
    turn_quiet None h = tt
    turn_quiet (Some (Evaluates e)) h = tt
    turn_quiet (Some (Declares d)) h = tt
    turn_quiet (Some (Block ss)) h = tt
    turn_quiet (Some Empties) h = tt
    turn_quiet (Some (Labels n k b)) h = tt
    turn_quiet (Some (Chooses e a b)) h = tt
    turn_quiet (Some (Whiles e a)) h = tt
    turn_quiet (Some (Does a e)) h = tt
    turn_quiet (Some (Fors i t u a)) h = h.1
    turn_quiet (Some Breaks) h = tt
    turn_quiet (Some Continues) h = tt
    turn_quiet (Some (Returns e)) h = tt

    second_quiet : (op : Op) (parts : Trees) (from to : ℕ) → QuietAll IsSpared (scope_in s (Some f)) parts → QuietAll IsSpared (scope_in s (Some f)) (arguments_of (Node op parts from to))
    second_quiet (CallOp g) parts from to h = h
    second_quiet NameOp none from to h = tt
    second_quiet NameOp (more x none) from to h = tt
    second_quiet NameOp (more x (more (Node g ps at end) rest)) from to h = h.1.0.1
    second_quiet (Number n) none from to h = tt
    second_quiet (Number n) (more x none) from to h = tt
    second_quiet (Number n) (more x (more (Node g ps at end) rest)) from to h = h.1.0.1
    second_quiet (Char n) none from to h = tt
    second_quiet (Char n) (more x none) from to h = tt
    second_quiet (Char n) (more x (more (Node g ps at end) rest)) from to h = h.1.0.1
    second_quiet TextOp none from to h = tt
    second_quiet TextOp (more x none) from to h = tt
    second_quiet TextOp (more x (more (Node g ps at end) rest)) from to h = h.1.0.1
    second_quiet IndexOp none from to h = tt
    second_quiet IndexOp (more x none) from to h = tt
    second_quiet IndexOp (more x (more (Node g ps at end) rest)) from to h = h.1.0.1
    second_quiet (Prefix n) none from to h = tt
    second_quiet (Prefix n) (more x none) from to h = tt
    second_quiet (Prefix n) (more x (more (Node g ps at end) rest)) from to h = h.1.0.1
    second_quiet (Suffix n) none from to h = tt
    second_quiet (Suffix n) (more x none) from to h = tt
    second_quiet (Suffix n) (more x (more (Node g ps at end) rest)) from to h = h.1.0.1
    second_quiet (Binary n) none from to h = tt
    second_quiet (Binary n) (more x none) from to h = tt
    second_quiet (Binary n) (more x (more (Node g ps at end) rest)) from to h = h.1.0.1
    second_quiet (Assign n) none from to h = tt
    second_quiet (Assign n) (more x none) from to h = tt
    second_quiet (Assign n) (more x (more (Node g ps at end) rest)) from to h = h.1.0.1
    second_quiet (Cast k) none from to h = tt
    second_quiet (Cast k) (more x none) from to h = tt
    second_quiet (Cast k) (more x (more (Node g ps at end) rest)) from to h = h.1.0.1
    second_quiet SizeOf none from to h = tt
    second_quiet SizeOf (more x none) from to h = tt
    second_quiet SizeOf (more x (more (Node g ps at end) rest)) from to h = h.1.0.1
    second_quiet (SizeOfType k) none from to h = tt
    second_quiet (SizeOfType k) (more x none) from to h = tt
    second_quiet (SizeOfType k) (more x (more (Node g ps at end) rest)) from to h = h.1.0.1

    arguments_quiet : (o : Option Tree) → QuietIf IsSpared (scope_in s (Some f)) o → QuietAll IsSpared (scope_in s (Some f)) (arguments_if o)
    arguments_quiet None h = tt
    arguments_quiet (Some (Node op parts from to)) h = second_quiet op parts from to h.1

    statement_quiet : (st : Stm) → QuietDeed IsSpared (scope_in s (Some f)) (statement_deed f st)
    statement_quiet (Plain at) = plain_quiet (form_at f at) (at_quiet at)
    statement_quiet (Return at) = returned_quiet (form_at f at) (at_quiet at)
    statement_quiet (Open at j d) = evaluated_quiet (form_at f at) (at_quiet at)
    statement_quiet (Close at j d) = evaluated_quiet (form_at f at) (at_quiet at)
    statement_quiet (Call at j callee) = arguments_quiet (option_and_then evaluated (form_at f at)) (evaluated_quiet (form_at f at) (at_quiet at))
    statement_quiet (If at a b) = condition_quiet (form_at f at) (at_quiet at)
    statement_quiet (Break at) = tt
    statement_quiet (Continue at) = tt
    statement_quiet (Group ss) = tt
    statement_quiet (Label at mark j l b) = tt
    statement_quiet (While at b) = tt
    statement_quiet (Do at b) = tt
    statement_quiet (For at init d u b) = tt

    -- so is each of its deeds
    pub deeds_quiet : (i : Item) → QuietDeed IsSpared (scope_in s (Some f)) (deed_of f i)
    deeds_quiet (Todo st) = statement_quiet st
    deeds_quiet (Test at true u b) = condition_quiet (form_at f at) (at_quiet at)
    deeds_quiet (Test at false u b) = tt
    deeds_quiet (After at) = turn_quiet (form_at f at) (at_quiet at)
    deeds_quiet (Entry g j) = tt
    deeds_quiet LoopEnd = tt
    deeds_quiet (End g) = tt
