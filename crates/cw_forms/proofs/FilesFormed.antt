-- The form of a whole source: its functions, declarations and prototypes.
use Rattle.std.proofs.Common.{◌≡◌, ◌≢◌, ℕ, ◌+◌, ◌<◌, ◌≤◌, true, false, nat_le, nat_lt, List, [], ◌∷◌, ◌++◌, map, Option, None, Some, refl, sym, ap, subst, ◌∙◌, arith}
use Rattle.std.specs.List.{flat_map, list_all}
use Rattle.std.proofs.lemmas.Bool.{and_parts, and_from}
use Rattle.std.proofs.lemmas.Bool.Decides.{nat_tests}
use Rattle.std.proofs.lemmas.List.{append-nil}
use Rattle.cw_syntax.specs.declared.program.Name.{Name}
use Rattle.cw_syntax.specs.declared.program.Param.{Param}
use Rattle.cw_syntax.specs.Trees.{Statements, Statement, Declared, Declaration, Definition}
use Rattle.cw_grammar.specs.declared.terminals.Lexeme.{Lexeme}
use Rattle.cw_grammar.specs.Lexemes.{AreAll, AreSeparated, statements}
use Rattle.cw_grammar.specs.Declarations.{Expressions, IsName, Specifiers, IsItem}
use Rattle.cw_grammar.specs.Expressions.{IsExpression}
use Rattle.cw_grammar.specs.Statements.{InBlock, IsStatement}
use Rattle.cw_grammar.specs.Files.{AreNamed, IsFunction, Part as FilePart, Declares, Holds, Defines, IsPart, file_of}
use Rattle.cw_scope.specs.Walks.{Nested, nested_all, body_of}
use Rattle.cw_scope.specs.Descriptors.{is_before}
use Rattle.cw_detach.specs.Form.{nesting_all}
use Rattle.cw_source.proofs.Lying.{Lie, lie_le, split, lie_at}
use Rattle.cw_forms.specs.Moved.{moved, Pairs, SameName}
use Rattle.cw_forms.specs.Declared.{Both, SameParam, SameItem}
use Rattle.cw_forms.specs.Statements.{pairs_in, StandFor, SameFunction, StaysBefore, StayBefore, SameFile}
use Rattle.cw_forms.proofs.Expressions.{expression_moves}
use Rattle.cw_forms.proofs.Declarations.{declaration_moves, header_moves, prototype_moves}
use Rattle.cw_forms.proofs.Parts.{Part, KeptAs, Then, kept_part, part_then, part_as}
use Rattle.cw_forms.proofs.Formed.{all_formed, statement_formed}

-- a parameter with a name has one
param_named : (source form : List ℕ) (p q : Option Name) → Both (SameName source form) p q → p ≢ None → q ≢ None
param_named source form None None h some = some
param_named source form None (Some y) h some = absurd h
param_named source form (Some x) None h some = absurd h
param_named source form (Some x) (Some y) h some = λ e. cc

params_named : (source form : List ℕ) (ps qs : List Param) → Pairs (SameParam source form) ps qs → AreNamed ps → AreNamed qs
params_named source form [] [] h named = tt
params_named source form [] (q ∷ qs) h named = absurd h
params_named source form (p ∷ ps) [] h named = absurd h
params_named source form (p ∷ ps) (q ∷ qs) h named = (param_named source form p.name q.name h.0 named.0, params_named source form ps qs h.1 named.1)

-- ---- where names of a file stand

abbrev AllFrom : ℕ → List Declared → Type 0
AllFrom lo [] = Unit {0}
AllFrom lo (x ∷ xs) = (lo ≤ x.name.from) × AllFrom lo xs

abbrev GlobalsFrom : ℕ → List Declaration → Type 0
GlobalsFrom lo [] = Unit {0}
GlobalsFrom lo (d ∷ ds) = AllFrom lo d.items × GlobalsFrom lo ds

from_less : (a b : ℕ) (xs : List Declared) → a ≤ b → AllFrom b xs → AllFrom a xs
from_less a b [] le h = tt
from_less a b (x ∷ xs) le h = ((let first = h.0 in omega (arith, first, le)), from_less a b xs le h.1)

globals_less : (a b : ℕ) (ds : List Declaration) → a ≤ b → GlobalsFrom b ds → GlobalsFrom a ds
globals_less a b [] le h = tt
globals_less a b (d ∷ ds) le h = (from_less a b d.items le h.0, globals_less a b ds le h.1)

-- a name among tokens
name_within : (b : List Lexeme) (name : Name) (lo hi : ℕ) → IsName b name → Lie lo hi b → (lo ≤ name.from) × (name.from < hi)
name_within b name lo hi (n, whole, is, e) lie =
    let l = lie_at lo hi b (n ∷ []) whole lie in
    let same : name.from ≡ n.from = ap (λ (z : Name). z.from) e in
    let p = l.0 in let q = l.1 in let r = l.2 in
    (omega (arith, same, p), omega (arith, same, q, r))

module _ (E : Expressions) (specs : Specifiers) where
  item_from : (ts : List Lexeme) (x : Declared) (lo hi : ℕ) → IsItem E specs ts x → Lie lo hi ts → lo ≤ x.name.from
  item_from ts x lo hi (a, b, c, d, stars, whole, are, kind, name, array, init) lie =
      let p = split lo hi a (b ++ (c ++ d)) (lie_at lo hi ts (a ++ (b ++ (c ++ d))) whole lie) in
      let q = split p.0 hi b (c ++ d) p.2 in
      let le = lie_le lo p.0 a p.1 in
      let at = (name_within b x.name p.0 q.0 name q.1).0 in omega (arith, le, at)

  items_from : (xs : List Declared) (ts : List Lexeme) (lo hi : ℕ) → AreSeparated (IsItem E specs) ts xs → Lie lo hi ts → AllFrom lo xs
  items_from [] ts lo hi is lie = tt
  items_from (x ∷ []) ts lo hi is lie = (item_from ts x lo hi is lie, tt)
  items_from (x ∷ y ∷ ys) ts lo hi (a, c, b, whole, comma, first, rest) lie =
      let p = split lo hi a (c ∷ b) (lie_at lo hi ts (a ++ c ∷ b) whole lie) in
      let le = lie_le lo p.0 a p.1 in
      let at = p.2.0 in let on = p.2.1 in
      (item_from a x lo p.0 first p.1, from_less lo c.to (y ∷ ys) (omega (arith, le, at, on)) (items_from (y ∷ ys) b c.to hi rest p.2.2))

function_within : (limit : ℕ) (f : Definition) (ts : List Lexeme) (lo hi : ℕ) → IsFunction limit ts f → Lie lo hi ts → f.name.from < hi
function_within limit f ts lo hi (header, o, x, c, body, whole, (a, b, n, e, specs, stars, whole2, are, stars_are, result, name, params), named, opens, brace, all, body_is, closes) lie =
    let p = split lo hi header (o ∷ x ++ c ∷ []) (lie_at lo hi ts (header ++ (o ∷ x ++ c ∷ [])) whole lie) in
    let q = split lo p.0 a (b ++ (n ++ e)) (lie_at lo p.0 header (a ++ (b ++ (n ++ e))) whole2 p.1) in
    let r = split q.0 p.0 b (n ++ e) q.2 in
    let s = split r.0 p.0 n e r.2 in
    let at = (name_within n f.name r.0 s.0 name s.1).1 in
    let le = lie_le s.0 p.0 e s.2 in
    let far = lie_le p.0 hi (o ∷ x ++ c ∷ []) p.2 in omega (arith, at, le, far)

globals_from : (limit : ℕ) (parts : List FilePart) (ts : List Lexeme) (lo hi : ℕ) → AreAll (IsPart limit) ts parts → Lie lo hi ts → GlobalsFrom lo (file_of parts).globals
globals_from limit [] ts lo hi none lie = tt
globals_from limit (Declares x ∷ parts) ts lo hi (a, b, whole, first, rest) lie =
    let p = split lo hi a b (lie_at lo hi ts (a ++ b) whole lie) in
    globals_less lo p.0 _ (lie_le lo p.0 a p.1) (globals_from limit parts b p.0 hi rest p.2)
globals_from limit (Holds x ∷ parts) ts lo hi (a, b, whole, (specs_tokens, items_tokens, specs, whole2, are, external, fixed, constant, some, (inner, c, whole3, is, items), from, to), rest) lie =
    let p = split lo hi a b (lie_at lo hi ts (a ++ b) whole lie) in
    let q = split lo p.0 specs_tokens items_tokens (lie_at lo p.0 a (specs_tokens ++ items_tokens) whole2 p.1) in
    let r = split q.0 p.0 inner (c ∷ []) (lie_at q.0 p.0 items_tokens (inner ++ c ∷ []) whole3 q.2) in (
      from_less lo q.0 x.items (lie_le lo q.0 specs_tokens q.1) (items_from (IsExpression limit) specs x.items inner q.0 r.0 items r.1),
      globals_less lo p.0 _ (lie_le lo p.0 a p.1) (globals_from limit parts b p.0 hi rest p.2),
    )
globals_from limit (Defines f ∷ parts) ts lo hi (a, b, whole, first, rest) lie =
    let p = split lo hi a b (lie_at lo hi ts (a ++ b) whole lie) in
    globals_less lo p.0 _ (lie_le lo p.0 a p.1) (globals_from limit parts b p.0 hi rest p.2)

module _ (source form : List ℕ) (names : List (List ℕ)) (limit : ℕ) (enough : 2 ≤ limit) where
  abbrev P : List Lexeme → List Nested → (ℕ → List Lexeme → Type 0) → Type 0
  P ts ps R = Part source form names ts ps R

  abbrev K : List Lexeme → ℕ → List Lexeme → Type 0
  K ts d us = KeptAs source form names ts d us

  abbrev MadeAll : List Nested → (v : ℕ) → ℕ → List Lexeme → Type 0
  MadeAll ps v d us =
      (ss : List Statement) × AreAll (IsStatement limit limit InBlock) us ss × StandFor source form ps (nested_all false (statements ss)) × (nesting_all form [] (statements ss) ≡ v)

  -- one function nests as deep in the form as the other was reckoned to
  abbrev pub NestsAs : Definition → Definition → Type 0
  NestsAs f g = nesting_all form [] g.body ≡ nesting_all source names f.body

  abbrev MadeFunction : Definition → ℕ → List Lexeme → Type 0
  MadeFunction f d us = (g : Definition) × IsFunction limit us g × SameFunction source form f g × (g.name.from ≡ f.name.from + d) × NestsAs f g

  function_formed : (ts : List Lexeme) (f : Definition) → IsFunction limit ts f → nesting_all source names f.body ≤ limit → P ts (body_of f) (MadeFunction f)
  function_formed ts f (header, o, x, c, body, whole, header_is, named, opens, brace, all, body_is, closes) deep =
      let ps = nested_all false (statements body) in
      let low : nesting_all source names (statements body) ≤ limit = subst (λ (z : Statements). nesting_all source names z ≤ limit) body_is deep in
      let w = nesting_all source names (statements body) in
      let spans : pairs_in source names (body_of f) ≡ pairs_in source names (ps ++ []) =
      ap (λ (z : Statements). pairs_in source names (nested_all false z)) body_is ∙ ap (pairs_in source names) (sym (append-nil ps)) in
      part_as source form names (header ++ (o ∷ (x ++ c ∷ []))) ts (ps ++ []) (body_of f)
      (Then source form names (K header) (Then source form names (K (o ∷ [])) (Then source form names (MadeAll ps w) (K (c ∷ []))))) (MadeFunction f) whole spans
      (λ d us t. (
      let u = t.5 in
      let v = u.5 in
      let r = header_moves source form d header f.name f.result f.params t.4.1 header_is in
      let us_is : us ≡ map (moved d) header ++ (moved t.2 o ∷ (v.0 ++ moved v.2 c ∷ [])) =
      t.3 ∙ ap (λ (z : List Lexeme). z ++ t.1) t.4.0
      ∙ ap (λ (z : List Lexeme). map (moved d) header ++ z)
      (u.3 ∙ ap (λ (z : List Lexeme). z ++ u.1) u.4.0 ∙ ap (λ (z : List Lexeme). moved t.2 o ∷ z) (v.3 ∙ ap (λ (z : List Lexeme). v.0 ++ z) v.5.0)) in
      let g : Definition = record { name = r.0; result = f.result; params = r.1; brace = (moved t.2 o).to; body = statements v.4.0 } in
      let stand : StandFor source form (body_of f) (body_of g) = subst (λ (z : Statements). StandFor source form (nested_all false z) (body_of g)) (sym body_is) v.4.2 in (
        g,
        (map (moved d) header, moved t.2 o, v.0, moved v.2 c, v.4.0, us_is, r.2, params_named source form f.params r.1 r.4 named, opens, refl, v.4.1, refl, closes),
        (d, r.3, r.4, stand),
        r.3.1,
        v.4.3 ∙ sym (ap (nesting_all source names) body_is),
      )))
      (part_then source form names header (o ∷ (x ++ c ∷ [])) [] (ps ++ []) (K header) (Then source form names (K (o ∷ [])) (Then source form names (MadeAll ps w) (K (c ∷ []))))
      (kept_part source form names header)
      (part_then source form names (o ∷ []) (x ++ c ∷ []) [] (ps ++ []) (K (o ∷ [])) (Then source form names (MadeAll ps w) (K (c ∷ []))) (kept_part source form names (o ∷ []))
      (part_then source form names x (c ∷ []) ps [] (MadeAll ps w) (K (c ∷ []))
      (all_formed source form names limit enough limit limit (statement_formed source form names limit enough limit limit) x body false all low) (kept_part source form names (c ∷ [])))))

  -- functions lie so many bytes further back, or more
  abbrev Behind : ℕ → List Definition → List Definition → Type 0
  Behind d fs gs = Pairs (λ f g. f.name.from + d ≤ g.name.from) fs gs

  behind_less : (d e : ℕ) (fs gs : List Definition) → d ≤ e → Behind e fs gs → Behind d fs gs
  behind_less d e [] [] le h = tt
  behind_less d e [] (g ∷ gs) le h = absurd h
  behind_less d e (f ∷ fs) [] le h = absurd h
  behind_less d e (f ∷ fs) (g ∷ gs) le h = ((let first = h.0 in omega (arith, first, le)), behind_less d e fs gs le h.1)

  before_moved : (d p : ℕ) (fs gs : List Definition) → Behind d fs gs → is_before p fs ≡ true → is_before (p + d) gs ≡ true
  before_moved d p [] [] h e = refl
  before_moved d p [] (g ∷ gs) h e = absurd h
  before_moved d p (f ∷ fs) [] h e = absurd h
  before_moved d p (f ∷ fs) (g ∷ gs) h e =
      let both = and_parts (nat_lt p f.name.from) (is_before p fs) e in
      and_from (nat_lt (p + d) g.name.from) (is_before (p + d) gs) (further p f.name.from g.name.from d h.0 both.0) (before_moved d p fs gs h.1 both.1)
    where
      further : (p f g d : ℕ) → f + d ≤ g → nat_lt p f ≡ true → nat_lt (p + d) g ≡ true
      further p f g d le lt = grind (arith, nat_tests)

  items_before : (d : ℕ) (fs gs : List Definition) (xs ys : List Declared) → Behind d fs gs → Pairs (SameItem source form d) xs ys → Pairs (StaysBefore source form fs gs) xs ys
  items_before d fs gs [] [] h k = tt
  items_before d fs gs [] (y ∷ ys) h k = absurd k
  items_before d fs gs (x ∷ xs) [] h k = absurd k
  items_before d fs gs (x ∷ xs) (y ∷ ys) h k =
      ((λ e. subst (λ (z : ℕ). is_before z gs ≡ true) (sym k.0.1.1) (before_moved d x.name.from fs gs h e)), items_before d fs gs xs ys h k.1)

  -- behind a function nothing stands before all functions
  items_behind : (f g : Definition) (fs gs : List Definition) (lo : ℕ) (xs ys : List Declared) → f.name.from < lo → AllFrom lo xs → Pairs (StaysBefore source form fs gs) xs ys
      → Pairs (StaysBefore source form (f ∷ fs) (g ∷ gs)) xs ys
  items_behind f g fs gs lo [] [] lt h k = tt
  items_behind f g fs gs lo [] (y ∷ ys) lt h k = absurd k
  items_behind f g fs gs lo (x ∷ xs) [] lt h k = absurd k
  items_behind f g fs gs lo (x ∷ xs) (y ∷ ys) lt h k =
      ((λ e. absurd (never x.name.from f.name.from lo lt h.0 (and_parts (nat_lt x.name.from f.name.from) (is_before x.name.from fs) e).0)), items_behind f g fs gs lo xs ys lt h.1 k.1)
    where
      never : (p q lo : ℕ) → q < lo → lo ≤ p → nat_lt p q ≡ true → ⊥
      never p q lo lt le e = grind (arith, nat_tests)

  globals_behind : (f g : Definition) (fs gs : List Definition) (lo : ℕ) (cs bs : List Declaration) → f.name.from < lo → GlobalsFrom lo cs → Pairs (StayBefore source form fs gs) cs bs
      → Pairs (StayBefore source form (f ∷ fs) (g ∷ gs)) cs bs
  globals_behind f g fs gs lo [] [] lt h k = tt
  globals_behind f g fs gs lo [] (b ∷ bs) lt h k = absurd k
  globals_behind f g fs gs lo (a ∷ cs) [] lt h k = absurd k
  globals_behind f g fs gs lo (a ∷ cs) (b ∷ bs) lt h k = (items_behind f g fs gs lo a.items b.items lt h.0 k.0, globals_behind f g fs gs lo cs bs lt h.1 k.1)

  abbrev MadeFile : List FilePart → ℕ → List Lexeme → Type 0
  MadeFile parts d us =
      (made : List FilePart) × AreAll (IsPart limit) us made × SameFile source form (file_of parts) (file_of made) × Behind d (file_of parts).functions (file_of made).functions
      × Pairs NestsAs (file_of parts).functions (file_of made).functions

  abbrev pub AreShallow : List Definition → Type 0
  AreShallow [] = Unit {0}
  AreShallow (f ∷ fs) = (nesting_all source names f.body ≤ limit) × AreShallow fs

  abbrev bodies : List FilePart → List Nested
  bodies parts = flat_map body_of (file_of parts).functions

  pub parts_formed : (parts : List FilePart) (ts : List Lexeme) (lo hi : ℕ) → AreAll (IsPart limit) ts parts → Lie lo hi ts → AreShallow (file_of parts).functions
      → P ts (bodies parts) (MadeFile parts)
  parts_formed [] ts lo hi none lie low =
      part_as source form names [] ts [] [] (K []) (MadeFile []) none refl (λ d us k. ([], k.0, record { protos = tt; globals = tt; functions = tt; before = tt }, tt, tt))
      (kept_part source form names [])
  parts_formed (Declares x ∷ parts) ts lo hi (a, b, whole, first, rest) lie low =
      let p = split lo hi a b (subst (λ (z : List Lexeme). Lie lo hi z) whole lie) in
      part_as source form names (a ++ b) ts (bodies parts) (bodies parts) (Then source form names (K a) (MadeFile parts)) (MadeFile (Declares x ∷ parts)) whole refl
      (λ d us t. (
      let r = prototype_moves source form d a x t.4.1 first in
      let h = t.5.2 in (
        Declares r.0 ∷ t.5.0,
        (map (moved d) a, t.1, t.3 ∙ ap (λ (z : List Lexeme). z ++ t.1) t.4.0, r.1, t.5.1),
        record { protos = (r.2, h.protos); globals = h.globals; functions = h.functions; before = h.before },
        behind_less d t.2 _ _ t.6 t.5.3,
        t.5.4,
      )))
      (part_then source form names a b [] (bodies parts) (K a) (MadeFile parts) (kept_part source form names a) (parts_formed parts b p.0 hi rest p.2 low))
  parts_formed (Holds x ∷ parts) ts lo hi (a, b, whole, first, rest) lie low =
      let p = split lo hi a b (subst (λ (z : List Lexeme). Lie lo hi z) whole lie) in
      part_as source form names (a ++ b) ts (bodies parts) (bodies parts) (Then source form names (K a) (MadeFile parts)) (MadeFile (Holds x ∷ parts)) whole refl
      (λ d us t. (
      let r = declaration_moves source form d (IsExpression limit) (expression_moves source form d limit) a x t.4.1 first in
      let h = t.5.2 in
      let behind = behind_less d t.2 _ _ t.6 t.5.3 in (
        Holds r.0 ∷ t.5.0,
        (map (moved d) a, t.1, t.3 ∙ ap (λ (z : List Lexeme). z ++ t.1) t.4.0, r.1, t.5.1),
        record { protos = h.protos; globals = ((d, r.2), h.globals); functions = h.functions; before = (items_before d _ _ x.items r.0.items behind r.2.2, h.before) },
        behind,
        t.5.4,
      )))
      (part_then source form names a b [] (bodies parts) (K a) (MadeFile parts) (kept_part source form names a) (parts_formed parts b p.0 hi rest p.2 low))
  parts_formed (Defines f ∷ parts) ts lo hi (a, b, whole, first, rest) lie low =
      let p = split lo hi a b (subst (λ (z : List Lexeme). Lie lo hi z) whole lie) in
      let own = function_within limit f a lo p.0 first p.1 in
      let others = globals_from limit parts b p.0 hi rest p.2 in
      part_as source form names (a ++ b) ts (body_of f ++ bodies parts) (body_of f ++ bodies parts) (Then source form names (MadeFunction f) (MadeFile parts)) (MadeFile
      (Defines f ∷ parts)) whole refl
      (λ d us t. (
      let h = t.5.2 in
      let moved_by = t.4.3 in (
        Defines t.4.0 ∷ t.5.0,
        (t.0, t.1, t.3, t.4.1, t.5.1),
        record { protos = h.protos; globals = h.globals; functions = (t.4.2, h.functions); before = globals_behind f t.4.0 _ _ p.0 _ _ own others h.before },
        ((omega (arith, moved_by)), behind_less d t.2 _ _ t.6 t.5.3),
        (t.4.4, t.5.4),
      )))
      (part_then source form names a b (body_of f) (bodies parts) (MadeFunction f) (MadeFile parts) (function_formed a f first low.0) (parts_formed parts b p.0 hi rest p.2 low.1))

  pub shallow_each : (fs : List Definition) → list_all (λ f. nat_le (nesting_all source names f.body) limit) fs ≡ true → AreShallow fs
  shallow_each [] e = tt
  shallow_each (f ∷ fs) e =
      let both = and_parts (nat_le (nesting_all source names f.body) limit) (list_all (λ g. nat_le (nesting_all source names g.body) limit) fs) e in
      (grind (both.0, arith, nat_tests), shallow_each fs both.1)
