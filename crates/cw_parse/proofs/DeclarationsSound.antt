-- What is read as a declaration or a header is one.
use Rattle.std.proofs.Common.{◌≡◌, ℕ, ◌<◌, Bool, true, false, not, cond, List, [], ◌∷◌, ◌++◌, length, Option, Some, None, Ok, Err, refl, sym, ap, ◌∙◌, append_assoc, arith}
use Rattle.std.proofs.Common.{length-append, inl, inr}
use Rattle.std.specs.Prelude.{IfOk, ◌≢◌}
use Rattle.std.proofs.lemmas.Bool.{false≢true}
use Rattle.cw_lemmas.proofs.Truths.{and_first}
use Rattle.cw_syntax.specs.declared.program.Name.{Name}
use Rattle.cw_syntax.specs.declared.program.Param.{Param}
use Rattle.cw_syntax.specs.Trees.{Tree, Trees, Prototype}
use Rattle.cw_grammar.specs.declared.terminals.Lexeme.{Lexeme}
use Rattle.cw_grammar.specs.declared.terminals.Terminal.{Terminal}
use Rattle.cw_grammar.specs.declared.terminals.Terminal.TheVariants as w
use Rattle.cw_grammar.specs.Terminals.{same}
use Rattle.cw_grammar.specs.Lexemes.{Is, terminals, name_of, from_of, to_of, IsFlag, IsOptional, IsBetween, trees}
use Rattle.cw_grammar.specs.Types.{AreStars}
use Rattle.cw_grammar.specs.Expressions.{IsExpression, nesting_limit}
use Rattle.cw_grammar.specs.Declarations.{IsName, IsStorage, Specifiers, AreSpecifiers, IsArray, AreElements, IsInitialiser, IsItem, IsDeclaration, IsBrackets, IsParam, AreParams, IsHeader}
use Rattle.cw_grammar.proofs.SameTerminal.{is_plain, same-true}
use Rattle.cw_expressions.specs.Cursor.{begins, after, first, expect}
use Rattle.cw_expressions.specs.TypeReading.{base_of, stars_of, type_name}
use Rattle.cw_expressions.specs.Next.{next_expression}
use Rattle.cw_expressions.proofs.Steps.{if_bind, if_cond, first_takes, expect_takes, begins_takes, from_of_append, to_of_append}
use Rattle.cw_expressions.proofs.TypesSound.{base_takes, stars_take, type_name_takes}
use Rattle.cw_expressions.proofs.Whole.{next_sound}
use Rattle.cw_parse.specs.Lists.{Read, separated}
use Rattle.cw_parse.specs.DeclarationReading.{storage, flag, specifiers, next_name, optional_expression, array, more_elements, elements, value, initialiser, item, declaration}
use Rattle.cw_parse.specs.DeclarationReading.{optional_name, brackets, param, is_void, params, front, header_behind, header}
use Rattle.cw_parse.proofs.BothWays.{Took, joined}
use Rattle.cw_parse.proofs.Listed.{Several, separated_sound}

-- an expression, within the greatest nesting that is allowed
abbrev pub Allowed : List Lexeme → Tree → Type 0
Allowed ts e = IsExpression nesting_limit ts e

-- ---- specifiers

abbrev TakesStorage : List Lexeme → (Bool × Bool) × List Lexeme → Type 0
TakesStorage ts x = (a : List Lexeme) × (ts ≡ a ++ x.1) × IsStorage a x.0.0 x.0.1

pub one : (terminal : Terminal) (t : Lexeme) → Is terminal t → terminals (t ∷ []) ≡ terminal ∷ []
one terminal t is = ap (λ (z : Terminal). z ∷ []) is

storage_by : (ts : List Lexeme) (external fixed : Bool) → begins w.Extern ts ≡ external → begins w.Static ts ≡ fixed
    → TakesStorage ts (cond external ((true, false), after ts) (cond fixed ((false, true), after ts) ((false, false), ts)))
storage_by ts true fixed e f = let p = begins_takes w.Extern refl ts e in (p.0 ∷ [], p.1, one w.Extern p.0 p.2)
storage_by ts false true e f = let p = begins_takes w.Static refl ts f in (p.0 ∷ [], p.1, one w.Static p.0 p.2)
storage_by ts false false e f = ([], refl, refl)

storage_takes : (ts : List Lexeme) → TakesStorage ts (storage ts)
storage_takes ts = storage_by ts (begins w.Extern ts) (begins w.Static ts) refl refl

abbrev TakesFlag : Terminal → List Lexeme → Bool × List Lexeme → Type 0
TakesFlag terminal ts x = (a : List Lexeme) × (ts ≡ a ++ x.1) × IsFlag terminal a x.0

flag_by : (terminal : Terminal) → is_plain terminal ≡ true → (ts : List Lexeme) (b : Bool) → begins terminal ts ≡ b → TakesFlag terminal ts (cond b (true, after ts) (false, ts))
flag_by terminal plain ts true e = let p = begins_takes terminal plain ts e in (p.0 ∷ [], p.1, one terminal p.0 p.2)
flag_by terminal plain ts false e = ([], refl, refl)

flag_takes : (terminal : Terminal) → is_plain terminal ≡ true → (ts : List Lexeme) → TakesFlag terminal ts (flag terminal ts)
flag_takes terminal plain ts = flag_by terminal plain ts (begins terminal ts) refl

pub specifiers_sound : (ts : List Lexeme) → IfOk (specifiers ts) (Took AreSpecifiers ts)
unfolding specifiers
specifiers_sound ts =
    let s = storage_takes ts in
    let c = flag_takes w.Const refl (storage ts).1 in
    if_bind (base_of (flag w.Const (storage ts).1).1) _ _ _ (base_takes (flag w.Const (storage ts).1).1) (λ b p. (
      s.0 ++ (c.0 ++ p.0),
      joined _ _ _ _ _ s.1 (joined _ _ _ _ _ c.1 p.1),
      (s.0, c.0, p.0, refl, s.2, c.2, p.3),
    ))

pub name_sound : (ts : List Lexeme) → IfOk (next_name ts) (Took IsName ts)
unfolding next_name
name_sound ts = if_bind (expect w.Name ts) _ _ _ (expect_takes w.Name refl ts) (λ n p. (n.0 ∷ [], p.0, (n.0, refl, p.1, refl)))

-- ---- declarations

pub optional_sound : (closes : Terminal) (ts : List Lexeme) → IfOk (optional_expression closes ts) (Took (IsOptional Allowed) ts)
unfolding optional_expression
optional_sound closes ts =
    if_cond (begins closes ts) _ _ _
    (λ e. ([], refl, refl))
    (λ e. if_bind (next_expression ts) _ _ _ (next_sound ts) (λ x f. (f.0, f.1, f.2)))

array_sound : (ts : List Lexeme) → IfOk (array ts) (Took (IsArray Allowed) ts)
unfolding array
array_sound ts =
    if_cond (begins w.OpenBracket ts) _ _ _
    (λ e.
    let o = begins_takes w.OpenBracket refl ts e in
    if_bind (optional_expression w.CloseBracket (after ts)) _ _ _ (optional_sound w.CloseBracket (after ts)) (λ size f.
    if_bind (expect w.CloseBracket size.1) _ _ _ (expect_takes w.CloseBracket refl size.1) (λ c q. (
      o.0 ∷ f.0 ++ c.0 ∷ [],
      o.1 ∙ ap (λ (z : List Lexeme). o.0 ∷ z) (joined _ _ _ (c.0 ∷ []) _ f.1 q.0),
      (o.0, f.0, c.0, refl, o.2, q.1, f.2),
    ))))
    (λ e. ([], refl, refl))

pub more_comma : (ts : List Lexeme) → more_elements ts ≡ true → begins w.Comma ts ≡ true
more_comma ts e = and_first (begins w.Comma ts) (not (begins w.CloseBrace (after ts))) e

elements_sound : (ts : List Lexeme) → IfOk (elements ts) (Took (AreElements Allowed) ts)
unfolding elements
elements_sound ts =
    if_bind (separated next_expression more_elements ts) _ _ _ (separated_sound next_expression more_elements more_comma Allowed next_sound ts) (λ es f.
    let c = flag_takes w.Comma refl es.1 in (
      f.0 ++ c.0,
      joined _ _ _ _ _ f.1 c.1,
      (f.0, c.0, (flag w.Comma es.1).0, refl, f.2.0, f.2.1, c.2),
    ))

-- what stands behind `=`
abbrev IsValue : List Lexeme → Trees × Bool → Type 0
IsValue ts x = (t : Lexeme) → Is w.Assign t → IsInitialiser Allowed (t ∷ ts) x.0 x.1

braced : (es : List Tree) (ts : List Lexeme) → IsBetween w.OpenBrace w.CloseBrace (AreElements Allowed) ts es → IsValue ts (trees es, true)
braced [] ts h t is = (t, ts, [], refl, is, h, refl)
braced (e ∷ []) ts h t is = (t, ts, e ∷ [], refl, is, h, refl)
braced (e ∷ f ∷ es) ts h t is = (t, ts, e ∷ f ∷ es, refl, is, h, refl)

value_sound : (ts : List Lexeme) → IfOk (value ts) (Took IsValue ts)
unfolding value
value_sound ts =
    if_cond (begins w.OpenBrace ts) _ _ _
    (λ e.
    let o = begins_takes w.OpenBrace refl ts e in
    if_bind (elements (after ts)) _ _ _ (elements_sound (after ts)) (λ es f.
    if_bind (expect w.CloseBrace es.1) _ _ _ (expect_takes w.CloseBrace refl es.1) (λ c q. (
      o.0 ∷ f.0 ++ c.0 ∷ [],
      o.1 ∙ ap (λ (z : List Lexeme). o.0 ∷ z) (joined _ _ _ (c.0 ∷ []) _ f.1 q.0),
      braced es.0 (o.0 ∷ f.0 ++ c.0 ∷ []) (o.0, f.0, c.0, refl, o.2, q.1, f.2),
    ))))
    (λ e. if_bind (next_expression ts) _ _ _ (next_sound ts) (λ x f. (f.0, f.1, λ t is. (t, f.0, refl, is, f.2))))

abbrev IsInitial : List Lexeme → Trees × Bool → Type 0
IsInitial ts x = IsInitialiser Allowed ts x.0 x.1

initialiser_sound : (ts : List Lexeme) → IfOk (initialiser ts) (Took IsInitial ts)
unfolding initialiser
initialiser_sound ts =
    if_cond (begins w.Assign ts) _ _ _
    (λ e. let t = begins_takes w.Assign refl ts e in by_value t.0 t.2 t.1 (value (after ts)) (value_sound (after ts)))
    (λ e. ([], refl, refl)) where
      by_value : (t : Lexeme) → Is w.Assign t → ts ≡ t ∷ after ts → (r : Read (Trees × Bool)) → IfOk r (Took IsValue (after ts)) → IfOk r (Took IsInitial ts)
      by_value t is parts (Ok x) f = (t ∷ f.0, parts ∙ ap (λ (z : List Lexeme). t ∷ z) f.1, f.2 t is)
      by_value t is parts (Err e) f = tt

pub item_sound : (specs : Specifiers) (ts : List Lexeme) → IfOk (item specs ts) (Took (IsItem Allowed specs) ts)
unfolding item
item_sound specs ts =
    let s = stars_take ts in
    if_bind (next_name (stars_of ts).1) _ _ _ (name_sound (stars_of ts).1) (λ n p.
    if_bind (array n.1) _ _ _ (array_sound n.1) (λ a q.
    if_bind (initialiser a.1) _ _ _ (initialiser_sound a.1) (λ i r. (
      s.0 ++ (p.0 ++ (q.0 ++ r.0)),
      joined _ _ _ _ _ s.1 (joined _ _ _ _ _ p.1 (joined _ _ _ _ _ q.1 r.1)),
      (s.0, p.0, q.0, r.0, (stars_of ts).0, refl, s.2, refl, p.2, q.2, r.2),
    ))))

pub items_sound : (specs : Specifiers) (ts : List Lexeme) → IfOk (separated (item specs) (begins w.Comma) ts) (Took (Several (IsItem Allowed specs)) ts)
items_sound specs ts = separated_sound (item specs) (begins w.Comma) (λ z e. e) (IsItem Allowed specs) (item_sound specs) ts

pub declaration_sound : (ts : List Lexeme) → IfOk (declaration ts) (Took (IsDeclaration Allowed) ts)
unfolding declaration
declaration_sound ts =
    if_bind (first ts) _ _ _ (first_takes ts) (λ t one_token.
    if_bind (specifiers ts) _ _ _ (specifiers_sound ts) (λ specs p.
    if_bind (separated (item specs.0) (begins w.Comma) specs.1) _ _ _ (items_sound specs.0 specs.1) (λ items q.
    if_bind (expect w.Semicolon items.1) _ _ _ (expect_takes w.Semicolon refl items.1) (λ s r.
    let tail : List Lexeme = q.0 ++ s.0 ∷ [] in
    let whole : List Lexeme = p.0 ++ tail in
    let parts : ts ≡ whole ++ s.1 = joined _ _ _ _ _ p.1 (joined _ _ _ (s.0 ∷ []) _ q.1 r.0) in
    let tail_some : 0 < length tail = omega (arith, length-append q.0 (s.0 ∷ [])) in
    let some : 0 < length whole = omega (arith, tail_some, length-append p.0 tail) in
    let ends : to_of whole ≡ s.0.to = to_of_append p.0 tail tail_some ∙ to_of_append q.0 (s.0 ∷ []) (omega arith) in (
      whole,
      parts,
      (p.0, tail, specs.0, refl, p.2, refl, refl, refl, q.2.0, (q.0, s.0, refl, r.1, q.2.1), sym (ap from_of one_token) ∙ ap from_of parts ∙ from_of_append whole s.1 some, sym ends),
    )))))

-- ---- headers

abbrev TakesOptionalName : List Lexeme → Option Name × List Lexeme → Type 0
TakesOptionalName ts x = (a : List Lexeme) × (ts ≡ a ++ x.1) × IsOptional IsName a x.0

optional_name_takes : (ts : List Lexeme) → TakesOptionalName ts (optional_name ts)
optional_name_takes [] = ([], refl, refl)
optional_name_takes (t ∷ ts) = by_test (same t.terminal w.Name) refl where
  by_test : (b : Bool) → same t.terminal w.Name ≡ b → TakesOptionalName (t ∷ ts) (cond b (Some (name_of t), ts) (None, t ∷ ts))
  by_test true e = (t ∷ [], refl, (t, refl, same-true t.terminal w.Name refl e, refl))
  by_test false e = ([], refl, refl)

pub two : (a b : Terminal) (t u : Lexeme) → Is a t → Is b u → terminals (t ∷ u ∷ []) ≡ a ∷ b ∷ []
two a b t u p q = cc

brackets_sound : (ts : List Lexeme) → IfOk (brackets ts) (Took IsBrackets ts)
unfolding brackets
brackets_sound ts =
    if_cond (begins w.OpenBracket ts) _ _ _
    (λ e.
    let o = begins_takes w.OpenBracket refl ts e in
    if_bind (expect w.CloseBracket (after ts)) _ _ _ (expect_takes w.CloseBracket refl (after ts)) (λ c q. (
      o.0 ∷ c.0 ∷ [],
      o.1 ∙ ap (λ (z : List Lexeme). o.0 ∷ z) q.0,
      two w.OpenBracket w.CloseBracket o.0 c.0 o.2 q.1,
    )))
    (λ e. ([], refl, refl))

pub param_sound : (ts : List Lexeme) → IfOk (param ts) (Took IsParam ts)
unfolding param
param_sound ts =
    if_bind (type_name ts) _ _ _ (type_name_takes ts) (λ k p.
    let n = optional_name_takes k.1 in
    if_bind (brackets (optional_name k.1).1) _ _ _ (brackets_sound (optional_name k.1).1) (λ b q. (
      p.0 ++ (n.0 ++ q.0),
      joined _ _ _ _ _ p.1 (joined _ _ _ _ _ n.1 q.1),
      (p.0, n.0, q.0, refl, p.3, n.2, q.2),
    )))

-- parameters before a parenthesis
abbrev TakesParams : List Lexeme → List Param × List Lexeme → Type 0
TakesParams ts x = (a : List Lexeme) × (ts ≡ a ++ x.1) × (begins w.Close x.1 ≡ true → AreParams a x.0)

void_takes : (ts : List Lexeme) → is_void ts ≡ true → TakesParams ts ([], after ts)
void_takes ts e = let t = begins_takes w.Void refl ts (and_first (begins w.Void ts) (begins w.Close (after ts)) e) in (t.0 ∷ [], t.1, λ close. inl (one w.Void t.0 t.2, refl))

not_void : (a rest : List Lexeme) → is_void (a ++ rest) ≡ false → begins w.Close rest ≡ true → terminals a ≢ w.Void ∷ []
not_void [] rest e close same_terminals = absurd (cc)
not_void (t ∷ []) rest e close same_terminals = let is : t.terminal ≡ w.Void = cc in false≢true (sym e ∙ rw (is, close) refl)
not_void (t ∷ u ∷ a) rest e close same_terminals = absurd (cc)

no_terminals : terminals [] ≢ w.Void ∷ []
no_terminals e = absurd (cc)

params_sound : (ts : List Lexeme) → IfOk (params ts) (TakesParams ts)
unfolding params
params_sound ts =
    if_cond (begins w.Close ts) _ _ _
    (λ e. ([], refl, λ close. inr (no_terminals, refl)))
    (λ e.
    if_cond (is_void ts) _ _ _
    (λ f. void_takes ts f)
    (λ f. by_list (separated param (begins w.Comma) ts) (separated_sound param (begins w.Comma) (λ z g. g) IsParam param_sound ts) f)) where
      by_list : (r : Read (List Param)) → IfOk r (Took (Several IsParam) ts) → is_void ts ≡ false → IfOk r (TakesParams ts)
      by_list (Ok x) f e = (f.0, f.1, λ close. inr (not_void f.0 x.1 (ap is_void (sym f.1) ∙ e) close, f.2.1))
      by_list (Err x) f e = tt

abbrev TakesFront : List Lexeme → ((Specifiers × ℕ) × Name) × List Lexeme → Type 0
TakesFront ts x = (a : List Lexeme) × (b : List Lexeme) × (c : List Lexeme) × (ts ≡ a ++ (b ++ (c ++ x.1))) × AreSpecifiers a x.0.0.0 × AreStars b x.0.0.1 × IsName c x.0.1

front_sound : (ts : List Lexeme) → IfOk (front ts) (TakesFront ts)
unfolding front
front_sound ts =
    if_bind (specifiers ts) _ _ _ (specifiers_sound ts) (λ specs p.
    let s = stars_take specs.1 in
    if_bind (next_name (stars_of specs.1).1) _ _ _ (name_sound (stars_of specs.1).1) (λ n q. (
      p.0,
      s.0,
      q.0,
      p.1 ∙ ap (λ (z : List Lexeme). p.0 ++ z) (s.1 ∙ ap (λ (z : List Lexeme). s.0 ++ z) q.1),
      p.2,
      s.2,
      q.2,
    )))

-- a header, seen as its prototype
abbrev pub HasHeader : List Lexeme → Prototype → Type 0
HasHeader ts p = IsHeader ts p.name p.result p.params

regroup : (a b c d rest : List Lexeme) → a ++ (b ++ (c ++ (d ++ rest))) ≡ (a ++ (b ++ (c ++ d))) ++ rest
regroup a b c d rest = joined _ a _ (b ++ (c ++ d)) rest refl (joined _ b _ (c ++ d) rest refl (sym (append_assoc c d rest)))

pub header_sound : (ts : List Lexeme) → IfOk (header ts) (Took HasHeader ts)
unfolding header header_behind
header_sound ts =
    if_bind (front ts) _ _ _ (front_sound ts) (λ f p.
    if_bind (expect w.Open f.1) _ _ _ (expect_takes w.Open refl f.1) (λ o q.
    if_bind (params o.1) _ _ _ (params_sound o.1) (λ ps r.
    if_bind (expect w.Close ps.1) _ _ _ (expect_takes w.Close refl ps.1) (λ c s.
    let last : List Lexeme = o.0 ∷ r.0 ++ c.0 ∷ [] in
    let close : begins w.Close ps.1 ≡ true = rw (s.0, s.1) refl in
    let behind : f.1 ≡ last ++ c.1 = q.0 ∙ ap (λ (z : List Lexeme). o.0 ∷ z) (joined _ _ _ (c.0 ∷ []) _ r.1 s.0) in (
      p.0 ++ (p.1 ++ (p.2 ++ last)),
      p.3 ∙ ap (λ (z : List Lexeme). p.0 ++ (p.1 ++ (p.2 ++ z))) behind ∙ regroup p.0 p.1 p.2 last c.1,
      (p.0, p.1, p.2, last, f.0.0.0, f.0.0.1, refl, p.4, p.5, refl, p.6, (o.0, r.0, c.0, refl, q.1, s.1, r.2 close)),
    )))))
