-- The recogniser reads what derives a file.
use Rattle.std.proofs.Common.{◌≡◌, ◌≢◌, ℕ, Bool, true, false, List, [], ◌∷◌, ◌++◌, refl, sym, subst, append_assoc, inl, inr, Option, Some, None}
use Rattle.std.specs.Prelude.{is_some, ◌&&◌}
use Rattle.cw_syntax.specs.declared.program.Name.{Name}
use Rattle.cw_syntax.specs.declared.program.CType.{CType}
use Rattle.cw_syntax.specs.declared.program.Param.{Param}
use Rattle.cw_syntax.specs.Trees.{Declaration}
use Rattle.cw_grammar.specs.declared.terminals.Terminal.TheVariants as w
use Rattle.cw_grammar.specs.declared.terminals.Lexeme.{Lexeme}
use Rattle.cw_grammar.specs.Lexemes.{Is, AreAll, IsOptional, AreSeparated}
use Rattle.cw_grammar.specs.Expressions.{IsExpression}
use Rattle.cw_grammar.specs.Declarations.{IsName, IsBrackets, IsParam, AreParams, IsHeader, IsDeclaration}
use Rattle.cw_grammar.specs.Files.{AreNamed, Part, Declares, Holds, Defines, IsPart, IsOfGrammar}
use Rattle.cw_recogniser.specs.declared.kinds.TerminalKind.{TerminalKind}
use Rattle.cw_recogniser.specs.declared.kinds.TerminalKind.TheVariants as k
use Rattle.cw_recogniser.specs.declared.symbols.Symbol.{Symbol}
use Rattle.cw_recogniser.specs.declared.symbols.Symbol.TheVariants as s
use Rattle.cw_recogniser.specs.Kinds.{kind_of_terminal}
use Rattle.cw_recogniser.specs.Language.{AreOfGrammar}
use Rattle.cw_recogniser.specs.Machine.{onto, after, feed, qualified, start}
use Rattle.cw_recogniser.proofs.Accepting.{then_done, accepts, Accepts, takes, step, skip, pass, instead}
use Rattle.cw_recogniser.proofs.Heads.{head, head_is, untaken}
use Rattle.cw_grammar.proofs.Wording.{one_terminal, two_terminals}
use Rattle.cw_recogniser.proofs.TypesRead.{EndsType, reads_stars, stars_end, reads_type_name, Declares as DeclaresSymbol, reads_specifiers}
use Rattle.cw_recogniser.proofs.DeclarationsRead.{FirstItem, first_of_items, first_ends}
use Rattle.cw_recogniser.proofs.StatementsRead.{reads_statements, reads_items}
use Rattle.cw_lemmas.proofs.Truths.{and_false, and_true}

abbrev pub is_named : Param → Bool
is_named p = is_some p.name

abbrev pub all_named : List Param → Bool
all_named [] = true
all_named (p ∷ ps) = is_named p && all_named ps

pub some_name : (name : Option Name) → name ≢ None → is_some name ≡ true
some_name None ne = absurd (ne refl)
some_name (Some x) ne = refl

pub are_named : (ps : List Param) → AreNamed ps → all_named ps ≡ true
are_named [] h = refl
are_named (p ∷ ps) h = rw (some_name p.name h.0) (are_named ps h.1)

-- ---- parameters

-- behind a parameter
abbrev is_param_end : TerminalKind → Bool
is_param_end k.Comma = true
is_param_end k.Close = true
is_param_end _ = false

no_brackets : (kind : TerminalKind) → is_param_end kind ≡ true → is_some (after s.Brackets kind) ≡ false
no_brackets k.OpenBracket e = absurd cc
no_brackets _ e = refl

param_end_type : (kind : TerminalKind) → is_param_end kind ≡ true → is_some (after s.AfterUnsigned kind) ≡ false
param_end_type k.Comma e = refl
param_end_type k.Close e = refl
param_end_type _ e = absurd cc

param_end_stars : (kind : TerminalKind) → is_param_end kind ≡ true → is_some (after s.TwoStars kind) ≡ false
param_end_stars k.Comma e = refl
param_end_stars k.Close e = refl
param_end_stars _ e = absurd cc

-- a nameless parameter ends with its type
nameless_kind : (named : Bool) (below : List Symbol) (kind : TerminalKind) (go : List Symbol → Bool) → then_done (feed (s.MoreParams false ∷ below) kind) go ≡ true
    → then_done (feed (s.AfterType named ∷ below) kind) go ≡ true
nameless_kind named below k.Comma go h = h
nameless_kind named below k.Close go h = h
nameless_kind named below _ go h = absurd cc

nameless : (named : Bool) (below : List Symbol) (ts : List Lexeme) → Accepts (s.MoreParams false ∷ below) ts → Accepts (s.AfterType named ∷ below) ts
nameless named below [] h = absurd (let f = h.ok in cc)
nameless named below (t ∷ ts) h = record { ok = nameless_kind named below (kind_of_terminal t.terminal) (λ next. accepts next ts) h.ok }

param_begins : (named : Bool) (kind : TerminalKind) → is_some (qualified kind) ≡ true → after (s.Param named) kind ≡ onto (qualified kind) (s.TwoStars ∷ s.AfterType named ∷ [])
param_begins named k.Const e = refl
param_begins named k.Void e = refl
param_begins named k.Char e = refl
param_begins named k.Int e = refl
param_begins named k.Long e = refl
param_begins named k.Unsigned e = refl
param_begins named _ e = absurd cc

pub and_assoc : (a b c : Bool) → ((a && b) && c) ≡ (a && (b && c))
and_assoc true b c = refl
and_assoc false b c = refl

reads_brackets : (array : Bool) (ts rest : List Lexeme) (below : List Symbol) → IsBrackets ts array → head is_param_end rest ≡ true → Accepts below rest → Accepts (s.Brackets ∷ below) (ts ++ rest)
reads_brackets true ts rest below d f h = let x = two_terminals ts w.OpenBracket w.CloseBracket d in rw x.2 (step x.3 refl (step x.4 refl h))
reads_brackets false ts rest below d f h = rw d (skip refl (untaken s.Brackets is_param_end no_brackets rest f) h)

-- behind a parameter's type
reads_named : (named array : Bool) (name : Option Name) (b c rest : List Lexeme) (below : List Symbol) → IsOptional IsName b name → IsBrackets c array
    → head is_param_end rest ≡ true → Accepts (s.MoreParams (named && is_some name) ∷ below) rest → Accepts (s.AfterType named ∷ below) (b ++ (c ++ rest))
reads_named named array (Some x) b c rest below (t, e, is, _) d f h =
    rw e (step is refl (reads_brackets array c rest (s.MoreParams named ∷ below) d f (subst (λ (z : Bool). Accepts (s.MoreParams z ∷ below) rest) (and_true named) h)))
reads_named named true None b c rest below e d f h =
    let x = two_terminals c w.OpenBracket w.CloseBracket d in
    rw (e, x.2) (step x.3 refl (step x.4 refl (subst (λ (z : Bool). Accepts (s.MoreParams z ∷ below) rest) (and_false named) h)))
reads_named named false None b c rest below e d f h = rw (e, d) (nameless named below rest (subst (λ (z : Bool). Accepts (s.MoreParams z ∷ below) rest) (and_false named) h))

named_ends : (array : Bool) (name : Option Name) (b c rest : List Lexeme) → IsOptional IsName b name → IsBrackets c array → head is_param_end rest ≡ true → EndsType (b ++ (c ++ rest))
named_ends array (Some x) b c rest (t, e, is, _) d f = rw (e, is) refl
named_ends true None b c rest e d f = let x = two_terminals c w.OpenBracket w.CloseBracket d in rw (e, x.2, x.3) refl
named_ends false None b c rest e d f = rw (e, d) (untaken s.AfterUnsigned is_param_end param_end_type rest f)

named_stars : (array : Bool) (name : Option Name) (b c rest : List Lexeme) → IsOptional IsName b name → IsBrackets c array → head is_param_end rest ≡ true
    → takes s.TwoStars (b ++ (c ++ rest)) ≡ false
named_stars array (Some x) b c rest (t, e, is, _) d f = rw (e, is) refl
named_stars true None b c rest e d f = let x = two_terminals c w.OpenBracket w.CloseBracket d in rw (e, x.2, x.3) refl
named_stars false None b c rest e d f = rw (e, d) (untaken s.TwoStars is_param_end param_end_stars rest f)

reads_param : (named : Bool) (p : Param) (ts rest : List Lexeme) (below : List Symbol) → IsParam ts p → head is_param_end rest ≡ true
    → Accepts (s.MoreParams (named && is_named p) ∷ below) rest → Accepts (s.Param named ∷ below) (ts ++ rest)
reads_param named p ts rest below (a, b, c, e, t, m, d) f h =
    rw (e, append_assoc, append_assoc) (instead {first = s.Qualified} {symbol = s.Param named} (s.TwoStars ∷ s.AfterType named ∷ []) refl (param_begins named) (
    reads_type_name a (b ++ (c ++ rest)) p.kind (s.AfterType named ∷ below) t (named_ends p.array p.name b c rest m d f) (named_stars p.array p.name b c rest m d f)
    (reads_named named p.array p.name b c rest below m d f h)
    ))

reads_list : (named : Bool) (ps : List Param) (p : Param) (ts : List Lexeme) (c : Lexeme) (rest : List Lexeme) (below : List Symbol) → AreSeparated IsParam ts (p ∷ ps)
    → Is w.Close c → Accepts (s.Ending (named && all_named (p ∷ ps)) ∷ below) rest → Accepts (s.Param named ∷ below) (ts ++ (c ∷ rest))
reads_list named [] p ts c rest below d is h =
    reads_param named p ts (c ∷ rest) below d (head_is is_param_end w.Close c rest is refl)
    (step is refl (subst (λ (z : Bool). Accepts (s.Ending (named && z) ∷ below) rest) (and_true (is_named p)) h))
reads_list named (q ∷ ps) p ts c rest below (a, m, b, e, comma, d, g) is h =
    rw (e, append_assoc) (reads_param named p a (m ∷ (b ++ (c ∷ rest))) below d (head_is is_param_end w.Comma m (b ++ (c ∷ rest)) comma refl) (
    step comma refl (reads_list (named && is_named p) ps q b c rest below g is (subst (λ (z : Bool). Accepts (s.Ending z ∷ below) rest) (sym (and_assoc named (is_named p) (all_named (q ∷ ps)))) h))
    ))

-- what may come behind a list with a nameless parameter may come behind any
ending_kind : (below : List Symbol) (kind : TerminalKind) (go : List Symbol → Bool) → then_done (feed (s.Ending false ∷ below) kind) go ≡ true → then_done (feed (s.Ending true ∷ below) kind) go ≡ true
ending_kind below k.Semicolon go h = h
ending_kind below _ go h = absurd cc

ending_wider : (below : List Symbol) (ts : List Lexeme) → accepts (s.Ending false ∷ below) ts ≡ true → accepts (s.Ending true ∷ below) ts ≡ true
ending_wider below [] h = absurd cc
ending_wider below (t ∷ ts) h = ending_kind below (kind_of_terminal t.terminal) (λ next. accepts next ts) h

void_kind : (below : List Symbol) (kind : TerminalKind) (ts : List Lexeme) → then_done (feed (s.TwoStars ∷ s.AfterType true ∷ below) kind) (λ next. accepts next ts) ≡ true
    → then_done (feed (s.AfterVoid ∷ below) kind) (λ next. accepts next ts) ≡ true
void_kind below k.Close ts h = ending_wider below ts h
void_kind below k.Star ts h = h
void_kind below k.Name ts h = h
void_kind below k.OpenBracket ts h = h
void_kind below k.Comma ts h = h
void_kind below _ ts h = absurd cc

behind_void : (below : List Symbol) (ts : List Lexeme) → accepts (s.TwoStars ∷ s.AfterType true ∷ below) ts ≡ true → accepts (s.AfterVoid ∷ below) ts ≡ true
behind_void below [] h = absurd cc
behind_void below (t ∷ ts) h = void_kind below (kind_of_terminal t.terminal) ts h

params_kind : (below : List Symbol) (kind : TerminalKind) (ts : List Lexeme) → then_done (feed (s.Param true ∷ below) kind) (λ next. accepts next ts) ≡ true
    → then_done (feed (s.Params ∷ below) kind) (λ next. accepts next ts) ≡ true
params_kind below k.Void ts h = behind_void below ts h
params_kind below k.Const ts h = h
params_kind below k.Char ts h = h
params_kind below k.Int ts h = h
params_kind below k.Long ts h = h
params_kind below k.Unsigned ts h = h
params_kind below _ ts h = absurd cc

as_params : (below : List Symbol) (ts : List Lexeme) → Accepts (s.Param true ∷ below) ts → Accepts (s.Params ∷ below) ts
as_params below [] h = absurd (let f = h.ok in cc)
as_params below (t ∷ ts) h = record { ok = params_kind below (kind_of_terminal t.terminal) ts h.ok }

reads_params : (ps : List Param) (ts : List Lexeme) (c : Lexeme) (rest : List Lexeme) (below : List Symbol) → AreParams ts ps → Is w.Close c
    → Accepts (s.Ending (all_named ps) ∷ below) rest → Accepts (s.Params ∷ below) (ts ++ (c ∷ rest))
reads_params ps ts c rest below (inl (e, f)) is h =
    let x = one_terminal ts w.Void e in
    rw x.1 (step x.2 refl (step is refl (subst (λ (z : List Param). Accepts (s.Ending (all_named z) ∷ below) rest) f h)))
reads_params [] ts c rest below (inr (_, d)) is h = rw d (step is refl h)
reads_params (p ∷ ps) ts c rest below (inr (_, d)) is h = as_params below (ts ++ (c ∷ rest)) (reads_list true ps p ts c rest below d is h)

-- ---- parts

parts_declare : DeclaresSymbol s.Parts (s.TwoStars ∷ s.Name ∷ s.AfterDeclared ∷ s.Parts ∷ [])
parts_declare kind e = refl

-- the rest of a header, behind its specifiers
reads_header : (ts rest : List Lexeme) (name : Name) (result : CType) (ps : List Param) (below : List Symbol) → below ≡ [] → IsHeader ts name result ps
    → Accepts (s.Ending (all_named ps) ∷ s.Parts ∷ below) rest → Accepts (s.Parts ∷ below) (ts ++ rest)
reads_header ts rest name result ps below _ (a, b, c, d, specs, stars, e, are, stars_are, _, (m, e2, is, _), (o, inner, l, e3, p, q, params)) h =
    let after_name : Accepts (s.AfterDeclared ∷ s.Parts ∷ below) (o ∷ (inner ++ (l ∷ rest))) = step p refl (reads_params ps inner l rest (s.Parts ∷ below) params q h) in
    let ends : EndsType (b ++ (m ∷ o ∷ (inner ++ (l ∷ rest)))) = stars_end stars b (m ∷ o ∷ (inner ++ (l ∷ rest))) stars_are (rw is refl) in
    rw (e, e2, e3, append_assoc, append_assoc, append_assoc) (
    reads_specifiers s.Parts (s.TwoStars ∷ s.Name ∷ s.AfterDeclared ∷ s.Parts ∷ []) parts_declare (b ++ (m ∷ o ∷ (inner ++ (l ∷ rest)))) below ends
    (reads_stars stars b (m ∷ o ∷ (inner ++ (l ∷ rest))) (s.Name ∷ s.AfterDeclared ∷ s.Parts ∷ below) stars_are (rw is refl) (step is refl after_name)) a specs are
    )

-- the rest of a declaration behind its first name
declared_kind : (below : List Symbol) (kind : TerminalKind) (go : List Symbol → Bool) → then_done (feed (s.Array ∷ s.Initialiser ∷ s.MoreItems ∷ s.Semicolon ∷ below) kind) go ≡ true
    → then_done (feed (s.AfterDeclared ∷ below) kind) go ≡ true
declared_kind below k.OpenBracket go h = h
declared_kind below k.Assign go h = h
declared_kind below k.Comma go h = h
declared_kind below k.Semicolon go h = h
declared_kind below _ go h = absurd cc

as_declared : (below : List Symbol) (ts : List Lexeme) → Accepts (s.Array ∷ s.Initialiser ∷ s.MoreItems ∷ s.Semicolon ∷ below) ts → Accepts (s.AfterDeclared ∷ below) ts
as_declared below [] h = absurd (let f = h.ok in cc)
as_declared below (t ∷ ts) h = record { ok = declared_kind below (kind_of_terminal t.terminal) (λ next. accepts next ts) h.ok }

first_declared : (n : ℕ) (ts rest : List Lexeme) (below : List Symbol) → FirstItem n ts rest (s.Semicolon ∷ below) → Accepts (s.TwoStars ∷ s.Name ∷ s.AfterDeclared ∷ below) (ts ++ rest)
first_declared n ts rest below i = rw (i.split, append_assoc)
    (reads_stars i.stars i.a (i.name ∷ (i.others ++ rest)) (s.Name ∷ s.AfterDeclared ∷ below) i.are_stars (rw i.is_name refl) (step i.is_name refl (as_declared below (i.others ++ rest) i.ok)))

reads_global : (n : ℕ) (x : Declaration) (ts rest : List Lexeme) → IsDeclaration (IsExpression n) ts x → Accepts (s.Parts ∷ []) rest → Accepts (s.Parts ∷ []) (ts ++ rest)
reads_global n x ts rest (a, b, specs, e, are, _, _, _, some, d, _, _) h =
    let i : FirstItem n b rest (s.Semicolon ∷ s.Parts ∷ []) = first_of_items n x.items specs b rest (s.Parts ∷ []) some d h in
    rw (e, append_assoc) (reads_specifiers s.Parts (s.TwoStars ∷ s.Name ∷ s.AfterDeclared ∷ s.Parts ∷ []) parts_declare (b ++ rest) [] (first_ends n i)
    (first_declared n b rest (s.Parts ∷ []) i) a specs are)

prototype_end : (named : Bool) (t : Lexeme) (rest : List Lexeme) (below : List Symbol) → Is w.Semicolon t → Accepts below rest → Accepts (s.Ending named ∷ below) (t ∷ rest)
prototype_end true t rest below is h = step is refl h
prototype_end false t rest below is h = step is refl h

reads_part : (n : ℕ) (x : Part) (ts rest : List Lexeme) → IsPart n ts x → Accepts (s.Parts ∷ []) rest → Accepts (s.Parts ∷ []) (ts ++ rest)
reads_part n (Declares p) ts rest (a, t, e, d, is) h =
    rw (e, append_assoc) (reads_header a (t ∷ rest) p.name p.result p.params [] refl d (prototype_end (all_named p.params) t rest (s.Parts ∷ []) is h))
reads_part n (Holds x) ts rest d h = reads_global n x ts rest d h
reads_part n (Defines x) ts rest (a, o, b, c, body, e, d, named, p, _, all, _, q) h =
    let closed : Accepts (s.Items ∷ s.CloseBrace ∷ s.Parts ∷ []) (c ∷ rest) = pass q refl refl (step q refl h) in
    let items : Accepts (s.Items ∷ s.CloseBrace ∷ s.Parts ∷ []) (b ++ (c ∷ rest)) = reads_items n n (reads_statements n n) body b (c ∷ rest) (s.Parts ∷ []) all closed in
    let behind_header : Accepts (s.Ending true ∷ s.Parts ∷ []) (o ∷ (b ++ (c ∷ rest))) = step p refl items in
    rw (e, append_assoc, append_assoc) (reads_header a (o ∷ (b ++ (c ∷ rest))) x.name x.result x.params [] refl d (rw (are_named x.params named) behind_header))

reads_parts : (n : ℕ) (xs : List Part) (ts : List Lexeme) → AreAll (IsPart n) ts xs → Accepts (s.Parts ∷ []) ts
reads_parts n [] ts d = rw d (record { ok = refl })
reads_parts n (x ∷ xs) ts (a, b, e, p, q) = rw e (reads_part n x a b p (reads_parts n xs b q))

pub reads_text : (ts : List Lexeme) → AreOfGrammar ts → Accepts start ts
unfolding AreOfGrammar IsOfGrammar
reads_text ts (file, (n, (parts, all, _))) = reads_parts n parts ts all
