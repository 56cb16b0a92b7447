-- The recogniser reads statements.
use Rattle.std.proofs.Common.{◌≡◌, ◌≢◌, ℕ, zero, suc, Bool, true, false, List, [], ◌∷◌, ◌++◌, refl, ap, append_assoc, Option, Some, None}
use Rattle.std.specs.Prelude.{is_some}
use Rattle.cw_syntax.specs.Trees.{Tree, Statement, Stated, Form, Block, Declares as DeclaresForm, Evaluates, Empties, Labels, Chooses, Whiles, Does, Fors, Breaks, Continues}
use Rattle.cw_syntax.specs.Trees.{Returns, Perhaps, nothing, just}
use Rattle.cw_grammar.specs.declared.terminals.Terminal.{Terminal}
use Rattle.cw_grammar.specs.declared.terminals.Terminal.TheVariants as w
use Rattle.cw_grammar.specs.declared.terminals.Lexeme.{Lexeme}
use Rattle.cw_grammar.specs.Lexemes.{AreAll, IsOptional, IsEnded}
use Rattle.cw_grammar.specs.Expressions.{IsExpression}
use Rattle.cw_grammar.specs.Statements.{Setting, InBlock, BeforeElse, Elsewhere, last, IsTest, IsInit, IsForm, IsStatement}
use Rattle.cw_recogniser.specs.declared.kinds.TerminalKind.{TerminalKind}
use Rattle.cw_recogniser.specs.declared.kinds.TerminalKind.TheVariants as k
use Rattle.cw_recogniser.specs.declared.symbols.Symbol.{Symbol}
use Rattle.cw_recogniser.specs.declared.symbols.Symbol.TheVariants as s
use Rattle.cw_recogniser.specs.Kinds.{kind_of_terminal}
use Rattle.cw_recogniser.specs.Machine.{onto, either, after, feed, expression, declaration, statement}
use Rattle.cw_recogniser.proofs.Accepting.{then_done, accepts, Accepts, takes, step, skip, pass, instead}
use Rattle.cw_recogniser.proofs.Heads.{head_is, is_end}
use Rattle.cw_grammar.proofs.Wording.{one_terminal, two_terminals}
use Rattle.cw_recogniser.proofs.TypesRead.{Declares}
use Rattle.cw_recogniser.proofs.ExpressionsRead.{reads}
use Rattle.cw_recogniser.proofs.DeclarationsRead.{reads_optional, reads_declaration, behind}

-- ---- an expression in a statement's place

-- behind a name at a statement's front
after_call : (below : List Symbol) (kind : TerminalKind) (go : List Symbol → Bool) → then_done (feed (s.Call ∷ s.Suffixes ∷ s.Tail true ∷ s.Semicolon ∷ below) kind) go ≡ true
    → then_done (feed (s.AfterName ∷ below) kind) go ≡ true
after_call below k.Semicolon go h = h
after_call below k.Open go h = h
after_call below k.OpenBracket go h = h
after_call below k.Step go h = h
after_call below k.Assign go h = h
after_call below k.Update go h = h
after_call below k.Star go h = h
after_call below k.Both go h = h
after_call below k.Binary go h = h
after_call below _ go h = absurd cc

after_call_at : (ts : List Lexeme) (below : List Symbol) → accepts (s.Call ∷ s.Suffixes ∷ s.Tail true ∷ s.Semicolon ∷ below) ts ≡ true → accepts (s.AfterName ∷ below) ts ≡ true
after_call_at [] below h = absurd cc
after_call_at (t ∷ ts) below h = after_call below (kind_of_terminal t.terminal) (λ next. accepts next ts) h

by_kind : (below : List Symbol) (kind : TerminalKind) (ts : List Lexeme) → then_done (feed (s.Expression ∷ s.Semicolon ∷ below) kind) (λ next. accepts next ts) ≡ true
    → then_done (feed (s.Statement ∷ below) kind) (λ next. accepts next ts) ≡ true
by_kind below k.Name ts h = after_call_at ts below h
by_kind below k.Open ts h = h
by_kind below k.Constant ts h = h
by_kind below k.Text ts h = h
by_kind below k.SizeOf ts h = h
by_kind below k.Sign ts h = h
by_kind below k.Both ts h = h
by_kind below k.Star ts h = h
by_kind below k.Step ts h = h
by_kind below _ ts h = absurd cc

pub as_statement : (ts : List Lexeme) (below : List Symbol) → Accepts (s.Expression ∷ s.Semicolon ∷ below) ts → Accepts (s.Statement ∷ below) ts
as_statement [] below h = absurd (let f = h.ok in cc)
as_statement (t ∷ ts) below h = record { ok = by_kind below (kind_of_terminal t.terminal) ts h.ok }

-- ---- statements and declarations in a block

no_declaration : (kind : TerminalKind) → is_some (statement kind) ≡ true → declaration kind ≡ None
no_declaration k.Storage e = absurd cc
no_declaration k.Const e = absurd cc
no_declaration k.Void e = absurd cc
no_declaration k.Char e = absurd cc
no_declaration k.Int e = absurd cc
no_declaration k.Long e = absurd cc
no_declaration k.Unsigned e = absurd cc
no_declaration _ e = refl

items_statement : (kind : TerminalKind) → is_some (statement kind) ≡ true → after s.Items kind ≡ onto (statement kind) (s.Items ∷ [])
items_statement kind e = ap (λ z. onto (either z (statement kind)) (s.Items ∷ [])) (no_declaration kind e)

items_declare : Declares s.Items (behind 0 (s.Items ∷ []))
items_declare k.Storage e = refl
items_declare k.Const e = refl
items_declare k.Void e = refl
items_declare k.Char e = refl
items_declare k.Int e = refl
items_declare k.Long e = refl
items_declare k.Unsigned e = refl
items_declare _ e = absurd cc

init_declares : Declares s.ForInit (behind 0 [])
init_declares k.Storage e = refl
init_declares k.Const e = refl
init_declares k.Void e = refl
init_declares k.Char e = refl
init_declares k.Int e = refl
init_declares k.Long e = refl
init_declares k.Unsigned e = refl
init_declares _ e = absurd cc

init_expression : (kind : TerminalKind) → is_some (expression kind) ≡ true → after s.ForInit kind ≡ onto (expression kind) (s.Semicolon ∷ [])
init_expression k.Open e = refl
init_expression k.Name e = refl
init_expression k.Constant e = refl
init_expression k.Text e = refl
init_expression k.SizeOf e = refl
init_expression k.Sign e = refl
init_expression k.Both e = refl
init_expression k.Star e = refl
init_expression k.Step e = refl
init_expression _ e = absurd cc

-- ---- what may follow

abbrev pub Follows : Setting → List Lexeme → Type 0
Follows BeforeElse rest = Unit {0}
Follows InBlock rest = takes s.MaybeElse rest ≡ false
Follows Elsewhere rest = takes s.MaybeElse rest ≡ false

follows_last : (setting : Setting) (rest : List Lexeme) → Follows setting rest → Follows (last setting) rest
follows_last InBlock rest f = f
follows_last BeforeElse rest f = f
follows_last Elsewhere rest f = f

follows_if : (setting : Setting) (rest : List Lexeme) → setting ≢ BeforeElse → Follows setting rest → takes s.MaybeElse rest ≡ false
follows_if InBlock rest d f = f
follows_if BeforeElse rest d f = absurd (d refl)
follows_if Elsewhere rest d f = f

-- in a block that goes on no `else` comes
else_kind : (below : List Symbol) (kind : TerminalKind) (go : List Symbol → Bool) → then_done (feed (s.Items ∷ s.CloseBrace ∷ below) kind) go ≡ true → is_some (after s.MaybeElse kind) ≡ false
else_kind below k.Else go h = absurd cc
else_kind below _ go h = refl

no_else : (ts : List Lexeme) (below : List Symbol) → Accepts (s.Items ∷ s.CloseBrace ∷ below) ts → takes s.MaybeElse ts ≡ false
no_else [] below h = refl
no_else (t ∷ ts) below h = else_kind below (kind_of_terminal t.terminal) (λ next. accepts next ts) h.ok

abbrev is_declared : Form → Bool
is_declared (DeclaresForm d) = true
is_declared _ = false

undeclared : (E : List Lexeme → Tree → Type 0) (P : Setting → List Lexeme → Statement → Type 0) (setting : Setting) (ts : List Lexeme) (form : Form) → setting ≢ InBlock
    → IsForm E P setting ts form → is_declared form ≡ false
undeclared E P setting ts (DeclaresForm d) ne f = absurd (ne f.0)
undeclared E P setting ts (Block kids) ne f = refl
undeclared E P setting ts (Evaluates e) ne f = refl
undeclared E P setting ts Empties ne f = refl
undeclared E P setting ts (Labels name punctuator body) ne f = refl
undeclared E P setting ts (Chooses test body other) ne f = refl
undeclared E P setting ts (Whiles test body) ne f = refl
undeclared E P setting ts (Does body test) ne f = refl
undeclared E P setting ts (Fors init test each body) ne f = refl
undeclared E P setting ts Breaks ne f = refl
undeclared E P setting ts Continues ne f = refl
undeclared E P setting ts (Returns value) ne f = refl

-- ---- statements that nest at most n deep

module _ (limit : ℕ) where
  pub record ReadsStatements (n : ℕ) : Type 0 where
    pub inner : (setting : Setting) (a : List Lexeme) (x : Statement) (rest : List Lexeme) (below : List Symbol) → setting ≢ InBlock → IsStatement limit n setting a x → Follows setting rest
        → Accepts below rest → Accepts (s.Statement ∷ below) (a ++ rest)
    pub item : (a : List Lexeme) (x : Statement) (rest : List Lexeme) (below : List Symbol) → IsStatement limit n InBlock a x → Accepts (s.Items ∷ s.CloseBrace ∷ below) rest
        → Accepts (s.Items ∷ s.CloseBrace ∷ below) (a ++ rest)

  last_inner : (setting : Setting) → last setting ≢ InBlock
  last_inner InBlock e = absurd cc
  last_inner BeforeElse e = absurd cc
  last_inner Elsewhere e = absurd cc

  elsewhere_inner : Elsewhere ≢ InBlock
  elsewhere_inner e = absurd cc

  before_inner : BeforeElse ≢ InBlock
  before_inner e = absurd cc

  reads_test : (a : List Lexeme) (x : Tree) (rest : List Lexeme) (below : List Symbol) → IsTest (IsExpression limit) a x → Accepts below rest
      → Accepts (s.Open ∷ s.Expression ∷ s.Close ∷ below) (a ++ rest)
  reads_test a x rest below (o, inner, c, e, p, q, d) h =
      rw (e, append_assoc) (step p refl ((reads limit).expression inner x (c ∷ rest) (s.Close ∷ below) d (head_is is_end w.Close c rest q refl) (step q refl h)))

  reads_ended : (x : Option Tree) (terminal : Terminal) (closes : Symbol) (a rest : List Lexeme) (below : List Symbol) → IsEnded terminal (IsOptional (IsExpression limit)) a x
      → is_end (kind_of_terminal terminal) ≡ true → after closes (kind_of_terminal terminal) ≡ Some [] → Accepts below rest → Accepts (s.MaybeExpression ∷ closes ∷ below) (a ++ rest)
  reads_ended x terminal closes a rest below (inner, c, e, is, d) ends e2 h = rw (e, append_assoc) (reads_optional limit x inner terminal c rest (closes ∷ below) d is ends (step is e2 h))

  reads_init : (init : Perhaps) (a rest : List Lexeme) (below : List Symbol) → IsInit (IsExpression limit) a init → Accepts below rest → Accepts (s.ForInit ∷ below) (a ++ rest)
  reads_init nothing a rest below d h = let x = one_terminal a w.Semicolon d in rw x.1 (step x.2 refl h)
  reads_init (just (Stated (Evaluates x) from to)) a rest below (_, _, (inner, c, e, is, d)) h =
      rw (e, append_assoc) (instead {first = s.Expression} {symbol = s.ForInit} (s.Semicolon ∷ []) refl init_expression
      ((reads limit).expression inner x (c ∷ rest) (s.Semicolon ∷ below) d (head_is is_end w.Semicolon c rest is refl) (step is refl h)))
  reads_init (just (Stated (DeclaresForm x) from to)) a rest below (_, _, d) h = reads_declaration limit s.ForInit [] init_declares x a rest below d h
  reads_init (just (Stated (Block kids) from to)) a rest below d h = absurd d
  reads_init (just (Stated Empties from to)) a rest below d h = absurd d
  reads_init (just (Stated (Labels name punctuator body) from to)) a rest below d h = absurd d
  reads_init (just (Stated (Chooses test body other) from to)) a rest below d h = absurd d
  reads_init (just (Stated (Whiles test body) from to)) a rest below d h = absurd d
  reads_init (just (Stated (Does body test) from to)) a rest below d h = absurd d
  reads_init (just (Stated (Fors init test each body) from to)) a rest below d h = absurd d
  reads_init (just (Stated Breaks from to)) a rest below d h = absurd d
  reads_init (just (Stated Continues from to)) a rest below d h = absurd d
  reads_init (just (Stated (Returns value) from to)) a rest below d h = absurd d

  module _ (n : ℕ) (r : ReadsStatements n) where
    pub reads_items : (xs : List Statement) (ts rest : List Lexeme) (below : List Symbol) → AreAll (IsStatement limit n InBlock) ts xs
        → Accepts (s.Items ∷ s.CloseBrace ∷ below) rest → Accepts (s.Items ∷ s.CloseBrace ∷ below) (ts ++ rest)
    reads_items [] ts rest below d h = rw d h
    reads_items (x ∷ xs) ts rest below (a, b, e, p, q) h = rw (e, append_assoc) (r.item a x (b ++ rest) below p (reads_items xs b rest below q h))

    reads_form : (setting : Setting) (form : Form) (ts rest : List Lexeme) (below : List Symbol) → is_declared form ≡ false
        → IsForm (IsExpression limit) (IsStatement limit n) setting ts form → Follows setting rest → Accepts below rest → Accepts (s.Statement ∷ below) (ts ++ rest)
    reads_form setting (DeclaresForm x) ts rest below u d f h = absurd cc
    reads_form setting (Block kids) ts rest below u (inner, _, (o, body, c, e, p, q, d)) f h =
        rw (e, append_assoc) (step p refl (reads_items inner body (c ∷ rest) below d (pass q refl refl (step q refl h))))
    reads_form setting (Evaluates x) ts rest below u (inner, c, e, is, d) f h =
        rw (e, append_assoc) (as_statement (inner ++ (c ∷ rest)) below
        ((reads limit).expression inner x (c ∷ rest) (s.Semicolon ∷ below) d (head_is is_end w.Semicolon c rest is refl) (step is refl h)))
    reads_form setting Empties ts rest below u d f h = let x = one_terminal ts w.Semicolon d in rw x.1 (step x.2 refl h)
    reads_form setting (Labels name punctuator body) ts rest below u (m, l, b, e, p, q, _, _, d) f h =
        rw e (step p refl (step q refl (r.inner (last setting) b body rest below (last_inner setting) d (follows_last setting rest f) h)))
    reads_form setting (Chooses test body nothing) ts rest below u (i, a, b, e, ne, p, t, d) f h =
        rw (e, append_assoc) (step p refl (reads_test a test (b ++ rest) (s.Statement ∷ s.MaybeElse ∷ below) t
        (r.inner Elsewhere b body rest (s.MaybeElse ∷ below) elsewhere_inner d (follows_if setting rest ne f) (skip refl (follows_if setting rest ne f) h))))
    reads_form setting (Chooses test body (just other)) ts rest below u (i, a, b, l, c, e, p, t, d, q, g) f h =
        rw (e, append_assoc, append_assoc) (step p refl (reads_test a test (b ++ (l ∷ (c ++ rest))) (s.Statement ∷ s.MaybeElse ∷ below) t
        (r.inner BeforeElse b body (l ∷ (c ++ rest)) (s.MaybeElse ∷ below) before_inner d tt
        (step q refl (r.inner (last setting) c other rest below (last_inner setting) g (follows_last setting rest f) h)))))
    reads_form setting (Whiles test body) ts rest below u (i, a, b, e, p, t, d) f h =
        rw (e, append_assoc) (step p refl (reads_test a test (b ++ rest) (s.Statement ∷ below) t (r.inner (last setting) b body rest below (last_inner setting) d (follows_last setting rest f) h)))
    reads_form setting (Does body test) ts rest below u (i, a, l, b, z, e, p, d, q, t, is) f h =
        rw (e, append_assoc, append_assoc) (step p refl (r.inner Elsewhere a body (l ∷ (b ++ (z ∷ rest)))
        (s.While ∷ s.Open ∷ s.Expression ∷ s.Close ∷ s.Semicolon ∷ below) elsewhere_inner d (rw q refl) (step q refl (reads_test b test (z ∷ rest) (s.Semicolon ∷ below) t (step is refl h)))))
    reads_form setting (Fors init test each body) ts rest below u (i, o, a, b, c, l, e, p, q, d, t, g, v) f h =
        rw (e, append_assoc, append_assoc, append_assoc) (
        step p refl (step q refl (reads_init init a (b ++ (c ++ (l ++ rest))) (s.MaybeExpression ∷ s.Semicolon ∷ s.MaybeExpression ∷ s.Close ∷ s.Statement ∷ below) d (
        reads_ended test w.Semicolon s.Semicolon b (c ++ (l ++ rest)) (s.MaybeExpression ∷ s.Close ∷ s.Statement ∷ below) t refl refl (
        reads_ended each w.Close s.Close c (l ++ rest) (s.Statement ∷ below) g refl refl (r.inner (last setting) l body rest below (last_inner setting) v (follows_last setting rest f) h)
        )
        )))
        )
    reads_form setting Breaks ts rest below u d f h = let x = two_terminals ts w.Break w.Semicolon d in rw x.2 (step x.3 refl (step x.4 refl h))
    reads_form setting Continues ts rest below u d f h = let x = two_terminals ts w.Continue w.Semicolon d in rw x.2 (step x.3 refl (step x.4 refl h))
    reads_form setting (Returns value) ts rest below u (l, b, e, p, d) f h = rw e (step p refl (reads_ended value w.Semicolon s.Semicolon b rest below d refl refl h))

    reads_inner : (setting : Setting) (a : List Lexeme) (x : Statement) (rest : List Lexeme) (below : List Symbol) → setting ≢ InBlock → IsStatement limit (suc n) setting a x
        → Follows setting rest → Accepts below rest → Accepts (s.Statement ∷ below) (a ++ rest)
    reads_inner setting a (Stated form from to) rest below ne d f h = reads_form setting form a rest below (undeclared (IsExpression limit) (IsStatement limit n) setting a form ne d.2) d.2 f h

    in_block : (form : Form) (declared : Bool) (a rest : List Lexeme) (below : List Symbol) → is_declared form ≡ declared
        → IsForm (IsExpression limit) (IsStatement limit n) InBlock a form → Accepts (s.Items ∷ s.CloseBrace ∷ below) rest → Accepts (s.Items ∷ s.CloseBrace ∷ below) (a ++ rest)
    in_block (DeclaresForm x) declared a rest below u d h = reads_declaration limit s.Items (s.Items ∷ []) items_declare x a rest (s.CloseBrace ∷ below) d.1 h
    in_block form false a rest below u d h = instead {first = s.Statement} {symbol = s.Items} (s.Items ∷ []) refl items_statement
        (reads_form InBlock form a rest (s.Items ∷ s.CloseBrace ∷ below) u d (no_else rest below h) h)
    in_block form true a rest below u d h = absurd cc

    reads_item : (a : List Lexeme) (x : Statement) (rest : List Lexeme) (below : List Symbol) → IsStatement limit (suc n) InBlock a x
        → Accepts (s.Items ∷ s.CloseBrace ∷ below) rest → Accepts (s.Items ∷ s.CloseBrace ∷ below) (a ++ rest)
    reads_item a (Stated form from to) rest below d h = in_block form (is_declared form) a rest below refl d.2 h

    deeper : ReadsStatements (suc n)
    deeper = record { inner = reads_inner; item = reads_item }

  pub reads_statements : (n : ℕ) → ReadsStatements n
  reads_statements zero = record { inner = λ setting a x rest below ne d f h. absurd d; item = λ a x rest below d h. absurd d }
  reads_statements (suc n) = deeper n (reads_statements n)
