-- What the recogniser takes for a statement is one.
use Rattle.std.proofs.Common.{◌≡◌, ◌≢◌, ℕ, suc, ◌≤◌, max, true, false, List, [], ◌∷◌, ◌++◌, refl, sym, ap, subst, ◌∙◌, append_assoc, inl, inr, ◌⊎◌, Option, arith}
use Rattle.std.proofs.lemmas.List.{append-nil}
use Rattle.cw_syntax.specs.Trees.{Tree, Statement, Stated, Form, Block, Declares, Evaluates, Empties, Labels, Chooses, Whiles, Does, Fors, Breaks, Continues, Returns, Perhaps, nothing, just}
use Rattle.cw_grammar.specs.declared.terminals.Terminal.TheVariants as w
use Rattle.cw_grammar.specs.declared.terminals.Lexeme.{Lexeme}
use Rattle.cw_grammar.specs.declared.rules.Rule.TheVariants.{Expression, Unary, Postfix}
use Rattle.cw_grammar.specs.Lexemes.{Is, name_of, from_of, to_of, IsOptional, statements}
use Rattle.cw_grammar.specs.Expressions.{IsExpression}
use Rattle.cw_grammar.specs.Statements.{Setting, InBlock, BeforeElse, Elsewhere, last, IsInit, IsStatement}
use Rattle.cw_recogniser.specs.declared.kinds.TerminalKind.{TerminalKind}
use Rattle.cw_recogniser.specs.declared.kinds.TerminalKind.TheVariants as k
use Rattle.cw_recogniser.specs.declared.symbols.Symbol.{Symbol}
use Rattle.cw_recogniser.specs.declared.symbols.Symbol.TheVariants as s
use Rattle.cw_recogniser.specs.Kinds.{kind_of_terminal}
use Rattle.cw_recogniser.specs.Machine.{onto, either, after, expression, assignment, declaration, statement, after_name, maybe_else, for_init}
use Rattle.cw_recogniser.proofs.Accepting.{takes}
use Rattle.cw_recogniser.proofs.TerminalKinds.{is_jump}
use Rattle.cw_grammar.proofs.Deeper.{expression_deeper, optional_weaker, init_weaker, declaration_weaker, all_weaker, statement_deeper}
use Rattle.cw_recogniser.proofs.Chains.{Stands}
use Rattle.cw_recogniser.proofs.Meanings.{Punctuator, Allows, OneStatement, SomeStatements, Means, Follow, Given, split_follow, split_onto, split_either, exact}
use Rattle.cw_recogniser.proofs.ExpressionsSound.{postfix_unary, unary_operand, operand_chain, chain_expression, name_postfix, expression_sound, call_sound, suffixes_sound, assignment_sound}
use Rattle.cw_recogniser.proofs.DeclarationsSound.{SomeDeclaration, declaration_sound}

-- ---- statements from their parts

abbrev made : Form → List Lexeme → Statement
made form a = Stated form (from_of a) (to_of a)

allows_last : (setting : Setting) (rest : List Lexeme) → Allows setting rest → Allows (last setting) rest
allows_last InBlock rest f = tt
allows_last BeforeElse rest f = f
allows_last Elsewhere rest f = tt

not_before_else : (setting : Setting) (rest : List Lexeme) → takes s.MaybeElse rest ≡ false → Allows setting rest → setting ≢ BeforeElse
not_before_else InBlock rest f h e = absurd cc
not_before_else BeforeElse rest f h e = absurd (let g = sym f ∙ h in cc)
not_before_else Elsewhere rest f h e = absurd cc

-- an inner statement, and an expression, with more room
inner_at : {a rest : List Lexeme} (x : OneStatement a rest) (n : ℕ) → x.nesting ≤ n → (setting : Setting) → Allows setting rest → IsStatement (suc n) n setting a x.tree
inner_at {a} {rest} x n le setting f = statement_deeper x.nesting (suc n) x.nesting n (omega arith) le setting a x.tree (x.derives setting f)

expression_at : (a : List Lexeme) (h : Stands Expression a) (n : ℕ) → h.nesting ≤ n → IsExpression (suc n) a h.tree
expression_at a h n le = expression_deeper h.nesting (suc n) (omega arith) a h.tree h.derives

moved : {a b rest : List Lexeme} → a ≡ b → OneStatement b rest → OneStatement a rest
moved {a} {b} {rest} e h = subst (λ (z : List Lexeme). OneStatement z rest) (sym e) h

evaluates : (a : List Lexeme) (z : Lexeme) (rest : List Lexeme) → Stands Expression a → Is w.Semicolon z → OneStatement (a ++ (z ∷ [])) rest
evaluates a z rest h is = record {
  nesting = suc h.nesting;
  tree = made (Evaluates h.tree) (a ++ (z ∷ []));
  derives = λ setting f. (refl, refl, (a, z, refl, is, expression_at a h h.nesting (omega arith)));
}

empty : (z : Lexeme) (rest : List Lexeme) → Is w.Semicolon z → OneStatement (z ∷ []) rest
empty z rest is = record { nesting = 1; tree = made Empties (z ∷ []); derives = λ setting f. (refl, refl, rw is refl) }

block : (o c : Lexeme) (a rest : List Lexeme) → Is w.OpenBrace o → Is w.CloseBrace c → SomeStatements a → OneStatement (o ∷ (a ++ (c ∷ []))) rest
block o c a rest p q (n, xs, d) = record {
  nesting = suc n;
  tree = made (Block (statements xs)) (o ∷ (a ++ (c ∷ [])));
  derives = λ setting f. (
    refl,
    refl,
    (
      xs,
      refl,
      (
        o,
        a,
        c,
        refl,
        p,
        q,
        all_weaker (IsStatement n n InBlock) (IsStatement (suc n) n InBlock)
            (statement_deeper n (suc n) n n (omega arith) (omega arith) InBlock) xs a d,
      ),
    ),
  );
}

labels : (m c : Lexeme) (a rest : List Lexeme) → Is w.Name m → Is w.Colon c → OneStatement a rest → OneStatement (m ∷ c ∷ a) rest
labels m c a rest p q x = record {
  nesting = suc x.nesting;
  tree = made (Labels (name_of m) c.to x.tree) (m ∷ c ∷ a);
  derives = λ setting f. (refl, refl, (m, c, a, refl, p, q, refl, refl, inner_at x x.nesting (omega arith) (last setting) (allows_last setting rest f)));
}

-- a test in parentheses
record SomeTest (a : List Lexeme) : Type 0 where
  o : Lexeme
  b : List Lexeme
  c : Lexeme
  is_whole : a ≡ o ∷ (b ++ (c ∷ []))
  is_open : Is w.Open o
  is_close : Is w.Close c
  inside : Stands Expression b

chooses : (i : Lexeme) (a b rest others : List Lexeme) → Is w.If i → SomeTest a → OneStatement b others → takes s.MaybeElse rest ≡ false → OneStatement (i ∷ (a ++ b)) rest
chooses i a b rest others p t x no_else = let n = max t.inside.nesting x.nesting in record {
  nesting = suc n;
  tree = made (Chooses t.inside.tree x.tree nothing) (i ∷ (a ++ b));
  derives = λ setting f. (
    refl,
    refl,
    (
      i,
      a,
      b,
      refl,
      not_before_else setting rest no_else f,
      p,
      (t.o, t.b, t.c, t.is_whole, t.is_open, t.is_close, expression_at t.b t.inside n (omega arith)),
      inner_at x n (omega arith) Elsewhere tt,
    ),
  );
}

chooses_else : (i e : Lexeme) (a b c rest others : List Lexeme) → Is w.If i → SomeTest a → OneStatement b others → takes s.MaybeElse others ≡ true → Is w.Else e
    → OneStatement c rest → OneStatement (i ∷ (a ++ (b ++ (e ∷ c)))) rest
chooses_else i e a b c rest others p t x comes q y = let n = max t.inside.nesting (max x.nesting y.nesting) in record {
  nesting = suc n;
  tree = made (Chooses t.inside.tree x.tree (just y.tree)) (i ∷ (a ++ (b ++ (e ∷ c))));
  derives = λ setting f. (
    refl,
    refl,
    (
      i,
      a,
      b,
      e,
      c,
      refl,
      p,
      (t.o, t.b, t.c, t.is_whole, t.is_open, t.is_close, expression_at t.b t.inside n (omega arith)),
      inner_at x n
          (omega arith) BeforeElse comes,
      q,
      inner_at y n (omega arith) (last setting) (allows_last setting rest f),
    ),
  );
}

whiles : (i : Lexeme) (a b rest : List Lexeme) → Is w.While i → SomeTest a → OneStatement b rest → OneStatement (i ∷ (a ++ b)) rest
whiles i a b rest p t x = let n = max t.inside.nesting x.nesting in record {
  nesting = suc n;
  tree = made (Whiles t.inside.tree x.tree) (i ∷ (a ++ b));
  derives = λ setting f. (
    refl,
    refl,
    (
      i,
      a,
      b,
      refl,
      p,
      (t.o, t.b, t.c, t.is_whole, t.is_open, t.is_close, expression_at t.b t.inside n (omega arith)),
      inner_at x n (omega arith)
          (last setting) (allows_last setting rest f),
    ),
  );
}

does : (i h z : Lexeme) (a b rest others : List Lexeme) → Is w.Do i → OneStatement a others → Is w.While h → SomeTest b → Is w.Semicolon z → OneStatement (i ∷ (a ++ (h ∷ (b ++ (z ∷ []))))) rest
does i h z a b rest others p x q t is = let n = max t.inside.nesting x.nesting in record {
  nesting = suc n;
  tree = made (Does x.tree t.inside.tree) (i ∷ (a ++ (h ∷ (b ++ (z ∷ [])))));
  derives = λ setting f. (
    refl,
    refl,
    (
      i,
      a,
      h,
      b,
      z,
      refl,
      p,
      inner_at x n (omega arith) Elsewhere tt,
      q,
      (t.o, t.b, t.c, t.is_whole, t.is_open, t.is_close, expression_at t.b t.inside n (omega arith)),
      is,
    ),
  );
}

abbrev SomeOptional : List Lexeme → Type 0
SomeOptional a = (n : ℕ) × (x : Option Tree) × IsOptional (IsExpression n) a x

abbrev SomeInit : List Lexeme → Type 0
SomeInit a = (n : ℕ) × (init : Perhaps) × IsInit (IsExpression n) a init

fors : (i o y z : Lexeme) (a b c d rest : List Lexeme) → Is w.For i → Is w.Open o → SomeInit a → SomeOptional b → Is w.Semicolon y → SomeOptional c → Is w.Close z
    → OneStatement d rest → OneStatement (i ∷ o ∷ (a ++ ((b ++ (y ∷ [])) ++ ((c ++ (z ∷ [])) ++ d)))) rest
fors i o y z a b c d rest p q (l, init, h) (m, test, t) is (k, each, g) ends x = let n = max (max l m) (max k x.nesting) in record {
  nesting = suc n;
  tree = made (Fors init test each x.tree) (i ∷ o ∷ (a ++ ((b ++ (y ∷ [])) ++ ((c ++ (z ∷ [])) ++ d))));
  derives = λ setting f. (
    refl,
    refl,
    (
      i,
      o,
      a,
      b ++ (y ∷ []),
      c ++ (z ∷ []),
      d,
      refl,
      p,
      q,
      init_weaker (IsExpression l) (IsExpression (suc n)) (expression_deeper l (suc n) (omega arith)) init a h,
      (b, y, refl, is, optional_weaker (IsExpression m) (IsExpression (suc n)) (expression_deeper m (suc n) (omega arith)) test b t),
      (c, z, refl, ends, optional_weaker (IsExpression k) (IsExpression (suc n)) (expression_deeper k (suc n) (omega arith)) each c g),
      inner_at x n (omega arith) (last setting) (allows_last setting rest f),
    ),
  );
}

jumps : (t z : Lexeme) (rest : List Lexeme) → (t.terminal ≡ w.Break) ⊎ (t.terminal ≡ w.Continue) → Is w.Semicolon z → OneStatement (t ∷ z ∷ []) rest
jumps t z rest (inl p) q = record { nesting = 1; tree = made Breaks (t ∷ z ∷ []); derives = λ setting f. (refl, refl, rw (p, q) refl) }
jumps t z rest (inr p) q = record { nesting = 1; tree = made Continues (t ∷ z ∷ []); derives = λ setting f. (refl, refl, rw (p, q) refl) }

returns : (t z : Lexeme) (a rest : List Lexeme) → Is w.Return t → SomeOptional a → Is w.Semicolon z → OneStatement (t ∷ (a ++ (z ∷ []))) rest
returns t z a rest p (n, x, d) q = record {
  nesting = suc n;
  tree = made (Returns x) (t ∷ (a ++ (z ∷ [])));
  derives = λ setting f. (refl, refl, (t, a ++ (z ∷ []), refl, p, (a, z, refl, q, optional_weaker (IsExpression n) (IsExpression (suc n)) (expression_deeper n (suc n) (omega arith)) x a d)));
}

-- ---- the symbols of statements

test_split : (u : Symbol) (us : List Symbol) (a rest : List Lexeme) → Follow (s.Open ∷ s.Expression ∷ s.Close ∷ u ∷ us) a rest → (b : List Lexeme) × (c : List Lexeme)
    × (a ≡ b ++ c) × SomeTest b × Follow (u ∷ us) c rest
test_split u us a rest (b, c, f, (o, g, p), (d, e, j, h, (l, m, v, (z, i, q), others))) = (
  o ∷ (d ++ (z ∷ [])),
  m,
  rw (f, g, j, v, i) (ap (λ (y : List Lexeme). o ∷ y) (sym (append_assoc d (z ∷ []) m))),
  record { o = o; b = d; c = z; is_whole = refl; is_open = p; is_close = q; inside = h },
  others,
)

if_sound : (t : Lexeme) (a rest : List Lexeme) → Is w.If t → Follow (s.Open ∷ s.Expression ∷ s.Close ∷ s.Statement ∷ s.MaybeElse ∷ []) a rest → OneStatement (t ∷ a) rest
if_sound t a rest is h = by_test (test_split s.Statement (s.MaybeElse ∷ []) a rest h) where
  by_else : (b c d e : List Lexeme) → a ≡ b ++ c → SomeTest b → c ≡ d ++ e → OneStatement d (e ++ rest) → Means s.MaybeElse e rest → OneStatement (t ∷ a) rest
  by_else b c d e f test g x (inl (j, no_else)) = moved (ap (λ (z : List Lexeme). t ∷ z) (rw (f, g, j) (ap (λ (z : List Lexeme). b ++ z) (append-nil d))))
      (chooses t b d rest (e ++ rest) is test x no_else)
  by_else b c d e f test g x (inr (l, m, j, q, y)) = moved (ap (λ (z : List Lexeme). t ∷ z) (rw (f, g, j) refl)) (chooses_else t l b d m rest (e ++ rest) is test x (rw (j, q) refl) q y)

  by_test : (b : List Lexeme) × (c : List Lexeme) × (a ≡ b ++ c) × SomeTest b
      × ((d : List Lexeme) × (e : List Lexeme) × (c ≡ d ++ e) × OneStatement d (e ++ rest) × Means s.MaybeElse e rest) → OneStatement (t ∷ a) rest
  by_test (b, c, f, test, (d, e, g, x, other)) = by_else b c d e f test g x other

while_sound : (t : Lexeme) (a rest : List Lexeme) → Is w.While t → Follow (s.Open ∷ s.Expression ∷ s.Close ∷ s.Statement ∷ []) a rest → OneStatement (t ∷ a) rest
while_sound t a rest is h = let x = test_split s.Statement [] a rest h in moved (ap (λ (z : List Lexeme). t ∷ z) x.2) (whiles t x.0 x.1 rest is x.3 x.4)

do_sound : (t : Lexeme) (a rest : List Lexeme) → Is w.Do t → Follow (s.Statement ∷ s.While ∷ s.Open ∷ s.Expression ∷ s.Close ∷ s.Semicolon ∷ []) a rest → OneStatement (t ∷ a) rest
do_sound t a rest is (b, c, f, x, (d, e, g, (m, j, q), h)) = by_test (test_split s.Semicolon [] e rest h) where
  by_test : (u : List Lexeme) × (v : List Lexeme) × (e ≡ u ++ v) × SomeTest u × Punctuator w.Semicolon v → OneStatement (t ∷ a) rest
  by_test (u, v, l, test, (z, i, p)) = moved (ap (λ (y : List Lexeme). t ∷ y) (rw (f, g, j, l, i) refl)) (does t m z b u rest (c ++ rest) is x q test p)

for_sound : (t : Lexeme) (a rest : List Lexeme) → Is w.For t → Follow (s.Open ∷ s.ForInit ∷ s.MaybeExpression ∷ s.Semicolon ∷ s.MaybeExpression ∷ s.Close ∷ s.Statement ∷ []) a rest
    → OneStatement (t ∷ a) rest
for_sound t a rest is (b0, c0, f0, (o, g0, p0), (b1, c1, f1, init, (b2, c2, f2, test, (b3, c3, f3, (y, g3, p3), (b4, c4, f4, each, (b5, c5, f5, (z, g5, p5), x)))))) =
    moved (ap (λ (e : List Lexeme). t ∷ e) (rw (f0, g0, f1, f2, f3, g3, f4, f5, g5)
    (sym (ap (λ (e : List Lexeme). o ∷ (b1 ++ e)) (append_assoc b2 (y ∷ []) ((b4 ++ (z ∷ [])) ++ c5)
    ∙ ap (λ (e : List Lexeme). b2 ++ (y ∷ e)) (append_assoc b4 (z ∷ []) c5)))))) (fors t o y z b1 b2 b4 c5 rest is p0 init test p3 each p5 x)

pub statement_sound : (kind : TerminalKind) (t : Lexeme) (a rest : List Lexeme) → kind_of_terminal t.terminal ≡ kind → Given (statement kind) a rest → OneStatement (t ∷ a) rest
statement_sound k.Semicolon t a rest e h = moved (ap (λ (z : List Lexeme). t ∷ z) h) (empty t rest (exact t k.Semicolon w.Semicolon e refl))
statement_sound k.OpenBrace t a rest e (b, c, f, items, (z, g, q)) = moved (ap (λ (y : List Lexeme). t ∷ y) (rw (f, g) refl)) (block t z b rest (exact t k.OpenBrace w.OpenBrace e refl) q items)
statement_sound k.Name t a rest e h = h t (exact t k.Name w.Name e refl)
statement_sound k.If t a rest e h = if_sound t a rest (exact t k.If w.If e refl) h
statement_sound k.While t a rest e h = while_sound t a rest (exact t k.While w.While e refl) h
statement_sound k.Do t a rest e h = do_sound t a rest (exact t k.Do w.Do e refl) h
statement_sound k.For t a rest e h = for_sound t a rest (exact t k.For w.For e refl) h
statement_sound k.Jump t a rest e (z, g, q) = moved (ap (λ (y : List Lexeme). t ∷ y) g) (jumps t z rest (is_jump t.terminal e) q)
statement_sound k.Return t a rest e (b, c, f, d, (z, g, q)) = moved (ap (λ (y : List Lexeme). t ∷ y) (rw (f, g) refl)) (returns t z b rest (exact t k.Return w.Return e refl) d q)
statement_sound kind t a rest e h =
    let x = split_onto (expression kind) s.Semicolon [] a rest h in
    moved (ap (λ (z : List Lexeme). t ∷ z) (x.2 ∙ ap (λ (z : List Lexeme). x.0 ++ z) x.4.1)) (evaluates (t ∷ x.0) x.4.0 rest (expression_sound kind t x.0 (x.1 ++ rest) e x.3) x.4.2)

-- behind a name

ended : (m : List Lexeme) (a rest : List Lexeme) → Stands Unary m → Follow (s.Tail true ∷ s.Semicolon ∷ []) a rest → OneStatement (m ++ a) rest
ended m a rest h (b, c, f, tail, (z, g, q)) = moved (rw (f, g) (sym (append_assoc m b (z ∷ [])))) (evaluates (m ++ b) z rest (tail m h) q)

suffixed : (m : List Lexeme) (a rest : List Lexeme) → Stands Postfix m → Follow (s.Suffixes ∷ s.Tail true ∷ s.Semicolon ∷ []) a rest → OneStatement (m ++ a) rest
suffixed m a rest h (b, c, f, suffixes, others) = moved (rw f (sym (append_assoc m b c))) (ended (m ++ b) c rest (postfix_unary (m ++ b) (suffixes m h)) others)

named_unary : (m : Lexeme) → Is w.Name m → Stands Unary (m ∷ [])
named_unary m is = postfix_unary (m ∷ []) (name_postfix m is)

by_assignment : (kind : TerminalKind) (t : Lexeme) (a rest : List Lexeme) → kind_of_terminal t.terminal ≡ kind → Given (onto (assignment kind) (s.Semicolon ∷ [])) a rest
    → Means s.AfterName (t ∷ a) rest
by_assignment kind t a rest e h m is =
    let x = split_onto (assignment kind) s.Semicolon [] a rest h in
    moved (ap (λ (z : List Lexeme). m ∷ t ∷ z) (x.2 ∙ ap (λ (z : List Lexeme). x.0 ++ z) x.4.1))
    (evaluates (m ∷ t ∷ x.0) x.4.0 rest (assignment_sound kind t x.0 (x.1 ++ rest) e x.3 (m ∷ []) (named_unary m is)) x.4.2)

pub after_name_sound : (kind : TerminalKind) (t : Lexeme) (a rest : List Lexeme) → kind_of_terminal t.terminal ≡ kind → Given (after_name kind) a rest → Means s.AfterName (t ∷ a) rest
after_name_sound k.Colon t a rest e h = λ m is. labels m t a rest is (exact t k.Colon w.Colon e refl) h
after_name_sound k.Semicolon t a rest e h = λ m is. moved (ap (λ (z : List Lexeme). m ∷ t ∷ z) h)
    (evaluates (m ∷ []) t rest (chain_expression (m ∷ []) (operand_chain (m ∷ []) (unary_operand (m ∷ []) (named_unary m is)))) (exact t k.Semicolon w.Semicolon e refl))
after_name_sound k.Open t a rest e h = λ m is.
    let x = split_follow (s.Arguments ∷ s.Close ∷ []) s.Suffixes (s.Tail true ∷ s.Semicolon ∷ []) a rest h in
    moved (ap (λ (z : List Lexeme). m ∷ t ∷ z) x.2) (suffixed (m ∷ t ∷ x.0) x.1 rest (call_sound k.Open t x.0 (x.1 ++ rest) e x.3 m is) x.4)
after_name_sound k.OpenBracket t a rest e h = λ m is.
    let x = split_follow (s.Expression ∷ s.CloseBracket ∷ s.Suffixes ∷ []) (s.Tail true) (s.Semicolon ∷ []) a rest h in
    moved (ap (λ (z : List Lexeme). m ∷ t ∷ z) x.2) (ended (m ∷ t ∷ x.0) x.1 rest
    (postfix_unary (m ∷ t ∷ x.0) (suffixes_sound k.OpenBracket t x.0 (x.1 ++ rest) e x.3 (m ∷ []) (name_postfix m is))) x.4)
after_name_sound k.Step t a rest e h = λ m is.
    let x = split_follow (s.Suffixes ∷ []) (s.Tail true) (s.Semicolon ∷ []) a rest h in
    moved (ap (λ (z : List Lexeme). m ∷ t ∷ z) x.2) (ended (m ∷ t ∷ x.0) x.1 rest (postfix_unary (m ∷ t ∷ x.0) (suffixes_sound k.Step t x.0 (x.1 ++ rest) e x.3 (m ∷ []) (name_postfix m is))) x.4)
after_name_sound kind t a rest e h = by_assignment kind t a rest e h

pub else_sound : (kind : TerminalKind) (t : Lexeme) (a rest : List Lexeme) → kind_of_terminal t.terminal ≡ kind → Given (maybe_else kind) a rest → Means s.MaybeElse (t ∷ a) rest
else_sound k.Else t a rest e h = inr (t, a, refl, exact t k.Else w.Else e refl, h)
else_sound _ t a rest e h = absurd h

-- ---- what stands in a block

declared : (a rest : List Lexeme) → SomeDeclaration a → (n : ℕ) × (x : Statement) × IsStatement n n InBlock a x
declared a rest (n, x, d) = (suc n, made (Declares x) a, (refl, refl, (refl, declaration_weaker (IsExpression n) (IsExpression (suc n)) (expression_deeper n (suc n) (omega arith)) x a d)))

pub one_more : (a b : List Lexeme) → (n : ℕ) × (x : Statement) × IsStatement n n InBlock a x → SomeStatements b → SomeStatements (a ++ b)
one_more a b (m, x, h) (n, xs, d) =
    let k = max m n in (
      k,
      x ∷ xs,
      (
        a,
        b,
        refl,
        statement_deeper m k m k (omega arith) (omega arith) InBlock a x h,
        all_weaker (IsStatement n n InBlock) (IsStatement k k InBlock)
            (statement_deeper n k n k (omega arith) (omega arith) InBlock) xs b d,
      ),
    )

by_form : (kind : TerminalKind) (t : Lexeme) (a rest : List Lexeme) → kind_of_terminal t.terminal ≡ kind → Given (declaration kind) a rest ⊎ Given (statement kind) a rest → (n : ℕ)
    × (x : Statement) × IsStatement n n InBlock (t ∷ a) x
by_form kind t a rest e (inl h) = declared (t ∷ a) rest (declaration_sound kind t a rest e h)
by_form kind t a rest e (inr h) = let x = statement_sound kind t a rest e h in (x.nesting, x.tree, x.derives InBlock tt)

pub items_sound : (kind : TerminalKind) (t : Lexeme) (a rest : List Lexeme) → kind_of_terminal t.terminal ≡ kind → Given (after s.Items kind) a rest → SomeStatements (t ∷ a)
items_sound kind t a rest e h =
    let x = split_onto (either (declaration kind) (statement kind)) s.Items [] a rest h in
    subst (λ (z : List Lexeme). SomeStatements (t ∷ z)) (sym x.2)
    (one_more (t ∷ x.0) x.1 (by_form kind t x.0 (x.1 ++ rest) e (split_either (declaration kind) (statement kind) x.0 (x.1 ++ rest) x.3)) x.4)

-- ---- the front of a `for`

by_init : (kind : TerminalKind) (t : Lexeme) (a rest : List Lexeme) → kind_of_terminal t.terminal ≡ kind → Given (declaration kind) a rest
    ⊎ Given (onto (expression kind) (s.Semicolon ∷ [])) a rest → SomeInit (t ∷ a)
by_init kind t a rest e (inl h) = let x = declaration_sound kind t a rest e h in (x.0, just (made (Declares x.1) (t ∷ a)), (refl, refl, x.2))
by_init kind t a rest e (inr h) =
    let x = split_onto (expression kind) s.Semicolon [] a rest h in
    let y = expression_sound kind t x.0 (x.1 ++ rest) e x.3 in
    (y.nesting, just (made (Evaluates y.tree) (t ∷ a)), (refl, refl, (t ∷ x.0, x.4.0, ap (λ (z : List Lexeme). t ∷ z) (x.2 ∙ ap (λ (z : List Lexeme). x.0 ++ z) x.4.1), x.4.2, y.derives)))

pub init_sound : (kind : TerminalKind) (t : Lexeme) (a rest : List Lexeme) → kind_of_terminal t.terminal ≡ kind → Given (for_init kind) a rest → SomeInit (t ∷ a)
init_sound k.Semicolon t a rest e h = (0, nothing, rw (h, exact t k.Semicolon w.Semicolon e refl) refl)
init_sound kind t a rest e h = by_init kind t a rest e (split_either (declaration kind) (onto (expression kind) (s.Semicolon ∷ [])) a rest h)
