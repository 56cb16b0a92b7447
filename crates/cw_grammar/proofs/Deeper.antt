-- What nests at most so deep nests at most deeper.
use Rattle.std.proofs.Common.{ℕ, zero, suc, ◌≤◌, Bool, true, false, List, [], ◌∷◌, inl, inr, Option, Some, None, arith}
use Rattle.cw_syntax.specs.Trees.{Tree, Trees, none, more, Declared, Declaration, Statement, Stated, Form, Block, Declares, Evaluates, Empties, Labels, Chooses, Whiles, Does, Fors}
use Rattle.cw_syntax.specs.Trees.{Breaks, Continues, Returns, Perhaps, nothing, just}
use Rattle.cw_grammar.specs.declared.terminals.Lexeme.{Lexeme}
use Rattle.cw_grammar.specs.declared.rules.Rule.{Rule}
use Rattle.cw_grammar.specs.declared.rules.Rule.TheVariants.{Expression, Level, Unary, Postfix}
use Rattle.cw_grammar.specs.Lexemes.{IsOptional, AreAll, AreSeparated}
use Rattle.cw_grammar.specs.Expressions.{loosest, Derives, IsPrimary, IsPostfix, IsUnary, IsOperand, IsLevel, IsRule, IsDerived, IsExpression}
use Rattle.cw_grammar.specs.Declarations.{Expressions, Specifiers, IsArray, AreElements, IsInitialiser, IsItem, IsDeclaration}
use Rattle.cw_grammar.specs.Statements.{Setting, InBlock, BeforeElse, Elsewhere, last, IsInit, IsForm, IsStatement}
use Rattle.cw_grammar.specs.Files.{Part, Declares as DeclaresPart, Holds, Defines, IsPart}

pub separated_weaker : {X : Type 0} (P Q : List Lexeme → X → Type 0) → ((ts : List Lexeme) (x : X) → P ts x → Q ts x) → (xs : List X) (ts : List Lexeme) → AreSeparated P ts xs → AreSeparated Q ts xs
separated_weaker P Q f [] ts h = h
separated_weaker P Q f (x ∷ []) ts h = f ts x h
separated_weaker P Q f (x ∷ y ∷ ys) ts (a, c, b, e, comma, p, q) = (a, c, b, e, comma, f a x p, separated_weaker P Q f (y ∷ ys) b q)

pub all_weaker : {X : Type 0} (P Q : List Lexeme → X → Type 0) → ((ts : List Lexeme) (x : X) → P ts x → Q ts x) → (xs : List X) (ts : List Lexeme) → AreAll P ts xs → AreAll Q ts xs
all_weaker P Q f [] ts h = h
all_weaker P Q f (x ∷ xs) ts (a, b, e, p, q) = (a, b, e, f a x p, all_weaker P Q f xs b q)

pub optional_weaker : {X : Type 0} (P Q : List Lexeme → X → Type 0) → ((ts : List Lexeme) (x : X) → P ts x → Q ts x) → (x : Option X) (ts : List Lexeme) → IsOptional P ts x → IsOptional Q ts x
optional_weaker P Q f None ts h = h
optional_weaker P Q f (Some x) ts h = f ts x h

module _ (P Q : Derives) (f : (rule : Rule) (ts : List Lexeme) (x : Tree) → P rule ts x → Q rule ts x) where
  primary_weaker : (ts : List Lexeme) (x : Tree) → IsPrimary P ts x → IsPrimary Q ts x
  primary_weaker ts x (inl h) = inl h
  primary_weaker ts x (inr (inl (n, b, xs, e, is, (o, inner, c, e2, p, q, d), t))) =
      inr (inl (n, b, xs, e, is, (o, inner, c, e2, p, q, separated_weaker (P Expression) (Q Expression) (f Expression) xs inner d), t))
  primary_weaker ts x (inr (inr (inl h))) = inr (inr (inl h))
  primary_weaker ts x (inr (inr (inr (inl h)))) = inr (inr (inr (inl h)))
  primary_weaker ts x (inr (inr (inr (inr (inl h))))) = inr (inr (inr (inr (inl h))))
  primary_weaker ts x (inr (inr (inr (inr (inr (o, inner, c, e, p, q, d)))))) = inr (inr (inr (inr (inr (o, inner, c, e, p, q, f Expression inner x d)))))

  postfix_weaker : (ts : List Lexeme) (x : Tree) → IsPostfix P ts x → IsPostfix Q ts x
  postfix_weaker ts x (inl h) = inl (primary_weaker ts x h)
  postfix_weaker ts x (inr (inl (a, b, y, z, e, d, (o, inner, c, e2, p, q, i), t))) = inr (inl (a, b, y, z, e, f Postfix a y d, (o, inner, c, e2, p, q, f Expression inner z i), t))
  postfix_weaker ts x (inr (inr (a, m, number, y, e, op, d, t))) = inr (inr (a, m, number, y, e, op, f Postfix a y d, t))

  unary_weaker : (ts : List Lexeme) (x : Tree) → IsUnary P ts x → IsUnary Q ts x
  unary_weaker ts x (inl (m, b, number, y, e, op, d, t)) = inl (m, b, number, y, e, op, f (Level 0) b y d, t)
  unary_weaker ts x (inr (inl (m, b, number, y, e, op, d, t))) = inr (inl (m, b, number, y, e, op, f Unary b y d, t))
  unary_weaker ts x (inr (inr (inl (m, b, y, e, is, d, t)))) = inr (inr (inl (m, b, y, e, is, f Unary b y d, t)))
  unary_weaker ts x (inr (inr (inr (inl h)))) = inr (inr (inr (inl h)))
  unary_weaker ts x (inr (inr (inr (inr h)))) = inr (inr (inr (inr (postfix_weaker ts x h))))

  operand_weaker : (ts : List Lexeme) (x : Tree) → IsOperand P ts x → IsOperand Q ts x
  operand_weaker ts x (inl (a, b, kind, y, e, c, d, t)) = inl (a, b, kind, y, e, c, f (Level 0) b y d, t)
  operand_weaker ts x (inr h) = inr (unary_weaker ts x h)

  level_weaker : (l : ℕ) (ts : List Lexeme) (x : Tree) → IsLevel P l ts x → IsLevel Q l ts x
  level_weaker zero ts x h = operand_weaker ts x h
  level_weaker (suc l) ts x (inl h) = inl (level_weaker l ts x h)
  level_weaker (suc l) ts x (inr (a, m, b, number, y, z, e, op, p, q, t)) = inr (a, m, b, number, y, z, e, op, f (Level (suc l)) a y p, f (Level l) b z q, t)

  rule_weaker : (rule : Rule) (ts : List Lexeme) (x : Tree) → IsRule P rule ts x → IsRule Q rule ts x
  rule_weaker Expression ts x (inl h) = inl (level_weaker loosest ts x h)
  rule_weaker Expression ts x (inr (a, m, b, number, y, z, e, op, p, q, t)) = inr (a, m, b, number, y, z, e, op, f Unary a y p, f Expression b z q, t)
  rule_weaker (Level l) ts x h = level_weaker l ts x h
  rule_weaker Unary ts x h = unary_weaker ts x h
  rule_weaker Postfix ts x h = postfix_weaker ts x h

pub derived_deeper : (m n : ℕ) → m ≤ n → (rule : Rule) (ts : List Lexeme) (x : Tree) → IsDerived m rule ts x → IsDerived n rule ts x
derived_deeper zero n le rule ts x h = absurd h
derived_deeper (suc m) zero le rule ts x h = absurd (omega arith)
derived_deeper (suc m) (suc n) le rule ts x h = rule_weaker (IsDerived m) (IsDerived n) (derived_deeper m n (omega arith)) rule ts x h

pub expression_deeper : (m n : ℕ) → m ≤ n → (ts : List Lexeme) (x : Tree) → IsExpression m ts x → IsExpression n ts x
expression_deeper m n le ts x h = derived_deeper m n le Expression ts x h

-- ---- declarations and statements

module _ (E F : Expressions) (f : (ts : List Lexeme) (x : Tree) → E ts x → F ts x) where
  pub array_weaker : (array : Option (Option Tree)) (ts : List Lexeme) → IsArray E ts array → IsArray F ts array
  array_weaker None ts h = h
  array_weaker (Some x) ts (o, inner, c, e, p, q, d) = (o, inner, c, e, p, q, optional_weaker E F f x inner d)

  pub elements_weaker : (es : List Tree) (ts : List Lexeme) → AreElements E ts es → AreElements F ts es
  elements_weaker es ts (a, b, trailing, e, some, d, g) = (a, b, trailing, e, some, separated_weaker E F f es a d, g)

  pub initialiser_weaker : (init : Trees) (braces : Bool) (ts : List Lexeme) → IsInitialiser E ts init braces → IsInitialiser F ts init braces
  initialiser_weaker none false ts h = h
  initialiser_weaker (more x none) false ts (t, b, e, p, d) = (t, b, e, p, f b x d)
  initialiser_weaker (more x (more y z)) false ts h = absurd h
  initialiser_weaker none true ts (t, b, es, e, p, (o, inner, c, e2, q, k, d), g) = (t, b, es, e, p, (o, inner, c, e2, q, k, elements_weaker es inner d), g)
  initialiser_weaker (more x none) true ts (t, b, es, e, p, (o, inner, c, e2, q, k, d), g) = (t, b, es, e, p, (o, inner, c, e2, q, k, elements_weaker es inner d), g)
  initialiser_weaker (more x (more y z)) true ts (t, b, es, e, p, (o, inner, c, e2, q, k, d), g) = (t, b, es, e, p, (o, inner, c, e2, q, k, elements_weaker es inner d), g)

  pub item_weaker : (specs : Specifiers) (ts : List Lexeme) (x : Declared) → IsItem E specs ts x → IsItem F specs ts x
  item_weaker specs ts x (a, b, c, d, stars, e, are, kind, name, array, init) = (a, b, c, d, stars, e, are, kind, name, array_weaker x.array c array, initialiser_weaker x.init x.braces d init)

  pub declaration_weaker : (x : Declaration) (ts : List Lexeme) → IsDeclaration E ts x → IsDeclaration F ts x
  declaration_weaker x ts (a, b, specs, e, are, p, q, r, some, (inner, c, e2, is, d), from, to) =
      (a, b, specs, e, are, p, q, r, some, (inner, c, e2, is, separated_weaker (IsItem E specs) (IsItem F specs) (item_weaker specs) x.items inner d), from, to)

  pub init_weaker : (init : Perhaps) (ts : List Lexeme) → IsInit E ts init → IsInit F ts init
  init_weaker nothing ts h = h
  init_weaker (just (Stated (Evaluates x) from to)) ts (p, q, (inner, c, e, is, d)) = (p, q, (inner, c, e, is, f inner x d))
  init_weaker (just (Stated (Declares x) from to)) ts (p, q, d) = (p, q, declaration_weaker x ts d)
  init_weaker (just (Stated (Block kids) from to)) ts h = absurd h
  init_weaker (just (Stated Empties from to)) ts h = absurd h
  init_weaker (just (Stated (Labels name mark body) from to)) ts h = absurd h
  init_weaker (just (Stated (Chooses test body other) from to)) ts h = absurd h
  init_weaker (just (Stated (Whiles test body) from to)) ts h = absurd h
  init_weaker (just (Stated (Does body test) from to)) ts h = absurd h
  init_weaker (just (Stated (Fors init test each body) from to)) ts h = absurd h
  init_weaker (just (Stated Breaks from to)) ts h = absurd h
  init_weaker (just (Stated Continues from to)) ts h = absurd h
  init_weaker (just (Stated (Returns value) from to)) ts h = absurd h

  module _ (P Q : Setting → List Lexeme → Statement → Type 0) (g : (setting : Setting) (ts : List Lexeme) (x : Statement) → P setting ts x → Q setting ts x) where
    form_weaker : (setting : Setting) (form : Form) (ts : List Lexeme) → IsForm E P setting ts form → IsForm F Q setting ts form
    form_weaker setting (Block kids) ts (inner, t, (o, body, c, e, p, q, d)) = (inner, t, (o, body, c, e, p, q, all_weaker (P InBlock) (Q InBlock) (g InBlock) inner body d))
    form_weaker setting (Declares x) ts (p, d) = (p, declaration_weaker x ts d)
    form_weaker setting (Evaluates x) ts (inner, c, e, is, d) = (inner, c, e, is, f inner x d)
    form_weaker setting Empties ts h = h
    form_weaker setting (Labels name mark body) ts (n, k, b, e, p, q, r, t, d) = (n, k, b, e, p, q, r, t, g (last setting) b body d)
    form_weaker setting (Chooses test body nothing) ts (i, a, b, e, ne, p, (o, inner, c, e2, q, r, t), d) = (i, a, b, e, ne, p, (o, inner, c, e2, q, r, f inner test t), g Elsewhere b body d)
    form_weaker setting (Chooses test body (just other)) ts (i, a, b, l, z, e, p, (o, inner, c, e2, q, r, t), d, is, h) =
        (i, a, b, l, z, e, p, (o, inner, c, e2, q, r, f inner test t), g BeforeElse b body d, is, g (last setting) z other h)
    form_weaker setting (Whiles test body) ts (i, a, b, e, p, (o, inner, c, e2, q, r, t), d) = (i, a, b, e, p, (o, inner, c, e2, q, r, f inner test t), g (last setting) b body d)
    form_weaker setting (Does body test) ts (i, a, h, b, s, e, p, d, is, (o, inner, c, e2, q, r, t), z) = (i, a, h, b, s, e, p, g Elsewhere a body d, is, (o, inner, c, e2, q, r, f inner test t), z)
    form_weaker setting (Fors init test each body) ts (i, o, a, b, c, d, e, p, q, h, (u, m, e2, is, t), (v, n, e3, is2, r), k) =
        (i, o, a, b, c, d, e, p, q, init_weaker init a h, (u, m, e2, is, optional_weaker E F f test u t), (v, n, e3, is2, optional_weaker E F f each v r), g (last setting) d body k)
    form_weaker setting Breaks ts h = h
    form_weaker setting Continues ts h = h
    form_weaker setting (Returns value) ts (l, b, e, p, (inner, c, e2, is, d)) = (l, b, e, p, (inner, c, e2, is, optional_weaker E F f value inner d))

pub statement_deeper : (l k m n : ℕ) → l ≤ k → m ≤ n → (setting : Setting) (ts : List Lexeme) (x : Statement) → IsStatement l m setting ts x → IsStatement k n setting ts x
statement_deeper l k zero n lk le setting ts x h = absurd h
statement_deeper l k (suc m) zero lk le setting ts x h = absurd (omega arith)
statement_deeper l k (suc m) (suc n) lk le setting ts (Stated form from to) h =
    (h.0, h.1, form_weaker (IsExpression l) (IsExpression k) (expression_deeper l k lk) (IsStatement l m) (IsStatement k n) (statement_deeper l k m n lk (omega arith)) setting form ts h.2)

pub part_deeper : (m n : ℕ) → m ≤ n → (ts : List Lexeme) (x : Part) → IsPart m ts x → IsPart n ts x
part_deeper m n le ts (DeclaresPart p) h = h
part_deeper m n le ts (Holds x) h = declaration_weaker (IsExpression m) (IsExpression n) (expression_deeper m n le) x ts h
part_deeper m n le ts (Defines x) (a, o, b, c, body, e, d, named, p, brace, all, t, q) =
    (a, o, b, c, body, e, d, named, p, brace, all_weaker (IsStatement m m InBlock) (IsStatement n n InBlock) (statement_deeper m n m n le le InBlock) body b all, t, q)
