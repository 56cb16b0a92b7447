-- What each symbol stands for: the tokens that may come in its place, by the grammar.
use Rattle.std.proofs.Common.{◌≡◌, ℕ, ◌≤◌, Bool, true, false, List, [], ◌∷◌, ◌++◌, replicate, refl, sym, ap, subst, ◌∙◌, append_assoc, inl, inr, ◌⊎◌, Option, Some, None}
use Rattle.std.specs.Prelude.{is_some, ◌&&◌}
use Rattle.cw_syntax.specs.declared.program.CType.{CType}
use Rattle.cw_syntax.specs.declared.program.Base.{Base}
use Rattle.cw_syntax.specs.declared.program.Param.{Param}
use Rattle.cw_syntax.specs.Trees.{Tree, Trees, Declared, Statement, Perhaps}
use Rattle.cw_grammar.specs.declared.terminals.Terminal.{Terminal}
use Rattle.cw_grammar.specs.declared.terminals.Terminal.TheVariants as w
use Rattle.cw_grammar.specs.declared.terminals.Lexeme.{Lexeme}
use Rattle.cw_grammar.specs.declared.rules.Rule.TheVariants.{Expression, Level, Unary, Postfix}
use Rattle.cw_grammar.specs.Lexemes.{Is, terminals, IsFlag, IsOptional, AreAll, AreSeparated}
use Rattle.cw_grammar.specs.Types.{IsType, AreStars, IsTypeName}
use Rattle.cw_grammar.specs.Expressions.{AreStrings, IsExpression}
use Rattle.cw_grammar.specs.Declarations.{Specifiers, AreSpecifiers, IsArray, AreElements, IsInitialiser, IsItem, IsBrackets, IsParam, AreParams}
use Rattle.cw_grammar.specs.Statements.{Setting, InBlock, BeforeElse, Elsewhere, IsInit, IsStatement}
use Rattle.cw_grammar.specs.Files.{Part, IsPart}
use Rattle.cw_recogniser.specs.declared.kinds.TerminalKind.{TerminalKind}
use Rattle.cw_recogniser.specs.declared.symbols.Symbol.{Symbol}
use Rattle.cw_recogniser.specs.declared.symbols.Symbol.TheVariants as s
use Rattle.cw_recogniser.specs.Kinds.{kind_of_terminal}
use Rattle.cw_recogniser.specs.Machine.{Next, onto, either}
use Rattle.cw_recogniser.proofs.Accepting.{takes}
use Rattle.cw_recogniser.proofs.TerminalKinds.{terminal_of, terminal_is}
use Rattle.cw_recogniser.proofs.Chains.{Stands}
use Rattle.cw_recogniser.proofs.FilesRead.{is_named, all_named}

abbrev pub Punctuator : Terminal → List Lexeme → Type 0
Punctuator terminal a = (t : Lexeme) × (a ≡ t ∷ []) × Is terminal t

-- ---- types

abbrev pub SomeType : List Lexeme → Type 0
SomeType a = (base : Base) × (unsigned : Bool) × IsType a base unsigned

abbrev pub SomeQualified : List Lexeme → Type 0
SomeQualified a = (constant : Bool) × (c : List Lexeme) × (t : List Lexeme) × (a ≡ c ++ t) × IsFlag w.Const c constant × SomeType t

abbrev pub SomeStars : List Lexeme → Type 0
SomeStars a = (stars : ℕ) × AreStars a stars

abbrev pub SomeTypeName : List Lexeme → Type 0
SomeTypeName a = (kind : CType) × IsTypeName a kind

abbrev pub SomeSpecifiers : List Lexeme → Type 0
SomeSpecifiers a = (specs : Specifiers) × AreSpecifiers a specs

-- ---- declarations

abbrev pub SomeArguments : List Lexeme → Type 0
SomeArguments a = (n : ℕ) × (xs : List Tree) × AreSeparated (IsExpression n) a xs

abbrev pub MoreThanNone : List Lexeme → Type 0
MoreThanNone a = (n : ℕ) × (x : Tree) × (xs : List Tree) × AreSeparated (IsExpression n) a (x ∷ xs)

abbrev pub SomeArray : List Lexeme → Type 0
SomeArray a = (n : ℕ) × (array : Option (Option Tree)) × IsArray (IsExpression n) a array

abbrev pub SomeInitialiser : List Lexeme → Type 0
SomeInitialiser a = (n : ℕ) × (init : Trees) × (braces : Bool) × IsInitialiser (IsExpression n) a init braces

abbrev pub SomeElements : List Lexeme → Type 0
SomeElements a = (n : ℕ) × (es : List Tree) × AreElements (IsExpression n) a es

abbrev pub SomeItem : List Lexeme → Type 0
SomeItem a = (specs : Specifiers) → (n : ℕ) × (x : Declared) × IsItem (IsExpression n) specs a x

abbrev pub SomeItems : List Lexeme → Type 0
SomeItems a = (specs : Specifiers) → (n : ℕ) × (x : Declared) × (xs : List Declared) × AreSeparated (IsItem (IsExpression n) specs) a (x ∷ xs)

-- ---- statements and files

-- in which settings a statement may stand before these tokens
abbrev pub Allows : Setting → List Lexeme → Type 0
Allows BeforeElse rest = takes s.MaybeElse rest ≡ true
Allows InBlock rest = Unit {0}
Allows Elsewhere rest = Unit {0}

pub record OneStatement (a rest : List Lexeme) : Type 0 where
  pub nesting : ℕ
  pub tree : Statement
  pub derives : (setting : Setting) → Allows setting rest → IsStatement nesting nesting setting a tree

abbrev pub SomeStatements : List Lexeme → Type 0
SomeStatements a = (n : ℕ) × (xs : List Statement) × AreAll (IsStatement n n InBlock) a xs

abbrev pub SomeBody : List Lexeme → Type 0
SomeBody d = (o : Lexeme) × (b : List Lexeme) × (c : Lexeme) × (d ≡ o ∷ (b ++ (c ∷ []))) × Is w.OpenBrace o × SomeStatements b × Is w.CloseBrace c

-- what may stand behind a header, by whether all parameters have names
abbrev pub Ends : (named : Bool) → List Lexeme → Type 0
Ends named d = Punctuator w.Semicolon d ⊎ ((named ≡ true) × SomeBody d)

abbrev pub SomeList : (named : Bool) → List Lexeme → Type 0
SomeList named a = (p : Param) × (ps : List Param) × (b : List Lexeme) × (c : Lexeme) × (d : List Lexeme) × (a ≡ b ++ (c ∷ d)) × AreSeparated IsParam b (p ∷ ps) × Is w.Close c
    × Ends (named && all_named (p ∷ ps)) d

abbrev pub SomeParams : List Lexeme → Type 0
SomeParams a = (ps : List Param) × (b : List Lexeme) × (c : Lexeme) × (d : List Lexeme) × (a ≡ b ++ (c ∷ d)) × AreParams b ps × Is w.Close c × Ends (all_named ps) d

abbrev pub SomePart : List Lexeme → Type 0
SomePart a = (n : ℕ) × (x : Part) × IsPart n a x

abbrev pub SomeParts : List Lexeme → Type 0
SomeParts a = (n : ℕ) × (xs : List Part) × AreAll (IsPart n) a xs

-- ---- symbols

-- These tokens may stand in the symbol's place, before the rest.
abbrev pub Means : Symbol → List Lexeme → (rest : List Lexeme) → Type 0
Means s.Open a rest = Punctuator w.Open a
Means s.Close a rest = Punctuator w.Close a
Means s.CloseBracket a rest = Punctuator w.CloseBracket a
Means s.CloseBrace a rest = Punctuator w.CloseBrace a
Means s.Semicolon a rest = Punctuator w.Semicolon a
Means s.While a rest = Punctuator w.While a
Means s.Name a rest = Punctuator w.Name a
Means s.Expression a rest = Stands Expression a
Means s.Operand a rest = Stands (Level 0) a
Means s.Unary a rest = Stands Unary a
Means s.Measured a rest = (t : Lexeme) → Is w.SizeOf t → Stands Unary (t ∷ a)
Means s.AfterOpen a rest = (o : Lexeme) → Is w.Open o → Stands Expression (o ∷ a)
Means s.AfterOpenOperand a rest = (o : Lexeme) → Is w.Open o → Stands (Level 0) (o ∷ a)
Means s.AfterOpenMeasured a rest = (t o : Lexeme) → Is w.SizeOf t → Is w.Open o → Stands Unary (t ∷ o ∷ a)
Means s.Call a rest = (t : Lexeme) → Is w.Name t → Stands Postfix (t ∷ a)
Means s.Texts a rest = AreStrings a
Means s.Suffixes a rest = (b : List Lexeme) → Stands Postfix b → Stands Postfix (b ++ a)
Means (s.Tail true) a rest = (b : List Lexeme) → Stands Unary b → Stands Expression (b ++ a)
Means (s.Tail false) a rest = (b : List Lexeme) → Stands (Level 0) b → Stands (Level 10) (b ++ a)
Means s.MaybeExpression a rest = (n : ℕ) × (x : Option Tree) × IsOptional (IsExpression n) a x
Means s.Arguments a rest = SomeArguments a
Means s.MoreArguments a rest = (b : List Lexeme) → Stands Expression b → MoreThanNone (b ++ a)
Means s.Qualified a rest = SomeQualified a
Means s.Type a rest = SomeType a
Means s.AfterUnsigned a rest = (t : Lexeme) → Is w.Unsigned t → SomeType (t ∷ a)
Means s.AfterLong a rest = ((t : Lexeme) → Is w.Long t → SomeType (t ∷ a)) × ((u t : Lexeme) → Is w.Unsigned u → Is w.Long t → SomeType (u ∷ t ∷ a))
Means s.TwoStars a rest = SomeStars a
Means s.OneStar a rest = (stars : ℕ) × (stars ≤ 1) × (terminals a ≡ replicate stars w.Star)
Means s.Array a rest = SomeArray a
Means s.Initialiser a rest = SomeInitialiser a
Means s.Initial a rest = (t : Lexeme) → Is w.Assign t → SomeInitialiser (t ∷ a)
Means s.MoreElements a rest = (b : List Lexeme) → Stands Expression b → SomeElements (b ++ a)
Means s.Elements a rest = (b : List Lexeme) (c : Lexeme) → Stands Expression b → Is w.Comma c → SomeElements (b ++ (c ∷ a))
Means s.MoreItems a rest = (b : List Lexeme) → SomeItem b → SomeItems (b ++ a)
Means s.Parts a rest = SomeParts a
Means s.AfterDeclared a rest = (b c : List Lexeme) (m : Lexeme) → SomeSpecifiers b → SomeStars c → Is w.Name m → SomePart (b ++ (c ++ (m ∷ a)))
Means s.Params a rest = SomeParams a
Means s.AfterVoid a rest = (t : Lexeme) → Is w.Void t → SomeParams (t ∷ a)
Means (s.Param named) a rest = SomeList named a
Means (s.AfterType named) a rest = (b : List Lexeme) → SomeTypeName b → SomeList named (b ++ a)
Means s.Brackets a rest = (array : Bool) × IsBrackets a array
Means (s.MoreParams named) a rest = (before : Bool) (b : List Lexeme) (p : Param) → IsParam b p → named ≡ (before && is_named p) → SomeList before (b ++ a)
Means (s.Ending named) a rest = Ends named a
Means s.Items a rest = SomeStatements a
Means s.Statement a rest = OneStatement a rest
Means s.AfterName a rest = (t : Lexeme) → Is w.Name t → OneStatement (t ∷ a) rest
Means s.MaybeElse a rest = ((a ≡ []) × (takes s.MaybeElse rest ≡ false)) ⊎ ((e : Lexeme) × (b : List Lexeme) × (a ≡ e ∷ b) × Is w.Else e × OneStatement b rest)
Means s.ForInit a rest = (n : ℕ) × (init : Perhaps) × IsInit (IsExpression n) a init

-- the same for some symbols, one behind the other
abbrev pub Follow : List Symbol → List Lexeme → (rest : List Lexeme) → Type 0
Follow [] a rest = a ≡ []
Follow (s ∷ []) a rest = Means s a rest
Follow (s ∷ u ∷ us) a rest = (b : List Lexeme) × (c : List Lexeme) × (a ≡ b ++ c) × Means s b (c ++ rest) × Follow (u ∷ us) c rest

abbrev pub Given : Next → List Lexeme → (rest : List Lexeme) → Type 0
Given None a rest = ⊥
Given (Some new) a rest = Follow new a rest

pub split_follow : (new : List Symbol) (m : Symbol) (more : List Symbol) (a rest : List Lexeme) → Follow (new ++ (m ∷ more)) a rest → (b : List Lexeme) × (c : List Lexeme)
    × (a ≡ b ++ c) × Follow new b (c ++ rest) × Follow (m ∷ more) c rest
split_follow [] m more a rest h = ([], a, refl, refl, h)
split_follow (s ∷ []) m more a rest h = h
split_follow (s ∷ u ∷ us) m more a rest (b, c, e, l, q) =
    let i = split_follow (u ∷ us) m more c rest q in (
      b ++ i.0,
      i.1,
      e ∙ ap (λ (z : List Lexeme). b ++ z) i.2 ∙ sym (append_assoc b i.0 i.1),
      (b, i.0, refl, subst (λ (z : List Lexeme). Means s b z) (ap (λ (z : List Lexeme). z ++ rest) i.2 ∙ append_assoc i.0 i.1 rest) l, i.3),
      i.4,
    )

pub split_onto : (next : Next) (m : Symbol) (more : List Symbol) (a rest : List Lexeme) → Given (onto next (m ∷ more)) a rest → (b : List Lexeme) × (c : List Lexeme) × (a ≡ b ++ c)
    × Given next b (c ++ rest) × Follow (m ∷ more) c rest
split_onto None m more a rest h = absurd h
split_onto (Some new) m more a rest h = split_follow new m more a rest h

pub split_either : (x y : Next) (a rest : List Lexeme) → Given (either x y) a rest → Given x a rest ⊎ Given y a rest
split_either None y a rest h = inr h
split_either (Some new) y a rest h = inl h

-- the terminal of a token, by its kind
pub exact : (t : Lexeme) (kind : TerminalKind) (terminal : Terminal) → kind_of_terminal t.terminal ≡ kind → terminal_of kind ≡ Some terminal → Is terminal t
exact t kind terminal e f =
    let g : terminal_of (kind_of_terminal t.terminal) ≡ Some terminal = ap terminal_of e ∙ f in
    let some : is_some (terminal_of (kind_of_terminal t.terminal)) ≡ true = ap (λ (z : Option Terminal). is_some z) g in
    let h = terminal_is t.terminal some in
    cc
