-- Working definitions: the recogniser, a stack of what is still to come.
use Rattle.std.specs.Prelude.{◌≡◌, ℕ, ◌+◌, ◌<◌, ◌≤◌, length, take, is_some, Bool, true, false, ◌&&◌, List, [], ◌∷◌, ◌++◌, reverse, Option, Some, None}
use Rattle.cw_grammar.specs.declared.terminals.Lexeme.{Lexeme}
use Rattle.cw_recogniser.specs.declared.kinds.TerminalKind.{TerminalKind}
use Rattle.cw_recogniser.specs.declared.kinds.TerminalKind.TheVariants as k
use Rattle.cw_recogniser.specs.declared.symbols.Symbol.{Symbol}
use Rattle.cw_recogniser.specs.declared.symbols.Symbol.TheVariants as s
use Rattle.cw_recogniser.specs.Kinds.{kind_of_terminal}

abbrev pub Next : Type 0
Next = Option (List Symbol)

-- these, and more behind them
abbrev pub onto : Next → List Symbol → Next
onto None more = None
onto (Some new) more = Some (new ++ more)

abbrev pub either : Next → Next → Next
either None other = other
either (Some new) other = Some new

-- ---- punctuators

abbrev pub opening : TerminalKind → Next
opening k.Open = Some []
opening _ = None

abbrev pub closing : TerminalKind → Next
closing k.Close = Some []
closing _ = None

abbrev pub close_bracket : TerminalKind → Next
close_bracket k.CloseBracket = Some []
close_bracket _ = None

abbrev pub close_brace : TerminalKind → Next
close_brace k.CloseBrace = Some []
close_brace _ = None

abbrev pub semicolon : TerminalKind → Next
semicolon k.Semicolon = Some []
semicolon _ = None

abbrev pub while_keyword : TerminalKind → Next
while_keyword k.While = Some []
while_keyword _ = None

abbrev pub name : TerminalKind → Next
name k.Name = Some []
name _ = None

-- ---- expressions: what is to come behind the first token, if one of its kind may be first

-- a unary that doesn't begin with a parenthesis
abbrev pub unary : TerminalKind → Next
unary k.Name = Some (s.Call ∷ s.Suffixes ∷ [])
unary k.Constant = Some (s.Suffixes ∷ [])
unary k.Text = Some (s.Texts ∷ s.Suffixes ∷ [])
unary k.SizeOf = Some (s.Measured ∷ [])
unary k.Sign = Some (s.Operand ∷ [])
unary k.Both = Some (s.Operand ∷ [])
unary k.Star = Some (s.Operand ∷ [])
unary k.Step = Some (s.Unary ∷ [])
unary _ = None

abbrev pub expression : TerminalKind → Next
expression k.Open = Some (s.AfterOpen ∷ [])
expression kind = onto (unary kind) (s.Tail true ∷ [])

abbrev pub operand : TerminalKind → Next
operand k.Open = Some (s.AfterOpenOperand ∷ [])
operand kind = unary kind

abbrev pub plain_unary : TerminalKind → Next
plain_unary k.Open = Some (s.Expression ∷ s.Close ∷ s.Suffixes ∷ [])
plain_unary kind = unary kind

abbrev pub measured : TerminalKind → Next
measured k.Open = Some (s.AfterOpenMeasured ∷ [])
measured kind = unary kind

abbrev pub call : TerminalKind → Next
call k.Open = Some (s.Arguments ∷ s.Close ∷ [])
call _ = None

abbrev pub texts : TerminalKind → Next
texts k.Text = Some (s.Texts ∷ [])
texts _ = None

abbrev pub suffixes : TerminalKind → Next
suffixes k.OpenBracket = Some (s.Expression ∷ s.CloseBracket ∷ s.Suffixes ∷ [])
suffixes k.Step = Some (s.Suffixes ∷ [])
suffixes _ = None

abbrev pub operator : TerminalKind → Next
operator k.Star = Some (s.Operand ∷ s.Tail false ∷ [])
operator k.Both = Some (s.Operand ∷ s.Tail false ∷ [])
operator k.Binary = Some (s.Operand ∷ s.Tail false ∷ [])
operator _ = None

abbrev pub assignment : TerminalKind → Next
assignment k.Assign = Some (s.Expression ∷ [])
assignment k.Update = Some (s.Expression ∷ [])
assignment kind = operator kind

abbrev pub more_arguments : TerminalKind → Next
more_arguments k.Comma = Some (s.Expression ∷ s.MoreArguments ∷ [])
more_arguments _ = None

-- ---- types

abbrev pub bare_type : TerminalKind → Next
bare_type k.Void = Some []
bare_type k.Char = Some []
bare_type k.Int = Some []
bare_type k.Long = Some (s.AfterLong ∷ [])
bare_type k.Unsigned = Some (s.AfterUnsigned ∷ [])
bare_type _ = None

abbrev pub after_long : TerminalKind → Next
after_long k.Int = Some []
after_long _ = None

abbrev pub after_unsigned : TerminalKind → Next
after_unsigned k.Char = Some []
after_unsigned k.Int = Some []
after_unsigned k.Long = Some (s.AfterLong ∷ [])
after_unsigned _ = None

abbrev pub qualified : TerminalKind → Next
qualified k.Const = Some (s.Type ∷ [])
qualified kind = bare_type kind

abbrev pub specifiers : TerminalKind → Next
specifiers k.Storage = Some (s.Qualified ∷ [])
specifiers kind = qualified kind

abbrev pub type_name : TerminalKind → Next
type_name kind = onto (qualified kind) (s.TwoStars ∷ [])

abbrev pub two_stars : TerminalKind → Next
two_stars k.Star = Some (s.OneStar ∷ [])
two_stars _ = None

abbrev pub one_star : TerminalKind → Next
one_star k.Star = Some []
one_star _ = None

-- ---- declarations

abbrev pub declaration : TerminalKind → Next
declaration kind = onto (specifiers kind) (s.TwoStars ∷ s.Name ∷ s.Array ∷ s.Initialiser ∷ s.MoreItems ∷ s.Semicolon ∷ [])

abbrev pub array : TerminalKind → Next
array k.OpenBracket = Some (s.MaybeExpression ∷ s.CloseBracket ∷ [])
array _ = None

abbrev pub initialiser : TerminalKind → Next
initialiser k.Assign = Some (s.Initial ∷ [])
initialiser _ = None

abbrev pub initial : TerminalKind → Next
initial k.OpenBrace = Some (s.Expression ∷ s.MoreElements ∷ s.CloseBrace ∷ [])
initial kind = expression kind

abbrev pub more_elements : TerminalKind → Next
more_elements k.Comma = Some (s.Elements ∷ [])
more_elements _ = None

abbrev pub more_items : TerminalKind → Next
more_items k.Comma = Some (s.TwoStars ∷ s.Name ∷ s.Array ∷ s.Initialiser ∷ s.MoreItems ∷ [])
more_items _ = None

-- ---- parts of a file

abbrev pub after_declared : TerminalKind → Next
after_declared k.Open = Some (s.Params ∷ [])
after_declared k.OpenBracket = Some (s.MaybeExpression ∷ s.CloseBracket ∷ s.Initialiser ∷ s.MoreItems ∷ s.Semicolon ∷ [])
after_declared k.Assign = Some (s.Initial ∷ s.MoreItems ∷ s.Semicolon ∷ [])
after_declared k.Comma = Some (s.TwoStars ∷ s.Name ∷ s.Array ∷ s.Initialiser ∷ s.MoreItems ∷ s.Semicolon ∷ [])
after_declared k.Semicolon = Some []
after_declared _ = None

abbrev pub param : (named : Bool) → TerminalKind → Next
param named kind = onto (type_name kind) (s.AfterType named ∷ [])

-- parameters that are none or begin with `void`
abbrev pub params_front : TerminalKind → Next
params_front k.Close = Some (s.Ending true ∷ [])
params_front k.Void = Some (s.AfterVoid ∷ [])
params_front _ = None

abbrev pub params : TerminalKind → Next
params kind = either (params_front kind) (param true kind)

abbrev pub after_type : (named : Bool) → TerminalKind → Next
after_type named k.Name = Some (s.Brackets ∷ s.MoreParams named ∷ [])
after_type named k.OpenBracket = Some (s.CloseBracket ∷ s.MoreParams false ∷ [])
after_type named k.Comma = Some (s.Param false ∷ [])
after_type named k.Close = Some (s.Ending false ∷ [])
after_type named _ = None

abbrev pub after_void : TerminalKind → Next
after_void k.Close = Some (s.Ending true ∷ [])
after_void k.Star = Some (s.OneStar ∷ s.AfterType true ∷ [])
after_void kind = after_type true kind

abbrev pub brackets : TerminalKind → Next
brackets k.OpenBracket = Some (s.CloseBracket ∷ [])
brackets _ = None

abbrev pub more_params : (named : Bool) → TerminalKind → Next
more_params named k.Comma = Some (s.Param named ∷ [])
more_params named k.Close = Some (s.Ending named ∷ [])
more_params named _ = None

abbrev pub ending : (named : Bool) → TerminalKind → Next
ending named k.Semicolon = Some []
ending true k.OpenBrace = Some (s.Items ∷ s.CloseBrace ∷ [])
ending named _ = None

-- ---- statements

-- a statement that doesn't begin with an expression alone
abbrev pub keyword : TerminalKind → Next
keyword k.Semicolon = Some []
keyword k.OpenBrace = Some (s.Items ∷ s.CloseBrace ∷ [])
keyword k.Name = Some (s.AfterName ∷ [])
keyword k.If = Some (s.Open ∷ s.Expression ∷ s.Close ∷ s.Statement ∷ s.MaybeElse ∷ [])
keyword k.While = Some (s.Open ∷ s.Expression ∷ s.Close ∷ s.Statement ∷ [])
keyword k.Do = Some (s.Statement ∷ s.While ∷ s.Open ∷ s.Expression ∷ s.Close ∷ s.Semicolon ∷ [])
keyword k.For = Some (s.Open ∷ s.ForInit ∷ s.MaybeExpression ∷ s.Semicolon ∷ s.MaybeExpression ∷ s.Close ∷ s.Statement ∷ [])
keyword k.Jump = Some (s.Semicolon ∷ [])
keyword k.Return = Some (s.MaybeExpression ∷ s.Semicolon ∷ [])
keyword _ = None

abbrev pub statement : TerminalKind → Next
statement kind = either (keyword kind) (onto (expression kind) (s.Semicolon ∷ []))

abbrev pub after_name : TerminalKind → Next
after_name k.Colon = Some (s.Statement ∷ [])
after_name k.Semicolon = Some []
after_name k.Open = Some (s.Arguments ∷ s.Close ∷ s.Suffixes ∷ s.Tail true ∷ s.Semicolon ∷ [])
after_name k.OpenBracket = Some (s.Expression ∷ s.CloseBracket ∷ s.Suffixes ∷ s.Tail true ∷ s.Semicolon ∷ [])
after_name k.Step = Some (s.Suffixes ∷ s.Tail true ∷ s.Semicolon ∷ [])
after_name kind = onto (assignment kind) (s.Semicolon ∷ [])

abbrev pub maybe_else : TerminalKind → Next
maybe_else k.Else = Some (s.Statement ∷ [])
maybe_else _ = None

abbrev pub for_init : TerminalKind → Next
for_init kind = either (semicolon kind) (either (declaration kind) (onto (expression kind) (s.Semicolon ∷ [])))

-- ---- the machine

-- What is to come in a symbol's place behind a token of this kind; none where it doesn't begin with one.
abbrev pub after : Symbol → TerminalKind → Next
after s.Open kind = opening kind
after s.Close kind = closing kind
after s.CloseBracket kind = close_bracket kind
after s.CloseBrace kind = close_brace kind
after s.Semicolon kind = semicolon kind
after s.While kind = while_keyword kind
after s.Name kind = name kind
after s.Expression kind = expression kind
after s.Operand kind = operand kind
after s.Unary kind = plain_unary kind
after s.Measured kind = measured kind
after s.AfterOpen kind = either (onto (type_name kind) (s.Close ∷ s.Operand ∷ s.Tail false ∷ [])) (onto (expression kind) (s.Close ∷ s.Suffixes ∷ s.Tail true ∷ []))
after s.AfterOpenOperand kind = either (onto (type_name kind) (s.Close ∷ s.Operand ∷ [])) (onto (expression kind) (s.Close ∷ s.Suffixes ∷ []))
after s.AfterOpenMeasured kind = either (onto (type_name kind) (s.Close ∷ [])) (onto (expression kind) (s.Close ∷ s.Suffixes ∷ []))
after s.Call kind = call kind
after s.Texts kind = texts kind
after s.Suffixes kind = suffixes kind
after (s.Tail true) kind = assignment kind
after (s.Tail false) kind = operator kind
after s.MaybeExpression kind = expression kind
after s.Arguments kind = onto (expression kind) (s.MoreArguments ∷ [])
after s.MoreArguments kind = more_arguments kind
after s.Qualified kind = qualified kind
after s.Type kind = bare_type kind
after s.AfterUnsigned kind = after_unsigned kind
after s.AfterLong kind = after_long kind
after s.TwoStars kind = two_stars kind
after s.OneStar kind = one_star kind
after s.Array kind = array kind
after s.Initialiser kind = initialiser kind
after s.Initial kind = initial kind
after s.MoreElements kind = more_elements kind
after s.Elements kind = onto (expression kind) (s.MoreElements ∷ [])
after s.MoreItems kind = more_items kind
after s.Parts kind = onto (specifiers kind) (s.TwoStars ∷ s.Name ∷ s.AfterDeclared ∷ s.Parts ∷ [])
after s.AfterDeclared kind = after_declared kind
after s.Params kind = params kind
after s.AfterVoid kind = after_void kind
after (s.Param named) kind = param named kind
after (s.AfterType named) kind = after_type named kind
after s.Brackets kind = brackets kind
after (s.MoreParams named) kind = more_params named kind
after (s.Ending named) kind = ending named kind
after s.Items kind = onto (either (declaration kind) (statement kind)) (s.Items ∷ [])
after s.Statement kind = statement kind
after s.AfterName kind = after_name kind
after s.MaybeElse kind = maybe_else kind
after s.ForInit kind = for_init kind

-- whether a symbol may be empty
abbrev pub may_be_empty : Symbol → Bool
may_be_empty s.Call = true
may_be_empty s.Texts = true
may_be_empty s.Suffixes = true
may_be_empty (s.Tail unary) = true
may_be_empty s.MaybeExpression = true
may_be_empty s.Arguments = true
may_be_empty s.MoreArguments = true
may_be_empty s.AfterUnsigned = true
may_be_empty s.AfterLong = true
may_be_empty s.TwoStars = true
may_be_empty s.OneStar = true
may_be_empty s.Array = true
may_be_empty s.Initialiser = true
may_be_empty s.MoreElements = true
may_be_empty s.Elements = true
may_be_empty s.MoreItems = true
may_be_empty s.Parts = true
may_be_empty s.Brackets = true
may_be_empty s.Items = true
may_be_empty s.MaybeElse = true
may_be_empty _ = false

abbrev pub fed : Next → (empty : Bool) → (below : List Symbol) → (passed : Next) → Next
fed (Some new) empty below passed = Some (new ++ below)
fed None true below passed = passed
fed None false below passed = None

-- the stack behind one more token, if that may come
abbrev pub feed : List Symbol → TerminalKind → Next
feed [] kind = None
feed (symbol ∷ below) kind = fed (after symbol kind) (may_be_empty symbol) below (feed below kind)

-- nothing more needs to come
abbrev pub is_done : List Symbol → Bool
is_done [] = true
is_done (symbol ∷ below) = may_be_empty symbol && is_done below

-- the stack behind some tokens, if each of them may come where it stands
abbrev pub run : List Symbol → List Lexeme → Next
run stack [] = Some stack
run stack (t ∷ ts) = elim (feed stack (kind_of_terminal t.terminal)) [ None ↦ None | Some next ↦ run next ts ]

abbrev pub start : List Symbol
start = s.Parts ∷ []

-- What a step answers: the stack behind it, as the code keeps it with its front last, or that the token can't come.
abbrev pub Steps : Next → List Symbol → Bool → Type 0
Steps next kept true = next ≡ Some (reverse kept)
Steps next kept false = next ≡ None

-- whether a run ended where nothing more needs to come
abbrev pub accepted : Next → Bool
accepted None = false
accepted (Some stack) = is_done stack

-- What is said of some tokens: none, that they are accepted; a number, that they aren't, that so many are each taken where they stand,
-- and that one more isn't.
abbrev pub IsVerdict : List Lexeme → Option ℕ → Type 0
IsVerdict ts None = accepted (run start ts) ≡ true
IsVerdict ts (Some at) =
    (at ≤ length ts) × (accepted (run start ts) ≡ false) × (is_some (run start (take at ts)) ≡ true)
    × (at < length ts → is_some (run start (take (at + 1) ts)) ≡ false)
