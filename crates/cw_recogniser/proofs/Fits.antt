-- What completes each stack, and that what follows a symbol on a stack isn't taken by it.
use Rattle.std.proofs.Common.{◌≡◌, Bool, true, false, List, [], ◌∷◌, ◌++◌, refl, sym, ap, subst, ◌∙◌, append_assoc, Some, None}
use Rattle.std.specs.Prelude.{is_some, not}
use Rattle.cw_grammar.specs.declared.terminals.Terminal.{Terminal}
use Rattle.cw_grammar.specs.declared.terminals.Terminal.TheVariants as w
use Rattle.cw_grammar.specs.declared.terminals.Lexeme.{Lexeme}
use Rattle.cw_recogniser.specs.declared.kinds.TerminalKind.{TerminalKind}
use Rattle.cw_recogniser.specs.declared.kinds.TerminalKind.TheVariants as k
use Rattle.cw_recogniser.specs.declared.symbols.Symbol.{Symbol}
use Rattle.cw_recogniser.specs.declared.symbols.Symbol.TheVariants as s
use Rattle.cw_recogniser.specs.Machine.{Next, onto, either, after, may_be_empty, fed, feed, unary, expression, operand, plain_unary, measured, call, texts, suffixes, operator}
use Rattle.cw_recogniser.specs.Machine.{assignment, more_arguments, bare_type, after_unsigned, after_long, qualified, specifiers, type_name, two_stars, one_star, declaration}
use Rattle.cw_recogniser.specs.Machine.{array, initialiser, initial, more_elements, more_items, after_declared, param, params, after_type, after_void, brackets, more_params}
use Rattle.cw_recogniser.specs.Machine.{ending, statement, after_name, maybe_else, for_init, opening, closing, close_bracket, close_brace, semicolon, while_keyword, name}
use Rattle.cw_recogniser.proofs.Accepting.{Accepts, takes, step, skip}
use Rattle.cw_recogniser.proofs.Heads.{head, untaken}
use Rattle.std.proofs.lemmas.Bool.{not-true as is_false}

-- ---- completions

abbrev plain : Terminal → Lexeme
plain terminal = record { terminal = terminal; from = 0; to = 0 }

abbrev completion : Symbol → List Lexeme
completion s.Open = plain w.Open ∷ []
completion s.Close = plain w.Close ∷ []
completion s.CloseBracket = plain w.CloseBracket ∷ []
completion s.CloseBrace = plain w.CloseBrace ∷ []
completion s.Semicolon = plain w.Semicolon ∷ []
completion s.While = plain w.While ∷ []
completion s.Name = plain w.Name ∷ []
completion s.Expression = plain w.Name ∷ []
completion s.Operand = plain w.Name ∷ []
completion s.Unary = plain w.Name ∷ []
completion s.Measured = plain w.Name ∷ []
completion s.AfterOpen = plain w.Name ∷ plain w.Close ∷ []
completion s.AfterOpenOperand = plain w.Name ∷ plain w.Close ∷ []
completion s.AfterOpenMeasured = plain w.Name ∷ plain w.Close ∷ []
completion s.Qualified = plain w.Int ∷ []
completion s.Type = plain w.Int ∷ []
completion s.Initial = plain w.Name ∷ []
completion s.AfterDeclared = plain w.Semicolon ∷ []
completion s.Params = plain w.Close ∷ plain w.Semicolon ∷ []
completion s.AfterVoid = plain w.Close ∷ plain w.Semicolon ∷ []
completion (s.Param named) = plain w.Int ∷ plain w.Close ∷ plain w.Semicolon ∷ []
completion (s.AfterType named) = plain w.Close ∷ plain w.Semicolon ∷ []
completion (s.MoreParams named) = plain w.Close ∷ plain w.Semicolon ∷ []
completion (s.Ending named) = plain w.Semicolon ∷ []
completion s.Statement = plain w.Semicolon ∷ []
completion s.AfterName = plain w.Semicolon ∷ []
completion s.ForInit = plain w.Semicolon ∷ []
completion _ = []

abbrev pub completed : List Symbol → List Lexeme
completed [] = []
completed (s ∷ below) = completion s ++ completed below

completed_both : (a b : List Symbol) → completed (a ++ b) ≡ completed a ++ completed b
completed_both [] b = refl
completed_both (s ∷ a) b = ap (λ (z : List Lexeme). completion s ++ z) (completed_both a b) ∙ sym (append_assoc (completion s) (completed a) (completed b))

-- ---- what may follow

abbrev is_tight : TerminalKind → Bool
is_tight k.Close = true
is_tight k.CloseBracket = true
is_tight k.CloseBrace = true
is_tight k.Semicolon = true
is_tight _ = false

abbrev is_type_end : TerminalKind → Bool
is_type_end k.Close = true
is_type_end k.Name = true
is_type_end _ = false

abbrev is_brace : TerminalKind → Bool
is_brace k.CloseBrace = true
is_brace _ = false

abbrev fits : Symbol → List Lexeme → Bool
fits s.Expression rest = head is_tight rest
fits s.Operand rest = head is_tight rest
fits s.Unary rest = head is_tight rest
fits s.Measured rest = head is_tight rest
fits s.AfterOpen rest = head is_tight rest
fits s.AfterOpenOperand rest = head is_tight rest
fits s.AfterOpenMeasured rest = head is_tight rest
fits s.Call rest = head is_tight rest
fits s.Texts rest = head is_tight rest
fits s.Suffixes rest = head is_tight rest
fits (s.Tail may) rest = head is_tight rest
fits s.MaybeExpression rest = head is_tight rest
fits s.Arguments rest = head is_tight rest
fits s.MoreArguments rest = head is_tight rest
fits s.Array rest = head is_tight rest
fits s.Initialiser rest = head is_tight rest
fits s.Initial rest = head is_tight rest
fits s.MoreElements rest = head is_tight rest
fits s.Elements rest = head is_tight rest
fits s.MoreItems rest = head is_tight rest
fits s.Qualified rest = head is_type_end rest
fits s.Type rest = head is_type_end rest
fits s.AfterUnsigned rest = head is_type_end rest
fits s.AfterLong rest = head is_type_end rest
fits s.TwoStars rest = head is_type_end rest
fits s.OneStar rest = head is_type_end rest
fits s.Items rest = head is_brace rest
fits s.Statement rest = not (takes s.MaybeElse rest)
fits s.AfterName rest = not (takes s.MaybeElse rest)
fits s.MaybeElse rest = not (takes s.MaybeElse rest)
fits s.Parts rest = not (takes s.Parts rest)
fits s.Brackets rest = not (takes s.Brackets rest)
fits _ rest = true

-- each symbol fits before what completes those below it
abbrev pub Fit : List Symbol → Type 0
Fit [] = Unit {0}
Fit (s ∷ below) = (fits s (completed below) ≡ true) × Fit below

-- ---- what fits isn't taken

no_call : (kind : TerminalKind) → is_tight kind ≡ true → is_some (after s.Call kind) ≡ false
no_call k.Close e = refl
no_call k.CloseBracket e = refl
no_call k.CloseBrace e = refl
no_call k.Semicolon e = refl
no_call _ e = absurd cc

no_texts : (kind : TerminalKind) → is_tight kind ≡ true → is_some (after s.Texts kind) ≡ false
no_texts k.Close e = refl
no_texts k.CloseBracket e = refl
no_texts k.CloseBrace e = refl
no_texts k.Semicolon e = refl
no_texts _ e = absurd cc

no_suffixes : (kind : TerminalKind) → is_tight kind ≡ true → is_some (after s.Suffixes kind) ≡ false
no_suffixes k.Close e = refl
no_suffixes k.CloseBracket e = refl
no_suffixes k.CloseBrace e = refl
no_suffixes k.Semicolon e = refl
no_suffixes _ e = absurd cc

no_tail_true : (kind : TerminalKind) → is_tight kind ≡ true → is_some (after (s.Tail true) kind) ≡ false
no_tail_true k.Close e = refl
no_tail_true k.CloseBracket e = refl
no_tail_true k.CloseBrace e = refl
no_tail_true k.Semicolon e = refl
no_tail_true _ e = absurd cc

no_tail_false : (kind : TerminalKind) → is_tight kind ≡ true → is_some (after (s.Tail false) kind) ≡ false
no_tail_false k.Close e = refl
no_tail_false k.CloseBracket e = refl
no_tail_false k.CloseBrace e = refl
no_tail_false k.Semicolon e = refl
no_tail_false _ e = absurd cc

no_maybeexpression : (kind : TerminalKind) → is_tight kind ≡ true → is_some (after s.MaybeExpression kind) ≡ false
no_maybeexpression k.Close e = refl
no_maybeexpression k.CloseBracket e = refl
no_maybeexpression k.CloseBrace e = refl
no_maybeexpression k.Semicolon e = refl
no_maybeexpression _ e = absurd cc

no_arguments : (kind : TerminalKind) → is_tight kind ≡ true → is_some (after s.Arguments kind) ≡ false
no_arguments k.Close e = refl
no_arguments k.CloseBracket e = refl
no_arguments k.CloseBrace e = refl
no_arguments k.Semicolon e = refl
no_arguments _ e = absurd cc

no_morearguments : (kind : TerminalKind) → is_tight kind ≡ true → is_some (after s.MoreArguments kind) ≡ false
no_morearguments k.Close e = refl
no_morearguments k.CloseBracket e = refl
no_morearguments k.CloseBrace e = refl
no_morearguments k.Semicolon e = refl
no_morearguments _ e = absurd cc

no_array : (kind : TerminalKind) → is_tight kind ≡ true → is_some (after s.Array kind) ≡ false
no_array k.Close e = refl
no_array k.CloseBracket e = refl
no_array k.CloseBrace e = refl
no_array k.Semicolon e = refl
no_array _ e = absurd cc

no_initialiser : (kind : TerminalKind) → is_tight kind ≡ true → is_some (after s.Initialiser kind) ≡ false
no_initialiser k.Close e = refl
no_initialiser k.CloseBracket e = refl
no_initialiser k.CloseBrace e = refl
no_initialiser k.Semicolon e = refl
no_initialiser _ e = absurd cc

no_moreelements : (kind : TerminalKind) → is_tight kind ≡ true → is_some (after s.MoreElements kind) ≡ false
no_moreelements k.Close e = refl
no_moreelements k.CloseBracket e = refl
no_moreelements k.CloseBrace e = refl
no_moreelements k.Semicolon e = refl
no_moreelements _ e = absurd cc

no_elements : (kind : TerminalKind) → is_tight kind ≡ true → is_some (after s.Elements kind) ≡ false
no_elements k.Close e = refl
no_elements k.CloseBracket e = refl
no_elements k.CloseBrace e = refl
no_elements k.Semicolon e = refl
no_elements _ e = absurd cc

no_moreitems : (kind : TerminalKind) → is_tight kind ≡ true → is_some (after s.MoreItems kind) ≡ false
no_moreitems k.Close e = refl
no_moreitems k.CloseBracket e = refl
no_moreitems k.CloseBrace e = refl
no_moreitems k.Semicolon e = refl
no_moreitems _ e = absurd cc

no_afterunsigned : (kind : TerminalKind) → is_type_end kind ≡ true → is_some (after s.AfterUnsigned kind) ≡ false
no_afterunsigned k.Close e = refl
no_afterunsigned k.Name e = refl
no_afterunsigned _ e = absurd cc

no_afterlong : (kind : TerminalKind) → is_type_end kind ≡ true → is_some (after s.AfterLong kind) ≡ false
no_afterlong k.Close e = refl
no_afterlong k.Name e = refl
no_afterlong _ e = absurd cc

no_twostars : (kind : TerminalKind) → is_type_end kind ≡ true → is_some (after s.TwoStars kind) ≡ false
no_twostars k.Close e = refl
no_twostars k.Name e = refl
no_twostars _ e = absurd cc

no_onestar : (kind : TerminalKind) → is_type_end kind ≡ true → is_some (after s.OneStar kind) ≡ false
no_onestar k.Close e = refl
no_onestar k.Name e = refl
no_onestar _ e = absurd cc

no_items : (kind : TerminalKind) → is_brace kind ≡ true → is_some (after s.Items kind) ≡ false
no_items k.CloseBrace e = refl
no_items _ e = absurd cc

fit_untaken : (symbol : Symbol) (rest : List Lexeme) → may_be_empty symbol ≡ true → fits symbol rest ≡ true → takes symbol rest ≡ false
fit_untaken s.Call rest e f = untaken s.Call is_tight no_call rest f
fit_untaken s.Texts rest e f = untaken s.Texts is_tight no_texts rest f
fit_untaken s.Suffixes rest e f = untaken s.Suffixes is_tight no_suffixes rest f
fit_untaken (s.Tail true) rest e f = untaken (s.Tail true) is_tight no_tail_true rest f
fit_untaken (s.Tail false) rest e f = untaken (s.Tail false) is_tight no_tail_false rest f
fit_untaken s.MaybeExpression rest e f = untaken s.MaybeExpression is_tight no_maybeexpression rest f
fit_untaken s.Arguments rest e f = untaken s.Arguments is_tight no_arguments rest f
fit_untaken s.MoreArguments rest e f = untaken s.MoreArguments is_tight no_morearguments rest f
fit_untaken s.Array rest e f = untaken s.Array is_tight no_array rest f
fit_untaken s.Initialiser rest e f = untaken s.Initialiser is_tight no_initialiser rest f
fit_untaken s.MoreElements rest e f = untaken s.MoreElements is_tight no_moreelements rest f
fit_untaken s.Elements rest e f = untaken s.Elements is_tight no_elements rest f
fit_untaken s.MoreItems rest e f = untaken s.MoreItems is_tight no_moreitems rest f
fit_untaken s.AfterUnsigned rest e f = untaken s.AfterUnsigned is_type_end no_afterunsigned rest f
fit_untaken s.AfterLong rest e f = untaken s.AfterLong is_type_end no_afterlong rest f
fit_untaken s.TwoStars rest e f = untaken s.TwoStars is_type_end no_twostars rest f
fit_untaken s.OneStar rest e f = untaken s.OneStar is_type_end no_onestar rest f
fit_untaken s.Items rest e f = untaken s.Items is_brace no_items rest f
fit_untaken s.MaybeElse rest e f = is_false (takes s.MaybeElse rest) f
fit_untaken s.Parts rest e f = is_false (takes s.Parts rest) f
fit_untaken s.Brackets rest e f = is_false (takes s.Brackets rest) f
fit_untaken _ rest e f = absurd cc

-- a symbol that fits may be left empty
leave : {symbol : Symbol} {below : List Symbol} {rest : List Lexeme} → may_be_empty symbol ≡ true → fits symbol rest ≡ true → Accepts below rest → Accepts (symbol ∷ below) rest
leave {symbol} {below} {rest} e f h = skip e (fit_untaken symbol rest e f) h

-- what completes a symbol is accepted in its place
completes_one : (symbol : Symbol) (below : List Symbol) (rest : List Lexeme) → fits symbol rest ≡ true → Accepts below rest → Accepts (symbol ∷ below) (completion symbol ++ rest)
completes_one s.Open below rest f h = step refl refl h
completes_one s.Close below rest f h = step refl refl h
completes_one s.CloseBracket below rest f h = step refl refl h
completes_one s.CloseBrace below rest f h = step refl refl h
completes_one s.Semicolon below rest f h = step refl refl h
completes_one s.While below rest f h = step refl refl h
completes_one s.Name below rest f h = step refl refl h
completes_one s.AfterDeclared below rest f h = step refl refl h
completes_one s.AfterName below rest f h = step refl refl h
completes_one s.ForInit below rest f h = step refl refl h
completes_one s.Statement below rest f h = step refl refl h
completes_one (s.Ending true) below rest f h = step refl refl h
completes_one (s.Ending false) below rest f h = step refl refl h
completes_one s.Expression below rest f h = step refl refl (leave refl f (leave refl f (leave refl f h)))
completes_one s.Initial below rest f h = step refl refl (leave refl f (leave refl f (leave refl f h)))
completes_one s.Operand below rest f h = step refl refl (leave refl f (leave refl f h))
completes_one s.Unary below rest f h = step refl refl (leave refl f (leave refl f h))
completes_one s.Measured below rest f h = step refl refl (leave refl f (leave refl f h))
completes_one s.AfterOpen below rest f h = step refl refl (leave refl refl (leave refl refl (leave refl refl (step refl refl (leave refl f (leave refl f h))))))
completes_one s.AfterOpenOperand below rest f h = step refl refl (leave refl refl (leave refl refl (leave refl refl (step refl refl (leave refl f h)))))
completes_one s.AfterOpenMeasured below rest f h = step refl refl (leave refl refl (leave refl refl (leave refl refl (step refl refl (leave refl f h)))))
completes_one s.Qualified below rest f h = step refl refl h
completes_one s.Type below rest f h = step refl refl h
completes_one s.Params below rest f h = step refl refl (step refl refl h)
completes_one s.AfterVoid below rest f h = step refl refl (step refl refl h)
completes_one (s.Param true) below rest f h = step refl refl (leave refl refl (step refl refl (step refl refl h)))
completes_one (s.AfterType true) below rest f h = step refl refl (step refl refl h)
completes_one (s.MoreParams true) below rest f h = step refl refl (step refl refl h)
completes_one (s.Param false) below rest f h = step refl refl (leave refl refl (step refl refl (step refl refl h)))
completes_one (s.AfterType false) below rest f h = step refl refl (step refl refl h)
completes_one (s.MoreParams false) below rest f h = step refl refl (step refl refl h)
completes_one s.Call below rest f h = leave refl f h
completes_one s.Texts below rest f h = leave refl f h
completes_one s.Suffixes below rest f h = leave refl f h
completes_one (s.Tail may) below rest f h = leave refl f h
completes_one s.MaybeExpression below rest f h = leave refl f h
completes_one s.Arguments below rest f h = leave refl f h
completes_one s.MoreArguments below rest f h = leave refl f h
completes_one s.AfterUnsigned below rest f h = leave refl f h
completes_one s.AfterLong below rest f h = leave refl f h
completes_one s.TwoStars below rest f h = leave refl f h
completes_one s.OneStar below rest f h = leave refl f h
completes_one s.Array below rest f h = leave refl f h
completes_one s.Initialiser below rest f h = leave refl f h
completes_one s.MoreElements below rest f h = leave refl f h
completes_one s.Elements below rest f h = leave refl f h
completes_one s.MoreItems below rest f h = leave refl f h
completes_one s.Parts below rest f h = leave refl f h
completes_one s.Brackets below rest f h = leave refl f h
completes_one s.Items below rest f h = leave refl f h
completes_one s.MaybeElse below rest f h = leave refl f h

pub completes : (stack : List Symbol) → Fit stack → Accepts stack (completed stack)
completes [] f = record { ok = refl }
completes (s ∷ below) f = completes_one s below (completed below) f.0 (completes below f.1)

-- ---- what comes in a symbol's place fits as it did

abbrev FitAll : List Symbol → List Lexeme → Type 0
FitAll [] rest = Unit {0}
FitAll (s ∷ new) rest = (fits s (completed new ++ rest) ≡ true) × FitAll new rest

abbrev FitNext : Next → List Lexeme → Type 0
FitNext None rest = Unit {0}
FitNext (Some new) rest = FitAll new rest

fit_both : (new more : List Symbol) (rest : List Lexeme) → FitAll new (completed more ++ rest) → FitAll more rest → FitAll (new ++ more) rest
fit_both [] more rest f g = g
fit_both (s ∷ new) more rest f g = (
  subst (λ (z : List Lexeme). fits s z ≡ true)
      (sym (append_assoc (completed new) (completed more) rest) ∙ ap (λ (z : List Lexeme). z ++ rest) (sym (completed_both new more))) f.0,
  fit_both new more rest f.1 g,
)

fit_onto : (next : Next) (more : List Symbol) (rest : List Lexeme) → FitNext next (completed more ++ rest) → FitAll more rest → FitNext (onto next more) rest
fit_onto None more rest f g = tt
fit_onto (Some new) more rest f g = fit_both new more rest f g

fit_either : (x y : Next) (rest : List Lexeme) → FitNext x rest → FitNext y rest → FitNext (either x y) rest
fit_either None y rest f g = g
fit_either (Some new) y rest f g = f

no_else_at_brace : (kind : TerminalKind) → is_brace kind ≡ true → is_some (after s.MaybeElse kind) ≡ false
no_else_at_brace k.CloseBrace e = refl
no_else_at_brace _ e = absurd cc

brace_else : (rest : List Lexeme) → head is_brace rest ≡ true → not (takes s.MaybeElse rest) ≡ true
brace_else rest f = ap not (untaken s.MaybeElse is_brace no_else_at_brace rest f)

fit_unary : (kind : TerminalKind) (rest : List Lexeme) → head is_tight rest ≡ true → FitNext (unary kind) rest
fit_unary k.Name rest f = (f, (f, tt))
fit_unary k.Constant rest f = (f, tt)
fit_unary k.Text rest f = (f, (f, tt))
fit_unary k.SizeOf rest f = (f, tt)
fit_unary k.Sign rest f = (f, tt)
fit_unary k.Both rest f = (f, tt)
fit_unary k.Star rest f = (f, tt)
fit_unary k.Step rest f = (f, tt)
fit_unary _ rest f = tt

fit_expression : (kind : TerminalKind) (rest : List Lexeme) → head is_tight rest ≡ true → FitNext (expression kind) rest
fit_expression k.Open rest f = (f, tt)
fit_expression kind rest f = fit_onto (unary kind) (s.Tail true ∷ []) rest (fit_unary kind rest f) (f, tt)

fit_operand : (kind : TerminalKind) (rest : List Lexeme) → head is_tight rest ≡ true → FitNext (operand kind) rest
fit_operand k.Open rest f = (f, tt)
fit_operand kind rest f = fit_unary kind rest f

fit_plain_unary : (kind : TerminalKind) (rest : List Lexeme) → head is_tight rest ≡ true → FitNext (plain_unary kind) rest
fit_plain_unary k.Open rest f = (refl, (refl, (f, tt)))
fit_plain_unary kind rest f = fit_unary kind rest f

fit_measured : (kind : TerminalKind) (rest : List Lexeme) → head is_tight rest ≡ true → FitNext (measured kind) rest
fit_measured k.Open rest f = (f, tt)
fit_measured kind rest f = fit_unary kind rest f

fit_type : (kind : TerminalKind) (rest : List Lexeme) → head is_type_end rest ≡ true → FitNext (bare_type kind) rest
fit_type k.Long rest f = (f, tt)
fit_type k.Unsigned rest f = (f, tt)
fit_type k.Void rest f = tt
fit_type k.Char rest f = tt
fit_type k.Int rest f = tt
fit_type _ rest f = tt

fit_qualified : (kind : TerminalKind) (rest : List Lexeme) → head is_type_end rest ≡ true → FitNext (qualified kind) rest
fit_qualified k.Const rest f = (f, tt)
fit_qualified kind rest f = fit_type kind rest f

fit_specifiers : (kind : TerminalKind) (rest : List Lexeme) → head is_type_end rest ≡ true → FitNext (specifiers kind) rest
fit_specifiers k.Storage rest f = (f, tt)
fit_specifiers kind rest f = fit_qualified kind rest f

fit_type_name : (kind : TerminalKind) (rest : List Lexeme) → head is_type_end rest ≡ true → FitNext (type_name kind) rest
fit_type_name kind rest f = fit_onto (qualified kind) (s.TwoStars ∷ []) rest (fit_qualified kind rest f) (f, tt)

fit_call : (kind : TerminalKind) (rest : List Lexeme) → FitNext (call kind) rest
fit_call k.Open rest = (refl, (refl, tt))
fit_call _ rest = tt

fit_texts : (kind : TerminalKind) (rest : List Lexeme) → head is_tight rest ≡ true → FitNext (texts kind) rest
fit_texts k.Text rest f = (f, tt)
fit_texts _ rest f = tt

fit_suffixes : (kind : TerminalKind) (rest : List Lexeme) → head is_tight rest ≡ true → FitNext (suffixes kind) rest
fit_suffixes k.OpenBracket rest f = (refl, (refl, (f, tt)))
fit_suffixes k.Step rest f = (f, tt)
fit_suffixes _ rest f = tt

fit_operator : (kind : TerminalKind) (rest : List Lexeme) → head is_tight rest ≡ true → FitNext (operator kind) rest
fit_operator k.Star rest f = (f, (f, tt))
fit_operator k.Both rest f = (f, (f, tt))
fit_operator k.Binary rest f = (f, (f, tt))
fit_operator _ rest f = tt

fit_assignment : (kind : TerminalKind) (rest : List Lexeme) → head is_tight rest ≡ true → FitNext (assignment kind) rest
fit_assignment k.Assign rest f = (f, tt)
fit_assignment k.Update rest f = (f, tt)
fit_assignment kind rest f = fit_operator kind rest f

fit_more_arguments : (kind : TerminalKind) (rest : List Lexeme) → head is_tight rest ≡ true → FitNext (more_arguments kind) rest
fit_more_arguments k.Comma rest f = (f, (f, tt))
fit_more_arguments _ rest f = tt

fit_after_unsigned : (kind : TerminalKind) (rest : List Lexeme) → head is_type_end rest ≡ true → FitNext (after_unsigned kind) rest
fit_after_unsigned k.Long rest f = (f, tt)
fit_after_unsigned k.Char rest f = tt
fit_after_unsigned k.Int rest f = tt
fit_after_unsigned _ rest f = tt

fit_after_long : (kind : TerminalKind) (rest : List Lexeme) → FitNext (after_long kind) rest
fit_after_long k.Int rest = tt
fit_after_long _ rest = tt

fit_two_stars : (kind : TerminalKind) (rest : List Lexeme) → head is_type_end rest ≡ true → FitNext (two_stars kind) rest
fit_two_stars k.Star rest f = (f, tt)
fit_two_stars _ rest f = tt

fit_one_star : (kind : TerminalKind) (rest : List Lexeme) → FitNext (one_star kind) rest
fit_one_star k.Star rest = tt
fit_one_star _ rest = tt

fit_declaration : (kind : TerminalKind) (rest : List Lexeme) → FitNext (declaration kind) rest
fit_declaration kind rest = fit_onto (specifiers kind) (s.TwoStars ∷ s.Name ∷ s.Array ∷ s.Initialiser ∷ s.MoreItems ∷ s.Semicolon ∷ []) rest
    (fit_specifiers kind (plain w.Name ∷ plain w.Semicolon ∷ rest) refl) (refl, (refl, (refl, (refl, (refl, (refl, tt))))))

fit_array : (kind : TerminalKind) (rest : List Lexeme) → FitNext (array kind) rest
fit_array k.OpenBracket rest = (refl, (refl, tt))
fit_array _ rest = tt

fit_initialiser : (kind : TerminalKind) (rest : List Lexeme) → head is_tight rest ≡ true → FitNext (initialiser kind) rest
fit_initialiser k.Assign rest f = (f, tt)
fit_initialiser _ rest f = tt

fit_initial : (kind : TerminalKind) (rest : List Lexeme) → head is_tight rest ≡ true → FitNext (initial kind) rest
fit_initial k.OpenBrace rest f = (refl, (refl, (refl, tt)))
fit_initial kind rest f = fit_expression kind rest f

fit_more_elements : (kind : TerminalKind) (rest : List Lexeme) → head is_tight rest ≡ true → FitNext (more_elements kind) rest
fit_more_elements k.Comma rest f = (f, tt)
fit_more_elements _ rest f = tt

fit_more_items : (kind : TerminalKind) (rest : List Lexeme) → head is_tight rest ≡ true → FitNext (more_items kind) rest
fit_more_items k.Comma rest f = (refl, (refl, (f, (f, (f, tt)))))
fit_more_items _ rest f = tt

fit_after_declared : (kind : TerminalKind) (rest : List Lexeme) → FitNext (after_declared kind) rest
fit_after_declared k.Open rest = (refl, tt)
fit_after_declared k.OpenBracket rest = (refl, (refl, (refl, (refl, (refl, tt)))))
fit_after_declared k.Assign rest = (refl, (refl, (refl, tt)))
fit_after_declared k.Comma rest = (refl, (refl, (refl, (refl, (refl, (refl, tt))))))
fit_after_declared k.Semicolon rest = tt
fit_after_declared _ rest = tt

fit_param : (named : Bool) (kind : TerminalKind) (rest : List Lexeme) → FitNext (param named kind) rest
fit_param named kind rest = fit_onto (type_name kind) (s.AfterType named ∷ []) rest (fit_type_name kind (plain w.Close ∷ plain w.Semicolon ∷ rest) refl) (refl, tt)

fit_params : (kind : TerminalKind) (rest : List Lexeme) → FitNext (params kind) rest
fit_params k.Close rest = (refl, tt)
fit_params k.Void rest = (refl, tt)
fit_params kind rest = fit_param true kind rest

fit_after_type : (named : Bool) (kind : TerminalKind) (rest : List Lexeme) → FitNext (after_type named kind) rest
fit_after_type named k.Name rest = (refl, (refl, tt))
fit_after_type named k.OpenBracket rest = (refl, (refl, tt))
fit_after_type named k.Comma rest = (refl, tt)
fit_after_type named k.Close rest = (refl, tt)
fit_after_type named _ rest = tt

fit_after_void : (kind : TerminalKind) (rest : List Lexeme) → FitNext (after_void kind) rest
fit_after_void k.Close rest = (refl, tt)
fit_after_void k.Star rest = (refl, (refl, tt))
fit_after_void kind rest = fit_after_type true kind rest

fit_brackets : (kind : TerminalKind) (rest : List Lexeme) → FitNext (brackets kind) rest
fit_brackets k.OpenBracket rest = (refl, tt)
fit_brackets _ rest = tt

fit_more_params : (named : Bool) (kind : TerminalKind) (rest : List Lexeme) → FitNext (more_params named kind) rest
fit_more_params named k.Comma rest = (refl, tt)
fit_more_params named k.Close rest = (refl, tt)
fit_more_params named _ rest = tt

fit_ending : (named : Bool) (kind : TerminalKind) (rest : List Lexeme) → FitNext (ending named kind) rest
fit_ending true k.Semicolon rest = tt
fit_ending false k.Semicolon rest = tt
fit_ending true k.OpenBrace rest = (refl, (refl, tt))
fit_ending true _ rest = tt
fit_ending false _ rest = tt

fit_statement : (kind : TerminalKind) (rest : List Lexeme) → not (takes s.MaybeElse rest) ≡ true → FitNext (statement kind) rest
fit_statement k.Semicolon rest f = tt
fit_statement k.OpenBrace rest f = (refl, (refl, tt))
fit_statement k.Name rest f = (f, tt)
fit_statement k.If rest f = (refl, (refl, (refl, (f, (f, tt)))))
fit_statement k.While rest f = (refl, (refl, (refl, (f, tt))))
fit_statement k.Do rest f = (refl, (refl, (refl, (refl, (refl, (refl, tt))))))
fit_statement k.For rest f = (refl, (refl, (refl, (refl, (refl, (refl, (f, tt)))))))
fit_statement k.Jump rest f = (refl, tt)
fit_statement k.Return rest f = (refl, (refl, tt))
fit_statement kind rest f = fit_onto (expression kind) (s.Semicolon ∷ []) rest (fit_expression kind (plain w.Semicolon ∷ rest) refl) (refl, tt)

fit_after_name : (kind : TerminalKind) (rest : List Lexeme) → not (takes s.MaybeElse rest) ≡ true → FitNext (after_name kind) rest
fit_after_name k.Colon rest f = (f, tt)
fit_after_name k.Semicolon rest f = tt
fit_after_name k.Open rest f = (refl, (refl, (refl, (refl, (refl, tt)))))
fit_after_name k.OpenBracket rest f = (refl, (refl, (refl, (refl, (refl, tt)))))
fit_after_name k.Step rest f = (refl, (refl, (refl, tt)))
fit_after_name kind rest f = fit_onto (assignment kind) (s.Semicolon ∷ []) rest (fit_assignment kind (plain w.Semicolon ∷ rest) refl) (refl, tt)

fit_else : (kind : TerminalKind) (rest : List Lexeme) → not (takes s.MaybeElse rest) ≡ true → FitNext (maybe_else kind) rest
fit_else k.Else rest f = (f, tt)
fit_else _ rest f = tt

fit_init : (kind : TerminalKind) (rest : List Lexeme) → FitNext (for_init kind) rest
fit_init k.Semicolon rest = tt
fit_init kind rest = fit_either (declaration kind) (onto (expression kind) (s.Semicolon ∷ [])) rest (fit_declaration kind rest)
    (fit_onto (expression kind) (s.Semicolon ∷ []) rest (fit_expression kind (plain w.Semicolon ∷ rest) refl) (refl, tt))

fit_opening : (kind : TerminalKind) (rest : List Lexeme) → FitNext (opening kind) rest
fit_opening k.Open rest = tt
fit_opening _ rest = tt

fit_closing : (kind : TerminalKind) (rest : List Lexeme) → FitNext (closing kind) rest
fit_closing k.Close rest = tt
fit_closing _ rest = tt

fit_close_bracket : (kind : TerminalKind) (rest : List Lexeme) → FitNext (close_bracket kind) rest
fit_close_bracket k.CloseBracket rest = tt
fit_close_bracket _ rest = tt

fit_close_brace : (kind : TerminalKind) (rest : List Lexeme) → FitNext (close_brace kind) rest
fit_close_brace k.CloseBrace rest = tt
fit_close_brace _ rest = tt

fit_semicolon : (kind : TerminalKind) (rest : List Lexeme) → FitNext (semicolon kind) rest
fit_semicolon k.Semicolon rest = tt
fit_semicolon _ rest = tt

fit_while : (kind : TerminalKind) (rest : List Lexeme) → FitNext (while_keyword kind) rest
fit_while k.While rest = tt
fit_while _ rest = tt

fit_name : (kind : TerminalKind) (rest : List Lexeme) → FitNext (name kind) rest
fit_name k.Name rest = tt
fit_name _ rest = tt

kept : (symbol : Symbol) (kind : TerminalKind) (rest : List Lexeme) → fits symbol rest ≡ true → FitNext (after symbol kind) rest
kept s.Open kind rest f = fit_opening kind rest
kept s.Close kind rest f = fit_closing kind rest
kept s.CloseBracket kind rest f = fit_close_bracket kind rest
kept s.CloseBrace kind rest f = fit_close_brace kind rest
kept s.Semicolon kind rest f = fit_semicolon kind rest
kept s.While kind rest f = fit_while kind rest
kept s.Name kind rest f = fit_name kind rest
kept s.Expression kind rest f = fit_expression kind rest f
kept s.Operand kind rest f = fit_operand kind rest f
kept s.Unary kind rest f = fit_plain_unary kind rest f
kept s.Measured kind rest f = fit_measured kind rest f
kept s.AfterOpen kind rest f = fit_either (onto (type_name kind) (s.Close ∷ s.Operand ∷ s.Tail false ∷ [])) (onto (expression kind) (s.Close ∷ s.Suffixes ∷ s.Tail true ∷ [])) rest
    (fit_onto (type_name kind) (s.Close ∷ s.Operand ∷ s.Tail false ∷ []) rest (fit_type_name kind (plain w.Close ∷ plain w.Name ∷ rest) refl) (refl, (f, (f, tt))))
    (fit_onto (expression kind) (s.Close ∷ s.Suffixes ∷ s.Tail true ∷ []) rest (fit_expression kind (plain w.Close ∷ rest) refl) (refl, (f, (f, tt))))
kept s.AfterOpenOperand kind rest f = fit_either (onto (type_name kind) (s.Close ∷ s.Operand ∷ [])) (onto (expression kind) (s.Close ∷ s.Suffixes ∷ [])) rest
    (fit_onto (type_name kind) (s.Close ∷ s.Operand ∷ []) rest (fit_type_name kind (plain w.Close ∷ plain w.Name ∷ rest) refl) (refl, (f, tt)))
    (fit_onto (expression kind) (s.Close ∷ s.Suffixes ∷ []) rest (fit_expression kind (plain w.Close ∷ rest) refl) (refl, (f, tt)))
kept s.AfterOpenMeasured kind rest f = fit_either (onto (type_name kind) (s.Close ∷ [])) (onto (expression kind) (s.Close ∷ s.Suffixes ∷ [])) rest
    (fit_onto (type_name kind) (s.Close ∷ []) rest (fit_type_name kind (plain w.Close ∷ rest) refl) (refl, tt))
    (fit_onto (expression kind) (s.Close ∷ s.Suffixes ∷ []) rest (fit_expression kind (plain w.Close ∷ rest) refl) (refl, (f, tt)))
kept s.Call kind rest f = fit_call kind rest
kept s.Texts kind rest f = fit_texts kind rest f
kept s.Suffixes kind rest f = fit_suffixes kind rest f
kept (s.Tail true) kind rest f = fit_assignment kind rest f
kept (s.Tail false) kind rest f = fit_operator kind rest f
kept s.MaybeExpression kind rest f = fit_expression kind rest f
kept s.Arguments kind rest f = fit_onto (expression kind) (s.MoreArguments ∷ []) rest (fit_expression kind rest f) (f, tt)
kept s.MoreArguments kind rest f = fit_more_arguments kind rest f
kept s.Qualified kind rest f = fit_qualified kind rest f
kept s.Type kind rest f = fit_type kind rest f
kept s.AfterUnsigned kind rest f = fit_after_unsigned kind rest f
kept s.AfterLong kind rest f = fit_after_long kind rest
kept s.TwoStars kind rest f = fit_two_stars kind rest f
kept s.OneStar kind rest f = fit_one_star kind rest
kept s.Array kind rest f = fit_array kind rest
kept s.Initialiser kind rest f = fit_initialiser kind rest f
kept s.Initial kind rest f = fit_initial kind rest f
kept s.MoreElements kind rest f = fit_more_elements kind rest f
kept s.Elements kind rest f = fit_onto (expression kind) (s.MoreElements ∷ []) rest (fit_expression kind rest f) (f, tt)
kept s.MoreItems kind rest f = fit_more_items kind rest f
kept s.Parts kind rest f = fit_onto (specifiers kind) (s.TwoStars ∷ s.Name ∷ s.AfterDeclared ∷ s.Parts ∷ []) rest
    (fit_specifiers kind (plain w.Name ∷ plain w.Semicolon ∷ rest) refl) (refl, (refl, (refl, (f, tt))))
kept s.AfterDeclared kind rest f = fit_after_declared kind rest
kept s.Params kind rest f = fit_params kind rest
kept s.AfterVoid kind rest f = fit_after_void kind rest
kept (s.Param named) kind rest f = fit_param named kind rest
kept (s.AfterType named) kind rest f = fit_after_type named kind rest
kept s.Brackets kind rest f = fit_brackets kind rest
kept (s.MoreParams named) kind rest f = fit_more_params named kind rest
kept (s.Ending named) kind rest f = fit_ending named kind rest
kept s.Items kind rest f = fit_onto (either (declaration kind) (statement kind)) (s.Items ∷ []) rest
    (fit_either (declaration kind) (statement kind) rest (fit_declaration kind rest) (fit_statement kind rest (brace_else rest f))) (f, tt)
kept s.Statement kind rest f = fit_statement kind rest f
kept s.AfterName kind rest f = fit_after_name kind rest f
kept s.MaybeElse kind rest f = fit_else kind rest f
kept s.ForInit kind rest f = fit_init kind rest

-- ---- whole stacks

fit_below : (new below : List Symbol) → FitAll new (completed below) → Fit below → Fit (new ++ below)
fit_below [] below f g = g
fit_below (s ∷ new) below f g = (subst (λ (z : List Lexeme). fits s z ≡ true) (sym (completed_both new below)) f.0, fit_below new below f.1 g)

by_next : (symbol : Symbol) (below : List Symbol) (kind : TerminalKind) (passed next : Next) (b : Bool) → after symbol kind ≡ next → Fit (symbol ∷ below)
    → ((stack : List Symbol) → passed ≡ Some stack → Fit stack) → (stack : List Symbol) → fed next b below passed ≡ Some stack → Fit stack
by_next symbol below kind passed (Some new) b e f rec stack h =
    let g : FitAll new (completed below) = subst (λ (z : Next). FitNext z (completed below)) e (kept symbol kind (completed below) f.0) in
    let same : new ++ below ≡ stack = cc in
    subst (λ (z : List Symbol). Fit z) same (fit_below new below g f.1)
by_next symbol below kind passed None true e f rec stack h = rec stack h
by_next symbol below kind passed None false e f rec stack h = absurd cc

pub fed_fits : (stack : List Symbol) (kind : TerminalKind) → Fit stack → (next : List Symbol) → feed stack kind ≡ Some next → Fit next
fed_fits [] kind f next h = absurd cc
fed_fits (s ∷ below) kind f next h = by_next s below kind (feed below kind) (after s kind) (may_be_empty s) refl f (fed_fits below kind f.1) next h
