-- What the recogniser accepts is of the grammar.
use Rattle.std.proofs.Common.{◌≡◌, Bool, true, false, List, [], ◌∷◌, ◌++◌, refl, sym, ap, subst, ◌∙◌, append_assoc, inl, Some, None}
use Rattle.std.proofs.lemmas.List.{append-nil}
use Rattle.std.specs.Prelude.{is_some, ◌&&◌}
use Rattle.cw_grammar.specs.declared.terminals.Terminal.{Terminal}
use Rattle.cw_grammar.specs.declared.terminals.Terminal.TheVariants as w
use Rattle.cw_grammar.specs.declared.terminals.Lexeme.{Lexeme}
use Rattle.cw_grammar.specs.Files.{IsOfGrammar, file_of}
use Rattle.cw_recogniser.specs.declared.kinds.TerminalKind.{TerminalKind}
use Rattle.cw_recogniser.specs.declared.kinds.TerminalKind.TheVariants as k
use Rattle.cw_recogniser.specs.declared.symbols.Symbol.{Symbol}
use Rattle.cw_recogniser.specs.declared.symbols.Symbol.TheVariants as s
use Rattle.cw_recogniser.specs.Kinds.{kind_of_terminal}
use Rattle.cw_recogniser.specs.Language.{AreOfGrammar}
use Rattle.cw_recogniser.specs.Machine.{Next, after, may_be_empty, fed, feed, start, opening, closing, close_bracket, close_brace, semicolon, while_keyword, name}
use Rattle.cw_recogniser.proofs.Accepting.{then_done, accepts, Accepts, takes}
use Rattle.cw_recogniser.proofs.TerminalKinds.{terminal_of}
use Rattle.cw_recogniser.proofs.Meanings.{Punctuator, Means, Follow, Given, exact}
use Rattle.cw_recogniser.proofs.TypesSound.{long_none, unsigned_none, long_sound, unsigned_sound, type_sound, qualified_sound, stars_none, star_none, two_stars_sound, one_star_sound}
use Rattle.cw_recogniser.proofs.ExpressionsSound.{suffixes_none, call_none, tail_none, more_arguments_none, expression_sound, operand_sound, plain_unary_sound, measured_sound}
use Rattle.cw_recogniser.proofs.ExpressionsSound.{after_open_sound, after_open_operand_sound, after_open_measured_sound, call_sound, texts_sound, suffixes_sound, operator_sound}
use Rattle.cw_recogniser.proofs.ExpressionsSound.{assignment_sound, more_arguments_sound, arguments_sound, maybe_sound}
use Rattle.cw_recogniser.proofs.DeclarationsSound.{array_none, array_sound, initialiser_none, initialiser_sound, more_elements_none, more_elements_sound, elements_none}
use Rattle.cw_recogniser.proofs.DeclarationsSound.{elements_sound, initial_sound, more_items_none, more_items_sound}
use Rattle.cw_recogniser.proofs.ParamsSound.{more_params_sound, brackets_none, brackets_sound, after_type_sound, param_sound, after_void_sound, params_sound, ending_sound}
use Rattle.cw_recogniser.proofs.StatementsSound.{statement_sound, after_name_sound, else_sound, items_sound, init_sound}
use Rattle.cw_recogniser.proofs.FilesSound.{after_declared_sound, parts_sound}

-- ---- punctuators

punctuated : (t : Lexeme) (a : List Lexeme) (kind : TerminalKind) (terminal : Terminal) → kind_of_terminal t.terminal ≡ kind → terminal_of kind ≡ Some terminal → a ≡ [] → Punctuator terminal (t ∷ a)
punctuated t a kind terminal e f h = (t, ap (λ (z : List Lexeme). t ∷ z) h, exact t kind terminal e f)

opening_sound : (kind : TerminalKind) (t : Lexeme) (a rest : List Lexeme) → kind_of_terminal t.terminal ≡ kind → Given (opening kind) a rest → Punctuator w.Open (t ∷ a)
opening_sound k.Open t a rest e h = punctuated t a k.Open w.Open e refl h
opening_sound _ t a rest e h = absurd h

closing_sound : (kind : TerminalKind) (t : Lexeme) (a rest : List Lexeme) → kind_of_terminal t.terminal ≡ kind → Given (closing kind) a rest → Punctuator w.Close (t ∷ a)
closing_sound k.Close t a rest e h = punctuated t a k.Close w.Close e refl h
closing_sound _ t a rest e h = absurd h

close_bracket_sound : (kind : TerminalKind) (t : Lexeme) (a rest : List Lexeme) → kind_of_terminal t.terminal ≡ kind → Given (close_bracket kind) a rest → Punctuator w.CloseBracket (t ∷ a)
close_bracket_sound k.CloseBracket t a rest e h = punctuated t a k.CloseBracket w.CloseBracket e refl h
close_bracket_sound _ t a rest e h = absurd h

close_brace_sound : (kind : TerminalKind) (t : Lexeme) (a rest : List Lexeme) → kind_of_terminal t.terminal ≡ kind → Given (close_brace kind) a rest → Punctuator w.CloseBrace (t ∷ a)
close_brace_sound k.CloseBrace t a rest e h = punctuated t a k.CloseBrace w.CloseBrace e refl h
close_brace_sound _ t a rest e h = absurd h

semicolon_sound : (kind : TerminalKind) (t : Lexeme) (a rest : List Lexeme) → kind_of_terminal t.terminal ≡ kind → Given (semicolon kind) a rest → Punctuator w.Semicolon (t ∷ a)
semicolon_sound k.Semicolon t a rest e h = punctuated t a k.Semicolon w.Semicolon e refl h
semicolon_sound _ t a rest e h = absurd h

while_keyword_sound : (kind : TerminalKind) (t : Lexeme) (a rest : List Lexeme) → kind_of_terminal t.terminal ≡ kind → Given (while_keyword kind) a rest → Punctuator w.While (t ∷ a)
while_keyword_sound k.While t a rest e h = punctuated t a k.While w.While e refl h
while_keyword_sound _ t a rest e h = absurd h

name_sound : (kind : TerminalKind) (t : Lexeme) (a rest : List Lexeme) → kind_of_terminal t.terminal ≡ kind → Given (name kind) a rest → Punctuator w.Name (t ∷ a)
name_sound k.Name t a rest e h = punctuated t a k.Name w.Name e refl h
name_sound _ t a rest e h = absurd h

-- ---- each symbol

taken : (symbol : Symbol) (kind : TerminalKind) (t : Lexeme) (a rest : List Lexeme) → kind_of_terminal t.terminal ≡ kind → Given (after symbol kind) a rest → Means symbol (t ∷ a) rest
taken s.Open kind t a rest e h = opening_sound kind t a rest e h
taken s.Close kind t a rest e h = closing_sound kind t a rest e h
taken s.CloseBracket kind t a rest e h = close_bracket_sound kind t a rest e h
taken s.CloseBrace kind t a rest e h = close_brace_sound kind t a rest e h
taken s.Semicolon kind t a rest e h = semicolon_sound kind t a rest e h
taken s.While kind t a rest e h = while_keyword_sound kind t a rest e h
taken s.Name kind t a rest e h = name_sound kind t a rest e h
taken s.Expression kind t a rest e h = expression_sound kind t a rest e h
taken s.Operand kind t a rest e h = operand_sound kind t a rest e h
taken s.Unary kind t a rest e h = plain_unary_sound kind t a rest e h
taken s.Measured kind t a rest e h = measured_sound kind t a rest e h
taken s.AfterOpen kind t a rest e h = after_open_sound kind t a rest e h
taken s.AfterOpenOperand kind t a rest e h = after_open_operand_sound kind t a rest e h
taken s.AfterOpenMeasured kind t a rest e h = after_open_measured_sound kind t a rest e h
taken s.Call kind t a rest e h = call_sound kind t a rest e h
taken s.Texts kind t a rest e h = texts_sound kind t a rest e h
taken s.Suffixes kind t a rest e h = suffixes_sound kind t a rest e h
taken (s.Tail true) kind t a rest e h = assignment_sound kind t a rest e h
taken (s.Tail false) kind t a rest e h = operator_sound kind t a rest e h
taken s.MaybeExpression kind t a rest e h = maybe_sound kind t a rest e h
taken s.Arguments kind t a rest e h = arguments_sound kind t a rest e h
taken s.MoreArguments kind t a rest e h = more_arguments_sound kind t a rest e h
taken s.Qualified kind t a rest e h = qualified_sound kind t a rest e h
taken s.Type kind t a rest e h = type_sound kind t a rest e h
taken s.AfterUnsigned kind t a rest e h = unsigned_sound kind t a rest e h
taken s.AfterLong kind t a rest e h = long_sound kind t a rest e h
taken s.TwoStars kind t a rest e h = two_stars_sound kind t a rest e h
taken s.OneStar kind t a rest e h = one_star_sound kind t a rest e h
taken s.Array kind t a rest e h = array_sound kind t a rest e h
taken s.Initialiser kind t a rest e h = initialiser_sound kind t a rest e h
taken s.Initial kind t a rest e h = initial_sound kind t a rest e h
taken s.MoreElements kind t a rest e h = more_elements_sound kind t a rest e h
taken s.Elements kind t a rest e h = elements_sound kind t a rest e h
taken s.MoreItems kind t a rest e h = more_items_sound kind t a rest e h
taken s.Parts kind t a rest e h = parts_sound kind t a rest e h
taken s.AfterDeclared kind t a rest e h = after_declared_sound kind t a rest e h
taken s.Params kind t a rest e h = params_sound kind t a rest e h
taken s.AfterVoid kind t a rest e h = after_void_sound kind t a rest e h
taken (s.Param named) kind t a rest e h = param_sound named kind t a rest e h
taken (s.AfterType named) kind t a rest e h = after_type_sound named kind t a rest e h
taken s.Brackets kind t a rest e h = brackets_sound kind t a rest e h
taken (s.MoreParams named) kind t a rest e h = more_params_sound named kind t a rest e h
taken (s.Ending named) kind t a rest e h = ending_sound named kind t a rest e h
taken s.Items kind t a rest e h = items_sound kind t a rest e h
taken s.Statement kind t a rest e h = statement_sound kind t a rest e h
taken s.AfterName kind t a rest e h = after_name_sound kind t a rest e h
taken s.MaybeElse kind t a rest e h = else_sound kind t a rest e h
taken s.ForInit kind t a rest e h = init_sound kind t a rest e h

left_empty : (symbol : Symbol) (rest : List Lexeme) → may_be_empty symbol ≡ true → takes symbol rest ≡ false → Means symbol [] rest
left_empty s.Call rest e f = call_none rest
left_empty s.Texts rest e f = tt
left_empty s.Suffixes rest e f = suffixes_none rest
left_empty (s.Tail may) rest e f = tail_none may rest
left_empty s.MaybeExpression rest e f = (0, None, refl)
left_empty s.Arguments rest e f = (0, [], refl)
left_empty s.MoreArguments rest e f = more_arguments_none rest
left_empty s.AfterUnsigned rest e f = unsigned_none
left_empty s.AfterLong rest e f = long_none
left_empty s.TwoStars rest e f = stars_none
left_empty s.OneStar rest e f = star_none rest
left_empty s.Array rest e f = array_none
left_empty s.Initialiser rest e f = initialiser_none
left_empty s.MoreElements rest e f = more_elements_none rest
left_empty s.Elements rest e f = elements_none rest
left_empty s.MoreItems rest e f = more_items_none rest
left_empty s.Parts rest e f = (0, [], refl)
left_empty s.Brackets rest e f = brackets_none rest
left_empty s.Items rest e f = (0, [], refl)
left_empty s.MaybeElse rest e f = inl (refl, f)
left_empty _ rest e f = absurd cc

-- ---- whole stacks

-- the tokens are what the stack stands for
abbrev Whole : List Symbol → List Lexeme → Type 0
Whole [] ts = ts ≡ []
Whole (s ∷ below) ts = (a : List Lexeme) × (rest : List Lexeme) × (ts ≡ a ++ rest) × Means s a rest × Whole below rest

split_whole : (new below : List Symbol) (ts : List Lexeme) → Whole (new ++ below) ts → (a : List Lexeme) × (rest : List Lexeme) × (ts ≡ a ++ rest) × Follow new a rest × Whole below rest
split_whole [] below ts h = ([], ts, refl, refl, h)
split_whole (s ∷ []) below ts h = h
split_whole (s ∷ u ∷ us) below ts (a, others, e, m, h) =
    let x = split_whole (u ∷ us) below others h in (
      a ++ x.0,
      x.1,
      e ∙ ap (λ (z : List Lexeme). a ++ z) x.2 ∙ sym (append_assoc a x.0 x.1),
      (a, x.0, refl, subst (λ (z : List Lexeme). Means s a z) x.2 m, x.3),
      x.4,
    )

ended : (stack : List Symbol) → accepts stack [] ≡ true → Whole stack []
ended [] h = refl
ended (s ∷ below) h = by_empty (may_be_empty s) refl h (ended below) where
  by_empty : (b : Bool) → may_be_empty s ≡ b → (b && accepts below []) ≡ true → (accepts below [] ≡ true → Whole below []) → Whole (s ∷ below) []
  by_empty true e h rec = ([], [], refl, left_empty s [] e refl, rec h)
  by_empty false e h rec = absurd cc

module _ (t : Lexeme) (ts : List Lexeme) (again : (next : List Symbol) → accepts next ts ≡ true → Whole next ts) where
  by_next : (s : Symbol) (below : List Symbol) (next : Next) (b : Bool) (passed : Next) → after s (kind_of_terminal t.terminal) ≡ next → may_be_empty s ≡ b
      → then_done (fed next b below passed) (λ z. accepts z ts) ≡ true → (then_done passed (λ z. accepts z ts) ≡ true → Whole below (t ∷ ts)) → Whole (s ∷ below) (t ∷ ts)
  by_next s below (Some new) b passed e f h rec =
      let x = split_whole new below ts (again (new ++ below) h) in
      let given : Given (after s (kind_of_terminal t.terminal)) x.0 x.1 = subst (λ (z : Next). Given z x.0 x.1) (sym e) x.3 in
      (t ∷ x.0, x.1, ap (λ (z : List Lexeme). t ∷ z) x.2, taken s (kind_of_terminal t.terminal) t x.0 x.1 refl given, x.4)
  by_next s below None true passed e f h rec = ([], t ∷ ts, refl, left_empty s (t ∷ ts) f (ap (λ (z : Next). is_some z) e), rec h)
  by_next s below None false passed e f h rec = absurd cc

  one_more : (stack : List Symbol) → accepts stack (t ∷ ts) ≡ true → Whole stack (t ∷ ts)
  one_more [] h = absurd cc
  one_more (s ∷ below) h = by_next s below (after s (kind_of_terminal t.terminal)) (may_be_empty s) (feed below (kind_of_terminal t.terminal)) refl refl h (one_more below)

whole : (ts : List Lexeme) (stack : List Symbol) → accepts stack ts ≡ true → Whole stack ts
whole [] stack h = ended stack h
whole (t ∷ ts) stack h = one_more t ts (whole ts) stack h

pub is_text : (ts : List Lexeme) → Accepts start ts → AreOfGrammar ts
unfolding AreOfGrammar IsOfGrammar
is_text ts h = by_parts (whole ts start h.ok) where
  by_parts : (a : List Lexeme) × (rest : List Lexeme) × (ts ≡ a ++ rest) × Means s.Parts a rest × (rest ≡ []) → AreOfGrammar ts
  by_parts (a, rest, e, (n, xs, d), f) =
      let g : ts ≡ a = e ∙ ap (λ (z : List Lexeme). a ++ z) f ∙ append-nil a in
      subst (λ (z : List Lexeme). AreOfGrammar z) (sym g) (file_of xs, (n, (xs, d, refl)))
