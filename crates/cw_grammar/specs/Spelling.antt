-- The terminals of a source's tokens. Public source: ISO/IEC 9899:2011, 6.4.1 (keywords), 6.4.4 (constants), 6.4.6 (punctuators).
use Rattle.std.specs.Prelude.{ℕ, Option, Some, None, List, [], ◌∷◌, map, codes, if◌then◌else◌}
use Rattle.std.specs.Option.{unwrap_or}
use Rattle.std.specs.Str.{bytes_eq}
use Rattle.cw_lex.specs.declared.tokens.TokenKind.{TokenKind}
use Rattle.cw_lex.specs.declared.tokens.TokenKind.TheVariants as kind
use Rattle.cw_lex.specs.declared.tokens.Token.{Token}
use Rattle.cw_syntax.specs.Names.{slice}
use Rattle.cw_lex.specs.Numbers.{number_of}
use Rattle.cw_lex.specs.Characters.{character_of}
use Rattle.cw_grammar.specs.declared.terminals.Terminal.{Terminal}
use Rattle.cw_grammar.specs.declared.terminals.Terminal.TheVariants as w
use Rattle.cw_grammar.specs.declared.terminals.Lexeme.{Lexeme}

-- terminals by their texts
abbrev pub Spellings : Type 0
Spellings = List (List ℕ × Terminal)

-- the keywords of the grammar
abbrev pub keywords : Spellings
keywords =
    (codes "extern", w.Extern) ∷ (codes "static", w.Static) ∷ (codes "const", w.Const) ∷ (codes "void", w.Void)
    ∷ (codes "unsigned", w.Unsigned) ∷ (codes "char", w.Char) ∷ (codes "int", w.Int) ∷ (codes "long", w.Long)
    ∷ (codes "if", w.If) ∷ (codes "else", w.Else) ∷ (codes "while", w.While) ∷ (codes "do", w.Do) ∷ (codes "for", w.For)
    ∷ (codes "break", w.Break) ∷ (codes "continue", w.Continue) ∷ (codes "return", w.Return) ∷ (codes "sizeof", w.SizeOf)
    ∷ []

-- the punctuators of two and three bytes
abbrev pub long_punctuators : Spellings
long_punctuators =
    (codes "<<=", w.LeftShiftAssign) ∷ (codes ">>=", w.RightShiftAssign)
    ∷ (codes "<<", w.LeftShift) ∷ (codes ">>", w.RightShift) ∷ (codes "<=", w.LessEqual) ∷ (codes ">=", w.GreaterEqual)
    ∷ (codes "==", w.Equal) ∷ (codes "!=", w.NotEqual) ∷ (codes "&&", w.AmpersandAmpersand) ∷ (codes "||", w.BarBar)
    ∷ (codes "++", w.PlusPlus) ∷ (codes "--", w.MinusMinus) ∷ (codes "+=", w.AddAssign) ∷ (codes "-=", w.SubtractAssign)
    ∷ (codes "*=", w.MultiplyAssign) ∷ (codes "/=", w.DivideAssign) ∷ (codes "%=", w.RemainderAssign)
    ∷ (codes "&=", w.AndAssign) ∷ (codes "|=", w.OrAssign) ∷ (codes "^=", w.XorAssign)
    ∷ []

-- the punctuators of one byte
abbrev pub short_punctuators : Spellings
short_punctuators =
    (codes "(", w.Open) ∷ (codes ")", w.Close) ∷ (codes "[", w.OpenBracket) ∷ (codes "]", w.CloseBracket)
    ∷ (codes "{", w.OpenBrace) ∷ (codes "}", w.CloseBrace) ∷ (codes ";", w.Semicolon) ∷ (codes ",", w.Comma) ∷ (codes ":", w.Colon)
    ∷ (codes "=", w.Assign) ∷ (codes "+", w.Plus) ∷ (codes "-", w.Minus) ∷ (codes "*", w.Star) ∷ (codes "/", w.Slash)
    ∷ (codes "%", w.Percent) ∷ (codes "&", w.Ampersand) ∷ (codes "|", w.Bar) ∷ (codes "^", w.Caret) ∷ (codes "~", w.Tilde)
    ∷ (codes "!", w.Exclamation) ∷ (codes "<", w.Less) ∷ (codes ">", w.Greater)
    ∷ []

-- the terminal of this text
abbrev pub spelled : Spellings → List ℕ → Option Terminal
spelled [] text = None
spelled (s ∷ ss) text = if bytes_eq text s.0 then Some s.1 else spelled ss text

abbrev pub punctuator : List ℕ → Option Terminal
punctuator text = elim (spelled long_punctuators text) [ Some terminal ↦ Some terminal | None ↦ spelled short_punctuators text ]

-- What no rule uses is `OtherKeyword`.
unfoldable pub terminal_of : TokenKind → List ℕ → Terminal
terminal_of kind.Name text = w.Name
terminal_of kind.Keyword text = unwrap_or (spelled keywords text) w.OtherKeyword
terminal_of kind.Number text = w.Number (number_of text)
terminal_of kind.Character text = w.Character (character_of text)
terminal_of kind.Text text = w.Text
terminal_of kind.Punctuation text = unwrap_or (punctuator text) w.OtherKeyword

-- a token of a source, by its terminal
abbrev pub lexeme_of : List ℕ → Token → Lexeme
lexeme_of source t = record { terminal = terminal_of t.kind (slice source t.from t.to); from = t.from; to = t.to }

abbrev pub lexemes_of : List ℕ → List Token → List Lexeme
lexemes_of source ts = map (lexeme_of source) ts
