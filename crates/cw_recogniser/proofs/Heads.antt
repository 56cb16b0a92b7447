-- What may follow, by the kind of the first token.
use Rattle.std.proofs.Common.{◌≡◌, Bool, true, false, List, [], ◌∷◌, refl}
use Rattle.std.specs.Prelude.{is_some}
use Rattle.cw_grammar.specs.declared.terminals.Terminal.{Terminal}
use Rattle.cw_grammar.specs.declared.terminals.Lexeme.{Lexeme}
use Rattle.cw_grammar.specs.Lexemes.{Is, terminals}
use Rattle.cw_recogniser.specs.declared.kinds.TerminalKind.{TerminalKind}
use Rattle.cw_recogniser.specs.declared.kinds.TerminalKind.TheVariants as k
use Rattle.cw_recogniser.specs.declared.symbols.Symbol.{Symbol}
use Rattle.cw_recogniser.specs.declared.symbols.Symbol.TheVariants as s
use Rattle.cw_recogniser.specs.Kinds.{kind_of_terminal}
use Rattle.cw_recogniser.specs.Machine.{after}
use Rattle.cw_recogniser.proofs.Accepting.{takes}
use Rattle.cw_grammar.proofs.Wording.{first_terminal, no_terminals, one_terminal, three_terminals, two_terminals}

abbrev pub head : (TerminalKind → Bool) → List Lexeme → Bool
head p [] = false
head p (t ∷ ts) = p (kind_of_terminal t.terminal)

pub head_is : (p : TerminalKind → Bool) (terminal : Terminal) (t : Lexeme) (ts : List Lexeme) → Is terminal t → p (kind_of_terminal terminal) ≡ true → head p (t ∷ ts) ≡ true
head_is p terminal t ts is e = rw is e

pub untaken : (symbol : Symbol) (p : TerminalKind → Bool) → ((kind : TerminalKind) → p kind ≡ true → is_some (after symbol kind) ≡ false) → (ts : List Lexeme) → head p ts ≡ true → takes symbol ts ≡ false
untaken symbol p f [] e = absurd cc
untaken symbol p f (t ∷ ts) e = f (kind_of_terminal t.terminal) e

pub head_wider : (p q : TerminalKind → Bool) → ((kind : TerminalKind) → p kind ≡ true → q kind ≡ true) → (ts : List Lexeme) → head p ts ≡ true → head q ts ≡ true
head_wider p q f [] e = absurd cc
head_wider p q f (t ∷ ts) e = f (kind_of_terminal t.terminal) e

-- behind an expression
abbrev pub is_end : TerminalKind → Bool
is_end k.Close = true
is_end k.CloseBracket = true
is_end k.CloseBrace = true
is_end k.Semicolon = true
is_end k.Comma = true
is_end _ = false

-- behind an operand
abbrev pub is_halt : TerminalKind → Bool
is_halt k.Close = true
is_halt k.CloseBracket = true
is_halt k.CloseBrace = true
is_halt k.Semicolon = true
is_halt k.Comma = true
is_halt k.Star = true
is_halt k.Both = true
is_halt k.Binary = true
is_halt k.Assign = true
is_halt k.Update = true
is_halt _ = false

-- behind a postfix
abbrev pub is_follower : TerminalKind → Bool
is_follower k.OpenBracket = true
is_follower k.Step = true
is_follower kind = is_halt kind

pub end_halts : (kind : TerminalKind) → is_end kind ≡ true → is_halt kind ≡ true
end_halts k.Close e = refl
end_halts k.CloseBracket e = refl
end_halts k.CloseBrace e = refl
end_halts k.Semicolon e = refl
end_halts k.Comma e = refl
end_halts _ e = absurd cc

pub halt_follows : (kind : TerminalKind) → is_halt kind ≡ true → is_follower kind ≡ true
halt_follows k.OpenBracket e = refl
halt_follows k.Step e = refl
halt_follows k.Close e = refl
halt_follows k.CloseBracket e = refl
halt_follows k.CloseBrace e = refl
halt_follows k.Semicolon e = refl
halt_follows k.Comma e = refl
halt_follows k.Star e = refl
halt_follows k.Both e = refl
halt_follows k.Binary e = refl
halt_follows k.Assign e = refl
halt_follows k.Update e = refl
halt_follows _ e = absurd cc

pub no_tail : (may : Bool) (kind : TerminalKind) → is_end kind ≡ true → is_some (after (s.Tail may) kind) ≡ false
no_tail true k.Close e = refl
no_tail true k.CloseBracket e = refl
no_tail true k.CloseBrace e = refl
no_tail true k.Semicolon e = refl
no_tail true k.Comma e = refl
no_tail true _ e = absurd cc
no_tail false k.Close e = refl
no_tail false k.CloseBracket e = refl
no_tail false k.CloseBrace e = refl
no_tail false k.Semicolon e = refl
no_tail false k.Comma e = refl
no_tail false _ e = absurd cc

pub no_suffix : (kind : TerminalKind) → is_halt kind ≡ true → is_some (after s.Suffixes kind) ≡ false
no_suffix k.OpenBracket e = absurd cc
no_suffix k.Step e = absurd cc
no_suffix _ e = refl

pub no_call : (kind : TerminalKind) → is_follower kind ≡ true → is_some (after s.Call kind) ≡ false
no_call k.Open e = absurd cc
no_call _ e = refl

pub no_text : (kind : TerminalKind) → is_follower kind ≡ true → is_some (after s.Texts kind) ≡ false
no_text k.Text e = absurd cc
no_text _ e = refl

-- ---- tokens with these terminals
