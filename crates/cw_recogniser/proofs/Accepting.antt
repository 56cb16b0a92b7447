-- Steps of the machine, as facts of what a stack accepts.
use Rattle.std.proofs.Common.{◌≡◌, Bool, true, false, List, [], ◌∷◌, ◌++◌, refl, ap, ◌∙◌, append_assoc, Some, None}
use Rattle.std.specs.Prelude.{is_some}
use Rattle.cw_grammar.specs.declared.terminals.Terminal.{Terminal}
use Rattle.cw_grammar.specs.declared.terminals.Lexeme.{Lexeme}
use Rattle.cw_grammar.specs.Lexemes.{Is}
use Rattle.cw_recogniser.specs.declared.kinds.TerminalKind.{TerminalKind}
use Rattle.cw_recogniser.specs.declared.symbols.Symbol.{Symbol}
use Rattle.cw_recogniser.specs.Kinds.{kind_of_terminal}
use Rattle.cw_recogniser.specs.Machine.{Next, onto, after, may_be_empty, fed, feed, is_done}

abbrev pub then_done : Next → (List Symbol → Bool) → Bool
then_done None go = false
then_done (Some stack) go = go stack

-- whether the tokens are what the stack expects
abbrev pub accepts : List Symbol → List Lexeme → Bool
accepts stack [] = is_done stack
accepts stack (t ∷ ts) = then_done (feed stack (kind_of_terminal t.terminal)) (λ next. accepts next ts)

pub record Accepts (stack : List Symbol) (ts : List Lexeme) : Type 0 where
  pub ok : accepts stack ts ≡ true

-- whether the first token is one that the symbol begins with
abbrev pub takes : Symbol → List Lexeme → Bool
takes symbol [] = false
takes symbol (t ∷ ts) = is_some (after symbol (kind_of_terminal t.terminal))

pub fed_some : (next : Next) (new : List Symbol) (empty : Bool) (below : List Symbol) (passed : Next) (go : List Symbol → Bool) → next ≡ Some new → go (new ++ below) ≡ true
    → then_done (fed next empty below passed) go ≡ true
fed_some next new empty below passed go e h = rw e h

fed_none : (next : Next) (empty : Bool) (below : List Symbol) (passed : Next) (go : List Symbol → Bool) → is_some next ≡ false → empty ≡ true → then_done passed go ≡ true
    → then_done (fed next empty below passed) go ≡ true
fed_none None empty below passed go n e h = rw e h
fed_none (Some new) empty below passed go n e h = absurd cc

-- a token that the symbol on top begins with
pub step_kind : {symbol : Symbol} {t : Lexeme} {new below : List Symbol} {ts : List Lexeme} → after symbol (kind_of_terminal t.terminal) ≡ Some new → Accepts (new ++ below) ts
    → Accepts (symbol ∷ below) (t ∷ ts)
step_kind {symbol} {t} {new} {below} {ts} e h = record
    { ok = fed_some (after symbol (kind_of_terminal t.terminal)) new (may_be_empty symbol) below (feed below (kind_of_terminal t.terminal)) (λ next. accepts next ts) e h.ok }

pub step : {symbol : Symbol} {terminal : Terminal} {t : Lexeme} {new below : List Symbol} {ts : List Lexeme} → Is terminal t → after symbol (kind_of_terminal terminal) ≡ Some new
    → Accepts (new ++ below) ts → Accepts (symbol ∷ below) (t ∷ ts)
step {symbol} {terminal} {t} {new} {below} {ts} is e h = step_kind {symbol = symbol} {t = t} {new = new} {below = below} {ts = ts} (ap (λ (v : Terminal). after symbol (kind_of_terminal v)) is ∙ e) h

skipped : (symbol : Symbol) (below : List Symbol) (ts : List Lexeme) → may_be_empty symbol ≡ true → takes symbol ts ≡ false → Accepts below ts → Accepts (symbol ∷ below) ts
skipped symbol below [] e n h = record { ok = rw e h.ok }
skipped symbol below (t ∷ ts) e n h = record { ok = fed_none (after symbol (kind_of_terminal t.terminal)) (may_be_empty symbol) below (feed below (kind_of_terminal t.terminal)) (λ next. accepts next ts) n e h.ok }

-- a symbol that is empty
pub skip : {symbol : Symbol} {below : List Symbol} {ts : List Lexeme} → may_be_empty symbol ≡ true → takes symbol ts ≡ false → Accepts below ts → Accepts (symbol ∷ below) ts
skip {symbol} {below} {ts} e n h = skipped symbol below ts e n h

pub pass : {symbol : Symbol} {terminal : Terminal} {t : Lexeme} {below : List Symbol} {ts : List Lexeme} → Is terminal t → may_be_empty symbol ≡ true
    → is_some (after symbol (kind_of_terminal terminal)) ≡ false → Accepts below (t ∷ ts) → Accepts (symbol ∷ below) (t ∷ ts)
pass {symbol} {terminal} {t} {below} {ts} is e n h = skip {symbol = symbol} {below = below} {ts = t ∷ ts} e (ap (λ (v : Terminal). is_some (after symbol (kind_of_terminal v))) is ∙ n) h

by_next : (next other : Next) (new_below below : List Symbol) (more : List Symbol) (p q : Next) (b : Bool) (go : List Symbol → Bool)
    → (is_some next ≡ true → other ≡ onto next more) → then_done (fed next false new_below p) go ≡ true
    → ((new : List Symbol) → go (new ++ new_below) ≡ true → go ((new ++ more) ++ below) ≡ true) → then_done (fed other b below q) go ≡ true
by_next None other new_below below more p q b go f h m = absurd cc
by_next (Some new) other new_below below more p q b go f h m = rw (f refl) (m new h)

put_instead : (first symbol : Symbol) (below : List Symbol) (ts : List Lexeme) (more : List Symbol) → may_be_empty first ≡ false
    → ((kind : TerminalKind) → is_some (after first kind) ≡ true → after symbol kind ≡ onto (after first kind) more) → Accepts (first ∷ (more ++ below)) ts → Accepts (symbol ∷ below) ts
put_instead first symbol below [] more n f h = absurd (let g = rw n at h.ok in cc)
put_instead first symbol below (t ∷ ts) more n f h = record {
  ok = by_next (after first (kind_of_terminal t.terminal)) (after symbol (kind_of_terminal t.terminal)) (more ++ below) below more (feed (more ++ below) (kind_of_terminal t.terminal))
      (feed below (kind_of_terminal t.terminal)) (may_be_empty symbol) (λ next. accepts next ts) (f (kind_of_terminal t.terminal)) (rw n at h.ok) (λ new g. rw append_assoc g);
}

-- a symbol that begins as another one does, with more behind it
pub instead : {first symbol : Symbol} {below : List Symbol} {ts : List Lexeme} (more : List Symbol) → may_be_empty first ≡ false
    → ((kind : TerminalKind) → is_some (after first kind) ≡ true → after symbol kind ≡ onto (after first kind) more) → Accepts (first ∷ (more ++ below)) ts → Accepts (symbol ∷ below) ts
instead {first} {symbol} {below} {ts} more n f h = put_instead first symbol below ts more n f h
