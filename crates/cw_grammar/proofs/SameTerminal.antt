-- Two terminals of one kind are equal, unless they have values.
use Rattle.std.proofs.Common.{◌≡◌, ℕ, ◌<◌, Bool, true, false, refl, sym, ap, ◌∙◌, arith}
use Rattle.std.specs.Prelude.{if◌then◌else◌, ◌==◌}
use Rattle.std.proofs.lemmas.Bool.{eqb-true, eq-eqb, false≢true}
use Rattle.cw_grammar.specs.declared.terminals.Terminal.{Terminal}
use Rattle.cw_grammar.specs.declared.terminals.Terminal.TheVariants as w
use Rattle.cw_grammar.specs.Terminals.{code, same}

-- a terminal without a value
abbrev pub is_plain : Terminal → Bool
is_plain (w.Number value) = false
is_plain (w.Character value) = false
is_plain _ = true

terminal_at : ℕ → Terminal
terminal_at n =
    if n == 0 then w.Extern else if n == 1 then w.Static else if n == 2 then w.Const else if n == 3 then w.Void else if n == 4 then w.Unsigned
    else if n == 5 then w.Char else if n == 6 then w.Int else if n == 7 then w.Long else if n == 8 then w.If else if n == 9 then w.Else
    else if n == 10 then w.While else if n == 11 then w.Do else if n == 12 then w.For else if n == 13 then w.Break else if n == 14 then w.Continue
    else if n == 15 then w.Return else if n == 16 then w.SizeOf else if n == 17 then w.OtherKeyword else if n == 18 then w.Name
    else if n == 19 then w.Text else if n == 20 then w.Open else if n == 21 then w.Close else if n == 22 then w.OpenBracket
    else if n == 23 then w.CloseBracket else if n == 24 then w.OpenBrace else if n == 25 then w.CloseBrace else if n == 26 then w.Semicolon
    else if n == 27 then w.Comma else if n == 28 then w.Colon else if n == 29 then w.Assign else if n == 30 then w.AddAssign
    else if n == 31 then w.SubtractAssign else if n == 32 then w.MultiplyAssign else if n == 33 then w.DivideAssign
    else if n == 34 then w.RemainderAssign else if n == 35 then w.AndAssign else if n == 36 then w.XorAssign else if n == 37 then w.OrAssign
    else if n == 38 then w.LeftShiftAssign else if n == 39 then w.RightShiftAssign else if n == 40 then w.BarBar
    else if n == 41 then w.AmpersandAmpersand else if n == 42 then w.Bar else if n == 43 then w.Caret else if n == 44 then w.Ampersand
    else if n == 45 then w.Equal else if n == 46 then w.NotEqual else if n == 47 then w.Less else if n == 48 then w.LessEqual
    else if n == 49 then w.Greater else if n == 50 then w.GreaterEqual else if n == 51 then w.LeftShift else if n == 52 then w.RightShift
    else if n == 53 then w.Plus else if n == 54 then w.Minus else if n == 55 then w.Star else if n == 56 then w.Slash else if n == 57 then w.Percent
    else if n == 58 then w.Exclamation else if n == 59 then w.Tilde else if n == 60 then w.PlusPlus else w.MinusMinus

terminal_at-code : (a : Terminal) → is_plain a ≡ true → terminal_at (code a) ≡ a
unfolding terminal_at
terminal_at-code w.Extern p = refl
terminal_at-code w.Static p = refl
terminal_at-code w.Const p = refl
terminal_at-code w.Void p = refl
terminal_at-code w.Unsigned p = refl
terminal_at-code w.Char p = refl
terminal_at-code w.Int p = refl
terminal_at-code w.Long p = refl
terminal_at-code w.If p = refl
terminal_at-code w.Else p = refl
terminal_at-code w.While p = refl
terminal_at-code w.Do p = refl
terminal_at-code w.For p = refl
terminal_at-code w.Break p = refl
terminal_at-code w.Continue p = refl
terminal_at-code w.Return p = refl
terminal_at-code w.SizeOf p = refl
terminal_at-code w.OtherKeyword p = refl
terminal_at-code w.Name p = refl
terminal_at-code w.Text p = refl
terminal_at-code w.Open p = refl
terminal_at-code w.Close p = refl
terminal_at-code w.OpenBracket p = refl
terminal_at-code w.CloseBracket p = refl
terminal_at-code w.OpenBrace p = refl
terminal_at-code w.CloseBrace p = refl
terminal_at-code w.Semicolon p = refl
terminal_at-code w.Comma p = refl
terminal_at-code w.Colon p = refl
terminal_at-code w.Assign p = refl
terminal_at-code w.AddAssign p = refl
terminal_at-code w.SubtractAssign p = refl
terminal_at-code w.MultiplyAssign p = refl
terminal_at-code w.DivideAssign p = refl
terminal_at-code w.RemainderAssign p = refl
terminal_at-code w.AndAssign p = refl
terminal_at-code w.XorAssign p = refl
terminal_at-code w.OrAssign p = refl
terminal_at-code w.LeftShiftAssign p = refl
terminal_at-code w.RightShiftAssign p = refl
terminal_at-code w.BarBar p = refl
terminal_at-code w.AmpersandAmpersand p = refl
terminal_at-code w.Bar p = refl
terminal_at-code w.Caret p = refl
terminal_at-code w.Ampersand p = refl
terminal_at-code w.Equal p = refl
terminal_at-code w.NotEqual p = refl
terminal_at-code w.Less p = refl
terminal_at-code w.LessEqual p = refl
terminal_at-code w.Greater p = refl
terminal_at-code w.GreaterEqual p = refl
terminal_at-code w.LeftShift p = refl
terminal_at-code w.RightShift p = refl
terminal_at-code w.Plus p = refl
terminal_at-code w.Minus p = refl
terminal_at-code w.Star p = refl
terminal_at-code w.Slash p = refl
terminal_at-code w.Percent p = refl
terminal_at-code w.Exclamation p = refl
terminal_at-code w.Tilde p = refl
terminal_at-code w.PlusPlus p = refl
terminal_at-code w.MinusMinus p = refl
terminal_at-code (w.Number value) p = absurd (false≢true p)
terminal_at-code (w.Character value) p = absurd (false≢true p)

-- the code of a plain terminal is below those of the others
code-plain : (a : Terminal) → is_plain a ≡ true → code a < 62
code-plain w.Extern p = omega arith
code-plain w.Static p = omega arith
code-plain w.Const p = omega arith
code-plain w.Void p = omega arith
code-plain w.Unsigned p = omega arith
code-plain w.Char p = omega arith
code-plain w.Int p = omega arith
code-plain w.Long p = omega arith
code-plain w.If p = omega arith
code-plain w.Else p = omega arith
code-plain w.While p = omega arith
code-plain w.Do p = omega arith
code-plain w.For p = omega arith
code-plain w.Break p = omega arith
code-plain w.Continue p = omega arith
code-plain w.Return p = omega arith
code-plain w.SizeOf p = omega arith
code-plain w.OtherKeyword p = omega arith
code-plain w.Name p = omega arith
code-plain w.Text p = omega arith
code-plain w.Open p = omega arith
code-plain w.Close p = omega arith
code-plain w.OpenBracket p = omega arith
code-plain w.CloseBracket p = omega arith
code-plain w.OpenBrace p = omega arith
code-plain w.CloseBrace p = omega arith
code-plain w.Semicolon p = omega arith
code-plain w.Comma p = omega arith
code-plain w.Colon p = omega arith
code-plain w.Assign p = omega arith
code-plain w.AddAssign p = omega arith
code-plain w.SubtractAssign p = omega arith
code-plain w.MultiplyAssign p = omega arith
code-plain w.DivideAssign p = omega arith
code-plain w.RemainderAssign p = omega arith
code-plain w.AndAssign p = omega arith
code-plain w.XorAssign p = omega arith
code-plain w.OrAssign p = omega arith
code-plain w.LeftShiftAssign p = omega arith
code-plain w.RightShiftAssign p = omega arith
code-plain w.BarBar p = omega arith
code-plain w.AmpersandAmpersand p = omega arith
code-plain w.Bar p = omega arith
code-plain w.Caret p = omega arith
code-plain w.Ampersand p = omega arith
code-plain w.Equal p = omega arith
code-plain w.NotEqual p = omega arith
code-plain w.Less p = omega arith
code-plain w.LessEqual p = omega arith
code-plain w.Greater p = omega arith
code-plain w.GreaterEqual p = omega arith
code-plain w.LeftShift p = omega arith
code-plain w.RightShift p = omega arith
code-plain w.Plus p = omega arith
code-plain w.Minus p = omega arith
code-plain w.Star p = omega arith
code-plain w.Slash p = omega arith
code-plain w.Percent p = omega arith
code-plain w.Exclamation p = omega arith
code-plain w.Tilde p = omega arith
code-plain w.PlusPlus p = omega arith
code-plain w.MinusMinus p = omega arith
code-plain (w.Number value) p = absurd (false≢true p)
code-plain (w.Character value) p = absurd (false≢true p)

plain_by_code : (a : Terminal) → code a < 62 → is_plain a ≡ true
plain_by_code w.Extern p = refl
plain_by_code w.Static p = refl
plain_by_code w.Const p = refl
plain_by_code w.Void p = refl
plain_by_code w.Unsigned p = refl
plain_by_code w.Char p = refl
plain_by_code w.Int p = refl
plain_by_code w.Long p = refl
plain_by_code w.If p = refl
plain_by_code w.Else p = refl
plain_by_code w.While p = refl
plain_by_code w.Do p = refl
plain_by_code w.For p = refl
plain_by_code w.Break p = refl
plain_by_code w.Continue p = refl
plain_by_code w.Return p = refl
plain_by_code w.SizeOf p = refl
plain_by_code w.OtherKeyword p = refl
plain_by_code w.Name p = refl
plain_by_code w.Text p = refl
plain_by_code w.Open p = refl
plain_by_code w.Close p = refl
plain_by_code w.OpenBracket p = refl
plain_by_code w.CloseBracket p = refl
plain_by_code w.OpenBrace p = refl
plain_by_code w.CloseBrace p = refl
plain_by_code w.Semicolon p = refl
plain_by_code w.Comma p = refl
plain_by_code w.Colon p = refl
plain_by_code w.Assign p = refl
plain_by_code w.AddAssign p = refl
plain_by_code w.SubtractAssign p = refl
plain_by_code w.MultiplyAssign p = refl
plain_by_code w.DivideAssign p = refl
plain_by_code w.RemainderAssign p = refl
plain_by_code w.AndAssign p = refl
plain_by_code w.XorAssign p = refl
plain_by_code w.OrAssign p = refl
plain_by_code w.LeftShiftAssign p = refl
plain_by_code w.RightShiftAssign p = refl
plain_by_code w.BarBar p = refl
plain_by_code w.AmpersandAmpersand p = refl
plain_by_code w.Bar p = refl
plain_by_code w.Caret p = refl
plain_by_code w.Ampersand p = refl
plain_by_code w.Equal p = refl
plain_by_code w.NotEqual p = refl
plain_by_code w.Less p = refl
plain_by_code w.LessEqual p = refl
plain_by_code w.Greater p = refl
plain_by_code w.GreaterEqual p = refl
plain_by_code w.LeftShift p = refl
plain_by_code w.RightShift p = refl
plain_by_code w.Plus p = refl
plain_by_code w.Minus p = refl
plain_by_code w.Star p = refl
plain_by_code w.Slash p = refl
plain_by_code w.Percent p = refl
plain_by_code w.Exclamation p = refl
plain_by_code w.Tilde p = refl
plain_by_code w.PlusPlus p = refl
plain_by_code w.MinusMinus p = refl
plain_by_code (w.Number value) p = absurd (omega arith)
plain_by_code (w.Character value) p = absurd (omega arith)

pub same-true : (a b : Terminal) → is_plain b ≡ true → same a b ≡ true → a ≡ b
same-true a b p e =
    let c : code a ≡ code b = eqb-true (code a) (code b) e in
    let q : is_plain a ≡ true = plain_by_code a (omega (arith, c, code-plain b p)) in
    sym (terminal_at-code a q) ∙ ap terminal_at c ∙ terminal_at-code b p

pub same-itself : (a : Terminal) → same a a ≡ true
same-itself a = eq-eqb (code a) (code a) refl
