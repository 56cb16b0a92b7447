-- Working definitions: whether two terminals are of one kind, by a number for each kind.
use Rattle.std.specs.Prelude.{ℕ, Bool, nat_eq}
use Rattle.cw_grammar.specs.declared.terminals.Terminal.{Terminal}
use Rattle.cw_grammar.specs.declared.terminals.Terminal.TheVariants as w

abbrev pub code : Terminal → ℕ
code w.Extern = 0
code w.Static = 1
code w.Const = 2
code w.Void = 3
code w.Unsigned = 4
code w.Char = 5
code w.Int = 6
code w.Long = 7
code w.If = 8
code w.Else = 9
code w.While = 10
code w.Do = 11
code w.For = 12
code w.Break = 13
code w.Continue = 14
code w.Return = 15
code w.SizeOf = 16
code w.OtherKeyword = 17
code w.Name = 18
code w.Text = 19
code w.Open = 20
code w.Close = 21
code w.OpenBracket = 22
code w.CloseBracket = 23
code w.OpenBrace = 24
code w.CloseBrace = 25
code w.Semicolon = 26
code w.Comma = 27
code w.Colon = 28
code w.Assign = 29
code w.AddAssign = 30
code w.SubtractAssign = 31
code w.MultiplyAssign = 32
code w.DivideAssign = 33
code w.RemainderAssign = 34
code w.AndAssign = 35
code w.XorAssign = 36
code w.OrAssign = 37
code w.LeftShiftAssign = 38
code w.RightShiftAssign = 39
code w.BarBar = 40
code w.AmpersandAmpersand = 41
code w.Bar = 42
code w.Caret = 43
code w.Ampersand = 44
code w.Equal = 45
code w.NotEqual = 46
code w.Less = 47
code w.LessEqual = 48
code w.Greater = 49
code w.GreaterEqual = 50
code w.LeftShift = 51
code w.RightShift = 52
code w.Plus = 53
code w.Minus = 54
code w.Star = 55
code w.Slash = 56
code w.Percent = 57
code w.Exclamation = 58
code w.Tilde = 59
code w.PlusPlus = 60
code w.MinusMinus = 61
code (w.Number value) = 62
code (w.Character value) = 63

-- of one kind: numbers, and characters, whatever their values are
abbrev pub same : Terminal → Terminal → Bool
same a b = nat_eq (code a) (code b)
