-- Working definitions: the kind of each terminal.
use Rattle.cw_grammar.specs.declared.terminals.Terminal.{Terminal}
use Rattle.cw_grammar.specs.declared.terminals.Terminal.TheVariants as w
use Rattle.cw_recogniser.specs.declared.kinds.TerminalKind.{TerminalKind}
use Rattle.cw_recogniser.specs.declared.kinds.TerminalKind.TheVariants as k

abbrev pub kind_of_terminal : Terminal → TerminalKind
kind_of_terminal w.Extern = k.Storage
kind_of_terminal w.Static = k.Storage
kind_of_terminal w.Const = k.Const
kind_of_terminal w.Void = k.Void
kind_of_terminal w.Unsigned = k.Unsigned
kind_of_terminal w.Char = k.Char
kind_of_terminal w.Int = k.Int
kind_of_terminal w.Long = k.Long
kind_of_terminal w.If = k.If
kind_of_terminal w.Else = k.Else
kind_of_terminal w.While = k.While
kind_of_terminal w.Do = k.Do
kind_of_terminal w.For = k.For
kind_of_terminal w.Break = k.Jump
kind_of_terminal w.Continue = k.Jump
kind_of_terminal w.Return = k.Return
kind_of_terminal w.SizeOf = k.SizeOf
kind_of_terminal w.OtherKeyword = k.Other
kind_of_terminal w.Name = k.Name
kind_of_terminal w.Text = k.Text
kind_of_terminal w.Open = k.Open
kind_of_terminal w.Close = k.Close
kind_of_terminal w.OpenBracket = k.OpenBracket
kind_of_terminal w.CloseBracket = k.CloseBracket
kind_of_terminal w.OpenBrace = k.OpenBrace
kind_of_terminal w.CloseBrace = k.CloseBrace
kind_of_terminal w.Semicolon = k.Semicolon
kind_of_terminal w.Comma = k.Comma
kind_of_terminal w.Colon = k.Colon
kind_of_terminal w.Assign = k.Assign
kind_of_terminal w.AddAssign = k.Update
kind_of_terminal w.SubtractAssign = k.Update
kind_of_terminal w.MultiplyAssign = k.Update
kind_of_terminal w.DivideAssign = k.Update
kind_of_terminal w.RemainderAssign = k.Update
kind_of_terminal w.AndAssign = k.Update
kind_of_terminal w.XorAssign = k.Update
kind_of_terminal w.OrAssign = k.Update
kind_of_terminal w.LeftShiftAssign = k.Update
kind_of_terminal w.RightShiftAssign = k.Update
kind_of_terminal w.BarBar = k.Binary
kind_of_terminal w.AmpersandAmpersand = k.Binary
kind_of_terminal w.Bar = k.Binary
kind_of_terminal w.Caret = k.Binary
kind_of_terminal w.Ampersand = k.Both
kind_of_terminal w.Equal = k.Binary
kind_of_terminal w.NotEqual = k.Binary
kind_of_terminal w.Less = k.Binary
kind_of_terminal w.LessEqual = k.Binary
kind_of_terminal w.Greater = k.Binary
kind_of_terminal w.GreaterEqual = k.Binary
kind_of_terminal w.LeftShift = k.Binary
kind_of_terminal w.RightShift = k.Binary
kind_of_terminal w.Plus = k.Both
kind_of_terminal w.Minus = k.Both
kind_of_terminal w.Star = k.Star
kind_of_terminal w.Slash = k.Binary
kind_of_terminal w.Percent = k.Binary
kind_of_terminal w.Exclamation = k.Sign
kind_of_terminal w.Tilde = k.Sign
kind_of_terminal w.PlusPlus = k.Step
kind_of_terminal w.MinusMinus = k.Step
kind_of_terminal (w.Number value) = k.Constant
kind_of_terminal (w.Character value) = k.Constant
