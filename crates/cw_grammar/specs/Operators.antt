-- The operators by their numbers: the place of each, from 0, in the list of its kind.
-- Public source: ISO/IEC 9899:2011, 6.5.2.4 (suffixes), 6.5.3 (prefixes), 6.5.5 to 6.5.14 (levels of binary operators), 6.5.16 (assignment).
use Rattle.std.specs.Prelude.{ℕ, Option, Some, None}
use Rattle.cw_grammar.specs.declared.terminals.Terminal.{Terminal}
use Rattle.cw_grammar.specs.declared.terminals.Terminal.TheVariants as w

-- those of `+ - ! ~ * & ++ --` that stand before an operand
abbrev pub sign : Terminal → Option ℕ
sign w.Plus = Some 0
sign w.Minus = Some 1
sign w.Exclamation = Some 2
sign w.Tilde = Some 3
sign w.Star = Some 4
sign w.Ampersand = Some 5
sign _ = None

-- the two others, which stand before a unary
abbrev pub step : Terminal → Option ℕ
step w.PlusPlus = Some 6
step w.MinusMinus = Some 7
step _ = None

abbrev pub suffix : Terminal → Option ℕ
suffix w.PlusPlus = Some 0
suffix w.MinusMinus = Some 1
suffix _ = None

-- a binary operator's number, and its level: those of level 1 bind tightest
abbrev pub binary : Terminal → Option (ℕ × ℕ)
binary w.BarBar = Some (0, 10)
binary w.AmpersandAmpersand = Some (1, 9)
binary w.Bar = Some (2, 8)
binary w.Caret = Some (3, 7)
binary w.Ampersand = Some (4, 6)
binary w.Equal = Some (5, 5)
binary w.NotEqual = Some (6, 5)
binary w.Less = Some (7, 4)
binary w.LessEqual = Some (8, 4)
binary w.Greater = Some (9, 4)
binary w.GreaterEqual = Some (10, 4)
binary w.LeftShift = Some (11, 3)
binary w.RightShift = Some (12, 3)
binary w.Plus = Some (13, 2)
binary w.Minus = Some (14, 2)
binary w.Star = Some (15, 1)
binary w.Slash = Some (16, 1)
binary w.Percent = Some (17, 1)
binary _ = None

abbrev pub assign : Terminal → Option ℕ
assign w.Assign = Some 0
assign w.AddAssign = Some 1
assign w.SubtractAssign = Some 2
assign w.MultiplyAssign = Some 3
assign w.DivideAssign = Some 4
assign w.RemainderAssign = Some 5
assign w.AndAssign = Some 6
assign w.OrAssign = Some 7
assign w.XorAssign = Some 8
assign w.LeftShiftAssign = Some 9
assign w.RightShiftAssign = Some 10
assign _ = None
