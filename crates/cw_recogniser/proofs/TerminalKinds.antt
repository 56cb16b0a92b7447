-- What the kind of a terminal says of the terminal, and the other way round.
use Rattle.std.proofs.Common.{◌≡◌, ℕ, suc, ◌<◌, Bool, true, false, [], ◌∷◌, refl, ◌⊎◌, inl, inr, Option, Some, None, arith}
use Rattle.std.specs.Prelude.{is_some}
use Rattle.cw_grammar.specs.declared.terminals.Terminal.{Terminal}
use Rattle.cw_grammar.specs.declared.terminals.Terminal.TheVariants as w
use Rattle.cw_grammar.specs.Operators as operators
use Rattle.cw_recogniser.specs.declared.kinds.TerminalKind.{TerminalKind}
use Rattle.cw_recogniser.specs.declared.kinds.TerminalKind.TheVariants as k
use Rattle.cw_recogniser.specs.declared.symbols.Symbol.TheVariants as s
use Rattle.cw_recogniser.specs.Kinds.{kind_of_terminal}
use Rattle.cw_recogniser.specs.Machine.{unary, operator, assignment}

-- ---- from terminals to kinds

pub sign_begins : (terminal : Terminal) (number : ℕ) → operators.sign terminal ≡ Some number → unary (kind_of_terminal terminal) ≡ Some (s.Operand ∷ [])
sign_begins w.Plus number e = refl
sign_begins w.Minus number e = refl
sign_begins w.Exclamation number e = refl
sign_begins w.Tilde number e = refl
sign_begins w.Star number e = refl
sign_begins w.Ampersand number e = refl
sign_begins _ number e = absurd cc

pub step_begins : (terminal : Terminal) (number : ℕ) → operators.step terminal ≡ Some number → unary (kind_of_terminal terminal) ≡ Some (s.Unary ∷ [])
step_begins w.PlusPlus number e = refl
step_begins w.MinusMinus number e = refl
step_begins _ number e = absurd cc

pub suffix_is : (terminal : Terminal) (number : ℕ) → operators.suffix terminal ≡ Some number → kind_of_terminal terminal ≡ k.Step
suffix_is w.PlusPlus number e = refl
suffix_is w.MinusMinus number e = refl
suffix_is _ number e = absurd cc

-- what stands between two operands
abbrev pub is_between : TerminalKind → Bool
is_between k.Star = true
is_between k.Both = true
is_between k.Binary = true
is_between k.Assign = true
is_between k.Update = true
is_between _ = false

pub binary_goes_on : (terminal : Terminal) (number level : ℕ) → operators.binary terminal ≡ Some (number, level) → operator (kind_of_terminal terminal) ≡ Some (s.Operand ∷ s.Tail false ∷ [])
binary_goes_on w.BarBar number level e = refl
binary_goes_on w.AmpersandAmpersand number level e = refl
binary_goes_on w.Bar number level e = refl
binary_goes_on w.Caret number level e = refl
binary_goes_on w.Ampersand number level e = refl
binary_goes_on w.Equal number level e = refl
binary_goes_on w.NotEqual number level e = refl
binary_goes_on w.Less number level e = refl
binary_goes_on w.LessEqual number level e = refl
binary_goes_on w.Greater number level e = refl
binary_goes_on w.GreaterEqual number level e = refl
binary_goes_on w.LeftShift number level e = refl
binary_goes_on w.RightShift number level e = refl
binary_goes_on w.Plus number level e = refl
binary_goes_on w.Minus number level e = refl
binary_goes_on w.Star number level e = refl
binary_goes_on w.Slash number level e = refl
binary_goes_on w.Percent number level e = refl
binary_goes_on _ number level e = absurd cc

pub binary_may_assign : (terminal : Terminal) (number level : ℕ) → operators.binary terminal ≡ Some (number, level) → assignment (kind_of_terminal terminal) ≡ Some (s.Operand ∷ s.Tail false ∷ [])
binary_may_assign w.BarBar number level e = refl
binary_may_assign w.AmpersandAmpersand number level e = refl
binary_may_assign w.Bar number level e = refl
binary_may_assign w.Caret number level e = refl
binary_may_assign w.Ampersand number level e = refl
binary_may_assign w.Equal number level e = refl
binary_may_assign w.NotEqual number level e = refl
binary_may_assign w.Less number level e = refl
binary_may_assign w.LessEqual number level e = refl
binary_may_assign w.Greater number level e = refl
binary_may_assign w.GreaterEqual number level e = refl
binary_may_assign w.LeftShift number level e = refl
binary_may_assign w.RightShift number level e = refl
binary_may_assign w.Plus number level e = refl
binary_may_assign w.Minus number level e = refl
binary_may_assign w.Star number level e = refl
binary_may_assign w.Slash number level e = refl
binary_may_assign w.Percent number level e = refl
binary_may_assign _ number level e = absurd cc

pub binary_between : (terminal : Terminal) (number level : ℕ) → operators.binary terminal ≡ Some (number, level) → is_between (kind_of_terminal terminal) ≡ true
binary_between w.BarBar number level e = refl
binary_between w.AmpersandAmpersand number level e = refl
binary_between w.Bar number level e = refl
binary_between w.Caret number level e = refl
binary_between w.Ampersand number level e = refl
binary_between w.Equal number level e = refl
binary_between w.NotEqual number level e = refl
binary_between w.Less number level e = refl
binary_between w.LessEqual number level e = refl
binary_between w.Greater number level e = refl
binary_between w.GreaterEqual number level e = refl
binary_between w.LeftShift number level e = refl
binary_between w.RightShift number level e = refl
binary_between w.Plus number level e = refl
binary_between w.Minus number level e = refl
binary_between w.Star number level e = refl
binary_between w.Slash number level e = refl
binary_between w.Percent number level e = refl
binary_between _ number level e = absurd cc

pub assign_goes_on : (terminal : Terminal) (number : ℕ) → operators.assign terminal ≡ Some number → assignment (kind_of_terminal terminal) ≡ Some (s.Expression ∷ [])
assign_goes_on w.Assign number e = refl
assign_goes_on w.AddAssign number e = refl
assign_goes_on w.SubtractAssign number e = refl
assign_goes_on w.MultiplyAssign number e = refl
assign_goes_on w.DivideAssign number e = refl
assign_goes_on w.RemainderAssign number e = refl
assign_goes_on w.AndAssign number e = refl
assign_goes_on w.OrAssign number e = refl
assign_goes_on w.XorAssign number e = refl
assign_goes_on w.LeftShiftAssign number e = refl
assign_goes_on w.RightShiftAssign number e = refl
assign_goes_on _ number e = absurd cc

pub assign_between : (terminal : Terminal) (number : ℕ) → operators.assign terminal ≡ Some number → is_between (kind_of_terminal terminal) ≡ true
assign_between w.Assign number e = refl
assign_between w.AddAssign number e = refl
assign_between w.SubtractAssign number e = refl
assign_between w.MultiplyAssign number e = refl
assign_between w.DivideAssign number e = refl
assign_between w.RemainderAssign number e = refl
assign_between w.AndAssign number e = refl
assign_between w.OrAssign number e = refl
assign_between w.XorAssign number e = refl
assign_between w.LeftShiftAssign number e = refl
assign_between w.RightShiftAssign number e = refl
assign_between _ number e = absurd cc

-- ---- from kinds to terminals

-- the terminal of a kind that has one alone
abbrev pub terminal_of : TerminalKind → Option Terminal
terminal_of k.Const = Some w.Const
terminal_of k.Void = Some w.Void
terminal_of k.Unsigned = Some w.Unsigned
terminal_of k.Char = Some w.Char
terminal_of k.Int = Some w.Int
terminal_of k.Long = Some w.Long
terminal_of k.If = Some w.If
terminal_of k.Else = Some w.Else
terminal_of k.While = Some w.While
terminal_of k.Do = Some w.Do
terminal_of k.For = Some w.For
terminal_of k.Return = Some w.Return
terminal_of k.SizeOf = Some w.SizeOf
terminal_of k.Name = Some w.Name
terminal_of k.Text = Some w.Text
terminal_of k.Open = Some w.Open
terminal_of k.Close = Some w.Close
terminal_of k.OpenBracket = Some w.OpenBracket
terminal_of k.CloseBracket = Some w.CloseBracket
terminal_of k.OpenBrace = Some w.OpenBrace
terminal_of k.CloseBrace = Some w.CloseBrace
terminal_of k.Semicolon = Some w.Semicolon
terminal_of k.Comma = Some w.Comma
terminal_of k.Colon = Some w.Colon
terminal_of k.Assign = Some w.Assign
terminal_of k.Star = Some w.Star
terminal_of _ = None

pub terminal_is : (terminal : Terminal) → is_some (terminal_of (kind_of_terminal terminal)) ≡ true → terminal_of (kind_of_terminal terminal) ≡ Some terminal
terminal_is w.Const e = refl
terminal_is w.Void e = refl
terminal_is w.Unsigned e = refl
terminal_is w.Char e = refl
terminal_is w.Int e = refl
terminal_is w.Long e = refl
terminal_is w.If e = refl
terminal_is w.Else e = refl
terminal_is w.While e = refl
terminal_is w.Do e = refl
terminal_is w.For e = refl
terminal_is w.Return e = refl
terminal_is w.SizeOf e = refl
terminal_is w.Name e = refl
terminal_is w.Text e = refl
terminal_is w.Open e = refl
terminal_is w.Close e = refl
terminal_is w.OpenBracket e = refl
terminal_is w.CloseBracket e = refl
terminal_is w.OpenBrace e = refl
terminal_is w.CloseBrace e = refl
terminal_is w.Semicolon e = refl
terminal_is w.Comma e = refl
terminal_is w.Colon e = refl
terminal_is w.Assign e = refl
terminal_is w.Star e = refl
terminal_is _ e = absurd cc

pub is_storage : (terminal : Terminal) → kind_of_terminal terminal ≡ k.Storage → (terminal ≡ w.Extern) ⊎ (terminal ≡ w.Static)
is_storage w.Extern e = inl refl
is_storage w.Static e = inr refl
is_storage _ e = absurd cc

pub is_jump : (terminal : Terminal) → kind_of_terminal terminal ≡ k.Jump → (terminal ≡ w.Break) ⊎ (terminal ≡ w.Continue)
is_jump w.Break e = inl refl
is_jump w.Continue e = inr refl
is_jump _ e = absurd cc

pub is_constant : (terminal : Terminal) → kind_of_terminal terminal ≡ k.Constant → ((value : ℕ) × (terminal ≡ w.Number value)) ⊎ ((value : ℕ) × (terminal ≡ w.Character value))
is_constant (w.Number value) e = inl (value, refl)
is_constant (w.Character value) e = inr (value, refl)
is_constant _ e = absurd cc

pub is_sign : (terminal : Terminal) → unary (kind_of_terminal terminal) ≡ Some (s.Operand ∷ []) → (number : ℕ) × (operators.sign terminal ≡ Some number)
is_sign w.Plus e = (0, refl)
is_sign w.Minus e = (1, refl)
is_sign w.Exclamation e = (2, refl)
is_sign w.Tilde e = (3, refl)
is_sign w.Star e = (4, refl)
is_sign w.Ampersand e = (5, refl)
is_sign _ e = absurd cc

pub is_step : (terminal : Terminal) → kind_of_terminal terminal ≡ k.Step → (number : ℕ) × (operators.step terminal ≡ Some number)
is_step w.PlusPlus e = (6, refl)
is_step w.MinusMinus e = (7, refl)
is_step _ e = absurd cc

pub is_suffix : (terminal : Terminal) → kind_of_terminal terminal ≡ k.Step → (number : ℕ) × (operators.suffix terminal ≡ Some number)
is_suffix w.PlusPlus e = (0, refl)
is_suffix w.MinusMinus e = (1, refl)
is_suffix _ e = absurd cc

pub is_binary : (terminal : Terminal) → operator (kind_of_terminal terminal) ≡ Some (s.Operand ∷ s.Tail false ∷ []) → (number : ℕ) × (below : ℕ) × (below < 10) × (operators.binary terminal ≡ Some (number, suc below))
is_binary w.BarBar e = (0, 9, omega arith, refl)
is_binary w.AmpersandAmpersand e = (1, 8, omega arith, refl)
is_binary w.Bar e = (2, 7, omega arith, refl)
is_binary w.Caret e = (3, 6, omega arith, refl)
is_binary w.Ampersand e = (4, 5, omega arith, refl)
is_binary w.Equal e = (5, 4, omega arith, refl)
is_binary w.NotEqual e = (6, 4, omega arith, refl)
is_binary w.Less e = (7, 3, omega arith, refl)
is_binary w.LessEqual e = (8, 3, omega arith, refl)
is_binary w.Greater e = (9, 3, omega arith, refl)
is_binary w.GreaterEqual e = (10, 3, omega arith, refl)
is_binary w.LeftShift e = (11, 2, omega arith, refl)
is_binary w.RightShift e = (12, 2, omega arith, refl)
is_binary w.Plus e = (13, 1, omega arith, refl)
is_binary w.Minus e = (14, 1, omega arith, refl)
is_binary w.Star e = (15, 0, omega arith, refl)
is_binary w.Slash e = (16, 0, omega arith, refl)
is_binary w.Percent e = (17, 0, omega arith, refl)
is_binary _ e = absurd cc

pub is_assign : (terminal : Terminal) → assignment (kind_of_terminal terminal) ≡ Some (s.Expression ∷ []) → (number : ℕ) × (operators.assign terminal ≡ Some number)
is_assign w.Assign e = (0, refl)
is_assign w.AddAssign e = (1, refl)
is_assign w.SubtractAssign e = (2, refl)
is_assign w.MultiplyAssign e = (3, refl)
is_assign w.DivideAssign e = (4, refl)
is_assign w.RemainderAssign e = (5, refl)
is_assign w.AndAssign e = (6, refl)
is_assign w.OrAssign e = (7, refl)
is_assign w.XorAssign e = (8, refl)
is_assign w.LeftShiftAssign e = (9, refl)
is_assign w.RightShiftAssign e = (10, refl)
is_assign _ e = absurd cc
