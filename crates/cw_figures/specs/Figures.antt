-- Numbers from -2^63 to 2^63 - 1, and what the operators of C give over them. Public source: ISO/IEC 9899:2011, 6.5 (expressions),
-- with results that are cut nowhere: one that doesn't fit is no value.
use Rattle.std.specs.Prelude.{ℕ, ◌^◌, ℤ, pos, negsuc, ◌+ℤ◌, ◌-ℤ◌, ◌*ℤ◌, Bool, true, false, cond, not, Option, Some, None, Result, Ok, Err, nat_eq, nat_lt, int_lt, int_le, int_div, int_rem}
use Rattle.std.specs.Int.{w64, int_bit_and, int_bit_or, int_bit_xor, int_shr}
use Rattle.std.specs.Ordering.{int_eq}
use Rattle.cw_figures.specs.declared.operators.Want.{Want}
use Rattle.cw_figures.specs.declared.operators.Want.TheVariants.{Overflow, Division}
use Rattle.cw_figures.specs.declared.operators.Operator.{Operator}
use Rattle.cw_figures.specs.declared.operators.Operator.TheVariants.{BitOr, BitXor, BitAnd, Equal, Unequal, Less, AtMost, Greater, AtLeast, ShiftLeft, ShiftRight, Plus, Minus, Times, Divide, Modulo}
use Rattle.cw_figures.specs.declared.joints.Joint.{Joint}
use Rattle.cw_figures.specs.declared.joints.Joint.TheVariants.{Or, And, By, Nothing}

-- A value, or why there is none.
abbrev pub Figure : Type 0
Figure = Result ℤ Want

-- from -2^63 to 2^63 - 1
abbrev pub fits : ℤ → Bool
fits (pos n) = nat_lt n (2 ^ 63)
fits (negsuc n) = nat_lt n (2 ^ 63)

abbrev pub fitting : ℤ → Figure
fitting z = cond (fits z) (Ok z) (Err Overflow)

-- 0 or 1
abbrev pub truth : Bool → ℤ
truth true = pos 1
truth false = pos 0

abbrev pub is_zero : ℤ → Bool
is_zero z = int_eq z (pos 0)

-- the count of a shift, where it is one
abbrev pub count_of : ℤ → Option ℕ
count_of (pos n) = cond (nat_lt n 64) (Some n) None
count_of (negsuc n) = None

abbrev pub shifted_left : ℤ → Option ℕ → Figure
shifted_left a None = Err Overflow
shifted_left a (Some k) = fitting (a *ℤ pos (2 ^ k))

-- divided by a power of two, rounded down
abbrev pub shifted_right : ℤ → Option ℕ → Figure
shifted_right a None = Err Overflow
shifted_right a (Some k) = Ok (int_shr a k)

-- cut towards zero
abbrev pub divided : ℤ → ℤ → Figure
divided a b = cond (is_zero b) (Err Division) (fitting (int_div a b))

abbrev pub left_over : ℤ → ℤ → Figure
left_over a b = cond (is_zero b) (Err Division) (Ok (int_rem a b))

-- The binary operators that take both operands.
abbrev pub operated : Operator → ℤ → ℤ → Figure
operated BitOr a b = Ok (int_bit_or w64 a b)
operated BitXor a b = Ok (int_bit_xor w64 a b)
operated BitAnd a b = Ok (int_bit_and w64 a b)
operated Equal a b = Ok (truth (int_eq a b))
operated Unequal a b = Ok (truth (not (int_eq a b)))
operated Less a b = Ok (truth (int_lt a b))
operated AtMost a b = Ok (truth (int_le a b))
operated Greater a b = Ok (truth (int_lt b a))
operated AtLeast a b = Ok (truth (int_le b a))
operated ShiftLeft a b = shifted_left a (count_of b)
operated ShiftRight a b = shifted_right a (count_of b)
operated Plus a b = fitting (a +ℤ b)
operated Minus a b = fitting (a -ℤ b)
operated Times a b = fitting (a *ℤ b)
operated Divide a b = divided a b
operated Modulo a b = left_over a b

-- their numbers in the program data
abbrev pub binary_of : ℕ → Option Operator
binary_of n =
    cond (nat_eq n 2) (Some BitOr) (cond (nat_eq n 3) (Some BitXor) (cond (nat_eq n 4) (Some BitAnd) (cond (nat_eq n 5) (Some Equal)
    (cond (nat_eq n 6) (Some Unequal) (cond (nat_eq n 7) (Some Less) (cond (nat_eq n 8) (Some AtMost) (cond (nat_eq n 9) (Some Greater)
    (cond (nat_eq n 10) (Some AtLeast) (cond (nat_eq n 11) (Some ShiftLeft) (cond (nat_eq n 12) (Some ShiftRight) (cond (nat_eq n 13) (Some Plus)
    (cond (nat_eq n 14) (Some Minus) (cond (nat_eq n 15) (Some Times) (cond (nat_eq n 16) (Some Divide) (cond (nat_eq n 17) (Some Modulo) None)))))))))))))))

abbrev pub by_if : Option Operator → Joint
by_if None = Nothing
by_if (Some o) = By o

-- What a binary operator joins its operands by: `||` and `&&` may leave the right one out.
abbrev pub joint_of : ℕ → Joint
joint_of n = cond (nat_eq n 0) Or (cond (nat_eq n 1) And (by_if (binary_of n)))

-- the operators of compound assignments, by their numbers; `=` is 0
abbrev pub compound_of : ℕ → Option Operator
compound_of n =
    cond (nat_eq n 1) (Some Plus) (cond (nat_eq n 2) (Some Minus) (cond (nat_eq n 3) (Some Times) (cond (nat_eq n 4) (Some Divide) (cond (nat_eq n 5) (Some Modulo)
    (cond (nat_eq n 6) (Some BitAnd) (cond (nat_eq n 7) (Some BitOr) (cond (nat_eq n 8) (Some BitXor) (cond (nat_eq n 9) (Some ShiftLeft)
    (cond (nat_eq n 10) (Some ShiftRight) None)))))))))
