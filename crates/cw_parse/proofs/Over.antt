-- Reading with some nesting left.
use Rattle.std.proofs.Common.{◌≡◌, ℕ, zero, suc, ◌-◌, ◌<◌, Bool, List, refl, arith}
use Rattle.cw_grammar.specs.declared.terminals.Lexeme.{Lexeme}
use Rattle.cw_parse.specs.StatementReading.{statement, read_statement}

pub read_over : (n : ℕ) → 0 < n → (flag : Bool) (ts : List Lexeme) → read_statement n flag ts ≡ statement (read_statement (n - 1)) flag ts
unfolding read_statement
read_over zero lt flag ts = absurd (omega arith)
read_over (suc n) lt flag ts = let e : suc n - 1 ≡ n = omega arith in rw e refl
