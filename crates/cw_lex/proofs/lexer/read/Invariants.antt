use Rattle.std.proofs.Common.{◌≤◌, ◌-◌, length}
use Rattle.std.specs.Prelude.{vec_len, vec_capacity}
use Rattle.cw_lex.specs.Fresh.{fresh_from}
use Rattle.cw_lex.proofs.Made.{IsMadeUpTo}
use Rattle.cw_lex.proofs.lexer.read.Given as goal

abbrev pub invariant-fronts : goal.invariant-fronts
invariant-fronts g l = record {
  reached : IsMadeUpTo (g.T.OfToken.made l.source) l.source l.at (fresh_from l.last l.at l.source) l.tokens.items;
  in_order : l.last ≤ l.at;
  within : l.at ≤ length l.source;
  many : vec_len l.tokens ≤ l.at;
  room : length l.source ≤ vec_capacity l.tokens;
}

abbrev pub decreases-fronts : goal.decreases-fronts
decreases-fronts g l = length l.source - l.at
