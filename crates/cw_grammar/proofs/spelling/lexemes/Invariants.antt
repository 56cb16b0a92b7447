use Rattle.std.proofs.Common.{◌≡◌, ◌≤◌, length, take}
use Rattle.std.specs.Prelude.{vec_len, vec_capacity}
use Rattle.cw_grammar.specs.Spelling.{lexemes_of}
use Rattle.cw_grammar.proofs.spelling.lexemes.Given as goal

abbrev pub invariant-tokens : goal.invariant-tokens
invariant-tokens l = record {
  terminals : l.list.items ≡ lexemes_of l.source (take l.token-index l.tokens);
  many : vec_len l.list ≡ l.token-index;
  room : length l.tokens ≤ vec_capacity l.list;
}
