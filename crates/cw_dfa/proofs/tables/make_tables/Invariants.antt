use Rattle.std.proofs.Common.{◌≡◌, ℕ, ◌+◌, ◌<◌, ◌++◌, length, take, drop, slice_index}
use Rattle.std.specs.Int.RustNames.{bit_or}
use Rattle.cw_rights.specs.Trees.{count}
use Rattle.cw_dfa.specs.Positions.{bad_of}
use Rattle.cw_dfa.specs.Verdicts.{rules_of}
use Rattle.cw_dfa.specs.Tables.{firsts, followers, lasts_of}
use Rattle.cw_dfa.proofs.tables.make_tables.Given as goal

abbrev pub invariant-loop-i : goal.invariant-loop-i
invariant-loop-i l = record {
  room : l.at + count (bad_of (rules_of (drop l.i l.rules))) ≡ 1 + count (bad_of (rules_of l.rules));
  rows : length l.follow ≡ 64;
  ends : length l.last ≡ 32;
  first : bit_or l.first (firsts (bad_of (rules_of (drop l.i l.rules))) l.at) ≡ firsts (bad_of (rules_of l.rules)) 1;
  follow : (p : ℕ) → p < 64 → bit_or (slice_index l.follow p) (followers (bad_of (rules_of (drop l.i l.rules))) l.at p) ≡ followers (bad_of (rules_of l.rules)) 1 p;
  last : take l.i l.last ++ lasts_of (rules_of (drop l.i l.rules)) l.at ≡ lasts_of (rules_of l.rules) 1;
}
