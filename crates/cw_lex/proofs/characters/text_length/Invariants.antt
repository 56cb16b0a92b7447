use Rattle.std.proofs.Common.{◌≡◌, ◌≤◌, ◌-◌, length, drop}
use Rattle.cw_lex.specs.Characters.{more_by, text_len}
use Rattle.cw_lex.proofs.characters.text_length.Given as goal

abbrev pub invariant-items : goal.invariant-items
invariant-items l = record {
  so_far : more_by l.at (text_len 0 (drop l.at l.bytes)) ≡ text_len 0 l.bytes;
  within : l.at ≤ length l.bytes;
}

abbrev pub decreases-items : goal.decreases-items
decreases-items l = length l.bytes - l.at
