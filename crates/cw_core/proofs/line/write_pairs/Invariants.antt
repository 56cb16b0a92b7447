use Rattle.std.proofs.Common.{◌≡◌, ◌+◌, ◌*◌, ◌%◌, ◌≤◌, ◌++◌, length, map, take}
use Rattle.std.specs.Char.{digit_char}
use Rattle.cw_core.specs.Digits.{lowest_digits}
use Rattle.cw_core.proofs.line.write_pairs.Given as goal

abbrev pub invariant-pairs : goal.invariant-pairs
invariant-pairs l = record {
  end : l.at + 2 * l.left ≡ l.from + 2 * l.count;
  small : l.left ≤ 128;
  room : l.from + 2 * l.count ≤ length l.text;
  text : take l.at l.text ++ map digit_char (lowest_digits (2 * l.left) l.set) ≡ take l.from l.fn.text ++ map digit_char (lowest_digits (2 * l.count) l.set);
}

abbrev pub invariant-limbs : goal.invariant-limbs
invariant-limbs l = record {
  end : l.at + 2 * l.left ≡ l.from + 2 * l.count;
  whole : l.left % 8 ≡ 0;
  small : l.left ≤ 128;
  room : l.from + 2 * l.count ≤ length l.text;
  text : take l.at l.text ++ map digit_char (lowest_digits (2 * l.left) l.set) ≡ take l.from l.fn.text ++ map digit_char (lowest_digits (2 * l.count) l.set);
}

abbrev pub decreases-pairs : goal.decreases-pairs
decreases-pairs l = l.left

abbrev pub decreases-limbs : goal.decreases-limbs
decreases-limbs l = l.left
