use Rattle.std.proofs.Common.{◌≡◌, ℕ, List, drop}
use Rattle.std.specs.Option.{option_or}
use Rattle.cw_slots.specs.Numbers.{found, kept_from}
use Rattle.cw_slots.proofs.numbers.put_all.Given as goal

abbrev pub invariant-loop-i : goal.invariant-loop-i
invariant-loop-i l = (name : List ℕ) → option_or (found name l.numbers.entries) (kept_from l.arrays name l.i (drop l.i l.texts))
    ≡ option_or (found name l.initial.numbers.entries) (kept_from l.arrays name 0 l.texts)
