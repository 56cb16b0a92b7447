use Rattle.std.proofs.Common.{◌≡◌, length}
use Rattle.cw_parse.specs.StatementReading.{all_named}
use Rattle.cw_parse.proofs.files.has_names.Given as goal

abbrev pub invariant-params : goal.invariant-params
invariant-params l = all_named l.left ≡ all_named l.params

abbrev pub decreases-params : goal.decreases-params
decreases-params l = length l.left
