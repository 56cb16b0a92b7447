use Rattle.std.proofs.Common.{◌+◌}
use Rattle.cw_rights.specs.Trees.{tree_of, seq_of, alt_of}
use Rattle.cw_dfa.specs.Tables.{nodes}
use Rattle.cw_dfa.proofs.tables.+part.Given as goal

abbrev pub decreases-add_part : goal.decreases-add_part
decreases-add_part l = nodes (tree_of l.r.now) + 1

abbrev pub decreases-sequence_of : goal.decreases-sequence_of
decreases-sequence_of l = nodes (seq_of l.parts.now)

abbrev pub decreases-alternative_of : goal.decreases-alternative_of
decreases-alternative_of l = nodes (alt_of l.parts.now)
