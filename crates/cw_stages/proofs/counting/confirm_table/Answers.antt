use Rattle.std.proofs.Common.{ap, sym, ◌∙◌}
use Rattle.std.specs.Option.{option_map}
use Rattle.std.proofs.lemmas.Option.{none-some}
use Rattle.cw_wcheck.specs.Checking.{numbered}
use Rattle.cw_stages.proofs.counting.confirm_table.Goals as goal

pub unreachable-requires : goal.unreachable-requires
unreachable-requires c = none-some _ (ap (option_map numbered) (sym c.requires.good) ∙ c.in-Err.ensures.fault)
