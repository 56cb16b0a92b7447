use Rattle.std.proofs.Common.{◌∙◌, sym}
use Rattle.std.proofs.lemmas.Option.{some_pair_parts}
use Rattle.cw_core.proofs.laws.one_set_is_spelled.Goals as goal

pub returns : goal.returns
returns c = record {
  same = (some_pair_parts _ _ _ _ (sym (c.read_ranges.ensures.found c.args.set.now c.requires.set_stands) ∙ c.read_ranges.ensures.found c.args.other.now c.requires.other_stands)).0;
}
