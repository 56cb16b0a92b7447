use Rattle.std.proofs.Common.{ap, ◌∙◌}
use Rattle.cw_regex.specs.Parts.{parts}
use Rattle.cw_regex.specs.Labels.{names_in}
use Rattle.cw_regex.specs.Meaning.{with_names}
use Rattle.cw_regex.proofs.Labelling.{labels_are}
use Rattle.cw_regex.proofs.read.named.Goals as goal

pub returns-in-Ok-clause-labels : goal.returns-in-Ok-clause-labels
returns-in-Ok-clause-labels c e h = c.in-Ok.ensures.added ∙ ap (with_names (names_in c.args.labels.now.keys)) (labels_are (parts c.args.text.now) e h)
