use Rattle.std.proofs.Common.{◌≤◌, length, sym, ap, ◌∙◌, subst}
use Rattle.cw_syntax.specs.Plans.{Scene}
use Rattle.cw_boards.specs.Kinds.{front_kind}
use Rattle.cw_boards.specs.Held.{stack_in}
use Rattle.cw_boards.proofs.sourced.front_kind.Goals as goal

pub front_kind-requires : goal.front_kind-requires
front_kind-requires c = record { labels = subst (λ (s : Scene). length s.names.labels ≤ 65535) (sym c.requires.scene) c.requires.valid.few_labels }

pub returns : goal.returns
returns c = c.front_kind.ensures ∙ ap (λ (s : Scene). front_kind (stack_in s c.args.stack.now)) c.requires.scene
