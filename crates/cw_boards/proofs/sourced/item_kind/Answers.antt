use Rattle.std.proofs.Common.{◌≤◌, length, sym, ap, ◌∙◌, subst}
use Rattle.cw_syntax.specs.Plans.{Scene}
use Rattle.cw_boards.specs.Kinds.{item_kind}
use Rattle.cw_boards.specs.Held.{item_of}
use Rattle.cw_boards.proofs.sourced.item_kind.Goals as goal

pub item_kind-requires : goal.item_kind-requires
item_kind-requires c = record { labels = subst (λ (s : Scene). length s.names.labels ≤ 65535) (sym c.requires.scene) c.requires.valid.few_labels }

pub returns : goal.returns
returns c = c.item_kind.ensures ∙ ap (λ (s : Scene). item_kind (item_of s c.args.item.now)) c.requires.scene
