use Rattle.std.proofs.Common.{length, reverse, ap, ◌∙◌, inl}
use Rattle.cw_links.specs.Nearest.{with_stack}
use Rattle.cw_links.proofs.Nearing.{passed}
use Rattle.cw_links.proofs.nearest.NearQueue.make.Goals as goal

pub returns : goal.returns
returns c key =
    let later = c.in_ok-make.field-0 in
    let present = c.new.result.items in
    let soon = c.new-2.result.items in
    passed (with_stack later 0 (reverse present)) 0 soon key (inl (ap length c.new-2.ensures.items)) ∙ passed later 0 present key (inl (ap length c.new.ensures.items)) ∙ c.in_ok-make.ensures key
