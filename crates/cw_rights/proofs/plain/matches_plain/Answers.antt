use Rattle.std.proofs.Common.{sym, ◌∙◌}
use Rattle.cw_rights.specs.Trees.{tree_of}
use Rattle.cw_rights.proofs.Plainly.{plain_is}
use Rattle.cw_rights.proofs.plain.matches_plain.Goals as goal

pub returns : goal.returns
returns c =
    let p = plain_is (tree_of c.args.regex.now) c.args.word.now in
    (λ h. p.0 (sym c.plain.ensures ∙ h), λ m. c.plain.ensures ∙ p.1 m)
