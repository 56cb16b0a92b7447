use Rattle.std.proofs.Common.{rules, ◌≡◌, refl, ◌∙◌}
use Rattle.cw_rights.specs.declared.words.Regex.TheVariants.{Cat}
use Rattle.cw_rights.specs.Trees.{seq_of}
use Rattle.cw_rights.proofs.Rows.{cat_tree}
use Rattle.cw_policy.specs.Rules.{bad_words}
use Rattle.cw_policy.proofs.rules.bad_words.Goals as goal

pub returns : goal.returns
returns c =
    let parts = c.in_ok-parts.parts in
    let each : seq_of parts.items ≡ bad_words c.args.label c.args.test = search rules in
    record { words = cat_tree (Cat parts) parts refl ∙ each }
