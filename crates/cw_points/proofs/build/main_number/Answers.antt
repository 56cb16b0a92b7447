use Rattle.std.proofs.Common.{◌≡◌, codes, ◌∙◌, rules}
use Rattle.std.specs.Option.{unwrap_or}
use Rattle.cw_syntax.specs.Names.{number_in}
use Rattle.cw_points.proofs.Numbers.{number_or_length}
use Rattle.cw_points.proofs.build.main_number.Goals as goal

pub returns : goal.returns
returns c =
    let names = c.args.scene.now.functions in
    let e : c.unwrap_or.result ≡ unwrap_or (number_in names (codes "main")) c.function_count.result = search rules in
    c.function_number.ensures ∙ e ∙ number_or_length names (codes "main") c.function_count.result c.function_count.ensures.count
