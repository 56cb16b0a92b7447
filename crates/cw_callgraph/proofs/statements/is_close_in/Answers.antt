use Rattle.std.proofs.Common.{◌≡◌, ◌∙◌, false, codes, rules}
use Rattle.std.specs.Str.{bytes_eq}
use Rattle.cw_syntax.specs.Names.{text}
use Rattle.cw_callgraph.specs.Walking.{scene_at}
use Rattle.cw_callgraph.proofs.Seams.{other_call}
use Rattle.cw_callgraph.proofs.statements.is_close_in.Goals as goal

pub returns-else-eq : goal.returns-else-eq
returns-else-eq c =
    let s = scene_at c.args.setting.now in
    let other : bytes_eq (text s.source c.args.name) (codes "close") ≡ false = search rules in
    let no : c.eq.result ≡ false = search rules in
    no ∙ other_call s c.args.name c.args.e.now c.requires.call other
