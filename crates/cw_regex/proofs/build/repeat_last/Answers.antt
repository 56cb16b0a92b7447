use Rattle.std.proofs.Common.{rules, ◌≡◌, [], ◌∷◌, ◌++◌, map, sym, ap, ◌∙◌}
use Rattle.cw_rights.specs.Trees.{tree_of}
use Rattle.cw_regex.specs.Items.{on_last, repeated_by}
use Rattle.cw_regex.proofs.Built.{last_mapped}
use Rattle.cw_regex.proofs.build.repeat_last.Goals as goal

pub returns-in_ok-push-in-Some : goal.returns-in_ok-push-in-Some
returns-in_ok-push-in-Some c =
    let front = c.pop.new.self.items in
    let was : c.args.factors.items ≡ front ++ c.in-Some.last ∷ [] = search rules in
    let is : c.push.new.self.items ≡ front ++ c.repeated.result ∷ [] = search rules in
    let tree : tree_of c.repeated.result ≡ repeated_by c.args.sign (tree_of c.in-Some.last) = search rules in
    ap (map tree_of) is ∙ last_mapped (repeated_by c.args.sign) front c.in-Some.last c.repeated.result tree ∙ ap (λ l. on_last (repeated_by c.args.sign) (map tree_of l)) (sym was)
