use Rattle.std.proofs.Common.{rules, ◌≡◌, sym, ap, ◌∙◌, unwrap_or}
use Rattle.std.specs.List.{position}
use Rattle.std.specs.Str.{bytes_eq}
use Rattle.cw_regex.proofs.Naming.{place_is}
use Rattle.cw_policy.proofs.rules.label_number.Goals as goal

pub returns-in-None : goal.returns-in-None
returns-in-None c =
    let path : c.get_index_of.result ≡ position (λ k. bytes_eq c.args.label.now k.items) c.args.labels.now.keys = search rules in
    sym (ap (λ o. unwrap_or o 0) c.in-None.is) ∙ place_is c.args.labels.now.keys c.args.label.now c.get_index_of.result path

pub returns-in-Some : goal.returns-in-Some
returns-in-Some c =
    let path : c.get_index_of.result ≡ position (λ k. bytes_eq c.args.label.now k.items) c.args.labels.now.keys = search rules in
    sym (ap (λ o. unwrap_or o 0) c.in-Some.is) ∙ place_is c.args.labels.now.keys c.args.label.now c.get_index_of.result path
