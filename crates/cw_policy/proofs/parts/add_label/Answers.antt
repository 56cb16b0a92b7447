use Rattle.std.proofs.Common.{rules, ◌≡◌, true}
use Rattle.std.specs.List.{list_any}
use Rattle.std.specs.Str.{bytes_eq}
use Rattle.cw_regex.proofs.Naming.{known_name, new_name}
use Rattle.cw_policy.proofs.parts.add_label.Goals as goal

pub returns-then-contains : goal.returns-then-contains
returns-then-contains c =
    let known : list_any (λ k. bytes_eq c.args.label.now k.items) c.args.labels.now.keys ≡ true = search rules in
    record { added = known_name c.args.labels.now.keys c.args.label.now known }

pub returns : goal.returns
returns c = record { added = new_name c.args.labels.now.keys c.insert.new.self.keys c.in_ok-copied.field-0 c.args.label.now c.in_ok-insert.ensures.keys c.in_ok-copied.ensures.bytes }
