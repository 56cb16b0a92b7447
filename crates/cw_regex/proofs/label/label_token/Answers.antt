use Rattle.std.proofs.Common.{drop, take, ◌-◌, [], ◌∷◌}
use Rattle.cw_regex.specs.Parts.{parts}
use Rattle.cw_regex.proofs.Adding.{identifier_left}
use Rattle.cw_regex.proofs.label.label_token.Goals as goal

pub returns-in_ok-add_label-in-Identifier-clause-next : goal.returns-in_ok-add_label-in-Identifier-clause-next
returns-in_ok-add_label-in-Identifier-clause-next c = record {
  added = take (c.in-Identifier.to - c.in-Identifier.from) (drop c.in-Identifier.from c.args.text.now) ∷ [];
  split = identifier_left c.args.so_far.inside (take (c.in-Identifier.to - c.in-Identifier.from) (drop c.in-Identifier.from c.args.text.now)) (parts (drop c.args.so_far.at c.args.text.now))
      (parts (drop c.in-Identifier.to c.args.text.now)) c.in-Identifier.ensures.first c.if-not-so_far.true;
  all = c.in_ok-add_label-in-Identifier.ensures.added;
}
