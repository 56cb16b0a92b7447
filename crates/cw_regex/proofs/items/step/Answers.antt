use Rattle.std.proofs.Common.{sym, ◌∙◌, take, drop, ◌-◌}
use Rattle.cw_regex.specs.Parts.{parts}
use Rattle.cw_regex.specs.Labels.{names_in}
use Rattle.cw_regex.specs.Meaning.{names_of}
use Rattle.cw_regex.specs.Items.{levels_of}
use Rattle.cw_regex.proofs.Stepping.{identifier_read, identifier_rest, dot_read, dot_rest}
use Rattle.cw_regex.proofs.items.step.Goals as goal

pub returns-in_ok-next-in-Identifier-clause-read : goal.returns-in_ok-next-in-Identifier-clause-read
returns-in_ok-next-in-Identifier-clause-read c i rest h = identifier_read c.args.format (names_in c.args.labels.now.keys) (names_of c.args.descriptors.now) (levels_of c.args.building)
    (levels_of c.in_ok-next-in-Identifier.next) c.label_number-number.result (take (c.in-Identifier.to - c.in-Identifier.from) (drop c.in-Identifier.from c.args.text.now))
    (parts (drop c.in-Identifier.to c.args.text.now)) c.label_number-number.ensures c.in_ok-next-in-Identifier.ensures.read i rest (sym c.in-Identifier.ensures.first ∙ h)

pub returns-in_ok-next-in-Identifier-clause-rest : goal.returns-in_ok-next-in-Identifier-clause-rest
returns-in_ok-next-in-Identifier-clause-rest c i rest h = identifier_rest c.args.format (names_in c.args.labels.now.keys) (names_of c.args.descriptors.now)
    (take (c.in-Identifier.to - c.in-Identifier.from) (drop c.in-Identifier.from c.args.text.now)) (parts (drop c.in-Identifier.to c.args.text.now)) (parts (drop c.in_ok-next-in-Identifier.end c.args.text.now))
    c.in_ok-next-in-Identifier.ensures.rest i rest (sym c.in-Identifier.ensures.first ∙ h)

pub returns-in_ok-next-in-Sign-clause-read : goal.returns-in_ok-next-in-Sign-clause-read
returns-in_ok-next-in-Sign-clause-read c i rest h = dot_read c.args.format (names_in c.args.labels.now.keys) (names_of c.args.descriptors.now) (levels_of c.args.building)
    (levels_of c.in_ok-next-in-Sign.next) c.in-Sign.sign (parts (drop c.in-Sign.to c.args.text.now)) (c.is_dot.ensures.0 c.if-is_dot.true) c.in_ok-next-in-Sign.ensures.read i rest
    (sym c.in-Sign.ensures.1.first ∙ h)

pub returns-in_ok-next-in-Sign-clause-rest : goal.returns-in_ok-next-in-Sign-clause-rest
returns-in_ok-next-in-Sign-clause-rest c i rest h = dot_rest c.args.format (names_in c.args.labels.now.keys) (names_of c.args.descriptors.now) c.in-Sign.sign
    (parts (drop c.in-Sign.to c.args.text.now)) (parts (drop c.in_ok-next-in-Sign.end c.args.text.now)) (c.is_dot.ensures.0 c.if-is_dot.true) c.in_ok-next-in-Sign.ensures.rest i rest
    (sym c.in-Sign.ensures.1.first ∙ h)
