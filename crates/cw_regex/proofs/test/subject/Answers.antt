use Rattle.std.proofs.Common.{◌≡◌, ◌-◌, true, drop, take, sym, ◌∙◌}
use Rattle.cw_regex.specs.Parts.{parts}
use Rattle.cw_regex.specs.Tokens.{begins_colon}
use Rattle.cw_regex.specs.Meaning.{names_of}
use Rattle.cw_regex.proofs.Subjects.{subject_read}
use Rattle.cw_regex.proofs.test.subject.Goals as goal

pub returns-then-colon_next-clause-read : goal.returns-then-colon_next-clause-read
returns-then-colon_next-clause-read c s rest h t =
    let text = c.args.text.now in
    let is : begins_colon (parts (drop c.in-Identifier.to text)) ≡ true = sym c.colon_next.ensures.part ∙ c.if-colon_next.true in
    subject_read c.args.format (names_of c.args.descriptors.now) s rest (parts (drop c.in-Identifier.to text)) (take (c.in-Identifier.to - c.in-Identifier.from) (drop c.in-Identifier.from text))
    c.descriptor_number-descriptor.result c.right_after_colon-end.result.0 (sym c.in-Identifier.ensures.first
    ∙ h) t is c.descriptor_number-descriptor.ensures c.right_after_colon-end.ensures.read
