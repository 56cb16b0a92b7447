use Rattle.std.proofs.Common.{◌+◌, drop, get_or, sym, ap, ◌∙◌}
use Rattle.std.proofs.lemmas.List.{drop_more}
use Rattle.cw_syntax.specs.declared.program.Name.{Name}
use Rattle.cw_scope.specs.Rules.{repeated}
use Rattle.cw_scope.proofs.Seen.{texts, repeated_at, repeated_on}
use Rattle.cw_scope.proofs.rules.repeated_of_many.Goals as goal

pub returns-then-not-branch : goal.returns-then-not-branch
returns-then-not-branch c =
    let source = c.args.source.now in
    let names = c.args.names.now in
    let none : Name = record { from = 0; to = 0 } in
    sym (repeated_at source (get_or names c.loop-name.name-index none) (drop (c.loop-name.name-index + 1) names) c.text.result c.loop-name.seen.keys c.text.ensures.bytes
    (sym c.if-not-branch.true ∙ c.in_ok-insert.ensures.added))
    ∙ ap (repeated source (texts c.loop-name.seen.keys)) (sym (drop_more names c.loop-name.name-index none c.loop-name-test.true))
    ∙ c.loop-name.invariant

pub loop-name-preserved : goal.loop-name-preserved
loop-name-preserved c =
    let source = c.args.source.now in
    let names = c.args.names.now in
    let none : Name = record { from = 0; to = 0 } in
    repeated_on source (get_or names c.loop-name.name-index none) (drop (c.loop-name.name-index + 1) names) c.text.result c.loop-name.seen.keys c.insert.new.self.keys c.text.ensures.bytes c.in_ok-insert.ensures.updates.0 (sym c.if-not-branch.false ∙ c.in_ok-insert.ensures.added)
    ∙ ap (repeated source (texts c.loop-name.seen.keys)) (sym (drop_more names c.loop-name.name-index none c.loop-name-test.true))
    ∙ c.loop-name.invariant
