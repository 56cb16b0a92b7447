use Rattle.std.proofs.Common.{◌≡◌, ◌≤◌, ◌+◌, [], cond, length, drop, get_or, sym, ap, ◌∙◌, arith}
use Rattle.std.proofs.lemmas.Bool.Decides.{Decides-ltb}
use Rattle.std.proofs.lemmas.List.{drop_more}
use Rattle.cw_syntax.specs.declared.program.Name.{Name}
use Rattle.cw_scope.specs.Rules.{different}
use Rattle.cw_scope.proofs.Seen.{texts, counted_on, no_more}
use Rattle.cw_scope.proofs.rules.are_more.Goals as goal

pub returns-then-names-most : goal.returns-then-names-most
returns-then-names-most c =
    let few : length c.args.names.now ≤ c.args.most = omega arith in
    sym (no_more c.args.source.now c.args.names.now c.args.most few)

pub loop-name-preserved : goal.loop-name-preserved
loop-name-preserved c =
    let source = c.args.source.now in
    let names = c.args.names.now in
    let none : Name = record { from = 0; to = 0 } in
    let old = c.loop-name.seen.keys in
    let held : c.len.result ≡ length c.insert.new.self.keys = c.len.ensures.len in (
      omega (arith, held, c.if-len-most.false),
      counted_on source (get_or names c.loop-name.name-index none) (drop (c.loop-name.name-index + 1) names) c.text.result old c.insert.new.self.keys c.text.ensures.bytes c.in_ok-insert.ensures.updates.0 (c.in_ok-insert.ensures.len ∙ ap (λ b. length old + cond b 1 0) c.in_ok-insert.ensures.added)
          ∙ ap (λ l. length old + length (different source (texts old) l)) (sym (drop_more names c.loop-name.name-index none c.loop-name-test.true))
          ∙ c.loop-name.invariant.1,
    )

pub returns-then-len-most : goal.returns-then-len-most
returns-then-len-most c =
    let source = c.args.source.now in
    let names = c.args.names.now in
    let none : Name = record { from = 0; to = 0 } in
    let old = c.loop-name.seen.keys in
    let held : c.len.result ≡ length c.insert.new.self.keys = c.len.ensures.len in
    let total =
    counted_on source (get_or names c.loop-name.name-index none) (drop (c.loop-name.name-index + 1) names) c.text.result old c.insert.new.self.keys c.text.ensures.bytes c.in_ok-insert.ensures.updates.0 (c.in_ok-insert.ensures.len ∙ ap (λ b. length old + cond b 1 0) c.in_ok-insert.ensures.added)
    ∙ ap (λ l. length old + length (different source (texts old) l)) (sym (drop_more names c.loop-name.name-index none c.loop-name-test.true))
    ∙ c.loop-name.invariant.1
    in
    sym ((Decides-ltb c.args.most (length (different source [] names))).1 (omega (arith, total, held, c.if-len-most.true)))
