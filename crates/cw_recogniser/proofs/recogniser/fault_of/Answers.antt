use Rattle.std.proofs.Common.{rules, ◌≡◌, ◌<◌, length, take, reverse, ap, sym, subst, ◌∙◌, Some, ℕ}
use Rattle.cw_recogniser.specs.Machine.{feed, run, start}
use Rattle.cw_recogniser.proofs.Verdicts.{run_more, stopped, ended, unended, steps_false, steps_true}
use Rattle.cw_recogniser.proofs.recogniser.fault_of.Goals as goal

pub returns-then-not-branch : goal.returns-then-not-branch
returns-then-not-branch c =
    let stack = reverse c.loop-index.stack.items in
    let lt : c.loop-index.index < length c.args.lexemes.now = search rules in
    let none = steps_false (feed stack c.kind_of.result) c.step.new.stack.items c.in_ok-step.field-0 c.in_ok-step.ensures c.if-not-branch.true in
    stopped c.args.lexemes.now c.loop-index.index _ stack lt c.loop-index.invariant (sym (ap (feed stack) c.kind_of.ensures) ∙ none)

pub loop-index-preserved : goal.loop-index-preserved
loop-index-preserved c =
    let stack = reverse c.loop-index.stack.items in
    let lt : c.loop-index.index < length c.args.lexemes.now = search rules in
    let kept = steps_true (feed stack c.kind_of.result) c.step.new.stack.items c.in_ok-step.field-0 c.in_ok-step.ensures c.if-not-branch.false in
    run_more c.args.lexemes.now c.loop-index.index _ stack lt c.loop-index.invariant ∙ (sym (ap (feed stack) c.kind_of.ensures) ∙ kept)

pub returns-then-may_end : goal.returns-then-may_end
returns-then-may_end c =
    let e : c.loop-index.index ≡ length c.args.lexemes.now = search rules in
    let all : run start (take (length c.args.lexemes.now) c.args.lexemes.now) ≡ Some (reverse c.loop-index.stack.items) =
    subst (λ (z : ℕ). run start (take z c.args.lexemes.now) ≡ Some (reverse c.loop-index.stack.items)) e c.loop-index.invariant in
    ended c.args.lexemes.now c.loop-index.stack.items all (search rules)

pub returns : goal.returns
returns c =
    let e : c.loop-index.index ≡ length c.args.lexemes.now = search rules in
    let all : run start (take (length c.args.lexemes.now) c.args.lexemes.now) ≡ Some (reverse c.loop-index.stack.items) =
    subst (λ (z : ℕ). run start (take z c.args.lexemes.now) ≡ Some (reverse c.loop-index.stack.items)) e c.loop-index.invariant in
    unended c.args.lexemes.now c.loop-index.stack.items all (search rules)
