use Rattle.std.proofs.Common.{rules, ◌≡◌, ℕ, Some, length, sym, ap, ◌∙◌}
use Rattle.std.specs.Prelude.{slice_get}
use Rattle.std.proofs.lemmas.Bool.{ltb-true}
use Rattle.std.proofs.lemmas.Option.{slice_get-get_or}
use Rattle.cw_least_strategy.proofs.Numbered.{numbered_in}
use Rattle.cw_least_strategy.proofs.contexts.Entries.has.Goals as goal

pub returns-in-Some : goal.returns-in-Some
returns-in-Some c =
    let k = c.args.key.now in
    let numbers = c.args.self.now.numbers.items in
    let aim = c.in-Some.aim.now in
    let found = rw c.deref.ensures.value at c.in-Some.ensures.lookup in
    let same : aim ≡ k.aim = search rules in
    let at : slice_get numbers c.args.number ≡ Some k.aim =
    slice_get-get_or numbers c.args.number aim (ltb-true c.args.number (length numbers) (sym found.0)) ∙ ap (λ (x : ℕ). Some x) (sym found.1 ∙ same) in
    λ t. numbered_in c.args.solved.now c.requires.routed c.fact_contexts_are_needed.ensures c.args.aims.now numbers c.args.number k.aim k.pos k.state c.requires.numbered c.requires.aim
    c.requires.state at (c.has_position.ensures t)
