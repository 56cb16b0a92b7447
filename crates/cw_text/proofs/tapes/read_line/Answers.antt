use Rattle.std.proofs.Common.{ℕ, List, length, not, eqb, refl, rules, tests}
use Rattle.std.proofs.lemmas.List.{length_push}
use Rattle.std.proofs.lemmas.Iterator.Splits.{YieldsList-from_slice_split}
use Rattle.std.proofs.lemmas.Iterator.Consumers.{YieldsList-at, YieldsList-from_filter, YieldsList-turn, YieldsList-end}
use Rattle.cw_text.specs.Tapes.{is_white, fields}
use Rattle.cw_text.proofs.Added.{adds_field, adds_all, has_other}
use Rattle.cw_text.proofs.tapes.read_line.Goals as goal

pub returns-in_default-clause-fault : goal.returns-in_default-clause-fault
returns-in_default-clause-fault c =
    let t = YieldsList-turn (YieldsList-at c.into_iter-field-iterator.ensures.into_iter_gives
    (YieldsList-from_filter _ (λ (piece : List ℕ). not (eqb (length piece) 0))
    (YieldsList-at c.filter-field-items.ensures.source (YieldsList-from_slice_split _ is_white c.args.line.now c.split-pieces.ensures.rest c.split-pieces.ensures.done c.split-pieces.ensures.closure (λ x r q k. search (rules, tests))))
    c.filter-field-items.ensures.closure (λ x r q k. search (rules, tests))))
    c.loop-field.yielded _ c.loop-field.yielded_by _ _ c.in-Some.field c.in-Some.is c.next.ensures.steps in
    (refl, has_other c.args.play c.args.line.now (length c.loop-field.yielded) c.in-Some.field.now t.0 t.1 (c.in_default.ensures.none))

pub loop-field-preserved : goal.loop-field-preserved
loop-field-preserved c =
    let t = YieldsList-turn (YieldsList-at c.into_iter-field-iterator.ensures.into_iter_gives
    (YieldsList-from_filter _ (λ (piece : List ℕ). not (eqb (length piece) 0))
    (YieldsList-at c.filter-field-items.ensures.source (YieldsList-from_slice_split _ is_white c.args.line.now c.split-pieces.ensures.rest c.split-pieces.ensures.done c.split-pieces.ensures.closure (λ x r q k. search (rules, tests))))
    c.filter-field-items.ensures.closure (λ x r q k. search (rules, tests))))
    c.loop-field.yielded _ c.loop-field.yielded_by _ _ c.in-Some.field c.in-Some.is c.next.ensures.steps in
    rw (length_push c.loop-field.yielded c.in-Some.field)
    (adds_field c.args.play (fields c.args.line.now) (length c.loop-field.yielded) c.args.moves.now.items c.loop-field.moves.items c.push.new.self.items c.in-Some-move_of.by c.in-Some.field.now t.0 t.1
    c.loop-field.invariant c.in-Some-move_of.ensures.some.0 c.in-Some-move_of.ensures.some.1 c.in_ok-push.ensures.items)

pub returns-clause-moves : goal.returns-clause-moves
returns-clause-moves c =
    let t = YieldsList-end (YieldsList-at c.into_iter-field-iterator.ensures.into_iter_gives
    (YieldsList-from_filter _ (λ (piece : List ℕ). not (eqb (length piece) 0))
    (YieldsList-at c.filter-field-items.ensures.source (YieldsList-from_slice_split _ is_white c.args.line.now c.split-pieces.ensures.rest c.split-pieces.ensures.done c.split-pieces.ensures.closure (λ x r q k. search (rules, tests))))
    c.filter-field-items.ensures.closure (λ x r q k. search (rules, tests))))
    c.loop-field.yielded _ c.loop-field.yielded_by _ _ c.in-None.is c.next.ensures.steps in
    adds_all c.args.play (fields c.args.line.now) (length c.loop-field.yielded) c.args.moves.now.items c.loop-field.moves.items t.1 c.loop-field.invariant
