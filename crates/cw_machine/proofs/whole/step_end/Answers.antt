use Rattle.std.proofs.Common.{◌≡◌, ◌∷◌, List, map, refl, sym, ap, ◌∙◌, subst}
use Rattle.cw_syntax.specs.Frames.{On}
use Rattle.cw_value.specs.Machines.{Step, goes}
use Rattle.cw_starts.specs.Sources.{source_in}
use Rattle.cw_machine.specs.declared.machine.Wait.{Wait}
use Rattle.cw_machine.specs.Shown.{Goes, Waits, locals_of, machine_of, top_of}
use Rattle.cw_machine.proofs.Rowed.{at_back, at_last, none_in}
use Rattle.cw_machine.proofs.whole.step_end.Goals as goal

pub returns-in-None-clause-goes : goal.returns-in-None-clause-goes
returns-in-None-clause-goes c = λ i frames is h.
    let s = source_in c.args.known.now.source in
    let old = c.args.m.now in
    let none = none_in old.waits.items (c.in-None.ensures.items ∙ c.in-None.ensures.rest) in
    sym (at_last s i frames (machine_of old) is (subst (λ (ws : List Wait). Waits frames ws) none h))
    ∙ ap (λ (ws : List Wait). goes On (record (machine_of old) { frames = top_of old ∷ map locals_of ws })) c.in-None.ensures.items

pub returns-in-Some-clause-goes : goal.returns-in-Some-clause-goes
returns-in-Some-clause-goes c = λ i frames is h.
    let s = source_in c.args.known.now.source in
    let old = c.args.m.now in
    let w = c.in-Some.wait in
    let later = c.pop_front.new.self.items in
    let items = c.in-Some.ensures.items in
    let shown : machine_of old ≡ record (machine_of old) { frames = top_of old ∷ (locals_of w ∷ map locals_of later) } =
    ap (λ (ws : List Wait). record (machine_of old) { frames = top_of old ∷ map locals_of ws }) items
    in
    subst (λ (st : Step). Goes c.step_back.result (machine_of c.step_back.new.m) st)
    (at_back s i frames w later (machine_of old) (machine_of old) (top_of old) is (subst (λ (ws : List Wait). Waits frames ws) items h) refl shown) c.step_back.ensures.goes
