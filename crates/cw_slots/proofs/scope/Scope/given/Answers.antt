use Rattle.std.proofs.Common.{sym, ap, ◌∙◌, arith}
use Rattle.std.specs.Str.{bytes_eq}
use Rattle.cw_slots.proofs.Found.{found_one, found_more, found_none}
use Rattle.cw_slots.proofs.scope.Scope.given.Goals as goal

pub returns-then-eq : goal.returns-then-eq
returns-then-eq c = record {
  value =
      let x = c.given-item.result in
      c.value_of.ensures ∙ found_one c.args.name.now c.args.self.now.given.now c.loop-given.given-index x c.loop-given-test.true c.given-item.is
      (sym (c.eq.ensures ∙ ap (bytes_eq c.args.name.now) c.name_of.ensures) ∙ c.if-eq.true) c.loop-given.invariant;
}

pub loop-given-preserved : goal.loop-given-preserved
loop-given-preserved c =
    found_more c.args.name.now c.args.self.now.given.now c.loop-given.given-index c.given-item.result c.loop-given-test.true c.given-item.is
    (sym (c.eq.ensures ∙ ap (bytes_eq c.args.name.now) c.name_of.ensures) ∙ c.if-eq.false) c.loop-given.invariant

pub returns : goal.returns
returns c = record { value = found_none c.args.name.now c.args.self.now.given.now c.loop-given.given-index (omega arith) c.loop-given.invariant }
