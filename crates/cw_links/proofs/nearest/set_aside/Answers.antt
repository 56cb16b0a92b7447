use Rattle.std.proofs.Common.{◌∙◌, refl, arith}
use Rattle.cw_links.proofs.Nearing.{now_aside, soon_aside, all_aside}
use Rattle.cw_links.proofs.nearest.set_aside.Goals as goal

pub returns-in_err-move_aside-clause-kept : goal.returns-in_err-move_aside-clause-kept
returns-in_err-move_aside-clause-kept c =
    let m = c.move_aside.ensures in
    record {
      some = λ lt. c.requires.some (omega (arith, lt, m.fewer));
      behind = c.requires.behind;
      above = λ k lt.
          m.others k (λ e. omega (arith, e, lt, c.min-near.ensures, c.min-near-2.ensures)) ∙ c.requires.above k (omega (arith, lt, c.min-near.ensures, c.min-near-2.ensures));
    }

pub returns-in_err-move_aside-clause-same : goal.returns-in_err-move_aside-clause-same
returns-in_err-move_aside-clause-same c =
    let n = c.args.near.now in
    let m = c.move_aside.ensures in
    now_aside n.present.items c.move_aside.new.elements.items n.present_key n.soon.items n.soon_key c.args.later.now c.move_aside.new.later m.here m.others

pub returns-in_err-move_aside-2-clause-kept : goal.returns-in_err-move_aside-2-clause-kept
returns-in_err-move_aside-2-clause-kept c =
    let m = c.move_aside.ensures in
    let m2 = c.move_aside-2.ensures in
    record {
      some = λ lt. c.requires.some (omega (arith, lt, m.fewer));
      behind = λ lt. c.requires.behind (omega (arith, lt, m2.fewer));
      above = λ k lt.
          m2.others k (λ e. omega (arith, e, lt, c.min-near.ensures, c.min-near-2.ensures)) ∙ m.others k (λ e. omega (arith, e, lt, c.min-near.ensures, c.min-near-2.ensures))
          ∙ c.requires.above k (omega (arith, lt, c.min-near.ensures, c.min-near-2.ensures));
    }

pub returns-in_err-move_aside-2-clause-same : goal.returns-in_err-move_aside-2-clause-same
returns-in_err-move_aside-2-clause-same c =
    let n = c.args.near.now in
    let m = c.move_aside.ensures in
    let m2 = c.move_aside-2.ensures in
    soon_aside n.present.items c.move_aside.new.elements.items n.present_key n.soon.items n.soon_key c.args.later.now c.move_aside.new.later m.here m.others
    c.in_ok-move_aside.ensures.none c.move_aside-2.new.elements.items c.move_aside-2.new.later m2.here m2.others

pub returns-clause-kept : goal.returns-clause-kept
returns-clause-kept c =
    let m = c.move_aside.ensures in
    let m2 = c.move_aside-2.ensures in
    record {
      some = λ lt. absurd (omega (arith, lt, c.in_ok-move_aside.ensures.none));
      behind = λ lt. absurd (omega (arith, lt, c.in_ok-move_aside-2.ensures.none));
      above = λ k lt.
          m2.others k (λ e. omega (arith, e, lt, c.min-near.ensures, c.min-near-2.ensures)) ∙ m.others k (λ e. omega (arith, e, lt, c.min-near.ensures, c.min-near-2.ensures))
          ∙ c.requires.above k (omega (arith, lt, c.min-near.ensures, c.min-near-2.ensures));
    }

pub returns-clause-same : goal.returns-clause-same
returns-clause-same c =
    let n = c.args.near.now in
    let m = c.move_aside.ensures in
    let m2 = c.move_aside-2.ensures in
    all_aside n.present.items c.move_aside.new.elements.items n.present_key n.soon.items n.soon_key c.args.later.now c.move_aside.new.later m.here m.others
    c.in_ok-move_aside.ensures.none c.move_aside-2.new.elements.items c.move_aside-2.new.later m2.here m2.others 0

pub returns-clause-aside : goal.returns-clause-aside
returns-clause-aside c = record { now = c.in_ok-move_aside.ensures.none; soon = c.in_ok-move_aside-2.ensures.none; least = refl }
