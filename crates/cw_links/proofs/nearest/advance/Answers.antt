use Rattle.std.proofs.Common.{◌≡◌, ◌<◌, length, refl, arith}
use Rattle.std.specs.Prelude.{vec_len}
use Rattle.cw_links.proofs.Nearing.{advanced, none_there, some_there}
use Rattle.cw_links.proofs.nearest.advance.Goals as goal

pub returns-then-not-is_empty : goal.returns-then-not-is_empty
returns-then-not-is_empty c =
    let n = c.args.near.now in
    let some : 0 < length n.present.items = some_there (length n.present.items) (vec_len n.present) c.is_empty.result n.present.ok.0 c.is_empty.ensures c.if-not-is_empty.true in
    record { same = λ later key. refl; kept = λ later are. are; none = λ e. absurd (omega (arith, e, some)) }

pub returns-then-is_empty : goal.returns-then-is_empty
returns-then-is_empty c =
    let n = c.args.near.now in
    let none : length n.soon.items ≡ 0 = none_there (length n.soon.items) (vec_len n.soon) c.is_empty-2.result n.soon.ok.0 c.is_empty-2.ensures c.if-is_empty.true in
    record { same = λ later key. refl; kept = λ later are. are; none = λ _. (none, refl) }

pub returns : goal.returns
returns c =
    let n = c.args.near.now in
    let none : length n.present.items ≡ 0 = none_there (length n.present.items) (vec_len n.present) c.is_empty.result n.present.ok.0 c.is_empty.ensures c.if-not-is_empty.false in
    let some : 0 < length n.soon.items = some_there (length n.soon.items) (vec_len n.soon) c.is_empty-2.result n.soon.ok.0 c.is_empty-2.ensures c.if-is_empty.false in
    rw (c.swap.ensures.x_after, c.swap.ensures.y_after) (record {
      same = λ later key. advanced n.present.items n.present_key n.soon.items n.soon_key later key none;
      kept = λ later are. record {
        some = λ _. let lt = are.behind some in omega (arith, lt);
        behind = λ lt. absurd (omega (arith, lt, none));
        above = are.above;
      };
      none = λ e. absurd (omega (arith, e, some));
    })
