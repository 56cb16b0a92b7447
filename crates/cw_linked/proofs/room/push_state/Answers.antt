use Rattle.std.proofs.Common.{◌≡◌, ◌+◌, ◌-◌, ℕ, subst, arith, inl, inr}
use Rattle.cw_product.specs.Product.{game_of}
use Rattle.cw_linked.specs.Added.{ArePushed}
use Rattle.cw_linked.proofs.Lengthening.{none_pushed, more_pushed, all_pushed, all_flagged}
use Rattle.cw_linked.proofs.Spanning.{outside, passed_pushed}
use Rattle.cw_linked.proofs.room.push_state.Goals as goal

pub loop-p-init : goal.loop-p-init
loop-p-init c =
    let g = game_of c.args.game.now in
    let f = c.args.function in
    let old = c.args.store.now in
    let span = c.args.spans.now.calls in
    let calls = c.requires.spans.calls in
    let passed = passed_pushed g old old f c.args.state.0 (g.entry f) span.first 0 (none_pushed g old f c.args.state.0) calls.first
    (λ r call ge lt. outside g f span calls r call (ge, omega (arith, lt, calls.order, calls.end)) (inl lt)) in
    let plain : 0 + (span.first - g.entry f) ≡ span.first - c.entry.result.0 = omega (arith, c.entry.ensures.is, calls.first) in
    subst (λ (n : ℕ). ArePushed g old old f c.args.state.0 span.first n) plain passed

pub push_next-requires : goal.push_next-requires
push_next-requires c =
    let inv = c.loop-p.invariant in
    let calls = c.requires.spans.calls in
    record {
      position = omega (arith, c.requires.there.ends, calls.end, c.loop-p-test.true);
      state = c.requires.state;
      few = omega (arith, inv.indices.long, inv.ahead, c.requires.few, c.loop-p-test.true, calls.end);
    }

pub loop-p-preserved : goal.loop-p-preserved
loop-p-preserved c =
    more_pushed (game_of c.args.game.now) c.args.store.now c.loop-p.store c.push_next.new.store c.args.function c.args.state.0 c.loop-p.p c.loop-p.plain c.in_ok-plain.plain
    c.loop-p.invariant c.in_ok-plain.ensures

pub push_plain-requires : goal.push_plain-requires
push_plain-requires c =
    let inv = c.loop-p.invariant in
    let calls = c.requires.spans.calls in
    record { few = omega (arith, inv.indices.long, inv.ahead, c.requires.few, c.loop-p.auto.p-end, c.exit.ensures.is, calls.order, calls.end) }

pub returns : goal.returns
returns c =
    let g = game_of c.args.game.now in
    let f = c.args.function in
    let x = c.args.state.0 in
    let old = c.args.store.now in
    let mid = c.loop-p.store in
    let new = c.push_plain.new.self in
    let span = c.args.spans.now.calls in
    let calls = c.requires.spans.calls in
    let end : c.loop-p.p ≡ span.end = omega (arith, c.loop-p-test.false, c.loop-p.auto.p-end, calls.order) in
    let at = subst (λ (p : ℕ). ArePushed g old mid f x p c.loop-p.plain) end c.loop-p.invariant in
    let passed = passed_pushed g old mid f x span.end (g.exit f + 1) c.loop-p.plain at calls.end
    (λ r call ge lt. outside g f span calls r call (omega (arith, ge, calls.first, calls.order), omega (arith, lt)) (inr ge)) in
    let behind : g.exit f + 1 - span.end ≡ c.exit.result.0 + 1 - span.end = omega (arith, c.exit.ensures.is) in
    let are = subst (λ (n : ℕ). ArePushed g old mid f x (g.exit f + 1) (c.loop-p.plain + n)) behind passed in
    record {
      indices = all_pushed g old mid new f x (c.loop-p.plain + (c.exit.result.0 + 1 - span.end)) c.args.rest are c.in_ok-push_plain.ensures.pushed;
      flagged = all_flagged g old mid new f x (c.loop-p.plain + (c.exit.result.0 + 1 - span.end)) c.args.rest are c.in_ok-push_plain.ensures.pushed;
    }
