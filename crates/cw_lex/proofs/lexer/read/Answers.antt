use Rattle.std.proofs.Common.{sym, inr, arith}
use Rattle.cw_lex.specs.Fresh.{fresh_from}
use Rattle.cw_lex.proofs.Made.{nothing_made, gap_made, token_is, token_made, all_made}
use Rattle.cw_lex.proofs.Standing.{at_defect, is_fault}
use Rattle.cw_lex.proofs.lexer.read.Goals as goal

pub fronts-init : goal.fronts-init
fronts-init g c = record {
  reached = rw c.in_ok-tokens.ensures.items (nothing_made (g.T.OfToken.made c.args.source.now) c.args.source.now);
  in_order = omega arith;
  within = omega arith;
  many = omega (arith, c.in_ok-tokens.ensures.len);
  room = omega (arith, c.in_ok-tokens.ensures.capacity);
}

pub fronts-preserved-in-Gap : goal.fronts-preserved-in-Gap
fronts-preserved-in-Gap g c = record {
  reached = gap_made (g.T.OfToken.made c.args.source.now) c.args.source.now c.fronts.last c.fronts.at c.fronts.tokens.items c.in-Gap.n c.fronts.invariant.reached
      (sym c.in-Gap.ensures.value) c.in-Gap.ensures.within.0 c.fronts.invariant.in_order;
  in_order = let h = c.fronts.invariant.in_order in omega arith;
  within = let p = c.in-Gap.ensures.within.1 in omega arith;
  many = omega arith;
  room = c.fronts.invariant.room;
}

pub of-requires : goal.of-requires
of-requires g c = record {
  token = token_is c.args.source.now c.fronts.at (fresh_from c.fronts.last c.fronts.at c.args.source.now) c.in-Token.kind c.in-Token.n (sym c.in-Token.ensures.value)
      c.in-Token.ensures.within.0 c.in-Token.ensures.within.1 c.fronts-test.true;
}

pub push_reserved-requires : goal.push_reserved-requires
push_reserved-requires g c = omega (arith, c.fronts.invariant.many, c.fronts.invariant.room, c.fronts-test.true)

pub fronts-preserved : goal.fronts-preserved
fronts-preserved g c = record {
  reached = rw (c.push_reserved.ensures.items, c.of.ensures) (token_made (g.T.OfToken.made c.args.source.now) c.args.source.now c.fronts.last c.fronts.at c.fronts.tokens.items
      c.in-Token.kind c.in-Token.n c.fronts.invariant.reached (sym c.in-Token.ensures.value) c.in-Token.ensures.within.0);
  in_order = omega arith;
  within = let p = c.in-Token.ensures.within.1 in omega arith;
  many = let p = c.in-Token.ensures.within.0 in omega (arith, c.push_reserved.ensures.len);
  room = omega (arith, c.push_reserved.ensures.capacity, c.fronts.invariant.room);
}

pub returns-in-Fault-clause-fault : goal.returns-in-Fault-clause-fault
returns-in-Fault-clause-fault g c =
    let h = c.fronts.invariant.reached in
    rw c.fault_at.ensures (inr (is_fault c.args.source.now c.in-Fault.defect c.fronts.at c.requires.unmarked
    (at_defect c.args.source.now c.fronts.at (fresh_from c.fronts.last c.fronts.at c.args.source.now) h.0 c.in-Fault.defect h.1 (sym c.in-Fault.ensures.value))))

pub returns-clause-tokens : goal.returns-clause-tokens
returns-clause-tokens g c =
    all_made (g.T.OfToken.made c.args.source.now) c.args.source.now c.fronts.at (fresh_from c.fronts.last c.fronts.at c.args.source.now) c.fronts.tokens.items
    c.fronts.invariant.reached c.fronts-test.false c.requires.unmarked
