use Rattle.std.proofs.Common.{◌∙◌}
use Rattle.cw_rights.specs.Policies.{policy_of}
use Rattle.cw_callgraph.proofs.Parted.{count, called, reached_by, least_is}
use Rattle.cw_callgraph.proofs.table.effects.Goals as goal

pub returns-clause-calls : goal.returns-clause-calls
returns-clause-calls c = λ f entry at. c.in_ok-effects_of.ensures.calls f entry at ∙ called c.args.checked.now (policy_of c.args.policy.now) c.in_ok-parts.parts c.in_ok-parts.ensures f

pub returns-clause-reaches : goal.returns-clause-reaches
returns-clause-reaches c = λ f entry at.
    reached_by c.args.checked.now (policy_of c.args.policy.now) c.in_ok-parts.parts c.in_ok-parts.ensures f entry.reaches.items (c.in_ok-effects_of.ensures.reaches f entry at).1

pub returns-clause-ascending : goal.returns-clause-ascending
returns-clause-ascending c = λ f entry at. (c.in_ok-effects_of.ensures.reaches f entry at).0

pub returns-clause-forbids : goal.returns-clause-forbids
returns-clause-forbids c = λ f entry at.
    least_is c.args.checked.now (policy_of c.args.policy.now) c.in_ok-parts.parts c.in_ok-parts.ensures f entry.reaches.items entry.forbids (c.in_ok-effects_of.ensures.reaches f entry at).1
    (c.in_ok-effects_of.ensures.forbids f entry at)

pub returns-clause-told : goal.returns-clause-told
returns-clause-told c = record {
  count = c.in_ok-effects_of.ensures.count ∙ count c.args.checked.now (policy_of c.args.policy.now) c.in_ok-parts.parts c.in_ok-parts.ensures;
  calls = returns-clause-calls c;
  ascending = returns-clause-ascending c;
  reaches = returns-clause-reaches c;
  forbids = returns-clause-forbids c;
}
