use Rattle.std.proofs.Common.{◌≤◌, [], length, map, drop, refl, sym, subst, List, append-nil, arith}
use Rattle.std.proofs.lemmas.Grind.{common_steps}
use Rattle.std.proofs.lemmas.List.{drop_all}
use Rattle.cw_rights.specs.Policies.{rule_of, PlainRule}
use Rattle.cw_regex.specs.Labels.{names_in}
use Rattle.cw_regex.specs.Meaning.{names_of}
use Rattle.cw_policy.specs.Rules.{HaveRules, FirstRefused}
use Rattle.cw_policy.specs.Sources.{text_of}
use Rattle.cw_policy.specs.declared.sources.Source.{Source}
use Rattle.cw_policy.proofs.Reading.{or_more, refused_at}
use Rattle.cw_policy.proofs.rules.read_rules.Goals as goal

pub returns-in-Err-clause-fault : goal.returns-in-Err-clause-fault
returns-in-Err-clause-fault c =
    let d = names_of c.args.descriptors.now in
    let xs = c.args.sources.now in
    let here = refused_at c.args.format d (names_in c.sources.labels.keys) xs c.sources.source-index _ c.in-Err.fault c.sources-test.true c.in-Err.ensures.fault in
    or_more (FirstRefused c.args.format d (names_in c.sources.labels.keys) (map text_of (drop c.sources.source-index xs)))
    (FirstRefused c.args.format d (names_in c.args.labels.now.keys) (map text_of xs)) c.in-Err.fault c.sources.invariant.1 here

pub returns-clause-rules : goal.returns-clause-rules
returns-clause-rules c =
    let d = names_of c.args.descriptors.now in
    let l = names_in c.sources.labels.keys in
    let far : length c.args.sources.now ≤ c.sources.source-index = grind (arith, common_steps) in
    let done = drop_all c.sources.source-index c.args.sources.now far in
    let end : HaveRules c.args.format d l (map text_of (drop c.sources.source-index c.args.sources.now)) [] l =
    subst (λ (ss : List Source). HaveRules c.args.format d l (map text_of ss) [] l) (sym done) (refl, refl) in
    subst (λ (rs : List PlainRule). HaveRules c.args.format d (names_in c.args.labels.now.keys) (map text_of c.args.sources.now) rs l)
    (append-nil (map rule_of c.sources.rules.items)) (c.sources.invariant.0 [] l end)
