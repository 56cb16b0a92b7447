use Rattle.std.proofs.Common.{inl, inr, sym, subst}
use Rattle.cw_rights.specs.Policies.{policy_of}
use Rattle.cw_syntax.specs.Trees.{file_of}
use Rattle.cw_source.specs.Read.{ReadsAs}
use Rattle.cw_source_graph.specs.Reading.{IsProgramFault}
use Rattle.cw_stages.proofs.Refusing.{descriptor_stops}
use Rattle.cw_stages.proofs.reading.read_under.Goals as goal

pub returns-in-Ok-clause-is : goal.returns-in-Ok-clause-is
returns-in-Ok-clause-is c = record {
  valid = c.requires.valid;
  reads = subst (λ s. ReadsAs s (file_of c.in-Ok.checked.program)) (sym c.in-Ok.ensures.source) c.in-Ok.ensures.program;
}

pub returns-in-Err-Source-clause-stop : goal.returns-in-Err-Source-clause-stop
returns-in-Err-Source-clause-stop c =
    let is = subst (IsProgramFault (policy_of c.args.policy.now) c.args.source.now) c.in-Err-Source.field-0-is c.in-Err-Source.ensures.fault in
    λ due d. inl (c.in-Err-Source.fault, is, d.0, d.1)

pub returns-in-Err-Descriptors-clause-stop : goal.returns-in-Err-Descriptors-clause-stop
returns-in-Err-Descriptors-clause-stop c =
    let source = c.args.source.now in
    let whole = policy_of c.args.policy.now in
    let is = subst (IsProgramFault whole source) c.in-Err-Descriptors.field-0-is c.in-Err-Descriptors.ensures.fault in
    λ due d. inr (descriptor_stops source whole is.0 c.in-Err-Descriptors.fault is.1 is.2 due d)
