use Rattle.std.proofs.Common.{◌≡◌, ℕ, List, ◌++◌, ap, sym, subst, ◌∙◌}
use Rattle.std.proofs.lemmas.List.{append_assoc}
use Rattle.std.specs.Prelude.{codes}
use Rattle.cw_rights.specs.Policies.{policy_of}
use Rattle.cw_scope.specs.declared.descriptors.DescriptorFault.{DescriptorFault}
use Rattle.cw_text.specs.LimitsText.{descriptor_name}
use Rattle.cw_stages.specs.Refusals.{descriptor_line}
use Rattle.cw_stages.proofs.refusals.put_descriptor_fault.Goals as goal

pub returns-in-NoVariable-clause-text : goal.returns-in-NoVariable-clause-text
returns-in-NoVariable-clause-text g c =
    let old = c.args.line.now.text in
    let policy = policy_of c.args.policy.now in
    let name = descriptor_name policy c.in-NoVariable.descriptor in
    let put = c.put-in-NoVariable in
    let both = (rw c.descriptor_name.ensures at put.ensures.text) ∙ ap (λ (t : List ℕ). t ++ name) c.put.ensures.text ∙ append_assoc old (codes "source: no variable ") name in
    subst (λ (fault : DescriptorFault). put.new.self.text ≡ old ++ descriptor_line c.args.source.now policy fault) (sym c.in-NoVariable.is) both

pub returns-in-Shadowed-clause-text : goal.returns-in-Shadowed-clause-text
returns-in-Shadowed-clause-text g c =
    let old = c.args.line.now.text in
    let policy = policy_of c.args.policy.now in
    let name = descriptor_name policy c.in-Shadowed.descriptor in
    let put = c.put-in-Shadowed-2 in
    let both = (rw c.descriptor_name-in-Shadowed.ensures at put.ensures.text) ∙ ap (λ (t : List ℕ). t ++ name) c.put-in-Shadowed.ensures.text ∙ append_assoc old (codes "source: shadowed ") name in
    subst (λ (fault : DescriptorFault). put.new.self.text ≡ old ++ descriptor_line c.args.source.now policy fault) (sym c.in-Shadowed.is) both
