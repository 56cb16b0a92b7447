-- The first of three lines that is at fault.
use Rattle.std.proofs.Common.{◌++◌, ap, sym, ◌∙◌}
use Rattle.cw_rights.specs.Policies.{policy_of}
use Rattle.cw_table_text.specs.Working.{table_of}
use Rattle.cw_table_text.proofs.Faults.{fault_1, fault_2, fault_3_missing, fault_3_misspelled, head_is}
use Rattle.cw_table_text.proofs.HeadLines.{head_read}
use Rattle.cw_table_text.proofs.head.read_head.Goals as goal

pub returns-in_default : goal.returns-in_default
returns-in_default c = fault_1 (policy_of c.args.policy.now) c.args.text.now c.in_default.ensures.none

pub returns-in_default-behind : goal.returns-in_default-behind
returns-in_default-behind c = fault_2 (policy_of c.args.policy.now) c.args.text.now c.in-Some.rest.now c.in-Some.ensures.some
    (λ more e. c.in_default-behind.ensures.none more (e ∙ ap (λ x. x ++ more) (sym (c.bytes.ensures ∙ c.in_ok-limits.ensures))))

pub returns-in_default-next_line : goal.returns-in_default-next_line
returns-in_default-next_line c = fault_3_missing (policy_of c.args.policy.now) c.args.text.now c.in-Some.rest.now c.in-Some-behind.rest.now c.in-Some.ensures.some
    (c.in-Some-behind.ensures.some ∙ ap (λ x. x ++ c.in-Some-behind.rest.now) (c.bytes.ensures ∙ c.in_ok-limits.ensures)) c.in_default-next_line.ensures.none

pub returns-in_default-read_table_line : goal.returns-in_default-read_table_line
returns-in_default-read_table_line c = fault_3_misspelled (policy_of c.args.policy.now) c.args.text.now c.in-Some.rest.now c.in-Some-behind.rest.now c.in-Some-next_line.line.now
    c.in-Some-next_line.rest.now c.in-Some.ensures.some (c.in-Some-behind.ensures.some ∙ ap (λ x. x ++ c.in-Some-behind.rest.now) (c.bytes.ensures ∙ c.in_ok-limits.ensures))
    c.in-Some-next_line.ensures.parts c.in-Some-next_line.ensures.first c.in_default-read_table_line.ensures.none

pub returns : goal.returns
returns c = head_read (policy_of c.args.policy.now) c.args.text.now c.in-Some-next_line.rest.now (table_of c.without_rows.result) _ _ c.without_rows.ensures.states
    c.without_rows.ensures.start c.in-Some-read_table_line.ensures.some.0 c.without_rows.ensures.empty
    (head_is (policy_of c.args.policy.now) c.args.text.now c.in-Some.rest.now c.in-Some-behind.rest.now c.in-Some-next_line.line.now c.in-Some-next_line.rest.now _ _
    c.in-Some.ensures.some (c.in-Some-behind.ensures.some ∙ ap (λ x. x ++ c.in-Some-behind.rest.now) (c.bytes.ensures ∙ c.in_ok-limits.ensures)) c.in-Some-next_line.ensures.parts
    c.in-Some-read_table_line.ensures.some.1)
