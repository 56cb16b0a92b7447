-- The lines of the head, the rows, and the end.
use Rattle.std.proofs.Common.{ℕ, List, eqb, length, sym, ap, ◌∙◌, refl}
use Rattle.std.proofs.lemmas.Bool.{false≢true}
use Rattle.cw_rights.specs.Policies.{policy_of}
use Rattle.cw_table_text.specs.Working.{table_of}
use Rattle.cw_table_text.proofs.Adding.{is_nil_then}
use Rattle.cw_table_text.proofs.Faults.{rows_fault, behind_fault, reads_table}
use Rattle.cw_table_text.proofs.reading.read_tables.Goals as goal

pub returns-in-Err : goal.returns-in-Err
returns-in-Err c = rows_fault (policy_of c.args.policy.now) c.args.text.now c.in_ok-draft.rest.now (table_of c.in_ok-draft.draft) (table_of c.read_rows.new.draft) c.in-Err.fault
    c.in_ok-draft.ensures.0 c.in_ok-draft.ensures.2 c.in-Err.ensures

pub returns-then-not-is_empty : goal.returns-then-not-is_empty
returns-then-not-is_empty c = behind_fault (policy_of c.args.policy.now) c.args.text.now c.in_ok-draft.rest.now c.in-Ok.read.1.now (table_of c.in_ok-draft.draft)
    (table_of c.read_rows.new.draft) c.in-Ok.read.0 _ c.in_ok-draft.ensures.0 c.in_ok-draft.ensures.2 c.in-Ok.ensures
    (λ e. false≢true (sym c.if-not-is_empty.true ∙ c.is_empty.ensures ∙ ap (λ (x : List ℕ). eqb (length x) 0) e)) refl

pub returns : goal.returns
returns c = rw c.finish.ensures (reads_table (policy_of c.args.policy.now) c.args.text.now c.in_ok-draft.rest.now c.in-Ok.read.1.now (table_of c.in_ok-draft.draft)
    (table_of c.read_rows.new.draft) c.in-Ok.read.0 c.in_ok-draft.ensures.0 c.in_ok-draft.ensures.2 c.in-Ok.ensures
    (is_nil_then c.in-Ok.read.1.now (sym c.is_empty.ensures ∙ c.if-not-is_empty.false)))
