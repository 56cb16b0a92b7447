use Rattle.std.proofs.Common.{ℕ, ◌<◌, ◌^◌, ◌∙◌, Some, cond, refl, sym, ap, arith, length}
use Rattle.std.specs.Prelude.{nat_eq, slice_get}
use Rattle.cw_audit_store.specs.declared.store.Store.{Store}
use Rattle.cw_audit_store.specs.Stores.{row_key_eq}
use Rattle.cw_audit_store.proofs.Orders.{equal_row_keys}
use Rattle.cw_audit_store.proofs.Placed.{set_at}
use Rattle.cw_audit_store.proofs.Work.{row_lowered}
use Rattle.cw_audit_store.proofs.store.Store.put_row.Goals as goal

pub returns-clause-numbers : goal.returns-clause-numbers
returns-clause-numbers c = λ n.
    let old = c.args.self.now.rows.entries in
    ap (λ es. slice_get es n) c.in_ok-number.ensures.entries
    ∙ set_at row_key_eq c.args.row_key c.args.row (λ q e. sym (equal_row_keys c.args.row_key q e)) old n
    ∙ ap (λ (i : ℕ). cond (nat_eq n i) (Some (c.args.row_key, c.args.row)) (slice_get old n)) (sym c.in_ok-number.ensures.index)

pub returns-clause-less : goal.returns-clause-less
returns-clause-less c =
    let s = c.args.self.now in
    let few_rows : length s.rows.entries < 2 ^ 63 = omega (arith, c.len.ensures.small, c.len.ensures.len) in
    let few_groups : length s.groups.entries < 2 ^ 63 = omega (arith, c.len-2.ensures.small, c.len-2.ensures.len) in
    let t : Store = record { rows = c.insert_full.new.self; groups = s.groups; hit = s.hit } in
    row_lowered s t c.args.row_key c.args.row refl refl c.in_ok-number.ensures.entries few_rows few_groups c.requires
