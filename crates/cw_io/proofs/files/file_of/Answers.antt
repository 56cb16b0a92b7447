use Rattle.std.proofs.Common.{sym, ◌∙◌}
use Rattle.cw_io.proofs.Indices.{index_listed, content_at, content_none}
use Rattle.cw_io.proofs.files.file_of.Goals as goal

pub returns-in_err-index-clause-index : goal.returns-in_err-index-clause-index
returns-in_err-index-clause-index c = rw c.from_residual.ensures (c.in_err-index.ensures ∙ index_listed c.args.files.now c.args.name.now)

pub returns-in_err-index-clause-bytes : goal.returns-in_err-index-clause-bytes
returns-in_err-index-clause-bytes c =
    let none = sym (c.in_err-index.ensures ∙ index_listed c.args.files.now c.args.name.now) in
    rw c.from_residual.ensures (sym (content_none c.args.files.now c.args.name.now none))

pub returns-clause-index : goal.returns-clause-index
returns-clause-index c = c.in_ok-index.ensures ∙ index_listed c.args.files.now c.args.name.now

pub returns-clause-bytes : goal.returns-clause-bytes
returns-clause-bytes c =
    let index = sym (c.in_ok-index.ensures ∙ index_listed c.args.files.now c.args.name.now) in
    let found = content_at c.args.files.now c.args.name.now c.in_ok-index.index c.index-files-index.result index in
    rw c.as_slice.ensures.value (sym found)
