use Rattle.cw_detach.proofs.Absent.{none_taken}
use Rattle.cw_detach.proofs.tokens.taken.Goals as goal

pub returns-then-not-has_name : goal.returns-then-not-has_name
returns-then-not-has_name c =
    let reads = c.requires.reads in
    (reads.tokens, reads.lexed, none_taken c.args.checked.now.source.now reads.tokens (c.has_name.ensures c.if-not-has_name.true))
