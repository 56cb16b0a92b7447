use Rattle.std.proofs.Common.{⊎_elim}
use Rattle.cw_lex.proofs.Listing.{never_both}
use Rattle.cw_detach.proofs.tokens.tokens_of.Goals as goal

pub unreachable-requires : goal.unreachable-requires
unreachable-requires c =
    let reads = c.requires.reads in
    ⊎_elim (λ e. c.in_default.not-NoMemory e) (λ is. never_both c.args.checked.now.source.now reads.tokens c.in-Err.fault reads.lexed is) c.in-Err.ensures.fault
