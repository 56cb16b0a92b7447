use Rattle.cw_lex.proofs.Listing as listing
use Rattle.cw_lex.proofs.laws.laws_of_sources.Goals as goal

pub returns : goal.returns
returns c = record { one_list = listing.one_list; one_fault = listing.one_fault; never_both = listing.never_both }
