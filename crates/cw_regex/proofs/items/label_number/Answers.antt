use Rattle.std.proofs.Common.{sym, ap, ◌∙◌, unwrap_or}
use Rattle.cw_regex.proofs.Naming.{place_is}
use Rattle.cw_regex.proofs.items.label_number.Goals as goal

pub returns-in-None : goal.returns-in-None
returns-in-None c = sym (ap (λ o. unwrap_or o 0) c.in-None.is) ∙ place_is c.args.labels.now.keys c.args.identifier.now c.get_index_of.result c.get_index_of.ensures.index

pub returns-in-Some : goal.returns-in-Some
returns-in-Some c = sym (ap (λ o. unwrap_or o 0) c.in-Some.is) ∙ place_is c.args.labels.now.keys c.args.identifier.now c.get_index_of.result c.get_index_of.ensures.index
