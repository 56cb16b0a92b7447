use Rattle.cw_recogniser.proofs.Verdicts.{says_text, says_no_text, says_front, says_first}
use Rattle.cw_recogniser.proofs.recogniser.recognise.Goals as goal

pub returns-clause-text : goal.returns-clause-text
returns-clause-text c = says_text c.args.lexemes.now c.fault_of.result c.fault_of.ensures

pub returns-clause-no_text : goal.returns-clause-no_text
returns-clause-no_text c = says_no_text c.args.lexemes.now c.fault_of.result c.fault_of.ensures

pub returns-clause-front : goal.returns-clause-front
returns-clause-front c = says_front c.args.lexemes.now c.fault_of.result c.fault_of.ensures

pub returns-clause-first : goal.returns-clause-first
returns-clause-first c = says_first c.args.lexemes.now c.fault_of.result c.fault_of.ensures
