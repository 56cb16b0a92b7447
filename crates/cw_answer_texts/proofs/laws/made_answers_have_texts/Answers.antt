use Rattle.cw_answer_texts.proofs.Stated.{strategies_have_texts}
use Rattle.cw_answer_texts.proofs.Tabled.{tables_have_texts}
use Rattle.cw_answer_texts.proofs.laws.made_answers_have_texts.Goals as goal

pub returns-clause-tables : goal.returns-clause-tables
returns-clause-tables c = tables_have_texts

pub returns-clause-strategies : goal.returns-clause-strategies
returns-clause-strategies c = strategies_have_texts
