use Rattle.cw_woven.proofs.Apart.{no_fault, one_reading}
use Rattle.cw_woven.proofs.laws.one_answer.Goals as goal

pub returns-clause-one : goal.returns-clause-one
returns-clause-one c = λ policy text source source2 file file2 table table2 valid r s. one_reading policy valid text source file table r source2 file2 table2 s

pub returns-clause-apart : goal.returns-clause-apart
returns-clause-apart c = λ policy text source file table fault valid r ne h. no_fault policy valid text source file table r fault ne h
