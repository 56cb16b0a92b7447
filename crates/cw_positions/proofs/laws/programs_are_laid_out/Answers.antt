use Rattle.cw_positions.proofs.LaidOut.{laid_out, has_routines}
use Rattle.cw_positions.proofs.laws.programs_are_laid_out.Goals as goal

pub returns-clause-laid_out : goal.returns-clause-laid_out
returns-clause-laid_out c = λ policy source file g game i runs o. laid_out policy source file g game i runs o

pub returns-clause-routines : goal.returns-clause-routines
returns-clause-routines c = λ policy source file g game i runs o. has_routines policy source file g game i runs o
