use Rattle.cw_positions.proofs.Opening.{programs_open_variables}
use Rattle.cw_source_laws.proofs.Opening.{read_programs_assign}
use Rattle.cw_source_laws.proofs.opens.read_programs_open_variables.Goals as goal

pub returns-clause-names : goal.returns-clause-names
returns-clause-names c = read_programs_assign

pub returns-clause-variables : goal.returns-clause-variables
returns-clause-variables c = λ policy source file graph valid reads drawn. programs_open_variables policy source file graph valid drawn
    (read_programs_assign source file reads)
