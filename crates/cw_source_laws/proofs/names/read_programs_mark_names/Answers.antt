use Rattle.cw_source_laws.proofs.Marked.{marks_named, plain_marks}
use Rattle.cw_source_laws.proofs.Assigning.{read_programs_assign}
use Rattle.cw_source_laws.proofs.names.read_programs_mark_names.Goals as goal

pub returns-clause-assigned : goal.returns-clause-assigned
returns-clause-assigned c = read_programs_assign

pub returns-clause-named : goal.returns-clause-named
returns-clause-named c = marks_named

pub returns-clause-plain : goal.returns-clause-plain
returns-clause-plain c = plain_marks
