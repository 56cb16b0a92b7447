use Rattle.cw_syntax.specs.Trees.{File, file_of}
use Rattle.cw_grammar.specs.Files.{IsProgram}
use Rattle.cw_parse.specs.StatementReading.{file}
use Rattle.cw_parse.proofs.Given.{gives_found, gives_none}
use Rattle.cw_parse.proofs.FilesSound.{file_sound}
use Rattle.cw_parse.proofs.FilesComplete.{program_is_read}
use Rattle.cw_parse.proofs.files.read_file.Goals as goal

pub returns-clause-found : goal.returns-clause-found
unfolding IsProgram
returns-clause-found c = gives_found file_of c.file_at.result (file c.args.lexemes.now) c.file_at.ensures (λ (f : File). IsProgram c.args.lexemes.now f) (file_sound c.args.lexemes.now)

pub returns-clause-none : goal.returns-clause-none
returns-clause-none c = gives_none file_of c.file_at.result (file c.args.lexemes.now) c.file_at.ensures (λ (f : File). IsProgram c.args.lexemes.now f) (program_is_read c.args.lexemes.now)
