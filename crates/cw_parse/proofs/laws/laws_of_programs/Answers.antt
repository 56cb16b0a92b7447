use Rattle.cw_grammar.specs.Spelling.{lexemes_of}
use Rattle.cw_parse.proofs.FilesComplete as whole
use Rattle.cw_parse.proofs.OneAnswer.{one_fault, never_both}
use Rattle.cw_parse.proofs.laws.laws_of_programs.Goals as goal

pub returns : goal.returns
returns c = record {
  one_program = λ source tokens file other. whole.one_program (lexemes_of source tokens) file other;
  one_fault = λ source tokens. one_fault (lexemes_of source tokens) source;
  never_both = λ source tokens. never_both (lexemes_of source tokens) source;
}
