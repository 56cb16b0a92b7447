use Rattle.cw_lex.proofs.Strings as texts
use Rattle.cw_lex.proofs.laws.laws_of_texts.Goals as goal

pub returns : goal.returns
returns c = record { characters = texts.characters; all_characters = texts.all_characters; strings = texts.strings }
