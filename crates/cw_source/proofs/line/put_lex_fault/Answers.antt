use Rattle.std.proofs.Common.{◌≡◌, ◌++◌, sym, subst}
use Rattle.cw_lex.specs.declared.lexer.LexFault.{LexFault}
use Rattle.cw_source.specs.Lines.{lex_line}
use Rattle.cw_source.proofs.line.put_lex_fault.Goals as goal

pub returns-in-OpenString-clause-text : goal.returns-in-OpenString-clause-text
returns-in-OpenString-clause-text g c =
    let put = c.put_place_line-in-OpenString in
    subst (λ (fault : LexFault). put.new.line.text ≡ c.args.line.now.text ++ lex_line c.args.source.now fault) (sym c.in-OpenString.is) put.ensures.text
