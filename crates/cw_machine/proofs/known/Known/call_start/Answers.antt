use Rattle.std.proofs.Common.{◌∙◌, sym, ap, List, Option, arith}
use Rattle.std.specs.Prelude.{option_map}
use Rattle.std.specs.Borrow.{Bor}
use Rattle.cw_syntax.specs.declared.program.Stmt.{Stmt}
use Rattle.cw_syntax.specs.Trees.{Definition, Statement}
use Rattle.cw_value.specs.Deeds.{form_of, said_all}
use Rattle.cw_value.specs.Machines.{call_from, form_in}
use Rattle.cw_deeds.specs.Forms.{form_in as form_among}
use Rattle.cw_starts.specs.Sources.{source_in}
use Rattle.cw_machine.specs.Knowing.{said_in}
use Rattle.cw_machine.proofs.Kept.{at_known, past_known}
use Rattle.cw_machine.proofs.known.Known.call_start.Goals as goal

pub returns-then-number-self : goal.returns-then-number-self
returns-then-number-self c =
    let k = c.args.self.now in
    let none = past_known said_in (λ (f : Definition). said_all f.body) k.said.now (source_in k.source).file.functions c.args.number c.requires.known.said (omega arith) in
    record { start = sym (ap (λ (o : Option Definition). call_from c.args.at (form_in o c.args.at)) none) }

pub returns : goal.returns
returns c =
    let k = c.args.self.now in
    let f = at_known said_in (λ (f : Definition). said_all f.body) k.said.now (source_in k.source).file.functions c.args.number c.index-self-number.result c.requires.known.said
    (omega arith) c.index-self-number.is in
    record {
      start =
          c.call_start.ensures.start
          ∙ ap (λ o. call_from c.args.at (option_map form_of o)) c.behind.ensures.found
          ∙ ap (λ (v : List (Bor Stmt)). (λ (l : List Statement). call_from c.args.at (form_among l c.args.at)) (said_in v)) (sym c.index-self-number.is)
          ∙ ap (λ (l : List Statement). call_from c.args.at (form_among l c.args.at)) f.2
          ∙ sym (ap (λ (o : Option Definition). call_from c.args.at (form_in o c.args.at)) f.1);
    }
