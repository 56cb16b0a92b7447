use Rattle.std.proofs.Common.{◌&&◌, not, map, ap, sym, ◌∙◌}
use Rattle.std.specs.List.{list_any}
use Rattle.std.specs.Str.{bytes_eq}
use Rattle.cw_syntax.specs.Names.{text}
use Rattle.cw_scope.specs.Descriptors.{Entry}
use Rattle.cw_scope.specs.Held.{entry_of}
use Rattle.cw_scope.proofs.Once.{one_of}
use Rattle.cw_scope.proofs.entries.is_only.Goals as goal

pub returns-then-entry : goal.returns-then-entry
returns-then-entry c =
    let p = λ (e : Entry). bytes_eq c.args.name.now (text c.args.source.now e.name) in
    let later = map entry_of c.args.later.now in
    ap not c.has_entry.ensures ∙ ap (λ b. b && not (list_any p later)) (sym c.if-entry.true) ∙ sym (one_of p (entry_of c.args.entry) later)
