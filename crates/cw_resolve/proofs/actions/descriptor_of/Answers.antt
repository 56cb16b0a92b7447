use Rattle.std.proofs.Common.{ap, sym, ◌∙◌}
use Rattle.cw_syntax.specs.declared.program.Expr.{out-Expr}
use Rattle.cw_syntax.specs.Names.{number_in}
use Rattle.cw_syntax.specs.Plans.{descriptor_of}
use Rattle.cw_syntax.specs.Trees.{trees_of}
use Rattle.cw_syntax.proofs.Shapes.{node_is}
use Rattle.cw_resolve.proofs.Acting.{names_one, numbers_one, names_none}
use Rattle.cw_resolve.proofs.actions.descriptor_of.Goals as goal

pub returns-in-Name : goal.returns-in-Name
returns-in-Name c =
    let s = c.args.scene.now in
    let e = c.args.e.now in
    let o = out-Expr e in
    record {
      number = c.descriptor_named.ensures.number ∙ ap (number_in s.names.descriptors) c.slice.ensures.bytes
          ∙ sym (ap (descriptor_of s) (node_is e) ∙ names_one s o.op (trees_of o.parts.items) o.from o.to c.in-Name.is);
    }

pub returns-in-Number : goal.returns-in-Number
returns-in-Number c =
    let s = c.args.scene.now in
    let e = c.args.e.now in
    let o = out-Expr e in
    record {
      number = c.descriptor_numbered.ensures.number
          ∙ sym (ap (descriptor_of s) (node_is e) ∙ numbers_one s o.op (trees_of o.parts.items) o.from o.to c.in-Number.n c.in-Number.is);
    }

pub returns-in_default : goal.returns-in_default
returns-in_default c =
    let s = c.args.scene.now in
    let e = c.args.e.now in
    let o = out-Expr e in
    record { number = sym (ap (descriptor_of s) (node_is e) ∙ names_none s o.op (trees_of o.parts.items) o.from o.to c.in_default.not-Name c.in_default.not-Number) }
