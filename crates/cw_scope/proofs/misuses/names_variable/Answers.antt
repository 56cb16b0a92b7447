use Rattle.std.proofs.Common.{is_some, sym, ap, ◌∙◌}
use Rattle.cw_syntax.specs.declared.program.Op.TheVariants.{Name as NameOp}
use Rattle.cw_syntax.specs.Names.{number_in}
use Rattle.cw_scope.specs.Descriptors.{names_variable}
use Rattle.cw_scope.proofs.Operators.{at_operator, isnt_variable}
use Rattle.cw_scope.proofs.misuses.names_variable.Goals as goal

pub returns-in-Name : goal.returns-in-Name
returns-in-Name c =
    let s = c.args.scene.now in
    c.is_some.ensures
    ∙ ap is_some (c.descriptor_named.ensures.number ∙ ap (number_in s.names.descriptors) c.slice.ensures.bytes)
    ∙ sym (at_operator (names_variable s) c.args.e.now NameOp c.in-Name.is)

pub returns-in_default : goal.returns-in_default
returns-in_default c = sym (isnt_variable c.args.scene.now c.args.e.now c.in_default.not-Name)
