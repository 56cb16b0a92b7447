-- What a statement does that is an expression, as the code holds it.
use Rattle.cw_syntax.specs.Plans.{Action, Computes, Opens, Closes, Invokes}
use Rattle.cw_resolve.specs.declared.actions.Act.{Act}
use Rattle.cw_resolve.specs.declared.actions.Act.TheVariants.{Computes as ComputesAct, Opens as OpensAct, Closes as ClosesAct, Invokes as InvokesAct}

abbrev pub act_of : Action → Act
act_of Computes = ComputesAct
act_of (Opens d) = OpensAct d
act_of (Closes d) = ClosesAct d
act_of (Invokes callee) = InvokesAct callee.number callee.split callee.result
