-- Working definitions: what the texts that the program reads rules from stand for.
use Rattle.cw_policy.specs.declared.sources.TestSource.{TestSource}
use Rattle.cw_policy.specs.declared.sources.ExpressionSource.{ExpressionSource}
use Rattle.cw_policy.specs.declared.sources.Source.{Source}
use Rattle.cw_policy.specs.declared.sources.Source.TheVariants.{Test, Expression}
use Rattle.cw_policy.specs.Rules.{TestText, ExpressionText, RuleText, tested, written}

abbrev pub test_text : TestSource → TestText
test_text t = record { label = t.label.now; must = t.must; text = t.text.now; path = t.path }

abbrev pub expression_text : ExpressionSource → ExpressionText
expression_text e = record { name = e.name.now; text = e.text.now; index = e.index }

abbrev pub text_of : Source → RuleText
text_of (Test t) = tested (test_text t)
text_of (Expression e) = written (expression_text e)
