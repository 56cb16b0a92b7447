use Rattle.std.proofs.Common.{◌≡◌, length, map, refl, ap, ◌∙◌, arith}
use Rattle.std.specs.List.{flat_map}
use Rattle.cw_syntax.specs.Trees.{tree_of, file_of}
use Rattle.cw_scope.specs.Rules.{wrong_form}
use Rattle.cw_resolve.specs.Soonest.{sooner, soonest}
use Rattle.cw_scope.specs.Mentions.{names_at, calls_at}
use Rattle.cw_scope.specs.Held.{tree_at, whole_of}
use Rattle.cw_resolve.proofs.Lesser.{lesser_further}
use Rattle.cw_scope.proofs.Pushed.{behind_old, further}
use Rattle.cw_scope.proofs.forms.every_mention.Goals as goal

pub wrong_form-requires-clause-calls : goal.wrong_form-requires-clause-calls
wrong_form-requires-clause-calls c =
    let old = c.loop-whole.calls in
    let from : c.len-from.result ≡ length old.items = omega (arith, c.len-from.ensures, old.ok.0) in
    behind_old tree_at old.items c.put_mentions.new.calls.items c.deref.result.now c.len-from.result (calls_at (tree_of c.whole-item.result.tree.now)) c.deref.ensures.value from
    c.in_ok-put_mentions.ensures.calls

pub loop-whole-preserved : goal.loop-whole-preserved
loop-whole-preserved c =
    let xs = c.args.wholes.now in
    let i = c.loop-whole.whole-index in
    let x = c.whole-item.result in
    let rule = wrong_form c.args.known.now.source.now (file_of c.args.known.now.program.now) in
    record {
      names = further (λ l. flat_map (λ w. names_at w.tree) (map whole_of l)) xs i x _ _ (names_at (whole_of x).tree) _ c.loop-whole-test.true c.whole-item.is (λ ys. refl)
          c.in_ok-put_mentions.ensures.names c.loop-whole.invariant.names;
      calls = further (λ l. flat_map (λ w. calls_at w.tree) (map whole_of l)) xs i x _ _ (calls_at (whole_of x).tree) _ c.loop-whole-test.true c.whole-item.is (λ ys. refl)
          c.in_ok-put_mentions.ensures.calls c.loop-whole.invariant.calls;
      place = lesser_further (λ l. soonest (map rule (map whole_of l))) xs i x _ _ (rule (whole_of x)) _ c.loop-whole-test.true c.whole-item.is (λ ys. refl)
          (c.sooner-misformed.ensures ∙ ap (sooner c.loop-whole.misformed) c.in_ok-own.ensures) c.loop-whole.invariant.place;
    }
