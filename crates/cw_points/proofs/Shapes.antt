-- The form of a `for`, by its head and its body.
use Rattle.std.proofs.Common.{◌≡◌, Option, None, Some, Box, Global, refl, ap, ◌∙◌}
use Rattle.std.specs.Prelude.{option_map, is_some}
use denote.Hole.Carrier
use Rattle.cw_syntax.specs.declared.program.Expr.{Expr}
use Rattle.cw_syntax.specs.declared.program.Stmt.{Stmt}
use Rattle.cw_syntax.specs.declared.program.Head.{Head, Head', out-Head, Head-init-None', Head-init-Some'}
use Rattle.cw_syntax.specs.declared.program.What.{What}
use Rattle.cw_syntax.specs.declared.program.What.TheVariants.{For}
use Rattle.cw_syntax.specs.Trees.{Tree, Statement, Form, Fors, Perhaps, tree_of, form_of, for_of, init_of, statement_of}
use Rattle.cw_syntax.specs.Plans.{place_if}

-- a head, as it is held
pub record IsHead (h : Head) (init : Perhaps) (test step : Option Tree) : Type 0 where
  pub place : option_map (λ (i : Stmt). i.from) (out-Head h).init ≡ place_if init
  pub begun : is_some (out-Head h).init ≡ is_some (place_if init)
  pub decided : is_some (out-Head h).test ≡ is_some test
  pub stepped : is_some (out-Head h).step ≡ is_some step

pub record IsFor (h : Head) (body : Statement) (form : Form) : Type 0 where
  pub init : Perhaps
  pub test : Option Tree
  pub step : Option Tree
  pub form_is : form ≡ Fors init test step body
  pub head_is : IsHead h init test step

pub some_tree : (e : Option Expr) → is_some e ≡ is_some (option_map tree_of e)
some_tree None = refl
some_tree (Some e) = refl

for_is : (h : Head) (body : Statement) → IsFor h body (for_of h body)
unfolding out-Head Carrier.out
for_is (Head' Head-init-None' test step) body = record {
  init = init_of Head-init-None';
  test = option_map tree_of test;
  step = option_map tree_of step;
  form_is = refl;
  head_is = record { place = refl; begun = refl; decided = some_tree test; stepped = some_tree step };
}
for_is (Head' (Head-init-Some' what from to) test step) body = record {
  init = init_of (Head-init-Some' what from to);
  test = option_map tree_of test;
  step = option_map tree_of step;
  form_is = refl;
  head_is = record { place = refl; begun = refl; decided = some_tree test; stepped = some_tree step };
}

pub for_form : (w : What) (h : Box Head Global) (b : Box Stmt Global) → w ≡ For h b → IsFor h.value (statement_of b.value) (form_of w)
for_form w h b e =
    let k = for_is h.value (statement_of b.value) in
    record { init = k.init; test = k.test; step = k.step; form_is = ap form_of e ∙ k.form_is; head_is = k.head_is }
