-- Calls among expressions.
use Rattle.std.proofs.Common.{◌≡◌, ℕ, List, [], ◌∷◌, map, Bool, true, false, ◌||◌, None, refl, sym, ap₂}
use Rattle.std.specs.List.{list_any}
use Rattle.std.proofs.lemmas.Bool.{false≢true}
use Rattle.cw_syntax.specs.declared.program.Name.{Name}
use Rattle.cw_syntax.specs.declared.program.Op.{Op}
use Rattle.cw_syntax.specs.declared.program.Op.TheVariants.{Call as CallOp}
use Rattle.cw_syntax.specs.Names.{text}
use Rattle.cw_syntax.specs.Trees.{Tree, Node, Trees, File}
use Rattle.cw_scope.specs.Rules.{call_if, is_call, defined_call, is_defined}
use Rattle.cw_resolve.specs.Soonest.{sooner, soonest}
use Rattle.cw_lemmas.proofs.Truths.{or_first as first_isnt}

second_isnt : (a b : Bool) → (a || b) ≡ false → b ≡ false
second_isnt true b e = absurd (false≢true (sym e))
second_isnt false b e = e

nothing_at : (test : Name → Bool) (op : Op) (ts : Trees) (from to : ℕ) → is_call (Node op ts from to) ≡ false → call_if test (Node op ts from to) ≡ None
nothing_at test (CallOp f) ts from to e = absurd (false≢true (sym e))
nothing_at test _ ts from to e = refl

-- what is no call has no place
pub no_place : (test : Name → Bool) (t : Tree) → is_call t ≡ false → call_if test t ≡ None
no_place test (Node op ts from to) e = nothing_at test op ts from to e

-- nor have expressions that hold none
pub no_places : (source : List ℕ) (file : File) (ts : List Tree) → list_any is_call ts ≡ false → soonest (map (defined_call source file) ts) ≡ None
no_places source file [] e = refl
no_places source file (t ∷ ts) e =
    ap₂ sooner (no_place (λ f. is_defined source file (text source f)) t (first_isnt (is_call t) (list_any is_call ts) e)) (no_places source file ts (second_isnt (is_call t) (list_any is_call ts) e))
