-- What clap builds of a command line of operands.
use Rattle.std.proofs.Common.{◌≡◌, ℕ, ◌+◌, true, false, List, [], ◌∷◌, map, min, Option, Some, None, is_some, refl}
use Rattle.std.specs.List.{list_all, list_any}
use Rattle.clap.specs.Lexer.{usize_max}
use Rattle.clap.specs.Walk.{Rule, Text, arg_by_long, arg_by_short, is_early_multiple, nothing_held, walk}
use Rattle.clap.specs.Simple.{App, built, entered, filled_from, is_simple}
use Rattle.clap.specs.Takes.{default_passes, takes}
use Rattle.clap.specs.Faults.{entered_fault, fault_of, is_simple_and_free, level_fault}
use Rattle.clap.proofs.TakesLemmas.{leaf_takes}
use Rattle.cw_commands.specs.Lines.{line_app, argument_rule}
use Rattle.cw_commands.proofs.Fits.{level_ok}
use Rattle.std.proofs.lemmas.Bool.{and_from as and_true}

abbrev rules : ℕ → List Text → List Rule
rules i operands = filled_from i (map argument_rule operands)

no_short : (i : ℕ) (operands : List Text) (x : ℕ) → arg_by_short (rules i operands) x ≡ None
no_short i [] x = refl
no_short i (p ∷ ps) x = no_short (min (i + 1) usize_max) ps x

no_long : (i : ℕ) (operands : List Text) (name : Text) → arg_by_long (rules i operands) name ≡ None
no_long i [] name = refl
no_long i (p ∷ ps) name = no_long (min (i + 1) usize_max) ps name

no_defaults : (i : ℕ) (operands : List Text) → list_all default_passes (rules i operands) ≡ true
no_defaults i [] = refl
no_defaults i (p ∷ ps) = no_defaults (min (i + 1) usize_max) ps

are_free : (i : ℕ) (operands : List Text) → list_all (λ a. a.is_free) (rules i operands) ≡ true
are_free i [] = refl
are_free i (p ∷ ps) = are_free (min (i + 1) usize_max) ps

are_simple : (operands : List Text) → list_all (λ a. a.is_simple) (map argument_rule operands) ≡ true
are_simple [] = refl
are_simple (p ∷ ps) = are_simple ps

still_simple : (i : ℕ) (operands : List Text) → list_all (λ a. a.is_simple) (rules i operands) ≡ true
still_simple i [] = refl
still_simple i (p ∷ ps) = still_simple (min (i + 1) usize_max) ps

none_early : (n i : ℕ) (operands : List Text) → list_any (is_early_multiple n) (rules i operands) ≡ false
none_early n i [] = refl
none_early n i (p ∷ ps) = none_early n (min (i + 1) usize_max) ps

pub line_is_simple : (operands : List Text) → is_simple (line_app operands) ≡ true
line_is_simple operands = rw (are_simple operands, still_simple 1 operands, none_early _ 1 operands) refl

pub line_is_free : (operands : List Text) → is_simple_and_free (line_app operands) ≡ true
line_is_free operands = rw (line_is_simple operands, are_free 1 operands) refl

module _ (operands arguments : List Text) where
  abbrev app : App
  app = built (line_app operands)

  leaf : (stop : Option (Text × List Text)) → level_fault app.top [] nothing_held arguments (is_some (entered app stop)) (entered_fault app stop) ≡ []
      → level_fault app.top [] nothing_held arguments false [] ≡ []
  leaf None e = e
  leaf (Some p) e = e

  -- arguments at which no step of a parse fails are taken
  pub fits : fault_of (line_app operands) arguments ≡ [] → takes (line_app operands) arguments ≡ true
  fits e =
      let level = level_ok app.top (no_short 1 operands) (no_long 1 operands) (no_defaults 1 operands) (are_free 1 operands) refl refl refl arguments (leaf (walk app.top.rules [] nothing_held arguments).stopped e) in
      and_true _ _ (line_is_simple operands) (leaf_takes app nothing_held arguments refl level)
