-- Where no scope rule is broken each is kept.
use Rattle.std.proofs.Common.{◌≡◌, ℕ, Bool, true, false, cond, nat_lt, ◌≤◌, List, [], length, map, Option, None, Some, refl, arith}
use Rattle.std.specs.Option.{option_or}
use Rattle.std.proofs.lemmas.Bool.Decides.{nat_tests}
use Rattle.cw_core.specs.declared.quantity.Quantity.TheVariants.{Functions, Labels}
use Rattle.cw_syntax.specs.Trees.{File}
use Rattle.cw_scope.specs.declared.faults.ScopeFault.{ScopeFault}
use Rattle.cw_scope.specs.declared.faults.ScopeFault.TheVariants.{NoMain, Jump, Limit}
use Rattle.cw_scope.specs.Walks.{every_statement, every_whole, every_node}
use Rattle.cw_scope.specs.Names.{uses, every_name, every_label}
use Rattle.cw_scope.specs.Rules.{different, has_main, loose_jump}
use Rattle.cw_resolve.specs.Soonest.{soonest}
use Rattle.cw_scope.specs.Faults.{no_main, two_functions, two_labels, arity, call_form, main_called, reserved_name, jump, limit, ◌or_else◌, scope_fault}
use Rattle.cw_lemmas.proofs.Options.{option_map_none}

pub neither : {X : Type 0} (a b : Option X) → option_or a b ≡ None → (a ≡ None) × (b ≡ None)
neither None b e = (refl, e)
neither (Some x) b e = absurd (cc)

-- of nine rules one after the other
abbrev pub Nine : (a b c d e f g h i : Option ScopeFault) → Type 0
Nine a b c d e f g h i = (a ≡ None) × (b ≡ None) × (c ≡ None) × (d ≡ None) × (e ≡ None) × (f ≡ None) × (g ≡ None) × (h ≡ None) × (i ≡ None)

pub nine_of : (a b c d e f g h i : Option ScopeFault) → a or_else b or_else c or_else d or_else e or_else f or_else g or_else h or_else i ≡ None → Nine a b c d e f g h i
nine_of a b c d e f g h i kept =
    let eight = neither (a or_else b or_else c or_else d or_else e or_else f or_else g or_else h) i kept in
    let seven = neither (a or_else b or_else c or_else d or_else e or_else f or_else g) h eight.0 in
    let six = neither (a or_else b or_else c or_else d or_else e or_else f) g seven.0 in
    let five = neither (a or_else b or_else c or_else d or_else e) f six.0 in
    let four = neither (a or_else b or_else c or_else d) e five.0 in
    let three = neither (a or_else b or_else c) d four.0 in
    let two = neither (a or_else b) c three.0 in
    let one = neither a b two.0 in
    (one.0, one.1, two.1, three.1, four.1, five.1, six.1, seven.1, eight.1)

module _ (source : List ℕ) (file : File) (kept : scope_fault source file ≡ None) where
  rules : (no_main source file ≡ None) × (jump (every_statement file) ≡ None) × (limit source file (every_label file) ≡ None)
  rules =
      let nine = nine_of (no_main source file) (two_functions source file) (two_labels source file) (arity source file (every_node file))
      (call_form source file (uses file) (every_whole file)) (main_called source (every_node file)) (reserved_name source (every_name file)) (jump (every_statement file))
      (limit source file (every_label file)) kept in
      (nine.0, nine.7, nine.8)

  there : (b : Bool) → cond b None (Some NoMain) ≡ None → b ≡ true
  there true e = refl
  there false e = absurd (cc)

  pub has_main_kept : has_main source file ≡ true
  unfolding no_main
  has_main_kept = there (has_main source file) rules.0

  pub jumps_kept : soonest (map (λ p. loose_jump p.looped p.statement) (every_statement file)) ≡ None
  unfolding jump
  jumps_kept = option_map_none Jump (soonest (map (λ p. loose_jump p.looped p.statement) (every_statement file))) rules.1

  at_most : (most n : ℕ) (rest : Option ScopeFault) (b : Bool) → nat_lt most n ≡ b → cond b (Some (Limit Functions)) rest ≡ None → n ≤ most
  at_most most n rest true is e = absurd (cc)
  at_most most n rest false is e = grind (arith, nat_tests)

  pub functions_kept : length file.functions ≤ 512
  unfolding limit
  functions_kept = at_most 512 (length file.functions) (cond (nat_lt 256 (length (different source [] (every_label file)))) (Some (Limit Labels)) None)
      (nat_lt 512 (length file.functions)) refl rules.2
