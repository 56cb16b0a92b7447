-- Where no descriptor has a name nothing is misused.
use Rattle.std.proofs.Common.{◌≡◌, ℕ, List, [], ◌∷◌, map, Bool, true, false, ◌&&◌, ◌||◌, None, is_some, codes, refl, length, arith, ap, ap₂, ◌∙◌}
use Rattle.std.specs.List.{flat_map}
use Rattle.std.specs.Option.{option_map, option_or}
use Rattle.std.specs.Str.{bytes_eq}
use Rattle.std.specs.Fmt.{decimal}
use Rattle.cw_syntax.specs.declared.program.Op.{Op}
use Rattle.cw_syntax.specs.declared.program.Op.TheVariants.{Name as NameOp, Number, Call as CallOp, Prefix, Suffix, Assign}
use Rattle.cw_syntax.specs.Names.{slice, text, number_in}
use Rattle.cw_syntax.specs.Plans.{Scene, descriptor_of}
use Rattle.cw_syntax.specs.Trees.{Tree, Node, Trees, none, more, File}
use Rattle.cw_rights.specs.Policies.{PlainPolicy, PlainDescriptor, descriptor_of as descriptor_held}
use Rattle.cw_rights.specs.declared.policy.Descriptor.{Descriptor}
use Rattle.cw_scope.specs.Rules.{at_if}
use Rattle.cw_resolve.specs.Soonest.{soonest, sooner}
use Rattle.cw_scope.specs.declared.descriptors.DescriptorFault.TheVariants.{NoVariable, Shadowed, Misuse}
use Rattle.cw_scope.specs.Names.{locals}
use Rattle.cw_scope.specs.Walks.{every_whole}
use Rattle.cw_scope.specs.Descriptors.{scene_under, entries, first_undeclared, first_shadowed, names_variable, first_is_variable, is_change, names_some, misuse, used, descriptor_fault}
use Rattle.cw_lemmas.proofs.Truths.{and_false}

module _ (s : Scene) (unnamed : s.names.descriptors ≡ []) where
  no_variable_at : (op : Op) (parts : Trees) (from to : ℕ) → names_variable s (Node op parts from to) ≡ false
  no_variable_at NameOp parts from to = ap (λ l. is_some (number_in l (slice s.source from to))) unnamed
  no_variable_at _ parts from to = refl

  no_variable : (t : Tree) → names_variable s t ≡ false
  no_variable (Node op parts from to) = no_variable_at op parts from to

  first_is_none : (ts : Trees) → first_is_variable s ts ≡ false
  first_is_none none = refl
  first_is_none (more t ts) = no_variable t

  no_descriptor_at : (op : Op) (parts : Trees) (from to : ℕ) → is_some (descriptor_of s (Node op parts from to)) ≡ false
  no_descriptor_at NameOp parts from to = ap (λ l. is_some (number_in l (slice s.source from to))) unnamed
  no_descriptor_at (Number n) parts from to = ap (λ l. is_some (number_in l (decimal n))) unnamed
  no_descriptor_at _ parts from to = refl

  no_descriptor : (t : Tree) → is_some (descriptor_of s t) ≡ false
  no_descriptor (Node op parts from to) = no_descriptor_at op parts from to

  names_none : (ts : Trees) → names_some s ts ≡ false
  names_none none = refl
  names_none (more t ts) = ap₂ (λ a b. a || b) (no_descriptor t) (names_none ts)

  unused_at : (op : Op) (parts : Trees) (from to : ℕ) → misuse s (Node op parts from to) ≡ None
  unused_at (Assign n) parts from to = ap (λ b. at_if b from) (first_is_none parts)
  unused_at (Prefix n) parts from to = ap (λ b. at_if b from) (ap (λ b. is_change n && b) (first_is_none parts) ∙ and_false (is_change n))
  unused_at (Suffix n) parts from to = ap (λ b. at_if b from) (first_is_none parts)
  unused_at (CallOp f) parts from to =
      let is_close = bytes_eq (text s.source f) (codes "close") in
      ap (λ b. at_if b from) (ap (λ b. is_close && b) (names_none parts) ∙ and_false is_close)
  unused_at _ parts from to = refl

  unused : (t : Tree) → misuse s t ≡ None
  unused (Node op parts from to) = unused_at op parts from to

  -- the least place of a misuse among these expressions
  pub all_unused : (ts : List Tree) → soonest (map (misuse s) ts) ≡ None
  all_unused [] = refl
  all_unused (t ∷ ts) = ap₂ sooner (unused t) (all_unused ts)

-- so a policy without descriptors breaks no rule of theirs
pub faultless : (source : List ℕ) (file : File) (policy : PlainPolicy) → policy.descriptors ≡ [] → descriptor_fault source file policy ≡ None
faultless source file policy bare =
    let s = scene_under policy source file in
    let undeclared = ap (first_undeclared source (entries file)) bare in
    let shadowed = ap (first_shadowed source (locals file)) bare in
    let used_well = all_unused s (ap (map (λ (d : PlainDescriptor). d.name)) bare) (flat_map (used s) (every_whole file)) in
    ap₂ option_or (ap₂ option_or (ap (option_map NoVariable) undeclared) (ap (option_map Shadowed) shadowed)) (ap (option_map Misuse) used_well)

pub none_held : (ds : List Descriptor) → length ds ≡ 0 → map descriptor_held ds ≡ []
none_held [] e = refl
none_held (d ∷ ds) e = absurd (omega (arith, e))
