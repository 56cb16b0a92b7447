-- The whole policy.
use Rattle.std.proofs.Common.{◌≡◌, ◌≤◌, ◌<◌, ℕ, ◌+◌, List, [], ◌∷◌, Bool, true, false, Option, Some, None, cond, length, suc, map, refl, sym, ap, ◌∙◌, subst, inl, Vec, Global, arith}
use Rattle.std.specs.Prelude.{nat_lt, sum_by}
use Rattle.std.proofs.lemmas.List.{length-map}
use Rattle.std.proofs.lemmas.List.Sums.{sum_by-cons}
use Rattle.std.proofs.lemmas.Option.{none-some}
use Rattle.std.proofs.lemmas.Bool.Decides.{nat_tests}
use Rattle.toml.specs.Data.{Items, no_items, item, Members}
use Rattle.cw_rights.specs.declared.policy.Descriptor.{Descriptor}
use Rattle.cw_rights.specs.Trees.{count as literals}
use Rattle.cw_rights.specs.Policies.{PlainRule, PlainDescriptor, descriptor_of}
use Rattle.cw_regex.specs.Meaning.{names_of as names}
use Rattle.cw_dfa.specs.Positions.{bad_of}
use Rattle.cw_policy.specs.declared.fault.PolicyFault.{PolicyFault}
use Rattle.cw_policy.specs.declared.keys.Key.TheVariants.{Descriptors}
use Rattle.cw_policy.specs.Form.{or_else, array_at, format_of, form_fault}
use Rattle.cw_policy.specs.Names.{names_of, count, unknown_fault, twice_fault, count_fault, early_fault}
use Rattle.cw_policy.specs.Parts.{descriptors_in}
use Rattle.cw_policy.specs.Rules.{OrMemory, HaveRules, FirstRefused, rule_texts}
use Rattle.cw_policy.specs.Answer.{descriptor_names, at_labels, positions, IsLateFault}
use Rattle.cw_policy.proofs.Reading.{or_more}

-- the literals of all rules
pub literals_are : (rs : List PlainRule) → literals (bad_of rs) ≡ sum_by (λ r. literals r.bad) rs
literals_are [] = refl
literals_are (r ∷ rs) = ap (λ n. literals r.bad + n) (literals_are rs) ∙ sym (sum_by-cons (λ (r : PlainRule). literals r.bad) r rs)

pub are_few : (rs : List PlainRule) → literals (bad_of rs) + 1 ≤ 64 → false ≡ nat_lt 64 (positions rs)
are_few rs h = let e = literals_are rs in grind (arith, nat_tests)

pub are_many : (rs : List PlainRule) → 64 < literals (bad_of rs) + 1 → true ≡ nat_lt 64 (positions rs)
are_many rs h = let e = literals_are rs in grind (arith, nat_tests)

-- the names of the descriptors are those of their tables
plain_names : (ds : List Descriptor) → map (λ (d : PlainDescriptor). d.name) (map descriptor_of ds) ≡ names ds
plain_names [] = refl
plain_names (d ∷ ds) = ap (λ ns. d.name.items ∷ ns) (plain_names ds)

pub table_names : (format : ℕ) (ds : Items) → map (λ (d : PlainDescriptor). d.name) (descriptors_in format ds) ≡ names_of ds
table_names format no_items = refl
table_names format (item d ds) = rw (table_names format ds) refl

pub names_are : (format : ℕ) (ds : List Descriptor) (items : Items) → map descriptor_of ds ≡ descriptors_in format items → names ds ≡ names_of items
names_are format ds items e = sym (plain_names ds) ∙ ap (map (λ (d : PlainDescriptor). d.name)) e ∙ table_names format items

-- no fault in a list of faults
pub both_none : {A : Type 0} (a b : Option A) → or_else a b ≡ None → (a ≡ None) × (b ≡ None)
both_none (Some f) b e = absurd (none-some _ (sym e))
both_none None b e = (refl, e)

pub record EarlyParts (ms : Members) : Type 0 where
  pub form : form_fault ms ≡ None
  pub unknown : unknown_fault ms ≡ None
  pub twice : twice_fault ms ≡ None
  pub count : count_fault ms ≡ None

pub early_parts : (ms : Members) → early_fault ms ≡ None → EarlyParts ms
unfolding early_fault
early_parts ms e =
    let (a, b) = both_none (form_fault ms) (or_else (unknown_fault ms) (or_else (twice_fault ms) (count_fault ms))) e in
    let (c, d) = both_none (unknown_fault ms) (or_else (twice_fault ms) (count_fault ms)) b in
    let (f, g) = both_none (twice_fault ms) (count_fault ms) d in
    record { form = a; unknown = c; twice = f; count = g }

-- there are at most 8 descriptors
few_from : (n : ℕ) (f : PolicyFault) → cond (nat_lt 8 n) (Some f) None ≡ None → n ≤ 8
few_from n f e = by (nat_lt 8 n) refl e
  where
    by : (b : Bool) → nat_lt 8 n ≡ b → cond b (Some f) None ≡ None → n ≤ 8
    by true h e = absurd (none-some _ (sym e))
    by false h e = grind (arith, nat_tests)

pub few_descriptors : (ms : Members) → early_fault ms ≡ None → count (array_at Descriptors ms) ≤ 8
few_descriptors ms e = few_from (count (array_at Descriptors ms)) _ (early_parts ms e).count

pub count_in : (format : ℕ) (ds : Items) → length (descriptors_in format ds) ≡ count ds
count_in format no_items = refl
count_in format (item d ds) = ap suc (count_in format ds)

pub few_read : (ds : List Descriptor) (ms : Members) → map descriptor_of ds ≡ descriptors_in (format_of ms) (array_at Descriptors ms) → early_fault ms ≡ None → length ds ≤ 8
few_read ds ms e early =
    let same : length (map descriptor_of ds) ≡ count (array_at Descriptors ms) = ap length e ∙ count_in (format_of ms) (array_at Descriptors ms) in
    let mapped : length (map descriptor_of ds) ≡ length ds = length-map ds descriptor_of in
    let few = few_descriptors ms early in
    omega (arith, same, mapped, few)

-- a rule that is refused, and a quantity that is over its limit
pub late_refused : (ms : Members) (d labels : List (List ℕ)) (f : PolicyFault) → d ≡ descriptor_names ms → labels ≡ at_labels ms
    → OrMemory (FirstRefused (format_of ms) d labels (rule_texts ms)) f → OrMemory (IsLateFault ms) f
late_refused ms d labels f e g = or_more (FirstRefused (format_of ms) d labels (rule_texts ms)) (IsLateFault ms) f
    (λ h r. inl (subst (λ (d : List (List ℕ)). FirstRefused (format_of ms) d (at_labels ms) (rule_texts ms) h) e
    (subst (λ (l : List (List ℕ)). FirstRefused (format_of ms) d l (rule_texts ms) h) g r)))

pub have_rules : (ms : Members) (d labels after : List (List ℕ)) (rules : List PlainRule) → d ≡ descriptor_names ms → labels ≡ at_labels ms
    → HaveRules (format_of ms) d labels (rule_texts ms) rules after → HaveRules (format_of ms) (descriptor_names ms) (at_labels ms) (rule_texts ms) rules after
have_rules ms d labels after rules e g h =
    subst (λ (d : List (List ℕ)). HaveRules (format_of ms) d (at_labels ms) (rule_texts ms) rules after) e
    (subst (λ (l : List (List ℕ)). HaveRules (format_of ms) d l (rule_texts ms) rules after) g h)

pub few_texts : (list : List (Vec ℕ Global)) → length list ≤ 65535 → length (map (λ v. v.items) list) ≤ 65535
few_texts list h = let e = length-map list (λ (v : Vec ℕ Global). v.items) in omega (arith, e, h)
