-- Each policy that is spelled is valid: its rules and labels, and the whole.
use Rattle.std.proofs.Common.{◌≡◌, ◌⊎◌, inl, inr, ◌<◌, ◌≤◌, ℕ, suc, List, [], ◌∷◌, ◌++◌, Bool, true, false, cond, Option, Some, None, length, length-append, All, refl, sym, ap, ◌∙◌, subst, arith}
use Rattle.std.specs.Prelude.{codes, nat_lt, nat_eq, pos, negsuc}
use Rattle.std.specs.List.{list_any}
use Rattle.std.specs.Str.{bytes_eq}
use Rattle.std.proofs.lemmas.List.Elements.{All-nil, All-cons}
use Rattle.std.proofs.lemmas.Option.{none-some}
use Rattle.std.proofs.lemmas.Bool.{ltb-false}
use Rattle.toml.specs.Data.{Data, string, integer, float, boolean, datetime, array, table, Items, no_items, item, Members, get, get_member}
use Rattle.cw_rights.specs.declared.words.Test.{Test}
use Rattle.cw_rights.specs.Trees.{Tree, nothing, never, one, seq, alt, star, plus, maybe, nesting}
use Rattle.cw_rights.specs.Policies.{PlainRule, PlainPolicy}
use Rattle.cw_rights.specs.Valid.{IsTestWithin, IsLabelWithin, IsLimitWithin, IsTreeWithin, IsDistinct, IsValid}
use Rattle.cw_regex.specs.Grammar.{TestForm, SpellsTest, IsExpression}
use Rattle.cw_regex.specs.Labels.{AreNames}
use Rattle.cw_regex.specs.Meaning.{number_in, test_meaning, with_name, with_names, labels_of}
use Rattle.cw_regex.proofs.Kept.{labels_named as expression_named, labels_distinct as expression_distinct}
use Rattle.cw_regex.proofs.Nested.{nests}
use Rattle.cw_regex.proofs.Within.{Known, known_parts, within_test, tree_within}
use Rattle.cw_policy.specs.declared.fault.PolicyFault.{PolicyFault}
use Rattle.cw_policy.specs.declared.keys.Section.{Section}
use Rattle.cw_policy.specs.declared.keys.Section.TheVariants.{Descriptor, Rule}
use Rattle.cw_policy.specs.declared.keys.Key.{Key}
use Rattle.cw_policy.specs.declared.keys.Key.TheVariants.{Split, Detached, Descriptors, Limits, Ats, Rules}
use Rattle.cw_policy.specs.Form.{or_else, first_in, array_at, items_at, format_in, format_of}
use Rattle.cw_policy.specs.Names.{names_of, count, descriptor_unknown, limit_unknown, unknown_fault, repeated, twice_table, twice_item, twice_fault}
use Rattle.cw_policy.specs.Parts.{descriptors_in, limits_in, labels_from}
use Rattle.cw_policy.specs.Rules.{TestText, ExpressionText, RuleText, tested, written, tests_in, tests_of_table, test_texts, expression_texts, rule_texts}
use Rattle.cw_policy.specs.Rules.{bad_words, turned, HasTest, HasExpression, HasRule, HaveRules}
use Rattle.cw_policy.specs.Answer.{at_labels, positions, quantity_fault, policy_with, HasPolicy, SpelledAreValid}
use Rattle.cw_policy.proofs.Formed.{label_in, formed}
use Rattle.cw_policy.proofs.Valid.{valid_descriptors, not_twice, labels_named, labels_apart, limits_within}
use Rattle.cw_regex.proofs.Within.{number_below}
use Rattle.cw_policy.proofs.Whole.{both_none, early_parts, few_descriptors, table_names, count_in}

-- ---- labels only grow

name_grows : (labels : List (List ℕ)) (w : List ℕ) → length labels ≤ length (with_name labels w)
name_grows labels w = by (list_any (bytes_eq w) labels)
  where
    by : (b : Bool) → length labels ≤ length (cond b labels (labels ++ w ∷ []))
    by true = omega arith
    by false = let e = length-append labels (w ∷ []) in omega (arith, e)

names_grow : (ws labels : List (List ℕ)) → length labels ≤ length (with_names labels ws)
names_grow [] labels = omega arith
names_grow (w ∷ ws) labels = let a = name_grows labels w in let b = names_grow ws (with_name labels w) in omega (arith, a, b)

labels_grow : (ds : Items) (labels : List (List ℕ)) → length labels ≤ length (labels_from labels ds)
labels_grow no_items labels = omega arith
labels_grow (item d ds) labels = let a = name_grows labels (label_in d) in let b = labels_grow ds (with_name labels (label_in d)) in omega (arith, a, b)

-- ---- where there is a test there is a label

abbrev Labelled : ℕ → RuleText → Type 0
Labelled n (tested t) = 0 < n
Labelled n (written r) = Unit {0}

abbrev AllLabelled : ℕ → List RuleText → Type 0
AllLabelled n [] = Unit {0}
AllLabelled n (t ∷ ts) = Labelled n t × AllLabelled n ts

labelled_more : (n m : ℕ) (ts : List RuleText) → n ≤ m → AllLabelled n ts → AllLabelled m ts
labelled_more n m [] l h = tt
labelled_more n m (tested t ∷ ts) l h = let k : 0 < n = h.0 in (omega (arith, k, l), labelled_more n m ts l h.1)
labelled_more n m (written r ∷ ts) l h = (tt, labelled_more n m ts l h.1)

labelled_append : (n : ℕ) (ts us : List RuleText) → AllLabelled n ts → AllLabelled n us → AllLabelled n (ts ++ us)
labelled_append n [] us h k = k
labelled_append n (t ∷ ts) us h k = (h.0, labelled_append n ts us h.1 k)

labelled_tests : (n index : ℕ) (label : List ℕ) (must : Bool) (k : ℕ) (ds : Items) → 0 < n → AllLabelled n (tests_in index label must k ds)
labelled_tests n index label must k no_items l = tt
labelled_tests n index label must k (item d ds) l = (l, labelled_tests n index label must (suc k) ds l)

labelled_tables : (n index : ℕ) (ds : Items) → 0 < n → AllLabelled n (test_texts index ds)
labelled_tables n index no_items l = tt
labelled_tables n index (item d ds) l =
    let must = items_at (get (codes "must") d) in
    let never = items_at (get (codes "never") d) in
    labelled_append n (tests_of_table index d) (test_texts (suc index) ds)
    (labelled_append n (tests_in index (label_in d) true 1 must) (tests_in index (label_in d) false 1 never)
    (labelled_tests n index (label_in d) true 1 must l) (labelled_tests n index (label_in d) false 1 never l))
    (labelled_tables n (suc index) ds l)

labelled_expressions : (n index : ℕ) (ds : Items) → AllLabelled n (expression_texts index ds)
labelled_expressions n index no_items = tt
labelled_expressions n index (item d ds) = (tt, labelled_expressions n (suc index) ds)

labelled_texts : (ds rs : Items) → AllLabelled (length (labels_from [] ds)) (test_texts 0 ds ++ expression_texts 0 rs)
labelled_texts no_items rs = labelled_expressions 0 0 rs
labelled_texts (item d ds) rs =
    let n = length (labels_from [] (item d ds)) in
    let grown : 1 ≤ n = labels_grow ds (label_in d ∷ []) in
    labelled_append n (test_texts 0 (item d ds)) (expression_texts 0 rs) (labelled_tables n 0 (item d ds) (omega (arith, grown))) (labelled_expressions n 0 rs)

-- ---- expressions stay within more labels

label_more : (n m : ℕ) (o : Option ℕ) → n ≤ m → IsLabelWithin n o → IsLabelWithin m o
label_more n m None l h = tt
label_more n m (Some k) l h = let a : k < n = h in omega (arith, a, l)

tree_more : (d n m : ℕ) (t : Tree) → n ≤ m → IsTreeWithin d n t → IsTreeWithin d m t
tree_more d n m nothing l h = tt
tree_more d n m never l h = tt
tree_more d n m (one x) l h = record { label = label_more n m x.label l h.label; tests = h.tests }
tree_more d n m (seq r s) l h = (tree_more d n m r l h.0, tree_more d n m s l h.1)
tree_more d n m (alt r s) l h = (tree_more d n m r l h.0, tree_more d n m s l h.1)
tree_more d n m (star r) l h = tree_more d n m r l h
tree_more d n m (plus r) l h = tree_more d n m r l h
tree_more d n m (maybe r) l h = tree_more d n m r l h

-- ---- one rule

record OneKept (d labels : List (List ℕ)) (rule : PlainRule) (next : List (List ℕ)) : Type 0 where
  names : AreNames labels → AreNames next
  distinct : IsDistinct labels → IsDistinct next
  grown : length labels ≤ length next
  within : IsTreeWithin (length d) (length next) rule.bad
  shallow : nesting rule.bad ≤ 64

words_within : (d n label : ℕ) (must : Bool) (t : Bool × Test) → label < n → IsTestWithin d t.1 → IsTreeWithin d n (bad_words label (turned must t))
words_within d n label must t l w =
    let P : Bool × Test → Type 0 = λ t. IsTestWithin d t.1 in
    (record { label = tt; tests = All-nil P }, (record { label = l; tests = All-cons P (turned must t) [] w (All-nil P) }, tt))

words_nest : (label : ℕ) (t : Bool × Test) → nesting (bad_words label t) ≤ 64
words_nest label t = omega arith

test_kept : (format : ℕ) (d labels : List (List ℕ)) (t : TestText) (rule : PlainRule) → 0 < length labels → HasTest format d labels t rule → OneKept d labels rule labels
test_kept format d labels t rule l h = by h.is
  where
    by : (form : TestForm) × SpellsTest t.text form → OneKept d labels rule labels
    by (form, s) =
        let known = subst (Known format d false) s.parts (known_parts format d t.text h.known) in
        let w : IsTestWithin (length d) (test_meaning format d form).1 = (within_test format d form [] known).0 in
        let is = h.means form s in
        record {
          names = λ a. a;
          distinct = λ a. a;
          grown = omega arith;
          within = subst (IsTreeWithin (length d) (length labels)) (sym is)
              (words_within (length d) (length labels) (number_in labels t.label) t.must (test_meaning format d form) (number_below t.label labels l) w);
          shallow = subst (λ (r : Tree). nesting r ≤ 64) (sym is) (words_nest (number_in labels t.label) (turned t.must (test_meaning format d form)));
        }

expression_kept : (format : ℕ) (d labels : List (List ℕ)) (r : ExpressionText) (rule : PlainRule) (next : List (List ℕ)) → HasExpression format d labels r rule next → OneKept d labels rule next
expression_kept format d labels r rule next h = record {
  names = expression_named r.text labels next h.is h.grown;
  distinct = expression_distinct r.text labels next h.is h.grown;
  grown = by h.is;
  within = tree_within format d labels next r.text rule.bad h.is h.known h.grown h.means;
  shallow = nests format next d r.text rule.bad h.is h.shallow h.means;
}
  where
    by : IsExpression r.text → length labels ≤ length next
    by (e, s) = subst (λ (n : List (List ℕ)). length labels ≤ length n) (sym (h.grown e s)) (names_grow (labels_of e []) labels)

rule_kept : (format : ℕ) (d labels : List (List ℕ)) (t : RuleText) (rule : PlainRule) (next : List (List ℕ)) → Labelled (length labels) t
    → HasRule format d labels t rule next → OneKept d labels rule next
rule_kept format d labels (tested t) rule next l (h, same) = subst (λ (n : List (List ℕ)). OneKept d labels rule n) (sym same) (test_kept format d labels t rule l h)
rule_kept format d labels (written r) rule next l h = expression_kept format d labels r rule next h

-- ---- all rules

record AllKept (d labels : List (List ℕ)) (rules : List PlainRule) (after : List (List ℕ)) : Type 0 where
  names : AreNames labels → AreNames after
  distinct : IsDistinct labels → IsDistinct after
  grown : length labels ≤ length after
  within : All (λ (r : PlainRule). IsTreeWithin (length d) (length after) r.bad) rules
  shallow : All (λ (r : PlainRule). nesting r.bad ≤ 64) rules

rules_kept : (format : ℕ) (d labels : List (List ℕ)) (ts : List RuleText) (rules : List PlainRule) (after : List (List ℕ)) → AllLabelled (length labels) ts
    → HaveRules format d labels ts rules after → AllKept d labels rules after
rules_kept format d labels [] rules after l (r, a) =
    let none : AllKept d labels [] labels = record {
      names = λ a. a;
      distinct = λ a. a;
      grown = omega arith;
      within = All-nil (λ (r : PlainRule). IsTreeWithin (length d) (length labels) r.bad);
      shallow = All-nil (λ (r : PlainRule). nesting r.bad ≤ 64);
    } in
    subst (λ (rs : List PlainRule). AllKept d labels rs after) (sym r) (subst (λ (n : List (List ℕ)). AllKept d labels [] n) (sym a) none)
rules_kept format d labels (t ∷ ts) rules after l (rule, rest, next, e, h, more) =
    let one = rule_kept format d labels t rule next l.0 h in
    let k = rules_kept format d next ts rest after (labelled_more (length labels) (length next) ts one.grown l.1) more in
    let a = one.grown in
    let b = k.grown in
    let whole : AllKept d labels (rule ∷ rest) after = record {
      names = λ a. k.names (one.names a);
      distinct = λ a. k.distinct (one.distinct a);
      grown = omega (arith, a, b);
      within = All-cons (λ (r : PlainRule). IsTreeWithin (length d) (length after) r.bad) rule rest (tree_more (length d) (length next) (length after) rule.bad b one.within) k.within;
      shallow = All-cons (λ (r : PlainRule). nesting r.bad ≤ 64) rule rest one.shallow k.shallow;
    } in
    subst (λ (rs : List PlainRule). AllKept d labels rs after) (sym e) whole

-- ---- the whole

not_over : (b : Bool) (f : PolicyFault) (o : Option PolicyFault) → cond b (Some f) o ≡ None → (b ≡ false) × (o ≡ None)
not_over true f o e = absurd (none-some _ (sym e))
not_over false f o e = (refl, e)

record Few (n : ℕ) (rules : List PlainRule) : Type 0 where
  few_limits : n ≤ 12
  few_rules : length rules ≤ 32
  few_positions : positions rules ≤ 64

few : (n : ℕ) (rules : List PlainRule) → quantity_fault n rules ≡ None → Few n rules
few n rules e =
    let (a, b) = not_over (nat_lt 12 n) _ _ e in
    let (c, d) = not_over (nat_lt 32 (length rules)) _ _ b in
    let (f, g) = not_over (nat_lt 64 (positions rules)) _ None d in
    record { few_limits = ltb-false 12 n a; few_rules = ltb-false 32 (length rules) c; few_positions = ltb-false 64 (positions rules) f }

no_table : (s : Section) (o : Option ℕ) → twice_table s o ≡ None → o ≡ None
no_table s None e = refl
no_table s (Some n) e = absurd (none-some _ (sym e))

no_item : (key : Key) (o : Option ℕ) → twice_item key o ≡ None → o ≡ None
no_item key None e = refl
no_item key (Some n) e = absurd (none-some _ (sym e))

record Apart (ms : Members) : Type 0 where
  descriptors : repeated [] 0 (names_of (array_at Descriptors ms)) ≡ None
  splits : repeated [] 0 (names_of (array_at Split ms)) ≡ None
  detached : repeated [] 0 (names_of (array_at Detached ms)) ≡ None

apart : (ms : Members) → twice_fault ms ≡ None → Apart ms
unfolding twice_fault
apart ms e =
    let d = repeated [] 0 (names_of (array_at Descriptors ms)) in
    let s = repeated [] 0 (names_of (array_at Split ms)) in
    let t = repeated [] 0 (names_of (array_at Detached ms)) in
    let r = repeated [] 0 (names_of (array_at Rules ms)) in
    let (a, b) = both_none (twice_table Descriptor d) (or_else (twice_item Split s) (or_else (twice_item Detached t) (twice_table Rule r))) e in
    let (c, f) = both_none (twice_item Split s) (or_else (twice_item Detached t) (twice_table Rule r)) b in
    let (g, h) = both_none (twice_item Detached t) (twice_table Rule r) f in
    record { descriptors = no_table Descriptor d a; splits = no_item Split s c; detached = no_item Detached t g }

limits_known : (ms : Members) → unknown_fault ms ≡ None → first_in (limit_unknown (format_of ms) (names_of (array_at Descriptors ms))) 0 (array_at Limits ms) ≡ None
unfolding unknown_fault
limits_known ms e =
    let format = format_of ms in
    let ds = array_at Descriptors ms in
    (both_none (first_in (descriptor_unknown format) 0 ds) (first_in (limit_unknown format (names_of ds)) 0 (array_at Limits ms)) e).1

abbrev numbered : Bool → ℕ
numbered b = cond b 2 1

either_of : (b : Bool) → (numbered b ≡ 1) ⊎ (numbered b ≡ 2)
either_of true = inr refl
either_of false = inl refl

either_in : (o : Option Data) → (format_in o ≡ 1) ⊎ (format_in o ≡ 2)
either_in None = inl refl
either_in (Some (integer (pos n))) = either_of (nat_eq n 2)
either_in (Some (integer (negsuc n))) = inl refl
either_in (Some (string s)) = inl refl
either_in (Some (float s)) = inl refl
either_in (Some (boolean s)) = inl refl
either_in (Some (datetime s)) = inl refl
either_in (Some (array s)) = inl refl
either_in (Some (table s)) = inl refl

format_either : (ms : Members) → (format_of ms ≡ 1) ⊎ (format_of ms ≡ 2)
format_either ms = either_in (get_member (codes "format") ms)

count_names : (ds : Items) → length (names_of ds) ≡ count ds
count_names no_items = refl
count_names (item d ds) = ap suc (count_names ds)

count_limits : (format : ℕ) (names : List (List ℕ)) (ds : Items) → length (limits_in format names ds) ≡ count ds
count_limits format names no_items = refl
count_limits format names (item d ds) = ap suc (count_limits format names ds)

none_apart : IsDistinct []
none_apart = λ i j d lt w. absurd (omega (arith, lt, w))

valid_with : (ms : Members) (p : PlainPolicy) → HasPolicy ms p → length p.split ≤ 65535 → length p.detached ≤ 65535 → length p.labels ≤ 65535
    → IsValid (policy_with ms p.labels p.rules)
valid_with ms p h splits detached labels =
    let format = format_of ms in
    let ds = array_at Descriptors ms in
    let ls = array_at Limits ms in
    let names = names_of ds in
    let parts = early_parts ms h.early in
    let fits = formed ms parts.form in
    let twice = apart ms parts.twice in
    let kept = rules_kept format names (at_labels ms) (rule_texts ms) p.rules p.labels (labelled_texts (array_at Ats ms) (array_at Rules ms)) h.rules in
    let q = few (count ls) p.rules h.quantities in
    let n : length names ≡ length (descriptors_in format ds) = count_names ds ∙ sym (count_in format ds) in
    let d8 = few_descriptors ms h.early in
    let dc = count_in format ds in
    let lc = count_limits format names ls in
    let l12 = q.few_limits in
    let same : length p.split ≡ length (names_of (array_at Split ms)) = ap (λ (x : PlainPolicy). length x.split) h.is in
    let same_detached : length p.detached ≡ length (names_of (array_at Detached ms)) = ap (λ (x : PlainPolicy). length x.detached) h.is in
    record {
      descriptors = valid_descriptors format ds fits.descriptors;
      labels = kept.names (labels_named [] (array_at Ats ms) (All-nil _) fits.labels);
      distinct_descriptors = subst IsDistinct (sym (table_names format ds)) (not_twice [] 0 names twice.descriptors none_apart);
      distinct_labels = kept.distinct (labels_apart [] (array_at Ats ms) none_apart);
      distinct_splits = not_twice [] 0 (names_of (array_at Split ms)) twice.splits none_apart;
      distinct_detached = not_twice [] 0 (names_of (array_at Detached ms)) twice.detached none_apart;
      few_descriptors = omega (arith, d8, dc);
      few_limits = omega (arith, lc, l12);
      few_rules = q.few_rules;
      few_positions = q.few_positions;
      shallow = kept.shallow;
      few_splits = omega (arith, same, splits);
      few_labels = labels;
      few_detached = omega (arith, same_detached, detached);
      format = format_either ms;
      limits = subst (λ k. All (IsLimitWithin k) (limits_in format names ls)) n (limits_within format names 0 ls (limits_known ms parts.unknown));
      rules = subst (λ k. All (λ (r : PlainRule). IsTreeWithin k (length p.labels) r.bad) p.rules) n kept.within;
    }

pub is_valid : SpelledAreValid
is_valid text p s = subst IsValid (sym s.has.is) (valid_with s.tree p s.has s.few_splits s.few_detached s.few_labels)
