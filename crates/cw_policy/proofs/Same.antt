-- A text spells at most one policy, and none where it is refused; and it is refused by one fault.
use Rattle.std.proofs.Common.{◌≡◌, ◌≢◌, ◌⊎◌, inl, inr, ◌<◌, ◌≤◌, ◌+◌, ℕ, List, [], ◌∷◌, ◌++◌, Option, Some, None, length, take, drop, refl, sym, ap, ap₂, ◌∙◌, subst, arith, append_assoc}
use Rattle.std.specs.Str.{IsUtf8}
use Rattle.std.proofs.lemmas.Bool.{cases_order}
use Rattle.std.proofs.lemmas.List.{take-take}
use Rattle.std.proofs.lemmas.Option.{none-some, same_Some}
use Rattle.toml.specs.Data.{Members}
use Rattle.toml.specs.Parse.{parse_document}
use Rattle.cw_rights.specs.Trees.{Tree}
use Rattle.cw_rights.specs.Policies.{PlainRule, PlainPolicy}
use Rattle.cw_regex.specs.declared.read.RegexFault.{RegexFault}
use Rattle.cw_regex.specs.declared.read.RegexFault.TheVariants.{At as At', UnknownDescriptor, UnknownRight, TooDeep, NoMemory as NoMemory'}
use Rattle.cw_regex.specs.Grammar.{IsTest, IsExpression, IsFaultAt, depth}
use Rattle.cw_regex.specs.Meaning.{meaning}
use Rattle.cw_regex.specs.declared.unknown.Unknown.{Unknown as Unknown'}
use Rattle.cw_regex.specs.declared.unknown.Unknown.TheVariants.{Descriptor, Right}
use Rattle.cw_regex.specs.Causes.{IsTestFault, IsRegexFault, IsUnknown, IsShallow, IsDeep, fault_of}
use Rattle.cw_regex.proofs.Runs.{take_drop}
use Rattle.cw_policy.specs.declared.fault.PolicyFault.{PolicyFault}
use Rattle.cw_policy.specs.declared.fault.PolicyFault.TheVariants.{Toml, Missing, Unknown, Kind, Regex, Limit as TooMany, Twice, NoMemory}
use Rattle.cw_policy.specs.declared.keys.Key.TheVariants.{Limits}
use Rattle.cw_policy.specs.Form.{array_at, format_of}
use Rattle.cw_policy.specs.Names.{count}
use Rattle.cw_policy.specs.Rules.{TestText, ExpressionText, RuleText, tested, written, regex_fault, HasTest, HasExpression, HasRule, HaveRules, IsRuleFault, FirstRefused, rule_texts}
use Rattle.cw_policy.specs.Answer.{descriptor_names, at_labels, quantity_fault, policy_with, HasPolicy, Spells, IsFault, IsFaultOf, IsLateFault, SpellsOnePolicy}
use Rattle.cw_policy.specs.Answer.{RefusedSpellsNone, RefusedHasOneFault}

-- ---- one rule, and one list of rules

abbrev rule_with : List ℕ → Tree → PlainRule
rule_with name bad = record { name = name; bad = bad }

same_rule : (r s : PlainRule) → r.name ≡ s.name → r.bad ≡ s.bad → r ≡ s
same_rule r s n b = ap₂ rule_with n b

record Same (r s : PlainRule) (a b : List (List ℕ)) : Type 0 where
  rule : r ≡ s
  after : a ≡ b

one_test : (format : ℕ) (d labels : List (List ℕ)) (t : TestText) (r s : PlainRule) → HasTest format d labels t r → HasTest format d labels t s → r ≡ s
one_test format d labels t r s h k = by h.is
  where
    by : IsTest t.text → r ≡ s
    by (form, spelled) = same_rule r s (h.name ∙ sym k.name) (h.means form spelled ∙ sym (k.means form spelled))

one_expression : (format : ℕ) (d labels : List (List ℕ)) (x : ExpressionText) (r s : PlainRule) (a b : List (List ℕ))
    → HasExpression format d labels x r a → HasExpression format d labels x s b → Same r s a b
one_expression format d labels x r s a b h k = by h.is
  where
    by : IsExpression x.text → Same r s a b
    by (e, spelled) =
        let after : a ≡ b = h.grown e spelled ∙ sym (k.grown e spelled) in
        let bad : r.bad ≡ s.bad = h.means e spelled ∙ ap (λ (l : List (List ℕ)). meaning format l d e) after ∙ sym (k.means e spelled) in
        record { rule = same_rule r s (h.name ∙ sym k.name) bad; after = after }

one_rule : (format : ℕ) (d labels : List (List ℕ)) (t : RuleText) (r s : PlainRule) (a b : List (List ℕ)) → HasRule format d labels t r a → HasRule format d labels t s b → Same r s a b
one_rule format d labels (tested t) r s a b (h, f) (k, g) = record { rule = one_test format d labels t r s h k; after = f ∙ sym g }
one_rule format d labels (written x) r s a b h k = one_expression format d labels x r s a b h k

record SameRules (rs ss : List PlainRule) (a b : List (List ℕ)) : Type 0 where
  same : rs ≡ ss
  after : a ≡ b

one_list : (format : ℕ) (d labels : List (List ℕ)) (ts : List RuleText) (rs ss : List PlainRule) (a b : List (List ℕ))
    → HaveRules format d labels ts rs a → HaveRules format d labels ts ss b → SameRules rs ss a b
one_list format d labels [] rs ss a b (e, f) (g, h) = record { same = e ∙ sym g; after = f ∙ sym h }
one_list format d labels (t ∷ ts) rs ss a b (r, more, next, e, h, hs) (s, rest, last, f, k, ks) =
    let one = one_rule format d labels t r s next last h k in
    let moved : HaveRules format d next ts rest b = subst (λ (l : List (List ℕ)). HaveRules format d l ts rest b) (sym one.after) ks in
    let all = one_list format d next ts more rest a b hs moved in
    record { same = e ∙ ap₂ (λ x xs. x ∷ xs) one.rule all.same ∙ sym f; after = all.after }

-- ---- one policy

pub one_policy : SpellsOnePolicy
one_policy text p q s k =
    let trees : s.tree ≡ k.tree = same_Some s.tree k.tree (sym s.parsed ∙ k.parsed) in
    let other : HasPolicy s.tree q = subst (λ (t : Members). HasPolicy t q) (sym trees) k.has in
    let same = one_list (format_of s.tree) (descriptor_names s.tree) (at_labels s.tree) (rule_texts s.tree) p.rules q.rules p.labels q.labels s.has.rules other.rules in
    s.has.is ∙ ap₂ (policy_with s.tree) same.after same.same ∙ sym other.is

-- ---- no policy where there is a fault

none_found : {A : Type 0} {P : Type 0} (o : Option A) (x : A) → o ≡ None → o ≡ Some x → P
none_found o x e f = absurd (none-some x (sym e ∙ f))

good_test : (format : ℕ) (d labels : List (List ℕ)) (t : TestText) (r : PlainRule) (e : RegexFault) → HasTest format d labels t r → IsTestFault format d t.text e → ⊥
good_test format d labels t r (At' n) h f = f.outside h.is
good_test format d labels t r (UnknownDescriptor n) h f = none_found _ _ h.known f.1
good_test format d labels t r (UnknownRight n) h f = none_found _ _ h.known f.1
good_test format d labels t r TooDeep h f = f
good_test format d labels t r NoMemory' h f = f

too_deep : (text : List ℕ) → IsExpression text → IsShallow text → IsDeep text → ⊥
too_deep text (e, s) l m = let a : depth e ≤ 64 = l e s in let b : 64 < depth e = m e s in absurd (omega (arith, a, b))

good_expression : (format : ℕ) (d labels : List (List ℕ)) (x : ExpressionText) (r : PlainRule) (a : List (List ℕ)) (e : RegexFault) (f : PolicyFault)
    → HasExpression format d labels x r a → IsRegexFault format d x.text e → f ≡ regex_fault x.index e → f ≡ NoMemory
good_expression format d labels x r a (At' n) f h k is = absurd (k.outside h.is)
good_expression format d labels x r a (UnknownDescriptor n) f h k is = none_found _ _ h.known k.2
good_expression format d labels x r a (UnknownRight n) f h k is = none_found _ _ h.known k.2
good_expression format d labels x r a TooDeep f h k is = absurd (too_deep x.text h.is h.shallow k.1)
good_expression format d labels x r a NoMemory' f h k is = is

good_rule : (format : ℕ) (d labels : List (List ℕ)) (t : RuleText) (r : PlainRule) (a : List (List ℕ)) (f : PolicyFault) → HasRule format d labels t r a → IsRuleFault format d t f → f ≡ NoMemory
good_rule format d labels (tested t) r a f (h, same) (e, k, is) = absurd (good_test format d labels t r e h k)
good_rule format d labels (written x) r a f h (e, k, is) = good_expression format d labels x r a e f h k is

not_refused : (format : ℕ) (d labels : List (List ℕ)) (ts : List RuleText) (rs : List PlainRule) (a : List (List ℕ)) (f : PolicyFault)
    → HaveRules format d labels ts rs a → FirstRefused format d labels ts f → f ≡ NoMemory
not_refused format d labels [] rs a f h k = absurd k
not_refused format d labels (t ∷ ts) rs a f (r, more, next, e, h, hs) (inl k) = good_rule format d labels t r next f h k
not_refused format d labels (t ∷ ts) rs a f (r, more, next, e, h, hs) (inr (s, last, k, ks)) =
    let one = one_rule format d labels t r s next last h k in
    not_refused format d next ts more a f hs (subst (λ (l : List (List ℕ)). FirstRefused format d l ts f) (sym one.after) ks)

no_fault : (ms : Members) (p : PlainPolicy) (f : PolicyFault) → HasPolicy ms p → IsFaultOf ms f → f ≡ NoMemory
no_fault ms p f h (inl e) = none_found _ _ h.early e
no_fault ms p f h (inr (e, inl k)) = not_refused (format_of ms) (descriptor_names ms) (at_labels ms) (rule_texts ms) p.rules p.labels f h.rules k
no_fault ms p f h (inr (e, inr (rules, labels, k, q))) =
    let same = one_list (format_of ms) (descriptor_names ms) (at_labels ms) (rule_texts ms) rules p.rules labels p.labels k h.rules in
    let none = subst (λ (rs : List PlainRule). quantity_fault (count (array_at Limits ms)) rs ≡ None) (sym same.same) h.quantities in
    none_found _ _ none q

in_tree : (text : List ℕ) (p : PlainPolicy) (f : PolicyFault) → Spells text p → (tree : Members) → parse_document text ≡ Some tree → IsFaultOf tree f → f ≡ NoMemory
in_tree text p f s tree parsed k =
    let trees : tree ≡ s.tree = same_Some tree s.tree (sym parsed ∙ s.parsed) in
    no_fault s.tree p f s.has (subst (λ (t : Members). IsFaultOf t f) trees k)

pub refused_spells_none : RefusedSpellsNone
refused_spells_none text p Toml s k = none_found _ _ (k s.utf8) s.parsed
refused_spells_none text p (Missing x) s (u, (tree, parsed, k)) = in_tree text p (Missing x) s tree parsed k
refused_spells_none text p (Unknown x) s (u, (tree, parsed, k)) = in_tree text p (Unknown x) s tree parsed k
refused_spells_none text p (Kind x) s (u, (tree, parsed, k)) = in_tree text p (Kind x) s tree parsed k
refused_spells_none text p (Regex i x) s (u, (tree, parsed, k)) = in_tree text p (Regex i x) s tree parsed k
refused_spells_none text p (TooMany x) s (u, (tree, parsed, k)) = in_tree text p (TooMany x) s tree parsed k
refused_spells_none text p (Twice x) s (u, (tree, parsed, k)) = in_tree text p (Twice x) s tree parsed k
refused_spells_none text p NoMemory s k = refl

-- ---- one fault

one_path : (L : List ℕ → Type 0) (text : List ℕ) (n m : ℕ) → IsFaultAt L text n → IsFaultAt L text m → n < m → ⊥
one_path L text n m a b lt =
    let within = b.within in
    let short : n < length text = omega (arith, lt, within) in
    let front = b.front in
    let cut : take (n + 1) (take m text) ≡ take (n + 1) text = take-take (n + 1) m text (omega (arith, lt)) in
    let whole : take m text ++ front.0 ≡ take (n + 1) text ++ (drop (n + 1) (take m text) ++ front.0) =
    ap (λ (l : List ℕ). l ++ front.0) (take_drop (take m text) (n + 1))
    ∙ append_assoc (take (n + 1) (take m text)) (drop (n + 1) (take m text)) front.0
    ∙ ap (λ (l : List ℕ). l ++ (drop (n + 1) (take m text) ++ front.0)) cut in
    a.stuck short (drop (n + 1) (take m text) ++ front.0) (subst L whole front.1)

one_at : (L : List ℕ → Type 0) (text : List ℕ) (n m : ℕ) → IsFaultAt L text n → IsFaultAt L text m → n ≡ m
one_at L text n m a b = by (cases_order n m)
  where
    by : (n ≡ m) ⊎ ((n < m) ⊎ (m < n)) → n ≡ m
    by (inl e) = e
    by (inr (inl lt)) = absurd (one_path L text n m a b lt)
    by (inr (inr lt)) = absurd (one_path L text m n b a lt)

one_unknown : (format : ℕ) (d : List (List ℕ)) (text : List ℕ) (u v : Unknown') → IsUnknown format d text u → IsUnknown format d text v → u ≡ v
one_unknown format d text u v a b = same_Some u v (sym a ∙ b)

one_regex_fault : (format : ℕ) (d : List (List ℕ)) (text : List ℕ) (e f : RegexFault) → e ≢ NoMemory' → f ≢ NoMemory'
    → IsRegexFault format d text e → IsRegexFault format d text f → e ≡ f
one_regex_fault format d text (At' n) (At' m) h k a b = ap (λ x. At' x) (one_at IsExpression text n m a b)
one_regex_fault format d text (At' n) TooDeep h k a b = absurd (a.outside b.0)
one_regex_fault format d text (At' n) (UnknownDescriptor m) h k a b = absurd (a.outside b.0)
one_regex_fault format d text (At' n) (UnknownRight m) h k a b = absurd (a.outside b.0)
one_regex_fault format d text (At' n) NoMemory' h k a b = absurd (k refl)
one_regex_fault format d text TooDeep (At' m) h k a b = absurd (b.outside a.0)
one_regex_fault format d text TooDeep TooDeep h k a b = refl
one_regex_fault format d text TooDeep (UnknownDescriptor m) h k a b = absurd (too_deep text a.0 b.1 a.1)
one_regex_fault format d text TooDeep (UnknownRight m) h k a b = absurd (too_deep text a.0 b.1 a.1)
one_regex_fault format d text TooDeep NoMemory' h k a b = absurd (k refl)
one_regex_fault format d text (UnknownDescriptor n) (At' m) h k a b = absurd (b.outside a.0)
one_regex_fault format d text (UnknownDescriptor n) TooDeep h k a b = absurd (too_deep text b.0 a.1 b.1)
one_regex_fault format d text (UnknownDescriptor n) (UnknownDescriptor m) h k a b = ap fault_of (one_unknown format d text (Descriptor n) (Descriptor m) a.2 b.2)
one_regex_fault format d text (UnknownDescriptor n) (UnknownRight m) h k a b = ap fault_of (one_unknown format d text (Descriptor n) (Right m) a.2 b.2)
one_regex_fault format d text (UnknownDescriptor n) NoMemory' h k a b = absurd (k refl)
one_regex_fault format d text (UnknownRight n) (At' m) h k a b = absurd (b.outside a.0)
one_regex_fault format d text (UnknownRight n) TooDeep h k a b = absurd (too_deep text b.0 a.1 b.1)
one_regex_fault format d text (UnknownRight n) (UnknownDescriptor m) h k a b = ap fault_of (one_unknown format d text (Right n) (Descriptor m) a.2 b.2)
one_regex_fault format d text (UnknownRight n) (UnknownRight m) h k a b = ap fault_of (one_unknown format d text (Right n) (Right m) a.2 b.2)
one_regex_fault format d text (UnknownRight n) NoMemory' h k a b = absurd (k refl)
one_regex_fault format d text NoMemory' f h k a b = absurd (h refl)

-- want of memory is the fault of want of memory
no_memory : (index : ℕ) (e : RegexFault) (f : PolicyFault) → f ≢ NoMemory → f ≡ regex_fault index e → e ≢ NoMemory'
no_memory index e f ne is same = ne (is ∙ ap (regex_fault index) same)

one_rule_fault : (format : ℕ) (d : List (List ℕ)) (t : RuleText) (f g : PolicyFault) → f ≢ NoMemory → g ≢ NoMemory → IsRuleFault format d t f → IsRuleFault format d t g → f ≡ g
one_rule_fault format d (tested t) f g h k (e, a, is) (l, b, other) = is ∙ sym other
one_rule_fault format d (written x) f g h k (e, a, is) (l, b, other) =
    is ∙ ap (regex_fault x.index) (one_regex_fault format d x.text e l (no_memory x.index e f h is) (no_memory x.index l g k other) a b) ∙ sym other

one_refused : (format : ℕ) (d labels : List (List ℕ)) (ts : List RuleText) (f g : PolicyFault) → f ≢ NoMemory → g ≢ NoMemory
    → FirstRefused format d labels ts f → FirstRefused format d labels ts g → f ≡ g
one_refused format d labels [] f g h k a b = absurd a
one_refused format d labels (t ∷ ts) f g h k (inl a) (inl b) = one_rule_fault format d t f g h k a b
one_refused format d labels (t ∷ ts) f g h k (inl a) (inr (r, next, has, b)) = absurd (h (good_rule format d labels t r next f has a))
one_refused format d labels (t ∷ ts) f g h k (inr (r, next, has, a)) (inl b) = absurd (k (good_rule format d labels t r next g has b))
one_refused format d labels (t ∷ ts) f g h k (inr (r, next, has, a)) (inr (s, last, other, b)) =
    let one = one_rule format d labels t r s next last has other in
    one_refused format d next ts f g h k a (subst (λ (l : List (List ℕ)). FirstRefused format d l ts g) (sym one.after) b)

one_late : (ms : Members) (f g : PolicyFault) → f ≢ NoMemory → g ≢ NoMemory → IsLateFault ms f → IsLateFault ms g → f ≡ g
one_late ms f g h k (inl a) (inl b) = one_refused (format_of ms) (descriptor_names ms) (at_labels ms) (rule_texts ms) f g h k a b
one_late ms f g h k (inl a) (inr (rules, labels, has, b)) = absurd (h (not_refused (format_of ms) (descriptor_names ms) (at_labels ms) (rule_texts ms) rules labels f has a))
one_late ms f g h k (inr (rules, labels, has, a)) (inl b) = absurd (k (not_refused (format_of ms) (descriptor_names ms) (at_labels ms) (rule_texts ms) rules labels g has b))
one_late ms f g h k (inr (rules, labels, has, a)) (inr (others, names, other, b)) =
    let same = one_list (format_of ms) (descriptor_names ms) (at_labels ms) (rule_texts ms) rules others labels names has other in
    same_Some f g (sym a ∙ ap (λ (rs : List PlainRule). quantity_fault (count (array_at Limits ms)) rs) same.same ∙ b)

one_of : (ms : Members) (f g : PolicyFault) → f ≢ NoMemory → g ≢ NoMemory → IsFaultOf ms f → IsFaultOf ms g → f ≡ g
one_of ms f g h k (inl a) (inl b) = same_Some f g (sym a ∙ b)
one_of ms f g h k (inl a) (inr (none, b)) = none_found _ _ none a
one_of ms f g h k (inr (none, a)) (inl b) = none_found _ _ none b
one_of ms f g h k (inr (none, a)) (inr (nor, b)) = one_late ms f g h k a b

-- a fault that isn't TOML's is of the tree
abbrev InTree : List ℕ → PolicyFault → Type 0
InTree text f = (f ≡ Toml) ⊎ ((f ≢ Toml) × IsUtf8 text × ((tree : Members) × (parse_document text ≡ Some tree) × IsFaultOf tree f))

tree_of_fault : (text : List ℕ) (f : PolicyFault) → f ≢ NoMemory → IsFault text f → InTree text f
tree_of_fault text Toml h a = inl refl
tree_of_fault text (Missing x) h a = inr ((λ e. cc), a.0, a.1)
tree_of_fault text (Unknown x) h a = inr ((λ e. cc), a.0, a.1)
tree_of_fault text (Kind x) h a = inr ((λ e. cc), a.0, a.1)
tree_of_fault text (Regex i x) h a = inr ((λ e. cc), a.0, a.1)
tree_of_fault text (TooMany x) h a = inr ((λ e. cc), a.0, a.1)
tree_of_fault text (Twice x) h a = inr ((λ e. cc), a.0, a.1)
tree_of_fault text NoMemory h a = absurd (h refl)

not_toml : (text : List ℕ) (f g : PolicyFault) → f ≡ Toml → IsFault text f → IsUtf8 text → (tree : Members) → parse_document text ≡ Some tree → ⊥
not_toml text f g e a utf8 tree parsed = none_found _ _ (subst (IsFault text) e a utf8) parsed

pub one_fault : RefusedHasOneFault
one_fault text f g h k a b = by (tree_of_fault text f h a) (tree_of_fault text g k b)
  where
    by : InTree text f → InTree text g → f ≡ g
    by (inl e) (inl i) = e ∙ sym i
    by (inl e) (inr (ne, utf8, (tree, parsed, is))) = absurd (not_toml text f g e a utf8 tree parsed)
    by (inr (ne, utf8, (tree, parsed, is))) (inl e) = absurd (not_toml text g f e b utf8 tree parsed)
    by (inr (ne, utf8, (tree, parsed, is))) (inr (nor, utf, (other, read, also))) =
        let trees : other ≡ tree = same_Some other tree (sym read ∙ parsed) in
        one_of tree f g h k is (subst (λ (t : Members). IsFaultOf t g) trees also)
