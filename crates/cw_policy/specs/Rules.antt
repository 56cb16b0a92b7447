-- The rules of a policy: the texts that they are read from, what each text spells, and why one is refused.
use Rattle.std.specs.Prelude.{◌≡◌, ◌⊎◌, ℕ, suc, List, [], ◌∷◌, ◌++◌, codes, Bool, true, false, cond, not, Some, None}
use Rattle.toml.specs.Data.{Data, Items, no_items, item, Members, get}
use Rattle.cw_core.specs.declared.quantity.Quantity.TheVariants.{Nesting}
use Rattle.cw_rights.specs.declared.words.Test.{Test}
use Rattle.cw_rights.specs.Trees.{Tree, nothing, one, seq, star}
use Rattle.cw_rights.specs.Policies.{PlainRule}
use Rattle.cw_regex.specs.declared.read.RegexFault.{RegexFault}
use Rattle.cw_regex.specs.declared.read.RegexFault.TheVariants.{TooDeep, NoMemory as NoMemory'}
use Rattle.cw_regex.specs.Parts.{placed}
use Rattle.cw_regex.specs.Grammar.{Expression, TestForm, Spells, SpellsTest, IsExpression, IsTest}
use Rattle.cw_regex.specs.Meaning.{number_in, test_meaning, meaning, labels_of, with_names}
use Rattle.cw_regex.specs.Faults.{first_unknown}
use Rattle.cw_regex.specs.Causes.{IsTestFault, IsRegexFault, IsShallow}
use Rattle.cw_policy.specs.declared.fault.Path.{Path}
use Rattle.cw_policy.specs.declared.fault.PolicyFault.{PolicyFault}
use Rattle.cw_policy.specs.declared.fault.PolicyFault.TheVariants.{Kind, Regex, Limit as TooMany, NoMemory}
use Rattle.cw_policy.specs.declared.keys.Section.TheVariants.{At}
use Rattle.cw_policy.specs.declared.keys.Key.TheVariants.{Ats, Rules}
use Rattle.cw_policy.specs.Keys.{narrow, path}
use Rattle.cw_policy.specs.Form.{items_at, text_at, array_at}
use Rattle.cw_policy.specs.Names.{name_of}

-- the text of a test of a table `at`, with its label, whether the label must have it or never, and its path
pub record TestText : Type 0 where
  pub label : List ℕ
  pub must : Bool
  pub text : List ℕ
  pub path : Path

-- the text of an expression, with its rule's name and the number of its table
pub record ExpressionText : Type 0 where
  pub name : List ℕ
  pub text : List ℕ
  pub index : ℕ

-- The text of a rule: a test of an `at` table, or the expression of a `rule` table.
pub data RuleText : Type 0 where
  tested : TestText → RuleText
  written : ExpressionText → RuleText

-- ---- the texts of the rules in their order: the tests table by table, `must` before `never`, and then the expressions

abbrev pub test_key : Bool → ℕ
test_key must = cond must 2 3

-- the items of a table are counted from 1
abbrev pub tests_in : ℕ → List ℕ → Bool → ℕ → Items → List RuleText
tests_in index label must n no_items = []
tests_in index label must n (item d ds) = tested (record { label = label; must = must; text = name_of d; path = path At index (test_key must) n }) ∷ tests_in index label must (suc n) ds

abbrev pub tests_of_table : ℕ → Data → List RuleText
tests_of_table index d =
    let label = text_at (get (codes "label") d) in
    tests_in index label true 1 (items_at (get (codes "must") d)) ++ tests_in index label false 1 (items_at (get (codes "never") d))

abbrev pub test_texts : ℕ → Items → List RuleText
test_texts index no_items = []
test_texts index (item d ds) = tests_of_table index d ++ test_texts (suc index) ds

abbrev pub expression_texts : ℕ → Items → List RuleText
expression_texts index no_items = []
expression_texts index (item d ds) = written (record { name = name_of d; text = text_at (get (codes "bad") d); index = narrow index }) ∷ expression_texts (suc index) ds

abbrev pub rule_texts : Members → List RuleText
rule_texts ms = test_texts 0 (array_at Ats ms) ++ expression_texts 0 (array_at Rules ms)

-- ---- what they spell

-- each name of the text is known in the format
abbrev pub AreKnown : ℕ → List (List ℕ) → List ℕ → Type 0
AreKnown format descriptors text = first_unknown format descriptors false (placed 0 text) ≡ None

-- `.* L[t]`
abbrev pub bad_words : ℕ → Bool × Test → Tree
bad_words label t = seq (star (one (record { label = None; tests = [] }))) (seq (one (record { label = Some label; tests = t ∷ [] })) nothing)

abbrev pub turned : Bool → Bool × Test → Bool × Test
turned must t = (cond must (not t.0) t.0, t.1)

-- The rule of a test: `must t` has the bad words `.* L[!t]`, and `never t` has `.* L[t]`.
abbrev pub test_name : TestText → List ℕ
test_name t = t.label ++ cond t.must (codes " must ") (codes " never ") ++ t.text

abbrev pub test_words : ℕ → List (List ℕ) → List (List ℕ) → TestText → TestForm → Tree
test_words format descriptors labels t form = bad_words (number_in labels t.label) (turned t.must (test_meaning format descriptors form))

-- With the labels so far the text is a test with this rule.
pub record HasTest (format : ℕ) (descriptors labels : List (List ℕ)) (t : TestText) (rule : PlainRule) : Type 0 where
  pub is : IsTest t.text
  pub known : AreKnown format descriptors t.text
  pub name : rule.name ≡ test_name t
  pub means : (form : TestForm) → SpellsTest t.text form → rule.bad ≡ test_words format descriptors labels t form

-- With the labels so far the text is an expression with this rule, and the labels after it are these: those that the
-- expression names first go to their end, from left to right.
pub record HasExpression (format : ℕ) (descriptors labels : List (List ℕ)) (r : ExpressionText) (rule : PlainRule) (after : List (List ℕ)) : Type 0 where
  pub is : IsExpression r.text
  pub shallow : IsShallow r.text
  pub known : AreKnown format descriptors r.text
  pub name : rule.name ≡ r.name
  pub means : (e : Expression) → Spells r.text e → rule.bad ≡ meaning format after descriptors e
  pub grown : (e : Expression) → Spells r.text e → after ≡ with_names labels (labels_of e [])

abbrev pub HasRule : ℕ → List (List ℕ) → List (List ℕ) → RuleText → PlainRule → List (List ℕ) → Type 0
HasRule format descriptors labels (tested t) rule after = HasTest format descriptors labels t rule × (after ≡ labels)
HasRule format descriptors labels (written r) rule after = HasExpression format descriptors labels r rule after

-- rule by rule
abbrev pub HaveRules : ℕ → List (List ℕ) → List (List ℕ) → List RuleText → List PlainRule → List (List ℕ) → Type 0
HaveRules format descriptors labels [] rules after = (rules ≡ []) × (after ≡ labels)
HaveRules format descriptors labels (t ∷ ts) rules after =
    (rule : PlainRule) × (rest : List PlainRule) × (next : List (List ℕ)) ×
    (rules ≡ rule ∷ rest) × HasRule format descriptors labels t rule next × HaveRules format descriptors next ts rest after

-- ---- why one is refused

-- want of memory may come at any time
abbrev pub OrMemory : (PolicyFault → Type 0) → PolicyFault → Type 0
OrMemory P NoMemory = Unit {0}
OrMemory P f = P f

-- a test is Kind of its item, whatever is wrong with it
abbrev pub regex_fault : ℕ → RegexFault → PolicyFault
regex_fault index TooDeep = TooMany Nesting
regex_fault index NoMemory' = NoMemory
regex_fault index e = Regex index e

abbrev pub IsRuleFault : ℕ → List (List ℕ) → RuleText → PolicyFault → Type 0
IsRuleFault format descriptors (tested t) f = (e : RegexFault) × IsTestFault format descriptors t.text e × (f ≡ Kind t.path)
IsRuleFault format descriptors (written r) f = (e : RegexFault) × IsRegexFault format descriptors r.text e × (f ≡ regex_fault r.index e)

-- the first text that is refused
abbrev pub FirstRefused : ℕ → List (List ℕ) → List (List ℕ) → List RuleText → PolicyFault → Type 0
FirstRefused format descriptors labels [] f = ⊥
FirstRefused format descriptors labels (t ∷ ts) f =
    IsRuleFault format descriptors t f ⊎
    ((rule : PlainRule) × (next : List (List ℕ)) × HasRule format descriptors labels t rule next × FirstRefused format descriptors next ts f)
