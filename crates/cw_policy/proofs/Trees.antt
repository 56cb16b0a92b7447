-- No tree is refused as TOML.
use Rattle.std.proofs.Common.{◌≡◌, inl, inr, ℕ, suc, List, [], ◌∷◌, Bool, true, false, Option, Some, None, cond, length}
use Rattle.std.specs.Prelude.{codes, nat_lt}
use Rattle.std.specs.Str.{IsUtf8}
use Rattle.std.proofs.lemmas.Option.{none-some}
use Rattle.toml.specs.Data.{Data, string, integer, float, boolean, datetime, array, table, Items, no_items, item, Members, get}
use Rattle.toml.specs.Parse.{parse_document}
use Rattle.cw_rights.specs.Policies.{PlainRule}
use Rattle.cw_regex.specs.declared.read.RegexFault.{RegexFault}
use Rattle.cw_regex.specs.declared.read.RegexFault.TheVariants.{At as At', UnknownDescriptor, UnknownRight, TooDeep, NoMemory as NoMemory'}
use Rattle.cw_policy.specs.declared.fault.PolicyFault.{PolicyFault}
use Rattle.cw_policy.specs.declared.fault.PolicyFault.TheVariants.{Toml, Missing, Unknown, Kind, Regex, Limit as TooMany, Twice, NoMemory}
use Rattle.cw_policy.specs.declared.keys.Section.{Section}
use Rattle.cw_policy.specs.declared.keys.Section.TheVariants.{Root, Descriptor, Limit, At, Rule}
use Rattle.cw_policy.specs.declared.keys.Key.{Key}
use Rattle.cw_policy.specs.declared.keys.Key.TheVariants.{Split, Detached, Descriptors, Limits, Ats, Rules}
use Rattle.cw_policy.specs.Keys.{keys_of, path}
use Rattle.cw_policy.specs.Form.{or_else, first_in, items_at, text_at, array_at, format_of, missing_key, has_only, wrong_key, fault_of, table_fault, element_fault, array_fault, form_fault}
use Rattle.cw_policy.specs.Names.{is_among, names_of, count, unknown_right, unknown_item, rights_fault, descriptor_unknown, limit_unknown, unknown_fault}
use Rattle.cw_policy.specs.Names.{repeated, twice_table, twice_item, twice_fault, count_fault, early_fault}
use Rattle.cw_policy.specs.Rules.{RuleText, tested, written, OrMemory, regex_fault, IsRuleFault, FirstRefused, rule_texts}
use Rattle.cw_policy.specs.Answer.{positions, quantity_fault, IsFaultOf, IsFault}

abbrev Never : Option PolicyFault → Type 0
Never o = o ≡ Some Toml → ⊥

never_none : Never None
never_none e = none-some Toml e

never_or : (a b : Option PolicyFault) → Never a → Never b → Never (or_else a b)
never_or (Some f) b p q = p
never_or None b p q = q

never_cond : (b : Bool) (x y : Option PolicyFault) → Never x → Never y → Never (cond b x y)
never_cond true x y p q = p
never_cond false x y p q = q

never_in : (test : ℕ → Data → Option PolicyFault) (n : ℕ) (ds : Items) → ((n : ℕ) (d : Data) → Never (test n d)) → Never (first_in test n ds)
never_in test n no_items h = never_none
never_in test n (item d ds) h = never_or (test n d) (first_in test (suc n) ds) (h n d) (never_in test (suc n) ds h)

never_fault : (s : Section) (i : ℕ) (m : Option Key) (o : Bool) (w : Option (Key × ℕ)) → Never (fault_of s i m o w)
never_fault s i (Some k) o w e = cc
never_fault s i None false w e = cc
never_fault s i None true (Some x) e = cc
never_fault s i None true None e = none-some Toml e

never_table : (format : ℕ) (s : Section) (i : ℕ) (ms : Members) → Never (table_fault format s i ms)
unfolding table_fault
never_table format s i ms = never_fault s i (missing_key (keys_of s) ms) (has_only format (keys_of s) ms) (wrong_key (keys_of s) ms)

never_element : (format : ℕ) (s : Section) (i : ℕ) (d : Data) → Never (element_fault format s i d)
never_element format s i (table ms) = never_table format s i ms
never_element format s i (string x) = never_none
never_element format s i (integer x) = never_none
never_element format s i (float x) = never_none
never_element format s i (boolean x) = never_none
never_element format s i (datetime x) = never_none
never_element format s i (array x) = never_none

never_array : (format : ℕ) (s : Section) (ds : Items) → Never (array_fault format s ds)
never_array format s ds = never_in (element_fault format s) 0 ds (never_element format s)

never_form : (ms : Members) → Never (form_fault ms)
unfolding form_fault
never_form ms =
    let format = format_of ms in
    let at = array_fault format At (array_at Ats ms) in
    let rule = array_fault format Rule (array_at Rules ms) in
    let limit = array_fault format Limit (array_at Limits ms) in
    let descriptor = array_fault format Descriptor (array_at Descriptors ms) in
    never_or (table_fault format Root 0 ms) (or_else descriptor (or_else limit (or_else at rule))) (never_table format Root 0 ms)
    (never_or descriptor (or_else limit (or_else at rule)) (never_array format Descriptor (array_at Descriptors ms))
    (never_or limit (or_else at rule) (never_array format Limit (array_at Limits ms))
    (never_or at rule (never_array format At (array_at Ats ms)) (never_array format Rule (array_at Rules ms)))))

never_item : (s : Section) (i k : ℕ) (o : Option ℕ) → Never (unknown_item s i k o)
never_item s i k None e = none-some Toml e
never_item s i k (Some n) e = cc

never_rights : (format : ℕ) (s : Section) (i k : ℕ) (o : Option Data) → Never (rights_fault format s i k o)
never_rights format s i k o = never_item s i k (first_in (unknown_right format) 1 (items_at o))

never_limit : (format : ℕ) (names : List (List ℕ)) (i : ℕ) (d : Data) → Never (limit_unknown format names i d)
never_limit format names i d =
    never_cond (is_among names (text_at (get (codes "descriptor") d))) (rights_fault format Limit i 2 (get (codes "keep") d)) (Some (Unknown (path Limit i 1 0)))
    (never_rights format Limit i 2 (get (codes "keep") d)) (λ e. cc)

never_unknown : (ms : Members) → Never (unknown_fault ms)
unfolding unknown_fault
never_unknown ms =
    let format = format_of ms in
    let ds = array_at Descriptors ms in
    never_or (first_in (descriptor_unknown format) 0 ds) (first_in (limit_unknown format (names_of ds)) 0 (array_at Limits ms))
    (never_in (descriptor_unknown format) 0 ds (λ i d. never_rights format Descriptor i 2 (get (codes "rights") d)))
    (never_in (limit_unknown format (names_of ds)) 0 (array_at Limits ms) (never_limit format (names_of ds)))

never_twice_table : (s : Section) (o : Option ℕ) → Never (twice_table s o)
never_twice_table s None e = none-some Toml e
never_twice_table s (Some n) e = cc

never_twice_item : (key : Key) (o : Option ℕ) → Never (twice_item key o)
never_twice_item key None e = none-some Toml e
never_twice_item key (Some n) e = cc

never_twice : (ms : Members) → Never (twice_fault ms)
unfolding twice_fault
never_twice ms =
    let d = repeated [] 0 (names_of (array_at Descriptors ms)) in
    let s = repeated [] 0 (names_of (array_at Split ms)) in
    let t = repeated [] 0 (names_of (array_at Detached ms)) in
    let r = repeated [] 0 (names_of (array_at Rules ms)) in
    never_or (twice_table Descriptor d) (or_else (twice_item Split s) (or_else (twice_item Detached t) (twice_table Rule r))) (never_twice_table Descriptor d)
    (never_or (twice_item Split s) (or_else (twice_item Detached t) (twice_table Rule r)) (never_twice_item Split s)
    (never_or (twice_item Detached t) (twice_table Rule r) (never_twice_item Detached t) (never_twice_table Rule r)))

never_count : (ms : Members) → Never (count_fault ms)
never_count ms = never_cond (nat_lt 8 (count (array_at Descriptors ms))) _ None (λ e. cc) never_none

never_early : (ms : Members) → Never (early_fault ms)
unfolding early_fault
never_early ms =
    never_or (form_fault ms) (or_else (unknown_fault ms) (or_else (twice_fault ms) (count_fault ms))) (never_form ms)
    (never_or (unknown_fault ms) (or_else (twice_fault ms) (count_fault ms)) (never_unknown ms)
    (never_or (twice_fault ms) (count_fault ms) (never_twice ms) (never_count ms)))

never_regex : (i : ℕ) (e : RegexFault) → Toml ≡ regex_fault i e → ⊥
never_regex i TooDeep e = cc
never_regex i NoMemory' e = cc
never_regex i (At' n) e = cc
never_regex i (UnknownDescriptor n) e = cc
never_regex i (UnknownRight n) e = cc

never_rule : (format : ℕ) (d : List (List ℕ)) (t : RuleText) → IsRuleFault format d t Toml → ⊥
never_rule format d (tested t) (e, h, is) = cc
never_rule format d (written r) (e, h, is) = never_regex r.index e is

never_refused : (format : ℕ) (d labels : List (List ℕ)) (ts : List RuleText) → FirstRefused format d labels ts Toml → ⊥
never_refused format d labels [] h = absurd h
never_refused format d labels (t ∷ ts) (inl h) = never_rule format d t h
never_refused format d labels (t ∷ ts) (inr (r, next, has, more)) = never_refused format d next ts more

never_quantity : (n : ℕ) (rules : List PlainRule) → Never (quantity_fault n rules)
never_quantity n rules =
    never_cond (nat_lt 12 n) _ _ (λ e. cc)
    (never_cond (nat_lt 32 (length rules)) _ _ (λ e. cc)
    (never_cond (nat_lt 64 (positions rules)) _ None (λ e. cc) never_none))

never_tree : (ms : Members) → IsFaultOf ms Toml → ⊥
never_tree ms (inl e) = never_early ms e
never_tree ms (inr (e, inl h)) = never_refused (format_of ms) _ _ (rule_texts ms) h
never_tree ms (inr (e, inr (rules, labels, h, q))) = never_quantity _ rules q

-- the fault of a text whose tree has it
pub fault_is : (text : List ℕ) (tree : Members) (f : PolicyFault) → IsUtf8 text → parse_document text ≡ Some tree → OrMemory (IsFaultOf tree) f → IsFault text f
fault_is text tree Toml u p h = absurd (never_tree tree h)
fault_is text tree (Missing x) u p h = (u, (tree, p, h))
fault_is text tree (Unknown x) u p h = (u, (tree, p, h))
fault_is text tree (Kind x) u p h = (u, (tree, p, h))
fault_is text tree (Regex i x) u p h = (u, (tree, p, h))
fault_is text tree (TooMany x) u p h = (u, (tree, p, h))
fault_is text tree (Twice x) u p h = (u, (tree, p, h))
fault_is text tree NoMemory u p h = tt
