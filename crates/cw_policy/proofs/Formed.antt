-- What a tree has that has the form.
use Rattle.std.proofs.Common.{◌≡◌, ℕ, suc, List, [], ◌∷◌, Bool, true, false, ◌&&◌, cond, Option, Some, None, refl, sym}
use Rattle.std.specs.Prelude.{codes, is_none}
use Rattle.std.proofs.lemmas.Option.{none-some}
use Rattle.std.proofs.lemmas.Bool.{true≢false}
use Rattle.toml.specs.Data.{Data, string, integer, float, boolean, datetime, array, table, Items, no_items, item, Members, get, get_member}
use Rattle.cw_rights.specs.Valid.{is_name}
use Rattle.cw_regex.specs.Grammar.{is_descriptor}
use Rattle.cw_policy.specs.declared.keys.Section.{Section}
use Rattle.cw_policy.specs.declared.keys.Section.TheVariants.{Root, Descriptor, Limit, At, Rule}
use Rattle.cw_policy.specs.declared.keys.Key.{Key}
use Rattle.cw_policy.specs.declared.keys.Key.TheVariants.{Descriptors, Limits, Ats, Rules, Name, Label}
use Rattle.cw_policy.specs.Keys.{keys_of, key_text, is_required}
use Rattle.cw_policy.specs.Form.{or_else, first_in, items_at, text_at, array_at, format_of}
use Rattle.cw_policy.specs.Form.{is_item, is_single, is_value, wrong_item, wrong_array, wrong_at, or_wrong, wrong_key, is_missing, missing_key, has_only, fault_of, table_fault}
use Rattle.cw_policy.specs.Form.{element_fault, array_fault, form_fault}
use Rattle.cw_policy.specs.Names.{name_of}
use Rattle.cw_policy.proofs.Whole.{both_none}

abbrev pub EachItem : (Data → Type 0) → Items → Type 0
EachItem P no_items = Unit {0}
EachItem P (item d ds) = P d × EachItem P ds

abbrev EachKey : (Key → Type 0) → List Key → Type 0
EachKey P [] = Unit {0}
EachKey P (k ∷ ks) = P k × EachKey P ks

-- what may stand at a key
abbrev ItemsFit : Key → Data → Type 0
ItemsFit k (array ds) = EachItem (λ d. is_item k d ≡ true) ds
ItemsFit k _ = ⊥

abbrev FitsAs : Bool → Key → Data → Type 0
FitsAs true k d = is_value k d ≡ true
FitsAs false k d = ItemsFit k d

abbrev KeyFits : Key → Option Data → Type 0
KeyFits k None = is_required k ≡ false
KeyFits k (Some d) = FitsAs (is_single k) k d

abbrev TableFits : Section → Members → Type 0
TableFits s ms = EachKey (λ k. KeyFits k (get_member (key_text k) ms)) (keys_of s)

abbrev ElementFits : Section → Data → Type 0
ElementFits s (table ms) = TableFits s ms
ElementFits s _ = Unit {0}

-- ---- one table

parts : (s : Section) (i : ℕ) (m : Option Key) (o : Bool) (w : Option (Key × ℕ)) → fault_of s i m o w ≡ None → (m ≡ None) × (o ≡ true) × (w ≡ None)
parts s i (Some k) o w e = absurd (none-some _ (sym e))
parts s i None false w e = absurd (none-some _ (sym e))
parts s i None true (Some x) e = absurd (none-some _ (sym e))
parts s i None true None e = (refl, refl, refl)

fits_item : (b : Bool) (n : ℕ) → cond b None (Some n) ≡ None → b ≡ true
fits_item true n e = refl
fits_item false n e = absurd (none-some _ (sym e))

items_fit : (k : Key) (n : ℕ) (ds : Items) → first_in (wrong_item k) n ds ≡ None → EachItem (λ d. is_item k d ≡ true) ds
items_fit k n no_items e = tt
items_fit k n (item d ds) e =
    let (here, more) = both_none (wrong_item k n d) (first_in (wrong_item k) (suc n) ds) e in
    (fits_item (is_item k d) n here, items_fit k (suc n) ds more)

array_fits : (k : Key) (d : Data) → wrong_array k d ≡ None → ItemsFit k d
array_fits k (array ds) e = items_fit k 1 ds e
array_fits k (string s) e = absurd (none-some _ (sym e))
array_fits k (integer s) e = absurd (none-some _ (sym e))
array_fits k (float s) e = absurd (none-some _ (sym e))
array_fits k (boolean s) e = absurd (none-some _ (sym e))
array_fits k (datetime s) e = absurd (none-some _ (sym e))
array_fits k (table s) e = absurd (none-some _ (sym e))

abbrev none_or : Bool → Option ℕ
none_or b = cond b None (Some 0)

value_fits : (b : Bool) (k : Key) (d : Data) → cond b (none_or (is_value k d)) (wrong_array k d) ≡ None → FitsAs b k d
value_fits true k d e = fits_item (is_value k d) 0 e
value_fits false k d e = array_fits k d e

key_fits : (k : Key) (o : Option Data) → (is_required k && is_none o) ≡ false → wrong_at k o ≡ None → KeyFits k o
key_fits k None m w = by (is_required k) refl m
  where
    by : (b : Bool) → is_required k ≡ b → (b && true) ≡ false → is_required k ≡ false
    by true t e = absurd (true≢false e)
    by false t e = t
key_fits k (Some d) m w = value_fits (is_single k) k d w

keys_fit : (ks : List Key) (ms : Members) → missing_key ks ms ≡ None → wrong_key ks ms ≡ None → EachKey (λ k. KeyFits k (get_member (key_text k) ms)) ks
keys_fit [] ms m w = tt
keys_fit (k ∷ ks) ms m w = by (keys_fit ks ms) (is_missing k ms) refl (wrong_at k (get_member (key_text k) ms)) refl m w
  where
    by : (missing_key ks ms ≡ None → wrong_key ks ms ≡ None → EachKey (λ x. KeyFits x (get_member (key_text x) ms)) ks)
        → (b : Bool) → is_missing k ms ≡ b → (o : Option ℕ) → wrong_at k (get_member (key_text k) ms) ≡ o
        → cond b (Some k) (missing_key ks ms) ≡ None → or_wrong k o (wrong_key ks ms) ≡ None
        → KeyFits k (get_member (key_text k) ms) × EachKey (λ x. KeyFits x (get_member (key_text x) ms)) ks
    by more true t o u m w = absurd (none-some _ (sym m))
    by more false t (Some n) u m w = absurd (none-some _ (sym w))
    by more false t None u m w = (key_fits k (get_member (key_text k) ms) t u, more m w)

table_fits : (format : ℕ) (s : Section) (i : ℕ) (ms : Members) → table_fault format s i ms ≡ None → (has_only format (keys_of s) ms ≡ true) × TableFits s ms
unfolding table_fault
table_fits format s i ms e =
    let (m, o, w) = parts s i (missing_key (keys_of s) ms) (has_only format (keys_of s) ms) (wrong_key (keys_of s) ms) e in
    (o, keys_fit (keys_of s) ms m w)

element_fits : (format : ℕ) (s : Section) (i : ℕ) (d : Data) → element_fault format s i d ≡ None → ElementFits s d
element_fits format s i (table ms) e = (table_fits format s i ms e).1
element_fits format s i (string x) e = tt
element_fits format s i (integer x) e = tt
element_fits format s i (float x) e = tt
element_fits format s i (boolean x) e = tt
element_fits format s i (datetime x) e = tt
element_fits format s i (array x) e = tt

elements_fit : (format : ℕ) (s : Section) (i : ℕ) (ds : Items) → first_in (element_fault format s) i ds ≡ None → EachItem (ElementFits s) ds
elements_fit format s i no_items e = tt
elements_fit format s i (item d ds) e =
    let (here, more) = both_none (element_fault format s i d) (first_in (element_fault format s) (suc i) ds) e in
    (element_fits format s i d here, elements_fit format s (suc i) ds more)

-- ---- names of descriptors, and labels

name_fits : (o : Option Data) → KeyFits Name o → is_descriptor (text_at o) ≡ true
name_fits None h = absurd (true≢false h)
name_fits (Some (string s)) h = h
name_fits (Some (integer s)) h = absurd (true≢false (sym h))
name_fits (Some (float s)) h = absurd (true≢false (sym h))
name_fits (Some (boolean s)) h = absurd (true≢false (sym h))
name_fits (Some (datetime s)) h = absurd (true≢false (sym h))
name_fits (Some (array s)) h = absurd (true≢false (sym h))
name_fits (Some (table s)) h = absurd (true≢false (sym h))

label_fits : (o : Option Data) → KeyFits Label o → is_name (text_at o) ≡ true
label_fits None h = absurd (true≢false h)
label_fits (Some (string s)) h = h
label_fits (Some (integer s)) h = absurd (true≢false (sym h))
label_fits (Some (float s)) h = absurd (true≢false (sym h))
label_fits (Some (boolean s)) h = absurd (true≢false (sym h))
label_fits (Some (datetime s)) h = absurd (true≢false (sym h))
label_fits (Some (array s)) h = absurd (true≢false (sym h))
label_fits (Some (table s)) h = absurd (true≢false (sym h))

abbrev pub IsNamed : Data → Type 0
IsNamed d = is_descriptor (name_of d) ≡ true

abbrev pub label_in : Data → List ℕ
label_in d = text_at (get (codes "label") d)

abbrev pub IsLabelled : Data → Type 0
IsLabelled d = is_name (label_in d) ≡ true

named : (d : Data) → is_item Descriptors d ≡ true → ElementFits Descriptor d → IsNamed d
named (table ms) t h = name_fits (get_member (codes "name") ms) h.0
named (string s) t h = absurd (true≢false (sym t))
named (integer s) t h = absurd (true≢false (sym t))
named (float s) t h = absurd (true≢false (sym t))
named (boolean s) t h = absurd (true≢false (sym t))
named (datetime s) t h = absurd (true≢false (sym t))
named (array s) t h = absurd (true≢false (sym t))

labelled : (d : Data) → is_item Ats d ≡ true → ElementFits At d → IsLabelled d
labelled (table ms) t h = label_fits (get_member (codes "label") ms) h.0
labelled (string s) t h = absurd (true≢false (sym t))
labelled (integer s) t h = absurd (true≢false (sym t))
labelled (float s) t h = absurd (true≢false (sym t))
labelled (boolean s) t h = absurd (true≢false (sym t))
labelled (datetime s) t h = absurd (true≢false (sym t))
labelled (array s) t h = absurd (true≢false (sym t))

each : (P Q R : Data → Type 0) → ((d : Data) → P d → Q d → R d) → (ds : Items) → EachItem P ds → EachItem Q ds → EachItem R ds
each P Q R f no_items p q = tt
each P Q R f (item d ds) p q = (f d p.0 q.0, each P Q R f ds p.1 q.1)

descriptor_tables : (o : Option Data) → KeyFits Descriptors o → EachItem (λ d. is_item Descriptors d ≡ true) (items_at o)
descriptor_tables None h = tt
descriptor_tables (Some (array ds)) h = h
descriptor_tables (Some (string s)) h = absurd h
descriptor_tables (Some (integer s)) h = absurd h
descriptor_tables (Some (float s)) h = absurd h
descriptor_tables (Some (boolean s)) h = absurd h
descriptor_tables (Some (datetime s)) h = absurd h
descriptor_tables (Some (table s)) h = absurd h

at_tables : (o : Option Data) → KeyFits Ats o → EachItem (λ d. is_item Ats d ≡ true) (items_at o)
at_tables None h = tt
at_tables (Some (array ds)) h = h
at_tables (Some (string s)) h = absurd h
at_tables (Some (integer s)) h = absurd h
at_tables (Some (float s)) h = absurd h
at_tables (Some (boolean s)) h = absurd h
at_tables (Some (datetime s)) h = absurd h
at_tables (Some (table s)) h = absurd h

pub record Formed (ms : Members) : Type 0 where
  pub only : has_only (format_of ms) (keys_of Root) ms ≡ true
  pub descriptors : EachItem IsNamed (array_at Descriptors ms)
  pub labels : EachItem IsLabelled (array_at Ats ms)

pub formed : (ms : Members) → form_fault ms ≡ None → Formed ms
unfolding form_fault
formed ms e =
    let format = format_of ms in
    let at = array_fault format At (array_at Ats ms) in
    let rule = array_fault format Rule (array_at Rules ms) in
    let limit = array_fault format Limit (array_at Limits ms) in
    let descriptor = array_fault format Descriptor (array_at Descriptors ms) in
    let (root, a) = both_none (table_fault format Root 0 ms) (or_else descriptor (or_else limit (or_else at rule))) e in
    let (d, b) = both_none descriptor (or_else limit (or_else at rule)) a in
    let (l, c) = both_none limit (or_else at rule) b in
    let (t, r) = both_none at rule c in
    let (only, keys) = table_fits format Root 0 ms root in
    record {
      only = only;
      descriptors = each (λ d. is_item Descriptors d ≡ true) (ElementFits Descriptor) IsNamed named (array_at Descriptors ms)
          (descriptor_tables (get_member (codes "descriptor") ms) keys.1.1.1.1.1.0) (elements_fit format Descriptor 0 (array_at Descriptors ms) d);
      labels = each (λ d. is_item Ats d ≡ true) (ElementFits At) IsLabelled labelled (array_at Ats ms)
          (at_tables (get_member (codes "at") ms) keys.1.1.1.1.1.1.1.0) (elements_fit format At 0 (array_at Ats ms) t);
    }
