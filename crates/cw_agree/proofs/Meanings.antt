-- What a name is in a run, and what it means to the rules of splitting: a name of the file in the one is a name of the file in the other.
use Rattle.std.proofs.Common.{◌≡◌, ℕ, suc, ◌+◌, List, [], ◌∷◌, ◌++◌, length, map, Bool, true, false, cond, not, ◌||◌, ◌&&◌, Option, Some, None, refl, sym, ap, ◌∙◌, arith, one-add}
use Rattle.std.specs.Prelude.{nat_lt, is_some, is_none}
use Rattle.std.specs.List.{filter, flat_map, list_any, position_or_len, AllByRecursion}
use Rattle.std.specs.Str.{bytes_eq}
use Rattle.std.proofs.lemmas.List.Folds.{list_any-append}
use Rattle.std.proofs.lemmas.Bool.{lt-ltb, or_right, or_left}
use Rattle.cw_lemmas.proofs.Numbers.{nat_lt_suc}
use Rattle.cw_syntax.specs.declared.program.Name.{Name}
use Rattle.cw_syntax.specs.declared.program.Base.TheVariants.{Void}
use Rattle.cw_syntax.specs.Names.{text, number_in}
use Rattle.cw_syntax.specs.Trees.{none, Declared, Declaration, Definition, File}
use Rattle.cw_callgraph.specs.Scoping.{latest, is_shared, is_array, has_shape, global, globals_in, file_scope}
use Rattle.cw_value.specs.Expressions.{Location, Shared, SharedArray, location_of, own_by, shared_by}
use Rattle.cw_value.specs.Machines.{Source, scope_in, own_names, shared_names, globals, items_in, names_of, parameters as parameter_names, is_array as has_brackets, is_plain}

-- The rules' own data can't be named here: they are the types of what they say of some declaration.
abbrev pub type_of : {A : Type 0} → A → Type 0
type_of {A} a = A

abbrev pub some_item : Declared
some_item = record { kind = record { base = Void; unsigned = false; stars = 0 }; name = record { from = 0; to = 0 }; array = None; init = none; braces = false }

abbrev pub Known : Type 0
Known = type_of (global true some_item)

abbrev pub Meaning : Type 0
Meaning = type_of ((global true some_item).means)

-- an array or a variable of file scope
abbrev pub shape : Bool → Meaning
shape b = (global b some_item).means

-- ---- a name is in a list where it has a number there

below_any : {X : Type 0} (p : X → Bool) (xs : List X) → nat_lt (position_or_len p xs) (length xs) ≡ list_any p xs
below_any p [] = refl
below_any p (x ∷ xs) = by_head (p x) (below_any p xs) where
  by_head : (b : Bool) → nat_lt (position_or_len p xs) (length xs) ≡ list_any p xs
      → nat_lt (cond (not b) (1 + position_or_len p xs) 0) (suc (length xs)) ≡ (b || list_any p xs)
  by_head true e = lt-ltb 0 (suc (length xs)) (omega arith)
  by_head false e = ap (λ n. nat_lt n (suc (length xs))) (one-add (position_or_len p xs)) ∙ nat_lt_suc (position_or_len p xs) (length xs) ∙ e

some_where : (b : Bool) (n : ℕ) → is_some (cond b (Some n) None) ≡ b
some_where true n = refl
some_where false n = refl

pub is_listed : (names : List (List ℕ)) (name : List ℕ) → is_some (number_in names name) ≡ list_any (bytes_eq name) names
is_listed names name = some_where (nat_lt (position_or_len (bytes_eq name) names) (length names)) (position_or_len (bytes_eq name) names) ∙ below_any (bytes_eq name) names

-- ---- locations

-- a name of the file
abbrev pub is_file : Location → Bool
is_file (Shared n) = true
is_file (SharedArray n) = true
is_file _ = false

-- and an array there
abbrev pub is_file_array : Location → Bool
is_file_array (SharedArray n) = true
is_file_array _ = false

file_location : (a b c d : Option ℕ) → is_file (own_by a b (shared_by c d)) ≡ true → (is_some c || is_some d) ≡ true
file_location (Some n) b c d h = absurd (cc)
file_location None (Some n) c d h = absurd (cc)
file_location None None (Some n) d h = refl
file_location None None None (Some n) h = refl
file_location None None None None h = absurd (cc)

file_array_location : (a b c d : Option ℕ) → is_file_array (own_by a b (shared_by c d)) ≡ true → is_some c ≡ true
file_array_location (Some n) b c d h = absurd (cc)
file_array_location None (Some n) c d h = absurd (cc)
file_array_location None None (Some n) d h = refl
file_array_location None None None (Some n) h = absurd (cc)
file_array_location None None None None h = absurd (cc)

own_location : (a b c d : Option ℕ) → (is_some a || is_some b) ≡ true → is_file (own_by a b (shared_by c d)) ≡ false
own_location (Some n) b c d h = refl
own_location None (Some n) c d h = refl
own_location None None c d h = absurd (cc)

module _ (bytes : List ℕ) (name : List ℕ) where
  -- a declaration with brackets, or one without, gives this name
  abbrev pub named : Bool → Declared → Bool
  named b i = has_shape b i && bytes_eq name (text bytes i.name)

  any_plain : (is : List Declared) → list_any (bytes_eq name) (names_of bytes is_plain is) ≡ list_any (named false) is
  any_plain [] = refl
  any_plain (i ∷ is) = by_shape (is_none i.array) (any_plain is) where
    by_shape : (b : Bool) → list_any (bytes_eq name) (names_of bytes is_plain is) ≡ list_any (named false) is
        → list_any (bytes_eq name) (map (λ (j : Declared). text bytes j.name) (cond b (i ∷ filter is_plain is) (filter is_plain is)))
        ≡ (b && bytes_eq name (text bytes i.name) || list_any (named false) is)
    by_shape true e = ap (λ x. bytes_eq name (text bytes i.name) || x) e
    by_shape false e = e

  any_array : (is : List Declared) → list_any (bytes_eq name) (names_of bytes has_brackets is) ≡ list_any (named true) is
  any_array [] = refl
  any_array (i ∷ is) = by_shape (is_some i.array) (any_array is) where
    by_shape : (b : Bool) → list_any (bytes_eq name) (names_of bytes has_brackets is) ≡ list_any (named true) is
        → list_any (bytes_eq name) (map (λ (j : Declared). text bytes j.name) (cond b (i ∷ filter has_brackets is) (filter has_brackets is)))
        ≡ (b && bytes_eq name (text bytes i.name) || list_any (named true) is)
    by_shape true e = ap (λ x. bytes_eq name (text bytes i.name) || x) e
    by_shape false e = e

  -- ---- the rules' meaning of it

  pub latest_both : (before : Option Meaning) (xs ys : List Known) → latest bytes before (xs ++ ys) name ≡ latest bytes (latest bytes before xs name) ys name
  latest_both before [] ys = refl
  latest_both before (k ∷ ks) ys = latest_both (cond (bytes_eq name (text bytes k.name)) (Some k.means) before) ks ys

  same_over : (c d : Bool) (new : Meaning) (before : Option Meaning) → cond d (Some new) (cond c (Some new) before) ≡ cond (c || d) (Some new) before
  same_over true true new before = refl
  same_over true false new before = refl
  same_over false d new before = refl

  latest_items : (b : Bool) (is : List Declared) (before : Option Meaning)
      → latest bytes before (map (global b) (filter (has_shape b) is)) name ≡ cond (list_any (named b) is) (Some (shape b)) before
  latest_items b [] before = refl
  latest_items b (i ∷ is) before = by_shape (has_shape b i) (latest_items b is) where
    by_shape : (c : Bool)
        → ((then : Option Meaning) → latest bytes then (map (global b) (filter (has_shape b) is)) name ≡ cond (list_any (named b) is) (Some (shape b)) then)
        → latest bytes before (map (global b) (cond c (i ∷ filter (has_shape b) is) (filter (has_shape b) is))) name
        ≡ cond (c && bytes_eq name (text bytes i.name) || list_any (named b) is) (Some (shape b)) before
    by_shape true e =
        e (cond (bytes_eq name (text bytes i.name)) (Some (shape b)) before)
        ∙ same_over (bytes_eq name (text bytes i.name)) (list_any (named b) is) (shape b) before
    by_shape false e = e before

  latest_declared : (b : Bool) (ds : List Declaration) (before : Option Meaning)
      → latest bytes before (flat_map (globals_in b) ds) name ≡ cond (list_any (named b) (flat_map (λ d. d.items) ds)) (Some (shape b)) before
  latest_declared b [] before = refl
  latest_declared b (d ∷ ds) before =
      latest_both before (globals_in b d) (flat_map (globals_in b) ds)
      ∙ ap (λ x. latest bytes x (flat_map (globals_in b) ds) name) (latest_items b d.items before)
      ∙ latest_declared b ds (cond (list_any (named b) d.items) (Some (shape b)) before)
      ∙ same_over (list_any (named b) d.items) (list_any (named b) (flat_map (λ x. x.items) ds)) (shape b) before
      ∙ ap (λ x. cond x (Some (shape b)) before) (sym (list_any-append (named b) d.items (flat_map (λ x. x.items) ds)))

  latest_file : (file : File) → latest bytes None (file_scope file) name
      ≡ cond (list_any (named true) (globals file)) (Some (shape true)) (cond (list_any (named false) (globals file)) (Some (shape false)) None)
  latest_file file =
      latest_both None (flat_map (globals_in false) file.globals) (flat_map (globals_in true) file.globals)
      ∙ ap (λ x. latest bytes x (flat_map (globals_in true) file.globals) name) (latest_declared false file.globals None)
      ∙ latest_declared true file.globals (cond (list_any (named false) (globals file)) (Some (shape false)) None)

  shared_by_shape : (c d : Bool) → (c || d) ≡ true → is_shared (cond c (Some (shape true)) (cond d (Some (shape false)) None)) ≡ true
  shared_by_shape true d h = refl
  shared_by_shape false true h = refl
  shared_by_shape false false h = absurd (cc)

  array_by_shape : (c d : Bool) → c ≡ true → is_array (cond c (Some (shape true)) (cond d (Some (shape false)) None)) ≡ true
  array_by_shape true d h = refl
  array_by_shape false d h = absurd (cc)

  module _ (s : Source) (here : s.bytes ≡ bytes) where
    file_arrays : is_some (number_in (shared_names bytes s.file).arrays name) ≡ list_any (named true) (globals s.file)
    file_arrays = is_listed (shared_names bytes s.file).arrays name ∙ any_array (globals s.file)

    file_plains : is_some (number_in (shared_names bytes s.file).plain name) ≡ list_any (named false) (globals s.file)
    file_plains = is_listed (shared_names bytes s.file).plain name ∙ any_plain (globals s.file)

-- ---- of a function

pub or_both : (a b c d : Bool) → a ≡ c → b ≡ d → (a || b) ≡ (c || d)
or_both a b c d e f = ap (λ x. x || b) e ∙ ap (λ x. c || x) f

module _ (s : Source) (f : Definition) where
  abbrev pub here : List ℕ → Location
  here name = location_of (scope_in s (Some f)) name

  pub file_means : (name : List ℕ) → is_file (here name) ≡ true → is_shared (latest s.bytes None (file_scope s.file) name) ≡ true
  file_means name h =
      let some = file_location (number_in (own_names s.bytes f).arrays name) (number_in (own_names s.bytes f).plain name)
      (number_in (shared_names s.bytes s.file).arrays name) (number_in (shared_names s.bytes s.file).plain name) h in
      let any = sym (or_both _ _ _ _ (file_arrays s.bytes name s refl) (file_plains s.bytes name s refl)) ∙ some in
      ap is_shared (latest_file s.bytes name s.file) ∙ shared_by_shape s.bytes name (list_any (named s.bytes name true) (globals s.file)) (list_any (named s.bytes name false) (globals s.file)) any

  pub file_array_means : (name : List ℕ) → is_file_array (here name) ≡ true → is_array (latest s.bytes None (file_scope s.file) name) ≡ true
  file_array_means name h =
      let some = file_array_location (number_in (own_names s.bytes f).arrays name) (number_in (own_names s.bytes f).plain name)
      (number_in (shared_names s.bytes s.file).arrays name) (number_in (shared_names s.bytes s.file).plain name) h in
      ap is_array (latest_file s.bytes name s.file)
      ∙ array_by_shape s.bytes name (list_any (named s.bytes name true) (globals s.file)) (list_any (named s.bytes name false) (globals s.file)) (sym (file_arrays s.bytes name s refl) ∙ some)

  -- no name of the file
  abbrev pub IsOwn : Name → Type 0
  IsOwn name = is_file (here (text s.bytes name)) ≡ false

  pub listed_own : (name : Name) → (list_any (bytes_eq (text s.bytes name)) (own_names s.bytes f).arrays || list_any (bytes_eq (text s.bytes name)) (own_names s.bytes f).plain) ≡ true → IsOwn name
  listed_own name h =
      let word = text s.bytes name in
      own_location (number_in (own_names s.bytes f).arrays word) (number_in (own_names s.bytes f).plain word)
      (number_in (shared_names s.bytes s.file).arrays word) (number_in (shared_names s.bytes s.file).plain word)
      (or_both _ _ _ _ (is_listed (own_names s.bytes f).arrays word) (is_listed (own_names s.bytes f).plain word) ∙ h)

  -- the items of a list whose names are all among those of the function
  abbrev pub AreOwn : List Declared → Type 0
  AreOwn is = AllByRecursion (λ i. IsOwn i.name) is

  pub item_own : (i : Declared) → (list_any (named s.bytes (text s.bytes i.name) true) (items_in f) || list_any (named s.bytes (text s.bytes i.name) false) (items_in f)) ≡ true → IsOwn i.name
  item_own i h = listed_own i.name (by_shape (list_any (named s.bytes (text s.bytes i.name) true) (items_in f)) (any_array s.bytes (text s.bytes i.name) (items_in f)) h) where
    word : List ℕ
    word = text s.bytes i.name

    plains : list_any (named s.bytes word false) (items_in f) ≡ true → list_any (bytes_eq word) (own_names s.bytes f).plain ≡ true
    plains k = list_any-append (bytes_eq word) (parameter_names s.bytes f) (names_of s.bytes is_plain (items_in f))
        ∙ or_right (list_any (bytes_eq word) (parameter_names s.bytes f)) (list_any (bytes_eq word) (names_of s.bytes is_plain (items_in f))) (any_plain s.bytes word (items_in f) ∙ k)

    by_shape : (c : Bool) → list_any (bytes_eq word) (own_names s.bytes f).arrays ≡ c → (c || list_any (named s.bytes word false) (items_in f)) ≡ true
        → (list_any (bytes_eq word) (own_names s.bytes f).arrays || list_any (bytes_eq word) (own_names s.bytes f).plain) ≡ true
    by_shape true e k = or_left (list_any (bytes_eq word) (own_names s.bytes f).arrays) (list_any (bytes_eq word) (own_names s.bytes f).plain) e
    by_shape false e k = or_right (list_any (bytes_eq word) (own_names s.bytes f).arrays) (list_any (bytes_eq word) (own_names s.bytes f).plain) (plains k)
