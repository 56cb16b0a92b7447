-- One item more of an expression.
use Rattle.std.proofs.Common.{◌≡◌, ◌≢◌, ℕ, List, [], ◌∷◌, false, Option, Some, None, map, drop, refl, sym, ap, ◌∙◌}
use Rattle.cw_regex.specs.declared.text.Sign.{Sign}
use Rattle.cw_regex.specs.declared.text.Sign.TheVariants.{Dot}
use Rattle.cw_regex.specs.Parts.{Part, identifier, sign, parts}
use Rattle.cw_regex.specs.Grammar.{Name, TestForm, Expression, spelled, spelled_tests}
use Rattle.cw_regex.specs.Tokens.{begins_bracket}
use Rattle.cw_regex.specs.Meaning.{number_in, test_meaning, meaning}
use Rattle.cw_regex.specs.Items.{Item, lit, begin, close, bar, many, some, optional, spelled_item, spelled_items, items, Levels, empty, finished, with_literal, put, put_all}
use Rattle.cw_regex.proofs.Built.{items_spelled, built}

pub no_bracket : (is : List Item) → begins_bracket (spelled_items is) ≡ false
no_bracket [] = refl
no_bracket (lit None ts ∷ is) = refl
no_bracket (lit (Some n) ts ∷ is) = refl
no_bracket (begin ∷ is) = refl
no_bracket (close ∷ is) = refl
no_bracket (bar ∷ is) = refl
no_bracket (many ∷ is) = refl
no_bracket (some ∷ is) = refl
no_bracket (optional ∷ is) = refl

pub no_item : (is : List Item) → spelled_items is ≡ [] → is ≡ []
no_item [] e = refl
no_item (lit None ts ∷ is) e = absurd (cc)
no_item (lit (Some n) ts ∷ is) e = absurd (cc)
no_item (begin ∷ is) e = absurd (cc)
no_item (close ∷ is) e = absurd (cc)
no_item (bar ∷ is) e = absurd (cc)
no_item (many ∷ is) e = absurd (cc)
no_item (some ∷ is) e = absurd (cc)
no_item (optional ∷ is) e = absurd (cc)

-- an identifier and a dot are the labels of literals
pub record IdentifierItem (i : Item) (rest ps : List Part) (w : List ℕ) : Type 0 where
  pub name : Name
  pub tests : List TestForm
  pub is : i ≡ lit (Some name) tests
  pub bytes : w ≡ name.bytes
  pub after : ps ≡ spelled_tests tests rest

pub identifier_item : (i : Item) (rest ps : List Part) (w : List ℕ) → identifier w ∷ ps ≡ spelled_item i rest → IdentifierItem i rest ps w
identifier_item (lit None ts) rest ps w e = absurd (cc)
identifier_item (lit (Some n) ts) rest ps w e = record { name = n; tests = ts; is = refl; bytes = cc; after = cc }
identifier_item begin rest ps w e = absurd (cc)
identifier_item close rest ps w e = absurd (cc)
identifier_item bar rest ps w e = absurd (cc)
identifier_item many rest ps w e = absurd (cc)
identifier_item some rest ps w e = absurd (cc)
identifier_item optional rest ps w e = absurd (cc)

pub record DotItem (i : Item) (rest ps : List Part) : Type 0 where
  pub tests : List TestForm
  pub is : i ≡ lit None tests
  pub after : ps ≡ spelled_tests tests rest

pub dot_item : (i : Item) (rest ps : List Part) → sign Dot ∷ ps ≡ spelled_item i rest → DotItem i rest ps
dot_item (lit None ts) rest ps e = record { tests = ts; is = refl; after = cc }
dot_item (lit (Some n) ts) rest ps e = absurd (cc)
dot_item begin rest ps e = absurd (cc)
dot_item close rest ps e = absurd (cc)
dot_item bar rest ps e = absurd (cc)
dot_item many rest ps e = absurd (cc)
dot_item some rest ps e = absurd (cc)
dot_item optional rest ps e = absurd (cc)

module _ (format : ℕ) (labels descriptors : List (List ℕ)) where
  abbrev Reads : List Part → Levels → Levels → Option ℕ → Type 0
  Reads ps s t l = (ts : List TestForm) (rest : List Part) → ps ≡ spelled_tests ts rest → begins_bracket rest ≡ false →
      t ≡ with_literal s (record { label = l; tests = map (test_meaning format descriptors) ts })

  abbrev Rests : List Part → List Part → Type 0
  Rests ps qs = (ts : List TestForm) (rest : List Part) → ps ≡ spelled_tests ts rest → begins_bracket rest ≡ false → qs ≡ rest

  pub identifier_read : (s t : Levels) (n : ℕ) (w : List ℕ) (ps : List Part) → n ≡ number_in labels w → Reads ps s t (Some n) → (i : Item) (rest : List Item) →
      identifier w ∷ ps ≡ spelled_item i (spelled_items rest) → t ≡ put format labels descriptors s i
  identifier_read s t n w ps number reads i rest h =
      let x = identifier_item i (spelled_items rest) ps w h in
      let k : n ≡ number_in labels x.name.bytes = number ∙ ap (number_in labels) x.bytes in
      let z : t ≡ with_literal s (record { label = Some n; tests = map (test_meaning format descriptors) x.tests }) = reads x.tests (spelled_items rest) x.after (no_bracket rest) in
      z ∙ ap (λ m. with_literal s (record { label = Some m; tests = map (test_meaning format descriptors) x.tests })) k ∙ sym (ap (put format labels descriptors s) x.is)

  pub identifier_rest : (w : List ℕ) (ps qs : List Part) → Rests ps qs → (i : Item) (rest : List Item) → identifier w ∷ ps ≡ spelled_item i (spelled_items rest) → qs ≡ spelled_items rest
  identifier_rest w ps qs rests i rest h = let x = identifier_item i (spelled_items rest) ps w h in rests x.tests (spelled_items rest) x.after (no_bracket rest)

  pub dot_read : (s t : Levels) (m : Sign) (ps : List Part) → m ≡ Dot → Reads ps s t None → (i : Item) (rest : List Item) → sign m ∷ ps ≡ spelled_item i (spelled_items rest) →
      t ≡ put format labels descriptors s i
  dot_read s t m ps dot reads i rest h =
      let x = dot_item i (spelled_items rest) ps (ap (λ y. sign y ∷ ps) (sym dot) ∙ h) in
      reads x.tests (spelled_items rest) x.after (no_bracket rest) ∙ sym (ap (put format labels descriptors s) x.is)

  pub dot_rest : (m : Sign) (ps qs : List Part) → m ≡ Dot → Rests ps qs → (i : Item) (rest : List Item) → sign m ∷ ps ≡ spelled_item i (spelled_items rest) → qs ≡ spelled_items rest
  dot_rest m ps qs dot rests i rest h = let x = dot_item i (spelled_items rest) ps (ap (λ y. sign y ∷ ps) (sym dot) ∙ h) in rests x.tests (spelled_items rest) x.after (no_bracket rest)

  abbrev start : Levels
  start = record { inner = empty; outer = [] }

  -- what was put, and what is left to put
  pub record PutSoFar (text : List ℕ) (at : ℕ) (s : Levels) : Type 0 where
    pub left : (e : Expression) → parts text ≡ spelled e [] → (is : List Item) × (parts (drop at text) ≡ spelled_items is) ×
        (put_all format labels descriptors s is ≡ put_all format labels descriptors start (items e []))

  pub put_start : (text : List ℕ) (s : Levels) → s ≡ start → PutSoFar text 0 s
  put_start text s k = record { left = λ e h. (items e [], h ∙ sym (items_spelled e []), ap (λ x. put_all format labels descriptors x (items e [])) k) }

  pub put_step : (text : List ℕ) (at to : ℕ) (s t : Levels) → PutSoFar text at s → parts (drop at text) ≢ [] →
      ((i : Item) (rest : List Item) → parts (drop at text) ≡ spelled_item i (spelled_items rest) → t ≡ put format labels descriptors s i) →
      ((i : Item) (rest : List Item) → parts (drop at text) ≡ spelled_item i (spelled_items rest) → parts (drop to text) ≡ spelled_items rest) → PutSoFar text to t
  put_step text at to s t was some' read after = record { left = λ e h. let x = was.left e h in by (items e []) x.0 x.1 x.2 }
    where
      by : (all : List Item) (is : List Item) → parts (drop at text) ≡ spelled_items is → put_all format labels descriptors s is ≡ put_all format labels descriptors start all →
          (js : List Item) × (parts (drop to text) ≡ spelled_items js) × (put_all format labels descriptors t js ≡ put_all format labels descriptors start all)
      by all [] p q = absurd (some' p)
      by all (i ∷ rest) p q = (rest, after i rest p, ap (λ x. put_all format labels descriptors x rest) (read i rest p) ∙ q)

  pub put_end : (text : List ℕ) (at : ℕ) (s : Levels) → PutSoFar text at s → parts (drop at text) ≡ [] → (e : Expression) → parts text ≡ spelled e [] →
      finished s.inner ≡ meaning format labels descriptors e
  put_end text at s was none e h =
      let x = was.left e h in
      let z = no_item x.0 (sym x.1 ∙ none) in
      let y : s ≡ put_all format labels descriptors start (items e []) = ap (put_all format labels descriptors s) (sym z) ∙ x.2 in
      ap (λ l. finished l.inner) y ∙ built format labels descriptors e
