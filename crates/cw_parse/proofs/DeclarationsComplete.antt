-- Declarations and headers are read as what they are, or nest too deep.
use Rattle.std.proofs.Common.{◌≡◌, ℕ, ◌<◌, Bool, true, false, List, [], ◌∷◌, ◌++◌, length, Option, Some, None, Ok, refl, sym, ap, ◌∙◌, append_assoc, arith, length-append, inl}
use Rattle.std.proofs.lemmas.Bool.{false≢true}
use Rattle.cw_syntax.specs.declared.program.Name.{Name}
use Rattle.cw_syntax.specs.declared.program.CType.{CType}
use Rattle.cw_syntax.specs.Trees.{Tree, Trees, none, more, Declared, Declaration}
use Rattle.cw_grammar.specs.declared.terminals.Lexeme.{Lexeme}
use Rattle.cw_grammar.specs.declared.terminals.Terminal.{Terminal}
use Rattle.cw_grammar.specs.declared.terminals.Terminal.TheVariants as w
use Rattle.cw_grammar.specs.declared.rules.Rule.TheVariants.{Expression}
use Rattle.cw_grammar.specs.Terminals.{same}
use Rattle.cw_grammar.specs.Lexemes.{Is, to_of, IsFlag, IsOptional, IsBetween, trees}
use Rattle.cw_grammar.specs.Expressions.{IsExpression, nesting_limit}
use Rattle.cw_grammar.specs.Declarations.{IsName, IsStorage, Specifiers, AreSpecifiers, pointer, IsArray, AreElements, IsInitialiser, IsItem, IsDeclaration}
use Rattle.cw_grammar.proofs.SameTerminal.{is_plain, same-itself}
use Rattle.cw_expressions.specs.Cursor.{begins, first, expect}
use Rattle.cw_expressions.specs.TypeReading.{stars_of}
use Rattle.cw_expressions.specs.Next.{ends, IsEnd, next_expression}
use Rattle.cw_expressions.proofs.Steps.{expect_again, begins_again, to_of_append}
use Rattle.cw_expressions.proofs.Follows.{Starts, starts_append, starts_never, starts_expression, derived_starts}
use Rattle.cw_expressions.proofs.Whole.{next_again, next_sound}
use Rattle.cw_parse.specs.Lists.{Read, separated}
use Rattle.cw_parse.specs.DeclarationReading.{storage, flag, specifiers, next_name, optional_expression, array, more_elements, elements, value, initialiser, item, declaration}
use Rattle.cw_parse.proofs.BothWays.{Reads, reads_bind, reads_then, reads_else, reads_expect}
use Rattle.cw_parse.proofs.Listed.{Several, not_longer, separated_all, separated_again}
use Rattle.cw_parse.proofs.DeclarationsSound.{Allowed, more_comma, item_sound}
use Rattle.cw_parse.proofs.Wording.{flag_again, first_again, starts_declarator, ends_item, ends_element, item_end, element_end, base_again, starts_base, type_starts}
use Rattle.cw_grammar.proofs.Wording.{one_terminal as one_token}
use Rattle.cw_parse.proofs.Wording.{stars_start}
use Rattle.cw_expressions.proofs.TypesComplete.{stars_again}

-- ---- specifiers

is_itself : (terminal : Terminal) (t : Lexeme) → Is terminal t → same t.terminal terminal ≡ true
is_itself terminal t is = rw is (same-itself terminal)

storage_again : (a ts : List Lexeme) (external fixed : Bool) → IsStorage a external fixed → begins w.Extern ts ≡ false → begins w.Static ts ≡ false → storage (a ++ ts) ≡ ((external, fixed), ts)
storage_again a ts false false h e f = rw (h, e, f) refl
storage_again a ts true false h e f = let p = one_token a w.Extern h in rw (p.1, p.2) refl
storage_again a ts false true h e f = let p = one_token a w.Static h in rw (p.1, p.2) refl
storage_again a ts true true h e f = absurd h

flag_starts : (f : Terminal → Bool) (terminal : Terminal) (b : Bool) (a rest : List Lexeme) → f terminal ≡ true → IsFlag terminal a b → Starts f rest → Starts f (a ++ rest)
flag_starts f terminal true a rest yes_terminal h s = let p = one_token a terminal h in rw (p.1, p.2) yes_terminal
flag_starts f terminal false a rest yes_terminal h s = rw h s

-- a terminal that begins a type, or a type with `const`
abbrev starts_constant : Terminal → Bool
starts_constant w.Const = true
starts_constant w.Void = true
starts_constant w.Char = true
starts_constant w.Int = true
starts_constant w.Long = true
starts_constant w.Unsigned = true
starts_constant _ = false

base_constant : (ts : List Lexeme) → Starts starts_base ts → Starts starts_constant ts
base_constant [] h = absurd h
base_constant (t ∷ ts) h = by_terminal t.terminal h where
  by_terminal : (terminal : Terminal) → starts_base terminal ≡ true → starts_constant terminal ≡ true
  by_terminal w.Void e = refl
  by_terminal w.Char e = refl
  by_terminal w.Int e = refl
  by_terminal w.Long e = refl
  by_terminal w.Unsigned e = refl
  by_terminal _ e = absurd (false≢true e)

pub three : (a b c ts rest : List Lexeme) → ts ≡ a ++ (b ++ c) → ts ++ rest ≡ a ++ (b ++ (c ++ rest))
three a b c ts rest e = ap (λ (z : List Lexeme). z ++ rest) e ∙ append_assoc a (b ++ c) rest ∙ ap (λ (z : List Lexeme). a ++ z) (append_assoc b c rest)

pub four : (a b c d ts rest : List Lexeme) → ts ≡ a ++ (b ++ (c ++ d)) → ts ++ rest ≡ a ++ (b ++ (c ++ (d ++ rest)))
four a b c d ts rest e = three a b (c ++ d) ts rest e ∙ ap (λ (z : List Lexeme). a ++ (b ++ z)) (append_assoc c d rest)

pub specifiers_again : (a : List Lexeme) (specs : Specifiers) (rest : List Lexeme) → AreSpecifiers a specs → Starts starts_declarator rest → specifiers (a ++ rest) ≡ Ok (specs, rest)
unfolding specifiers
specifiers_again a specs rest (s, c, t, parts, hs, hc, ht) stop =
    let typed : Starts starts_base (t ++ rest) = type_starts t rest specs.base specs.unsigned ht stop in
    let tail : Starts starts_constant (c ++ (t ++ rest)) = flag_starts starts_constant w.Const specs.constant c (t ++ rest) refl hc (base_constant (t ++ rest) typed) in
    let stored : storage (s ++ (c ++ (t ++ rest))) ≡ ((specs.external, specs.fixed), c ++ (t ++ rest)) =
    storage_again s (c ++ (t ++ rest)) specs.external specs.fixed hs (starts_never starts_constant w.Extern refl refl _ tail) (starts_never starts_constant w.Static refl refl _ tail) in
    let flagged : flag w.Const (c ++ (t ++ rest)) ≡ (specs.constant, t ++ rest) =
    flag_again w.Const specs.constant c (t ++ rest) hc (is_itself w.Const) (starts_never starts_base w.Const refl refl _ typed) in
    rw (three s c t a rest parts, stored, flagged, base_again t rest specs.base specs.unsigned ht stop) refl

pub name_again : (a : List Lexeme) (name : Name) (rest : List Lexeme) → IsName a name → next_name (a ++ rest) ≡ Ok (name, rest)
unfolding next_name
name_again a name rest (n, parts, is, e) = rw (parts, expect_again w.Name n rest is, e) refl

pub name_starts : (f : Terminal → Bool) → f w.Name ≡ true → (a : List Lexeme) (name : Name) (rest : List Lexeme) → IsName a name → Starts f (a ++ rest)
name_starts f yes_terminal a name rest (n, parts, is, e) = rw (parts, is) yes_terminal

pub between_again : (ts : List Lexeme) (o : Lexeme) (inner : List Lexeme) (c : Lexeme) (rest : List Lexeme) → ts ≡ o ∷ inner ++ c ∷ [] → ts ++ rest ≡ o ∷ (inner ++ (c ∷ rest))
between_again ts o inner c rest e = ap (λ (z : List Lexeme). z ++ rest) e ∙ ap (λ (z : List Lexeme). o ∷ z) (append_assoc inner (c ∷ []) rest)

-- ---- declarations

abbrev ok_item : Declared → List Lexeme → Read Declared
ok_item i rest = Ok (i, rest)

abbrev ok_declaration : Declaration → List Lexeme → Read Declaration
ok_declaration d rest = Ok (d, rest)

abbrev made_declaration : (external fixed constant : Bool) → List Declared → (from to : ℕ) → Declaration
made_declaration external fixed constant items from to = record { external = external; fixed = fixed; constant = constant; items = items; from = from; to = to }

module _ (n : ℕ) where
  -- whether what is read may nest too deep
  abbrev pub Deep : Type 0
  Deep = nesting_limit < n

  abbrev pub Any : List Lexeme → Tree → Type 0
  Any ts e = IsExpression n ts e

  pub next_reads : (a : List Lexeme) (e : Tree) (rest : List Lexeme) → Any a e → IsEnd rest → Reads Deep (next_expression (a ++ rest)) (e, rest)
  next_reads a e rest h stop = next_again n (a ++ rest) e rest (a, refl, h) stop

  pub no_expression : (terminal : Terminal) → is_plain terminal ≡ true → starts_expression terminal ≡ false → (a : List Lexeme) (e : Tree) (rest : List Lexeme) → Any a e → begins terminal (a ++ rest) ≡ false
  no_expression terminal plain refused a e rest h = starts_never starts_expression terminal plain refused (a ++ rest) (starts_append starts_expression a rest (derived_starts n Expression a e h))

  pub optional_again : (closes : Terminal) → is_plain closes ≡ true → starts_expression closes ≡ false → ends closes ≡ true
      → (a : List Lexeme) (x : Option Tree) (c : Lexeme) (rest : List Lexeme) → IsOptional Any a x → Is closes c → Reads Deep (optional_expression closes (a ++ c ∷ rest)) (x, c ∷ rest)
  unfolding optional_expression
  optional_again closes plain refused end a None c rest h is = rw h (reads_then Deep (begins closes (c ∷ rest)) _ _ _ (begins_again closes c rest is) (inl refl))
  optional_again closes plain refused end a (Some e) c rest h is =
      reads_else Deep (begins closes (a ++ c ∷ rest)) _ _ _ (no_expression closes plain refused a e (c ∷ rest) h)
      (reads_bind Deep (next_expression (a ++ c ∷ rest)) _ (e, c ∷ rest) _ (next_reads a e (c ∷ rest) h (ap ends is ∙ end)) (inl refl))

  array_again : (a : List Lexeme) (x : Option (Option Tree)) (rest : List Lexeme) → IsArray Any a x → begins w.OpenBracket rest ≡ false → Reads Deep (array (a ++ rest)) (x, rest)
  unfolding array
  array_again a None rest h e = rw h (reads_else Deep (begins w.OpenBracket rest) _ _ _ e (inl refl))
  array_again a (Some size) rest (o, inner, c, parts, opens, closes, h) e =
      rw (between_again a o inner c rest parts)
      (reads_then Deep (begins w.OpenBracket (o ∷ (inner ++ (c ∷ rest)))) _ _ _ (begins_again w.OpenBracket o (inner ++ (c ∷ rest)) opens)
      (reads_bind Deep (optional_expression w.CloseBracket (inner ++ (c ∷ rest))) _ (size, c ∷ rest) _ (optional_again w.CloseBracket refl refl refl inner size c rest h closes)
      (reads_bind Deep (expect w.CloseBracket (c ∷ rest)) _ (c, rest) _ (reads_expect Deep w.CloseBracket c rest closes) (inl refl))))

  -- ---- initialisers

  element_again : (a : List Lexeme) (e : Tree) (rest : List Lexeme) → Any a e → Starts ends_element rest → Reads Deep (next_expression (a ++ rest)) (e, rest)
  element_again a e rest h stop = next_reads a e rest h (element_end rest stop)

  element_on : (c : Lexeme) (a : List Lexeme) (e : Tree) (rest : List Lexeme) → Is w.Comma c → Any a e → more_elements (c ∷ a ++ rest) ≡ true
  element_on c a e rest is h = rw (is, no_expression w.CloseBrace refl refl a e rest h) refl

  element_stops : (c : Lexeme) (rest : List Lexeme) → Is w.Comma c → Starts ends_element (c ∷ rest)
  element_stops c rest is = rw is refl

  ended_elements : (trailing : Bool) (k : List Lexeme) (c : Lexeme) (rest : List Lexeme) → IsFlag w.Comma k trailing → Is w.CloseBrace c → (more_elements (k ++ c ∷ rest) ≡ false)
      × Starts ends_element (k ++ c ∷ rest) × (flag w.Comma (k ++ c ∷ rest) ≡ (trailing, c ∷ rest))
  ended_elements true k c rest h is = let p = one_token k w.Comma h in rw (p.1, p.2, is) (refl, refl, refl)
  ended_elements false k c rest h is = rw (h, is) (refl, refl, refl)

  elements_again : (a : List Lexeme) (es : List Tree) (c : Lexeme) (rest : List Lexeme) → AreElements Any a es → Is w.CloseBrace c → Reads Deep (elements (a ++ c ∷ rest)) (es, c ∷ rest)
  unfolding elements
  elements_again a es c rest (l, k, trailing, parts, some, h, f) is =
      let z = ended_elements trailing k c rest f is in
      let whole : a ++ c ∷ rest ≡ l ++ (k ++ c ∷ rest) = ap (λ (x : List Lexeme). x ++ c ∷ rest) parts ∙ append_assoc l k (c ∷ rest) in
      rw whole
      (reads_bind Deep (separated next_expression more_elements (l ++ (k ++ c ∷ rest))) _ (es, k ++ c ∷ rest) _
      (separated_again next_expression more_elements more_comma Any Deep (Starts ends_element)
      (not_longer next_expression Allowed next_sound) element_again element_on element_stops es l (k ++ c ∷ rest) (some, h) z.1 z.0)
      (inl (rw z.2 refl)))

  braced_again : (d : List Lexeme) (es : List Tree) (rest : List Lexeme) → IsBetween w.OpenBrace w.CloseBrace (AreElements Any) d es → Reads Deep (value (d ++ rest)) ((trees es, true), rest)
  unfolding value
  braced_again d es rest (o, inner, c, parts, opens, closes, h) =
      rw (between_again d o inner c rest parts)
      (reads_then Deep (begins w.OpenBrace (o ∷ (inner ++ (c ∷ rest)))) _ _ _ (begins_again w.OpenBrace o (inner ++ (c ∷ rest)) opens)
      (reads_bind Deep (elements (inner ++ (c ∷ rest))) _ (es, c ∷ rest) _ (elements_again inner es c rest h closes)
      (reads_bind Deep (expect w.CloseBrace (c ∷ rest)) _ (c, rest) _ (reads_expect Deep w.CloseBrace c rest closes) (inl refl))))

  value_again : (b : List Lexeme) (e : Tree) (rest : List Lexeme) → Any b e → IsEnd rest → Reads Deep (value (b ++ rest)) ((more e none, false), rest)
  unfolding value
  value_again b e rest h stop =
      reads_else Deep (begins w.OpenBrace (b ++ rest)) _ _ _ (no_expression w.OpenBrace refl refl b e rest h)
      (reads_bind Deep (next_expression (b ++ rest)) _ (e, rest) _ (next_reads b e rest h stop) (inl refl))

  -- behind `=`
  assigned_again : (d : List Lexeme) (t : Lexeme) (b : List Lexeme) (x : Trees × Bool) (rest : List Lexeme) → d ≡ t ∷ b → Is w.Assign t → Reads Deep (value (b ++ rest)) (x, rest)
      → Reads Deep (initialiser (d ++ rest)) (x, rest)
  unfolding initialiser
  assigned_again d t b x rest parts is h = rw parts (reads_then Deep (begins w.Assign (t ∷ (b ++ rest))) _ _ _ (begins_again w.Assign t (b ++ rest) is) h)

  braces_again : (d : List Lexeme) (es : Trees) (t : Lexeme) (b : List Lexeme) (elements : List Tree) (rest : List Lexeme) → d ≡ t ∷ b → Is w.Assign t
      → IsBetween w.OpenBrace w.CloseBrace (AreElements Any) b elements → es ≡ trees elements → Reads Deep (initialiser (d ++ rest)) ((es, true), rest)
  braces_again d es t b elements rest parts is h e = rw e (assigned_again d t b (trees elements, true) rest parts is (braced_again b elements rest h))

  none_again : (rest : List Lexeme) → Starts ends_item rest → Reads Deep (initialiser rest) ((none, false), rest)
  unfolding initialiser
  none_again rest stop = reads_else Deep (begins w.Assign rest) _ _ _ (starts_never ends_item w.Assign refl refl rest stop) (inl refl)

  initialiser_again : (d : List Lexeme) (es : Trees) (braces : Bool) (rest : List Lexeme) → IsInitialiser Any d es braces → Starts ends_item rest
      → Reads Deep (initialiser (d ++ rest)) ((es, braces), rest)
  initialiser_again d none false rest h stop = rw h (none_again rest stop)
  initialiser_again d (more e none) false rest (t, b, parts, is, h) stop = assigned_again d t b (more e none, false) rest parts is (value_again b e rest h (item_end rest stop))
  initialiser_again d (more e (more f es)) false rest h stop = absurd h
  initialiser_again d none true rest (t, b, elements, parts, is, h, e) stop = braces_again d none t b elements rest parts is h e
  initialiser_again d (more x none) true rest (t, b, elements, parts, is, h, e) stop = braces_again d (more x none) t b elements rest parts is h e
  initialiser_again d (more x (more y es)) true rest (t, b, elements, parts, is, h, e) stop = braces_again d (more x (more y es)) t b elements rest parts is h e

  -- neither a bracket nor a parenthesis is next, unless an array's
  pub initialiser_next : (d : List Lexeme) (es : Trees) (braces : Bool) (rest : List Lexeme) → IsInitialiser Any d es braces → Starts ends_item rest
      → (begins w.OpenBracket (d ++ rest) ≡ false) × (begins w.Open (d ++ rest) ≡ false)
  initialiser_next d none false rest h stop = rw h (starts_never ends_item w.OpenBracket refl refl rest stop, starts_never ends_item w.Open refl refl rest stop)
  initialiser_next d (more e none) false rest (t, b, parts, is, h) stop = rw (parts, is) (refl, refl)
  initialiser_next d (more e (more f es)) false rest h stop = absurd h
  initialiser_next d none true rest (t, b, elements, parts, is, h, e) stop = rw (parts, is) (refl, refl)
  initialiser_next d (more x none) true rest (t, b, elements, parts, is, h, e) stop = rw (parts, is) (refl, refl)
  initialiser_next d (more x (more y es)) true rest (t, b, elements, parts, is, h, e) stop = rw (parts, is) (refl, refl)

  pub array_next : (c : List Lexeme) (x : Option (Option Tree)) (rest : List Lexeme) → IsArray Any c x → begins w.Open rest ≡ false → begins w.Open (c ++ rest) ≡ false
  array_next c None rest h e = rw h e
  array_next c (Some size) rest (o, inner, close, parts, opens, closes, h) e = rw (parts, opens) refl

  -- ---- items

  abbrev read_item : CType → Name → Option (Option Tree) → Trees → Bool → Declared
  read_item kind name array init braces = record { kind = kind; name = name; array = array; init = init; braces = braces }

  item_again : (specs : Specifiers) (ts : List Lexeme) (x : Declared) (rest : List Lexeme) → IsItem Any specs ts x → Starts ends_item rest → Reads Deep (item specs (ts ++ rest)) (x, rest)
  unfolding item
  item_again specs ts x rest (a, b, c, d, stars, parts, ha, kind, hb, hc, hd) stop =
      let tail : List Lexeme = d ++ rest in
      let next = initialiser_next d x.init x.braces rest hd stop in
      let starred : stars_of (a ++ (b ++ (c ++ tail))) ≡ (stars, b ++ (c ++ tail)) =
      stars_again stars a (b ++ (c ++ tail)) ha (starts_never (λ terminal. same terminal w.Name) w.Star refl refl (b ++ (c ++ tail))
      (name_starts (λ terminal. same terminal w.Name) refl b x.name (c ++ tail) hb)) in
      let last : ok_item (read_item (pointer specs stars) x.name x.array x.init x.braces) rest ≡ ok_item x rest =
      ap (λ (z : CType). ok_item (read_item z x.name x.array x.init x.braces) rest) (sym kind) in
      rw (four a b c d ts rest parts, starred)
      (reads_bind Deep (next_name (b ++ (c ++ tail))) _ (x.name, c ++ tail) _ (inl (name_again b x.name (c ++ tail) hb))
      (reads_bind Deep (array (c ++ tail)) _ (x.array, tail) _ (array_again c x.array tail hc next.0)
      (reads_bind Deep (initialiser tail) _ ((x.init, x.braces), rest) _ (initialiser_again d x.init x.braces rest hd stop) (inl last))))

  item_starts : (specs : Specifiers) (ts : List Lexeme) (x : Declared) (rest : List Lexeme) → IsItem Any specs ts x → Starts starts_declarator (ts ++ rest)
  item_starts specs ts x rest (a, b, c, d, stars, parts, ha, kind, hb, hc, hd) =
      rw (four a b c d ts rest parts) (stars_start stars a (b ++ (c ++ (d ++ rest))) ha (name_starts starts_declarator refl b x.name (c ++ (d ++ rest)) hb))

  item_on : (specs : Specifiers) (c : Lexeme) (a : List Lexeme) (x : Declared) (rest : List Lexeme) → Is w.Comma c → IsItem Any specs a x → begins w.Comma (c ∷ a ++ rest) ≡ true
  item_on specs c a x rest is h = rw is refl

  item_stops : (c : Lexeme) (rest : List Lexeme) → Is w.Comma c → Starts ends_item (c ∷ rest)
  item_stops c rest is = rw is refl

  items_again : (specs : Specifiers) (xs : List Declared) (ts : List Lexeme) (s : Lexeme) (rest : List Lexeme) → Several (IsItem Any specs) ts xs → Is w.Semicolon s
      → Reads Deep (separated (item specs) (begins w.Comma) (ts ++ s ∷ rest)) (xs, s ∷ rest)
  items_again specs xs ts s rest h is =
      separated_again (item specs) (begins w.Comma) (λ z e. e) (IsItem Any specs) Deep (Starts ends_item) (not_longer (item specs) (IsItem Allowed specs) (item_sound specs))
      (item_again specs) (item_on specs) item_stops xs ts (s ∷ rest) h (rw is refl) (rw is refl)

  pub items_start : (specs : Specifiers) (xs : List Declared) (ts rest : List Lexeme) → Several (IsItem Any specs) ts xs → Starts starts_declarator (ts ++ rest)
  items_start specs [] ts rest (some, h) = absurd (omega arith)
  items_start specs (x ∷ xs) ts rest (some, h) =
      let s = separated_all (IsItem Any specs) ts x xs h in
      let whole : ts ++ rest ≡ s.0 ++ (s.1 ++ rest) = ap (λ (z : List Lexeme). z ++ rest) s.2 ∙ append_assoc s.0 s.1 rest in
      rw whole (item_starts specs s.0 x (s.1 ++ rest) s.3)

  declaration_is : (d : Declaration) (a b c : Bool) (from to : ℕ) → d.external ≡ a → d.fixed ≡ b → d.constant ≡ c → from ≡ d.from → to ≡ d.to → made_declaration a b c d.items from to ≡ d
  declaration_is d a b c from to p q r s t = rw (← p, ← q, ← r, s, t) refl

  pub declaration_again : (ts : List Lexeme) (d : Declaration) (rest : List Lexeme) → IsDeclaration Any ts d → Reads Deep (declaration (ts ++ rest)) (d, rest)
  unfolding declaration
  declaration_again ts d rest (p, q, specs, parts, hs, e1, e2, e3, some, (inner, s, closed, semi, hitems), from, to) =
      let whole : ts ++ rest ≡ p ++ (inner ++ (s ∷ rest)) = ap (λ (z : List Lexeme). z ++ rest) parts ∙ append_assoc p q rest
      ∙ ap (λ (z : List Lexeme). p ++ z) (ap (λ (z : List Lexeme). z ++ rest) closed ∙ append_assoc inner (s ∷ []) rest) in
      let long : 0 < length ts = omega (arith, ap length parts, ap length closed, length-append p q, length-append inner (s ∷ [])) in
      let f = first_again ts rest long in
      let ends : to_of ts ≡ s.to = ap to_of parts ∙ to_of_append p q (omega (arith, ap length closed, length-append inner (s ∷ []))) ∙ ap to_of closed ∙ to_of_append inner (s ∷ []) (omega arith) in
      let last : ok_declaration (made_declaration specs.external specs.fixed specs.constant d.items f.0.from s.to) rest ≡ ok_declaration d rest =
      ap (λ (z : Declaration). ok_declaration z rest) (declaration_is d specs.external specs.fixed specs.constant f.0.from s.to e1 e2 e3 (f.3 ∙ sym from) (sym ends ∙ sym to)) in
      let several : Several (IsItem Any specs) inner d.items = (some, hitems) in
      reads_bind Deep (first (ts ++ rest)) _ (f.0, f.1) _ (inl f.2)
      (rw whole
      (reads_bind Deep (specifiers (p ++ (inner ++ (s ∷ rest)))) _ (specs, inner ++ (s ∷ rest)) _
      (inl (specifiers_again p specs (inner ++ (s ∷ rest)) hs (items_start specs d.items inner (s ∷ rest) several)))
      (reads_bind Deep (separated (item specs) (begins w.Comma) (inner ++ (s ∷ rest))) _ (d.items, s ∷ rest) _ (items_again specs d.items inner s rest several semi)
      (reads_bind Deep (expect w.Semicolon (s ∷ rest)) _ (s, rest) _ (reads_expect Deep w.Semicolon s rest semi) (inl last)))))
