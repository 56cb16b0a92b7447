-- Headers are read as what they are.
use Rattle.std.proofs.Common.{◌≡◌, ℕ, zero, suc, Bool, true, false, cond, List, [], ◌∷◌, ◌++◌, replicate, Option, Some, None, Ok, Err, refl, sym, ap, ◌∙◌, append_assoc, arith, inl, inr}
use Rattle.std.specs.Prelude.{◌≢◌}
use Rattle.std.proofs.lemmas.Bool.{false≢true}
use Rattle.cw_syntax.specs.declared.program.Name.{Name}
use Rattle.cw_syntax.specs.declared.program.CType.{CType}
use Rattle.cw_syntax.specs.declared.program.Param.{Param}
use Rattle.cw_syntax.specs.declared.program.Base.{Base}
use Rattle.cw_syntax.specs.Trees.{Declared, Declaration, Prototype}
use Rattle.cw_grammar.specs.declared.terminals.Lexeme.{Lexeme}
use Rattle.cw_grammar.specs.declared.terminals.Terminal.{Terminal}
use Rattle.cw_grammar.specs.declared.terminals.Terminal.TheVariants as w
use Rattle.cw_grammar.specs.Terminals.{same}
use Rattle.cw_grammar.specs.Lexemes.{Is, terminals, IsFlag, IsOptional, AreSeparated}
use Rattle.cw_grammar.specs.Types.{IsType, AreStars, IsTypeName}
use Rattle.cw_grammar.specs.Declarations.{IsName, Specifiers, AreSpecifiers, pointer, IsItem, IsDeclaration, IsBrackets, IsParam, AreParams}
use Rattle.cw_grammar.proofs.SameTerminal.{same-true}
use Rattle.cw_expressions.specs.declared.refusal.Refusal.TheVariants as refusal
use Rattle.cw_expressions.specs.Cursor.{begins, expect}
use Rattle.cw_expressions.specs.TypeReading.{base_of, type_name}
use Rattle.cw_expressions.proofs.Steps.{begins_again}
use Rattle.cw_expressions.proofs.Follows.{Starts, starts_never}
use Rattle.std.proofs.lemmas.Bool.{false_from_ne_true as is_false}
use Rattle.cw_expressions.proofs.TypesComplete.{next_is, continues_type, type_name_again, stars_again}
use Rattle.cw_parse.specs.Lists.{Read}
use Rattle.cw_parse.specs.DeclarationReading.{optional_name, brackets, param, is_void, params, front, header_behind, header, begins_header}
use Rattle.cw_parse.proofs.BothWays.{Reads, reads_bind, reads_then, reads_else, reads_expect}
use Rattle.cw_parse.proofs.Listed.{Several, not_longer, separated_all, separated_again}
use Rattle.cw_parse.proofs.DeclarationsSound.{param_sound, HasHeader}
use Rattle.cw_parse.proofs.Wording.{starts_declarator, ends_item, ends_param, follows_name, param_follows, stars_start}
use Rattle.cw_grammar.proofs.Wording.{one_terminal as one_token, two_terminals as two_tokens}
use Rattle.cw_parse.proofs.DeclarationsComplete.{specifiers_again, name_again, name_starts, three, four, between_again, Any, initialiser_next, array_next}
use Rattle.cw_lemmas.proofs.Truths.{and_first as both_true, and_false}

abbrev ok_prototype : Prototype → List Lexeme → Read Prototype
ok_prototype p rest = Ok (p, rest)

abbrev made_prototype : Name → CType → List Param → Prototype
made_prototype name result params = record { name = name; result = result; params = params }

-- ---- what comes first

front_again : (a b c rest : List Lexeme) (specs : Specifiers) (stars : ℕ) (name : Name) → AreSpecifiers a specs → AreStars b stars → IsName c name
    → front (a ++ (b ++ (c ++ rest))) ≡ Ok (((specs, stars), name), rest)
unfolding front
front_again a b c rest specs stars name hs hb hc =
    let named : Starts starts_declarator (c ++ rest) = name_starts starts_declarator refl c name rest hc in
    let no_star : begins w.Star (c ++ rest) ≡ false = starts_never (λ terminal. same terminal w.Name) w.Star refl refl (c ++ rest) (name_starts (λ terminal. same terminal w.Name) refl c name rest hc) in
    rw (specifiers_again a specs (b ++ (c ++ rest)) hs (stars_start stars b (c ++ rest) hb named), stars_again stars b (c ++ rest) hb no_star, name_again c name rest hc) refl

-- ---- parameters

brackets_start : (b : Bool) (a rest : List Lexeme) → IsBrackets a b → Starts ends_param rest → Starts follows_name (a ++ rest)
brackets_start true a rest h stop = let p = two_tokens a w.OpenBracket w.CloseBracket h in rw (p.2, p.3) refl
brackets_start false a rest h stop = rw h (param_follows rest stop)

brackets_again : (b : Bool) (a rest : List Lexeme) → IsBrackets a b → Starts ends_param rest → brackets (a ++ rest) ≡ Ok (b, rest)
unfolding brackets expect
brackets_again true a rest h stop = let p = two_tokens a w.OpenBracket w.CloseBracket h in rw (p.2, p.3, p.4) refl
brackets_again false a rest h stop = rw (h, starts_never ends_param w.OpenBracket refl refl rest stop) refl

optional_name_again : (name : Option Name) (a rest : List Lexeme) → IsOptional IsName a name → Starts follows_name rest → optional_name (a ++ rest) ≡ (name, rest)
optional_name_again None a rest h stop = rw h (by_rest rest stop) where
  by_rest : (ts : List Lexeme) → Starts follows_name ts → optional_name ts ≡ (None, ts)
  by_rest [] s = absurd s
  by_rest (t ∷ ts) s = rw (starts_never follows_name w.Name refl refl (t ∷ ts) s) refl
optional_name_again (Some name) a rest (n, parts, is, e) stop = rw (parts, is, e) refl

ends_type : (name : Option Name) (a rest : List Lexeme) → IsOptional IsName a name → Starts follows_name rest → next_is continues_type (a ++ rest) ≡ false
ends_type None a rest h stop = rw h (by_rest rest stop) where
  by_terminal : (terminal : Terminal) → follows_name terminal ≡ true → continues_type terminal ≡ false
  by_terminal w.OpenBracket e = refl
  by_terminal w.Comma e = refl
  by_terminal w.Close e = refl
  by_terminal _ e = absurd (false≢true e)

  by_rest : (ts : List Lexeme) → Starts follows_name ts → next_is continues_type ts ≡ false
  by_rest [] s = absurd s
  by_rest (t ∷ ts) s = by_terminal t.terminal s
ends_type (Some name) a rest (n, parts, is, e) stop = rw (parts, is) refl

param_again : (ts : List Lexeme) (p : Param) (rest : List Lexeme) → IsParam ts p → Starts ends_param rest → param (ts ++ rest) ≡ Ok (p, rest)
unfolding param
param_again ts p rest (a, b, c, parts, kind, name, array) stop =
    let tail = brackets_start p.array c rest array stop in
    rw (
      three a b c ts rest parts,
      type_name_again a p.kind (b ++ (c ++ rest)) kind (ends_type p.name b (c ++ rest) name tail),
      optional_name_again p.name b
          (c ++ rest) name tail,
      brackets_again p.array c rest array stop,
    ) refl

-- ---- no parenthesis among parameters

abbrev all_open : List Terminal → Bool
all_open [] = true
all_open (terminal ∷ ws) = cond (same terminal w.Close) false (all_open ws)

abbrev IsOpen : List Lexeme → Type 0
IsOpen ts = all_open (terminals ts) ≡ true

open_by : (terminal : Terminal) (ws : List Terminal) → all_open (terminal ∷ ws) ≡ true → (same terminal w.Close ≡ false) × (all_open ws ≡ true)
open_by terminal ws h = by_test (same terminal w.Close) refl h where
  by_test : (b : Bool) → same terminal w.Close ≡ b → cond b false (all_open ws) ≡ true → (same terminal w.Close ≡ false) × (all_open ws ≡ true)
  by_test true e f = absurd (false≢true f)
  by_test false e f = (e, f)

open_append : (a b : List Lexeme) → IsOpen a → IsOpen b → IsOpen (a ++ b)
open_append [] b p q = q
open_append (t ∷ a) b p q = let r = open_by t.terminal (terminals a) p in rw r.0 (open_append a b r.1 q)

open_terminals : (a : List Lexeme) (ws : List Terminal) → terminals a ≡ ws → all_open ws ≡ true → IsOpen a
open_terminals a ws e h = ap all_open e ∙ h

open_flag : (terminal : Terminal) (b : Bool) (a : List Lexeme) → all_open (terminal ∷ []) ≡ true → IsFlag terminal a b → IsOpen a
open_flag terminal true a h e = open_terminals a (terminal ∷ []) e h
open_flag terminal false a h e = rw e refl

open_stars : (n : ℕ) → all_open (replicate n w.Star) ≡ true
open_stars zero = refl
open_stars (suc n) = open_stars n

abbrev terminals_of : List Terminal × (Base × Bool) → List Terminal
terminals_of x = x.0

open_type : (a : List Lexeme) (b : Base) (unsigned : Bool) → IsType a b unsigned → IsOpen a
open_type a b unsigned (inl e) = open_terminals a _ (ap terminals_of e) refl
open_type a b unsigned (inr (inl e)) = open_terminals a _ (ap terminals_of e) refl
open_type a b unsigned (inr (inr (inl e))) = open_terminals a _ (ap terminals_of e) refl
open_type a b unsigned (inr (inr (inr (inl e)))) = open_terminals a _ (ap terminals_of e) refl
open_type a b unsigned (inr (inr (inr (inr (inl e))))) = open_terminals a _ (ap terminals_of e) refl
open_type a b unsigned (inr (inr (inr (inr (inr (inl e)))))) = open_terminals a _ (ap terminals_of e) refl
open_type a b unsigned (inr (inr (inr (inr (inr (inr (inl e))))))) = open_terminals a _ (ap terminals_of e) refl
open_type a b unsigned (inr (inr (inr (inr (inr (inr (inr (inl e)))))))) = open_terminals a _ (ap terminals_of e) refl
open_type a b unsigned (inr (inr (inr (inr (inr (inr (inr (inr (inl e))))))))) = open_terminals a _ (ap terminals_of e) refl
open_type a b unsigned (inr (inr (inr (inr (inr (inr (inr (inr (inr (inl e)))))))))) = open_terminals a _ (ap terminals_of e) refl
open_type a b unsigned (inr (inr (inr (inr (inr (inr (inr (inr (inr (inr e)))))))))) = absurd e

open_name : (a : List Lexeme) (name : Option Name) → IsOptional IsName a name → IsOpen a
open_name a None h = rw h refl
open_name a (Some name) (n, parts, is, e) = rw (parts, is) refl

open_brackets : (a : List Lexeme) (b : Bool) → IsBrackets a b → IsOpen a
open_brackets a true h = open_terminals a _ h refl
open_brackets a false h = rw h refl

open_type_name : (a : List Lexeme) (kind : CType) → IsTypeName a kind → IsOpen a
open_type_name a kind (constant, c, t, s, parts, hc, ht, hs) =
    ap (λ (z : List Lexeme). all_open (terminals z)) parts
    ∙ open_append c (t ++ s) (open_flag w.Const constant c refl hc) (open_append t s (open_type t kind.base kind.unsigned ht) (open_terminals s _ hs.1 (open_stars kind.stars)))

open_param : (a : List Lexeme) (p : Param) → IsParam a p → IsOpen a
open_param ts p (a, b, c, parts, kind, name, array) =
    ap (λ (z : List Lexeme). all_open (terminals z)) parts
    ∙ open_append a (b ++ c) (open_type_name a p.kind kind) (open_append b c (open_name b p.name name) (open_brackets c p.array array))

open_params : (ps : List Param) (ts : List Lexeme) → AreSeparated IsParam ts ps → IsOpen ts
open_params [] ts h = rw h refl
open_params (p ∷ []) ts h = open_param ts p h
open_params (p ∷ q ∷ ps) ts (a, c, b, parts, comma, h, rest) =
    ap (λ (z : List Lexeme). all_open (terminals z)) parts ∙ open_append a (c ∷ b) (open_param a p h) (rw comma (open_params (q ∷ ps) b rest))

-- ---- all parameters

close_refused : (c : Lexeme) (ts : List Lexeme) → Is w.Close c → type_name (c ∷ ts) ≡ Err refusal.Syntax
unfolding type_name base_of
close_refused c ts is = rw is refl

nothing_refused : type_name [] ≡ Err refusal.Syntax
unfolding type_name base_of
nothing_refused = refl

type_no_close : (a : List Lexeme) (x : CType) (rest : List Lexeme) → type_name (a ++ []) ≡ Ok (x, []) → begins w.Close (a ++ rest) ≡ false
type_no_close [] x rest e = let f = nothing_refused in absurd (cc)
type_no_close (t ∷ a) x rest e = is_false (same t.terminal w.Close) (λ s. let f = close_refused t (a ++ []) (same-true t.terminal w.Close refl s) in absurd (cc))

no_close : (a : List Lexeme) (p : Param) (rest : List Lexeme) → IsParam a p → begins w.Close (a ++ rest) ≡ false
no_close ts p rest (a, b, c, parts, kind, name, array) =
    ap (begins w.Close) (three a b c ts rest parts) ∙ type_no_close a p.kind (b ++ (c ++ rest)) (type_name_again a p.kind [] kind refl)

params_start : (ps : List Param) (ts rest : List Lexeme) → Several IsParam ts ps → begins w.Close (ts ++ rest) ≡ false
params_start [] ts rest (some, h) = absurd (omega arith)
params_start (p ∷ ps) ts rest (some, h) =
    let s = separated_all IsParam ts p ps h in
    ap (λ (z : List Lexeme). begins w.Close (z ++ rest)) s.2 ∙ ap (begins w.Close) (append_assoc s.0 s.1 rest) ∙ no_close s.0 p (s.1 ++ rest) s.3

param_stops : (c : Lexeme) (rest : List Lexeme) → Is w.Comma c → Starts ends_param (c ∷ rest)
param_stops c rest is = rw is refl

comma_on : (c : Lexeme) (a : List Lexeme) (p : Param) (rest : List Lexeme) → Is w.Comma c → IsParam a p → begins w.Comma (c ∷ a ++ rest) ≡ true
comma_on c a p rest is h = rw is refl

-- more than `void` stands there
never_void : (a : List Lexeme) (c : Lexeme) (rest : List Lexeme) → IsOpen a → terminals a ≢ w.Void ∷ [] → begins w.Close (a ++ c ∷ rest) ≡ false → Is w.Close c → is_void (a ++ c ∷ rest) ≡ false
never_void [] c rest h other e is = absurd (false≢true (sym e ∙ begins_again w.Close c rest is))
never_void (t ∷ []) c rest h other e is =
    is_false (is_void (t ∷ c ∷ rest)) (λ f. let v : t.terminal ≡ w.Void = same-true t.terminal w.Void refl (both_true (same t.terminal w.Void) (begins w.Close (c ∷ rest)) f) in
    other (ap (λ (z : Terminal). z ∷ []) v))
never_void (t ∷ u ∷ a) c rest h other e is =
    let p = open_by t.terminal (u.terminal ∷ terminals a) h in
    let q = open_by u.terminal (terminals a) p.1 in
    rw q.0 (and_false (same t.terminal w.Void))

module _ (D : Type 0) where
  reads_param : (ts : List Lexeme) (p : Param) (rest : List Lexeme) → IsParam ts p → Starts ends_param rest → Reads D (param (ts ++ rest)) (p, rest)
  reads_param ts p rest h stop = inl (param_again ts p rest h stop)

  several_again : (ps : List Param) (ts : List Lexeme) (c : Lexeme) (rest : List Lexeme) → Several IsParam ts ps → terminals ts ≢ w.Void ∷ [] → Is w.Close c
      → Reads D (params (ts ++ c ∷ rest)) (ps, c ∷ rest)
  unfolding params
  several_again ps ts c rest h other is =
      let start = params_start ps ts (c ∷ rest) h in
      reads_else D (begins w.Close (ts ++ c ∷ rest)) _ _ _ start
      (reads_else D (is_void (ts ++ c ∷ rest)) _ _ _ (never_void ts c rest (open_params ps ts h.1) other start is)
      (separated_again param (begins w.Comma) (λ z e. e) IsParam D (Starts ends_param) (not_longer param IsParam param_sound) reads_param comma_on param_stops ps ts (c ∷ rest) h
      (rw is refl) (rw is refl)))

  params_again : (ts : List Lexeme) (ps : List Param) (c : Lexeme) (rest : List Lexeme) → AreParams ts ps → Is w.Close c → Reads D (params (ts ++ c ∷ rest)) (ps, c ∷ rest)
  unfolding params
  params_again ts ps c rest (inl (e, none_there)) is =
      let p = one_token ts w.Void e in
      rw (p.1, none_there)
      (reads_else D (begins w.Close (p.0 ∷ c ∷ rest)) _ _ _ (rw p.2 refl)
      (reads_then D (is_void (p.0 ∷ c ∷ rest)) _ _ _ (rw (p.2, is) refl) (inl refl)))
  params_again ts [] c rest (inr (other, h)) is = rw h (reads_then D (begins w.Close (c ∷ rest)) _ _ _ (begins_again w.Close c rest is) (inl refl))
  params_again ts (p ∷ ps) c rest (inr (other, h)) is = several_again (p ∷ ps) ts c rest (omega arith, h) other is

  -- ---- headers

  pub header_again : (ts : List Lexeme) (p : Prototype) (rest : List Lexeme) → HasHeader ts p → Reads D (header (ts ++ rest)) (p, rest)
  unfolding header header_behind
  header_again ts p rest (a, b, c, d, specs, stars, parts, hs, hb, result, hc, (o, inner, close, between, opens, closes, hp)) =
      let whole : ts ++ rest ≡ a ++ (b ++ (c ++ (o ∷ (inner ++ (close ∷ rest))))) = four a b c d ts rest parts
      ∙ ap (λ (z : List Lexeme). a ++ (b ++ (c ++ z))) (between_again d o inner close rest between) in
      let last : ok_prototype (made_prototype p.name (pointer specs stars) p.params) rest ≡ ok_prototype p rest =
      ap (λ (z : CType). ok_prototype (made_prototype p.name z p.params) rest) (sym result) in
      rw whole
      (reads_bind D (front (a ++ (b ++ (c ++ (o ∷ (inner ++ (close ∷ rest))))))) _ (((specs, stars), p.name), o ∷ (inner ++ (close ∷ rest))) _
      (inl (front_again a b c (o ∷ (inner ++ (close ∷ rest))) specs stars p.name hs hb hc))
      (reads_bind D (expect w.Open (o ∷ (inner ++ (close ∷ rest)))) _ (o, inner ++ (close ∷ rest)) _ (reads_expect D w.Open o (inner ++ (close ∷ rest)) opens)
      (reads_bind D (params (inner ++ (close ∷ rest))) _ (p.params, close ∷ rest) _ (params_again inner p.params close rest hp closes)
      (reads_bind D (expect w.Close (close ∷ rest)) _ (close, rest) _ (reads_expect D w.Close close rest closes) (inl last)))))

-- ---- which of them is next

pub header_next : (ts : List Lexeme) (p : Prototype) (rest : List Lexeme) → HasHeader ts p → begins_header (ts ++ rest) ≡ Ok true
unfolding begins_header
header_next ts p rest (a, b, c, d, specs, stars, parts, hs, hb, result, hc, (o, inner, close, between, opens, closes, hp)) =
    let whole : ts ++ rest ≡ a ++ (b ++ (c ++ (o ∷ (inner ++ (close ∷ rest))))) = four a b c d ts rest parts
    ∙ ap (λ (z : List Lexeme). a ++ (b ++ (c ++ z))) (between_again d o inner close rest between) in
    rw (whole, front_again a b c (o ∷ (inner ++ (close ∷ rest))) specs stars p.name hs hb hc, begins_again w.Open o (inner ++ (close ∷ rest)) opens) refl

module _ (n : ℕ) where
  item_no_header : (a : List Lexeme) (specs : Specifiers) (ts : List Lexeme) (x : Declared) (rest : List Lexeme) → AreSpecifiers a specs → IsItem (Any n) specs ts x
      → Starts ends_item rest → begins_header (a ++ (ts ++ rest)) ≡ Ok false
  unfolding begins_header
  item_no_header a specs ts x rest hs (s, b, c, d, stars, parts, hstars, kind, hb, hc, hd) stop =
      rw (
        four s b c d ts rest parts,
        front_again a s b (c ++ (d ++ rest)) specs stars x.name hs hstars hb,
        array_next n c x.array (d ++ rest) hc
            (initialiser_next n d x.init x.braces rest hd stop).1,
      ) refl

  items_no_header : (a : List Lexeme) (specs : Specifiers) (xs : List Declared) (ts rest : List Lexeme) → AreSpecifiers a specs → Several (IsItem (Any n) specs) ts xs
      → Starts ends_item rest → begins_header (a ++ (ts ++ rest)) ≡ Ok false
  items_no_header a specs [] ts rest hs (some, h) stop = absurd (omega arith)
  items_no_header a specs (x ∷ []) ts rest hs (some, h) stop = item_no_header a specs ts x rest hs h stop
  items_no_header a specs (x ∷ y ∷ xs) ts rest hs (some, (b, c, inner, parts, comma, h, more_items)) stop =
      let whole : ts ++ rest ≡ b ++ (c ∷ (inner ++ rest)) = ap (λ (z : List Lexeme). z ++ rest) parts ∙ append_assoc b (c ∷ inner) rest in
      rw whole (item_no_header a specs b x (c ∷ (inner ++ rest)) hs h (rw comma refl))

  pub declaration_next : (ts : List Lexeme) (d : Declaration) (rest : List Lexeme) → IsDeclaration (Any n) ts d → begins_header (ts ++ rest) ≡ Ok false
  declaration_next ts d rest (p, q, specs, parts, hs, e1, e2, e3, some, (inner, s, closed, semi, hitems), from, to) =
      let whole : ts ++ rest ≡ p ++ (inner ++ (s ∷ rest)) = ap (λ (z : List Lexeme). z ++ rest) parts ∙ append_assoc p q rest
      ∙ ap (λ (z : List Lexeme). p ++ z) (ap (λ (z : List Lexeme). z ++ rest) closed ∙ append_assoc inner (s ∷ []) rest) in
      ap begins_header whole ∙ items_no_header p specs d.items inner (s ∷ rest) hs (some, hitems) (rw semi refl)
