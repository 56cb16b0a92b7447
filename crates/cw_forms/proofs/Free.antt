-- No function of a source has a name that the form brings in, where no token has.
use Rattle.std.proofs.Common.{◌≡◌, ℕ, Bool, true, false, cond, ◌||◌, is_some, List, [], ◌∷◌, ◌++◌, Option, None, Some, refl, sym, ap, subst, ◌∙◌}
use Rattle.std.specs.Prelude.{codes}
use Rattle.std.specs.List.{find}
use Rattle.std.specs.Option.{option_map}
use Rattle.std.specs.Str.{bytes_eq}
use Rattle.std.proofs.lemmas.Slice.Eq.{bytes_eq-Decides}
use Rattle.std.proofs.lemmas.Bool.{or_parts}
use Rattle.cw_syntax.specs.declared.program.Name.{Name}
use Rattle.cw_syntax.specs.Names.{slice, text}
use Rattle.cw_syntax.specs.Trees.{Definition, File}
use Rattle.cw_lex.specs.declared.tokens.Token.{Token}
use Rattle.cw_lex.proofs.Listing.{one_list}
use Rattle.cw_grammar.specs.declared.terminals.Lexeme.{Lexeme}
use Rattle.cw_grammar.specs.Lexemes.{AreAll}
use Rattle.cw_grammar.specs.Spelling.{lexemes_of}
use Rattle.cw_grammar.specs.Expressions.{nesting_limit}
use Rattle.cw_grammar.specs.Files.{Part as FilePart, Declares, Holds, Defines, IsPart, IsProgram, file_of}
use Rattle.cw_scope.specs.Rules.{is_defined}
use Rattle.cw_source.proofs.OneAnswer.{never_both}
use Rattle.cw_detach.specs.declared.faults.ProcFault.TheVariants.{Taken}
use Rattle.cw_detach.specs.Form.{form_of}
use Rattle.cw_detach.specs.Faults.{is_taken, taken, result_taken, long, deep, name_fault, text_fault, ◌or_else◌}
use Rattle.cw_detach.proofs.Rules.{neither, shallow}
use Rattle.cw_forms.specs.Laws.{FormsAreRead, FormsAreNotRefused}
use Rattle.cw_forms.proofs.Derived.{forms_derive}
use Rattle.cw_forms.proofs.Scope.{scope_kept}
use Rattle.cw_forms.proofs.Descriptors.{descriptors_kept}

module _ (source : List ℕ) where
  -- the bytes between two places are no name that is brought in
  abbrev IsFree : ℕ → ℕ → Type 0
  IsFree from to = (bytes_eq (slice source from to) (codes "fork") || bytes_eq (slice source from to) (codes "_exit")) ≡ false

  abbrev Free : List Lexeme → Type 0
  Free [] = Unit {0}
  Free (t ∷ ts) = IsFree t.from t.to × Free ts

  none_found : (ts : List Token) → find (is_taken source) ts ≡ None → Free (lexemes_of source ts)
  none_found [] e = tt
  none_found (t ∷ ts) e = by (is_taken source t) refl e (none_found ts)
    where
      by : (b : Bool) → is_taken source t ≡ b → cond b (Some t) (find (is_taken source) ts) ≡ None → (find (is_taken source) ts ≡ None → Free (lexemes_of source ts))
          → Free (lexemes_of source (t ∷ ts))
      by true is f rest = absurd (cc)
      by false is f rest = (is, rest f)

  unmapped : (o : Option Token) → None ≡ option_map (λ t. Taken t.from) o → o ≡ None
  unmapped None e = refl
  unmapped (Some t) e = absurd (cc)

  tokens_free : (ts : List Token) → None ≡ taken source ts → Free (lexemes_of source ts)
  unfolding taken
  tokens_free ts e = none_found ts (unmapped (find (is_taken source) ts) e)

  free_at : (ts xs : List Lexeme) → ts ≡ xs → Free ts → Free xs
  free_at ts xs e h = subst (λ (z : List Lexeme). Free z) e h

  free_both : (a b : List Lexeme) → Free (a ++ b) → Free a × Free b
  free_both [] b h = (tt, h)
  free_both (t ∷ a) b h = let both = free_both a b h.1 in ((h.0, both.0), both.1)

  abbrev FreeNames : List Definition → Type 0
  FreeNames [] = Unit {0}
  FreeNames (f ∷ fs) = IsFree f.name.from f.name.to × FreeNames fs

  functions_free : (limit : ℕ) (parts : List FilePart) (ts : List Lexeme) → AreAll (IsPart limit) ts parts → Free ts → FreeNames (file_of parts).functions
  functions_free limit [] ts is h = tt
  functions_free limit (Declares x ∷ parts) ts (a, b, whole, first, rest) h = functions_free limit parts b rest (free_both a b (free_at ts (a ++ b) whole h)).1
  functions_free limit (Holds x ∷ parts) ts (a, b, whole, first, rest) h = functions_free limit parts b rest (free_both a b (free_at ts (a ++ b) whole h)).1
  functions_free limit (Defines f ∷ parts) ts (
    x,
    y,
    whole,
    (
      header,
      o,
      inner,
      c,
      body,
      whole2,
      (
        a,
        b,
        d,
        e,
        specs,
        stars,
        whole3,
        are,
        stars_are,
        result,
        (n, whole4, is, name_is),
        params,
      ),
      named,
      opens,
      brace,
      all,
      body_is,
      closes,
    ),
    rest,
  ) h =
      let own = free_both x y (free_at ts (x ++ y) whole h) in
      let head = (free_both header (o ∷ inner ++ c ∷ []) (free_at x (header ++ (o ∷ inner ++ c ∷ [])) whole2 own.0)).0 in
      let p = free_both a (b ++ (d ++ e)) (free_at header (a ++ (b ++ (d ++ e))) whole3 head) in
      let q = free_both b (d ++ e) p.1 in
      let r = free_both d e q.1 in
      let name = free_at d (n ∷ []) whole4 r.0 in
      (subst (λ (z : Name). IsFree z.from z.to) (sym name_is) name.0, functions_free limit parts y rest own.1)

  turned : (a b : List ℕ) → bytes_eq a b ≡ false → bytes_eq b a ≡ false
  turned a b e = by (bytes_eq b a) refl
    where
      by : (t : Bool) → bytes_eq b a ≡ t → t ≡ false
      by true is = let z : bytes_eq a b ≡ true = (bytes_eq-Decides a b).1 (sym ((bytes_eq-Decides b a).0 is)) in absurd (cc)
      by false is = refl

  none_named : (name : List ℕ) (fs : List Definition) → ((f : Definition) → IsFree f.name.from f.name.to → bytes_eq (text source f.name) name ≡ false) → FreeNames fs
      → find (λ f. bytes_eq name (text source f.name)) fs ≡ None
  none_named name [] each h = refl
  none_named name (f ∷ fs) each h = rw (turned (text source f.name) name (each f h.0)) (none_named name fs each h.1)

  undefined : (file : File) (tokens : List Token) (parts : List FilePart) → AreAll (IsPart nesting_limit) (lexemes_of source tokens) parts → file ≡ file_of parts → None ≡ taken source tokens
      → (is_defined source file (codes "fork") ≡ false) × (is_defined source file (codes "_exit") ≡ false)
  undefined file tokens parts all is e =
      let free = subst (λ (z : File). FreeNames z.functions) (sym is) (functions_free nesting_limit parts (lexemes_of source tokens) all (tokens_free tokens e)) in
      (ap is_some (none_named (codes "fork") file.functions (λ f k. (or_parts _ _ k).0) free), ap is_some (none_named (codes "_exit") file.functions (λ f k. (or_parts _ _ k).1) free))

pub forms_are_read : FormsAreRead
unfolding IsProgram
forms_are_read source file policy h descriptors (tokens, lexed, clear) =
    let rules = neither (name_fault source file policy) (text_fault source tokens file policy.detached) clear in
    let form = form_of source policy.detached file in
    let three = neither ((taken source tokens or_else result_taken source file policy.detached) or_else long form) (deep source file policy.detached) rules.1 in
    let two = neither (taken source tokens or_else result_taken source file policy.detached) (long form) three.0 in
    let one = neither (taken source tokens) (result_taken source file policy.detached) two.0 in
    let same_tokens : tokens ≡ h.tokens = one_list source tokens h.tokens lexed h.lexed in
    let free : None ≡ taken source h.tokens = one.0 ∙ ap (taken source) same_tokens in
    let low = shallow source file policy.detached (tokens, lexed, rules.1) in
    let d = forms_derive source policy.detached file h low in
    let derived = h.derived in
    let names = undefined source file h.tokens derived.0 derived.1 derived.2 free in
    record {
      made = d.made;
      reads = record { tokens = d.tokens; lexed = d.lexed; derived = d.derived; scoped = scope_kept source form file d.made d.same names.0 names.1 h.scoped };
      same = d.same;
      declared = descriptors_kept source form file d.made d.same policy descriptors;
    }

pub forms_are_not_refused : FormsAreNotRefused
forms_are_not_refused source file policy fault h descriptors clear other due =
    let r = forms_are_read source file policy h descriptors clear in
    never_both (form_of source policy.detached file) r.made fault other r.reads due
