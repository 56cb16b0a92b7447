-- A form that is refused for its nesting is too deep for the reader.
use Rattle.std.proofs.Common.{max}
use Rattle.std.proofs.Common.{◌≡◌, ◌⊎◌, ℕ, ◌+◌, ◌≤◌, true, false, nat_le, List, [], ◌∷◌, length, Result, Ok, Err, refl, sym, ap, subst, ◌∙◌, arith}
use Rattle.std.proofs.Common.{inl, inr}
use Rattle.std.specs.List.{list_all}
use Rattle.std.proofs.lemmas.Bool.{both_ways}
use Rattle.std.proofs.lemmas.Bool.Decides.{nat_tests}
use Rattle.std.proofs.Math.Nat.{le-max_left, le-max_right}
use Rattle.cw_syntax.specs.Trees.{Definition, File}
use Rattle.cw_lex.specs.declared.tokens.Token.{Token}
use Rattle.cw_lex.specs.Punctuators.{HasNoMarker}
use Rattle.cw_lex.specs.Listed.{AreInOrder}
use Rattle.cw_lex.specs.Tokens.{Stand, tokens_of, AreTokens}
use Rattle.cw_lex.proofs.Ordered.{tokens_in_order}
use Rattle.cw_grammar.specs.declared.terminals.Lexeme.{Lexeme}
use Rattle.cw_grammar.specs.Lexemes.{AreAll}
use Rattle.cw_grammar.specs.Spelling.{lexemes_of}
use Rattle.cw_grammar.specs.Expressions.{IsExpression, nesting_limit}
use Rattle.cw_grammar.specs.Statements.{IsStatement}
use Rattle.cw_grammar.specs.Files.{Part as FilePart, Declares as DeclaresPart, Holds, Defines, IsPart, IsFile, IsOfGrammar, IsProgram, file_of}
use Rattle.cw_grammar.proofs.Deeper.{all_weaker, part_deeper}
use Rattle.cw_recogniser.specs.Language.{AreOfGrammar}
use Rattle.cw_parse.proofs.FilesComplete.{file_again, program_is_read}
use Rattle.cw_source.specs.Read.{DerivesNone}
use Rattle.cw_source.proofs.Lying.{lie_of}
use Rattle.cw_parse.specs.declared.fault.ParseFault.TheVariants as parse
use Rattle.cw_detach.specs.Form.{form_of, nesting_all}
use Rattle.cw_detach.specs.Faults.{is_shallow}
use Rattle.cw_forms.specs.Moved.{Pairs}
use Rattle.cw_forms.specs.Stretches.{lefts}
use Rattle.cw_forms.specs.Spans.{spans_of, with_texts}
use Rattle.cw_forms.specs.Laws.{DeepFormsAreDeep}
use Rattle.cw_forms.proofs.Derived.{form_is, same_limit, enough}
use Rattle.cw_forms.proofs.Lexing.{lexing}
use Rattle.cw_forms.proofs.Markers.{no_marker}
use Rattle.cw_forms.proofs.FilesFormed.{AreShallow, NestsAs, parts_formed}
use Rattle.cw_detach.proofs.Plain.{all_nest, statement_nests}

-- ---- what is read nests no deeper than the limit

module _ (form : List ℕ) where
  abbrev Low : ℕ → List Definition → Type 0
  Low n [] = Unit {0}
  Low n (f ∷ fs) = (nesting_all form [] f.body ≤ n) × Low n fs

  parts_low : (limit : ℕ) (parts : List FilePart) (ts : List Lexeme) → AreAll (IsPart limit) ts parts → Low limit (file_of parts).functions
  parts_low limit [] ts is = tt
  parts_low limit (DeclaresPart d ∷ parts) ts (x, y, whole, first, rest) = parts_low limit parts y rest
  parts_low limit (Holds d ∷ parts) ts (x, y, whole, first, rest) = parts_low limit parts y rest
  parts_low limit (Defines f ∷ parts) ts (x, y, whole, (header, o, inner, c, body, all_of, is_header, named, opens, brace, all, body_is, closes), rest) =
      (rw body_is (all_nest form (IsExpression limit) (IsStatement limit limit) limit (statement_nests form limit limit) inner body all), parts_low limit parts y rest)

-- ---- how deep a form is reckoned to be

same_ok : {A B : Type 0} (D : Type 0) (r : Result A B) (x y : A) (e : B) → r ≡ Ok x → (r ≡ Ok y) ⊎ (D × (r ≡ Err e)) → x ≡ y
same_ok D r x y e is (inl there) = let z : r ≡ r = refl in cc
same_ok D r x y e is (inr (deep, there)) = absurd cc

module _ (source : List ℕ) (names : List (List ℕ)) where
  deepest : List Definition → ℕ
  deepest [] = 0
  deepest (f ∷ fs) = max (nesting_all source names f.body) (deepest fs)

  below : (form : List ℕ) (limit : ℕ) (some : 2 ≤ limit) (fs : List Definition) → deepest fs ≤ limit → AreShallow source form names limit some fs
  unfolding deepest
  below form limit some [] le = tt
  below form limit some (f ∷ fs) le =
      let one = le-max_left (nesting_all source names f.body) (deepest fs) in
      let other = le-max_right (nesting_all source names f.body) (deepest fs) in
      (omega (arith, one, le), below form limit some fs (omega (arith, other, le)))

  shallow_by : (form : List ℕ) (limit : ℕ) (some : 2 ≤ limit) (n : ℕ) (fs gs : List Definition) → Pairs (NestsAs source form names limit some) fs gs → Low form n gs
      → list_all (λ f. nat_le (nesting_all source names f.body) n) fs ≡ true
  shallow_by form limit some n [] [] h low = refl
  shallow_by form limit some n [] (g ∷ gs) h low = absurd h
  shallow_by form limit some n (f ∷ fs) [] h low = absurd h
  shallow_by form limit some n (f ∷ fs) (g ∷ gs) h low =
      let first = h.0 in
      let le : nesting_all source names f.body ≤ n = (let a = low.0 in omega (arith, first, a)) in
      let t : nat_le (nesting_all source names f.body) n ≡ true = grind (arith, nat_tests) in
      rw t (shallow_by form limit some n fs gs h.1 low.1)

  module _ (parts : List FilePart) (tokens : List Token) where
    abbrev file : File
    file = file_of parts

    abbrev form : List ℕ
    form = form_of source names file

    abbrev N : ℕ
    N = nesting_limit + deepest file.functions

    wide : 2 ≤ N
    wide = let p = enough in omega (arith, p)

    too_deep : AreTokens source tokens → AreInOrder 0 (length source) tokens → AreAll (IsPart nesting_limit) (lexemes_of source tokens) parts → is_shallow source file names ≡ false
        → DerivesNone form parse.TooDeep
    unfolding AreTokens IsProgram AreOfGrammar IsOfGrammar
    too_deep lexed order all high =
        let wider = all_weaker (IsPart nesting_limit) (IsPart N) (part_deeper nesting_limit N (omega arith)) parts (lexemes_of source tokens) all in
        let part = parts_formed source form names N wide parts (lexemes_of source tokens) 0 (length source) wider (lie_of source 0 (length source) tokens order)
        (below form N wide file.functions (omega arith)) in
        let stretches = part.stretches in
        let whole : form ≡ with_texts source 0 (spans_of stretches) = form_is source names file ∙ ap (with_texts source 0) (sym part.spans) in
        let terminals : lexemes_of source (tokens_of 0 lexed.1.0) ≡ lefts stretches = ap (lexemes_of source) (sym lexed.1.3) ∙ sym part.left in
        let r = lexing source form stretches [] 0 0 true lexed.1.1 lexed.1.0 lexed.1.2 terminals part.ended whole in
        let l = r.2 in
        let made = part.right 0 r.4 in
        let us = tokens_of 0 l.fronts in
        let ts = lexemes_of form us in
        let stand : Stand true form l.fronts r.1 [] = subst (λ (z : List ℕ). Stand true z l.fronts r.1 []) (sym whole) l.stand in
        let clear = subst (λ (z : List ℕ). HasNoMarker z) (sym whole) (no_marker source (spans_of stretches) lexed.0) in
        let deep_file : IsFile N ts (file_of made.0) = (made.0, subst (λ (z : List Lexeme). AreAll (IsPart N) z made.0) (sym l.terminals) made.1, refl) in (
          us,
          (clear, (l.fronts, r.1, stand, refl)),
          (
            (file_of made.0, (N, deep_file)),
            (λ other p. (
                let same : other ≡ file_of made.0 = same_ok _ _ other (file_of made.0) _ (program_is_read ts other p) (file_again N ts (file_of made.0) deep_file) in
                let low : Low form nesting_limit other.functions = subst (λ (z : File). Low form nesting_limit z.functions) (sym p.2) (parts_low form nesting_limit p.0 ts p.1) in
                let low_made : Low form nesting_limit (file_of made.0).functions = subst (λ (z : File). Low form nesting_limit z.functions) same low in
                let shallow = shallow_by form N wide nesting_limit file.functions (file_of made.0).functions made.4 low_made in
                let there : is_shallow source file names ≡ true = subst (λ (z : ℕ). list_all (λ f. nat_le (nesting_all source names f.body) z) file.functions ≡ true) same_limit shallow in
                both_ways (is_shallow source file names) high there)),
          ),
        )

pub deep_forms_are_deep : DeepFormsAreDeep
unfolding IsProgram
deep_forms_are_deep source names file h high =
    let derived = h.derived in
    subst (λ (y : File). DerivesNone (form_of source names y) parse.TooDeep) (sym derived.2)
    (too_deep source names derived.0 h.tokens h.lexed (tokens_in_order source h.tokens h.lexed) derived.1 (subst (λ (y : File). is_shallow source y names ≡ false) derived.2 high))
