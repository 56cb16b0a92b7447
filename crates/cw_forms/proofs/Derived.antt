-- The form of a source that is read has tokens, and they derive a file.
use Rattle.std.proofs.Common.{◌≡◌, ℕ, ◌≤◌, Bool, true, false, nat_le, List, [], ◌∷◌, ◌++◌, length, refl, sym, ap, subst, ◌∙◌, arith}
use Rattle.std.specs.List.{filter_map, list_all}
use Rattle.cw_syntax.specs.Names.{slice}
use Rattle.cw_syntax.specs.Trees.{Statement, Stated, Block, Declares, Evaluates, Empties, Labels, Chooses, Whiles, Does, Fors, Breaks, Continues, Returns, File}
use Rattle.cw_lex.specs.declared.tokens.Token.{Token}
use Rattle.cw_lex.specs.Punctuators.{HasNoMarker}
use Rattle.cw_lex.specs.Listed.{AreInOrder}
use Rattle.cw_lex.proofs.Ordered.{tokens_in_order}
use Rattle.cw_lex.specs.Tokens.{Stand, tokens_of, AreTokens}
use Rattle.cw_grammar.specs.declared.terminals.Lexeme.{Lexeme}
use Rattle.cw_grammar.specs.Lexemes.{AreAll}
use Rattle.cw_grammar.specs.Spelling.{lexemes_of}
use Rattle.cw_grammar.specs.Expressions.{nesting_limit}
use Rattle.cw_grammar.specs.Files.{Part as FilePart, IsPart, IsProgram, file_of}
use Rattle.cw_scope.specs.Walks.{Nested, every_statement}
use Rattle.cw_source.specs.Read.{ReadsAs}
use Rattle.cw_source.proofs.Lying.{lie_of}
use Rattle.cw_core.specs.declared.quantity.Quantity.TheVariants.{Nesting}
use Rattle.cw_core.specs.Quantities.{limit_of}
use Rattle.cw_detach.specs.Form.{before, behind, calls_one, span_of, form_from, form_of, nesting_all}
use Rattle.cw_detach.specs.Faults.{is_shallow}
use Rattle.cw_forms.specs.Stretches.{lefts}
use Rattle.cw_forms.specs.Spans.{spans_of, with_texts}
use Rattle.cw_forms.specs.Statements.{pairs_in}
use Rattle.cw_forms.specs.Derived.{FormDerives}
use Rattle.cw_forms.proofs.Markers.{no_marker}
use Rattle.cw_forms.proofs.Lexing.{lexing}
use Rattle.cw_forms.proofs.FilesFormed.{parts_formed, shallow_each}

-- the form, by its spans as pairs
module _ (source : List ℕ) (names : List (List ℕ)) (ps : List Nested) (looped : Bool) where
  abbrev Linked : List Nested → ℕ → Type 0
  Linked qs at = form_from source at (filter_map (λ p. span_of source names p.statement) qs) ≡ with_texts source at (pairs_in source names qs)

  one_linked : (st : Statement) (at : ℕ) → ((b : ℕ) → Linked ps b) → Linked (record { statement = st; looped = looped } ∷ ps) at
  unfolding form_from with_texts
  one_linked (Stated (Block kids) a b) at rest = rest at
  one_linked (Stated (Declares x) a b) at rest = rest at
  one_linked (Stated (Evaluates e) a b) at rest = by (calls_one source names e) refl
    where
      by : (t : Bool) → calls_one source names e ≡ t → Linked (record { statement = Stated (Evaluates e) a b; looped = looped } ∷ ps) at
      by true is = rw is (ap (λ (z : List ℕ). slice source at a ++ (before ++ (slice source a b ++ (behind ++ z)))) (rest b))
      by false is = rw is (rest at)
  one_linked (Stated Empties a b) at rest = rest at
  one_linked (Stated (Labels name mark body) a b) at rest = rest at
  one_linked (Stated (Chooses test body other) a b) at rest = rest at
  one_linked (Stated (Whiles test body) a b) at rest = rest at
  one_linked (Stated (Does body test) a b) at rest = rest at
  one_linked (Stated (Fors init test step body) a b) at rest = rest at
  one_linked (Stated Breaks a b) at rest = rest at
  one_linked (Stated Continues a b) at rest = rest at
  one_linked (Stated (Returns value) a b) at rest = rest at

linked : (source : List ℕ) (names : List (List ℕ)) (ps : List Nested) (at : ℕ) → Linked source names ps true ps at
unfolding form_from with_texts
linked source names [] at = refl
linked source names (p ∷ ps) at = one_linked source names ps p.looped p.statement at (λ b. linked source names ps b)

pub form_is : (source : List ℕ) (names : List (List ℕ)) (file : File) → form_of source names file ≡ with_texts source 0 (pairs_in source names (every_statement file))
unfolding form_of
form_is source names file = linked source names (every_statement file) 0

pub enough : 2 ≤ nesting_limit
unfolding nesting_limit
enough = omega arith

pub same_limit : nesting_limit ≡ limit_of Nesting
unfolding nesting_limit
same_limit = refl

module _ (source : List ℕ) (names : List (List ℕ)) (parts : List FilePart) (tokens : List Token) where
  abbrev file : File
  file = file_of parts

  abbrev form : List ℕ
  form = form_of source names file

  derives : AreTokens source tokens → AreInOrder 0 (length source) tokens → AreAll (IsPart nesting_limit) (lexemes_of source tokens) parts → is_shallow source file names ≡ true
      → FormDerives source names tokens file
  unfolding AreTokens IsProgram
  derives lexed order all low =
      let part = parts_formed source form names nesting_limit enough parts (lexemes_of source tokens) 0 (length source) all
      (lie_of source 0 (length source) tokens order) (shallow_each source form names nesting_limit enough file.functions
      (subst (λ (z : ℕ). list_all (λ f. nat_le (nesting_all source names f.body) z) file.functions ≡ true) (sym same_limit) low)) in
      let P = part.stretches in
      let whole : form ≡ with_texts source 0 (spans_of P) = form_is source names file ∙ ap (with_texts source 0) (sym part.spans) in
      let terminals : lexemes_of source (tokens_of 0 lexed.1.0) ≡ lefts P = ap (lexemes_of source) (sym lexed.1.3) ∙ sym part.left in
      let r = lexing source form P [] 0 0 true lexed.1.1 lexed.1.0 lexed.1.2 terminals part.ended whole in
      let l = r.2 in
      let made = part.right 0 r.4 in
      let us = tokens_of 0 l.fronts in
      let stand : Stand true form l.fronts r.1 [] = subst (λ (z : List ℕ). Stand true z l.fronts r.1 []) (sym whole) l.stand in
      let clear = subst (λ (z : List ℕ). HasNoMarker z) (sym whole) (no_marker source (spans_of P) lexed.0) in
      record {
        stretches = P;
        of_source = part.left;
        at_spans = part.spans;
        tokens = us;
        lexed = (clear, (l.fronts, r.1, stand, refl));
        of_form = l.terminals;
        made = file_of made.0;
        derived = (made.0, subst (λ (z : List Lexeme). AreAll (IsPart nesting_limit) z made.0) (sym l.terminals) made.1, refl);
        same = made.2;
      }

pub forms_derive : (source : List ℕ) (names : List (List ℕ)) (file : File) (h : ReadsAs source file) → is_shallow source file names ≡ true → FormDerives source names h.tokens file
unfolding IsProgram
forms_derive source names file h low =
    let derived = h.derived in
    subst (λ (y : File). FormDerives source names h.tokens y) (sym derived.2)
    (derives source names derived.0 h.tokens h.lexed (tokens_in_order source h.tokens h.lexed) derived.1 (subst (λ (y : File). is_shallow source y names ≡ true) derived.2 low))
