-- What the recogniser takes for a file is one.
use Rattle.std.proofs.Common.{◌≡◌, max, Bool, true, false, List, [], ◌∷◌, ◌++◌, refl, sym, ap, subst, ◌∙◌, append_assoc, inl, inr, Option, arith}
use Rattle.std.specs.Prelude.{is_some, ◌&&◌}
use Rattle.cw_syntax.specs.declared.program.Name.{Name}
use Rattle.cw_syntax.specs.declared.program.Param.{Param}
use Rattle.cw_grammar.specs.declared.terminals.Terminal.TheVariants as w
use Rattle.cw_grammar.specs.declared.terminals.Lexeme.{Lexeme}
use Rattle.cw_grammar.specs.Lexemes.{Is, name_of, statements}
use Rattle.cw_grammar.specs.Declarations.{pointer, AreParams, IsHeader}
use Rattle.cw_grammar.specs.Files.{AreNamed, Declares, Holds, Defines, IsPart}
use Rattle.cw_recogniser.specs.declared.kinds.TerminalKind.{TerminalKind}
use Rattle.cw_recogniser.specs.declared.kinds.TerminalKind.TheVariants as k
use Rattle.cw_recogniser.specs.declared.symbols.Symbol.TheVariants as s
use Rattle.cw_recogniser.specs.Kinds.{kind_of_terminal}
use Rattle.cw_recogniser.specs.Machine.{after, after_declared, specifiers}
use Rattle.cw_grammar.proofs.Deeper.{part_deeper, all_weaker}
use Rattle.cw_recogniser.proofs.FilesRead.{all_named}
use Rattle.cw_recogniser.proofs.Meanings.{SomeStars, SomeSpecifiers, SomeArray, SomeInitialiser, SomeItems, SomeParams, SomePart, SomeParts, Ends, Punctuator, Means, Follow, Given}
use Rattle.cw_recogniser.proofs.Meanings.{split_follow, split_onto, exact}
use Rattle.cw_recogniser.proofs.TypesSound.{specifiers_sound}
use Rattle.cw_recogniser.proofs.DeclarationsSound.{array_none, array_sound, initialiser_none, initialiser_sound, more_items_none, more_items_sound, item_of, SomeDeclaration, declaration_of}

-- ---- headers

named : (ps : List Param) → all_named ps ≡ true → AreNamed ps
named [] h = tt
named (p ∷ ps) h = by_name (is_some p.name) refl h (named ps) where
  by_name : (b : Bool) → is_some p.name ≡ b → (b && all_named ps) ≡ true → (all_named ps ≡ true → AreNamed ps) → AreNamed (p ∷ ps)
  by_name true e h rec = (λ f. let g : is_some p.name ≡ false = ap (λ (z : Option Name). is_some z) f in absurd cc, rec h)
  by_name false e h rec = absurd cc

module _ (b c : List Lexeme) (m t : Lexeme) (specs : SomeSpecifiers b) (stars : SomeStars c) (is : Is w.Name m) where
  header : (u : List Lexeme) (z : Lexeme) (ps : List Param) → Is w.Open t → Is w.Close z → AreParams u ps → IsHeader (b ++ (c ++ (m ∷ t ∷ (u ++ (z ∷ []))))) (name_of m) (pointer specs.0 stars.0) ps
  header u z ps p q h = (b, c, m ∷ [], t ∷ (u ++ (z ∷ [])), specs.0, stars.0, refl, specs.1, stars.1, refl, (m, refl, is, refl), (t, u, z, refl, p, q, h))

  by_ending : (u : List Lexeme) (z : Lexeme) (ps : List Param) (d : List Lexeme) → Is w.Open t → Is w.Close z → AreParams u ps → Ends (all_named ps) d
      → SomePart ((b ++ (c ++ (m ∷ t ∷ (u ++ (z ∷ []))))) ++ d)
  by_ending u z ps d p q h (inl (e, f, semicolon)) = (
    0,
    Declares (record { name = name_of m; result = pointer specs.0 stars.0; params = ps }),
    (b ++ (c ++ (m ∷ t ∷ (u ++ (z ∷ [])))), e, rw f refl, header u z ps p q h, semicolon),
  )
  by_ending u z ps d p q h (inr (all, (o, v, e, f, opens, (n, body, items), closes))) = (
    n,
    Defines (record { name = name_of m; result = pointer specs.0 stars.0; params = ps; brace = o.to; body = statements body }),
    (b ++ (c ++ (m ∷ t ∷ (u ++ (z ∷ [])))), o, v, e, body, rw f refl, header u z ps p q h, named ps all, opens, refl, items, refl, closes),
  )

  whole : (u v : List Lexeme) (z : Lexeme) → (b ++ (c ++ (m ∷ t ∷ (u ++ (z ∷ []))))) ++ v ≡ b ++ (c ++ (m ∷ t ∷ (u ++ (z ∷ v))))
  whole u v z = rw (append_assoc, append_assoc, append_assoc) refl

  by_params : (a : List Lexeme) → Is w.Open t → SomeParams a → SomePart (b ++ (c ++ (m ∷ t ∷ a)))
  by_params a p (ps, u, z, d, e, h, q, ends) = subst (λ (x : List Lexeme). SomePart x) (whole u d z ∙ ap (λ (x : List Lexeme). b ++ (c ++ (m ∷ t ∷ x))) (sym e)) (by_ending u z ps d p q h ends)

-- ---- declarations

holds : (a : List Lexeme) → SomeDeclaration a → SomePart a
holds a (n, x, d) = (n, Holds x, d)

module _ (b c : List Lexeme) (m : Lexeme) (specs : SomeSpecifiers b) (stars : SomeStars c) (is : Is w.Name m) where
  by_items : (arr init others : List Lexeme) (z : Lexeme) (rest : List Lexeme) → SomeArray arr → SomeInitialiser init → Means s.MoreItems others rest → Is w.Semicolon z
      → SomePart (b ++ (c ++ (m ∷ (arr ++ (init ++ (others ++ (z ∷ [])))))))
  by_items arr init others z rest p q more semicolon =
      let item = item_of c m arr init stars is p q in
      let items : SomeItems ((c ++ (m ∷ (arr ++ init))) ++ others) = more (c ++ (m ∷ (arr ++ init))) item in
      subst (λ (x : List Lexeme). SomePart x) (ap (λ (x : List Lexeme). b ++ x) (rw (append_assoc, append_assoc, append_assoc) refl))
      (holds (b ++ (((c ++ (m ∷ (arr ++ init))) ++ others) ++ (z ∷ []))) (declaration_of b ((c ++ (m ∷ (arr ++ init))) ++ others) z specs items semicolon))

pub after_declared_sound : (kind : TerminalKind) (t : Lexeme) (a rest : List Lexeme) → kind_of_terminal t.terminal ≡ kind → Given (after_declared kind) a rest → Means s.AfterDeclared (t ∷ a) rest
after_declared_sound k.Open t a rest e h = λ b c m specs stars is. by_params b c m t specs stars is a (exact t k.Open w.Open e refl) h
after_declared_sound k.OpenBracket t a rest e h = λ b c m specs stars is. by_parts b c m specs stars is
    (split_follow (s.MaybeExpression ∷ s.CloseBracket ∷ []) s.Initialiser (s.MoreItems ∷ s.Semicolon ∷ []) a rest h) where
      by_parts : (b c : List Lexeme) (m : Lexeme) → SomeSpecifiers b → SomeStars c → Is w.Name m → (u : List Lexeme) × (v : List Lexeme) × (a ≡ u ++ v)
          × Follow (s.MaybeExpression ∷ s.CloseBracket ∷ []) u (v ++ rest) × Follow (s.Initialiser ∷ s.MoreItems ∷ s.Semicolon ∷ []) v rest → SomePart (b ++ (c ++ (m ∷ t ∷ a)))
      by_parts b c m specs stars is (u, v, f, arr, (x, y, g, init, (l, d, j, more, (z, i, q)))) =
          subst (λ (x : List Lexeme). SomePart (b ++ (c ++ (m ∷ t ∷ x)))) (sym (rw (f, g, j, i) refl))
          (by_items b c m specs stars is (t ∷ u) x l z (d ++ rest) (array_sound k.OpenBracket t u (v ++ rest) e arr) init more q)
after_declared_sound k.Assign t a rest e (x, y, g, init, (l, d, j, more, (z, i, q))) = λ b c m specs stars is.
    subst (λ (x : List Lexeme). SomePart (b ++ (c ++ (m ∷ t ∷ x)))) (sym (rw (g, j, i) refl))
    (by_items b c m specs stars is [] (t ∷ x) l z (d ++ rest) array_none (initialiser_sound k.Assign t x (y ++ rest) e init) more q)
after_declared_sound k.Comma t a rest e h = λ b c m specs stars is. by_parts b c m specs stars is
    (split_follow (s.TwoStars ∷ s.Name ∷ s.Array ∷ s.Initialiser ∷ s.MoreItems ∷ []) s.Semicolon [] a rest h) where
      by_parts : (b c : List Lexeme) (m : Lexeme) → SomeSpecifiers b → SomeStars c → Is w.Name m → (u : List Lexeme) × (v : List Lexeme) × (a ≡ u ++ v)
          × Follow (s.TwoStars ∷ s.Name ∷ s.Array ∷ s.Initialiser ∷ s.MoreItems ∷ []) u (v ++ rest) × Punctuator w.Semicolon v → SomePart (b ++ (c ++ (m ∷ t ∷ a)))
      by_parts b c m specs stars is (u, v, f, items, (z, i, q)) =
          subst (λ (x : List Lexeme). SomePart (b ++ (c ++ (m ∷ t ∷ x)))) (sym (rw (f, i) refl))
          (by_items b c m specs stars is [] [] (t ∷ u) z (v ++ rest) array_none initialiser_none (more_items_sound k.Comma t u (v ++ rest) e items) q)
after_declared_sound k.Semicolon t a rest e h = λ b c m specs stars is.
    subst (λ (x : List Lexeme). SomePart (b ++ (c ++ (m ∷ t ∷ x)))) (sym h)
    (by_items b c m specs stars is [] [] [] t rest array_none initialiser_none (more_items_none rest) (exact t k.Semicolon w.Semicolon e refl))
after_declared_sound _ t a rest e h = absurd h

-- ---- files

before_parts : (a b : List Lexeme) → SomePart a → SomeParts b → SomeParts (a ++ b)
before_parts a b (m, x, h) (n, xs, d) =
    let k = max m n in
    (k, x ∷ xs, (a, b, refl, part_deeper m k (omega arith) a x h, all_weaker (IsPart n) (IsPart k) (part_deeper n k (omega arith)) xs b d))

pub parts_sound : (kind : TerminalKind) (t : Lexeme) (a rest : List Lexeme) → kind_of_terminal t.terminal ≡ kind → Given (after s.Parts kind) a rest → SomeParts (t ∷ a)
parts_sound kind t a rest e h = by_parts (split_onto (specifiers kind) s.TwoStars (s.Name ∷ s.AfterDeclared ∷ s.Parts ∷ []) a rest h) where
  by_parts : (b : List Lexeme) × (c : List Lexeme) × (a ≡ b ++ c) × Given (specifiers kind) b (c ++ rest) × Follow (s.TwoStars ∷ s.Name ∷ s.AfterDeclared ∷ s.Parts ∷ []) c rest → SomeParts (t ∷ a)
  by_parts (b, c, f, given, (u, v, g, stars, (x, y, j, (m, i, q), (l, d, o, part, parts)))) =
      subst (λ (z : List Lexeme). SomeParts (t ∷ z)) (sym (rw (f, g, j, i, o)
      (sym (append_assoc b (u ++ (m ∷ l)) d ∙ ap (λ (z : List Lexeme). b ++ z) (append_assoc u (m ∷ l) d)))))
      (before_parts ((t ∷ b) ++ (u ++ (m ∷ l))) d (part (t ∷ b) u m (specifiers_sound kind t b (c ++ rest) e given) stars q) parts)
