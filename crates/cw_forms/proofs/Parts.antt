-- Parts of a source, with their stretches, one behind the other.
use Rattle.std.proofs.Common.{◌≡◌, ℕ, ◌+◌, ◌≤◌, List, [], ◌∷◌, ◌++◌, map, refl, sym, ap, ap₂, subst, ◌∙◌, arith}
use Rattle.std.proofs.lemmas.List.{append_assoc}
use Rattle.std.proofs.lemmas.List.Elements.{filter_map-append}
use Rattle.cw_scope.specs.Walks.{Nested}
use Rattle.cw_grammar.specs.declared.terminals.Lexeme.{Lexeme}
use Rattle.cw_forms.specs.Moved.{moved, AreKept}
use Rattle.cw_forms.specs.Stretches.{Stretch, Keeps, Calls, call_tokens, lefts, opening, closed, rights, AreEnded, AreSame}
use Rattle.cw_forms.specs.Spans.{spans_of}
use Rattle.cw_forms.specs.Statements.{pair_of, pairs_in, StandFor}

abbrev pub added : List Stretch → ℕ
added [] = 0
added (Keeps t ∷ P) = added P
added (Calls t ys c ∷ P) = added P + 32

abbrev pub keeps : List Lexeme → List Stretch
keeps ts = map Keeps ts

lefts-append : (P Q : List Stretch) → lefts (P ++ Q) ≡ lefts P ++ lefts Q
lefts-append [] Q = refl
lefts-append (Keeps t ∷ P) Q = ap (λ (z : List Lexeme). t ∷ z) (lefts-append P Q)
lefts-append (Calls t ys c ∷ P) Q = ap (λ (z : List Lexeme). call_tokens t ys c ++ z) (lefts-append P Q) ∙ sym (append_assoc (call_tokens t ys c) (lefts P) (lefts Q))

spans-append : (P Q : List Stretch) → spans_of (P ++ Q) ≡ spans_of P ++ spans_of Q
spans-append [] Q = refl
spans-append (Keeps t ∷ P) Q = spans-append P Q
spans-append (Calls t ys c ∷ P) Q = ap (λ (z : List (ℕ × ℕ)). (t.from, c.to) ∷ z) (spans-append P Q)

ended-append : (P Q : List Stretch) → AreEnded P → AreEnded Q → AreEnded (P ++ Q)
ended-append [] Q h k = k
ended-append (Keeps t ∷ P) Q h k = ended-append P Q h k
ended-append (Calls t ys c ∷ P) Q h k = (h.0, ended-append P Q h.1 k)

rights-append : (d : ℕ) (P Q : List Stretch) → rights d (P ++ Q) ≡ rights d P ++ rights (d + added P) Q
rights-append d [] Q = let same : d ≡ d + 0 = omega arith in ap (λ (k : ℕ). rights k Q) same
rights-append d (Keeps t ∷ P) Q = ap (λ (z : List Lexeme). moved d t ∷ z) (rights-append d P Q)
rights-append d (Calls t ys c ∷ P) Q =
    let a = opening (t.from + d) in
    let m = map (moved (d + 13)) (call_tokens t ys c) in
    let z = closed (c.to + (d + 13)) in
    let r = rights (d + 32) P in
    let s = rights (d + (added P + 32)) Q in
    let same : d + 32 + added P ≡ d + (added P + 32) = omega arith in
    let rest : rights (d + 32) (P ++ Q) ≡ r ++ s = rights-append (d + 32) P Q ∙ ap (λ (k : ℕ). r ++ rights k Q) same in
    ap (λ (l : List Lexeme). a ++ (m ++ (z ++ l))) rest
    ∙ ap (λ (l : List Lexeme). a ++ (m ++ l)) (sym (append_assoc z r s))
    ∙ ap (λ (l : List Lexeme). a ++ l) (sym (append_assoc m (z ++ r) s))
    ∙ sym (append_assoc a (m ++ (z ++ r)) s)

lefts-keeps : (ts : List Lexeme) → lefts (keeps ts) ≡ ts
lefts-keeps [] = refl
lefts-keeps (t ∷ ts) = ap (λ (z : List Lexeme). t ∷ z) (lefts-keeps ts)

spans-keeps : (ts : List Lexeme) → spans_of (keeps ts) ≡ []
spans-keeps [] = refl
spans-keeps (t ∷ ts) = spans-keeps ts

ended-keeps : (ts : List Lexeme) → AreEnded (keeps ts)
ended-keeps [] = tt
ended-keeps (t ∷ ts) = ended-keeps ts

rights-keeps : (d : ℕ) (ts : List Lexeme) → rights d (keeps ts) ≡ map (moved d) ts
rights-keeps d [] = refl
rights-keeps d (t ∷ ts) = ap (λ (z : List Lexeme). moved d t ∷ z) (rights-keeps d ts)

module _ (source form : List ℕ) where
  same_both : (d : ℕ) (P Q : List Stretch) → AreSame source form d (P ++ Q) → AreSame source form d P × AreSame source form (d + added P) Q
  same_both d [] Q h = let same : d ≡ d + 0 = omega arith in (tt, subst (λ (k : ℕ). AreSame source form k Q) same h)
  same_both d (Keeps t ∷ P) Q h = let rest = same_both d P Q h.1 in ((h.0, rest.0), rest.1)
  same_both d (Calls t ys c ∷ P) Q h =
      let rest = same_both (d + 32) P Q h.2 in
      let same : d + 32 + added P ≡ d + (added P + 32) = omega arith in
      ((h.0, h.1, rest.0), subst (λ (k : ℕ). AreSame source form k Q) same rest.1)

  same_keeps : (d : ℕ) (ts : List Lexeme) → AreSame source form d (keeps ts) → AreKept source form d ts
  same_keeps d [] h = tt
  same_keeps d (t ∷ ts) h = (h.0, same_keeps d ts h.1)

  pub stand_for_both : (ps qs xs ys : List Nested) → StandFor source form ps xs → StandFor source form qs ys → StandFor source form (ps ++ qs) (xs ++ ys)
  stand_for_both [] qs xs ys h k = subst (λ (z : List Nested). StandFor source form qs (z ++ ys)) (sym h) k
  stand_for_both (p ∷ ps) qs xs ys (own, rest, whole, one, h) k =
      (own, rest ++ ys, ap (λ (z : List Nested). z ++ ys) whole ∙ append_assoc own rest ys, one, stand_for_both ps qs rest ys h k)

  module _ (names : List (List ℕ)) where
    -- Of these tokens, with these statements in them: they have stretches, so that of those in the form something holds.
    pub record Part (ts : List Lexeme) (ps : List Nested) (R : ℕ → List Lexeme → Type 0) : Type 0 where
      pub stretches : List Stretch
      pub left : lefts stretches ≡ ts
      pub spans : spans_of stretches ≡ pairs_in source names ps
      pub ended : AreEnded stretches
      pub right : (d : ℕ) → AreSame source form d stretches → R d (rights d stretches)

    abbrev pub KeptAs : List Lexeme → ℕ → List Lexeme → Type 0
    KeptAs ts d us = (us ≡ map (moved d) ts) × AreKept source form d ts

    pub kept_part : (ts : List Lexeme) → Part ts [] (KeptAs ts)
    kept_part ts = record {
      stretches = keeps ts;
      left = lefts-keeps ts;
      spans = spans-keeps ts;
      ended = ended-keeps ts;
      right = λ d h. (rights-keeps d ts, same_keeps d ts h);
    }

    abbrev pub Then : (R S : ℕ → List Lexeme → Type 0) → ℕ → List Lexeme → Type 0
    Then R S d us = (x : List Lexeme) × (y : List Lexeme) × (e : ℕ) × (us ≡ x ++ y) × R d x × S e y × (d ≤ e)

    pub part_then : (a b : List Lexeme) (ps qs : List Nested) (R S : ℕ → List Lexeme → Type 0) → Part a ps R → Part b qs S → Part (a ++ b) (ps ++ qs) (Then R S)
    part_then a b ps qs R S p q = record {
      stretches = p.stretches ++ q.stretches;
      left = lefts-append p.stretches q.stretches ∙ ap₂ (λ (x y : List Lexeme). x ++ y) p.left q.left;
      spans = spans-append p.stretches q.stretches ∙ ap₂ (λ (x y : List (ℕ × ℕ)). x ++ y) p.spans q.spans ∙ sym (filter_map-append (λ r. pair_of source names r.statement) ps qs);
      ended = ended-append p.stretches q.stretches p.ended q.ended;
      right = λ d h. (let both = same_both d p.stretches q.stretches h in
          (rights d p.stretches, rights (d + added p.stretches) q.stretches, d + added p.stretches, rights-append d p.stretches q.stretches, p.right d both.0, q.right (d + added p.stretches) both.1, omega arith));
    }

    pub part_as : (a b : List Lexeme) (ps qs : List Nested) (R S : ℕ → List Lexeme → Type 0) → b ≡ a → pairs_in source names qs ≡ pairs_in source names ps → ((d : ℕ) (us : List Lexeme)
        → R d us → S d us) → Part a ps R → Part b qs S
    part_as a b ps qs R S e spans f p = record {
      stretches = p.stretches;
      left = p.left ∙ sym e;
      spans = p.spans ∙ sym spans;
      ended = p.ended;
      right = λ d h. f d (rights d p.stretches) (p.right d h);
    }
