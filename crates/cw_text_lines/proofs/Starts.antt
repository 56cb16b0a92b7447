-- What a text begins with.
use Rattle.std.proofs.Common.{◌≡◌, ◌≢◌, ◌⊎◌, ℕ, ◌+◌, ◌<◌, List, [], ◌∷◌, ◌++◌, length, Bool, true, false, eqb, eqb-true, Option, Some, None, refl, sym, ap, ◌∙◌, inl, inr, arith, append_assoc, length-append}
use Rattle.std.specs.Prelude.{codes}
use Rattle.std.specs.List.{All}
use Rattle.std.proofs.lemmas.List.Elements.{All-nil, All-cons}
use Rattle.cw_text.specs.Lines.{IsFree, line, joined, fields_by, Reads}
use Rattle.cw_text.proofs.Cuts.{fields-joined, joined-fields}
use Rattle.cw_text.proofs.Free.{one_line, no_line, joined_free}
use Rattle.cw_text_lines.specs.Lines.{StartsWith, StartsWithNone, Tell, AreDecided}

pub line_end : (a rest : List ℕ) → line a ++ rest ≡ a ++ (10 ∷ rest)
line_end a rest = append_assoc a (codes "\n") rest

-- the front of a text up to its first LF, or that it has none
pub first_line : (text : List ℕ) → ((front : List ℕ) × (rest : List ℕ) × (text ≡ front ++ (10 ∷ rest)) × IsFree 10 front) ⊎ IsFree 10 text
first_line [] = inr (All-nil (λ (b : ℕ). eqb b 10 ≡ false))
first_line (b ∷ text) = go (eqb b 10) refl (first_line text)
  where
    go : (t : Bool) → eqb b 10 ≡ t → ((front : List ℕ) × (rest : List ℕ) × (text ≡ front ++ (10 ∷ rest)) × IsFree 10 front) ⊎ IsFree 10 text
        → ((front : List ℕ) × (rest : List ℕ) × (b ∷ text ≡ front ++ (10 ∷ rest)) × IsFree 10 front) ⊎ IsFree 10 (b ∷ text)
    go true is h = let e : b ≡ 10 = eqb-true b 10 is in inl ([], text, ap (λ c. c ∷ text) e, All-nil (λ (b : ℕ). eqb b 10 ≡ false))
    go false is (inl h) = inl (b ∷ h.0, h.1, ap (λ t. b ∷ t) h.2, All-cons (λ (b : ℕ). eqb b 10 ≡ false) b h.0 is h.3)
    go false is (inr h) = inr (All-cons (λ (b : ℕ). eqb b 10 ≡ false) b text is h)

module _ {A : Type 0} (Fits : A → Type 0) (fields_in : A → List (List ℕ)) (tell : Tell Fits fields_in) where
  abbrev text_of : A → List ℕ
  text_of said = joined 32 (fields_in said)

  back : (fields : List (List ℕ)) → fields ≢ [] → All (IsFree 32) fields → fields_by 32 (joined 32 fields) ≡ fields
  back [] some free = absurd (some refl)
  back (w ∷ ws) some free = fields-joined 32 w ws free

  pub fields_back : (said : A) → Fits said → fields_by 32 (text_of said) ≡ fields_in said
  fields_back said fits = back (fields_in said) (tell.some said) (tell.spaceless said fits)

  pub text_free : (said : A) → Fits said → IsFree 10 (text_of said)
  text_free said fits = joined_free 32 10 refl (fields_in said) (tell.one_line said fits)

  -- a line without its LF, by its fields
  pub from_fields : (text : List ℕ) (fields : List (List ℕ)) (read : Option A) → fields ≡ fields_by 32 text → Reads Fits fields_in fields read → Reads Fits text_of text read
  from_fields text fields None e reads = record { some = tt; none = λ said fits is. reads.none said fits (sym (fields_back said fits) ∙ ap (fields_by 32) is ∙ sym e) }
  from_fields text fields (Some said) e reads = record { some = (reads.some.0, ap (joined 32) (reads.some.1 ∙ e) ∙ joined-fields 32 text); none = tt }

  pub starts : (text front rest : List ℕ) (said : A) → text ≡ front ++ (10 ∷ rest) → Reads Fits text_of front (Some said) → StartsWith Fits fields_in text said rest
  starts text front rest said e reads = record {
    fits = reads.some.0;
    spelled = e ∙ ap (λ (t : List ℕ). t ++ (10 ∷ rest)) (sym reads.some.1) ∙ sym (line_end (text_of said) rest);
  }

  pub starts_nowhere : (text : List ℕ) → IsFree 10 text → StartsWithNone Fits fields_in text
  starts_nowhere text free said rest s = no_line 10 text (text_of said) rest free (s.spelled ∙ line_end (text_of said) rest)

  pub starts_otherwise : (text front rest : List ℕ) → text ≡ front ++ (10 ∷ rest) → IsFree 10 front → Reads Fits text_of front None → StartsWithNone Fits fields_in text
  starts_otherwise text front rest e free reads said more s =
      reads.none said s.fits (sym (one_line 10 front (text_of said) rest more free (text_free said s.fits) (sym e ∙ s.spelled ∙ line_end (text_of said) more)).0)

  -- the same of one line that may be said, by its fields
  pub starts_like : (text front rest : List ℕ) (said : A) → text ≡ front ++ (10 ∷ rest) → Fits said → fields_in said ≡ fields_by 32 front → StartsWith Fits fields_in text said rest
  starts_like text front rest said e fits is = starts text front rest said e (from_fields front (fields_by 32 front) (Some said) refl (record { some = (fits, is); none = tt }))

  pub starts_unlike : (text front rest more : List ℕ) (said : A) → text ≡ front ++ (10 ∷ rest) → IsFree 10 front → (Fits said → fields_in said ≢ fields_by 32 front) → StartsWith Fits fields_in text said more → ⊥
  starts_unlike text front rest more said e free differ s =
      let same = (one_line 10 front (text_of said) rest more free (text_free said s.fits) (sym e ∙ s.spelled ∙ line_end (text_of said) more)).0 in
      differ s.fits (sym (fields_back said s.fits) ∙ ap (fields_by 32) (sym same))

  -- two lines with which a text begins are one
  pub one_start : (text rest more : List ℕ) (a b : A) → StartsWith Fits fields_in text a rest → StartsWith Fits fields_in text b more → (a ≡ b) × (rest ≡ more)
  one_start text rest more a b s t =
      let l = one_line 10 (text_of a) (text_of b) rest more (text_free a s.fits) (text_free b t.fits) (sym (line_end (text_of a) rest) ∙ sym s.spelled ∙ t.spelled ∙ line_end (text_of b) more) in
      (tell.same a b s.fits t.fits (sym (fields_back a s.fits) ∙ ap (fields_by 32) l.0 ∙ fields_back b t.fits), l.1)

  pub shorter : (text rest : List ℕ) (said : A) → StartsWith Fits fields_in text said rest → length rest < length text
  shorter text rest said s =
      let e : length text ≡ length (text_of said) + length (10 ∷ rest) = ap length (s.spelled ∙ line_end (text_of said) rest) ∙ length-append (text_of said) (10 ∷ rest) in
      omega (arith, e)

  -- a text begins with a line that fits, or with none
  pub start_or_none : AreDecided Fits fields_in → (text : List ℕ) → ((said : A) × (rest : List ℕ) × StartsWith Fits fields_in text said rest) ⊎ StartsWithNone Fits fields_in text
  start_or_none decided text = by_line (first_line text)
    where
      by_fields : (front rest : List ℕ) → text ≡ front ++ (10 ∷ rest) → IsFree 10 front → (read : Option A) → Reads Fits fields_in (fields_by 32 front) read
          → ((said : A) × (rest : List ℕ) × StartsWith Fits fields_in text said rest) ⊎ StartsWithNone Fits fields_in text
      by_fields front rest e free (Some said) reads = inl (said, rest, starts text front rest said e (from_fields front (fields_by 32 front) (Some said) refl reads))
      by_fields front rest e free None reads = inr (starts_otherwise text front rest e free (from_fields front (fields_by 32 front) None refl reads))

      by_line : ((front : List ℕ) × (rest : List ℕ) × (text ≡ front ++ (10 ∷ rest)) × IsFree 10 front) ⊎ IsFree 10 text
          → ((said : A) × (rest : List ℕ) × StartsWith Fits fields_in text said rest) ⊎ StartsWithNone Fits fields_in text
      by_line (inl h) = let r = decided (fields_by 32 h.0) in by_fields h.0 h.1 h.2 h.3 r.0 r.1
      by_line (inr free) = inr (starts_nowhere text free)

-- lines of one kind among those of several
pub within : {A B : Type 0} (Fits : A → Type 0) (fields_in : A → List (List ℕ)) (kind : B → A) → ((a b : B) → kind a ≡ kind b → a ≡ b) → Tell Fits fields_in
    → Tell (λ b. Fits (kind b)) (λ b. fields_in (kind b))
within Fits fields_in kind one tell = record {
  some = λ b. tell.some (kind b);
  spaceless = λ b. tell.spaceless (kind b);
  one_line = λ b. tell.one_line (kind b);
  same = λ a b fits also e. one a b (tell.same (kind a) (kind b) fits also e);
}
