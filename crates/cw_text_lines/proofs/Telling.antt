-- Fields from which what they say can be computed: two values that fit differ in their fields, and of any fields it can be told whether they are those of one.
use Rattle.std.proofs.Common.{◌≡◌, ◌≢◌, ◌⊎◌, ℕ, ◌<◌, ◌≤◌, List, [], ◌∷◌, length, Option, Some, None, refl, sym, ap, ap₂, ◌∙◌, subst, inl, inr, arith}
use Rattle.std.proofs.lemmas.Bool.{cases_lt}
use Rattle.cw_lemmas.proofs.Texts.{bytes_or_not}
use Rattle.cw_text.specs.Lines.{Reads}

pub fields_or_not : (a b : List (List ℕ)) → (a ≡ b) ⊎ (a ≢ b)
fields_or_not [] [] = inl refl
fields_or_not [] (y ∷ b) = inr (λ e. omega (arith, ap length e))
fields_or_not (x ∷ a) [] = inr (λ e. omega (arith, ap length e))
fields_or_not (x ∷ a) (y ∷ b) = go (bytes_or_not x y) (fields_or_not a b)
  where
    first : List (List ℕ) → List ℕ
    first [] = []
    first (w ∷ ws) = w

    others : List (List ℕ) → List (List ℕ)
    others [] = []
    others (w ∷ ws) = ws

    go : (x ≡ y) ⊎ (x ≢ y) → (a ≡ b) ⊎ (a ≢ b) → (x ∷ a ≡ y ∷ b) ⊎ (x ∷ a ≢ y ∷ b)
    go (inl e) (inl h) = inl (ap₂ (λ (w : List ℕ) (ws : List (List ℕ)). w ∷ ws) e h)
    go (inr differs) h = inr (λ is. differs (ap first is))
    go (inl e) (inr differ) = inr (λ is. differ (ap others is))

pub below_or_not : (m n : ℕ) → (m < n) ⊎ (m < n → ⊥)
below_or_not m n = go (cases_lt m n)
  where
    go : (m < n) ⊎ (n ≤ m) → (m < n) ⊎ (m < n → ⊥)
    go (inl lt) = inl lt
    go (inr le) = inr (λ lt. omega (arith, lt, le))

module _ {B W : Type 0} (Fits : B → Type 0) (text_of : B → W) (back : W → B) (is_back : (b : B) → Fits b → back (text_of b) ≡ b) where
  pub same_by : (a b : B) → Fits a → Fits b → text_of a ≡ text_of b → a ≡ b
  same_by a b f g e = sym (is_back a f) ∙ ap back e ∙ is_back b g

  only : (field : W) (b : B) → Fits b → text_of b ≡ field → back field ≡ b
  only field b f is = ap back (sym is) ∙ is_back b f

  pub decided_by : ((a b : W) → (a ≡ b) ⊎ (a ≢ b)) → ((b : B) → Fits b ⊎ (Fits b → ⊥)) → (field : W) → (read : Option B) × Reads Fits text_of field read
  decided_by equal fits field = go (fits (back field)) (equal (text_of (back field)) field)
    where
      go : Fits (back field) ⊎ (Fits (back field) → ⊥) → (text_of (back field) ≡ field) ⊎ (text_of (back field) ≢ field) → (read : Option B) × Reads Fits text_of field read
      go (inl f) (inl e) = (Some (back field), record { some = (f, e); none = tt })
      go (inl f) (inr differs) = (None, record { some = tt; none = λ b g is. differs (ap text_of (only field b g is) ∙ is) })
      go (inr never) e = (None, record { some = tt; none = λ b g is. never (subst Fits (sym (only field b g is)) g) })
