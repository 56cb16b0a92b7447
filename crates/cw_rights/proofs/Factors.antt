-- Words cut in two, and words in factors.
use Rattle.std.proofs.Common.{◌≡◌, ◌⊎◌, inl, inr, List, [], ◌∷◌, ◌++◌, refl, sym, ap, ◌∙◌, subst, append_assoc, append-nil}
use Rattle.cw_rights.specs.Trees.{Tree, star, plus}
use Rattle.cw_rights.specs.Words.{Word, Factors, Matches}

-- the word has a letter
abbrev pub NotNil : Word → Type 0
NotNil [] = ⊥
NotNil (c ∷ w) = Unit {0}

pub nil_or_not : (w : Word) → (w ≡ []) ⊎ NotNil w
nil_or_not [] = inl refl
nil_or_not (c ∷ w) = inr tt

pub not_nil_right : (u v : Word) → NotNil v → NotNil (u ++ v)
not_nil_right [] v n = n
not_nil_right (c ∷ u) v n = tt

pub not_nil : (w : Word) → NotNil w → w ≡ [] → ⊥
not_nil w n e = subst NotNil e n

-- w = x ++ y, x = u ++ v: w = u ++ (v ++ y)
pub cut_again : (w x y u v : Word) → w ≡ x ++ y → x ≡ u ++ v → w ≡ u ++ (v ++ y)
cut_again w x y u v e f = e ∙ ap (λ z. z ++ y) f ∙ append_assoc u v y

-- w = x ++ y, y = u ++ v: w = (x ++ u) ++ v
pub cut_before : (w x y u v : Word) → w ≡ x ++ y → y ≡ u ++ v → w ≡ (x ++ u) ++ v
cut_before w x y u v e f = e ∙ ap (λ z. x ++ z) f ∙ sym (append_assoc x u v)

-- factors, and one more behind them
pub factors_snoc : (P : Word → Type 0) (us : List Word) (v y : Word) → Factors P us v → P y → Factors P (us ++ y ∷ []) (v ++ y)
factors_snoc P [] v y h p = ([], ap (λ z. z ++ y) h ∙ sym (append-nil y), p, refl)
factors_snoc P (u ∷ us) w y h p = (h.0 ++ y, ap (λ z. z ++ y) h.1 ∙ append_assoc u h.0 y, h.2, factors_snoc P us h.0 y h.3 p)

-- the last factor that has a letter
pub factors_last : (P : Word → Type 0) (us : List Word) (w : Word) → Factors P us w → NotNil w → (v : Word) × (y : Word) × (vs : List Word) × (w ≡ v ++ y) × Factors P vs v × NotNil y × P y
factors_last P [] w h n = absurd (not_nil w n h)
factors_last P (u ∷ us) w h n = by (factors_last P us h.0 h.3) (nil_or_not h.0)
  where
    by : (NotNil h.0 → (v : Word) × (y : Word) × (vs : List Word) × (h.0 ≡ v ++ y) × Factors P vs v × NotNil y × P y) → (h.0 ≡ []) ⊎ NotNil h.0 →
        (v : Word) × (y : Word) × (vs : List Word) × (w ≡ v ++ y) × Factors P vs v × NotNil y × P y
    by rec (inl e) = let f : w ≡ u = h.1 ∙ ap (λ z. u ++ z) e ∙ append-nil u in ([], u, [], f, refl, subst NotNil f n, h.2)
    by rec (inr m) =
        let r = rec m in
        (u ++ r.0, r.1, u ∷ r.2, cut_before w u h.0 r.0 r.1 h.1 r.3, (r.0, refl, h.2, r.4), r.5, r.6)

-- from a list of factors that may be empty to one that isn't, where the word has a letter
pub plus_of : (r : Tree) (w y : Word) → Matches (star r) w → Matches r y → Matches (plus r) (w ++ y)
plus_of r w y h m = by h.0 h.1
  where
    by : (us : List Word) → Factors (Matches r) us w → Matches (plus r) (w ++ y)
    by [] p = (y, [], ([], ap (λ z. z ++ y) p ∙ sym (append-nil y), m, refl))
    by (u ∷ us) p = (u, us ++ y ∷ [], factors_snoc (Matches r) (u ∷ us) w y p m)

pub star_of : (r : Tree) (w y : Word) → Matches (star r) w → Matches r y → Matches (star r) (w ++ y)
star_of r w y h m = (h.0 ++ y ∷ [], factors_snoc (Matches r) h.0 w y h.1 m)

-- the same, whose last factor has a letter
pub last_of : (r : Tree) (w : Word) → Matches (star r) w → NotNil w → (v : Word) × (y : Word) × (w ≡ v ++ y) × Matches (star r) v × NotNil y × Matches r y
last_of r w h n = let t = factors_last (Matches r) h.0 w h.1 n in (t.0, t.1, t.3, (t.2, t.4), t.5, t.6)
