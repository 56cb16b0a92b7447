-- What a set of positions knows of a word.
use Rattle.std.proofs.Common.{◌≡◌, ◌⊎◌, inl, inr, ℕ, ◌+◌, ◌<◌, ◌≤◌, [], ◌∷◌, ◌++◌, Bool, true, false, ◌&&◌, ◌||◌, refl, sym, ap, ◌∙◌, subst, arith, append-nil, ⊎_elim, cond, ◌^◌}
use Rattle.cw_rights.specs.declared.words.Letter.{Letter}
use Rattle.cw_rights.specs.Trees.{Tree, nothing, never, one, seq, alt, star, plus, maybe, count}
use Rattle.cw_rights.specs.Words.{Word, Matches, fits}
use Rattle.cw_dfa.specs.Positions.{Reads}
use Rattle.cw_dfa.specs.Sets.{has, skips, ends, reads}
use Rattle.std.proofs.lemmas.Bool.{or_cases, or_left, or_right, and_from as and_both}
use Rattle.std.proofs.lemmas.List.{same_from_push}
use Rattle.cw_lemmas.proofs.Truths.{and_first as and_left, and_second as and_right}
use Rattle.cw_dfa.proofs.Bools.{has_or_cases, has_or_left, has_or_right, has_none, has_pow, has_pow_only}
use Rattle.cw_rights.proofs.Factors.{NotNil, nil_or_not, not_nil_right, not_nil, cut_again, cut_before, plus_of, star_of, last_of}

-- a way into the expression at E, and on through it
abbrev pub Within : (Word → Type 0) → Tree → ℕ → Word → ℕ → Type 0
Within E r k w p = (x : Word) × (y : Word) × (w ≡ x ++ y) × E x × Reads r k y p

-- the empty word
pub skips_sound : (r : Tree) → skips r ≡ true → Matches r []
skips_sound nothing e = refl
skips_sound never e = absurd (cc)
skips_sound (one l) e = absurd (cc)
skips_sound (seq r s) e = ([], [], refl, skips_sound r (and_left _ _ e), skips_sound s (and_right _ _ e))
skips_sound (alt r s) e = ⊎_elim (λ x. inl (skips_sound r x)) (λ x. inr (skips_sound s x)) (or_cases (skips r) (skips s) e)
skips_sound (star r) e = ([], refl)
skips_sound (plus r) e = ([], [], ([], refl, skips_sound r e, refl))
skips_sound (maybe r) e = inl refl

nils : (u v : Word) → [] ≡ u ++ v → (u ≡ []) × (v ≡ [])
nils [] v e = (refl, sym e)
nils (c ∷ u) v e = absurd (cc)

pub skips_complete : (r : Tree) → Matches r [] → skips r ≡ true
skips_complete nothing m = refl
skips_complete never m = absurd m
skips_complete (one l) m = let e = m.1 in absurd (cc)
skips_complete (seq r s) m =
    let e = nils m.0 m.1 m.2 in
    and_both _ _ (skips_complete r (subst (Matches r) e.0 m.3)) (skips_complete s (subst (Matches s) e.1 m.4))
skips_complete (alt r s) (inl m) = or_left _ _ (skips_complete r m)
skips_complete (alt r s) (inr m) = or_right _ _ (skips_complete s m)
skips_complete (star r) m = refl
skips_complete (plus r) m = let p = m.2 in skips_complete r (subst (Matches r) (nils m.0 p.0 p.1).0 p.2)
skips_complete (maybe r) m = refl

-- the numbers of the literals
pub reads_low : (r : Tree) (k : ℕ) (w : Word) (p : ℕ) → Reads r k w p → k ≤ p
reads_low nothing k w p h = absurd h
reads_low never k w p h = absurd h
reads_low (one l) k w p h = let e = h.0 in omega arith
reads_low (seq r s) k w p (inl h) = reads_low r k w p h
reads_low (seq r s) k w p (inr h) = let z = reads_low s (k + count r) h.1 p h.4 in omega arith
reads_low (alt r s) k w p (inl h) = reads_low r k w p h
reads_low (alt r s) k w p (inr h) = let z = reads_low s (k + count r) w p h in omega arith
reads_low (star r) k w p h = reads_low r k h.1 p h.4
reads_low (plus r) k w p h = reads_low r k h.1 p h.4
reads_low (maybe r) k w p h = reads_low r k w p h

pub reads_high : (r : Tree) (k : ℕ) (w : Word) (p : ℕ) → Reads r k w p → p < k + count r
reads_high nothing k w p h = absurd h
reads_high never k w p h = absurd h
reads_high (one l) k w p h = let e = h.0 in omega arith
reads_high (seq r s) k w p (inl h) = let z = reads_high r k w p h in omega arith
reads_high (seq r s) k w p (inr h) = let z = reads_high s (k + count r) h.1 p h.4 in omega arith
reads_high (alt r s) k w p (inl h) = let z = reads_high r k w p h in omega arith
reads_high (alt r s) k w p (inr h) = let z = reads_high s (k + count r) w p h in omega arith
reads_high (star r) k w p h = reads_high r k h.1 p h.4
reads_high (plus r) k w p h = reads_high r k h.1 p h.4
reads_high (maybe r) k w p h = reads_high r k w p h

-- what stands before a part
abbrev pub After : (Word → Type 0) → Tree → Word → Type 0
After E r x = (u : Word) × (v : Word) × (x ≡ u ++ v) × E u × Matches r v

abbrev pub Known : (Word → Type 0) → Tree → ℕ → Word → ℕ → Type 0
Known E r k w set = (p : ℕ) → k ≤ p → p < k + count r → (has set p ≡ true → Within E r k w p) × (Within E r k w p → has set p ≡ true)

abbrev pub Ended : (Word → Type 0) → Tree → Word → Type 0
Ended E r w = (x : Word) × (y : Word) × (w ≡ x ++ y) × E x × NotNil y × Matches r y

abbrev pub Exactly : (Word → Type 0) → Tree → ℕ → Word → ℕ → Type 0
Exactly E r k w set = (p : ℕ) → (has set p ≡ true → Within E r k w p) × (Within E r k w p → has set p ≡ true)

-- the parts know what the whole knows
seq_left : (E : Word → Type 0) (r s : Tree) (k : ℕ) (w : Word) (set : ℕ) → Known E (seq r s) k w set → Known E r k w set
seq_left E r s k w set h p l m =
    let z = h p l (omega arith) in
    (λ e. by (z.0 e), λ i. z.1 (i.0, i.1, i.2, i.3, inl i.4))
  where
    by : Within E (seq r s) k w p → Within E r k w p
    by i = ⊎_elim (λ a. (i.0, i.1, i.2, i.3, a)) (λ b. let q = reads_low s (k + count r) b.1 p b.4 in absurd (omega arith)) i.4

seq_right : (E : Word → Type 0) (r s : Tree) (k : ℕ) (w : Word) (set : ℕ) → Known E (seq r s) k w set → Known (After E r) s (k + count r) w set
seq_right E r s k w set h p l m =
    let z = h p (omega arith) (omega arith) in
    (λ e. by (z.0 e), λ i. z.1 (through i))
  where
    by : Within E (seq r s) k w p → Within (After E r) s (k + count r) w p
    by i = ⊎_elim (λ a. let q = reads_high r k i.1 p a in absurd (omega arith)) (λ b. (i.0 ++ b.0, b.1, cut_before w i.0 i.1 b.0 b.1 i.2 b.2, (i.0, b.0, refl, i.3, b.3), b.4)) i.4

    through : Within (After E r) s (k + count r) w p → Within E (seq r s) k w p
    through i = let a = i.3 in (a.0, a.1 ++ i.1, cut_again w i.0 i.1 a.0 a.1 i.2 a.2, a.3, inr (a.1, i.1, refl, a.4, i.4))

pub alt_left : (E : Word → Type 0) (r s : Tree) (k : ℕ) (w : Word) (set : ℕ) → Known E (alt r s) k w set → Known E r k w set
alt_left E r s k w set h p l m =
    let z = h p l (omega arith) in
    (λ e. by (z.0 e), λ i. z.1 (i.0, i.1, i.2, i.3, inl i.4))
  where
    by : Within E (alt r s) k w p → Within E r k w p
    by i = ⊎_elim (λ a. (i.0, i.1, i.2, i.3, a)) (λ b. let q = reads_low s (k + count r) i.1 p b in absurd (omega arith)) i.4

pub alt_right : (E : Word → Type 0) (r s : Tree) (k : ℕ) (w : Word) (set : ℕ) → Known E (alt r s) k w set → Known E s (k + count r) w set
alt_right E r s k w set h p l m =
    let z = h p (omega arith) (omega arith) in
    (λ e. by (z.0 e), λ i. z.1 (i.0, i.1, i.2, i.3, inr i.4))
  where
    by : Within E (alt r s) k w p → Within E s (k + count r) w p
    by i = ⊎_elim (λ a. let q = reads_high r k i.1 p a in absurd (omega arith)) (λ b. (i.0, i.1, i.2, i.3, b)) i.4

-- a star's body stands behind the star
loop_out : (E : Word → Type 0) (r : Tree) (k : ℕ) (w : Word) (p : ℕ) → Within (After E (star r)) r k w p → Within E (star r) k w p
loop_out E r k w p i = let a = i.3 in (a.0, a.1 ++ i.1, cut_again w i.0 i.1 a.0 a.1 i.2 a.2, a.3, (a.1, i.1, refl, a.4, i.4))

loop_in : (E : Word → Type 0) (r : Tree) (k : ℕ) (w : Word) (p : ℕ) → Within E (star r) k w p → Within (After E (star r)) r k w p
loop_in E r k w p i = let b = i.4 in (i.0 ++ b.0, b.1, cut_before w i.0 i.1 b.0 b.1 i.2 b.2, (i.0, b.0, refl, i.3, b.3), b.4)

loop_known : (E : Word → Type 0) (r : Tree) (k : ℕ) (w : Word) (set : ℕ) → Known E (star r) k w set → Known (After E (star r)) r k w set
loop_known E r k w set h p l m = let z = h p l m in (λ e. loop_in E r k w p (z.0 e), λ i. z.1 (loop_out E r k w p i))

-- where a word may end
pub ends_sound : (r : Tree) (E : Word → Type 0) (k : ℕ) (w : Word) (set : ℕ) → Known E r k w set → ends r k set ≡ true → Ended E r w
ends_sound nothing E k w set h e = absurd (cc)
ends_sound never E k w set h e = absurd (cc)
ends_sound (one l) E k w set h e =
    let i = (h k (omega arith) (omega arith)).0 e in
    let m = i.4.1 in
    (i.0, i.1, i.2, i.3, subst NotNil (sym m.1) tt, m)
ends_sound (seq r s) E k w set h e =
    ⊎_elim (λ t. in_first (and_right (ends r k set) (skips s) t) (ends_sound r E k w set (seq_left E r s k w set h) (and_left _ _ t)))
    (λ t. in_second (ends_sound s (After E r) (k + count r) w set (seq_right E r s k w set h) t)) (or_cases (ends r k set && skips s) (ends s (k + count r) set) e)
  where
    in_first : skips s ≡ true → Ended E r w → Ended E (seq r s) w
    in_first t i = (i.0, i.1, i.2, i.3, i.4, (i.1, [], sym (append-nil i.1), i.5, skips_sound s t))

    in_second : Ended (After E r) s w → Ended E (seq r s) w
    in_second i =
        let a = i.3 in
        (a.0, a.1 ++ i.1, cut_again w i.0 i.1 a.0 a.1 i.2 a.2, a.3, not_nil_right a.1 i.1 i.4, (a.1, i.1, refl, a.4, i.5))
ends_sound (alt r s) E k w set h e = ⊎_elim (λ t. let i = ends_sound r E k w set (alt_left E r s k w set h) t in
    (i.0, i.1, i.2, i.3, i.4, inl i.5)) (λ t. let i = ends_sound s E (k + count r) w set (alt_right E r s k w set h) t in
    (i.0, i.1, i.2, i.3, i.4, inr i.5)) (or_cases (ends r k set) (ends s (k + count r) set) e)
ends_sound (star r) E k w set h e =
    let i = ends_sound r (After E (star r)) k w set (loop_known E r k w set h) e in
    let a = i.3 in
    (a.0, a.1 ++ i.1, cut_again w i.0 i.1 a.0 a.1 i.2 a.2, a.3, not_nil_right a.1 i.1 i.4, star_of r a.1 i.1 a.4 i.5)
ends_sound (plus r) E k w set h e =
    let i = ends_sound r (After E (star r)) k w set (loop_known E r k w set h) e in
    let a = i.3 in
    (a.0, a.1 ++ i.1, cut_again w i.0 i.1 a.0 a.1 i.2 a.2, a.3, not_nil_right a.1 i.1 i.4, plus_of r a.1 i.1 a.4 i.5)
ends_sound (maybe r) E k w set h e = let i = ends_sound r E k w set h e in (i.0, i.1, i.2, i.3, i.4, inr i.5)

-- behind a star: at its entry, or where its body ended
after_star : (E : Word → Type 0) (r : Tree) (w : Word) → After E (star r) w → E w ⊎ Ended (After E (star r)) r w
after_star E r w a = by (nil_or_not a.1)
  where
    by : (a.1 ≡ []) ⊎ NotNil a.1 → E w ⊎ Ended (After E (star r)) r w
    by (inl e) = inl (subst E (sym (a.2 ∙ ap (λ z. a.0 ++ z) e ∙ append-nil a.0)) a.3)
    by (inr n) =
        let t = last_of r a.1 a.4 n in
        inr (a.0 ++ t.0, t.1, cut_before w a.0 a.1 t.0 t.1 a.2 t.2, (a.0, t.0, refl, a.3, t.3), t.4, t.5)

ended_star : (E : Word → Type 0) (r : Tree) (w : Word) → Ended E (star r) w → Ended (After E (star r)) r w
ended_star E r w i =
    let t = last_of r i.1 i.5 i.4 in
    (i.0 ++ t.0, t.1, cut_before w i.0 i.1 t.0 t.1 i.2 t.2, (i.0, t.0, refl, i.3, t.3), t.4, t.5)

pub ends_complete : (r : Tree) (E : Word → Type 0) (k : ℕ) (w : Word) (set : ℕ) → Known E r k w set → Ended E r w → ends r k set ≡ true
ends_complete nothing E k w set h i = absurd (not_nil i.1 i.4 i.5)
ends_complete never E k w set h i = absurd i.5
ends_complete (one l) E k w set h i = (h k (omega arith) (omega arith)).1 (i.0, i.1, i.2, i.3, (refl, i.5))
ends_complete (seq r s) E k w set h i = by (ends_complete r E k w set (seq_left E r s k w set h)) (ends_complete s (After E r) (k + count r) w set (seq_right E r s k w set h)) i.5 (nil_or_not i.5.1)
  where
    by : (Ended E r w → ends r k set ≡ true) → (Ended (After E r) s w → ends s (k + count r) set ≡ true) → (m : Matches (seq r s) i.1) → (m.1 ≡ []) ⊎ NotNil m.1 → ends (seq r s) k set ≡ true
    by here there m (inl e) =
        let f : i.1 ≡ m.0 = m.2 ∙ ap (λ z. m.0 ++ z) e ∙ append-nil m.0 in
        or_left _ _ (and_both _ _ (here (i.0, i.1, i.2, i.3, i.4, subst (Matches r) (sym f) m.3)) (skips_complete s (subst (Matches s) e m.4)))
    by here there m (inr n) = or_right _ _ (there (i.0 ++ m.0, m.1, cut_before w i.0 i.1 m.0 m.1 i.2 m.2, (i.0, m.0, refl, i.3, m.3), n, m.4))
ends_complete (alt r s) E k w set h i = ⊎_elim (λ m. or_left _ _ (ends_complete r E k w set (alt_left E r s k w set h) (i.0, i.1, i.2, i.3, i.4, m)))
    (λ m. or_right _ _ (ends_complete s E (k + count r) w set (alt_right E r s k w set h) (i.0, i.1, i.2, i.3, i.4, m))) i.5
ends_complete (star r) E k w set h i = ends_complete r (After E (star r)) k w set (loop_known E r k w set h) (ended_star E r w i)
ends_complete (plus r) E k w set h i = ends_complete r (After E (star r)) k w set (loop_known E r k w set h) (ended_star E r w (i.0, i.1, i.2, i.3, i.4, (i.5.0 ∷ i.5.1, i.5.2)))
ends_complete (maybe r) E k w set h i = ⊎_elim (λ e. absurd (not_nil i.1 i.4 e)) (λ m. ends_complete r E k w set h (i.0, i.1, i.2, i.3, i.4, m)) i.5

abbrev pub Decides : Bool → Type 0 → Type 0
Decides b A = (b ≡ true → A) × (A → b ≡ true)

enter_next : (E : Word → Type 0) (r : Tree) (k : ℕ) (w : Word) (set : ℕ) (enter : Bool) → Known E r k w set → Decides enter (E w) → Decides ((enter && skips r) || ends r k set) (After E r w)
enter_next E r k w set enter h d = (λ e. ⊎_elim first ended (or_cases (enter && skips r) (ends r k set) e), λ a. by a (nil_or_not a.1))
  where
    first : (enter && skips r) ≡ true → After E r w
    first t = (w, [], sym (append-nil w), d.0 (and_left _ _ t), skips_sound r (and_right enter (skips r) t))

    ended : ends r k set ≡ true → After E r w
    ended t = let i = ends_sound r E k w set h t in (i.0, i.1, i.2, i.3, i.5)

    by : (a : After E r w) → (a.1 ≡ []) ⊎ NotNil a.1 → ((enter && skips r) || ends r k set) ≡ true
    by a (inl e) =
        let f : w ≡ a.0 = a.2 ∙ ap (λ z. a.0 ++ z) e ∙ append-nil a.0 in
        or_left _ _ (and_both _ _ (d.1 (subst E (sym f) a.3)) (skips_complete r (subst (Matches r) e a.4)))
    by a (inr n) = or_right _ _ (ends_complete r E k w set h (a.0, a.1, a.2, a.3, n, a.4))

enter_again : (E : Word → Type 0) (r : Tree) (k : ℕ) (w : Word) (set : ℕ) (enter : Bool) → Known E (star r) k w set → Decides enter (E w) → Decides (enter || ends r k set) (After E (star r) w)
enter_again E r k w set enter h d = (
  λ e. ⊎_elim first ended (or_cases enter (ends r k set) e),
  λ a.
      ⊎_elim (λ x. or_left _ _ (d.1 x)) (λ i. or_right _ _ (ends_complete r (After E (star r)) k w set (loop_known E r k w set h) i)) (after_star E r w a),
)
  where
    first : enter ≡ true → After E (star r) w
    first t = (w, [], sym (append-nil w), d.0 t, ([], refl))

    ended : ends r k set ≡ true → After E (star r) w
    ended t = let i = ends_sound (star r) E k w set h t in (i.0, i.1, i.2, i.3, i.5)

-- one letter more
pub reads_exact : (r : Tree) (E : Word → Type 0) (k : ℕ) (w : Word) (set : ℕ) (c : Letter) (enter : Bool) → Known E r k w set → Decides enter (E w) →
    Exactly E r k (w ++ c ∷ []) (reads r k enter set c)
reads_exact nothing E k w set c enter h d p = (λ e. absurd (has_none p e), λ i. absurd i.4)
reads_exact never E k w set c enter h d p = (λ e. absurd (has_none p e), λ i. absurd i.4)
reads_exact (one l) E k w set c enter h d p = (to (enter && fits l c) refl, back)
  where
    to : (t : Bool) → (enter && fits l c) ≡ t → has (cond t (2 ^ k) 0) p ≡ true → Within E (one l) k (w ++ c ∷ []) p
    to true t e = (w, c ∷ [], refl, d.0 (and_left _ _ t), (has_pow_only k p e, (c, refl, and_right enter (fits l c) t)))
    to false t e = absurd (has_none p e)

    back : Within E (one l) k (w ++ c ∷ []) p → has (cond (enter && fits l c) (2 ^ k) 0) p ≡ true
    back i =
        let m = i.4.1 in
        let z = same_from_push w i.0 c m.0 (i.2 ∙ ap (λ y. i.0 ++ y) m.1) in
        let t : (enter && fits l c) ≡ true = and_both _ _ (d.1 (subst E (sym z.0) i.3)) (subst (λ y. fits l y ≡ true) (sym z.1) m.2) in
        rw t (subst (λ y. has (2 ^ k) y ≡ true) (sym i.4.0) (has_pow k))
reads_exact (seq r s) E k w set c enter h d p =
    let f = reads_exact r E k w set c enter (seq_left E r s k w set h) d p in
    let g = reads_exact s (After E r) (k + count r) w set c ((enter && skips r) || ends r k set) (seq_right E r s k w set h) (enter_next E r k w set enter (seq_left E r s k w set h) d) p in (
      λ e. ⊎_elim (λ x. let i = f.0 x in (i.0, i.1, i.2, i.3, inl i.4)) (λ x. through (g.0 x)) (has_or_cases _ _ p e),
      λ i. ⊎_elim (λ x. has_or_left _ _ p (f.1 (i.0, i.1, i.2, i.3, x))) (λ b. has_or_right _ _ p (g.1 (
        i.0 ++ b.0,
        b.1,
        cut_before (w ++ c ∷ []) i.0 i.1 b.0 b.1 i.2 b.2,
        (i.0, b.0, refl, i.3, b.3),
        b.4,
      ))) i.4,
    )
  where
    through : Within (After E r) s (k + count r) (w ++ c ∷ []) p → Within E (seq r s) k (w ++ c ∷ []) p
    through i = let a = i.3 in (a.0, a.1 ++ i.1, cut_again (w ++ c ∷ []) i.0 i.1 a.0 a.1 i.2 a.2, a.3, inr (a.1, i.1, refl, a.4, i.4))
reads_exact (alt r s) E k w set c enter h d p =
    let f = reads_exact r E k w set c enter (alt_left E r s k w set h) d p in
    let g = reads_exact s E (k + count r) w set c enter (alt_right E r s k w set h) d p in (
      λ e. ⊎_elim (λ x. let i = f.0 x in (i.0, i.1, i.2, i.3, inl i.4)) (λ x. let i = g.0 x in (i.0, i.1, i.2, i.3, inr i.4)) (has_or_cases _ _ p e),
      λ i. ⊎_elim (λ x. has_or_left _ _ p (f.1 (i.0, i.1, i.2, i.3, x))) (λ b. has_or_right _ _ p (g.1 (i.0, i.1, i.2, i.3, b))) i.4,
    )
reads_exact (star r) E k w set c enter h d p =
    let f = reads_exact r (After E (star r)) k w set c (enter || ends r k set) (loop_known E r k w set h) (enter_again E r k w set enter h d) p in
    (λ e. loop_out E r k (w ++ c ∷ []) p (f.0 e), λ i. f.1 (loop_in E r k (w ++ c ∷ []) p i))
reads_exact (plus r) E k w set c enter h d p =
    let f = reads_exact r (After E (star r)) k w set c (enter || ends r k set) (loop_known E r k w set h) (enter_again E r k w set enter h d) p in
    (λ e. loop_out E r k (w ++ c ∷ []) p (f.0 e), λ i. f.1 (loop_in E r k (w ++ c ∷ []) p i))
reads_exact (maybe r) E k w set c enter h d p = reads_exact r E k w set c enter h d p
