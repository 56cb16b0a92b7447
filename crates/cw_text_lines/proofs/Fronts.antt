-- Lines in a row: a text has its whole lines, or one first line that doesn't fit.
use Rattle.std.proofs.Common.{◌≡◌, ◌≢◌, ◌⊎◌, ℕ, zero, suc, ◌+◌, ◌<◌, ◌≤◌, List, [], ◌∷◌, ◌++◌, length, refl, sym, ap, ◌∙◌, subst, inl, inr, arith, append_assoc, append-nil, length-append}
use Rattle.std.specs.Prelude.{codes}
use Rattle.std.specs.List.{All}
use Rattle.std.proofs.lemmas.Grind.{flat_map-append}
use Rattle.std.proofs.lemmas.List.Elements.{All-nil, All-cons, All-head, All-tail}
use Rattle.cw_text.specs.Lines.{joined}
use Rattle.cw_text_lines.specs.Lines.{whole_line, whole_lines, StartsWith, StartsWithNone, IsFront, IsFirstOther, Tell, AreDecided}
use Rattle.cw_text_lines.proofs.Starts.{one_start, shorter, start_or_none}

module _ {A : Type 0} (Fits : A → Type 0) (fields_in : A → List (List ℕ)) (tell : Tell Fits fields_in) where
  abbrev Lines : List A → List ℕ
  Lines ls = whole_lines fields_in ls

  pub lines-append : (xs ys : List A) → Lines (xs ++ ys) ≡ Lines xs ++ Lines ys
  lines-append xs ys = flat_map-append (whole_line fields_in) xs ys

  -- one line more
  pub line_more : (text rest more : List ℕ) (ls : List A) (l : A) → text ≡ Lines ls ++ rest → StartsWith Fits fields_in rest l more → text ≡ Lines (ls ++ l ∷ []) ++ more
  line_more text rest more ls l e s =
      e ∙ ap (λ t. Lines ls ++ t) (s.spelled ∙ ap (λ t. t ++ more) (sym (append-nil (whole_line fields_in l))))
      ∙ sym (append_assoc (Lines ls) (Lines (l ∷ [])) more) ∙ ap (λ t. t ++ more) (sym (lines-append ls (l ∷ [])))

  -- lines more
  pub lines_behind : (text rest more : List ℕ) (ls ms : List A) → text ≡ Lines ls ++ rest → rest ≡ Lines ms ++ more → text ≡ Lines (ls ++ ms) ++ more
  lines_behind text rest more ls ms e s =
      e ∙ ap (λ t. Lines ls ++ t) s ∙ sym (append_assoc (Lines ls) (Lines ms) more) ∙ ap (λ t. t ++ more) (sym (lines-append ls ms))

  line_has : (l : A) (rest : List ℕ) → length rest < length (whole_line fields_in l ++ rest)
  line_has l rest =
      let a = length-append (whole_line fields_in l) rest in
      let b = length-append (joined 32 (fields_in l)) (codes "\n") in
      omega (arith, a, b)

  -- as many bytes as lines at least
  pub lines_short : (ls : List A) (rest : List ℕ) → length ls + length rest ≤ length (Lines ls ++ rest)
  lines_short [] rest = omega arith
  lines_short (l ∷ ls) rest =
      let a = ap length (append_assoc (whole_line fields_in l) (Lines ls) rest) in
      let b = line_has l (Lines ls ++ rest) in
      let d = lines_short ls rest in
      omega (arith, a, b, d)

  no_end : (l : A) (ls : List A) (rest : List ℕ) → [] ≡ Lines (l ∷ ls) ++ rest → ⊥
  no_end l ls rest e = let a = lines_short (l ∷ ls) rest in let b = ap length e in omega (arith, a, b)

  -- of two rows of lines with which a text begins one goes on from the other
  along : (xs ys : List A) (rest more : List ℕ) → All Fits xs → All Fits ys → Lines xs ++ rest ≡ Lines ys ++ more
      → ((zs : List A) × (ys ≡ xs ++ zs) × (rest ≡ Lines zs ++ more)) ⊎ ((z : A) × (zs : List A) × (xs ≡ ys ++ z ∷ zs) × (more ≡ Lines (z ∷ zs) ++ rest))
  along [] ys rest more f g e = inl (ys, refl, e)
  along (x ∷ xs) [] rest more f g e = inr (x, xs, refl, sym e)
  along (x ∷ xs) (y ∷ ys) rest more f g e =
      let o = one_start Fits fields_in tell (Lines (x ∷ xs) ++ rest) (Lines xs ++ rest) (Lines ys ++ more) x y
      (record { fits = All-head Fits x xs f; spelled = append_assoc (whole_line fields_in x) (Lines xs) rest })
      (record { fits = All-head Fits y ys g; spelled = e ∙ append_assoc (whole_line fields_in y) (Lines ys) more }) in
      go o.0 (along xs ys rest more (All-tail Fits x xs f) (All-tail Fits y ys g) o.1)
    where
      go : x ≡ y → ((zs : List A) × (ys ≡ xs ++ zs) × (rest ≡ Lines zs ++ more)) ⊎ ((z : A) × (zs : List A) × (xs ≡ ys ++ z ∷ zs) × (more ≡ Lines (z ∷ zs) ++ rest))
          → ((zs : List A) × (y ∷ ys ≡ x ∷ (xs ++ zs)) × (rest ≡ Lines zs ++ more)) ⊎ ((z : A) × (zs : List A) × (x ∷ xs ≡ y ∷ (ys ++ z ∷ zs)) × (more ≡ Lines (z ∷ zs) ++ rest))
      go same (inl h) = inl (h.0, ap (λ l. l ∷ ys) (sym same) ∙ ap (λ ls. x ∷ ls) h.1, h.2)
      go same (inr h) = inr (h.0, h.1, ap (λ l. l ∷ xs) same ∙ ap (λ ls. y ∷ ls) h.2, h.3)

  module _ (IsWhole : List A → Type 0) (fit : (ls : List A) → IsWhole ls → All Fits ls) where
    pub all_front : (xs ys : List A) → All Fits (xs ++ ys) → All Fits xs
    all_front [] ys f = All-nil Fits
    all_front (x ∷ xs) ys f = All-cons Fits x xs (All-head Fits x (xs ++ ys) f) (all_front xs ys (All-tail Fits x (xs ++ ys) f))

    all_last : (xs : List A) (y : A) (ys : List A) → All Fits (xs ++ y ∷ ys) → Fits y
    all_last [] y ys f = All-head Fits y ys f
    all_last (x ∷ xs) y ys f = all_last xs y ys (All-tail Fits x (xs ++ y ∷ ys) f)

    pub front_fits : (ls : List A) → IsFront IsWhole ls → All Fits ls
    front_fits ls h = all_front ls h.0 (fit (ls ++ h.0) h.1)

    -- what goes on from a front of whole lines goes on by a line that may come next
    next_front : (before : List A) (z : A) (zs more : List A) → IsWhole (before ++ z ∷ (zs ++ more)) → IsFront IsWhole (before ++ z ∷ [])
    next_front before z zs more w = (zs ++ more, subst IsWhole (sym (append_assoc before (z ∷ []) (zs ++ more))) w)

    pub next_fits : (before : List A) (z : A) → IsFront IsWhole (before ++ z ∷ []) → Fits z
    next_fits before z h = all_last before z [] (front_fits (before ++ z ∷ []) h)

    -- where no line goes on at all
    pub first_other : (text : List ℕ) (before : List A) (rest : List ℕ) (number : ℕ) → IsFront IsWhole before → text ≡ Lines before ++ rest → number ≡ length before + 1 → StartsWithNone Fits fields_in rest
        → (IsWhole before → rest ≢ []) → IsFirstOther IsWhole fields_in text number
    first_other text before rest number front e n none more = record {
      before = before;
      rest = rest;
      front = front;
      stands = e;
      counted = n;
      other = λ next after h is. none next after (record { fits = next_fits before next h; spelled = is });
      goes_on = more;
    }

    -- ---- one answer

    pub one_whole : (xs ys : List A) → IsWhole xs → IsWhole ys → Lines xs ≡ Lines ys → xs ≡ ys
    one_whole xs ys w v e = go (along xs ys [] [] (fit xs w) (fit ys v) (append-nil (Lines xs) ∙ e ∙ sym (append-nil (Lines ys))))
      where
        go : ((zs : List A) × (ys ≡ xs ++ zs) × ([] ≡ Lines zs ++ [])) ⊎ ((z : A) × (zs : List A) × (xs ≡ ys ++ z ∷ zs) × ([] ≡ Lines (z ∷ zs) ++ [])) → xs ≡ ys
        go (inl ([], e, n)) = sym (e ∙ append-nil xs)
        go (inl (z ∷ zs, e, n)) = absurd (no_end z zs [] n)
        go (inr (z, zs, e, n)) = absurd (no_end z zs [] n)

    goes_nowhere : (text : List ℕ) (n : ℕ) (f : IsFirstOther IsWhole fields_in text n) (z : A) (zs more : List A) (after : List ℕ) → IsWhole (f.before ++ z ∷ (zs ++ more)) → f.rest ≡ Lines (z ∷ zs) ++ after → ⊥
    goes_nowhere text n f z zs more after w e = f.other z (Lines zs ++ after) (next_front f.before z zs more w) (e ∙ append_assoc (whole_line fields_in z) (Lines zs) after)

    pub not_both : (text : List ℕ) (xs : List A) (n : ℕ) → IsWhole xs → text ≡ Lines xs → IsFirstOther IsWhole fields_in text n → ⊥
    not_both text xs n w e f = go (along f.before xs f.rest [] (front_fits f.before f.front) (fit xs w) (sym f.stands ∙ e ∙ sym (append-nil (Lines xs))))
      where
        go : ((zs : List A) × (xs ≡ f.before ++ zs) × (f.rest ≡ Lines zs ++ [])) ⊎ ((z : A) × (zs : List A) × (f.before ≡ xs ++ z ∷ zs) × ([] ≡ Lines (z ∷ zs) ++ f.rest)) → ⊥
        go (inl ([], is, r)) = f.goes_on (subst IsWhole (is ∙ append-nil f.before) w) r
        go (inl (z ∷ zs, is, r)) = goes_nowhere text n f z zs [] [] (subst IsWhole (is ∙ ap (λ ls. f.before ++ z ∷ ls) (sym (append-nil zs))) w) r
        go (inr (z, zs, is, r)) = no_end z zs f.rest r

    pub one_other : (text : List ℕ) (m n : ℕ) → IsFirstOther IsWhole fields_in text m → IsFirstOther IsWhole fields_in text n → m ≡ n
    one_other text m n f h = go (along f.before h.before f.rest h.rest (front_fits f.before f.front) (front_fits h.before h.front) (sym f.stands ∙ h.stands))
      where
        onward : (a b : List A) (z : A) (zs : List A) → b ≡ a ++ z ∷ zs → (w : IsFront IsWhole b) → IsWhole (a ++ z ∷ (zs ++ w.0))
        onward a b z zs is w = subst IsWhole (ap (λ ls. ls ++ w.0) is ∙ append_assoc a (z ∷ zs) w.0) w.1

        go : ((zs : List A) × (h.before ≡ f.before ++ zs) × (f.rest ≡ Lines zs ++ h.rest)) ⊎ ((z : A) × (zs : List A) × (f.before ≡ h.before ++ z ∷ zs) × (h.rest ≡ Lines (z ∷ zs) ++ f.rest)) → m ≡ n
        go (inl ([], is, r)) = f.counted ∙ ap (λ ls. length ls + 1) (sym (is ∙ append-nil f.before)) ∙ sym h.counted
        go (inl (z ∷ zs, is, r)) = absurd (goes_nowhere text m f z zs h.front.0 h.rest (onward f.before h.before z zs is h.front) r)
        go (inr (z, zs, is, r)) = absurd (goes_nowhere text n h z zs f.front.0 f.rest (onward h.before f.before z zs is f.front) r)

    -- ---- some answer

    abbrev pub HasAnswer : List ℕ → Type 0
    HasAnswer text = ((ls : List A) × IsWhole ls × (text ≡ Lines ls)) ⊎ ((n : ℕ) × IsFirstOther IsWhole fields_in text n)

    module _ (decided : AreDecided Fits fields_in) (goes : (before : List A) (next : A) → IsFront IsWhole before → Fits next → IsFront IsWhole (before ++ next ∷ []) ⊎ (IsFront IsWhole (before ++ next ∷ []) → ⊥))
        (ends : (before : List A) → IsFront IsWhole before → IsWhole before ⊎ (IsWhole before → ⊥)) (text : List ℕ) where
      -- no line goes on
      at_end : (before : List A) (rest : List ℕ) → IsFront IsWhole before → text ≡ Lines before ++ rest → StartsWithNone Fits fields_in rest → HasAnswer text
      at_end before rest front e none = by_end (ends before front) rest e none
        where
          fault : (rest : List ℕ) → text ≡ Lines before ++ rest → StartsWithNone Fits fields_in rest → (IsWhole before → rest ≢ []) → HasAnswer text
          fault rest e none more = inr (length before + 1, first_other text before rest (length before + 1) front e refl none more)

          by_end : IsWhole before ⊎ (IsWhole before → ⊥) → (rest : List ℕ) → text ≡ Lines before ++ rest → StartsWithNone Fits fields_in rest → HasAnswer text
          by_end (inl whole) [] e none = inl (before, whole, e ∙ append-nil (Lines before))
          by_end (inl whole) (b ∷ rest) e none = fault (b ∷ rest) e none (λ w is. omega (arith, ap length is))
          by_end (inr never) rest e none = fault rest e none (λ w. absurd (never w))

      from_front : (fuel : ℕ) (before : List A) (rest : List ℕ) → length rest ≤ fuel → IsFront IsWhole before → text ≡ Lines before ++ rest → HasAnswer text
      from_front zero before rest few front e = at_end before rest front e (λ said more s. let lt = shorter Fits fields_in tell rest more said s in omega (arith, lt, few))
      from_front (suc fuel) before rest few front e = by_start (start_or_none Fits fields_in tell decided rest) (from_front fuel)
        where
          by_next : (said : A) (after : List ℕ) → StartsWith Fits fields_in rest said after → IsFront IsWhole (before ++ said ∷ []) ⊎ (IsFront IsWhole (before ++ said ∷ []) → ⊥)
              → ((b : List A) (r : List ℕ) → length r ≤ fuel → IsFront IsWhole b → text ≡ Lines b ++ r → HasAnswer text) → HasAnswer text
          by_next said after s (inl on) next = next (before ++ said ∷ []) after (let lt = shorter Fits fields_in tell rest after said s in omega (arith, lt, few)) on (line_more text rest after before said e s)
          by_next said after s (inr never) next = inr (
            length before + 1,
            record {
              before = before;
              rest = rest;
              front = front;
              stands = e;
              counted = refl;
              other = λ other more h is. never (subst (λ l. IsFront IsWhole (before ++ l ∷ []))
                  (one_start Fits fields_in tell rest more after other said (record { fits = next_fits before other h; spelled = is }) s).0 h);
              goes_on = λ w is. let lt = shorter Fits fields_in tell rest after said s in omega (arith, lt, ap length is);
            },
          )

          by_start : ((said : A) × (after : List ℕ) × StartsWith Fits fields_in rest said after) ⊎ StartsWithNone Fits fields_in rest
              → ((b : List A) (r : List ℕ) → length r ≤ fuel → IsFront IsWhole b → text ≡ Lines b ++ r → HasAnswer text) → HasAnswer text
          by_start (inl h) next = by_next h.0 h.1 h.2 (goes before h.0 front h.2.fits) next
          by_start (inr none) next = at_end before rest front e none

      pub has_answer : IsFront IsWhole [] → HasAnswer text
      has_answer front = from_front (length text) [] text (omega arith) front refl
