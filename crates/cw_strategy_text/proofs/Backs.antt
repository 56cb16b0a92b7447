-- Backs and their fields.
use Rattle.std.proofs.Common.{◌≡◌, ◌≢◌, ℕ, ◌+◌, ◌^◌, ◌<◌, ◌≤◌, List, [], ◌∷◌, ◌++◌, length, map, refl, sym, ap, ◌∙◌, arith, append_assoc, append-nil}
use Rattle.std.specs.Prelude.{None, Some}
use Rattle.std.specs.Fmt.{decimal}
use Rattle.std.proofs.lemmas.Fmt.{decimal_injective}
use Rattle.std.proofs.lemmas.List.{map-append}
use Rattle.std.proofs.lemmas.List.Elements.{All-nil, All-cons}
use Rattle.cw_text.specs.Lines.{IsFree, joined, fields_by, Reads}
use Rattle.cw_text.proofs.Cuts.{fields-joined, joined-fields}
use Rattle.cw_text.proofs.Free.{decimal_free}
use Rattle.cw_strategy_text.specs.StrategyText.{back_field, AreBacks}
use Rattle.cw_core.specs.declared.ids.StateId.{StateId}
use Rattle.cw_strategy_text.specs.Fields.{backs_of, FitsBack}

pub fields_of_back : (field : List ℕ) (back : ℕ × ℕ) → FitsBack back → back_field back ≡ field → fields_by 61 field ≡ decimal back.0 ∷ decimal back.1 ∷ []
fields_of_back field back fits e =
    rw (sym e) (fields-joined 61 (decimal back.0) (decimal back.1 ∷ [])
    (All-cons (IsFree 61) (decimal back.0) (decimal back.1 ∷ []) (decimal_free 61 back.0 refl (omega (arith, fits.0)))
    (All-cons (IsFree 61) (decimal back.1) [] (decimal_free 61 back.1 refl (omega (arith, fits.1))) (All-nil (IsFree 61)))))

pub one_back : (a b : ℕ × ℕ) → FitsBack a → FitsBack b → back_field a ≡ back_field b → a ≡ b
one_back a b fits also e =
    let same : decimal a.0 ∷ decimal a.1 ∷ [] ≡ decimal b.0 ∷ decimal b.1 ∷ [] = sym (fields_of_back (back_field b) a fits e) ∙ fields_of_back (back_field b) b also refl in
    let state : a.0 ≡ b.0 = decimal_injective a.0 b.0 (omega (arith, fits.0)) (omega (arith, also.0)) (ap first same) in
    let row : a.1 ≡ b.1 = decimal_injective a.1 b.1 (omega (arith, fits.1)) (omega (arith, also.1)) (ap second same) in
    rw (state, row) refl
  where
    first : List (List ℕ) → List ℕ
    first [] = []
    first (x ∷ xs) = x

    second : List (List ℕ) → List ℕ
    second [] = []
    second (x ∷ []) = []
    second (x ∷ y ∷ ys) = y

-- ---- one back read

pub no_state : (field : List ℕ) → ((n : ℕ) (rest : List (List ℕ)) → n < 2 ^ 16 → fields_by 61 field ≢ decimal n ∷ rest) → Reads FitsBack back_field field None
no_state field none = record { some = tt; none = λ back fits e. none back.0 (decimal back.1 ∷ []) fits.0 (fields_of_back field back fits e) }

pub no_row : (field : List ℕ) (exit : ℕ) (left : List (List ℕ)) → fields_by 61 field ≡ decimal exit ∷ left → ((n : ℕ) (rest : List (List ℕ)) → n < 2 ^ 32 → left ≢ decimal n ∷ rest)
    → Reads FitsBack back_field field None
no_row field exit left is none = record { some = tt; none = λ back fits e. none back.1 [] fits.1 (ap others (sym is ∙ fields_of_back field back fits e)) }
  where
    others : List (List ℕ) → List (List ℕ)
    others [] = []
    others (x ∷ xs) = xs

pub no_end : (field : List ℕ) (exit row : ℕ) (left more : List (List ℕ)) → fields_by 61 field ≡ decimal exit ∷ left → left ≡ decimal row ∷ more → more ≢ [] → Reads FitsBack back_field field None
no_end field exit row left more is also some = record { some = tt; none = λ back fits e. some (ap others (sym also ∙ ap others (sym is ∙ fields_of_back field back fits e))) }
  where
    others : List (List ℕ) → List (List ℕ)
    others [] = []
    others (x ∷ xs) = xs

pub a_back : (field : List ℕ) (exit row : ℕ) (left more : List (List ℕ)) → exit < 2 ^ 16 → row < 2 ^ 32 → fields_by 61 field ≡ decimal exit ∷ left → left ≡ decimal row ∷ more → more ≡ []
    → Reads FitsBack back_field field (Some (exit, row))
a_back field exit row left more small also is then done =
    let parts : fields_by 61 field ≡ decimal exit ∷ decimal row ∷ [] = is ∙ ap (λ (ws : List (List ℕ)). decimal exit ∷ ws) (then ∙ ap (λ (ws : List (List ℕ)). decimal row ∷ ws) done) in
    record {
      some = ((small, also), sym (sym (joined-fields 61 field) ∙ ap (joined 61) parts));
      none = tt;
    }

-- ---- backs, one after the other

-- any backs from 0 on whose fields are these: so many are read, and these are left
pub record Left (whole left : List (List ℕ)) (read : List (ℕ × ℕ)) (low : ℕ) (backs : List (ℕ × ℕ)) : Type 0 where
  pub more : List (ℕ × ℕ)
  pub both : backs ≡ read ++ more
  pub fits : AreBacks low more
  pub spelled : left ≡ map back_field more

-- what the loop keeps: what is read are backs, up to a number, and with each list of backs that may follow they are backs; and `Left`
pub record Keeps (whole left : List (List ℕ)) (read : List (ℕ × ℕ)) (low : ℕ) : Type 0 where
  pub bound : low ≤ 65536
  pub spelled : whole ≡ map back_field read ++ left
  pub fits : (more : List (ℕ × ℕ)) → AreBacks low more → AreBacks 0 (read ++ more)
  pub only : (backs : List (ℕ × ℕ)) → AreBacks 0 backs → map back_field backs ≡ whole → Left whole left read low backs

-- all are read
pub at_end : (whole left : List (List ℕ)) (read : List (ℕ × ℕ)) (low : ℕ) → Keeps whole left read low → left ≡ [] → Reads (AreBacks 0) (map back_field) whole (Some read)
at_end whole left read low keeps done = record {
  some = (rw (append-nil read) at (keeps.fits [] tt), sym (keeps.spelled ∙ rw (done, append-nil (map back_field read)) refl));
  none = tt;
}

-- the back that the next field must be
next_back : (whole left : List (List ℕ)) (read : List (ℕ × ℕ)) (low : ℕ) (field : List ℕ) (rest : List (List ℕ)) → left ≡ field ∷ rest → (backs : List (ℕ × ℕ)) → (l : Left whole left read low backs)
    → (back : ℕ × ℕ) × (more : List (ℕ × ℕ)) × (l.more ≡ back ∷ more) × (back_field back ≡ field) × (rest ≡ map back_field more)
next_back whole left read low field rest e backs l = split l.more refl
  where
    first : List (List ℕ) → List ℕ
    first [] = []
    first (x ∷ xs) = x

    others : List (List ℕ) → List (List ℕ)
    others [] = []
    others (x ∷ xs) = xs

    split : (more : List (ℕ × ℕ)) → l.more ≡ more → (back : ℕ × ℕ) × (others : List (ℕ × ℕ)) × (l.more ≡ back ∷ others) × (back_field back ≡ field) × (rest ≡ map back_field others)
    split [] is = let bad : field ∷ rest ≡ [] = sym e ∙ l.spelled ∙ ap (map back_field) is in absurd (omega (arith, ap length bad))
    split (back ∷ more) is =
        let same : field ∷ rest ≡ back_field back ∷ map back_field more = sym e ∙ l.spelled ∙ ap (map back_field) is in
        (back, more, is, sym (ap first same), ap others same)

-- the next field is no back
pub at_none : (whole left : List (List ℕ)) (read : List (ℕ × ℕ)) (low : ℕ) (field : List ℕ) (rest : List (List ℕ)) → Keeps whole left read low → left ≡ field ∷ rest → Reads FitsBack back_field field None
    → Reads (AreBacks 0) (map back_field) whole None
at_none whole left read low field rest keeps e reads = record {
  some = tt;
  none = λ backs fits is.
      let l = keeps.only backs fits is in
      let n = next_back whole left read low field rest e backs l in
      let there : AreBacks low (n.0 ∷ n.1) = rw n.2 at l.fits in
      reads.none n.0 (there.1, there.2) n.3;
}

-- the next back doesn't ascend
pub at_low : (whole left : List (List ℕ)) (read : List (ℕ × ℕ)) (low exit row : ℕ) (field : List ℕ) (rest : List (List ℕ)) → Keeps whole left read low → left ≡ field ∷ rest
    → Reads FitsBack back_field field (Some (exit, row))
    → exit < low → Reads (AreBacks 0) (map back_field) whole None
at_low whole left read low exit row field rest keeps e reads under = record {
  some = tt;
  none = λ backs fits is.
      let l = keeps.only backs fits is in
      let n = next_back whole left read low field rest e backs l in
      let there : AreBacks low (n.0 ∷ n.1) = rw n.2 at l.fits in
      let same : (exit, row) ≡ n.0 = one_back (exit, row) n.0 reads.some.0 (there.1, there.2) (reads.some.1 ∙ sym n.3) in
      let state : exit ≡ (n.0).0 = ap (λ (b : ℕ × ℕ). b.0) same in
      omega (arith, under, state, there.0);
}

-- one back more
pub at_next : (whole left : List (List ℕ)) (read : List (ℕ × ℕ)) (low exit row : ℕ) (field : List ℕ) (rest : List (List ℕ)) → Keeps whole left read low → left ≡ field ∷ rest
    → Reads FitsBack back_field field (Some (exit, row))
    → low ≤ exit → Keeps whole rest (read ++ (exit, row) ∷ []) (exit + 1)
at_next whole left read low exit row field rest keeps e reads up = record {
  bound = let p = reads.some.0.0 in omega (arith, p);
  spelled =
      keeps.spelled
      ∙ ap (λ (ws : List (List ℕ)). map back_field read ++ ws) (e ∙ ap (λ (w : List ℕ). w ∷ rest) (sym reads.some.1))
      ∙ sym (append_assoc (map back_field read) (back_field (exit, row) ∷ []) rest)
      ∙ ap (λ (ws : List (List ℕ)). ws ++ rest) (sym (map-append back_field read ((exit, row) ∷ [])));
  fits = λ more fits. rw (append_assoc read ((exit, row) ∷ []) more) (keeps.fits ((exit, row) ∷ more) (up, reads.some.0.0, reads.some.0.1, fits));
  only = λ backs fits is.
      let l = keeps.only backs fits is in
      let n = next_back whole left read low field rest e backs l in
      let there : AreBacks low (n.0 ∷ n.1) = rw n.2 at l.fits in
      let same : n.0 ≡ (exit, row) = sym (one_back (exit, row) n.0 reads.some.0 (there.1, there.2) (reads.some.1 ∙ sym n.3)) in
      record {
        more = n.1;
        both = l.both ∙ ap (λ (bs : List (ℕ × ℕ)). read ++ bs) (n.2 ∙ ap (λ (b : ℕ × ℕ). b ∷ n.1) same) ∙ sym (append_assoc read ((exit, row) ∷ []) n.1);
        fits = rw same at there.3;
        spelled = n.4;
      };
}

pub more_backs : (whole left : List (List ℕ)) (old new : List (StateId × ℕ)) (exit row low : ℕ) → new ≡ old ++ (record { 0 = exit }, row) ∷ [] → low ≡ exit
    → Keeps whole left (backs_of old ++ (exit, row) ∷ []) (exit + 1)
    → Keeps whole left (backs_of new) (low + 1)
more_backs whole left old new exit row low e is keeps =
    let both : backs_of (old ++ (record { 0 = exit }, row) ∷ []) ≡ backs_of old ++ (exit, row) ∷ [] =
    map-append {B = ℕ × ℕ} (λ (b : StateId × ℕ). (b.0.0, b.1)) old ((record { 0 = exit }, row) ∷ []) in
    rw (e, is, both) keeps
