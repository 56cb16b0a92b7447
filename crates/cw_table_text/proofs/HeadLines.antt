-- The table's own line.
use Rattle.std.proofs.Common.{◌≡◌, ◌≢◌, ℕ, ◌^◌, ◌<◌, ltb, List, [], ◌∷◌, ◌++◌, length, refl, sym, ap, ◌∙◌, arith, append-nil}
use Rattle.std.specs.Prelude.{None, Some, codes}
use Rattle.std.specs.Fmt.{decimal}
use Rattle.std.specs.List.{All}
use Rattle.std.proofs.lemmas.Fmt.{decimal_injective}
use Rattle.std.proofs.lemmas.List.{append_cancel_right}
use Rattle.std.proofs.lemmas.List.Elements.{All-from_recursion}
use Rattle.cw_core.specs.declared.ids.MemId.{MemId}
use Rattle.cw_rights.specs.Policies.{PlainPolicy}
use Rattle.cw_certs.specs.Tables.{Table}
use Rattle.cw_text.specs.Lines.{joined, fields_by, IsFree, Reads}
use Rattle.cw_text.proofs.Cuts.{fields-joined, joined-fields}
use Rattle.cw_text.proofs.Free.{free_from_test, one_line, decimal_free}
use Rattle.cw_table_text.specs.TablesText.{table_text, head_lines, text_of}
use Rattle.cw_table_text.specs.Working.{FitsHead, head_fields, IsEmpty, TakesRow}
use Rattle.cw_table_text.proofs.RowLines.{same_first, IsSeparator, comma}

abbrev pub text_at : ℕ → ℕ × MemId → List ℕ
text_at format p = table_text format p.0 p.1

pub head_line : (format : ℕ) (p : ℕ × MemId) → text_at format p ≡ codes "CW_TABLE" ++ (40 ∷ (joined 44 (head_fields format p) ++ 41 ∷ []))
unfolding table_text
head_line format p = refl

pub head_name_free : IsFree 40 (codes "CW_TABLE")
head_name_free = free_from_test (λ b. ltb 44 b) 40 (codes "CW_TABLE") refl refl

pub head_fields_free : (separator : ℕ) → IsSeparator separator → (format : ℕ) (p : ℕ × MemId) → format < 2 ^ 8 → FitsHead p → All (IsFree separator) (head_fields format p)
head_fields_free separator m format p small fits = All-from_recursion (IsFree separator) (head_fields format p)
    (decimal_free separator format m.digit (omega (arith, small)), (decimal_free separator p.0 m.digit (omega (arith, fits.0)), (decimal_free separator p.1.0 m.digit (omega (arith, fits.1)), tt)))

pub fields_stay : (format : ℕ) (p : ℕ × MemId) → format < 2 ^ 8 → FitsHead p → fields_by 44 (joined 44 (head_fields format p)) ≡ head_fields format p
fields_stay format p small fits = fields-joined 44 _ _ (head_fields_free 44 comma format p small fits)

pub head_parts : (format : ℕ) (p : ℕ × MemId) (line name inner : List ℕ) → format < 2 ^ 8 → FitsHead p → IsFree 40 name → line ≡ name ++ (40 ∷ (inner ++ 41 ∷ [])) → text_at format p ≡ line
    → (name ≡ codes "CW_TABLE") × (fields_by 44 inner ≡ head_fields format p)
head_parts format p line name inner small fits free is e =
    let both = one_line 40 name (codes "CW_TABLE") (inner ++ 41 ∷ []) (joined 44 (head_fields format p) ++ 41 ∷ []) free head_name_free (sym is ∙ sym e ∙ head_line format p) in
    let same : inner ≡ joined 44 (head_fields format p) = append_cancel_right inner (joined 44 (head_fields format p)) (41 ∷ []) both.1 in
    (both.0, ap (fields_by 44) same ∙ fields_stay format p small fits)

pub other_version : (format version : ℕ) (old new : List (List ℕ)) → format < 2 ^ 8 → version < 2 ^ 8 → version ≢ format → old ≡ decimal version ∷ new
    → TakesRow FitsHead (head_fields format) old new None
other_version format version old new small also differs is = record {
  some = tt;
  none = λ p rest fits e. differs (decimal_injective version format (omega (arith, also)) (omega (arith, small)) (same_first is e));
}

pub no_call : (format : ℕ) (line : List ℕ) → ((name inner : List ℕ) → IsFree 40 name → line ≢ name ++ (40 ∷ (inner ++ 41 ∷ []))) → Reads FitsHead (text_at format) line None
no_call format line h = record { some = tt; none = λ p fits e. h (codes "CW_TABLE") (joined 44 (head_fields format p)) head_name_free (sym e ∙ head_line format p) }

pub other_name : (format : ℕ) (line name inner : List ℕ) → format < 2 ^ 8 → IsFree 40 name → line ≡ name ++ (40 ∷ (inner ++ 41 ∷ [])) → name ≢ codes "CW_TABLE"
    → Reads FitsHead (text_at format) line None
other_name format line name inner small free is differs = record { some = tt; none = λ p fits e. differs (head_parts format p line name inner small fits free is e).0 }

pub no_fields : (format : ℕ) (line name inner : List ℕ) (new : List (List ℕ)) → format < 2 ^ 8 → IsFree 40 name → line ≡ name ++ (40 ∷ (inner ++ 41 ∷ []))
    → TakesRow FitsHead (head_fields format) (fields_by 44 inner) new None
    → Reads FitsHead (text_at format) line None
no_fields format line name inner new small free is h = record {
  some = tt;
  none = λ p fits e. h.none p [] fits ((head_parts format p line name inner small fits free is e).1 ∙ sym (append-nil (head_fields format p)));
}

pub more_fields : (format : ℕ) (line name inner : List ℕ) (new : List (List ℕ)) (found : ℕ × MemId) → format < 2 ^ 8 → IsFree 40 name → line ≡ name ++ (40 ∷ (inner ++ 41 ∷ []))
    → TakesRow FitsHead (head_fields format) (fields_by 44 inner) new (Some found) → (new ≡ [] → ⊥) → Reads FitsHead (text_at format) line None
more_fields format line name inner new found small free is h left = record {
  some = tt;
  none = λ p fits e. left (empty p new (sym h.some.1 ∙ (head_parts format p line name inner small fits free is e).1));
}
  where
    empty : (p : ℕ × MemId) (xs : List (List ℕ)) → head_fields format found ++ xs ≡ head_fields format p → xs ≡ []
    empty p [] e = refl
    empty p (x ∷ xs) e = absurd (omega (arith, ap length e))

pub all_fields : (format : ℕ) (line name inner : List ℕ) (new : List (List ℕ)) (found : ℕ × MemId) → line ≡ name ++ (40 ∷ (inner ++ 41 ∷ [])) → name ≡ codes "CW_TABLE"
    → TakesRow FitsHead (head_fields format) (fields_by 44 inner) new (Some found) → new ≡ [] → Reads FitsHead (text_at format) line (Some found)
all_fields format line name inner new found is named h left = record {
  some =
      let fields : fields_by 44 inner ≡ head_fields format found = h.some.1 ∙ ap (λ ws. head_fields format found ++ ws) left ∙ append-nil (head_fields format found) in
      let same : inner ≡ joined 44 (head_fields format found) = sym (joined-fields 44 inner) ∙ ap (joined 44) fields in
      (h.some.0, head_line format found ∙ sym (is ∙ ap (λ n. n ++ (40 ∷ (inner ++ 41 ∷ []))) named ∙ ap (λ t. codes "CW_TABLE" ++ (40 ∷ (t ++ 41 ∷ []))) same));
  none = tt;
}

pub head_read : (policy : PlainPolicy) (text rest : List ℕ) (t : Table) (states : ℕ) (start : MemId) → t.states ≡ states → t.start ≡ start → FitsHead (states, start) → IsEmpty t
    → text ≡ text_of (head_lines policy states start) ++ rest → FitsHead (t.states, t.start) × IsEmpty t × (text ≡ text_of (head_lines policy t.states t.start) ++ rest)
head_read policy text rest t states start s m fits none is =
    ((rw s fits.0, rw m fits.1), none, is ∙ ap (λ n. text_of (head_lines policy n start) ++ rest) (sym s) ∙ ap (λ k. text_of (head_lines policy t.states k) ++ rest) (sym m))
