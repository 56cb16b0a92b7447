-- Texts put piece by piece.
use Rattle.std.proofs.Common.{◌≡◌, ℕ, ◌+◌, ◌<◌, List, [], ◌∷◌, ◌++◌, map, take, length, get_or, refl, sym, ap, ◌∙◌, append-nil, append_assoc, arith, length-take}
use Rattle.std.specs.Prelude.{codes}
use Rattle.std.specs.List.{flat_map}
use Rattle.std.proofs.lemmas.List.{map-append, take_more}
use Rattle.std.proofs.lemmas.List.Concat.{flat_map-append}
use Rattle.std.proofs.lemmas.List.Folds.{flat_map-map}
use Rattle.cw_core.specs.declared.ids.StateId.{StateId}
use Rattle.cw_rights.specs.Policies.{PlainPolicy}
use Rattle.cw_certs.specs.Tables.{Table}
use Rattle.cw_text.specs.Lines.{line}
use Rattle.cw_text.specs.LimitsText.{limits_line}
use Rattle.cw_text.specs.TableText.{live_fields, try_fields, after_fields, opened_fields, into_fields, back_fields}
use Rattle.cw_table_text.specs.declared.row.Row.{Row}
use Rattle.cw_table_text.specs.declared.row.Row.TheVariants.{Memory, Live, Try, At, Opened, Closed, Into, Back}
use Rattle.cw_table_text.specs.Rows.{called, memories, memory_fields, row_text, rows_of}
use Rattle.cw_table_text.specs.TablesText.{limits_text, table_text, tables_text, text_of}
use Rattle.cw_table_text.specs.Working.{row_lines}
use Rattle.cw_table_text.proofs.Adding.{memories_more}

-- a name, and fields with a separator behind each
pub two_fields : (t0 t1 t2 t3 t4 name a b : List ℕ) → t1 ≡ t0 ++ (name ++ 40 ∷ []) → t2 ≡ t1 ++ (a ++ 44 ∷ []) → t3 ≡ t2 ++ (b ++ 41 ∷ []) → t4 ≡ t3 ++ codes "\n"
    → t4 ≡ t0 ++ line (called name (a ∷ b ∷ []))
two_fields t0 t1 t2 t3 t4 name a b h0 h1 h2 h3 = rw (h3, h2, h1, h0) (simp append_assoc)

pub three_fields : (t0 t1 t2 t3 t4 t5 name a b c : List ℕ) → t1 ≡ t0 ++ (name ++ 40 ∷ []) → t2 ≡ t1 ++ (a ++ 44 ∷ []) → t3 ≡ t2 ++ (b ++ 44 ∷ []) → t4 ≡ t3 ++ (c ++ 41 ∷ [])
    → t5 ≡ t4 ++ codes "\n" → t5 ≡ t0 ++ line (called name (a ∷ b ∷ c ∷ []))
three_fields t0 t1 t2 t3 t4 t5 name a b c h0 h1 h2 h3 h4 = rw (h4, h3, h2, h1, h0) (simp append_assoc)

pub four_fields : (t0 t1 t2 t3 t4 t5 t6 name a b c d : List ℕ) → t1 ≡ t0 ++ (name ++ 40 ∷ []) → t2 ≡ t1 ++ (a ++ 44 ∷ []) → t3 ≡ t2 ++ (b ++ 44 ∷ []) → t4 ≡ t3 ++ (c ++ 44 ∷ [])
    → t5 ≡ t4 ++ (d ++ 41 ∷ []) → t6 ≡ t5 ++ codes "\n" → t6 ≡ t0 ++ line (called name (a ∷ b ∷ c ∷ d ∷ []))
four_fields t0 t1 t2 t3 t4 t5 t6 name a b c d h0 h1 h2 h3 h4 h5 = rw (h5, h4, h3, h2, h1, h0) (simp append_assoc)

pub five_fields : (t0 t1 t2 t3 t4 t5 t6 t7 name a b c d e : List ℕ) → t1 ≡ t0 ++ (name ++ 40 ∷ []) → t2 ≡ t1 ++ (a ++ 44 ∷ []) → t3 ≡ t2 ++ (b ++ 44 ∷ []) → t4 ≡ t3 ++ (c ++ 44 ∷ [])
    → t5 ≡ t4 ++ (d ++ 44 ∷ []) → t6 ≡ t5 ++ (e ++ 41 ∷ []) → t7 ≡ t6 ++ codes "\n" → t7 ≡ t0 ++ line (called name (a ∷ b ∷ c ∷ d ∷ e ∷ []))
five_fields t0 t1 t2 t3 t4 t5 t6 t7 name a b c d e h0 h1 h2 h3 h4 h5 h6 = rw (h6, h5, h4, h3, h2, h1, h0) (simp append_assoc)

-- the lines of rows of one kind
kind_text : {A : Type 0} (format : ℕ) (row : A → Row) (xs : List A) → text_of (row_lines format (map row xs)) ≡ flat_map (λ x. line (row_text format (row x))) xs
kind_text format row xs = flat_map-map line (row_text format) (map row xs) ∙ flat_map-map (λ r. line (row_text format r)) row xs

-- one memory more
pub memory_step : (format : ℕ) (mems : List (StateId × ℕ)) (i : ℕ) (x : StateId × ℕ) → i < length mems → x ≡ get_or mems i x
    → text_of (row_lines format (memories 0 (take (i + 1) mems))) ≡ text_of (row_lines format (memories 0 (take i mems))) ++ line (called (codes "CW_MEM") (memory_fields format (i, x)))
unfolding row_text
memory_step format mems i x lt is =
    let long : 0 + length (take i mems) ≡ i = omega (arith, length-take i mems) in
    let more : memories 0 (take (i + 1) mems) ≡ memories 0 (take i mems) ++ Memory i x ∷ [] =
    ap (memories 0) (take_more mems i x lt ∙ ap (λ y. take i mems ++ y ∷ []) (sym is)) ∙ memories_more 0 (take i mems) x ∙ ap (λ (k : ℕ). memories 0 (take i mems) ++ Memory k x ∷ []) long in
    ap (λ rows. text_of (row_lines format rows)) more ∙ ap text_of (map-append (row_text format) (memories 0 (take i mems)) (Memory i x ∷ []))
    ∙ flat_map-append line (row_lines format (memories 0 (take i mems))) (row_text format (Memory i x) ∷ [])
    ∙ ap (λ t. text_of (row_lines format (memories 0 (take i mems))) ++ t) (append-nil (line (called (codes "CW_MEM") (memory_fields format (i, x)))))

pub limits_is : (policy : PlainPolicy) → limits_line policy ≡ line (limits_text policy)
unfolding limits_line limits_text
limits_is policy = refl

-- the whole text, piece by piece
pub whole_text : (policy : PlainPolicy) (t : Table) (t0 t1 t2 t3 t4 t5 t6 t7 t8 t9 t10 t11 t12 : List ℕ) → t1 ≡ t0 ++ codes "#include \"capweave.h\"\n"
    → t2 ≡ t1 ++ limits_line policy
    → t3 ≡ t2 ++ line (table_text policy.format t.states t.start)
    → t4 ≡ t3 ++ text_of (row_lines policy.format (memories 0 t.mems))
    → t5 ≡ t4 ++ flat_map (λ x. line (called (codes "CW_LIVE") (live_fields x))) t.live
    → t6 ≡ t5 ++ flat_map (λ x. line (called (codes "CW_TRY") (try_fields x))) t.tries
    → t7 ≡ t6 ++ flat_map (λ x. line (called (codes "CW_AT") (after_fields x))) t.ats
    → t8 ≡ t7 ++ flat_map (λ x. line (called (codes "CW_OPENED") (opened_fields x))) t.opened
    → t9 ≡ t8 ++ flat_map (λ x. line (called (codes "CW_CLOSED") (after_fields x))) t.closed
    → t10 ≡ t9 ++ flat_map (λ x. line (called (codes "CW_INTO") (into_fields x))) t.into
    → t11 ≡ t10 ++ flat_map (λ x. line (called (codes "CW_BACK") (back_fields x))) t.back
    → t12 ≡ t11 ++ codes "CW_DONE\n"
    → t12 ≡ t0 ++ tables_text policy t
unfolding tables_text rows_of row_text
whole_text policy t t0 t1 t2 t3 t4 t5 t6 t7 t8 t9 t10 t11 t12 h1 h2 h3 h4 h5 h6 h7 h8 h9 h10 h11 h12 =
    rw (h12, h11, h10, h9, h8, h7, h6, h5, h4, h3, h2, h1, limits_is policy)
    (simp (
      append_assoc,
      map-append,
      flat_map-append,
      kind_text policy.format Live t.live,
      kind_text policy.format Try t.tries,
      kind_text policy.format At t.ats,
      kind_text policy.format Opened t.opened,
      kind_text policy.format Closed t.closed,
      kind_text policy.format Into t.into,
      kind_text policy.format Back t.back,
    ))
