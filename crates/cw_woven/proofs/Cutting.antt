-- What `cut` leaves of a text is what stands outside its parts.
use Rattle.std.proofs.Common.{◌≡◌, ◌⊎◌, ℕ, zero, suc, ◌+◌, ◌<◌, ◌≤◌, Bool, true, false, List, [], ◌∷◌, ◌++◌, length, drop, nat_eq, refl, sym, ap, ◌∙◌, subst, inl, inr, append-nil, arith, length-append}
use Rattle.std.specs.Prelude.{codes}
use Rattle.std.specs.List.{starts_with}
use Rattle.cw_lemmas.proofs.Texts.{starts_is}
use Rattle.cw_rights.specs.Policies.{PlainPolicy}
use Rattle.cw_syntax.specs.Trees.{File}
use Rattle.cw_syntax.specs.PlainMarks.{HasNone}
use Rattle.cw_certs.specs.Tables.{Table}
use Rattle.cw_emit.specs.Cut.{opening, closing, cut_from, cut}
use Rattle.cw_emit.proofs.Openings.{opens, closes}
use Rattle.cw_woven.specs.Parts.{NoneBefore, IsCutAt, Insertion, AreParts, without}
use Rattle.cw_woven.specs.Reading.{the_prologue, ReadsWoven}

-- outside a part a byte at which none opens stays, and inside one a byte at which none closes goes
front_cut : (front rest : List ℕ) → NoneBefore opening (front ++ rest) (length front) → cut_from 0 false (front ++ rest) ≡ front ++ cut_from 0 false rest
unfolding cut_from
front_cut [] rest h = refl
front_cut (b ∷ front) rest h =
    let no : starts_with nat_eq (b ∷ (front ++ rest)) opening ≡ false = h 0 (omega arith) in
    rw no (ap (λ l. b ∷ l) (front_cut front rest (λ at lt. h (suc at) (omega (arith, lt)))))

inner_cut : (inner rest : List ℕ) → NoneBefore closing (inner ++ rest) (length inner) → cut_from 0 true (inner ++ rest) ≡ cut_from 0 true rest
unfolding cut_from
inner_cut [] rest h = refl
inner_cut (b ∷ inner) rest h =
    let no : starts_with nat_eq (b ∷ (inner ++ rest)) closing ≡ false = h 0 (omega arith) in
    rw no (inner_cut inner rest (λ at lt. h (suc at) (omega (arith, lt))))

remainder_cut : (text gap remainder : List ℕ) → IsCutAt opening text gap remainder → cut text ≡ gap ++ cut_from 0 true remainder
remainder_cut text gap remainder c =
    ap (cut_from 0 false) c.cut ∙ front_cut gap (opening ++ remainder) (subst (λ (z : List ℕ). NoneBefore opening z (length gap)) c.cut c.first) ∙ ap (λ l. gap ++ l) (opens remainder)

closed_cut : (remainder inner after : List ℕ) → IsCutAt closing remainder inner after → cut_from 0 true remainder ≡ cut after
closed_cut remainder inner after c =
    ap (cut_from 0 true) c.cut ∙ inner_cut inner (closing ++ after) (subst (λ (z : List ℕ). NoneBefore closing z (length inner)) c.cut c.first) ∙ closes after

parts_cut : (text : List ℕ) (ps : List Insertion) (left : List ℕ) → AreParts text ps left → cut text ≡ without ps (cut left)
parts_cut text [] left a = ap cut a
parts_cut text (p ∷ ps) left a =
    remainder_cut text p.gap a.0 a.2 ∙ ap (λ l. p.gap ++ l) (closed_cut a.0 p.inner a.1 a.3 ∙ parts_cut a.1 ps left a.4)

all_before : (needle text : List ℕ) → HasNone needle text → NoneBefore needle (text ++ []) (length text)
all_before needle text none at lt = ap (λ (z : List ℕ). starts_with nat_eq (drop at z) needle) (append-nil text) ∙ none at

nothing_cut : (left : List ℕ) → HasNone opening left → cut left ≡ left
unfolding cut_from
nothing_cut left none = ap cut (sym (append-nil left)) ∙ front_cut left [] (all_before opening left none) ∙ append-nil left

unclosed_cut : (remainder : List ℕ) → HasNone closing remainder → cut_from 0 true remainder ≡ []
unfolding cut_from
unclosed_cut remainder none = ap (cut_from 0 true) (sym (append-nil remainder)) ∙ inner_cut remainder [] (all_before closing remainder none)

pub closed : (text : List ℕ) (parts : List Insertion) (left : List ℕ) → AreParts text parts left → HasNone opening left → cut text ≡ without parts left
closed text parts left a none = parts_cut text parts left a ∙ ap (without parts) (nothing_cut left none)

pub unclosed : (text : List ℕ) (parts : List Insertion) (left gap remainder : List ℕ) → AreParts text parts left → IsCutAt opening left gap remainder → HasNone closing remainder
    → cut text ≡ without parts gap
unclosed text parts left gap remainder a c none =
    parts_cut text parts left a ∙ ap (without parts) (remainder_cut left gap remainder c ∙ ap (λ l. gap ++ l) (unclosed_cut remainder none) ∙ append-nil gap)

pub read_is_cut : (policy : PlainPolicy) (text source : List ℕ) (file : File) (table : Table) → ReadsWoven policy text source file table → cut text ≡ source
read_is_cut policy text source file table r =
    closed text (the_prologue r.has.lines ∷ r.marks) r.left r.has.parted.begins.parts r.has.parted.whole ∙ sym r.is

-- ---- each text has its parts

pub find_needle : (needle text : List ℕ) → starts_with nat_eq [] needle ≡ false → HasNone needle text ⊎ ((front : List ℕ) × (rest : List ℕ) × IsCutAt needle text front rest)
find_needle needle [] e = inl none
  where
    none : (at : ℕ) → starts_with nat_eq (drop at []) needle ≡ false
    none zero = e
    none (suc at) = e
find_needle needle (b ∷ bs) e = go (starts_with nat_eq (b ∷ bs) needle) refl (find_needle needle bs e)
  where
    go : (here : Bool) → starts_with nat_eq (b ∷ bs) needle ≡ here → HasNone needle bs ⊎ ((front : List ℕ) × (rest : List ℕ) × IsCutAt needle bs front rest)
        → HasNone needle (b ∷ bs) ⊎ ((front : List ℕ) × (rest : List ℕ) × IsCutAt needle (b ∷ bs) front rest)
    go true h later = inr ([], drop (length needle) (b ∷ bs), record { cut = starts_is (b ∷ bs) needle h; first = λ at lt. absurd (omega (arith, lt)) })
    go false h (inl none) = inl (λ at. each at)
      where
        each : (at : ℕ) → starts_with nat_eq (drop at (b ∷ bs)) needle ≡ false
        each zero = h
        each (suc at) = none at
    go false h (inr (front, rest, c)) = inr (b ∷ front, rest, record { cut = ap (λ l. b ∷ l) c.cut; first = each })
      where
        each : (at : ℕ) → at < length (b ∷ front) → starts_with nat_eq (drop at (b ∷ bs)) needle ≡ false
        each zero lt = h
        each (suc at) lt = c.first at (omega (arith, lt))

-- the parts end where none opens, or where one opens that isn't closed
abbrev pub HasParts : List ℕ → Type 0
HasParts text =
    ((parts : List Insertion) × (left : List ℕ) × AreParts text parts left × HasNone opening left)
    ⊎ ((parts : List Insertion) × (left : List ℕ) × (gap : List ℕ) × (remainder : List ℕ) × AreParts text parts left × IsCutAt opening left gap remainder × HasNone closing remainder)

shorter : (needle text front rest : List ℕ) → 0 < length needle → IsCutAt needle text front rest → length rest < length text
shorter needle text front rest some c = omega (arith, some, ap length c.cut, length-append front (needle ++ rest), length-append needle rest)

parts_within : (n : ℕ) (text : List ℕ) → length text < n → HasParts text
parts_within zero text lt = absurd (omega (arith, lt))
parts_within (suc n) text lt = elim (find_needle opening text refl) [
  | inl none ↦ inl ([], text, refl, none)
  | inr o ↦ elim (find_needle closing o.1 refl) [
    | inl none ↦ inr ([], text, o.0, o.1, refl, o.2, none)
    | inr c ↦
        let a = shorter opening text o.0 o.1 (omega arith) o.2 in
        let b = shorter closing o.1 c.0 c.1 (omega arith) c.2 in
        let p : Insertion = record { gap = o.0; inner = c.0 } in
        elim (parts_within n c.1 (omega (arith, a, b, lt))) [
          | inl r ↦ inl (p ∷ r.0, r.1, (o.1, c.1, o.2, c.2, r.2), r.3)
          | inr r ↦ inr (p ∷ r.0, r.1, r.2, r.3, (o.1, c.1, o.2, c.2, r.4), r.5, r.6)
        ]
  ]
]

pub has_parts : (text : List ℕ) → HasParts text
has_parts text = parts_within (suc (length text)) text (omega arith)
