-- A scan at a place of a text.
use Rattle.std.proofs.Common.{◌≡◌, ℕ, ◌+◌, ◌-◌, ◌<◌, ◌≤◌, max, List, [], ◌∷◌, ◌++◌, Bool, true, false, cond, ◌&&◌, Some, None, length, take, drop, refl, sym, ap, ap₂, ◌∙◌, subst}
use Rattle.std.proofs.Common.{arith, append-nil, append_assoc, length-append, length-take, length-drop}
use Rattle.std.proofs.lemmas.List.{take_all, drop_all}
use Rattle.cw_regex.specs.declared.text.Sign.{Sign}
use Rattle.cw_regex.specs.declared.phase.Phase.{Phase}
use Rattle.cw_regex.specs.declared.phase.Phase.TheVariants.{Begin, Label, Whole, Repeated, Test, Negated, Ambient, Descriptor, Colon, Right}
use Rattle.cw_regex.specs.declared.scan.Scanned.{Scanned}
use Rattle.cw_regex.specs.Parts.{sign, parts, ends_blank}
use Rattle.cw_regex.specs.Grammar.{IsFaultAt}
use Rattle.cw_regex.specs.Machine.{step_identifier, step, kept, ends_here, In, deepest}
use Rattle.cw_regex.specs.Fronts.{IsBlankAt, IsSignAt, IsIdentifierAt}
use Rattle.cw_regex.specs.Scans.{is_held, Scan, ScanAt}
use Rattle.cw_lemmas.proofs.Truths.{and_first as and_left, and_second as and_right}
use Rattle.cw_regex.proofs.Runs.{take_drop, take_on}
use Rattle.cw_regex.proofs.Scanned.{scan_blank, scan_sign, scan_identifier, Stuck, fault_by, front_scan, stuck_front, stuck_held, stuck_sign, stuck_identifier, later_identifier, scan_ends, stuck_end}

held_is : (alone : Bool) (q : Phase) → is_held alone q ≡ true → (alone ≡ true) × (q ≡ Right)
held_is true Right e = (refl, refl)
held_is false Right e = absurd (cc)
held_is true Begin e = absurd (cc)
held_is true Label e = absurd (cc)
held_is true Whole e = absurd (cc)
held_is true Repeated e = absurd (cc)
held_is true Test e = absurd (cc)
held_is true Negated e = absurd (cc)
held_is true Ambient e = absurd (cc)
held_is true Descriptor e = absurd (cc)
held_is true Colon e = absurd (cc)
held_is false Begin e = absurd (cc)
held_is false Label e = absurd (cc)
held_is false Whole e = absurd (cc)
held_is false Repeated e = absurd (cc)
held_is false Test e = absurd (cc)
held_is false Negated e = absurd (cc)
held_is false Ambient e = absurd (cc)
held_is false Descriptor e = absurd (cc)
held_is false Colon e = absurd (cc)

not_held : (alone : Bool) (q : Phase) → is_held alone q ≡ false → alone ≡ true → q ≡ Right → ⊥
not_held alone q e f g = let z : is_held alone q ≡ true = ap₂ is_held f g in absurd (cc)

long : (text : List ℕ) (at : ℕ) → at ≤ length text → length (take at text) ≡ at
long text at l = let n = length-take at text in omega arith

module _ (alone : Bool) (text : List ℕ) (x : Scanned) (h : ScanAt alone text x) where
  pub blank_ok : IsBlankAt text x.at → (x.at ≡ 0 → ⊥) → is_held alone x.phase ≡ false → ScanAt alone text (record { at = x.at + 1; phase = x.phase; depth = x.depth; most = x.most })
  blank_ok p n f =
      let was = subst (λ t. Scan alone (take x.at text) t x.phase x.depth x.most) p.cut h.is in
      let l = long text x.at h.far in
      let k = length-drop x.at text in
      let m : length (drop x.at text) ≡ length (p.byte ∷ drop (x.at + 1) text) = ap length p.cut in
      let more : 0 < length (take x.at text) = omega arith in
      record {
        far = omega arith;
        is = subst (λ s. Scan alone s (drop (x.at + 1) text) x.phase x.depth x.most) (sym (take_on text (p.byte ∷ []) x.at (x.at + 1) p.cut (omega arith)))
            (scan_blank alone (take x.at text) p.byte (drop (x.at + 1) text) x.phase x.depth x.most was p.blank more (not_held alone x.phase f));
      }

  pub identifier_ok : (end : ℕ) (r : Phase) → (p : IsIdentifierAt text x.at end) → step_identifier x.phase (take (end - x.at) (drop x.at text)) ≡ Some r →
      ScanAt alone text (record { at = end; phase = r; depth = x.depth; most = x.most })
  identifier_ok end r p e =
      let was = subst (λ t. Scan alone (take x.at text) t x.phase x.depth x.most) p.cut h.is in
      let goes = subst (λ w. step_identifier x.phase w ≡ Some r) p.identifier e in
      record {
        far = p.within;
        is = subst (λ s. Scan alone s (drop end text) r x.depth x.most) (sym (take_on text (p.first ∷ p.more) x.at end p.cut p.far))
            (scan_identifier alone (take x.at text) p.first p.more (drop end text) x.phase r x.depth x.most was p.bytes p.stop goes);
      }

  pub sign_ok : (m : Sign) (r : Phase) (e : ℕ) → IsSignAt text x.at m → step alone x.phase x.depth (sign m) ≡ Some (r, e) →
      ScanAt alone text (record { at = x.at + 1; phase = r; depth = e; most = max x.most e })
  sign_ok m r e p goes =
      let was = subst (λ t. Scan alone (take x.at text) t x.phase x.depth x.most) p.cut h.is in
      let k = length-drop x.at text in
      let n : length (drop x.at text) ≡ length (p.byte ∷ drop (x.at + 1) text) = ap length p.cut in
      let far = h.far in
      record {
        far = omega arith;
        is = subst (λ s. Scan alone s (drop (x.at + 1) text) r e (max x.most e)) (sym (take_on text (p.byte ∷ []) x.at (x.at + 1) p.cut (omega arith)))
            (scan_sign alone (take x.at text) p.byte (drop (x.at + 1) text) x.phase r x.depth e x.most was p.no_blank p.no_identifier
            (subst (λ y. step alone x.phase x.depth (sign y) ≡ Some (r, e)) p.is goes));
      }

  fault_here : Stuck alone (take x.at text) (drop x.at text) → IsFaultAt (In alone) text x.at
  fault_here k = subst (λ t. IsFaultAt (In alone) t x.at) (sym (take_drop text x.at)) (subst (λ n. IsFaultAt (In alone) (take x.at text ++ drop x.at text) n) (long text x.at h.far)
      (fault_by alone (take x.at text) (drop x.at text) (front_scan alone (take x.at text) (drop x.at text) x.phase x.depth x.most h.is) k))

  pub front_fault : IsBlankAt text x.at → x.at ≡ 0 → IsFaultAt (In alone) text x.at
  front_fault p e = fault_here (subst (Stuck alone (take x.at text)) (sym p.cut) (subst (λ s. Stuck alone s (p.byte ∷ drop (x.at + 1) text))
      (sym (ap (λ n. take n text) e)) (stuck_front alone p.byte (drop (x.at + 1) text) p.blank)))

  pub held_fault : IsBlankAt text x.at → is_held alone x.phase ≡ true → IsFaultAt (In alone) text x.at
  held_fault p e = fault_here (subst (Stuck alone (take x.at text)) (sym p.cut) (by alone (held_is alone x.phase e).0 was))
    where
      was : Scan alone (take x.at text) (p.byte ∷ drop (x.at + 1) text) x.phase x.depth x.most
      was = subst (λ t. Scan alone (take x.at text) t x.phase x.depth x.most) p.cut h.is

      by : (b : Bool) → b ≡ true → Scan b (take x.at text) (p.byte ∷ drop (x.at + 1) text) x.phase x.depth x.most → Stuck b (take x.at text) (p.byte ∷ drop (x.at + 1) text)
      by true f w = stuck_held (take x.at text) p.byte (drop (x.at + 1) text) x.phase x.depth x.most w p.blank (held_is alone x.phase e).1
      by false f w = absurd (cc)

  pub sign_fault : (m : Sign) → IsSignAt text x.at m → step alone x.phase x.depth (sign m) ≡ None → IsFaultAt (In alone) text x.at
  sign_fault m p e = fault_here (subst (Stuck alone (take x.at text)) (sym p.cut) (stuck_sign alone (take x.at text) p.byte (drop (x.at + 1) text) x.phase x.depth x.most
      (subst (λ t. Scan alone (take x.at text) t x.phase x.depth x.most) p.cut h.is) p.no_blank p.no_identifier (subst (λ y. step alone x.phase x.depth (sign y) ≡ None) p.is e)))

  pub identifier_fault : (end : ℕ) (p : IsIdentifierAt text x.at end) → step_identifier x.phase (take (end - x.at) (drop x.at text)) ≡ None → kept x.phase p.first ≡ false → IsFaultAt (In alone) text x.at
  identifier_fault end p e k =
      fault_here (subst (Stuck alone (take x.at text)) (sym p.cut) (stuck_identifier alone (take x.at text) p.first p.more (drop end text) x.phase x.depth x.most
      (subst (λ t. Scan alone (take x.at text) t x.phase x.depth x.most) p.cut h.is) p.bytes (subst (λ w. step_identifier x.phase w ≡ None) p.identifier e) k))

  pub later_fault : (end : ℕ) (p : IsIdentifierAt text x.at end) → step_identifier x.phase (take (end - x.at) (drop x.at text)) ≡ None → kept x.phase p.first ≡ true → IsFaultAt (In alone) text (x.at + 1)
  later_fault end p e k =
      let s = take x.at text in
      let u = p.more ++ drop end text in
      let later = later_identifier alone s p.first p.more (drop end text) x.phase x.depth x.most (subst (λ t. Scan alone s t x.phase x.depth x.most) p.cut h.is) p.bytes
      (subst (λ w. step_identifier x.phase w ≡ None) p.identifier e) k in
      let whole : (s ++ p.first ∷ []) ++ u ≡ text = append_assoc s (p.first ∷ []) u ∙ ap (λ t. s ++ t) (sym p.cut) ∙ sym (take_drop text x.at) in
      let l = long text x.at h.far in
      let n = length-append s (p.first ∷ []) in
      let far : length (s ++ p.first ∷ []) ≡ x.at + 1 = omega arith in
      subst (λ t. IsFaultAt (In alone) t (x.at + 1)) whole (subst (λ m. IsFaultAt (In alone) ((s ++ p.first ∷ []) ++ u) m) far (fault_by alone (s ++ p.first ∷ []) u later.front later.stuck))

  at_end : length text ≤ x.at → Scan alone text [] x.phase x.depth x.most
  at_end l = subst (λ s. Scan alone s [] x.phase x.depth x.most) (take_all x.at text l) (subst (λ t. Scan alone (take x.at text) t x.phase x.depth x.most) (drop_all x.at text l) h.is)

  pub end_ok : length text ≤ x.at → ends_here alone x.phase x.depth ≡ true → ends_blank text ≡ false → In alone text × (deepest 0 (parts text) ≡ x.most)
  end_ok l e f = scan_ends alone text x.phase x.depth x.most (at_end l) e f

  -- the whole text was scanned
  pub end_both : length text ≤ x.at → (ends_here alone x.phase x.depth && cond (ends_blank text) false true) ≡ true → In alone text × (deepest 0 (parts text) ≡ x.most)
  end_both l e = end_ok' (and_left (ends_here alone x.phase x.depth) (cond (ends_blank text) false true) e)
      (by (ends_blank text) (and_right (ends_here alone x.phase x.depth) (cond (ends_blank text) false true) e))
    where
      by : (b : Bool) → cond b false true ≡ true → b ≡ false
      by true f = absurd (cc)
      by false f = refl

      end_ok' : ends_here alone x.phase x.depth ≡ true → ends_blank text ≡ false → In alone text × (deepest 0 (parts text) ≡ x.most)
      end_ok' f g = end_ok l f g

  pub end_fault : length text ≤ x.at → (ends_here alone x.phase x.depth && cond (ends_blank text) false true) ≡ false → IsFaultAt (In alone) text (length text)
  end_fault l e =
      let was = at_end l in
      subst (λ t. IsFaultAt (In alone) t (length text)) (append-nil text) (fault_by alone text [] (front_scan alone text [] x.phase x.depth x.most was)
      (stuck_end alone text x.phase x.depth x.most was e))
