-- What a scan keeps, part by part, and where it stops.
use Rattle.std.proofs.Common.{◌≡◌, ◌⊎◌, inl, inr, ⊎_elim, ℕ, zero, suc, ◌+◌, ◌-◌, ◌<◌, ◌≤◌, max, List, [], ◌∷◌, ◌++◌, Bool, true, false, cond, ◌&&◌, ◌||◌, nat_eq, eqb-true, Option, Some}
use Rattle.std.proofs.Common.{None, option_and_then, length, take, refl, sym, ap, ap₂, ◌∙◌, subst, arith, append-nil, append_assoc, length-append}
use Rattle.std.specs.Option.{option_map}
use Rattle.std.specs.List.{list_all}
use Rattle.std.specs.Str.{bytes_eq}
use Rattle.cw_rights.specs.Valid.{is_name_start, is_name_byte, is_name}
use Rattle.cw_regex.specs.declared.text.Sign.{Sign}
use Rattle.cw_regex.specs.declared.text.Sign.TheVariants.{Dot, ParenOpen, ParenClose, Bar, Star, Plus, Question, BracketOpen, BracketClose, Bang, Colon as ColonSign, Comma, Other}
use Rattle.cw_regex.specs.declared.phase.Phase.{Phase}
use Rattle.cw_regex.specs.declared.phase.Phase.TheVariants.{Begin, Label, Whole, Repeated, Test, Negated, Ambient, Descriptor, Colon, Right}
use Rattle.cw_regex.specs.Parts.{Part, identifier, sign, is_blank, sign_of, begins_identifier, grown, parts, ends_blank}
use Rattle.cw_regex.specs.Grammar.{is_digit, amb, IsFaultAt}
use Rattle.cw_regex.specs.Machine.{is_test_start, kept, in_test, step_identifier, step_sign, closed_one, takes_atom, is_end, step, run, start, ends_here, In, deepest}
use Rattle.std.proofs.lemmas.Bool.{or_cases}
use Rattle.cw_lemmas.proofs.Truths.{and_first as and_left, and_second as and_right}
use Rattle.std.proofs.lemmas.Bool.{cases_Bool as which}
use Rattle.cw_regex.proofs.Cutting.{identifier_no_blank, parts_blank, parts_sign, parts_byte, parts_identifier, parts_cut}
use Rattle.cw_regex.specs.Scans.{ends_identifier, Apart, Scan}
use Rattle.cw_regex.proofs.Runs.{take_front}
use Rattle.cw_regex.proofs.Fronts.{At, run_append, apart_begins, ends_append, starts_append, front_of, runs, accepted, rejected, stuck_part, apart_before}

blank_no_identifier : (b : ℕ) → is_blank b ≡ true → is_name_byte b ≡ false
blank_no_identifier b e = by (which (is_name_byte b))
  where
    by : (is_name_byte b ≡ true) ⊎ (is_name_byte b ≡ false) → is_name_byte b ≡ false
    by (inl f) = let z = identifier_no_blank b f in absurd (cc)
    by (inr f) = f

last_byte : (s : List ℕ) (b : ℕ) → ends_identifier (s ++ b ∷ []) ≡ is_name_byte b
last_byte [] b = refl
last_byte (a ∷ []) b = refl
last_byte (a ∷ (c ∷ s)) b = last_byte (c ∷ s) b

one_more : (s : List ℕ) (b : ℕ) (t : List ℕ) → (s ++ b ∷ []) ++ t ≡ s ++ b ∷ t
one_more s b t = append_assoc s (b ∷ []) t

apart_last : (s : List ℕ) (b : ℕ) (t : List ℕ) → is_name_byte b ≡ false → Apart (s ++ b ∷ []) t
apart_last s b t e = rw (last_byte s b, e) refl

pub scan_blank : (alone : Bool) (s : List ℕ) (b : ℕ) (t : List ℕ) (q : Phase) (d most : ℕ) → Scan alone s (b ∷ t) q d most → is_blank b ≡ true → 0 < length s →
    (alone ≡ true → q ≡ Right → ⊥) → Scan alone (s ++ b ∷ []) t q d most
scan_blank alone s b t q d most h e l other =
    let nb = blank_no_identifier b e in
    let same : parts (s ++ b ∷ []) ≡ parts s = parts_cut s (b ∷ []) (apart_begins s (b ∷ []) nb) ∙ ap (λ ps. parts s ++ ps) (parts_blank b [] e) ∙ append-nil (parts s) in
    let n = length-append s (b ∷ []) in
    let f = h.few in
    record {
      runs = ap (run alone (start alone) 0) same ∙ h.runs;
      apart = apart_last s b t nb;
      front = starts_append s (b ∷ []) h.front (λ z. let y : length s ≡ 0 = ap length z in absurd (omega arith));
      may = λ a r. absurd (other a r);
      deep = ap (λ ps. max most (deepest d ps)) (sym (parts_blank b t e)) ∙ h.deep ∙ ap (λ l. deepest 0 (parts l)) (sym (one_more s b t));
      within = h.within;
      few = omega arith;
    }

-- as many are open at most as are open now
pub deepest_least : (ps : List Part) (d : ℕ) → d ≤ deepest d ps
deepest_least [] d = omega arith
deepest_least (identifier w ∷ ps) d = deepest_least ps d
deepest_least (sign ParenOpen ∷ ps) d = omega arith
deepest_least (sign ParenClose ∷ ps) d = omega arith
deepest_least (sign Dot ∷ ps) d = deepest_least ps d
deepest_least (sign Bar ∷ ps) d = deepest_least ps d
deepest_least (sign Star ∷ ps) d = deepest_least ps d
deepest_least (sign Plus ∷ ps) d = deepest_least ps d
deepest_least (sign Question ∷ ps) d = deepest_least ps d
deepest_least (sign BracketOpen ∷ ps) d = deepest_least ps d
deepest_least (sign BracketClose ∷ ps) d = deepest_least ps d
deepest_least (sign Bang ∷ ps) d = deepest_least ps d
deepest_least (sign ColonSign ∷ ps) d = deepest_least ps d
deepest_least (sign Comma ∷ ps) d = deepest_least ps d
deepest_least (sign Other ∷ ps) d = deepest_least ps d

same_depth : (d e : ℕ) (r : Phase) (o : Option Phase) → option_map (λ (x : Phase). let y : At = (x, d) in y) o ≡ Some (r, e) → e ≡ d
same_depth d e r None h = absurd (cc)
same_depth d e r (Some x) h =
    let y : At = (x, d) in
    let z : At = (r, e) in
    let k : Some y ≡ Some z = h in
    let p : y ≡ z = cc in
    sym (ap (λ (a : At). a.1) p)

open_depth : (d e : ℕ) (r : Phase) (t : Bool) → (let y : At = (Begin, d + 1) in cond t (Some y) None) ≡ Some (r, e) → e ≡ d + 1
open_depth d e r false h = absurd (cc)
open_depth d e r true h =
    let y : At = (Begin, d + 1) in
    let z : At = (r, e) in
    let k : Some y ≡ Some z = h in
    let p : y ≡ z = cc in
    sym (ap (λ (a : At). a.1) p)

close_depth : (d e : ℕ) (r : Phase) (t : Bool) → cond t (closed_one d) None ≡ Some (r, e) → d ≡ e + 1
close_depth d e r false h = absurd (cc)
close_depth zero e r true h = absurd (cc)
close_depth (suc d) e r true h =
    let y : At = (Whole, d) in
    let z : At = (r, e) in
    let k : Some y ≡ Some z = h in
    let p : y ≡ z = cc in
    let f : d ≡ e = ap (λ (a : At). a.1) p in
    omega arith

deepest_step : (alone : Bool) (q r : Phase) (d e most : ℕ) (m : Sign) (ps : List Part) → step alone q d (sign m) ≡ Some (r, e) → d ≤ most →
    (max (max most e) (deepest e ps) ≡ max most (deepest d (sign m ∷ ps))) × (e ≤ d + 1)
deepest_step alone q r d e most ParenOpen ps h l =
    let f = open_depth d e r (takes_atom q) h in
    let g = deepest_least ps (d + 1) in
    let k : deepest e ps ≡ deepest (d + 1) ps = ap (λ n. deepest n ps) f in
    (omega arith, omega arith)
deepest_step alone q r d e most ParenClose ps h l =
    let f = close_depth d e r (is_end q) h in
    let g = deepest_least ps e in
    let k : deepest (d - 1) ps ≡ deepest e ps = ap (λ n. deepest n ps) (let z : d - 1 ≡ e = omega arith in z) in
    (omega arith, omega arith)
deepest_step alone q r d e most Dot ps h l =
    let f = same_depth d e r (step_sign alone q Dot) h in
    let g : deepest e ps ≡ deepest d ps = ap (λ n. deepest n ps) f in
    (omega arith, omega arith)
deepest_step alone q r d e most Bar ps h l =
    let f = same_depth d e r (step_sign alone q Bar) h in
    let g : deepest e ps ≡ deepest d ps = ap (λ n. deepest n ps) f in
    (omega arith, omega arith)
deepest_step alone q r d e most Star ps h l =
    let f = same_depth d e r (step_sign alone q Star) h in
    let g : deepest e ps ≡ deepest d ps = ap (λ n. deepest n ps) f in
    (omega arith, omega arith)
deepest_step alone q r d e most Plus ps h l =
    let f = same_depth d e r (step_sign alone q Plus) h in
    let g : deepest e ps ≡ deepest d ps = ap (λ n. deepest n ps) f in
    (omega arith, omega arith)
deepest_step alone q r d e most Question ps h l =
    let f = same_depth d e r (step_sign alone q Question) h in
    let g : deepest e ps ≡ deepest d ps = ap (λ n. deepest n ps) f in
    (omega arith, omega arith)
deepest_step alone q r d e most BracketOpen ps h l =
    let f = same_depth d e r (step_sign alone q BracketOpen) h in
    let g : deepest e ps ≡ deepest d ps = ap (λ n. deepest n ps) f in
    (omega arith, omega arith)
deepest_step alone q r d e most BracketClose ps h l =
    let f = same_depth d e r (step_sign alone q BracketClose) h in
    let g : deepest e ps ≡ deepest d ps = ap (λ n. deepest n ps) f in
    (omega arith, omega arith)
deepest_step alone q r d e most Bang ps h l =
    let f = same_depth d e r (step_sign alone q Bang) h in
    let g : deepest e ps ≡ deepest d ps = ap (λ n. deepest n ps) f in
    (omega arith, omega arith)
deepest_step alone q r d e most ColonSign ps h l =
    let f = same_depth d e r (step_sign alone q ColonSign) h in
    let g : deepest e ps ≡ deepest d ps = ap (λ n. deepest n ps) f in
    (omega arith, omega arith)
deepest_step alone q r d e most Comma ps h l =
    let f = same_depth d e r (step_sign alone q Comma) h in
    let g : deepest e ps ≡ deepest d ps = ap (λ n. deepest n ps) f in
    (omega arith, omega arith)
deepest_step alone q r d e most Other ps h l =
    let f = same_depth d e r (step_sign alone q Other) h in
    let g : deepest e ps ≡ deepest d ps = ap (λ n. deepest n ps) f in
    (omega arith, omega arith)

pub scan_sign : (alone : Bool) (s : List ℕ) (b : ℕ) (t : List ℕ) (q r : Phase) (d e most : ℕ) → Scan alone s (b ∷ t) q d most → is_blank b ≡ false → is_name_byte b ≡ false →
    step alone q d (sign (sign_of b)) ≡ Some (r, e) → Scan alone (s ++ b ∷ []) t r e (max most e)
scan_sign alone s b t q r d e most h nb nw goes =
    let same : parts (s ++ b ∷ []) ≡ parts s ++ sign (sign_of b) ∷ [] = parts_cut s (b ∷ []) (apart_begins s (b ∷ []) nw) ∙ ap (λ ps. parts s ++ ps) (parts_sign b [] nb nw) in
    let n = length-append s (b ∷ []) in
    let f = h.few in
    let k = deepest_step alone q r d e most (sign_of b) (parts t) goes h.within in
    let u = h.within in
    let v = k.1 in
    record {
      runs = ap (run alone (start alone) 0) same ∙ run_append alone (parts s) (sign (sign_of b) ∷ []) (start alone) q 0 d h.runs
          ∙ ap (λ (o : Option At). option_and_then (λ (a : At). run alone a.0 a.1 []) o) goes;
      apart = apart_last s b t nw;
      front = starts_append s (b ∷ []) h.front (λ z. nb);
      may = λ a x. ends_append s b [] ∙ nb;
      deep = k.0 ∙ ap (λ ps. max most (deepest d ps)) (sym (parts_sign b t nb nw)) ∙ h.deep ∙ ap (λ l. deepest 0 (parts l)) (sym (one_more s b t));
      within = omega arith;
      few = omega arith;
    }

identifier_ends : (c : ℕ) (w : List ℕ) → list_all is_name_byte (c ∷ w) ≡ true → ends_blank (c ∷ w) ≡ false
identifier_ends c [] a = identifier_no_blank c (and_left (is_name_byte c) true a)
identifier_ends c (b ∷ w) a = identifier_ends b w (and_right (is_name_byte c) (list_all is_name_byte (b ∷ w)) a)

whole_identifier : (c : ℕ) (w : List ℕ) → list_all is_name_byte (c ∷ w) ≡ true → parts (c ∷ w) ≡ identifier (c ∷ w) ∷ []
whole_identifier c w a = ap parts (sym (append-nil (c ∷ w))) ∙ parts_identifier c w [] a refl

-- no identifier goes on there, since one begins
apart_of : (s : List ℕ) (c : ℕ) (t : List ℕ) → is_name_byte c ≡ true → Apart s (c ∷ t) → ends_identifier s ≡ false
apart_of s c t e a = by (ends_identifier s) (subst (λ x. (ends_identifier s && x) ≡ false) e a)
  where
    by : (b : Bool) → (b && true) ≡ false → b ≡ false
    by true h = h
    by false h = refl

pub scan_identifier : (alone : Bool) (s : List ℕ) (c : ℕ) (w t : List ℕ) (q r : Phase) (d most : ℕ) → Scan alone s ((c ∷ w) ++ t) q d most → list_all is_name_byte (c ∷ w) ≡ true →
    begins_identifier t ≡ false → step_identifier q (c ∷ w) ≡ Some r → Scan alone (s ++ c ∷ w) t r d most
scan_identifier alone s c w t q r d most h a n goes =
    let first : is_name_byte c ≡ true = and_left (is_name_byte c) (list_all is_name_byte w) a in
    let free = apart_of s c (w ++ t) first h.apart in
    let same : parts (s ++ c ∷ w) ≡ parts s ++ identifier (c ∷ w) ∷ [] = parts_cut s (c ∷ w) (apart_before s (c ∷ w) free) ∙ ap (λ ps. parts s ++ ps) (whole_identifier c w a) in
    let one : step alone q d (identifier (c ∷ w)) ≡ Some (r, d) = ap (λ (o : Option Phase). option_map (λ (x : Phase). let y : At = (x, d) in y) o) goes in
    let m = length-append s (c ∷ w) in
    let f = h.few in
    record {
      runs = ap (run alone (start alone) 0) same ∙ run_append alone (parts s) (identifier (c ∷ w) ∷ []) (start alone) q 0 d h.runs
          ∙ ap (λ (o : Option At). option_and_then (λ (a : At). run alone a.0 a.1 []) o) one;
      apart = apart_begins (s ++ c ∷ w) t n;
      front = starts_append s (c ∷ w) h.front (λ z. identifier_no_blank c first);
      may = λ x y. ends_append s c w ∙ identifier_ends c w a;
      deep = ap (λ ps. max most (deepest d ps)) (sym (parts_identifier c w t a n)) ∙ h.deep ∙ ap (λ l. deepest 0 (parts l)) (sym (append_assoc s (c ∷ w) t));
      within = h.within;
      few = omega arith;
    }

-- where nothing goes on
abbrev pub Stuck : Bool → List ℕ → List ℕ → Type 0
Stuck alone s [] = In alone s → ⊥
Stuck alone s (b ∷ u) = (rest : List ℕ) → In alone (s ++ b ∷ rest) → ⊥

take_one : (s : List ℕ) (b : ℕ) (u : List ℕ) → take (length s + 1) (s ++ b ∷ u) ≡ s ++ b ∷ []
take_one [] b u = refl
take_one (a ∷ s) b u = let e : length (a ∷ s) + 1 ≡ suc (length s + 1) = omega arith in rw e (ap (λ l. a ∷ l) (take_one s b u))

pub fault_by : (alone : Bool) (s u : List ℕ) → ((rest : List ℕ) × In alone (s ++ rest)) → Stuck alone s u → IsFaultAt (In alone) (s ++ u) (length s)
fault_by alone s [] f k = record {
  within = let n = length-append s [] in omega arith;
  outside = λ x. k (subst (In alone) (append-nil s) x);
  front = (f.0, subst (λ l. In alone (l ++ f.0)) (sym (take_front s [])) f.1);
  stuck = λ l. let n : length (s ++ []) ≡ length s = ap length (append-nil s) in absurd (omega arith);
}
fault_by alone s (b ∷ u) f k = record {
  within = let n = length-append s (b ∷ u) in omega arith;
  outside = λ x. k u x;
  front = (f.0, subst (λ l. In alone (l ++ f.0)) (sym (take_front s (b ∷ u))) f.1);
  stuck = λ l rest x. k rest (subst (In alone) (ap (λ y. y ++ rest) (take_one s b u) ∙ one_more s b rest) x);
}

pub front_scan : (alone : Bool) (s t : List ℕ) (q : Phase) (d most : ℕ) → Scan alone s t q d most → (rest : List ℕ) × In alone (s ++ rest)
front_scan alone s t q d most h = front_of alone s q d h.front h.runs h.may

pub stuck_front : (alone : Bool) (b : ℕ) (t : List ℕ) → is_blank b ≡ true → Stuck alone [] (b ∷ t)
stuck_front alone b t e rest x = let y = runs alone (b ∷ rest) x in let z = y.3 in absurd (cc)

-- blanks alone
blanks_end : (rest : List ℕ) (b : ℕ) → is_blank b ≡ true → parts rest ≡ [] → ends_blank (b ∷ rest) ≡ true
blanks_end [] b e h = e
blanks_end (c ∷ rest) b e h = by (which (is_blank c)) (which (is_name_byte c)) (λ f g. blanks_end rest c f g)
  where
    by : (is_blank c ≡ true) ⊎ (is_blank c ≡ false) → (is_name_byte c ≡ true) ⊎ (is_name_byte c ≡ false) → (is_blank c ≡ true → parts rest ≡ [] → ends_blank (c ∷ rest) ≡ true) →
        ends_blank (b ∷ (c ∷ rest)) ≡ true
    by (inl f) g rec = rec f (sym (parts_blank c rest f) ∙ h)
    by (inr f) (inr g) rec = let z = sym (parts_sign c rest f g) ∙ h in absurd (cc)
    by (inr f) (inl g) rec = none (begins_identifier rest) (parts rest) (sym (parts_byte c rest g) ∙ h)
      where
        none : (m : Bool) (ps : List Part) → grown c m ps ≡ [] → ends_blank (b ∷ (c ∷ rest)) ≡ true
        none false ps z = absurd (cc)
        none true [] z = absurd (cc)
        none true (identifier w ∷ ps) z = absurd (cc)
        none true (sign m ∷ ps) z = absurd (cc)

right_dead : (d : ℕ) (p : Part) → step true Right d p ≡ None
right_dead d (identifier w) = refl
right_dead d (sign Dot) = refl
right_dead d (sign ParenOpen) = refl
right_dead d (sign ParenClose) = refl
right_dead d (sign Bar) = refl
right_dead d (sign Star) = refl
right_dead d (sign Plus) = refl
right_dead d (sign Question) = refl
right_dead d (sign BracketOpen) = refl
right_dead d (sign BracketClose) = refl
right_dead d (sign Bang) = refl
right_dead d (sign ColonSign) = refl
right_dead d (sign Comma) = refl
right_dead d (sign Other) = refl

pub stuck_held : (s : List ℕ) (b : ℕ) (t : List ℕ) (q : Phase) (d most : ℕ) → Scan true s (b ∷ t) q d most → is_blank b ≡ true → q ≡ Right → Stuck true s (b ∷ t)
stuck_held s b t q d most h e r rest x = by (parts rest) refl
  where
    at : run true (start true) 0 (parts s) ≡ Some (Right, d)
    at = subst (λ z. run true (start true) 0 (parts s) ≡ Some (z, d)) r h.runs

    by : (ps : List Part) → parts rest ≡ ps → ⊥
    by [] f = let y = (runs true (s ++ b ∷ rest) x).4 in let z = sym (ends_append s b rest ∙ blanks_end rest b e f) ∙ y in absurd (cc)
    by (p ∷ ps) f = stuck_part true s (b ∷ rest) Right d p ps (apart_begins s (b ∷ rest) (blank_no_identifier b e)) at (parts_blank b rest e ∙ f) (right_dead d p) x

pub stuck_sign : (alone : Bool) (s : List ℕ) (b : ℕ) (t : List ℕ) (q : Phase) (d most : ℕ) → Scan alone s (b ∷ t) q d most → is_blank b ≡ false → is_name_byte b ≡ false →
    step alone q d (sign (sign_of b)) ≡ None → Stuck alone s (b ∷ t)
stuck_sign alone s b t q d most h nb nw e rest x = stuck_part alone s (b ∷ rest) q d (sign (sign_of b)) (parts rest) (apart_begins s (b ∷ rest) nw) h.runs (parts_sign b rest nb nw) e x

-- the first part of a text that begins with an identifier byte, or with two
begins_with : (c : ℕ) (rest : List ℕ) → is_name_byte c ≡ true → (w : List ℕ) × (ps : List Part) × (parts (c ∷ rest) ≡ identifier (c ∷ w) ∷ ps)
begins_with c rest e = by (begins_identifier rest) (parts rest) (parts_byte c rest e)
  where
    by : (m : Bool) (ps : List Part) → parts (c ∷ rest) ≡ grown c m ps → (w : List ℕ) × (qs : List Part) × (parts (c ∷ rest) ≡ identifier (c ∷ w) ∷ qs)
    by false ps f = ([], ps, f)
    by true [] f = ([], [], f)
    by true (identifier w ∷ ps) f = (w, ps, f)
    by true (sign m ∷ ps) f = ([], sign m ∷ ps, f)

begins_two : (c b : ℕ) (rest : List ℕ) → is_name_byte c ≡ true → is_name_byte b ≡ true → (w : List ℕ) × (ps : List Part) × (parts (c ∷ (b ∷ rest)) ≡ identifier (c ∷ (b ∷ w)) ∷ ps)
begins_two c b rest e f = let x = begins_with b rest f in (x.0, x.1, parts_byte c (b ∷ rest) e ∙ ap₂ (grown c) f x.2)

no_start : (c : ℕ) (w : List ℕ) → list_all is_name_byte w ≡ true → is_name (c ∷ w) ≡ false → is_name_start c ≡ false
no_start c w a e = by (is_name_start c) (subst (λ x. (is_name_start c && x) ≡ false) a e)
  where
    by : (b : Bool) → (b && true) ≡ false → b ≡ false
    by true h = h
    by false h = refl

no_name : (c : ℕ) (w : List ℕ) → is_name_start c ≡ false → is_name (c ∷ w) ≡ false
no_name c w e = rw e refl

no_amb : (c : ℕ) (w : List ℕ) → is_name_start c ≡ false → bytes_eq (c ∷ w) amb ≡ false
no_amb c w e = by (which (nat_eq c 97))
  where
    by : (nat_eq c 97 ≡ true) ⊎ (nat_eq c 97 ≡ false) → bytes_eq (c ∷ w) amb ≡ false
    by (inl f) = let z : is_name_start 97 ≡ false = subst (λ x. is_name_start x ≡ false) (eqb-true c 97 f) e in absurd (cc)
    by (inr f) = rw f refl

no_digit : (c : ℕ) (w : List ℕ) → is_digit (c ∷ []) ≡ false → is_digit (c ∷ w) ≡ false
no_digit c [] e = e
no_digit c (b ∷ w) e = refl

no_test : (c : ℕ) (w : List ℕ) → is_name_start c ≡ false → is_digit (c ∷ w) ≡ false → in_test (c ∷ w) ≡ None
no_test c w e f = rw (no_amb c w e, no_name c w e, f) refl

name_none : (w : List ℕ) (r : Phase) → cond (is_name w) (Some r) None ≡ None → is_name w ≡ false
name_none w r h = by (which (is_name w))
  where
    by : (is_name w ≡ true) ⊎ (is_name w ≡ false) → is_name w ≡ false
    by (inl f) = let z : cond (is_name w) (Some r) None ≡ Some r = rw f refl in absurd (cc)
    by (inr f) = f

test_none : (w : List ℕ) → in_test w ≡ None → (bytes_eq w amb ≡ false) × (is_name w ≡ false) × (is_digit w ≡ false)
test_none w h = by (which (bytes_eq w amb)) (which (is_name w)) (which (is_digit w))
  where
    by : (bytes_eq w amb ≡ true) ⊎ (bytes_eq w amb ≡ false) → (is_name w ≡ true) ⊎ (is_name w ≡ false) → (is_digit w ≡ true) ⊎ (is_digit w ≡ false) →
        (bytes_eq w amb ≡ false) × (is_name w ≡ false) × (is_digit w ≡ false)
    by (inl e) f g = let z : in_test w ≡ Some Ambient = rw e refl in absurd (cc)
    by (inr e) (inl f) g = let z : in_test w ≡ Some Descriptor = rw (e, f) refl in absurd (cc)
    by (inr e) (inr f) (inl g) = let z : in_test w ≡ Some Descriptor = rw (e, f, g) refl in absurd (cc)
    by (inr e) (inr f) (inr g) = (e, f, g)

identifier_dead : (q : Phase) (c : ℕ) (w : List ℕ) → list_all is_name_byte w ≡ true → step_identifier q (c ∷ w) ≡ None → kept q c ≡ false → (v : List ℕ) → step_identifier q (c ∷ v) ≡ None
identifier_dead Begin c w a h k v = let z = no_name c v (no_start c w a (name_none (c ∷ w) Label h)) in rw z refl
identifier_dead Label c w a h k v = let z = no_name c v (no_start c w a (name_none (c ∷ w) Label h)) in rw z refl
identifier_dead Whole c w a h k v = let z = no_name c v (no_start c w a (name_none (c ∷ w) Label h)) in rw z refl
identifier_dead Repeated c w a h k v = let z = no_name c v (no_start c w a (name_none (c ∷ w) Label h)) in rw z refl
identifier_dead Test c w a h k v = let z = test_none (c ∷ w) h in no_test c v (no_start c w a z.1) (no_digit c v k)
identifier_dead Negated c w a h k v = let z = test_none (c ∷ w) h in no_test c v (no_start c w a z.1) (no_digit c v k)
identifier_dead Ambient c w a h k v = refl
identifier_dead Descriptor c w a h k v = refl
identifier_dead Colon c w a h k v = let z = no_name c v (no_start c w a (name_none (c ∷ w) Right h)) in rw z refl
identifier_dead Right c w a h k v = refl

pub stuck_identifier : (alone : Bool) (s : List ℕ) (c : ℕ) (w t : List ℕ) (q : Phase) (d most : ℕ) → Scan alone s ((c ∷ w) ++ t) q d most → list_all is_name_byte (c ∷ w) ≡ true →
    step_identifier q (c ∷ w) ≡ None → kept q c ≡ false → Stuck alone s ((c ∷ w) ++ t)
stuck_identifier alone s c w t q d most h a e k rest x =
    let first : is_name_byte c ≡ true = and_left (is_name_byte c) (list_all is_name_byte w) a in
    let free = apart_of s c (w ++ t) first h.apart in
    let b = begins_with c rest first in
    let dead = identifier_dead q c w (and_right (is_name_byte c) (list_all is_name_byte w) a) e k b.0 in
    let stops : step alone q d (identifier (c ∷ b.0)) ≡ None = ap (λ (o : Option Phase). option_map (λ (y : Phase). let z : At = (y, d) in z) o) dead in
    stuck_part alone s (c ∷ rest) q d (identifier (c ∷ b.0)) b.1 (apart_before s (c ∷ rest) free) h.runs b.2 stops x

-- the digit goes on, and what stands right behind it doesn't
digit_start : (c : ℕ) → is_digit (c ∷ []) ≡ true → is_name_start c ≡ false
digit_start c e = ⊎_elim (λ y. ⊎_elim (λ z. zero' (eqb-true c 48 z)) (λ z. one' (eqb-true c 49 z)) (or_cases (nat_eq c 48) (nat_eq c 49) y))
    (λ z. two' (eqb-true c 50 z)) (or_cases (nat_eq c 48 || nat_eq c 49) (nat_eq c 50) e)
  where
    zero' : c ≡ 48 → is_name_start c ≡ false
    zero' f = subst (λ x. is_name_start x ≡ false) (sym f) refl

    one' : c ≡ 49 → is_name_start c ≡ false
    one' f = subst (λ x. is_name_start x ≡ false) (sym f) refl

    two' : c ≡ 50 → is_name_start c ≡ false
    two' f = subst (λ x. is_name_start x ≡ false) (sym f) refl

digit_goes : (c : ℕ) → is_digit (c ∷ []) ≡ true → in_test (c ∷ []) ≡ Some Descriptor
digit_goes c e = let n = digit_start c e in rw (no_amb c [] n, no_name c [] n, e) refl

test_identifier : (q : Phase) (w : List ℕ) → is_test_start q ≡ true → step_identifier q w ≡ in_test w
test_identifier Begin w e = absurd (cc)
test_identifier Label w e = absurd (cc)
test_identifier Whole w e = absurd (cc)
test_identifier Repeated w e = absurd (cc)
test_identifier Test w e = refl
test_identifier Negated w e = refl
test_identifier Ambient w e = absurd (cc)
test_identifier Descriptor w e = absurd (cc)
test_identifier Colon w e = absurd (cc)
test_identifier Right w e = absurd (cc)

-- the front with the digit, and that it is stuck
pub record Later (alone : Bool) (s : List ℕ) (c : ℕ) (w t : List ℕ) : Type 0 where
  pub front : (rest : List ℕ) × In alone ((s ++ c ∷ []) ++ rest)
  pub stuck : Stuck alone (s ++ c ∷ []) (w ++ t)

pub later_identifier : (alone : Bool) (s : List ℕ) (c : ℕ) (w t : List ℕ) (q : Phase) (d most : ℕ) → Scan alone s ((c ∷ w) ++ t) q d most → list_all is_name_byte (c ∷ w) ≡ true →
    step_identifier q (c ∷ w) ≡ None → kept q c ≡ true → Later alone s c w t
later_identifier alone s c [] t q d most h a e k =
    let f = and_left (is_test_start q) (is_digit (c ∷ [])) k in
    let g = and_right (is_test_start q) (is_digit (c ∷ [])) k in
    let z = test_identifier q (c ∷ []) f ∙ digit_goes c g in
    absurd (cc)
later_identifier alone s c (b ∷ w) t q d most h a e k =
    let f = and_left (is_test_start q) (is_digit (c ∷ [])) k in
    let g = and_right (is_test_start q) (is_digit (c ∷ [])) k in
    let first : is_name_byte c ≡ true = and_left (is_name_byte c) (list_all is_name_byte (b ∷ w)) a in
    let second : is_name_byte b ≡ true = and_left (is_name_byte b) (list_all is_name_byte w) (and_right (is_name_byte c) (list_all is_name_byte (b ∷ w)) a) in
    let free = apart_of s c ((b ∷ w) ++ t) first h.apart in
    let only : list_all is_name_byte (c ∷ []) ≡ true = rw first refl in
    let same : parts (s ++ c ∷ []) ≡ parts s ++ identifier (c ∷ []) ∷ [] = parts_cut s (c ∷ []) (apart_before s (c ∷ []) free) ∙ ap (λ ps. parts s ++ ps) (whole_identifier c [] only) in
    let goes : step_identifier q (c ∷ []) ≡ Some Descriptor = test_identifier q (c ∷ []) f ∙ digit_goes c g in
    let one : step alone q d (identifier (c ∷ [])) ≡ Some (Descriptor, d) = ap (λ (o : Option Phase). option_map (λ (y : Phase). let z : At = (y, d) in z) o) goes in
    let runs' : run alone (start alone) 0 (parts (s ++ c ∷ [])) ≡ Some (Descriptor, d) = ap (run alone (start alone) 0) same
    ∙ run_append alone (parts s) (identifier (c ∷ []) ∷ []) (start alone) q 0 d h.runs ∙ ap (λ (o : Option At). option_and_then (λ (y : At). run alone y.0 y.1 []) o) one in
    record {
      front = front_of alone (s ++ c ∷ []) Descriptor d (starts_append s (c ∷ []) h.front (λ z. identifier_no_blank c first)) runs' (λ x y. absurd (cc));
      stuck = λ rest x.
          let two = begins_two c b rest first second in
          let dead : step_identifier q (c ∷ (b ∷ two.0)) ≡ None = test_identifier q (c ∷ (b ∷ two.0)) f ∙ no_test c (b ∷ two.0) (digit_start c g) refl in
          let stops : step alone q d (identifier (c ∷ (b ∷ two.0))) ≡ None = ap (λ (o : Option Phase). option_map (λ (y : Phase). let z : At = (y, d) in z) o) dead in
          stuck_part alone s (c ∷ (b ∷ rest)) q d (identifier (c ∷ (b ∷ two.0))) two.1 (apart_before s (c ∷ (b ∷ rest)) free) h.runs two.2 stops (subst (In alone) (one_more s c (b ∷ rest)) x);
    }

pub scan_ends : (alone : Bool) (s : List ℕ) (q : Phase) (d most : ℕ) → Scan alone s [] q d most → ends_here alone q d ≡ true → ends_blank s ≡ false → In alone s × (deepest 0 (parts s) ≡ most)
scan_ends alone s q d most h e b =
    let k = h.deep in
    let u = h.within in
    let same : deepest 0 (parts (s ++ [])) ≡ deepest 0 (parts s) = ap (λ l. deepest 0 (parts l)) (append-nil s) in
    (accepted alone s q d h.runs e h.front b, omega arith)

pub stuck_end : (alone : Bool) (s : List ℕ) (q : Phase) (d most : ℕ) → Scan alone s [] q d most → (ends_here alone q d && cond (ends_blank s) false true) ≡ false → Stuck alone s []
stuck_end alone s q d most h e x = by (which (ends_here alone q d)) (which (ends_blank s))
  where
    by : (ends_here alone q d ≡ true) ⊎ (ends_here alone q d ≡ false) → (ends_blank s ≡ true) ⊎ (ends_blank s ≡ false) → ⊥
    by (inr f) g = rejected alone s q d h.runs f x
    by (inl f) (inl g) = let z = (runs alone s x).4 in absurd (cc)
    by (inl f) (inr g) = let z : (ends_here alone q d && cond (ends_blank s) false true) ≡ true = rw (f, g) refl in absurd (cc)
