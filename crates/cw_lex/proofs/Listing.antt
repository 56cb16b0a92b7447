-- A source has one list of tokens or one fault.
use Rattle.std.proofs.Common.{◌≡◌, ℕ, ◌<◌, ◌⊎◌, Bool, true, List, [], ◌∷◌, drop, refl, sym, ap, subst, ◌∙◌, arith, inl, inr}
use Rattle.std.proofs.lemmas.Bool.{cases_order, both_ways}
use Rattle.std.specs.List.{sum_by}
use Rattle.cw_lex.specs.declared.tokens.Token.{Token}
use Rattle.cw_lex.specs.declared.front.Defect.{Defect}
use Rattle.cw_lex.specs.declared.front.Front.{Front}
use Rattle.cw_lex.specs.declared.front.Front.TheVariants as front
use Rattle.cw_lex.specs.declared.lexer.LexFault.{LexFault}
use Rattle.cw_lex.specs.declared.lexer.LexFault.TheVariants as fault
use Rattle.cw_lex.specs.Punctuators.{IsLeastMarker, HasNoMarker, is_marker}
use Rattle.cw_lex.specs.Fronts.{front_at, size}
use Rattle.cw_lex.specs.Tokens.{fresh_behind, Stand, tokens_of, AreTokens, fault_at, IsFirstDefect, IsFault}

-- Fronts that stand one after the other up to what is none are determined by the bytes.
record OneEnd (ps qs : List Front) (g h : Bool) (rest other : List ℕ) : Type 0 where
  fronts : ps ≡ qs
  fresh : g ≡ h
  left : rest ≡ other

no_more : (f : Bool) (bs : List ℕ) (p : Front) → size (front_at f bs) ≡ 0 → front_at f bs ≡ p → 0 < size p → ⊥
no_more f bs p none is some = let e : size p ≡ 0 = rw is at none in absurd (omega arith)

one_end : (f : Bool) (bs : List ℕ) (ps qs : List Front) (g h : Bool) (rest other : List ℕ) → Stand f bs ps g rest → size (front_at g rest) ≡ 0 → Stand f bs qs h other
    → size (front_at h other) ≡ 0 → OneEnd ps qs g h rest other
one_end f bs [] [] g h rest other s none t nothing = record { fronts = refl; fresh = s.0 ∙ sym t.0; left = s.1 ∙ sym t.1 }
one_end f bs [] (q ∷ qs) g h rest other s none t nothing = absurd (no_more f bs q (rw (s.0, s.1) at none) t.0 t.1)
one_end f bs (p ∷ ps) [] g h rest other s none t nothing = absurd (no_more f bs p (rw (t.0, t.1) at nothing) s.0 s.1)
one_end f bs (p ∷ ps) (q ∷ qs) g h rest other s none t nothing =
    let same : q ≡ p = sym t.0 ∙ s.0 in
    let behind : Stand (fresh_behind f p bs) (drop (size p) bs) qs h other = subst (λ (x : Front). Stand (fresh_behind f x bs) (drop (size x) bs) qs h other) same t.2 in
    let more = one_end (fresh_behind f p bs) (drop (size p) bs) ps qs g h rest other s.2 none behind nothing in
    record { fronts = ap (λ (x : Front). x ∷ ps) (sym same) ∙ ap (λ (x : List Front). q ∷ x) more.fronts; fresh = more.fresh; left = more.left }

nothing_left : (f : Bool) → size (front_at f []) ≡ 0
unfolding front_at
nothing_left f = refl

defect_left : (f : Bool) (bs : List ℕ) (d : Defect) → front_at f bs ≡ front.Fault d → size (front_at f bs) ≡ 0
defect_left f bs d is = ap size is

pub one_list : (source : List ℕ) (ts us : List Token) → AreTokens source ts → AreTokens source us → ts ≡ us
unfolding AreTokens
one_list source ts us s t =
    let one = one_end true source s.1.0 t.1.0 s.1.1 t.1.1 [] [] s.1.2 (nothing_left s.1.1) t.1.2 (nothing_left t.1.1) in
    s.1.3 ∙ ap (tokens_of 0) one.fronts ∙ sym t.1.3

is_gap : (f : Bool) (d : Defect) → front_at f [] ≡ front.Fault d → ⊥
unfolding front_at
is_gap f d is = absurd cc

no_tokens : (source : List ℕ) (ts : List Token) (f : LexFault) → AreTokens source ts → IsFirstDefect source f → ⊥
unfolding AreTokens
no_tokens source ts f s t =
    let one = one_end true source s.1.0 t.0 s.1.1 t.1 [] t.2 s.1.2 (nothing_left s.1.1) t.4 (defect_left t.1 t.2 t.3 t.5) in
    is_gap t.1 t.3 (subst (λ (x : List ℕ). front_at t.1 x ≡ front.Fault t.3) (sym one.left) t.5)

same_defect : (d e : Defect) → front.Fault d ≡ front.Fault e → d ≡ e
same_defect d e h = cc

one_defect : (source : List ℕ) (f g : LexFault) → IsFirstDefect source f → IsFirstDefect source g → f ≡ g
one_defect source f g s t =
    let one = one_end true source s.0 t.0 s.1 t.1 s.2 t.2 s.4 (defect_left s.1 s.2 s.3 s.5) t.4 (defect_left t.1 t.2 t.3 t.5) in
    let there : front_at s.1 s.2 ≡ front_at t.1 t.2 = ap (λ (x : Bool). front_at x s.2) one.fresh ∙ ap (front_at t.1) one.left in
    let same : s.3 ≡ t.3 = same_defect s.3 t.3 (sym s.5 ∙ there ∙ t.5) in
    s.6 ∙ ap (λ (x : Defect). fault_at x (sum_by size s.0)) same ∙ ap (λ (x : List Front). fault_at t.3 (sum_by size x)) one.fronts ∙ sym t.6

-- a marker, or a defect where there is none
pub told : (source : List ℕ) (f : LexFault) → IsFault source f → ((at : ℕ) × (f ≡ fault.Marker at) × IsLeastMarker source at) ⊎ (HasNoMarker source × IsFirstDefect source f)
unfolding IsFault
told source (fault.Marker at) h = inl (at, refl, h)
told source fault.NoMemory h = absurd h
told source (fault.BadByte at) h = inr h
told source (fault.OpenComment at) h = inr h
told source (fault.OpenString at) h = inr h
told source (fault.Number at) h = inr h
told source (fault.Directive at) h = inr h

no_marker_at : (source : List ℕ) (at : ℕ) → HasNoMarker source → IsLeastMarker source at → ⊥
no_marker_at source at none h = both_ways (is_marker (drop at source)) (none at) h.0

pub never_both : (source : List ℕ) (ts : List Token) (f : LexFault) → AreTokens source ts → IsFault source f → ⊥
unfolding AreTokens
never_both source ts f s t = elim (told source f t) [
  | inl m ↦ no_marker_at source m.0 s.0 m.2
  | inr d ↦ no_tokens source ts f s d.1
]

one_marker : (source : List ℕ) (at by : ℕ) → IsLeastMarker source at → IsLeastMarker source by → at ≡ by
one_marker source at by h g = elim (cases_order at by) [
  | inl e ↦ e
  | inr (inl lt) ↦ absurd (both_ways (is_marker (drop at source)) (g.1 at lt) h.0)
  | inr (inr lt) ↦ absurd (both_ways (is_marker (drop by source)) (h.1 by lt) g.0)
]

pub one_fault : (source : List ℕ) (f g : LexFault) → IsFault source f → IsFault source g → f ≡ g
one_fault source f g s t = elim (told source f s) [
  | inl m ↦ elim (told source g t) [
    | inl n ↦ m.1 ∙ ap (λ (k : ℕ). fault.Marker k) (one_marker source m.0 n.0 m.2 n.2) ∙ sym n.1
    | inr d ↦ absurd (no_marker_at source m.0 d.0 m.2)
  ]
  | inr c ↦ elim (told source g t) [
    | inl n ↦ absurd (no_marker_at source n.0 c.0 n.2)
    | inr d ↦ one_defect source f g c.1 d.1
  ]
]
