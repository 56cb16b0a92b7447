-- Fronts that stand one after the other.
use Rattle.std.proofs.Common.{◌≡◌, ℕ, ◌+◌, ◌<◌, ◌≤◌, Bool, true, false, List, [], ◌∷◌, ◌++◌, length, drop, drop-drop, take, take-add, subst, ◌-◌, ◌||◌, ◌==◌, zero, suc, refl, sym, ap, ◌∙◌, arith, add-zero, zero-add}
use Rattle.std.specs.List.{sum_by, list_any}
use Rattle.std.proofs.lemmas.List.{append-nil}
use Rattle.std.proofs.lemmas.List.Folds.{list_any-append}
use Rattle.std.proofs.lemmas.List.Sums.{sum_by-append, sum_by-cons}
use Rattle.std.proofs.Math.ListN.{drop_of_length-le}
use Rattle.std.proofs.lemmas.Bool.{ne_eqb}
use Rattle.cw_lex.specs.declared.tokens.TokenKind.{TokenKind}
use Rattle.cw_lex.specs.declared.tokens.Token.{Token}
use Rattle.cw_lex.specs.declared.front.Defect.{Defect}
use Rattle.cw_lex.specs.declared.front.Defect.TheVariants as defect
use Rattle.cw_lex.specs.declared.front.Front.{Front}
use Rattle.cw_lex.specs.declared.front.Front.TheVariants as front
use Rattle.cw_lex.specs.declared.lexer.LexFault.TheVariants as fault
use Rattle.cw_lex.specs.Punctuators.{IsLeastMarker, HasNoMarker}
use Rattle.cw_lex.specs.Fronts.{front_at, size}
use Rattle.cw_lex.specs.Fresh.{fresh_in, fresh_from}
use Rattle.cw_lex.specs.Tokens.{fresh_behind, Stand, tokens_of, AreTokens, fault_at, IsFirstDefect, IsFault}

-- one front more behind them
stand_more : (f : Bool) (bs : List ℕ) (ps : List Front) (g : Bool) (rest : List ℕ) (p : Front) → Stand f bs ps g rest → front_at g rest ≡ p → 0 < size p
    → Stand f bs (ps ++ p ∷ []) (fresh_behind g p rest) (drop (size p) rest)
stand_more f bs [] g rest p h is some = rw (sym h.0, sym h.1) (is, some, (refl, refl))
stand_more f bs (q ∷ ps) g rest p h is some = (h.0, h.1, stand_more (fresh_behind f q bs) (drop (size q) bs) ps g rest p h.2 is some)

-- the tokens of fronts and of those behind them
tokens_more : (at : ℕ) (ps qs : List Front) → tokens_of at (ps ++ qs) ≡ tokens_of at ps ++ tokens_of (at + sum_by size ps) qs
tokens_more at [] qs = rw add-zero refl
tokens_more at (front.Gap n ∷ ps) qs =
    let place : at + n + sum_by size ps ≡ at + sum_by size (front.Gap n ∷ ps) = omega (arith, sum_by-cons size (front.Gap n) ps) in
    tokens_more (at + n) ps qs ∙ ap (λ (k : ℕ). tokens_of (at + n) ps ++ tokens_of k qs) place
tokens_more at (front.Token kind n ∷ ps) qs =
    let place : at + n + sum_by size ps ≡ at + sum_by size (front.Token kind n ∷ ps) = omega (arith, sum_by-cons size (front.Token kind n) ps) in
    let t : Token = record { kind = kind; from = at; to = at + n } in
    ap (λ (z : List Token). t ∷ z) (tokens_more (at + n) ps qs ∙ ap (λ (k : ℕ). tokens_of (at + n) ps ++ tokens_of k qs) place)
tokens_more at (front.Fault d ∷ ps) qs =
    let place : at + sum_by size ps ≡ at + sum_by size (front.Fault d ∷ ps) = omega (arith, sum_by-cons size (front.Fault d) ps) in
    tokens_more at ps qs ∙ ap (λ (k : ℕ). tokens_of at ps ++ tokens_of k qs) place

-- How far the source is read: fronts up to a place, whether no token stands on its line so far, and their tokens.
pub record Reached (source : List ℕ) (at : ℕ) (fresh : Bool) (ts : List Token) : Type 0 where
  pub fronts : List Front
  pub stand : Stand true source fronts fresh (drop at source)
  pub place : at ≡ sum_by size fronts
  pub tokens : ts ≡ tokens_of 0 fronts

behind : (source : List ℕ) (at : ℕ) (fresh : Bool) (ts us : List Token) (p : Front) → Reached source at fresh ts → front_at fresh (drop at source) ≡ p → 0 < size p
    → us ≡ ts ++ tokens_of at (p ∷ []) → Reached source (at + size p) (fresh_behind fresh p (drop at source)) us
behind source at fresh ts us p r is some e = record {
  fronts = r.fronts ++ p ∷ [];
  stand = rw (← drop-drop (size p) at source) (stand_more true source r.fronts fresh (drop at source) p r.stand is some);
  place = rw sum_by-append (let h = r.place in omega (arith, h));
  tokens = e ∙ ap (λ (z : List Token). z ++ tokens_of at (p ∷ [])) r.tokens ∙ ap (λ (k : ℕ). tokens_of 0 r.fronts ++ tokens_of k (p ∷ [])) (rw zero-add r.place)
      ∙ sym (tokens_more 0 r.fronts (p ∷ []));
}

gap_behind : (source : List ℕ) (at : ℕ) (fresh : Bool) (ts : List Token) (n : ℕ) → Reached source at fresh ts → front_at fresh (drop at source) ≡ front.Gap n → 0 < n
    → Reached source (at + n) (fresh_behind fresh (front.Gap n) (drop at source)) ts
gap_behind source at fresh ts n r is some = behind source at fresh ts ts (front.Gap n) r is some (sym (append-nil ts))

token_behind : (source : List ℕ) (at : ℕ) (fresh : Bool) (ts : List Token) (kind : TokenKind) (n : ℕ) → Reached source at fresh ts
    → front_at fresh (drop at source) ≡ front.Token kind n → 0 < n → Reached source (at + n) false (ts ++ record { kind = kind; from = at; to = at + n } ∷ [])
token_behind source at fresh ts kind n r is some = behind source at fresh ts (ts ++ record { kind = kind; from = at; to = at + n } ∷ []) (front.Token kind n) r is some refl

or_assoc : (x y z : Bool) → (x || (y || z)) ≡ ((x || y) || z)
or_assoc true y z = refl
or_assoc false y z = refl

-- a gap behind others, where the last token ends at a place
fresh_further : (source : List ℕ) (last at n : ℕ) → last ≤ at → fresh_behind (fresh_from last at source) (front.Gap n) (drop at source) ≡ fresh_from last (at + n) source
unfolding fresh_in
fresh_further source last at n le =
    let is_lf : ℕ → Bool = λ b. b == 10 in
    let gap : List ℕ = drop last source in
    let count : at + n - last ≡ (at - last) + n = omega (arith, le) in
    let place : last + (at - last) ≡ at = omega (arith, le) in
    let behind_gap : drop (at - last) gap ≡ drop at source = drop-drop (at - last) last source ∙ ap (λ (k : ℕ). drop k source) place in
    sym (ap (λ (k : ℕ). last == 0 || list_any is_lf (take k gap)) count
    ∙ ap (λ (z : List ℕ). last == 0 || list_any is_lf z) (take-add (at - last) n gap)
    ∙ ap (λ (t : Bool). last == 0 || t) (list_any-append is_lf (take (at - last) gap) (take n (drop (at - last) gap)))
    ∙ or_assoc (last == 0) (list_any is_lf (take (at - last) gap)) (list_any is_lf (take n (drop (at - last) gap)))
    ∙ ap (λ (z : List ℕ). (last == 0 || list_any is_lf (take (at - last) gap)) || list_any is_lf (take n z)) behind_gap)

-- no bytes stand between a token and its end
not_fresh : (source : List ℕ) (at : ℕ) → 0 < at → fresh_from at at source ≡ false
unfolding fresh_in
not_fresh source zero some = absurd (omega (arith, some))
not_fresh source (suc k) some = let none : suc k - suc k ≡ 0 = omega arith in rw (none, ne_eqb (suc k) 0 (λ e. omega (arith, e))) refl

-- nothing is read
pub at_start : (source : List ℕ) (ts : List Token) → ts ≡ [] → Reached source 0 (fresh_from 0 0 source) ts
unfolding fresh_in
at_start source ts none = record { fronts = []; stand = (refl, refl); place = refl; tokens = none }

pub gap_further : (source : List ℕ) (last at : ℕ) (ts : List Token) (n : ℕ) → Reached source at (fresh_from last at source) ts
    → front_at (fresh_from last at source) (drop at source) ≡ front.Gap n → 0 < n → last ≤ at → Reached source (at + n) (fresh_from last (at + n) source) ts
gap_further source last at ts n r is some le =
    subst (λ (f : Bool). Reached source (at + n) f ts) (fresh_further source last at n le) (gap_behind source at (fresh_from last at source) ts n r is some)

pub token_further : (source : List ℕ) (last at : ℕ) (ts : List Token) (kind : TokenKind) (n : ℕ) → Reached source at (fresh_from last at source) ts
    → front_at (fresh_from last at source) (drop at source) ≡ front.Token kind n → 0 < n
    → Reached source (at + n) (fresh_from (at + n) (at + n) source) (ts ++ record { kind = kind; from = at; to = at + n } ∷ [])
token_further source last at ts kind n r is some =
    subst (λ (f : Bool). Reached source (at + n) f (ts ++ record { kind = kind; from = at; to = at + n } ∷ [])) (sym (not_fresh source (at + n) (omega (arith, some))))
    (token_behind source at (fresh_from last at source) ts kind n r is some)

pub at_end : (source : List ℕ) (at : ℕ) (fresh : Bool) (ts : List Token) → Reached source at fresh ts → length source ≤ at → HasNoMarker source → AreTokens source ts
unfolding AreTokens
at_end source at fresh ts r le unmarked = let e : drop at source ≡ [] = drop_of_length-le source le in (unmarked, (r.fronts, fresh, rw (← e) r.stand, r.tokens))

pub at_defect : (source : List ℕ) (at : ℕ) (fresh : Bool) (ts : List Token) (d : Defect) → Reached source at fresh ts → front_at fresh (drop at source) ≡ front.Fault d
    → IsFirstDefect source (fault_at d at)
at_defect source at fresh ts d r is = (r.fronts, fresh, drop at source, d, r.stand, is, ap (fault_at d) r.place)

pub is_fault : (source : List ℕ) (d : Defect) (at : ℕ) → HasNoMarker source → IsFirstDefect source (fault_at d at) → IsFault source (fault_at d at)
unfolding IsFault
is_fault source defect.BadByte at unmarked h = (unmarked, h)
is_fault source defect.OpenComment at unmarked h = (unmarked, h)
is_fault source defect.OpenString at unmarked h = (unmarked, h)
is_fault source defect.Number at unmarked h = (unmarked, h)
is_fault source defect.Directive at unmarked h = (unmarked, h)

pub is_marker_fault : (source : List ℕ) (at : ℕ) → IsLeastMarker source at → IsFault source (fault.Marker at)
unfolding IsFault
is_marker_fault source at h = h
