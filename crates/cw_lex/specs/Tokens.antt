-- The tokens of a source. Public source: ISO/IEC 9899:2011, 5.1.1.2 (a source is cut into tokens and white space, in order), 6.4.
use Rattle.std.specs.Prelude.{◌≡◌, ℕ, ◌+◌, ◌<◌, ◌==◌, Bool, true, false, ◌||◌, List, [], ◌∷◌, drop, map, take}
use Rattle.std.specs.List.{list_any, sum_by}
use Rattle.cw_lex.specs.declared.tokens.Token.{Token}
use Rattle.cw_lex.specs.declared.front.Defect.{Defect}
use Rattle.cw_lex.specs.declared.front.Defect.TheVariants as defect
use Rattle.cw_lex.specs.declared.front.Front.{Front}
use Rattle.cw_lex.specs.declared.front.Front.TheVariants as front
use Rattle.cw_lex.specs.declared.lexer.LexFault.{LexFault}
use Rattle.cw_lex.specs.declared.lexer.LexFault.TheVariants as fault
use Rattle.cw_lex.specs.Punctuators.{IsLeastMarker, HasNoMarker}
use Rattle.cw_lex.specs.Fronts.{front_at, size}

-- whether no token stands on the line so far, behind a front at the front of the bytes: an LF begins a line
abbrev pub fresh_behind : Bool → Front → List ℕ → Bool
fresh_behind fresh (front.Gap n) bs = fresh || list_any (λ b. b == 10) (take n bs)
fresh_behind fresh (front.Token k n) bs = false
fresh_behind fresh (front.Fault d) bs = false

-- These fronts stand at the front of the bytes, one after the other and none of them a fault; what is left behind them, and whether
-- no token stands on its line so far.
abbrev pub Stand : Bool → List ℕ → List Front → Bool → List ℕ → Type 0
Stand fresh bs [] last rest = (last ≡ fresh) × (rest ≡ bs)
Stand fresh bs (p ∷ ps) last rest = (front_at fresh bs ≡ p) × (0 < size p) × Stand (fresh_behind fresh p bs) (drop (size p) bs) ps last rest

-- the tokens among fronts that stand one after the other from a place on
abbrev pub tokens_of : ℕ → List Front → List Token
tokens_of at [] = []
tokens_of at (front.Gap n ∷ ps) = tokens_of (at + n) ps
tokens_of at (front.Token k n ∷ ps) = record { kind = k; from = at; to = at + n } ∷ tokens_of (at + n) ps
tokens_of at (front.Fault d ∷ ps) = tokens_of at ps

-- The source has no marker, it is fronts one after the other up to its end, and these are its tokens.
unfoldable pub AreTokens : List ℕ → List Token → Type 0
AreTokens source ts = HasNoMarker source × ((ps : List Front) × (fresh : Bool) × Stand true source ps fresh [] × (ts ≡ tokens_of 0 ps))

-- These are made of the tokens of the source, one of each.
abbrev pub AreMadeOf : {A : Type 0} → (Token → A) → List ℕ → List A → Type 0
AreMadeOf made source xs = (ts : List Token) × AreTokens source ts × (xs ≡ map made ts)

abbrev pub fault_at : Defect → ℕ → LexFault
fault_at defect.BadByte at = fault.BadByte at
fault_at defect.OpenComment at = fault.OpenComment at
fault_at defect.OpenString at = fault.OpenString at
fault_at defect.Number at = fault.Number at
fault_at defect.Directive at = fault.Directive at

-- The source is fronts up to a place, and what stands there has this defect.
abbrev pub IsFirstDefect : List ℕ → LexFault → Type 0
IsFirstDefect source f =
    (ps : List Front) × (fresh : Bool) × (rest : List ℕ) × (d : Defect)
    × Stand true source ps fresh rest × (front_at fresh rest ≡ front.Fault d) × (f ≡ fault_at d (sum_by size ps))

-- Why a source has no tokens: the least place where a marker begins; or, where there is none, the first defect.
unfoldable pub IsFault : List ℕ → LexFault → Type 0
IsFault source (fault.Marker at) = IsLeastMarker source at
IsFault source fault.NoMemory = ⊥
IsFault source f = HasNoMarker source × IsFirstDefect source f
