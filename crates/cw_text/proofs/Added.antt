-- What is read so far, one field more and one line more.
use Rattle.std.proofs.Common.{◌≡◌, ℕ, ◌+◌, ◌<◌, List, [], ◌∷◌, ◌++◌, length, take, drop, get_or, Bool, sym, ap, ap₂, ◌∙◌, subst, arith, add-one}
use Rattle.std.specs.List.{flat_map}
use Rattle.std.proofs.lemmas.List.{take_more, take_all, take-append-drop, map-append, append_assoc, append-nil, length-take-le}
use Rattle.std.proofs.Math.Seq.{drop-cons}
use Rattle.std.proofs.lemmas.List.Elements.{All-append, All-cons, All-nil, Contains-get_or}
use Rattle.std.proofs.lemmas.Grind.{flat_map-append}
use Rattle.cw_certs.specs.declared.moves.Move.{Move}
use Rattle.cw_text.specs.Moves.{move_name}
use Rattle.cw_text.specs.Tapes.{fields, lines, IsIn, AreNames, IsOther, IsFirstOther, IsTape, IsFault}
use Rattle.cw_text.specs.TapeLines.{Adds, HasOther, IsLineFault}
use Rattle.cw_text.specs.declared.fault.TextFault.{TextFault}
use Rattle.cw_text.specs.declared.fault.TextFault.TheVariants as fault

both_names : (play : Bool) (a b : List (List ℕ)) (x y : List Move) → AreNames play a x → AreNames play b y → AreNames play (a ++ b) (x ++ y)
both_names play a b x y p q = record {
  may = All-append (IsIn play) x y p.may q.may;
  named = ap₂ (λ (m n : List (List ℕ)). m ++ n) p.named q.named ∙ sym (map-append move_name x y);
}

one_name : (play : Bool) (field : List ℕ) (by : Move) → IsIn play by → move_name by ≡ field → AreNames play (field ∷ []) (by ∷ [])
one_name play field by may e = record { may = All-cons (IsIn play) by [] may (All-nil (IsIn play)); named = ap (λ (w : List ℕ). w ∷ []) (sym e) }

pub adds_field : (play : Bool) (names : List (List ℕ)) (n : ℕ) (old now new : List Move) (by : Move) (field : List ℕ) → n < length names → field ≡ get_or names n field
    → Adds play (take n names) old now → IsIn play by → move_name by ≡ field → new ≡ now ++ by ∷ [] → Adds play (take (n + 1) names) old new
adds_field play names n old now new by field lt at adds may e is = record {
  added = adds.added ++ by ∷ [];
  added_are = rw (take_more names n field lt, ← at) (both_names play (take n names) (field ∷ []) adds.added (by ∷ []) adds.added_are (one_name play field by may e));
  behind = is ∙ ap (λ (l : List Move). l ++ by ∷ []) adds.behind ∙ append_assoc old adds.added (by ∷ []);
}

pub adds_all : (play : Bool) (names : List (List ℕ)) (n : ℕ) (old new : List Move) → n ≡ length names → Adds play (take n names) old new → Adds play names old new
adds_all play names n old new e adds = subst (λ (l : List (List ℕ)). Adds play l old new) (take_all n names (omega (arith, e))) adds

pub has_other : (play : Bool) (line : List ℕ) (n : ℕ) (field : List ℕ) → n < length (fields line) → field ≡ get_or (fields line) n field → IsOther play field → HasOther play line
has_other play line n field lt at other = record { field = field; has = rw at (Contains-get_or (fields line) n field lt); other = other }

pub line_more : (play : Bool) (text : List ℕ) (n : ℕ) (line : List ℕ) (now new : List Move) → n < length (lines text) → line ≡ get_or (lines text) n line
    → AreNames play (flat_map fields (take n (lines text))) now → Adds play (fields line) now new → AreNames play (flat_map fields (take (n + 1) (lines text))) new
line_more play text n line now new lt at names adds =
    let joined = both_names play (flat_map fields (take n (lines text))) (fields line) now adds.added names adds.added_are in
    let more : take (n + 1) (lines text) ≡ take n (lines text) ++ line ∷ [] = take_more (lines text) n line lt ∙ ap (λ (l : List ℕ). take n (lines text) ++ l ∷ []) (sym at) in
    let e : flat_map fields (take (n + 1) (lines text)) ≡ flat_map fields (take n (lines text)) ++ fields line =
    ap (flat_map fields) more ∙ flat_map-append fields (take n (lines text)) (line ∷ []) ∙ ap (λ (ws : List (List ℕ)). flat_map fields (take n (lines text)) ++ ws) (append-nil (fields line)) in
    rw (e, adds.behind) joined

pub is_tape : (play : Bool) (text : List ℕ) (n : ℕ) (moves : List Move) → n ≡ length (lines text) → AreNames play (flat_map fields (take n (lines text))) moves → IsTape play text moves
is_tape play text n moves e names = subst (λ (l : List (List ℕ)). AreNames play (flat_map fields l) moves) (take_all n (lines text) (omega (arith, e))) names

pub first_other : (play : Bool) (text : List ℕ) (n number : ℕ) (line : List ℕ) (moves : List Move) → n < length (lines text) → line ≡ get_or (lines text) n line → number ≡ n + 1
    → AreNames play (flat_map fields (take n (lines text))) moves → HasOther play line → IsFirstOther play text number
first_other play text n number line moves lt at e names other = record {
  before = take n (lines text);
  line = line;
  after = drop (n + 1) (lines text);
  stands = sym (take-append-drop n (lines text)) ∙ ap (λ (ls : List (List ℕ)). take n (lines text) ++ ls) (drop-cons (lines text) n line lt ∙ ap₂ (λ (l : List ℕ) (ls : List (List ℕ)). l ∷ ls) (sym at) (ap (λ (m : ℕ). drop m (lines text)) (sym (add-one n))));
  counted = let few : length (take n (lines text)) ≡ n = length-take-le n (lines text) (omega (arith, lt)) in omega (arith, e, few);
  moves = moves;
  earlier = names;
  field = other.field;
  has = other.has;
  other = other.other;
}

pub line_fault : (play : Bool) (text : List ℕ) (n number : ℕ) (line : List ℕ) (moves : List Move) → n < length (lines text) → line ≡ get_or (lines text) n line → number ≡ n + 1
    → AreNames play (flat_map fields (take n (lines text))) moves → (told : TextFault) → IsLineFault play line number told → IsFault play text told
line_fault play text n number line moves lt at e names (fault.Line told) h = first_other play text n told line moves lt at (h.0 ∙ e) names h.1
line_fault play text n number line moves lt at e names (fault.Order told) h = h
line_fault play text n number line moves lt at e names (fault.Limit told) h = h
line_fault play text n number line moves lt at e names fault.NoMemory h = h
