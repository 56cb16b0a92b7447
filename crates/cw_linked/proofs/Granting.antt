-- A grant leads to the same state wherever the primitive is asked, and as far.
use Rattle.std.proofs.Common.{◌≡◌, ℕ, ◌+◌, ◌<◌, Bool, true, false, cond, List, [], ◌∷◌, ◌++◌, Option, Some, None, length, get_or, refl, sym, ap, ◌∙◌, subst, arith, inl, inr}
use Rattle.std.specs.Prelude.{option_map, slice_get, IfSome}
use Rattle.std.proofs.lemmas.Option.{same_Some, none-some, get_or_from_slice_get, slice_get_read}
use Rattle.std.proofs.lemmas.List.{length_push}
use Rattle.cw_lemmas.proofs.Lists.{get_last}
use Rattle.cw_core.specs.declared.ids.PosId.{PosId}
use Rattle.cw_core.specs.declared.ids.StateId.{StateId}
use Rattle.cw_certs.specs.declared.moves.Move.TheVariants.{Grant}
use Rattle.cw_rights.specs.declared.capabilities.Primitive.{Primitive}
use Rattle.cw_rights.specs.declared.capabilities.Primitive.TheVariants.{Limit, Enter, Split}
use Rattle.cw_game.specs.declared.spots.Spot.{Spot}
use Rattle.cw_game.specs.declared.spots.Spot.TheVariants.{Asked}
use Rattle.cw_game.specs.Games.{Game, Config, past_asked}
use Rattle.cw_positions.specs.Closed.{LeadsWithin}
use Rattle.cw_product.specs.Moves.{IsState, pair_of, numbers, next_in, next_at}
use Rattle.cw_product.specs.MovesAt.{first_move}
use Rattle.cw_linked.specs.declared.grants.Grants.{Grants}
use Rattle.cw_linked.specs.Grants.{asked_in, leap, state_of, number_of, IsGrant, AreGrantsTo, AreGrants, AreGrantsAt, AreAllGrants, IsRowOf}
use Rattle.cw_linked.proofs.Adding.{push_cases}

-- where a grant leads, if a state grants, and the state to which it does
abbrev led : Bool → Config → Option (ℕ × ℕ)
led grants c = option_map pair_of (cond grants (Some c) None)

same_state : (grants : Bool) (c d : Config) → c.state ≡ d.state → state_of (led grants c) ≡ state_of (led grants d)
same_state true c d same = ap (λ (y : ℕ). Some y) same
same_state false c d same = refl

-- the state to which a grant leads doesn't say where the primitive is asked
states_alike : (g : Game) (p q : ℕ) (a : Primitive) → (past_asked g p q a []).state ≡ (past_asked g 0 q a []).state
states_alike g p q (Limit l) = refl
states_alike g p q Enter = refl
states_alike g p q Split = refl

pub grants_alike : (g : Game) (p q : ℕ) (a : Primitive) (o : Option Spot) → asked_in o ≡ Some a → state_of (next_in g p q o Grant) ≡ state_of (next_in g 0 q (Some (Asked 0 0 a)) Grant)
grants_alike g p q a (Some (Asked j i b)) is =
    same_state (g.states.may_grant q b) (past_asked g p q b []) (past_asked g 0 q b []) (states_alike g p q b)
    ∙ ap (λ (y : Primitive). state_of (next_in g 0 q (Some (Asked 0 0 y)) Grant)) (same_Some b a is)
grants_alike g p q a o is = absurd (none-some a is)

-- and how far it leads is told by the primitive
leaps : (g : Game) (p q : ℕ) (a : Primitive) → pair_of (past_asked g p q a []) ≡ (p + leap a, (past_asked g p q a []).state)
leaps g p q (Limit l) = refl
leaps g p q Enter = refl
leaps g p q Split = refl

there : (far : ℕ) (grants : Bool) (c : Config) (state : Option ℕ) → pair_of c ≡ (far, c.state) → state ≡ state_of (led grants c) → option_map (λ (x : ℕ). (far, x)) state ≡ led grants c
there far true c state at is = ap (λ (t : Option ℕ). option_map (λ (x : ℕ). (far, x)) t) is ∙ ap (λ (z : ℕ × ℕ). Some z) (sym at)
there far false c state at is = ap (λ (t : Option ℕ). option_map (λ (x : ℕ). (far, x)) t) is

pub leads_there : (g : Game) (p q : ℕ) (a : Primitive) (o : Option Spot) (state : Option ℕ) → asked_in o ≡ Some a → state ≡ state_of (next_in g 0 q (Some (Asked 0 0 a)) Grant)
    → option_map (λ (x : ℕ). (p + leap a, x)) state ≡ next_in g p q o Grant
leads_there g p q a (Some (Asked j i b)) state is told =
    ap (λ (y : Primitive). option_map (λ (x : ℕ). (p + leap y, x)) state) (sym (same_Some b a is))
    ∙ there (p + leap b) (g.states.may_grant q b) (past_asked g p q b []) state (leaps g p q b)
    (told ∙ sym (grants_alike g p q a (Some (Asked j i b)) is))
leads_there g p q a o state is told = absurd (none-some a is)

-- the position to which it leads is one of the game
pub leap_within : (size functions p : ℕ) (a : Primitive) (o : Option Spot) → asked_in o ≡ Some a → ((s : Spot) → o ≡ Some s → LeadsWithin size functions p s) → p + leap a < size
leap_within size functions p a (Some (Asked j i Split)) is leads = (let h = leads (Asked j i Split) refl in let e = ap leap (same_Some Split a is) in omega (arith, h, e))
leap_within size functions p a (Some (Asked j i Enter)) is leads = (let h = leads (Asked j i Enter) refl in let e = ap leap (same_Some Enter a is) in omega (arith, h, e))
leap_within size functions p a (Some (Asked j i (Limit l))) is leads = (let h = leads (Asked j i (Limit l)) refl in let e = ap leap (same_Some (Limit l) a is) in omega (arith, h, e))
leap_within size functions p a o is leads = absurd (none-some a is)

-- at a position at which a primitive is asked a grant is the first move
pub granted_first : (a : Primitive) (o : Option Spot) → asked_in o ≡ Some a → first_move o ≡ Grant
granted_first a (Some (Asked j i b)) is = refl
granted_first a o is = absurd (none-some a is)

-- what the game answers of a grant tells where the primitive leads
pub is_grant : (g : Game) (p q : ℕ) (a : Primitive) (to : Option (PosId × StateId)) (next : Option StateId) → asked_in (slice_get g.spots p) ≡ Some a
    → numbers to ≡ next_at g p q Grant → number_of next ≡ state_of (numbers to) → IfSome next (λ x. IsState g x.0) → IsGrant g a q next
is_grant g p q a to next asked leads same within =
    record { is = same ∙ ap state_of leads ∙ grants_alike g p q a (slice_get g.spots p) asked; within = within }

-- one state more has its own
pub one_granted : (g : Game) (q : ℕ) (a : Primitive) (old new : List (Option StateId)) (next : Option StateId) → length old ≡ q → new ≡ old ++ next ∷ []
    → IsGrant g a q next → AreGrantsTo g a old → AreGrantsTo g a new
one_granted g q a old new next long pushed own are x other at =
    elim (push_cases old next x other (subst (λ (xs : List (Option StateId)). slice_get xs x ≡ Some other) pushed at)) [
      | inl was ↦ are x other was
      | inr last ↦ subst (IsGrant g a x) last.1 (subst (λ (y : ℕ). IsGrant g a y next) (sym (last.0 ∙ long)) own)
    ]

-- one row more, which is the last
pub one_row_more : (g : Game) (all new : List Grants) (own : Grants) → new ≡ all ++ own ∷ [] → AreAllGrants g all → AreGrants g own → AreAllGrants g new
one_row_more g all new own pushed are is k grants at =
    elim (push_cases all own k grants (subst (λ (xs : List Grants). slice_get xs k ≡ Some grants) pushed at)) [
      | inl was ↦ are k grants was
      | inr last ↦ subst (AreGrants g) last.1 is
    ]

pub last_row : (all new : List Grants) (own : Grants) (a : Primitive) → new ≡ all ++ own ∷ [] → own.prim ≡ a → IsRowOf new a (length all)
last_row all new own a pushed is =
    let longer : length new ≡ length all + 1 = ap (λ (xs : List Grants). length xs) pushed ∙ length_push all own in
    record {
      within = omega (arith, longer);
      prim = λ grants at.
          ap (λ (x : Grants). x.prim) (same_Some grants own (sym at ∙ ap (λ (xs : List Grants). slice_get xs (length all)) pushed ∙ get_last all own)) ∙ is;
    }

-- the row that was looked at and is the primitive's
pub row_read : (all : List Grants) (a : Primitive) (k : ℕ) (own : Grants) → k < length all → own ≡ get_or all k own → own.prim ≡ a → IsRowOf all a k
row_read all a k own within read is = record {
  within = within;
  prim = λ grants at. ap (λ (x : Grants). x.prim) (sym (get_or_from_slice_get all k grants own at) ∙ sym read) ∙ is;
}

-- so a row that is found has the grants of what is asked
pub row_there : (g : Game) (p : ℕ) (all : List Grants) (a : Primitive) (k : ℕ) (own : Grants) → asked_in (slice_get g.spots p) ≡ Some a → AreAllGrants g all → IsRowOf all a k
    → own ≡ get_or all k own → AreGrantsAt g p own
row_there g p all a k own asked are row read =
    let at = slice_get_read all (length all) k own refl row.within read in
    record { asked = asked ∙ ap (λ (y : Primitive). Some y) (sym (row.prim own at)); are = are k own at }

pub grant_read : (g : Game) (p q : ℕ) (grants : Grants) (next : Option StateId) → AreGrantsAt g p grants → q < g.states.count → next ≡ get_or grants.to.items q next → IsGrant g grants.prim q next
grant_read g p q grants next at state read = at.are.are q next (slice_get_read grants.to.items g.states.count q next (sym at.are.long) state read)

-- what the grants of a primitive tell of a pair at which it is asked
pub granted_leads : (g : Game) (p q : ℕ) (a : Primitive) (next : Option StateId) → asked_in (slice_get g.spots p) ≡ Some a → IsGrant g a q next
    → option_map (λ (x : ℕ). (p + leap a, x)) (number_of next) ≡ next_at g p q Grant
granted_leads g p q a next asked own = leads_there g p q a (slice_get g.spots p) (number_of next) asked own.is
