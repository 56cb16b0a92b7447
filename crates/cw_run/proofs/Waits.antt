-- The calls that wait: the program has the innermost last.
use Rattle.std.proofs.Common.{◌≡◌, ◌≢◌, false, ℕ, suc, ◌-◌, ◌<◌, List, [], ◌∷◌, ◌++◌, map, reverse, length, Option, Some, None, option_map, refl, sym, ap, ◌∙◌, subst, arith}
use Rattle.std.specs.Prelude.{slice_get, option_to_list, IfSome}
use Rattle.std.proofs.lemmas.Option.{none-some, same_Some, get_or_from_slice_get}
use Rattle.std.proofs.lemmas.List.{reverse-append}
use Rattle.std.proofs.lemmas.List.Elements.{All-get_or}
use Rattle.std.specs.List.{All}
use Rattle.cw_game.specs.declared.spots.Spot.{Spot}
use Rattle.cw_game.specs.declared.spots.Spot.TheVariants.{Visit, Asked, Step, Branch, Label, Open, Close, Call, SplitCall, Exit}
use Rattle.cw_rights.specs.declared.capabilities.Primitive.{Primitive}
use Rattle.cw_game.specs.Games.{Game, weavers_in}
use Rattle.cw_game.specs.Pairs.{Called, call_in}
use Rattle.cw_positions.specs.Closed.{LeadsWithin}
use Rattle.cw_run.specs.declared.walk.Wait.{Wait as WaitData}
use Rattle.cw_certs.specs.declared.moves.Move.{Move}
use Rattle.cw_certs.specs.declared.moves.Move.TheVariants.{On}
use Rattle.cw_certs.specs.Tables.{Table}
use Rattle.cw_run.specs.Walks.{Here, Wait, wait_of, innermost, first_of, without_first, IsWait, ended, next_of}

map_append : {A B : Type 0} (f : A → B) (xs ys : List A) → map f (xs ++ ys) ≡ map f xs ++ map f ys
map_append f [] ys = refl
map_append f (x ∷ xs) ys = ap (λ l. f x ∷ l) (map_append f xs ys)

pub innermost_push : (xs : List WaitData) (w : WaitData) → innermost (xs ++ w ∷ []) ≡ wait_of w ∷ innermost xs
innermost_push xs w = ap reverse (map_append wait_of xs (w ∷ [])) ∙ reverse-append (map wait_of xs) (wait_of w ∷ [])

-- a list is empty, or has a last item
abbrev Ends : List WaitData → Type 0
Ends xs = (ys : List WaitData) × (w : WaitData) × (xs ≡ ys ++ w ∷ []) × (slice_get xs (length xs - 1) ≡ Some w)

ends : (x : WaitData) (xs : List WaitData) → Ends (x ∷ xs)
ends x [] = ([], x, refl, refl)
ends x (y ∷ ys) =
    let r = ends y ys in
    let one : length (x ∷ (y ∷ ys)) - 1 ≡ suc (length ys) = omega arith in
    let two : length (y ∷ ys) - 1 ≡ length ys = omega arith in
    (x ∷ r.0, r.1, ap (λ l. x ∷ l) r.2, ap (slice_get (x ∷ (y ∷ ys))) one ∙ ap (slice_get (y ∷ ys)) (sym two) ∙ r.3)

pub last_is : (xs : List WaitData) (o : Option WaitData) → o ≡ slice_get xs (length xs - 1) → option_map wait_of o ≡ first_of (innermost xs)
last_is [] o e = ap (option_map wait_of) e
last_is (x ∷ xs) o e =
    let r = ends x xs in
    ap (option_map wait_of) (e ∙ r.3) ∙ sym (ap first_of (ap innermost r.2 ∙ innermost_push r.0 r.1))

pub last_in : (g : Game) (xs : List WaitData) → All (λ w. IsWait g (wait_of w)) xs → (w : Wait) → first_of (innermost xs) ≡ Some w → IsWait g w
last_in g [] all w e = absurd (none-some w e)
last_in g (x ∷ xs) all w e =
    let r = ends x xs in
    let is : wait_of r.1 ≡ w = same_Some (wait_of r.1) w (sym (ap first_of (ap innermost r.2 ∙ innermost_push r.0 r.1)) ∙ e) in
    subst (λ (z : Wait). IsWait g z) is (in_it x xs r.1 all r.3)
  where
    in_it : (x : WaitData) (xs : List WaitData) (w : WaitData) → All (λ w. IsWait g (wait_of w)) (x ∷ xs) → slice_get (x ∷ xs) (length (x ∷ xs) - 1) ≡ Some w → IsWait g (wait_of w)
    in_it x xs w all e =
        let lt : length (x ∷ xs) - 1 < length (x ∷ xs) = omega arith in
        subst (λ (z : WaitData). IsWait g (wait_of z)) (get_or_from_slice_get (x ∷ xs) (length (x ∷ xs) - 1) w x e) (All-get_or (λ (w : WaitData). IsWait g (wait_of w)) (x ∷ xs) (length (x ∷ xs) - 1) x lt all)

pub call_within : (g : Game) (functions p : ℕ) (spot : Spot) (call : Called) → Some spot ≡ slice_get g.spots p → Some call ≡ call_in (Some spot)
    → ((p : ℕ) (s : Spot) → slice_get g.spots p ≡ Some s → LeadsWithin (length g.spots) functions p s) → (call.function < functions) × (call.back < length g.spots)
call_within g functions p (Call j f n) call e c leads =
    subst (λ (k : Called). (k.function < functions) × (k.back < length g.spots)) (sym (same_Some call _ c)) (leads p (Call j f n) (sym e))
call_within g functions p (SplitCall j f n) call e c leads =
    subst (λ (k : Called). (k.function < functions) × (k.back < length g.spots)) (sym (same_Some call _ c)) (leads p (SplitCall j f n) (sym e))
call_within g functions p _ call e c leads = absurd (none-some call (sym c))

pub popped : (old new : List WaitData) (o : Option WaitData) → old ≡ new ++ option_to_list o → (o ≡ None → length old ≡ 0) → innermost new ≡ without_first (innermost old)
popped old new (Some w) e none = sym (ap without_first (ap innermost e ∙ innermost_push new w))
popped [] [] None e none = refl
popped [] (x ∷ new) None e none = cc
popped (x ∷ old) new None e none = absurd (omega (arith, none refl))

pub not_visit : (s : Spot) → ((j i : ℕ) (a : Primitive) → s ≢ Visit j i a) → weavers_in (Some s) ≡ false
not_visit (Visit j i a) n = absurd (n j i a refl)
not_visit _ n = refl

pub last_range : (g : Game) (xs : List WaitData) (o : Option WaitData) → option_map wait_of o ≡ first_of (innermost xs) → All (λ w. IsWait g (wait_of w)) xs
    → IfSome o (λ w. IsWait g (wait_of w))
last_range g xs None e all = tt
last_range g xs (Some w) e all = last_in g xs all (wait_of w) (sym e)

-- a move looks at the innermost call that waits alone
pub first_leads : (g : Game) (t : Table) (h : Here) (waits : List Wait) (spot : Spot) (by : Move) (o : Option Wait) → o ≡ first_of waits
    → next_of g t h (option_to_list o) spot by ≡ next_of g t h waits spot by
first_leads g t h waits spot by o e = ap (λ o. next_of g t h (option_to_list o) spot by) e ∙ on waits spot by
  where
    ended_so : (waits : List Wait) (by : Move) → ended g t h (option_to_list (first_of waits)) by ≡ ended g t h waits by
    ended_so [] by = refl
    ended_so (w ∷ waits) On = refl
    ended_so (w ∷ waits) _ = refl

    on : (waits : List Wait) (spot : Spot) (by : Move) → next_of g t h (option_to_list (first_of waits)) spot by ≡ next_of g t h waits spot by
    on waits (Exit f) by = ended_so waits by
    on waits (Call j f n) by = refl
    on waits (SplitCall j f n) by = refl
    on waits (Asked j i a) by = refl
    on waits (Visit j i a) by = refl
    on waits (Step n) by = refl
    on waits (Branch l r) by = refl
    on waits (Label j l n) by = refl
    on waits (Open j d n) by = refl
    on waits (Close j d n) by = refl
