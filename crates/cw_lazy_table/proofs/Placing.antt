-- What stands where a row's key is, and the order of rows.
use Rattle.std.proofs.Common.{◌≡◌, ℕ, List, [], ◌++◌, Bool, true, false, cond, Option, Some, None, option_map, nat_eq, append-nil, refl, sym, ap, ap₂, ◌∙◌}
use Rattle.std.specs.List.{cons_option}
use Rattle.std.specs.declared.cmp.Ordering.{Ordering}
use Rattle.std.specs.declared.cmp.Ordering.TheVariants.{Less, Equal}
use Rattle.std.specs.Ordering.{ordering_then, nat_cmp, bool_cmp}
use Rattle.std.specs.Cmp.{nat_cmp_total, tied_itself}
use Rattle.std.proofs.lemmas.Option.{same_Some}
use Rattle.cw_rights.specs.declared.capabilities.Primitive.{Primitive}
use Rattle.cw_game.specs.declared.spots.Spot.{Spot}
use Rattle.cw_game.specs.declared.spots.Spot.TheVariants.{Visit, Asked, Step, Branch, Label, Open, Close, Call, SplitCall, Exit}
use Rattle.cw_game.specs.Pairs.{Called, call_in}
use Rattle.cw_lazy_table.specs.Kinds as kind
use Rattle.cw_lazy_table.specs.declared.key.Key.{Key}
use Rattle.cw_lazy_table.specs.declared.seam_key.SeamKey.{SeamKey}
use Rattle.cw_lazy_table.specs.SeamKeys.{part_there, put_seam_key, put_return}

first_of : {a b j i : ℕ} → ◌≡◌ {A = Option (ℕ × ℕ)} (Some (a, b)) (Some (j, i)) → a ≡ j
first_of {a} {b} {j} {i} e = ap (λ (x : ℕ × ℕ). x.0) (same_Some (a, b) (j, i) e)

second_of : {a b j i : ℕ} → ◌≡◌ {A = Option (ℕ × ℕ)} (Some (a, b)) (Some (j, i)) → b ≡ i
second_of {a} {b} {j} {i} e = ap (λ (x : ℕ × ℕ). x.1) (same_Some (a, b) (j, i) e)

pub asked_there : (o : Option Spot) (j i : ℕ) → part_there kind.Asked o ≡ Some (j, i) → (a : Primitive) × (o ≡ Some (Asked j i a))
asked_there None j i e = cc
asked_there (Some (Visit a b c)) j i e = cc
asked_there (Some (Asked x y a)) j i e = (a, ap₂ (λ (s t : ℕ). Some (Asked s t a)) (first_of e) (second_of e))
asked_there (Some (Step a)) j i e = cc
asked_there (Some (Branch a b)) j i e = cc
asked_there (Some (Label a b c)) j i e = cc
asked_there (Some (Open a b c)) j i e = cc
asked_there (Some (Close a b c)) j i e = cc
asked_there (Some (Call a b c)) j i e = cc
asked_there (Some (SplitCall a b c)) j i e = cc
asked_there (Some (Exit a)) j i e = cc

pub label_there : (o : Option Spot) (j i : ℕ) → part_there kind.Label o ≡ Some (j, i) → (l : ℕ) × (n : ℕ) × (o ≡ Some (Label j l n)) × (i ≡ 0)
label_there None j i e = cc
label_there (Some (Visit a b c)) j i e = cc
label_there (Some (Asked a b c)) j i e = cc
label_there (Some (Step a)) j i e = cc
label_there (Some (Branch a b)) j i e = cc
label_there (Some (Label x l n)) j i e = (l, n, ap (λ (s : ℕ). Some (Label s l n)) (first_of e), sym (second_of e))
label_there (Some (Open a b c)) j i e = cc
label_there (Some (Close a b c)) j i e = cc
label_there (Some (Call a b c)) j i e = cc
label_there (Some (SplitCall a b c)) j i e = cc
label_there (Some (Exit a)) j i e = cc

pub open_there : (o : Option Spot) (j i : ℕ) → part_there kind.Open o ≡ Some (j, i) → (l : ℕ) × (n : ℕ) × (o ≡ Some (Open j l n)) × (i ≡ 0)
open_there None j i e = cc
open_there (Some (Visit a b c)) j i e = cc
open_there (Some (Asked a b c)) j i e = cc
open_there (Some (Step a)) j i e = cc
open_there (Some (Branch a b)) j i e = cc
open_there (Some (Label a b c)) j i e = cc
open_there (Some (Open x l n)) j i e = (l, n, ap (λ (s : ℕ). Some (Open s l n)) (first_of e), sym (second_of e))
open_there (Some (Close a b c)) j i e = cc
open_there (Some (Call a b c)) j i e = cc
open_there (Some (SplitCall a b c)) j i e = cc
open_there (Some (Exit a)) j i e = cc

pub close_there : (o : Option Spot) (j i : ℕ) → part_there kind.Close o ≡ Some (j, i) → (l : ℕ) × (n : ℕ) × (o ≡ Some (Close j l n)) × (i ≡ 0)
close_there None j i e = cc
close_there (Some (Visit a b c)) j i e = cc
close_there (Some (Asked a b c)) j i e = cc
close_there (Some (Step a)) j i e = cc
close_there (Some (Branch a b)) j i e = cc
close_there (Some (Label a b c)) j i e = cc
close_there (Some (Open a b c)) j i e = cc
close_there (Some (Close x l n)) j i e = (l, n, ap (λ (s : ℕ). Some (Close s l n)) (first_of e), sym (second_of e))
close_there (Some (Call a b c)) j i e = cc
close_there (Some (SplitCall a b c)) j i e = cc
close_there (Some (Exit a)) j i e = cc

pub call_there : (o : Option Spot) (j i : ℕ) → part_there kind.Call o ≡ Some (j, i) → (c : Called) × (call_in o ≡ Some c) × (c.seam ≡ j) × (i ≡ cond c.split 1 0)
call_there None j i e = cc
call_there (Some (Visit a b c)) j i e = cc
call_there (Some (Asked a b c)) j i e = cc
call_there (Some (Step a)) j i e = cc
call_there (Some (Branch a b)) j i e = cc
call_there (Some (Label a b c)) j i e = cc
call_there (Some (Open a b c)) j i e = cc
call_there (Some (Close a b c)) j i e = cc
call_there (Some (Call x f n)) j i e = (record { seam = x; function = f; back = n; split = false }, refl, first_of e, sym (second_of e))
call_there (Some (SplitCall x f n)) j i e = (record { seam = x; function = f; back = n; split = true }, refl, first_of e, sym (second_of e))
call_there (Some (Exit a)) j i e = cc

pub there_call : (o : Option Spot) (c : Called) → call_in o ≡ Some c → part_there kind.Call o ≡ Some (c.seam, cond c.split 1 0)
there_call None c e = cc
there_call (Some (Visit x y z)) c e = cc
there_call (Some (Asked x y z)) c e = cc
there_call (Some (Step x)) c e = cc
there_call (Some (Branch x y)) c e = cc
there_call (Some (Label x y z)) c e = cc
there_call (Some (Open x y z)) c e = cc
there_call (Some (Close x y z)) c e = cc
there_call (Some (Call x f n)) c e = ap (λ (c : Called). Some (c.seam, cond c.split 1 0)) (same_Some _ c e)
there_call (Some (SplitCall x f n)) c e = ap (λ (c : Called). Some (c.seam, cond c.split 1 0)) (same_Some _ c e)
there_call (Some (Exit x)) c e = cc

pub less_first : (a b : Ordering) → a ≡ Less → ordering_then a b ≡ Less
less_first a b e = ap (λ o. ordering_then o b) e

pub then_equal : (a b : Ordering) → a ≡ Equal → ordering_then a b ≡ b
then_equal a b e = ap (λ o. ordering_then o b) e

pub tied_nat : (a b : ℕ) → a ≡ b → nat_cmp a b ≡ Equal
tied_nat a b e = ap (λ (x : ℕ). nat_cmp x b) e ∙ tied_itself nat_cmp_total b

pub not_less_same : (a b : ℕ) → a ≡ b → nat_cmp a b ≡ Less → ⊥
not_less_same a b e l = let w : Less ≡ Equal = sym l ∙ tied_nat a b e in cc

pub split_parts : (s t : Bool) → bool_cmp (nat_eq (cond s 1 0) 1) (nat_eq (cond t 1 0) 1) ≡ nat_cmp (cond s 1 0) (cond t 1 0)
split_parts true true = refl
split_parts true false = refl
split_parts false true = refl
split_parts false false = refl

pub split_is : (s : Bool) → nat_eq (cond s 1 0) 1 ≡ s
split_is true = refl
split_is false = refl

-- what is put
pub put_seam_key_is : (xs : List SeamKey) (o p : Option SeamKey) → o ≡ p → put_seam_key xs o ≡ xs ++ cons_option p []
put_seam_key_is xs None p e = sym (append-nil xs) ∙ ap (λ (o : Option SeamKey). xs ++ cons_option o []) e
put_seam_key_is xs (Some x) p e = ap (λ (o : Option SeamKey). xs ++ cons_option o []) e

pub put_return_is : (xs : List (SeamKey × Key)) (o p : Option SeamKey) (b : Key) → o ≡ p → put_return xs o b ≡ xs ++ cons_option (option_map (λ (x : SeamKey). (x, b)) p) []
put_return_is xs None p b e = sym (append-nil xs) ∙ ap (λ (o : Option SeamKey). xs ++ cons_option (option_map (λ (x : SeamKey). (x, b)) o) []) e
put_return_is xs (Some x) p b e = ap (λ (o : Option SeamKey). xs ++ cons_option (option_map (λ (x : SeamKey). (x, b)) o) []) e
