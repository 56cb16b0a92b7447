-- The numbers of an action are those of descriptors and of functions that there are.
use Rattle.std.proofs.Common.{◌≡◌, ℕ, zero, ◌<◌, List, Bool, true, false, cond, nat_lt, Option, Some, None, length, refl, sym, ap, ◌∙◌, arith}
use Rattle.std.specs.Prelude.{position, codes}
use Rattle.std.specs.List.{position_or_len}
use Rattle.std.specs.Str.{bytes_eq}
use Rattle.std.proofs.lemmas.Bool.Decides.{nat_tests}
use Rattle.cw_syntax.specs.declared.program.Name.{Name}
use Rattle.cw_syntax.specs.declared.program.Op.TheVariants.{Name as NameOp, Number, Call as CallOp, Assign}
use Rattle.cw_syntax.specs.Names.{text, number_in}
use Rattle.cw_syntax.specs.Trees.{Tree, Node, Trees, none, more}
use Rattle.cw_syntax.specs.Plans.{Scene, Action, Computes, Opens, Closes, Invokes, action_of, call_action, assigned_action, descriptor_of, closed_by, closes_if, opens_if}

pub index_within : {X : Type 0} (p : X → Bool) (xs : List X) (n : ℕ) → position p xs ≡ Some n → n < length xs
index_within p xs n e = by (nat_lt (position_or_len p xs) (length xs)) refl
  where
    by : (t : Bool) → nat_lt (position_or_len p xs) (length xs) ≡ t → n < length xs
    by true t =
        let s : Some (position_or_len p xs) ≡ Some n = sym (ap (λ b. cond b (Some (position_or_len p xs)) None) t) ∙ e in
        let m : position_or_len p xs ≡ n = cc in
        grind (arith, nat_tests)
    by false t = let z : None ≡ Some n = sym (ap (λ b. cond b (Some (position_or_len p xs)) None) t) ∙ e in absurd (cc)

abbrev pub IsWithin : Scene → Action → Type 0
IsWithin s Computes = Unit {0}
IsWithin s (Opens d) = d < length s.names.descriptors
IsWithin s (Closes d) = d < length s.names.descriptors
IsWithin s (Invokes callee) = callee.number < length s.functions

module _ (s : Scene) where
  opens_within : (o : Option ℕ) → ((n : ℕ) → o ≡ Some n → n < length s.names.descriptors) → IsWithin s (opens_if o)
  opens_within None h = tt
  opens_within (Some d) h = h d refl

  closes_within : (o : Option ℕ) → ((n : ℕ) → o ≡ Some n → n < length s.names.descriptors) → IsWithin s (closes_if o)
  closes_within None h = tt
  closes_within (Some d) h = h d refl

  named_within : (name : List ℕ) (n : ℕ) → number_in s.names.descriptors name ≡ Some n → n < length s.names.descriptors
  named_within name n e = index_within (bytes_eq name) s.names.descriptors n e

  descriptor_within : (t : Tree) (n : ℕ) → descriptor_of s t ≡ Some n → n < length s.names.descriptors
  descriptor_within (Node NameOp parts from to) n e = named_within _ n e
  descriptor_within (Node (Number k) parts from to) n e = named_within _ n e
  descriptor_within (Node _ parts from to) n e = let z : None ≡ Some n = e in absurd (cc)

  closing_within : (b : Bool) (t : Tree) → IsWithin s (cond b (closes_if (descriptor_of s t)) Computes)
  closing_within true t = closes_within (descriptor_of s t) (descriptor_within t)
  closing_within false t = tt

  closed_within : (name : List ℕ) (ts : Trees) → IsWithin s (closed_by s name ts)
  closed_within name (more t none) = closing_within (bytes_eq name (codes "close")) t
  closed_within name none = tt
  closed_within name (more t (more u ts)) = tt

  call_within : (name : List ℕ) (ts : Trees) (o : Option ℕ) → ((n : ℕ) → o ≡ Some n → n < length s.functions) → IsWithin s (call_action s name ts o)
  call_within name ts (Some f) h = h f refl
  call_within name ts None h = closed_within name ts

  assigned_within : (x : Name) (name : List ℕ) (o : Option ℕ) → ((n : ℕ) → o ≡ Some n → n < length s.functions) → IsWithin s (assigned_action s x name o)
  assigned_within x name (Some f) h = h f refl
  assigned_within x name None h = opens_within (number_in s.names.descriptors (text s.source x)) (named_within (text s.source x))

  pub acts_within : (t : Tree) → IsWithin s (action_of s t)
  acts_within (Node (CallOp f) arguments from to) = call_within (text s.source f) arguments (number_in s.functions (text s.source f)) (index_within (bytes_eq (text s.source f)) s.functions)
  acts_within (Node (Assign zero) (more (Node NameOp parts at end) (more (Node (CallOp f) arguments at' end') none)) from to) =
      assigned_within (record { from = at; to = end }) (text s.source f) (number_in s.functions (text s.source f)) (index_within (bytes_eq (text s.source f)) s.functions)
  acts_within _ = tt
