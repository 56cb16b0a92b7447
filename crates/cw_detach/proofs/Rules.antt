-- What it says that no rule is broken.
use Rattle.std.proofs.Common.{◌≡◌, ◌≤◌, ℕ, List, Bool, true, false, cond, nat_lt, length, Option, Some, None, refl, arith}
use Rattle.std.specs.Option.{option_or}
use Rattle.std.proofs.lemmas.Bool.Decides.{nat_tests}
use Rattle.cw_syntax.specs.Trees.{File}
use Rattle.cw_core.specs.declared.quantity.Quantity.TheVariants.{SourceBytes, Nesting}
use Rattle.cw_detach.specs.declared.faults.ProcFault.TheVariants.{Limit}
use Rattle.cw_detach.specs.Form.{form_of}
use Rattle.cw_rights.specs.Policies.{PlainPolicy}
use Rattle.cw_detach.specs.Faults.{long, deep, is_shallow, taken, result_taken, name_fault, text_fault, IsFirstFault, IsTextFault, ◌or_else◌}

pub neither : {X : Type 0} (a b : Option X) → None ≡ option_or a b → (None ≡ a) × (None ≡ b)
neither None b e = (refl, e)
neither (Some x) b e = absurd (cc)

unless : {X : Type 0} (b : Bool) (x : X) → None ≡ cond b (Some x) None → b ≡ false
unless true x e = absurd (cc)
unless false x e = refl

unless_not : {X : Type 0} (b : Bool) (x : X) → None ≡ cond b None (Some x) → b ≡ true
unless_not true x e = refl
unless_not false x e = absurd (cc)

not_long : (form : List ℕ) → None ≡ long form → length form ≤ 262144
unfolding long
not_long form e = let t : nat_lt 262144 (length form) ≡ false = unless (nat_lt 262144 (length form)) (Limit SourceBytes) e in grind (arith, nat_tests)

not_deep : (source : List ℕ) (file : File) (detached : List (List ℕ)) → None ≡ deep source file detached → is_shallow source file detached ≡ true
unfolding deep
not_deep source file detached e = unless_not (is_shallow source file detached) (Limit Nesting) e

module _ (source : List ℕ) (file : File) (detached : List (List ℕ)) where
  both_kept : IsTextFault source file detached None → (None ≡ long (form_of source detached file)) × (None ≡ deep source file detached)
  both_kept (tokens, lexed, e) =
      let p = neither ((taken source tokens or_else result_taken source file detached) or_else long (form_of source detached file)) (deep source file detached) e in
      ((neither (taken source tokens or_else result_taken source file detached) (long (form_of source detached file)) p.0).1, p.1)

  pub is_few : IsTextFault source file detached None → length (form_of source detached file) ≤ 262144
  is_few clear = not_long (form_of source detached file) (both_kept clear).0

  pub shallow : IsTextFault source file detached None → is_shallow source file detached ≡ true
  shallow clear = not_deep source file detached (both_kept clear).1

-- a form that no rule forbids is no longer than a source may be
pub form_few : (source : List ℕ) (file : File) (policy : PlainPolicy) → IsFirstFault source file policy None → length (form_of source policy.detached file) ≤ 262144
form_few source file policy (tokens, lexed, e) =
    is_few source file policy.detached (tokens, lexed, (neither (name_fault source file policy) (text_fault source tokens file policy.detached) e).1)
