-- Files that are read one after the other.
use Rattle.std.proofs.Common.{◌≡◌, ℕ, ◌+◌, ◌<◌, ◌≤◌, List, [], ◌∷◌, ◌++◌, length, map, take, Option, Some, sym, ap, ◌∙◌, subst, arith, append_assoc}
use Rattle.std.specs.Borrow.{Bor}
use Rattle.std.specs.Prelude.{slice_get, option_map}
use Rattle.std.proofs.lemmas.List.{append-nil, take_more}
use Rattle.std.proofs.lemmas.Option.{get_or_from_slice_get, slice_get-get_or, slice_get-map}
use Rattle.cw_core.specs.declared.quantity.Quantity.{Quantity}
use Rattle.cw_io.specs.Causes.{Rose}
use Rattle.cw_io.specs.Files.{FilesByName}
use Rattle.cw_commands.specs.declared.ending.Ending.{Ending}
use Rattle.cw_commands.specs.declared.ending.Ending.TheVariants.{Put, Refused, TooLong, Unread, Unwritten, Memory}
use Rattle.cw_commands.proofs.Collected.{operand_at}
use Rattle.cw_commands.specs.Files.{first, HasBytes, HaveBytes, IsFileFault}

-- one more file behind those that were read
have_more : (files : Option FilesByName) (before : List (List ℕ)) (qs : List Quantity) (ns bs : List (List ℕ)) (q : Quantity) (n b : List ℕ)
    → HaveBytes files before qs ns bs → HasBytes files (first (before ++ bs)) q n b → HaveBytes files before (qs ++ (q ∷ [])) (ns ++ (n ∷ [])) (bs ++ (b ∷ []))
have_more files before [] [] [] q n b h has = (subst (λ x. HasBytes files (first x) q n b) (append-nil before) has, tt)
have_more files before (q' ∷ qs) (n' ∷ ns) (b' ∷ bs) q n b h has =
    (h.0, have_more files (before ++ (b' ∷ [])) qs ns bs q n b h.1 (subst (λ x. HasBytes files (first x) q n b) (sym (append_assoc before (b' ∷ []) bs)) has))
have_more files before [] [] (b' ∷ bs) q n b h has = absurd h
have_more files before [] (n' ∷ ns) bs q n b h has = absurd h
have_more files before (q' ∷ qs) [] bs q n b h has = absurd h
have_more files before (q' ∷ qs) (n' ∷ ns) [] q n b h has = absurd h

-- a name that stands at its operand
pub placed_at : (names : List (Bor (List ℕ))) (k : ℕ) → k < length names → slice_get (map (λ name. name.now) names) k ≡ Some (operand_at names k).now
placed_at names k lt =
    slice_get-map (λ (name : Bor (List ℕ)). name.now) names k
    ∙ ap (λ o. option_map (λ (name : Bor (List ℕ)). name.now) o) (slice_get-get_or names k (record { ref_ptr = (0, 0); now = [] }) lt)

one_more : {A : Type 0} (xs : List A) (k : ℕ) (x : A) → k < length xs → slice_get xs k ≡ Some x → take (k + 1) xs ≡ take k xs ++ (x ∷ [])
one_more xs k x lt e = take_more xs k x lt ∙ ap (λ y. take k xs ++ (y ∷ [])) (get_or_from_slice_get xs k x x e)

pub read_more : (files : Option FilesByName) (qs : List Quantity) (ns bs : List (List ℕ)) (k : ℕ) (q : Quantity) (n b : List ℕ)
    → k < length qs → k < length ns → slice_get qs k ≡ Some q → slice_get ns k ≡ Some n
    → HaveBytes files [] (take k qs) (take k ns) bs → HasBytes files (first bs) q n b
    → HaveBytes files [] (take (k + 1) qs) (take (k + 1) ns) (bs ++ (b ∷ []))
read_more files qs ns bs k q n b ltq ltn eq en h has =
    let more = have_more files [] (take k qs) (take k ns) bs q n b h has in
    let one = subst (λ x. HaveBytes files [] x (take k ns ++ (n ∷ [])) (bs ++ (b ∷ []))) (sym (one_more qs k q ltq eq)) more in
    subst (λ x. HaveBytes files [] (take (k + 1) qs) x (bs ++ (b ∷ []))) (sym (one_more ns k n ltn en)) one

-- a fault that came after others had been read, by the counts before all of them
module _ (counts mid new : List ℕ → ℕ) (later : (other : List ℕ) → counts other ≤ mid other) where
  rose_later : (name : List ℕ) → Rose (mid name) (new name) → Rose (counts name) (new name)
  rose_later name r = omega (arith, later name, r)

  fault_from : {N : Type 0} (files : Option FilesByName) (policy : List ℕ) (q : Quantity) (n : List ℕ) (e : Ending N) → IsFileFault files mid new policy q n e
      → IsFileFault files counts new policy q n e
  fault_from files policy q n (TooLong told) h = h
  fault_from files policy q n (Unread told) h = (h.0, rose_later n h.1)
  fault_from files policy q n (Put reply) h = absurd h
  fault_from files policy q n (Refused cause line) h = absurd h
  fault_from files policy q n Unwritten h = absurd h
  fault_from files policy q n Memory h = absurd h

  pub fault_later : {N : Type 0} (files files' : Option FilesByName) (policy policy' : List ℕ) (q : Quantity) (n n' : List ℕ) (e : Ending N) → files' ≡ files → policy' ≡ policy → n' ≡ n
      → IsFileFault files' mid new policy' q n' e → IsFileFault files counts new policy q n e
  fault_later files files' policy policy' q n n' e same first named h =
      let one = subst (λ x. IsFileFault x mid new policy' q n' e) same h in
      let two = subst (λ x. IsFileFault files mid new x q n' e) first one in
      fault_from files policy q n e (subst (λ x. IsFileFault files mid new policy q x e) named two)

pub has_same : (files files' : Option FilesByName) (policy policy' : List ℕ) (q : Quantity) (n n' b : List ℕ) → files' ≡ files → policy' ≡ policy → n' ≡ n → HasBytes files' policy' q n' b
    → HasBytes files policy q n b
has_same files files' policy policy' q n n' b same first named h =
    let one = subst (λ x. HasBytes x policy' q n' b) same h in
    let two = subst (λ x. HasBytes files x q n' b) first one in
    subst (λ x. HasBytes files policy q x b) named two
