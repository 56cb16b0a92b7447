-- What a jump drops of a frame, item by item.
use Rattle.std.proofs.Common.{◌≡◌, ◌≢◌, ◌⊎◌, inl, inr, ℕ, List, [], ◌∷◌, ◌++◌, Some, drop, map, length, Bor, refl, sym, ap, ◌∙◌, arith}
use Rattle.std.proofs.lemmas.List.{append_assoc, map-append}
use Rattle.cw_syntax.specs.Plans.{Scene}
use Rattle.cw_syntax.specs.declared.program.Stmt.{Stmt}
use Rattle.cw_syntax.specs.Frames.{End, Frame, broken, continued, ended}
use Rattle.cw_boards.specs.declared.items.Item.{Item as Held}
use Rattle.cw_boards.specs.declared.items.Item.TheVariants.{Entry, Todo, Nothing, Init, Test, After, LoopEnd, End as HeldEnd}
use Rattle.cw_boards.specs.Held.{item_of}
use Rattle.std.specs.Prelude.{Bool}

-- nothing was taken from the front
pub none_left : {A : Type 0} (xs ys : List A) → xs ≡ ys → ys ≡ drop 1 xs → xs ≡ []
none_left [] ys e f = refl
none_left (x ∷ xs) ys e f = let z : length (x ∷ xs) ≡ length xs = ap length e ∙ ap length f in absurd (omega arith)

module _ (s : Scene) where
  pub broken_other : (i : Held) (rest : Frame) → (i ≢ LoopEnd) → broken (item_of s i ∷ rest) ≡ broken rest
  broken_other (Entry f j) rest h = refl
  broken_other (Todo st j) rest h = refl
  broken_other Nothing rest h = refl
  broken_other (Init at) rest h = refl
  broken_other (Test at d t b j) rest h = refl
  broken_other (After at) rest h = refl
  broken_other LoopEnd rest h = absurd (h refl)
  broken_other (HeldEnd f) rest h = refl

  pub continued_other : (i : Held) (rest : Frame) → ((at : ℕ) (d t : Bool) (b : Bor Stmt) (j : ℕ) → i ≢ Test at d t b j) → ((at : ℕ) → i ≢ After at) → continued (item_of s i ∷ rest) ≡ continued rest
  continued_other (Entry f j) rest h k = refl
  continued_other (Todo st j) rest h k = refl
  continued_other Nothing rest h k = refl
  continued_other (Init at) rest h k = refl
  continued_other (Test at d t b j) rest h k = absurd (h at d t b j refl)
  continued_other (After at) rest h k = absurd (k at refl)
  continued_other LoopEnd rest h k = refl
  continued_other (HeldEnd f) rest h k = refl

  pub continued_stays : (i : Held) (rest : Frame) → ((x : ℕ) × (x' : Bool) × (x'' : Bool) × (x3 : Bor Stmt) × (x4 : ℕ) × (i ≡ Test x x' x'' x3 x4)) ⊎ ((x : ℕ) × (i ≡ After x))
      → Some (item_of s i ∷ rest) ≡ continued (item_of s i ∷ rest)
  continued_stays i rest (inl w) = ap (λ k. Some (item_of s k ∷ rest)) w.5 ∙ sym (ap (λ k. continued (item_of s k ∷ rest)) w.5)
  continued_stays i rest (inr w) = ap (λ k. Some (item_of s k ∷ rest)) w.1 ∙ sym (ap (λ k. continued (item_of s k ∷ rest)) w.1)

  pub ended_other : (i : Held) (rest : Frame) → ((f : ℕ) → i ≢ HeldEnd f) → ended (item_of s i ∷ rest) ≡ ended rest
  ended_other (Entry f j) rest h = refl
  ended_other (Todo st j) rest h = refl
  ended_other Nothing rest h = refl
  ended_other (Init at) rest h = refl
  ended_other (Test at d t b j) rest h = refl
  ended_other (After at) rest h = refl
  ended_other LoopEnd rest h = refl
  ended_other (HeldEnd f) rest h = absurd (h f refl)

-- one end more
pub end_more : (s : Scene) (ends rest : List Held) (f : ℕ) → map (item_of s) (ends ++ HeldEnd f ∷ []) ++ ended (map (item_of s) rest) ≡ map (item_of s) ends ++ ended (End f ∷ map (item_of s) rest)
end_more s ends rest f = ap (λ l. l ++ ended (map (item_of s) rest)) (map-append (item_of s) ends (HeldEnd f ∷ [])) ∙ append_assoc (map (item_of s) ends) (End f ∷ []) (ended (map (item_of s) rest))
