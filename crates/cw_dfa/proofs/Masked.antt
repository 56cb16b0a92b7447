-- The sets after one, by the masks of the letters.
use Rattle.std.proofs.Common.{◌≡◌, ◌<◌, ◌+◌, ℕ, List, [], ◌∷◌, ◌++◌, Option, Some, None, length, take, get_or, map, refl, sym, ap, ap₂, ◌∙◌, append_assoc, subst}
use Rattle.std.proofs.lemmas.List.{take_more}
use Rattle.std.proofs.lemmas.List.Elements.{filter_map-append}
use Rattle.std.specs.Option.{option_to_list}
use Rattle.std.specs.List.{Contains, filter_map, cons_option}
use Rattle.cw_rights.specs.declared.words.Letter.{Letter}
use Rattle.cw_rights.specs.Policies.{PlainRule}
use Rattle.cw_dfa.specs.Positions.{bad_of}
use Rattle.cw_dfa.specs.Sets.{has}
use Rattle.cw_dfa.specs.Tables.{goes, matching}
use Rattle.cw_dfa.specs.Verdicts.{verdict}
use Rattle.cw_dfa.specs.States.{AreMasks, unless_bad, after_mask, after_masks, steps}
use Rattle.cw_lemmas.proofs.Lists.{from_kept, to_kept}
use Rattle.cw_dfa.proofs.Following.{next_masked}

pub steps_masked : (rules : List PlainRule) (letters : List Letter) (set : ℕ) → filter_map (after_mask rules (goes (bad_of rules) 1 (has set 0) set))
    (map (matching (bad_of rules) 1) letters) ≡ steps rules letters set
steps_masked rules [] set = refl
steps_masked rules (c ∷ rest) set = ap₂ cons_option (ap (λ n. unless_bad (verdict rules 0 1 n) n) (sym (next_masked rules set c))) (steps_masked rules rest set)

one_of : (o : Option ℕ) → option_to_list o ≡ cons_option o []
one_of None = refl
one_of (Some k) = refl

-- the sets after one letter more
pub masks_more : (f : ℕ → Option ℕ) (old so_far now masks : List ℕ) (i : ℕ) (next : Option ℕ) → i < length masks → so_far ≡ old ++ filter_map f (take i masks) → next ≡ f (get_or masks i 0)
    → now ≡ so_far ++ option_to_list next → now ≡ old ++ filter_map f (take (i + 1) masks)
masks_more f old so_far now masks i next lt e is m =
    let mask = get_or masks i 0 in
    let all : filter_map f (take (i + 1) masks) ≡ filter_map f (take i masks) ++ filter_map f (mask ∷ []) = ap (filter_map f) (take_more masks i 0 lt)
    ∙ filter_map-append f (take i masks) (mask ∷ []) in
    let one : option_to_list next ≡ filter_map f (mask ∷ []) = ap option_to_list is ∙ one_of (f mask) in
    m
    ∙ ap (λ (z : List ℕ). z ++ option_to_list next) e
    ∙ ap (λ (z : List ℕ). (old ++ filter_map f (take i masks)) ++ z) one
    ∙ append_assoc old (filter_map f (take i masks)) (filter_map f (mask ∷ []))
    ∙ ap (λ (z : List ℕ). old ++ z) (sym all)

-- what follows a set is told by the members of a list of masks
module _ (f : ℕ → Option ℕ) where
  pub after_same : (xs ys : List ℕ) → ((m : ℕ) → Contains xs m → Contains ys m) → (b : ℕ) → Contains (filter_map f xs) b → Contains (filter_map f ys) b
  after_same xs ys h b c = let r = from_kept f xs b c in to_kept f ys r.0 b (h r.0 r.1) r.2

-- a step by masks leads where a step by the letters leads
module _ (rules : List PlainRule) (letters : List Letter) (masks : List ℕ) (h : AreMasks rules letters masks) where
  abbrev own : List ℕ
  own = map (matching (bad_of rules) 1) letters

  pub to_steps : (k b : ℕ) → Contains (after_masks rules masks k) b → Contains (steps rules letters k) b
  to_steps k b c = subst (λ (l : List ℕ). Contains l b) (steps_masked rules letters k)
      (after_same (after_mask rules (goes (bad_of rules) 1 (has k 0) k)) masks own (λ m x. (h m).0 x) b c)

  pub from_steps : (k b : ℕ) → Contains (steps rules letters k) b → Contains (after_masks rules masks k) b
  from_steps k b c = after_same (after_mask rules (goes (bad_of rules) 1 (has k 0) k)) own masks (λ m x. (h m).1 x) b
      (subst (λ (l : List ℕ). Contains l b) (sym (steps_masked rules letters k)) c)
