-- The depth of an expression is the most parentheses that are open at once.
use Rattle.std.proofs.Common.{◌≡◌, ℕ, ◌+◌, ◌-◌, ◌≤◌, ◌<◌, max, List, [], ◌∷◌, Bool, true, false, Option, Some, None, refl, ap, ◌∙◌, arith}
use Rattle.cw_regex.specs.declared.text.Sign.TheVariants.{ParenClose, Bar, Star, Plus, Question}
use Rattle.cw_regex.specs.Parts.{Part, sign, parts}
use Rattle.cw_regex.specs.Grammar.{Name, Subject, ambient, holds, TestForm, Expression, only, either, Term, single, then, Factor, plain, star, plus, maybe, Atom, literal, group}
use Rattle.cw_regex.specs.Grammar.{spelled_subject, spelled_if, spelled_test, spelled_more, spelled_tests, spelled_label, spelled, spelled_term, spelled_factor, spelled_atom, depth}
use Rattle.cw_regex.specs.Grammar.{depth_term, depth_factor, depth_atom, Spells}
use Rattle.cw_regex.specs.Machine.{deepest}
use Rattle.cw_regex.specs.Causes.{IsShallow, IsDeep}
use Rattle.cw_regex.proofs.Scanned.{deepest_least}

in_subject : (d : ℕ) (s : Subject) (rest : List Part) → deepest d (spelled_subject s rest) ≡ deepest d rest
in_subject d ambient rest = refl
in_subject d (holds n r) rest = refl

in_test : (d : ℕ) (t : TestForm) (rest : List Part) → deepest d (spelled_test t rest) ≡ deepest d rest
in_test d t rest = by t.negated
  where
    by : (n : Bool) → deepest d (spelled_if n t.what rest) ≡ deepest d rest
    by true = in_subject d t.what rest
    by false = in_subject d t.what rest

in_more : (d : ℕ) (ts : List TestForm) (rest : List Part) → deepest d (spelled_more ts rest) ≡ deepest d rest
in_more d [] rest = refl
in_more d (t ∷ ts) rest = in_test d t (spelled_more ts rest) ∙ in_more d ts rest

in_tests : (d : ℕ) (ts : List TestForm) (rest : List Part) → deepest d (spelled_tests ts rest) ≡ deepest d rest
in_tests d [] rest = refl
in_tests d (t ∷ ts) rest = in_test d t (spelled_more ts rest) ∙ in_more d ts rest

in_label : (d : ℕ) (label : Option Name) (rest : List Part) → deepest d (spelled_label label rest) ≡ deepest d rest
in_label d None rest = refl
in_label d (Some n) rest = refl

joined : (d m n x y z : ℕ) → x ≡ max (d + m) y → y ≡ max (d + n) z → x ≡ max (d + max m n) z
joined d m n x y z a b = omega arith

closed : (d m x z : ℕ) → x ≡ max (d + 1 + m) (max (d + 1) z) → d ≤ z → max d x ≡ max (d + (m + 1)) z
closed d m x z a b = omega arith

flat : (d x z : ℕ) → x ≡ z → d ≤ z → x ≡ max (d + 0) z
flat d x z a b = omega arith

mutual
  pub in_expression : (d : ℕ) (e : Expression) (rest : List Part) → deepest d (spelled e rest) ≡ max (d + depth e) (deepest d rest)
  in_expression d (only t) rest = in_term d t rest
  in_expression d (either t e) rest = joined d (depth_term t) (depth e) (deepest d (spelled_term t (sign Bar ∷ spelled e rest))) (deepest d (spelled e rest)) (deepest d rest)
      (in_term d t (sign Bar ∷ spelled e rest)) (in_expression d e rest)

  in_term : (d : ℕ) (t : Term) (rest : List Part) → deepest d (spelled_term t rest) ≡ max (d + depth_term t) (deepest d rest)
  in_term d (single f) rest = in_factor d f rest
  in_term d (then f t) rest = joined d (depth_factor f) (depth_term t) (deepest d (spelled_factor f (spelled_term t rest))) (deepest d (spelled_term t rest)) (deepest d rest)
      (in_factor d f (spelled_term t rest)) (in_term d t rest)

  in_factor : (d : ℕ) (f : Factor) (rest : List Part) → deepest d (spelled_factor f rest) ≡ max (d + depth_factor f) (deepest d rest)
  in_factor d (plain a) rest = in_atom d a rest
  in_factor d (star a) rest = in_atom d a (sign Star ∷ rest)
  in_factor d (plus a) rest = in_atom d a (sign Plus ∷ rest)
  in_factor d (maybe a) rest = in_atom d a (sign Question ∷ rest)

  in_atom : (d : ℕ) (a : Atom) (rest : List Part) → deepest d (spelled_atom a rest) ≡ max (d + depth_atom a) (deepest d rest)
  in_atom d (literal label ts) rest = flat d (deepest d (spelled_label label (spelled_tests ts rest))) (deepest d rest) (in_label d label (spelled_tests ts rest)
      ∙ in_tests d ts rest) (deepest_least rest d)
  in_atom d (group e) rest =
      let k : d + 1 - 1 ≡ d = omega arith in
      let m = in_expression (d + 1) e (sign ParenClose ∷ rest) ∙ ap (λ n. max (d + 1 + depth e) (max (d + 1) (deepest n rest))) k in
      closed d (depth e) (deepest (d + 1) (spelled e (sign ParenClose ∷ rest))) (deepest d rest) m (deepest_least rest d)

pub depth_is : (text : List ℕ) (e : Expression) → Spells text e → deepest 0 (parts text) ≡ depth e
depth_is text e s = let k = ap (deepest 0) s.parts ∙ in_expression 0 e [] in omega arith

pub shallow : (text : List ℕ) (n : ℕ) → deepest 0 (parts text) ≡ n → n ≤ 64 → IsShallow text
shallow text n h l e s = let k = depth_is text e s in omega arith

pub deep : (text : List ℕ) (n : ℕ) → deepest 0 (parts text) ≡ n → 64 < n → IsDeep text
deep text n h l e s = let k = depth_is text e s in omega arith
