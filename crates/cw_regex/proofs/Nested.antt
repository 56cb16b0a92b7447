-- The tree of an expression nests no deeper than its parentheses do.
use Rattle.std.proofs.Common.{◌≡◌, ℕ, ◌+◌, ◌≤◌, max, List, [], ◌∷◌, ap, arith}
use Rattle.cw_rights.specs.Trees.{Tree, nothing, never, one, seq, alt, star as star_of, plus as plus_of, maybe as maybe_of, in_seq, in_alt, in_body, nesting}
use Rattle.cw_regex.specs.Grammar.{Expression, only, either, Term, single, then, Factor, plain, star, plus, maybe, Atom, literal, group, depth, depth_term, depth_factor, depth_atom, Spells}
use Rattle.cw_regex.specs.Grammar.{IsExpression}
use Rattle.cw_regex.specs.Meaning.{chain_seq, chain_alt, joined_seq, joined_alt, terms, factors, factor_meaning, atom_meaning, meaning}
use Rattle.cw_regex.specs.Causes.{IsShallow}

-- a part is at most one more than what is in it
pub record Fits (t : Tree) (d : ℕ) : Type 0 where
  pub sequence : in_seq t + nesting t ≤ d
  pub alternative : in_alt t + nesting t ≤ d
  pub body : in_body t + nesting t ≤ d

one_more : (t : Tree) (d : ℕ) → nesting t ≤ d → Fits t (d + 1)
one_more nothing d l = record { sequence = omega arith; alternative = omega arith; body = omega arith }
one_more never d l = record { sequence = omega arith; alternative = omega arith; body = omega arith }
one_more (one x) d l = record { sequence = omega arith; alternative = omega arith; body = omega arith }
one_more (seq r s) d l = record { sequence = omega arith; alternative = omega arith; body = omega arith }
one_more (alt r s) d l = record { sequence = omega arith; alternative = omega arith; body = omega arith }
one_more (star_of r) d l = record { sequence = omega arith; alternative = omega arith; body = omega arith }
one_more (plus_of r) d l = record { sequence = omega arith; alternative = omega arith; body = omega arith }
one_more (maybe_of r) d l = record { sequence = omega arith; alternative = omega arith; body = omega arith }

bare : (n d : ℕ) → n ≤ d → 0 + n ≤ d
bare n d l = omega arith

-- of the factors of a term: what each is in a sequence
pub record Factors (ts : List Tree) (d : ℕ) : Type 0 where
  pub chain : nesting (chain_seq ts) ≤ d
  pub alone : in_alt (joined_seq ts) + nesting (joined_seq ts) ≤ d

pub record Terms (ts : List Tree) (d : ℕ) : Type 0 where
  pub chain : nesting (chain_alt ts) ≤ d
  pub alone : nesting (joined_alt ts) ≤ d

-- and of a factor
pub record Part (t : Tree) (d : ℕ) : Type 0 where
  pub sequence : in_seq t + nesting t ≤ d
  pub alternative : in_alt t + nesting t ≤ d

last_factor : (t : Tree) (d : ℕ) → Part t d → Factors (t ∷ []) d
last_factor t d p = let s = p.sequence in let a = p.alternative in record { chain = omega arith; alone = a }

more_factors : (t : Tree) (ts : List Tree) (m n : ℕ) → Part t m → Factors ts n → Factors (t ∷ ts) (max m n)
more_factors t [] m n p f = let s = p.sequence in let a = p.alternative in record { chain = omega arith; alone = omega arith }
more_factors t (u ∷ ts) m n p f = let s = p.sequence in let c : nesting (chain_seq (u ∷ ts)) ≤ n = f.chain in record { chain = omega arith; alone = omega arith }

last_term : (t : Tree) (d : ℕ) → in_alt t + nesting t ≤ d → Terms (t ∷ []) d
last_term t d a = record { chain = omega arith; alone = omega arith }

more_terms : (t : Tree) (ts : List Tree) (m n : ℕ) → in_alt t + nesting t ≤ m → Terms ts n → Terms (t ∷ ts) (max m n)
more_terms t [] m n a f = record { chain = omega arith; alone = omega arith }
more_terms t (u ∷ ts) m n a f = let c : nesting (chain_alt (u ∷ ts)) ≤ n = f.chain in record { chain = omega arith; alone = omega arith }

module _ (format : ℕ) (labels descriptors : List (List ℕ)) where
  mutual
    nested : (e : Expression) → Terms (terms format labels descriptors e) (depth e)
    nested (only t) = last_term (joined_seq (factors format labels descriptors t)) (depth_term t) (nested_term t).alone
    nested (either t e) = more_terms (joined_seq (factors format labels descriptors t)) (terms format labels descriptors e) (depth_term t) (depth e) (nested_term t).alone (nested e)

    nested_term : (t : Term) → Factors (factors format labels descriptors t) (depth_term t)
    nested_term (single f) = last_factor (factor_meaning format labels descriptors f) (depth_factor f) (nested_factor f)
    nested_term (then f t) = more_factors (factor_meaning format labels descriptors f) (factors format labels descriptors t) (depth_factor f) (depth_term t) (nested_factor f) (nested_term t)

    nested_factor : (f : Factor) → Part (factor_meaning format labels descriptors f) (depth_factor f)
    nested_factor (plain a) = let x = nested_atom a in record { sequence = x.sequence; alternative = x.alternative }
    nested_factor (star a) = let x = bare (in_body (atom_meaning format labels descriptors a) + nesting (atom_meaning format labels descriptors a)) (depth_atom a) (nested_atom a).body in
        record { sequence = x; alternative = x }
    nested_factor (plus a) = let x = bare (in_body (atom_meaning format labels descriptors a) + nesting (atom_meaning format labels descriptors a)) (depth_atom a) (nested_atom a).body in
        record { sequence = x; alternative = x }
    nested_factor (maybe a) = let x = bare (in_body (atom_meaning format labels descriptors a) + nesting (atom_meaning format labels descriptors a)) (depth_atom a) (nested_atom a).body in
        record { sequence = x; alternative = x }

    nested_atom : (a : Atom) → Fits (atom_meaning format labels descriptors a) (depth_atom a)
    nested_atom (literal label tests) = record { sequence = omega arith; alternative = omega arith; body = omega arith }
    nested_atom (group e) = one_more (joined_alt (terms format labels descriptors e)) (depth e) (nested e).alone

  -- and the tree of a shallow text at most 64 deep
  pub nests : (text : List ℕ) (t : Tree) → IsExpression text → IsShallow text → ((e : Expression) → Spells text e → t ≡ meaning format labels descriptors e) → nesting t ≤ 64
  nests text t (e, s) l means =
      let m : nesting t ≡ nesting (meaning format labels descriptors e) = ap nesting (means e s) in
      let n : nesting (meaning format labels descriptors e) ≤ depth e = (nested e).alone in
      let k : depth e ≤ 64 = l e s in
      omega arith
