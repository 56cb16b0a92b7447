-- Working definitions: what may follow, whatever the letter is, and what reads a letter.
use Rattle.std.specs.Prelude.{◌≡◌, ℕ, ◌+◌, ◌^◌, List, [], ◌∷◌, Bool, true, false, ◌&&◌, ◌||◌, cond, ◌<◌, slice_index, nat_eq, zero, suc, Option, Some, None}
use Rattle.std.specs.Int.RustNames.{bit_or, bit_and}
use Rattle.cw_core.specs.Quantities.{limit_of}
use Rattle.cw_core.specs.declared.quantity.Quantity.TheVariants.{RulePositions}
use Rattle.cw_rights.specs.declared.capabilities.Caps.{Caps}
use Rattle.cw_rights.specs.declared.words.Letter.{Letter}
use Rattle.cw_rights.specs.Words.{fits, label_fits, tests_hold}
use Rattle.cw_rights.specs.Trees.{Literal, Tree, nothing, never, one, seq, alt, star, plus, maybe, count}
use Rattle.cw_rights.specs.Policies.{PlainRule}
use Rattle.cw_dfa.specs.Positions.{bad_of}
use Rattle.cw_dfa.specs.Sets.{has, skips, ends}
use Rattle.cw_dfa.specs.declared.matching.Sought.{Sought}
use Rattle.cw_dfa.specs.declared.matching.Sought.TheVariants.{Label, Tests}

-- the literals that may stand after those of the set; `enter`: those that may stand first, too
abbrev pub goes : Tree → ℕ → Bool → ℕ → ℕ
goes nothing k enter set = 0
goes never k enter set = 0
goes (one l) k enter set = cond enter (2 ^ k) 0
goes (seq r s) k enter set = bit_or (goes r k enter set) (goes s (k + count r) ((enter && skips r) || ends r k set) set)
goes (alt r s) k enter set = bit_or (goes r k enter set) (goes s (k + count r) enter set)
goes (star r) k enter set = goes r k (enter || ends r k set) set
goes (plus r) k enter set = goes r k (enter || ends r k set) set
goes (maybe r) k enter set = goes r k enter set

-- the literals that may stand first, and those that may stand last
abbrev pub firsts : Tree → ℕ → ℕ
firsts nothing k = 0
firsts never k = 0
firsts (one l) k = 2 ^ k
firsts (seq r s) k = bit_or (firsts r k) (cond (skips r) (firsts s (k + count r)) 0)
firsts (alt r s) k = bit_or (firsts r k) (firsts s (k + count r))
firsts (star r) k = firsts r k
firsts (plus r) k = firsts r k
firsts (maybe r) k = firsts r k

abbrev pub lasts : Tree → ℕ → ℕ
lasts nothing k = 0
lasts never k = 0
lasts (one l) k = 2 ^ k
lasts (seq r s) k = bit_or (cond (skips s) (lasts r k) 0) (lasts s (k + count r))
lasts (alt r s) k = bit_or (lasts r k) (lasts s (k + count r))
lasts (star r) k = lasts r k
lasts (plus r) k = lasts r k
lasts (maybe r) k = lasts r k

-- a link from each of these literals to each of those, at literal p
abbrev pub linked : ℕ → ℕ → ℕ → ℕ
linked from to p = cond (has from p) to 0

-- the literals that may stand right after literal p
abbrev pub followers : Tree → ℕ → ℕ → ℕ
followers nothing k p = 0
followers never k p = 0
followers (one l) k p = 0
followers (seq r s) k p = bit_or (bit_or (followers r k p) (followers s (k + count r) p)) (linked (lasts r k) (firsts s (k + count r)) p)
followers (alt r s) k p = bit_or (followers r k p) (followers s (k + count r) p)
followers (star r) k p = bit_or (followers r k p) (linked (lasts r k) (firsts r k) p)
followers (plus r) k p = bit_or (followers r k p) (linked (lasts r k) (firsts r k) p)
followers (maybe r) k p = followers r k p

-- a row gains, at each literal, those that follow it in the expression
abbrev pub Gains : Tree → ℕ → List ℕ → List ℕ → Type 0
Gains r k old new = (p : ℕ) → p < limit_of RulePositions → slice_index new p ≡ bit_or (slice_index old p) (followers r k p)

-- the literals that a test of literals picks
abbrev pub picked : (Literal → Bool) → Tree → ℕ → ℕ
picked f nothing k = 0
picked f never k = 0
picked f (one l) k = cond (f l) (2 ^ k) 0
picked f (seq r s) k = bit_or (picked f r k) (picked f s (k + count r))
picked f (alt r s) k = bit_or (picked f r k) (picked f s (k + count r))
picked f (star r) k = picked f r k
picked f (plus r) k = picked f r k
picked f (maybe r) k = picked f r k

-- the literals that match a letter
abbrev pub matching : Tree → ℕ → Letter → ℕ
matching r k c = picked (λ l. fits l c) r k

-- the literals of all rules that name a label or none, and those whose tests hold
abbrev pub named : List PlainRule → ℕ → ℕ
named rules label = picked (λ l. label_fits l.label label) (bad_of rules) 1

abbrev pub tested : List PlainRule → Caps → ℕ
tested rules caps = picked (λ l. tests_hold caps l.tests) (bad_of rules) 1

-- what is asked of a literal
abbrev pub picks : Sought → Literal → Bool
picks (Label label) l = label_fits l.label label
picks (Tests caps) l = tests_hold caps l.tests

-- whether two sets have a member in common
abbrev pub meets : ℕ → ℕ → Bool
meets set mask = cond (nat_eq (bit_and set mask) 0) false true

-- the union of what stands in a table at the members below n
unfoldable pub unite : (ℕ → ℕ) → ℕ → ℕ → ℕ
unite f zero set = 0
unite f (suc n) set = bit_or (unite f n set) (cond (has set n) (f n) 0)

-- the last literals of each rule, and the first of these sets that meets a set, numbered from n
abbrev pub lasts_of : List PlainRule → ℕ → List ℕ
lasts_of [] k = []
lasts_of (r ∷ rest) k = lasts r.bad k ∷ lasts_of rest (k + count r.bad)

abbrev pub first_met : List ℕ → ℕ → ℕ → Option ℕ
first_met [] n set = None
first_met (m ∷ rest) n set = cond (meets set m) (Some n) (first_met rest (n + 1) set)

-- how far a recursion over the parts of an expression can go
abbrev pub nodes : Tree → ℕ
nodes nothing = 1
nodes never = 1
nodes (one l) = 1
nodes (seq r s) = nodes r + nodes s + 2
nodes (alt r s) = nodes r + nodes s + 2
nodes (star r) = nodes r + 1
nodes (plus r) = nodes r + 1
nodes (maybe r) = nodes r + 1
