-- What a program has that the states of a policy ask for.
use Rattle.std.specs.Prelude.{ℕ, List, [], ◌∷◌, Bool, false, nat_eq, length, map}
use Rattle.std.specs.List.{list_any}
use Rattle.cw_rights.specs.Policies.{PlainPolicy}
use Rattle.cw_points.specs.declared.graph.Point.{Point}
use Rattle.cw_points.specs.declared.graph.Point.TheVariants.{Label, Close}
use Rattle.cw_points.specs.declared.graph.Node.{Node}
use Rattle.cw_states.specs.declared.uses.Uses.{Uses}

abbrev pub closes_at : ℕ → Point → Bool
closes_at d (Close closed) = nat_eq closed d
closes_at d _ = false

abbrev pub labels_at : ℕ → Point → Bool
labels_at l (Label label) = nat_eq label l
labels_at l _ = false

-- the point closes this descriptor; it has the label with this number
abbrev pub is_close : ℕ → Node → Bool
is_close d node = closes_at d node.point

abbrev pub is_label : ℕ → Node → Bool
is_label l node = labels_at l node.point

abbrev pub closes_in : List Node → ℕ → Bool
closes_in nodes d = list_any (is_close d) nodes

abbrev pub has_label : List Node → ℕ → Bool
has_label nodes l = list_any (is_label l) nodes

-- of each of eight descriptors, whether some point closes it
abbrev pub all_closes : List Node → List Bool
all_closes nodes = map (closes_in nodes) (0 ∷ 1 ∷ 2 ∷ 3 ∷ 4 ∷ 5 ∷ 6 ∷ 7 ∷ [])

-- which descriptors some point closes, and whether some point has the label with a number
abbrev pub uses_in : ℕ → List Node → Uses
uses_in other nodes = record {
  closes = all_closes nodes;
  has_other = has_label nodes other;
}

-- the same for the label that the policy doesn't name, which has the number of its labels
abbrev pub uses_of : PlainPolicy → List Node → Uses
uses_of policy nodes = uses_in (length policy.labels) nodes
