-- The conditions of an audit's table, each with its number; what fails first is told with its group and row.
use Rattle.std.specs.Prelude.{◌≡◌, ℕ, ◌+◌, ◌<◌, ◌≤◌, List, [], ◌∷◌, ◌++◌, map, length, Bool, true, false, not, ◌&&◌, ◌||◌, Option, Some, None, is_some}
use Rattle.std.specs.Prelude.{nat_eq, nat_lt, nat_le, slice_get}
use Rattle.std.specs.List.{list_all, enumerate_from}
use Rattle.cw_certs.specs.declared.moves.Move.TheVariants.{On, Left, Right, Opened, Failed}
use Rattle.cw_game.specs.declared.spots.Spot.{Spot}
use Rattle.cw_game.specs.declared.spots.Spot.TheVariants.{Visit, Asked, Step, Branch, Label, Open, Close, Call, SplitCall, Exit}
use Rattle.cw_game.specs.Games.{Game, Config, leads_in, bad_in}
use Rattle.cw_game.specs.Linked.{is_bad_at}
use Rattle.cw_game.specs.Conditions.{first_failing, is_position, is_state}
use Rattle.cw_audit_table.specs.Runs.{skipped, cut, Goes, start_at}
use Rattle.cw_audit_table.specs.Tables.{PlainRow, PlainGroup, Audit, group_at, inside_at}

-- A condition that fails, of a group and of a row of it, each counted from 0.
pub record GroupFault : Type 0 where
  pub group : ℕ
  pub row : ℕ
  pub condition : ℕ

abbrev pub fault_at : ℕ → ℕ → ℕ → GroupFault
fault_at group row condition = record { group = group; row = row; condition = condition }

-- a sum is below the distance, where there is one; sums are cut
abbrev pub is_before : Option ℕ → ℕ → Bool
is_before None n = true
is_before (Some T) n = nat_lt (cut n) T

-- the pair behind the skips has a row, which is at most n
abbrev pub is_within : ℕ → Option ℕ → Bool
is_within n None = false
is_within n (Some a) = nat_le a (cut n)

abbrev pub has_within : Game → List PlainRow → (n p x : ℕ) → Bool
has_within g rows n p x = is_within n (inside_at rows (skipped g p) x)

-- 1: the number of states is the game's; the numbers of each group and each row are in range, and each comes after the one before. A row's position is
-- one of the group's function, at which no primitive is skipped, tried or asked, and which isn't that of a call in a process of its own.
abbrev pub is_after : Option (ℕ × ℕ) → ℕ × ℕ → Bool
is_after None b = true
is_after (Some a) b = nat_lt a.0 b.0 || (nat_eq a.0 b.0 && nat_lt a.1 b.1)

abbrev pub key_of : PlainGroup → ℕ × ℕ
key_of grp = (grp.function, grp.entered)

abbrev pub pair_of : PlainRow → ℕ × ℕ
pair_of r = (r.pos, r.state)

abbrev pub is_free : Option Spot → Bool
is_free (Some (Visit j i a)) = false
is_free (Some (Asked j i a)) = false
is_free (Some (SplitCall j f k)) = false
is_free None = false
is_free _ = true

abbrev pub is_group : Game → (functions : ℕ) → PlainGroup → Bool
is_group g functions grp = nat_lt grp.function functions && is_state g grp.entered

abbrev pub is_pair : Game → (f : ℕ) → PlainRow → Bool
is_pair g f r = is_position g r.pos && (is_state g r.state && (nat_le (g.entry f) r.pos && (nat_le r.pos (g.exit f) && is_free (slice_get g.spots r.pos))))

abbrev pub pairs : Game → (f group : ℕ) → Option (ℕ × ℕ) → List (ℕ × PlainRow) → List (GroupFault × Bool)
pairs g f i last [] = []
pairs g f i last (r ∷ rows) = (fault_at i r.0 1, is_pair g f r.1 && is_after last (pair_of r.1)) ∷ pairs g f i (Some (pair_of r.1)) rows

abbrev pub ranges : Game → (functions : ℕ) → Option (ℕ × ℕ) → List (ℕ × PlainGroup) → List (GroupFault × Bool)
ranges g functions last [] = []
ranges g functions last (grp ∷ groups) =
    (fault_at grp.0 0 1, is_group g functions grp.1 && is_after last (key_of grp.1))
    ∷ pairs g grp.1.function grp.0 None (enumerate_from 0 grp.1.rows)
    ++ ranges g functions (Some (key_of grp.1)) groups

-- 2: `main`'s group at the start has reach 0, and each group has the row behind its entry's skips, in its own state, with 0. That `main`'s group is there is asked
-- last of all.
abbrev pub is_zero : Option ℕ → Bool
is_zero None = false
is_zero (Some a) = nat_eq a 0

abbrev pub is_mains : Game → PlainGroup → Bool
is_mains g grp = nat_eq grp.function g.main && nat_eq grp.entered g.states.start

abbrev pub begins : Game → PlainGroup → Bool
begins g grp = (not (is_mains g grp) || nat_eq grp.reach 0) && is_zero (inside_at grp.rows (skipped g (g.entry grp.function)) grp.entered)

-- 3: the pair isn't bad.
abbrev pub is_good : Game → PlainRow → Option Spot → Bool
is_good g r spot = not (bad_in g r.state spot)

-- 4: at no call and no exit, where one move more is below the distance, the pair that each move leads to, behind the skips, has a row in the group that is at
-- most one more.
abbrev pub is_inner : Option Spot → Bool
is_inner (Some (Step n)) = true
is_inner (Some (Branch m n)) = true
is_inner (Some (Label j l n)) = true
is_inner (Some (Open j d n)) = true
is_inner (Some (Close j d n)) = true
is_inner _ = false

abbrev pub takes : Game → List PlainRow → ℕ → Option Config → Bool
takes g rows n None = true
takes g rows n (Some c) = has_within g rows n c.pos c.state

abbrev pub moves_on : Game → Option ℕ → PlainGroup → PlainRow → Option Spot → Bool
moves_on g D grp r spot =
    not (is_inner spot) || (not (is_before D (grp.reach + r.inside + 1))
    || list_all (λ by. takes g grp.rows (r.inside + 1) (leads_in g r.pos r.state [] spot by)) (On ∷ Left ∷ Right ∷ Opened ∷ Failed ∷ []))

-- 5: at a call of h that returns to k, where one move more is below the distance, the group of h entered with the row's state is there, with a reach of at most one more; for
-- each of its rows at the exit, where the sum of both rows and 2 is below the distance, the pair after the return, behind the skips, has a row in the caller's group that is at most that.
abbrev pub comes_back : Game → Option ℕ → PlainGroup → PlainRow → (h k : ℕ) → PlainRow → Bool
comes_back g D grp r h k e =
    not (nat_eq e.pos (g.exit h)) || (not (is_before D (grp.reach + r.inside + e.inside + 2)) || has_within g grp.rows (r.inside + e.inside + 2) k e.state)

abbrev pub enters : Game → Option ℕ → PlainGroup → PlainRow → (h k : ℕ) → Option PlainGroup → Bool
enters g D grp r h k None = false
enters g D grp r h k (Some callee) = nat_le callee.reach (cut (grp.reach + r.inside + 1)) && list_all (comes_back g D grp r h k) callee.rows

abbrev pub calls_on : Game → Audit → PlainGroup → PlainRow → Option Spot → Bool
calls_on g t grp r (Some (Call j h k)) = not (is_before t.distance (grp.reach + r.inside + 1)) || enters g t.distance grp r h k (group_at t.groups h r.state)
calls_on g t grp r _ = true

abbrev pub row_conditions : Game → Audit → PlainGroup → PlainRow → Option Spot → List (ℕ × Bool)
row_conditions g t grp r spot = (3, is_good g r spot) ∷ (4, moves_on g t.distance grp r spot) ∷ (5, calls_on g t grp r spot) ∷ []

abbrev pub row_faults : Game → Audit → (group : ℕ) → PlainGroup → List (ℕ × PlainRow) → List (GroupFault × Bool)
row_faults g t i grp [] = []
row_faults g t i grp (r ∷ rows) = map (λ c. (fault_at i r.0 c.0, c.1)) (row_conditions g t grp r.1 (slice_get g.spots r.1.pos)) ++ row_faults g t i grp rows

abbrev pub group_faults : Game → Audit → List (ℕ × PlainGroup) → List (GroupFault × Bool)
group_faults g t [] = []
group_faults g t (grp ∷ groups) = (fault_at grp.0 0 2, begins g grp.1) ∷ row_faults g t grp.0 grp.1 (enumerate_from 0 grp.1.rows) ++ group_faults g t groups

-- Condition 1 of the whole table, then the others group by group and row by row. The number of functions is the program's.
abbrev pub audit_conditions : Game → (functions : ℕ) → Audit → List (GroupFault × Bool)
audit_conditions g functions t =
    (fault_at 0 0 1, nat_eq t.states g.states.count)
    ∷ ranges g functions None (enumerate_from 0 t.groups)
    ++ group_faults g t (enumerate_from 0 t.groups)
    ++ (fault_at (length t.groups) 0 2, is_some (group_at t.groups g.main g.states.start)) ∷ []

-- The first condition that fails; a table is good where none does.
abbrev pub audit_fault : Game → (functions : ℕ) → Audit → Option GroupFault
audit_fault g functions t = first_failing (audit_conditions g functions t)

abbrev pub IsGoodAudit : Game → (functions : ℕ) → Audit → Type 0
IsGoodAudit g functions t = audit_fault g functions t ≡ None

-- 6: where there is a distance, the moves are as many, and they lead from the start to a bad pair.
abbrev pub IsShown : Game → Audit → Type 0
IsShown g t = (T : ℕ) → t.distance ≡ Some T → (length t.moves ≡ T) × ((c : Config) × Goes g (start_at g) t.moves c × (is_bad_at g c ≡ true))

-- In each function with a number below this one an exit stands at the last position alone.
abbrev pub EndAlone : Game → (functions : ℕ) → Type 0
EndAlone g functions = (f p k : ℕ) → f < functions → g.entry f ≤ p → p ≤ g.exit f → slice_get g.spots p ≡ Some (Exit k) → p ≡ g.exit f
