-- Which entries enter a function, and how many of a tape do.
use Rattle.std.proofs.Common.{◌≡◌, ℕ, ◌+◌, ◌<◌, ◌≤◌, List, take, length, get_or, Bool, true, false, Option, Some, None, option_map, sym, ap, arith}
use Rattle.std.proofs.lemmas.Option.{none-some, same_Some}
use Rattle.std.proofs.lemmas.List.Sums.{sum_by_more, sum_by-take-le}
use Rattle.cw_core.specs.declared.ids.MemId.{MemId}
use Rattle.cw_certs.specs.declared.moves.Move.{Move}
use Rattle.cw_certs.specs.declared.moves.Move.TheVariants.{Skip, Try, Grant, Refuse, On, Left, Right, Opened, Failed, Stop}
use Rattle.cw_certs.specs.declared.rows.TryRow.{TryRow}
use Rattle.cw_certs.specs.Tables.{Table, try_at}
use Rattle.cw_model.specs.Runs.{mem_in}
use Rattle.cw_game.specs.declared.spots.Spot.{Spot}
use Rattle.cw_game.specs.declared.spots.Spot.TheVariants.{Visit, Asked, Step, Branch, Label, Open, Close, Call, SplitCall, Exit}
use Rattle.cw_game.specs.Games.{Game, resumed}
use Rattle.cw_run.specs.Walks.{Here, Wait, Next, To, Into, Back, Over, Resumed, Stopped, landing, within, called, ended, going_on, refusing, asked, next_of, entered, enters, entries}

one_at_most : (n : Next) → entered n ≤ 1
one_at_most (To h) = omega arith
one_at_most (Into h w) = omega arith
one_at_most (Back h) = omega arith
one_at_most Over = omega arith
one_at_most (Resumed h) = omega arith
one_at_most (Stopped seam) = omega arith

-- what goes on in the same frame enters none
none_by_to : (o : Option Here) (n : Next) → option_map To o ≡ Some n → entered n ≡ 0
none_by_to None n e = absurd (none-some n e)
none_by_to (Some h) n e = ap entered (sym (same_Some (To h) n e))

none_by_resumed : (pair : ℕ × ℕ) (o : Option ℕ) (n : Next) → option_map (λ m. Resumed (landing pair m)) o ≡ Some n → entered n ≡ 0
none_by_resumed pair None n e = absurd (none-some n e)
none_by_resumed pair (Some m) n e = ap entered (sym (same_Some (Resumed (landing pair m)) n e))

none_by_going : (t : Table) (seam : ℕ) (pair : ℕ × ℕ) (m : Option MemId) (n : Next) → going_on t seam pair m ≡ Some n → entered n ≡ 0
none_by_going t seam pair None n e = ap entered (sym (same_Some (Stopped seam) n e))
none_by_going t seam pair (Some m) n e = none_by_resumed pair (mem_in t m) n e

none_by_refusing : (t : Table) (seam : ℕ) (pair : ℕ × ℕ) (row : Option TryRow) (n : Next) → refusing t seam pair row ≡ Some n → entered n ≡ 0
none_by_refusing t seam pair None n e = absurd (none-some n e)
none_by_refusing t seam pair (Some r) n e = none_by_going t seam pair r.refused n e

none_by_asking : (g : Game) (t : Table) (h : Here) (s : Spot) (seam stage : ℕ) (by : Move) (pair : Option (ℕ × ℕ)) (n : Next) → asked g t h s seam stage by pair ≡ Some n → entered n ≡ 0
none_by_asking g t h s seam stage Refuse (Some pair) n e = none_by_refusing t seam pair (try_at t seam stage h.mem) n e
none_by_asking g t h s seam stage Refuse None n e = none_by_to (within g t h s Refuse) n e
none_by_asking g t h s seam stage Skip pair n e = none_by_to (within g t h s Skip) n e
none_by_asking g t h s seam stage Try pair n e = none_by_to (within g t h s Try) n e
none_by_asking g t h s seam stage Grant pair n e = none_by_to (within g t h s Grant) n e
none_by_asking g t h s seam stage On pair n e = none_by_to (within g t h s On) n e
none_by_asking g t h s seam stage Left pair n e = none_by_to (within g t h s Left) n e
none_by_asking g t h s seam stage Right pair n e = none_by_to (within g t h s Right) n e
none_by_asking g t h s seam stage Opened pair n e = none_by_to (within g t h s Opened) n e
none_by_asking g t h s seam stage Failed pair n e = none_by_to (within g t h s Failed) n e
none_by_asking g t h s seam stage Stop pair n e = none_by_to (within g t h s Stop) n e

-- only `on` calls, and only it ends a function
by_call : (g : Game) (t : Table) (h : Here) (seam function back : ℕ) (split : Bool) (by : Move) (n : Next) → called g t h seam function back split by ≡ Some n → entered n ≤ enters by
by_call g t h seam f back split On n e = one_at_most n
by_call g t h seam f back split Skip n e = absurd (none-some n e)
by_call g t h seam f back split Try n e = absurd (none-some n e)
by_call g t h seam f back split Grant n e = absurd (none-some n e)
by_call g t h seam f back split Refuse n e = absurd (none-some n e)
by_call g t h seam f back split Left n e = absurd (none-some n e)
by_call g t h seam f back split Right n e = absurd (none-some n e)
by_call g t h seam f back split Opened n e = absurd (none-some n e)
by_call g t h seam f back split Failed n e = absurd (none-some n e)
by_call g t h seam f back split Stop n e = absurd (none-some n e)

by_end : (g : Game) (t : Table) (h : Here) (waits : List Wait) (by : Move) (n : Next) → ended g t h waits by ≡ Some n → entered n ≤ enters by
by_end g t h waits On n e = one_at_most n
by_end g t h waits Skip n e = absurd (none-some n e)
by_end g t h waits Try n e = absurd (none-some n e)
by_end g t h waits Grant n e = absurd (none-some n e)
by_end g t h waits Refuse n e = absurd (none-some n e)
by_end g t h waits Left n e = absurd (none-some n e)
by_end g t h waits Right n e = absurd (none-some n e)
by_end g t h waits Opened n e = absurd (none-some n e)
by_end g t h waits Failed n e = absurd (none-some n e)
by_end g t h waits Stop n e = absurd (none-some n e)

none_at_most : (n : Next) (by : Move) → entered n ≡ 0 → entered n ≤ enters by
none_at_most n by e = omega (arith, e)

-- a move enters a function only by an entry that can
pub entered_by : (g : Game) (t : Table) (h : Here) (waits : List Wait) (spot : Spot) (by : Move) (n : Next) → next_of g t h waits spot by ≡ Some n → entered n ≤ enters by
entered_by g t h waits (Call j f back) by n e = by_call g t h j f back false by n e
entered_by g t h waits (SplitCall j f back) by n e = by_call g t h j f back true by n e
entered_by g t h waits (Exit f) by n e = by_end g t h waits by n e
entered_by g t h waits (Asked j i a) by n e = none_at_most n by (none_by_asking g t h (Asked j i a) j i by (resumed g h.pos h.state) n e)
entered_by g t h waits (Visit j i a) by n e = none_at_most n by (none_by_to (within g t h (Visit j i a) by) n e)
entered_by g t h waits (Step to) by n e = none_at_most n by (none_by_to (within g t h (Step to) by) n e)
entered_by g t h waits (Branch left right) by n e = none_at_most n by (none_by_to (within g t h (Branch left right) by) n e)
entered_by g t h waits (Label j l to) by n e = none_at_most n by (none_by_to (within g t h (Label j l to) by) n e)
entered_by g t h waits (Open j d to) by n e = none_at_most n by (none_by_to (within g t h (Open j d to) by) n e)
entered_by g t h waits (Close j d to) by n e = none_at_most n by (none_by_to (within g t h (Close j d to) by) n e)

-- there is room for the call of one entry more, and the calls are as many as entries so far can have begun
pub room_for : (tape : List Move) (i : ℕ) (by : Move) (calls room : ℕ) → i < length tape → by ≡ get_or tape i by → calls ≤ entries (take i tape) → entries tape ≤ room
    → calls + enters by ≤ room
room_for tape i by calls room lt is few most = omega (arith, few, most, ap enters is, sum_by_more enters tape i by lt, sum_by-take-le enters tape (i + 1))

pub few_after : (tape : List Move) (i : ℕ) (by : Move) (calls later : ℕ) → i < length tape → by ≡ get_or tape i by → calls ≤ entries (take i tape) → later ≤ calls + enters by
    → later ≤ entries (take (i + 1) tape)
few_after tape i by calls later lt is few more = omega (arith, few, more, ap enters is, sum_by_more enters tape i by lt)
