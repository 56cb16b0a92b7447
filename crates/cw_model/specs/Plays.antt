-- Following a strategy, and that it beats every weaver.
use Rattle.std.specs.Prelude.{◌≡◌, ◌⊎◌, ℕ, zero, suc, List, [], ◌∷◌, Bool, true, false, Option, Some, None, length, slice_get}
use Rattle.cw_certs.specs.declared.moves.Move.{Move}
use Rattle.cw_certs.specs.declared.moves.Move.TheVariants.{Skip, Try, On}
use Rattle.cw_certs.specs.Strategies.{How, Bad, Out, Both, Go, Into, Row, Strategy, back_of}
use Rattle.cw_syntax.specs.Plans.{Call}
use Rattle.cw_syntax.specs.Frames.{Todo, End, Frame}
use Rattle.cw_model.specs.Boards.{Problem, Free, FreeSplit, Board, start_board, Violates, stop_answers, Moves, IsEnvironments}

-- a choice of the weaver, by whether it tries
abbrev pub choice : Bool → Move
choice true = Try
choice false = Skip

abbrev pub row_by : Bool → ℕ → ℕ → ℕ
row_by true skip tried = tried
row_by false skip tried = skip

abbrev pub is_at_call : List Frame → Bool
is_at_call ((Todo (Call at j callee) ∷ is) ∷ frames) = true
is_at_call _ = false

abbrev pub is_at_end : List Frame → Bool
is_at_end ((End f ∷ is) ∷ frames) = true
is_at_end _ = false

-- the lists of backs of the open calls, the innermost first
abbrev pub Waiting : Type 0
Waiting = List (List (ℕ × ℕ))

-- What is said of a play by its row, its board, the backs that wait, and the weaver's choices to come.
abbrev pub Play : Type 1
Play = ℕ → Board → Waiting → List Bool → Type 0

-- the backs on top are taken off, and the row that they have for this state is next
abbrev pub GoesBack : Problem → Play → Board → Waiting → ℕ → List Bool → Type 0
GoesBack p later b [] state choices = ⊥
GoesBack p later b (backs ∷ waiting) state choices =
    (next : Board) × (row : ℕ) × Moves p b On next × (back_of backs state ≡ Some row) × later row next waiting choices

abbrev pub Chooses : Problem → Play → Board → Waiting → ℕ → ℕ → List Bool → Type 0
Chooses p later b waiting skip tried [] = ⊥
Chooses p later b waiting skip tried (c ∷ choices) =
    (next : Board) × Moves p b (choice c) next × later (row_by c skip tried) next waiting choices

-- the environment makes this move, which isn't a refusal that can be answered with a stop
abbrev pub GoesBy : Problem → Board → Move → Board → Type 0
GoesBy p b by next = Moves p b by next × (stop_answers p.policy b.caps b.phase by ≡ false)

-- One step of a followed play, by what its row does. At a row that is bad the play ends, and the board has to violate.
abbrev pub FollowsHow : Problem → Play → Board → Waiting → ℕ → How → List Bool → Type 0
FollowsHow p later b waiting state Bad choices = Violates p b
FollowsHow p later b waiting state (Both skip tried) choices = Chooses p later b waiting skip tried choices
FollowsHow p later b waiting state (Go by row) choices =
    IsEnvironments b × ((next : Board) × GoesBy p b by next × later row next waiting choices)
FollowsHow p later b waiting state (Into callee backs) choices =
    ((b.phase ≡ Free) ⊎ (b.phase ≡ FreeSplit)) × (is_at_call b.stack ≡ true)
    × ((next : Board) × Moves p b On next × later callee next (backs ∷ waiting) choices)
FollowsHow p later b waiting state Out choices =
    (b.phase ≡ Free) × (is_at_end b.stack ≡ true) × GoesBack p later b waiting state choices

abbrev pub FollowsRow : Problem → Play → Board → Waiting → Option Row → List Bool → Type 0
FollowsRow p later b waiting None choices = ⊥
FollowsRow p later b waiting (Some r) choices = FollowsHow p later b waiting r.state r.how choices

-- The play followed from a row comes to a violating board within n steps, whatever row it stands at there.
abbrev pub FollowedPlay : Problem → Strategy → ℕ → Play
FollowedPlay p s zero row b waiting choices = Violates p b
FollowedPlay p s (suc n) row b waiting choices =
    Violates p b ⊎ FollowsRow p (FollowedPlay p s n) b waiting (slice_get s.rows row) choices

-- The strategy beats every weaver from this row: for every list of enough choices the play from the start comes to a violating board.
abbrev pub Beats : Problem → Strategy → ℕ → Type 0
Beats p s row =
    (n : ℕ) × ((choices : List Bool) → length choices ≡ n → (steps : ℕ) × FollowedPlay p s steps row (start_board p) [] choices)
