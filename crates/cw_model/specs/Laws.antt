-- What holds of every board and every move, for all programs and policies.
use Rattle.std.specs.Prelude.{◌≡◌, ◌⊎◌, ℕ, List, [], ◌∷◌, true, false, cond, Option, Some, None}
use Rattle.cw_rights.specs.declared.capabilities.Caps.{Caps}
use Rattle.cw_rights.specs.declared.capabilities.Primitive.{Primitive}
use Rattle.cw_rights.specs.Capabilities.{HoldsRight}
use Rattle.cw_certs.specs.declared.moves.Move.{Move}
use Rattle.cw_certs.specs.declared.moves.Move.TheVariants.{Skip, Try, Refuse, Opened, Stop}
use Rattle.cw_certs.specs.Strategies.{Strategy}
use Rattle.cw_certs.specs.Tables.{Table}
use Rattle.cw_syntax.specs.Frames.{End, Frame}
use Rattle.cw_model.specs.Boards.{Problem, Phase, Asked, Over, Board, start_board, may_refuse, passed_by, answered, stop_answers, is_refused, Moves, Party, Weaver, Environment, turn_of, Forced}
use Rattle.cw_model.specs.Runs.{top_by, try_of, refused_with, memories, State, WovenRun, WovenStep, WasRefused, reached, Sound}
use Rattle.cw_model.specs.Plays.{Beats}

-- whose move it is
abbrev pub party_of : Move → Party
party_of Skip = Weaver
party_of Try = Weaver
party_of Stop = Weaver
party_of _ = Environment

-- A board has moves of one party, whose turn it is, or none.
abbrev pub OnePartyMoves : Type 0
OnePartyMoves = (p : Problem) (b : Board) (m : Move) (next : Board) → Moves p b m next → turn_of b.phase ≡ Some (party_of m)

-- A board that is over has no move.
abbrev pub OverHasNoMove : Type 0
OverHasNoMove = (p : Problem) (b : Board) (m : Move) (next : Board) → b.phase ≡ Over → Moves p b m next → ⊥

-- Boards of a play, each after the one before it.
abbrev pub Follow : Problem → Board → List Board → Type 0
Follow p b [] = Unit {0}
Follow p b (next ∷ later) = ((m : Move) × Moves p b m next) × Follow p next later

abbrev pub last_board : Board → List Board → Board
last_board b [] = b
last_board b (next ∷ later) = last_board next later

-- What is said where the policy has no stop: no board of a play is in Refused, and none has a stop; each definition says what it would say without
-- a stop. A refused try leads where skipping leads, with the memory of its row.
pub record GoesWithoutStop (p : Problem) : Type 0 where
  pub never_refused : (boards : List Board) → Follow p (start_board p) boards → is_refused (last_board (start_board p) boards).phase ≡ false
  pub never_stops : (boards : List Board) (next : Board) → Follow p (start_board p) boards → Moves p (last_board (start_board p) boards) Stop next → ⊥
  pub refuses : (b : Board) (stage : ℕ) (a : Primitive) (later : List Primitive)
      → answered p b stage a later Refuse ≡ cond (may_refuse p.policy b.caps a) (Some (passed_by b stage later)) None
  pub remembers : (t : Table) (b : Board) (ms : List ℕ) (stage : ℕ) (a : Primitive) (later : List Primitive)
      → memories p t b ms (Asked stage a later) Refuse ≡ top_by (λ m. refused_with t (try_of t b stage m)) ms
  pub unanswered : (caps : Caps) (phase : Phase) (m : Move) → stop_answers p.policy caps phase m ≡ false

abbrev pub WithoutStop : Type 0
WithoutStop = (p : Problem) → p.policy.stop ≡ false → GoesWithoutStop p

-- Where the policy has no stop, a try that is refused leads where skipping leads.
abbrev pub RefusedIsSkipped : Type 0
RefusedIsSkipped = (p : Problem) (b skipped asked refused : Board) → p.policy.stop ≡ false
    → Moves p b Skip skipped → Moves p b Try asked → Moves p asked Refuse refused → refused ≡ skipped

-- After a refusal at which the weaver can stop, going on leads where skipping leads.
abbrev pub GoingOnIsSkipping : Type 0
GoingOnIsSkipping = (p : Problem) (b skipped asked refused next : Board) → Moves p b Skip skipped → Moves p b Try asked
    → Moves p asked Refuse refused → is_refused refused.phase ≡ true → Moves p refused Skip next → next ≡ skipped

-- Whatever the table, each stop of a woven run comes right after a refusal of what could have been granted.
abbrev pub StopsAfterRefusal : Type 0
StopsAfterRefusal = (p : Problem) (t : Table) (run : List State) (stopped : State) → WovenRun p t run
    → WovenStep p t (reached p t run) Stop stopped → WasRefused p t run

-- The frame on top ends, which ran in a process of its own; its caller held `before` at the call.
abbrev pub EndsSplit : Board → Caps → Type 0
EndsSplit b before = (f : ℕ) × (is : Frame) × (frames : List Frame) × (kept : List (Option Caps))
    × (b.stack ≡ (End f ∷ is) ∷ frames) × (b.kept ≡ Some before ∷ kept)

-- Nothing leads out of capability mode but the return of a split call, after which the caller holds what it held.
abbrev pub CapabilityModeStays : Type 0
CapabilityModeStays = (p : Problem) (b : Board) (m : Move) (next : Board) → Moves p b m next → b.caps.amb ≡ false
    → (next.caps.amb ≡ false) ⊎ ((before : Caps) × EndsSplit b before × (next.caps ≡ before))

-- No move gives a right but an open that succeeds and the return of a split call.
abbrev pub RightsNeverGrow : Type 0
RightsNeverGrow = (p : Problem) (b : Board) (m : Move) (next : Board) → Moves p b m next
    → ((d right : ℕ) → HoldsRight next.caps d right → HoldsRight b.caps d right) ⊎ ((m ≡ Opened) ⊎ ((before : Caps) × EndsSplit b before × (next.caps ≡ before)))

-- Where a table is sound the start isn't forced.
abbrev pub SoundIsNeverForced : Type 0
SoundIsNeverForced = (p : Problem) (t : Table) → Sound p t → (n : ℕ) → Forced p n (start_board p) → ⊥

-- Where a strategy beats every weaver the start is forced.
abbrev pub BeatenIsForced : Type 0
BeatenIsForced = (p : Problem) (s : Strategy) (row : ℕ) → Beats p s row → (n : ℕ) × Forced p n (start_board p)

-- So no program has both a sound table and a strategy that beats every weaver.
abbrev pub NeverBoth : Type 0
NeverBoth = (p : Problem) (t : Table) (s : Strategy) (row : ℕ) → Sound p t → Beats p s row → ⊥
