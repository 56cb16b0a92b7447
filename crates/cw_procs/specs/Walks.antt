-- Working definitions: the processes of a world over the positions and states of the game, with the stacks of their calls, which share their tails.
use Rattle.std.specs.Prelude.{◌≡◌, ◌⊎◌, ℕ, ◌<◌, List, [], ◌∷◌, ◌++◌, map, set, length, count_by, Bool, true, false, cond, not, ◌&&◌, Option, Some, None, slice_get}
use Rattle.cw_rights.specs.declared.capabilities.Caps.{Caps}
use Rattle.cw_certs.specs.declared.moves.Move.{Move}
use Rattle.cw_certs.specs.declared.moves.Move.TheVariants.{Left, Right}
use Rattle.cw_certs.specs.Tables.{Table}
use Rattle.cw_game.specs.Games.{Game}
use Rattle.cw_product.specs.Moves.{IsPosition}
use Rattle.cw_product.specs.Product.{Held, game_of}
use Rattle.cw_product.specs.Sites.{IsPointOf}
use Rattle.cw_trace.specs.Traces.{Names}
use Rattle.cw_trace.specs.Told.{lines_at}
use Rattle.cw_steps.specs.declared.step.Step.{Step as StepData}
use Rattle.cw_run.specs.Lines.{own_of}
use Rattle.cw_run.specs.Walks.{Here, Wait, Next, wait_of, landing_of, landing_in, waits_after, next_here, LandsAt, is_on}
use Rattle.cw_procs.specs.Told.{fork_line}
use Rattle.cw_procs.specs.declared.stacks.Link.{Link as LinkData}
use Rattle.cw_procs.specs.declared.world.Process.{Process as ProcessData}

-- A call that waits, and the index of the call below it in the list of links.
pub record Link : Type 0 where
  pub wait : Wait
  pub below : Option ℕ

abbrev pub link_of : LinkData → Link
link_of l = record { wait = wait_of l.wait; below = l.below }

abbrev pub links_of : List LinkData → List Link
links_of ls = map link_of ls

-- The calls that wait, the innermost first, from this index of the links on.
pub data Stack (links : List Link) : Option ℕ → List Wait → Type 0 where
  empty : Stack links None []
  on : (i : ℕ) (l : Link) (ws : List Wait) → slice_get links i ≡ Some l → Stack links l.below ws → Stack links (Some i) (l.wait ∷ ws)

-- each stack of some links is one of others too
abbrev pub AreKept : List Link → List Link → Type 0
AreKept links more = (calls : Option ℕ) (ws : List Wait) → Stack links calls ws → Stack more calls ws

-- A process: where it is, none where it is over, and its calls that wait.
pub record Process : Type 0 where
  pub landing : Option Here
  pub calls : Option ℕ

abbrev pub process_of : ProcessData → Process
process_of p = record { landing = landing_in p.landing; calls = p.calls }

-- The process goes on where a move leads: its calls that wait, and what is told.
pub record Moved (names : Names) (g : Game) (t : Table) (held : ℕ → Caps) (own : List ℕ → List ℕ) (h : Here) (by : Move) (n : Next) (calls : Option ℕ) (links links2 : List Link) (p : Process)
    (old new : List ℕ) : Type 0 where
  pub stacks : (waits : List Wait) → Stack links calls waits → Stack links2 p.calls (waits_after n waits)
  pub lands : LandsAt names g t held own n (landing_of n) p.landing (old ++ own (lines_at names g.policy g.main (slice_get g.spots h.pos) by)) new

-- where a move leads, whatever the calls that wait are
abbrev pub LeadsTo : Game → Table → Here → Option ℕ → List Link → Move → Option Next → Type 0
LeadsTo g t h calls links by o = (waits : List Wait) → Stack links calls waits → next_here g t h waits by ≡ o

-- a move of a process: where it leads, or that it leads nowhere
abbrev pub MovesBy : Names → Game → Table → (ℕ → Caps) → ℕ → Here → Option ℕ → Move → Option Process → List Link → List Link → List ℕ → List ℕ → Type 0
MovesBy names g t held i h calls by None links links2 old new = LeadsTo g t h calls links by None × (new ≡ old)
MovesBy names g t held i h calls by (Some q) links links2 old new =
    (n : Next) × LeadsTo g t h calls links by (Some n) × AreKept links links2 × Moved names g t held (own_of (Some i)) h by n calls links links2 q old new

-- The parent and the child of a fork, one after the other.
pub record Parts (names : Names) (g : Game) (t : Table) (held : ℕ → Caps) (i child : ℕ) (h : Here) (calls : Option ℕ) (n m : Next) (q r : Process) (links links2 : List Link)
    (old new : List ℕ) : Type 0 where
  pub mid : List Link
  pub half : List ℕ
  pub kept : AreKept links mid
  pub kept_on : AreKept mid links2
  pub parent : Moved names g t held (own_of (Some i)) h Right n calls links mid q (old ++ fork_line i child) half
  pub forked : Moved names g t held (own_of (Some child)) h Left m calls mid links2 r half new

abbrev pub ForksBy : Names → Game → Table → (ℕ → Caps) → (process child : ℕ) → Here → Option ℕ → Option (Process × Process) → List Link → List Link → List ℕ → List ℕ → Type 0
ForksBy names g t held i child h calls None links links2 old new = (LeadsTo g t h calls links Right None ⊎ LeadsTo g t h calls links Left None) × (new ≡ old)
ForksBy names g t held i child h calls (Some two) links links2 old new =
    (n : Next) × (m : Next) × LeadsTo g t h calls links Right (Some n) × LeadsTo g t h calls links Left (Some m)
    × Parts names g t held i child h calls n m two.0 two.1 links links2 old new

-- there is a flag for the point of each position
abbrev pub Cover : Held → List Bool → Type 0
Cover held flags = (p point : ℕ) → IsPointOf held p point → IsPosition (game_of held) p → point < length flags

-- whether the program forks at a landing, by the flag of the landing's point
abbrev pub IsFlag : Held → List Bool → Here → Bool → Type 0
IsFlag held flags h b = (point : ℕ) × IsPointOf held h.pos point × (slice_get flags point ≡ Some b)

-- Why a step is none of the world.
pub data IsNone (g : Game) (t : Table) (Flag : Here → Bool → Type 0) (i : ℕ) (fork : Bool) (by : Move) (ps : List Process) (links : List Link) : Type 0 where
  absent : slice_get ps i ≡ None → IsNone g t Flag i fork by ps links
  over : (p : Process) → slice_get ps i ≡ Some p → p.landing ≡ None → IsNone g t Flag i fork by ps links
  other : (p : Process) (h : Here) → slice_get ps i ≡ Some p → p.landing ≡ Some h → Flag h (not fork) → IsNone g t Flag i fork by ps links
  stuck : (p : Process) (h : Here) → slice_get ps i ≡ Some p → p.landing ≡ Some h → fork ≡ false → LeadsTo g t h p.calls links by None → IsNone g t Flag i fork by ps links
  unforked : (p : Process) (h : Here) → slice_get ps i ≡ Some p → p.landing ≡ Some h → fork ≡ true
      → LeadsTo g t h p.calls links Right None ⊎ LeadsTo g t h p.calls links Left None → IsNone g t Flag i fork by ps links

-- What a step leaves of the processes, the links and the text.
pub data IsStep (names : Names) (g : Game) (t : Table) (held : ℕ → Caps) (Flag : Here → Bool → Type 0) (i : ℕ) (fork : Bool) (by : Move) (ps ps2 : List Process) (links links2 : List Link)
    (old new : List ℕ) : Type 0 where
  moves : (p q : Process) (h : Here) (n : Next) → slice_get ps i ≡ Some p → p.landing ≡ Some h → Flag h false → fork ≡ false → LeadsTo g t h p.calls links by (Some n) → AreKept links links2
      → Moved names g t held (own_of (Some i)) h by n p.calls links links2 q old new → ps2 ≡ set ps i q → IsStep names g t held Flag i fork by ps ps2 links links2 old new
  forks : (mid : List Link) (half : List ℕ) (p q r : Process) (h : Here) (n m : Next) → slice_get ps i ≡ Some p → p.landing ≡ Some h → Flag h true → fork ≡ true
      → LeadsTo g t h p.calls links Right (Some n) → LeadsTo g t h p.calls links Left (Some m) → AreKept links mid → AreKept mid links2
      → Moved names g t held (own_of (Some i)) h Right n p.calls links mid q (old ++ fork_line i (length ps)) half
      → Moved names g t held (own_of (Some (length ps))) h Left m p.calls mid links2 r half new → ps2 ≡ set ps i q ++ r ∷ []
      → IsStep names g t held Flag i fork by ps ps2 links links2 old new

-- whether it was a step
abbrev pub Acted : Names → Game → Table → (ℕ → Caps) → (Here → Bool → Type 0) → ℕ → Bool → Move → Bool → List Process → List Process → List Link → List Link → List ℕ → List ℕ → Type 0
Acted names g t held Flag i fork by true ps ps2 links links2 old new = IsStep names g t held Flag i fork by ps ps2 links links2 old new
Acted names g t held Flag i fork by false ps ps2 links links2 old new = IsNone g t Flag i fork by ps links × (new ≡ old)

-- how many forks, and how many calls, some steps may make
abbrev pub is_fork : StepData → Bool
is_fork s = s.fork

abbrev pub is_entry : StepData → Bool
is_entry s = not s.fork && is_on s.by

abbrev pub forks_in : List StepData → ℕ
forks_in steps = count_by is_fork steps

abbrev pub entries_in : List StepData → ℕ
entries_in steps = count_by is_entry steps

abbrev pub one_if : Bool → ℕ
one_if b = cond b 1 0
