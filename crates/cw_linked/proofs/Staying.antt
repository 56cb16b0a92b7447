-- What stays true where what is known and lists do.
use Rattle.std.proofs.Common.{◌≡◌, ℕ, ◌<◌, ◌≤◌, Bool, true, List, length, sym, ap, subst}
use Rattle.std.specs.Prelude.{slice_index}
use Rattle.cw_game.specs.Games.{Game}
use Rattle.cw_links.specs.Flags.{is_flagged}
use Rattle.cw_solve.specs.declared.contexts.Context.{Context}
use Rattle.cw_linked.specs.declared.work.Work.{Work}
use Rattle.cw_linked.specs.Calls.{AreCallers}
use Rattle.cw_linked.specs.Queues.{IsLinkAt, AreFlagged}
use Rattle.cw_linked.specs.Works.{Known, known_of}

-- what is known, with these heights
abbrev pub known_with : Work → List ℕ → Known
known_with w heights = record { blocks = w.blocks; heights = heights; written = w.written }

pub known_on : (w : Work) (heights : List ℕ) → heights ≡ w.store.heights → known_with w heights ≡ known_of w
known_on w heights same = ap (known_with w) same

-- each link's index is flagged still
pub flagged_on : (g : Game) (old new : Work) → new.blocks.contexts.items ≡ old.blocks.contexts.items → new.store.flags ≡ old.store.flags → AreFlagged g old → AreFlagged g new
flagged_on g old new contexts flags are k link =
    subst (λ (ms : List Bool). is_flagged ms k ≡ true) (sym flags) (are k (subst (λ (cs : List Context). IsLinkAt g cs k) contexts link))

pub callers_on : (old new : Work) → known_of new ≡ known_of old → new.store.to ≡ old.store.to → new.store.lists ≡ old.store.lists → AreCallers old → AreCallers new
callers_on old new known to lists c = record {
  more = subst (λ (ls : List (List ℕ)). length new.blocks.contexts.items < length ls) (sym lists) (subst (λ (t : Known). length t.blocks.contexts.items < length old.store.lists) (sym known) c.more);
  few = λ k lt. subst (λ (ys : List ℕ). slice_index ys k ≤ length new.blocks.contexts.items) (sym to)
      (subst (λ (t : Known). slice_index old.store.to k ≤ length t.blocks.contexts.items) (sym known) (c.few k (subst (λ (t : Known). k < length t.heights) known lt)));
}
