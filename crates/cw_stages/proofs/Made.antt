-- A game that is made, and the height of its start.
use Rattle.std.proofs.Common.{◌≡◌, ℕ, ◌*◌, ◌<◌, ◌≤◌, List, Option, length, sym, ap, ◌∙◌, subst, arith}
use Rattle.cw_rights.specs.Policies.{PlainPolicy, policy_of}
use Rattle.cw_rights.specs.Valid.{IsValid}
use Rattle.cw_syntax.specs.Trees.{File}
use Rattle.cw_resolve.specs.Scenes.{names_of}
use Rattle.cw_points.specs.declared.graph.Graph.{Graph}
use Rattle.cw_points.specs.Graphs.{IsGraph}
use Rattle.cw_game.specs.Pairs.{all_states}
use Rattle.cw_states.specs.States.{AreLists, AreFew, lists_of}
use Rattle.cw_product.specs.Product.{Held, game_of, IsProgramsGraph}
use Rattle.cw_product.specs.Uses.{uses_of}
use Rattle.cw_solve.specs.Contexts.{context, HeightIs, AreTheNeeded}
use Rattle.cw_product.specs.Made.{IsMade, LeavesMain}
use Rattle.cw_solve.specs.Solved.{Held as Solved, IsNumbered, IsHeightIn}
use Rattle.cw_solve.proofs.Routing.{routed_of}
use Rattle.cw_stages.specs.Games.{IsGame}

pub is_made : (h : Held) (policy : PlainPolicy) (graph : Graph) → h.graph ≡ graph → policy_of h.states.policy ≡ policy → IsValid policy → IsProgramsGraph policy graph → LeavesMain policy graph
    → AreLists (uses_of policy graph.nodes.items) (lists_of h.states) → AreFew (lists_of h.states) → length (game_of h).spots * (game_of h).states.count ≤ 1048576 → IsMade h
is_made h policy graph e f valid drawn leaves lists few pairs = record {
  valid = subst IsValid (sym f) valid;
  graph = subst (IsProgramsGraph (policy_of h.states.policy)) (sym e) (subst (λ p. IsProgramsGraph p graph) (sym f) drawn);
  leaves = subst (LeavesMain (policy_of h.states.policy)) (sym e) (subst (λ p. LeavesMain p graph) (sym f) leaves);
  lists = subst (λ (k : Graph). AreLists (uses_of (policy_of h.states.policy) k.nodes.items) (lists_of h.states)) (sym e)
      (subst (λ p. AreLists (uses_of p graph.nodes.items) (lists_of h.states)) (sym f) lists);
  few = few;
  pairs = pairs;
}

-- the program's graph is the game's, under the names of the game's policy
pub graph_over : {h : Held} {policy : PlainPolicy} {graph : Graph} {source : List ℕ} {file : File} → IsGame policy graph h → IsGraph (names_of policy) source file graph
    → IsGraph (names_of (policy_of h.states.policy)) source file h.graph
graph_over {h} {policy} {graph} {source} {file} is drawn =
    subst (IsGraph (names_of (policy_of h.states.policy)) source file) (sym is.graph_is) (subst (λ (p : PlainPolicy). IsGraph (names_of p) source file graph) (sym is.policy_is) drawn)

numbered_at : (s : Solved) (p q : ℕ) → IsMade s.game → AreTheNeeded (game_of s.game) s.contexts → p ≡ (game_of s.game).entry (game_of s.game).main
    → q < (game_of s.game).states.count → IsNumbered s 0 p q
numbered_at s p q made needed e lt =
    let begins = (routed_of s.game made).main.begins in
    (context (game_of s.game).main (all_states (game_of s.game)), needed.first, (omega (arith, e), omega (arith, e, begins)), lt)

-- the start is a cell of the first context
pub start_numbered : (s : Solved) (h : Held) (p q : ℕ) → s.game ≡ h → IsMade h → AreTheNeeded (game_of s.game) s.contexts → p ≡ (game_of h).entry (game_of h).main
    → q < (game_of h).states.count → IsNumbered s 0 p q
start_numbered s h p q e made needed at lt =
    numbered_at s p q (subst IsMade (sym e) made) needed (at ∙ ap (λ (k : Held). (game_of k).entry (game_of k).main) (sym e)) (subst (λ (k : Held). q < (game_of k).states.count) (sym e) lt)

pub start_height : (s : Solved) (h : Held) (p q : ℕ) (o : Option ℕ) → s.game ≡ h → AreTheNeeded (game_of s.game) s.contexts → p ≡ (game_of h).entry (game_of h).main → q ≡ (game_of h).states.start
    → IsHeightIn s 0 p q o → HeightIs (game_of h) ((game_of h).entry (game_of h).main) (game_of h).states.start (all_states (game_of h)) o
start_height s h p q o e needed at is_start is =
    let found = is (context (game_of s.game).main (all_states (game_of s.game))) needed.first in
    let here = subst (λ (k : Held). HeightIs (game_of k) p q (all_states (game_of k)) o) e found in
    subst (λ n. HeightIs (game_of h) ((game_of h).entry (game_of h).main) n (all_states (game_of h)) o) is_start (subst (λ n. HeightIs (game_of h) n q (all_states (game_of h)) o) at here)
