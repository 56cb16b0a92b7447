-- What the lists of a game's states tell of the states that are reached.
use Rattle.std.proofs.Common.{ℕ, List, sym}
use Rattle.cw_rights.specs.declared.capabilities.Caps.{Caps}
use Rattle.cw_rights.specs.Policies.{PlainPolicy, policy_of}
use Rattle.cw_rights.specs.Valid.{IsValid}
use Rattle.cw_rights.specs.Words.{Word}
use Rattle.cw_syntax.specs.Trees.{File}
use Rattle.cw_resolve.specs.Scenes.{names_of}
use Rattle.cw_points.specs.Graphs.{IsGraph}
use Rattle.cw_game.specs.Reached.{Reached}
use Rattle.cw_game.proofs.Reached.{reached_means}
use Rattle.cw_positions.specs.Opens.{AssignsNames}
use Rattle.cw_positions.specs.Positions.{spots}
use Rattle.cw_states.specs.declared.uses.Uses.{Uses}
use Rattle.cw_states.specs.States.{Lists, AreLists, Means, lists_of, states_of}
use Rattle.cw_states.proofs.Meaning.{states_are, caps_is, verdict_after}
use Rattle.cw_product.specs.Product.{Held, game_of}
use Rattle.cw_product.specs.Uses.{uses_of}
use Rattle.cw_product.proofs.Holding.{has}
use Rattle.cw_play.proofs.Held.{Tells}

module _ (h : Held) (valid : IsValid (policy_of h.states.policy)) (lists : AreLists (uses_of (policy_of h.states.policy) h.graph.nodes.items) (lists_of h.states))
    (source : List ℕ) (file : File) (drawn : IsGraph (names_of (policy_of h.states.policy)) source file h.graph) (assigns : AssignsNames source file) where
  abbrev policy : PlainPolicy
  policy = policy_of h.states.policy

  abbrev uses : Uses
  uses = uses_of policy h.graph.nodes.items

  abbrev v : Lists
  v = lists_of h.states

  means : (q : ℕ) (w : Word) (c : Caps) → Reached policy (spots h.graph policy) (states_of v) q w c → Means uses v q w c
  means q w c r = reached_means policy (spots h.graph policy) (states_of v) (Means uses v) (states_are uses v lists (spots h.graph policy) (has policy h.graph valid source file drawn assigns)) q w c r

  pub tells : Tells (game_of h) v
  tells = record { caps = λ q w c r. sym (caps_is uses v lists q w c (means q w c r)); rule = λ q w c label r. verdict_after uses v lists q w c (means q w c r) label }
