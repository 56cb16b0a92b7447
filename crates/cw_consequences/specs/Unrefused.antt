-- Policies that differ in what the game doesn't see of them, a policy of which nothing can be refused, and a game under another policy.
use Rattle.std.specs.Prelude.{ℕ, Bool, false}
use Rattle.cw_rights.specs.Policies.{PlainPolicy}
use Rattle.cw_game.specs.Games.{Game}
use Rattle.cw_audit_laws.specs.Refusing.{ruled_by}

-- the same descriptors, limits, labels, rules and functions in processes of their own, but that these primitives can be refused, and this is done after
-- a refusal, in this format
abbrev pub varied : PlainPolicy → (limit enter split stop : Bool) → (format : ℕ) → PlainPolicy
varied policy limit enter split stop format = record {
  descriptors = policy.descriptors;
  limits = policy.limits;
  refuse_limit = limit;
  refuse_enter = enter;
  refuse_split = split;
  split = policy.split;
  labels = policy.labels;
  rules = policy.rules;
  stop = stop;
  format = format;
  detached = policy.detached;
}

-- the same policy, but that no primitive can be refused that may be granted
abbrev pub unrefused : PlainPolicy → PlainPolicy
unrefused policy = varied policy false false false policy.stop policy.format

-- the same game, but that no primitive can be refused that may be granted
abbrev pub unrefused_game : Game → Game
unrefused_game g = ruled_by g (unrefused g.policy)
