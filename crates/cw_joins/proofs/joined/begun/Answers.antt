use Rattle.std.proofs.Common.{[], ◌∷◌, refl}
use Rattle.cw_fixpoint.specs.Seen.{Adds}
use Rattle.cw_joins.proofs.Reaching.{reached_start}
use Rattle.cw_joins.proofs.joined.begun.Goals as goal

pub returns : goal.returns
returns g c =
    let r = g.J.Joins.rules c.args.joins.now in
    let a : Adds [] c.see.new.seen.keys.items (c.args.start ∷ []) = rw c.in_ok-seen.ensures.keys at c.in_ok-see.ensures.more in
    record {
      keeps = record {
        keys = c.in_ok-see.ensures.same;
        pairs = c.in_ok-pairs.ensures.same;
        wait = λ q. [];
        end = λ q. [];
        waiting = c.in_ok-waiting.ensures.none;
        ended = c.in_ok-ended.ensures.none;
        reached = rw c.in_ok-pairs.ensures.keys (reached_start r c.args.start c.see.new.seen.keys.items (λ q. []) (λ q. []) (λ q. refl) (λ q. refl) a);
      };
    }
