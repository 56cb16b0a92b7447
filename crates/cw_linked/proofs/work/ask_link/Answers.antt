use Rattle.std.proofs.Common.{ap}
use Rattle.cw_links.specs.Stores.{Stored}
use Rattle.cw_linked.proofs.Staying.{known_on}
use Rattle.cw_linked.proofs.work.ask_link.Goals as goal

pub returns : goal.returns
returns c =
    let asks = c.in_ok-ask_link.ensures.asked in
    record {
      others = record {
        known = known_on c.args.work.now c.ask_link.new.self.heights (ap (λ (s : Stored). s.heights) asks);
        flags = ap (λ (s : Stored). s.flags) asks;
        to = ap (λ (s : Stored). s.to) asks;
        waves = ap (λ (s : Stored). s.waves) asks;
        lists = ap (λ (s : Stored). s.lists) asks;
      };
      asked = ap (λ (s : Stored). s.asked) asks;
      due = ap (λ (s : Stored). s.due) asks;
    }
