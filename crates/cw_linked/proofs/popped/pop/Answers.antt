use Rattle.std.proofs.Common.{ℕ, ◌/◌, refl, sym, ap, subst, arith}
use Rattle.cw_links.specs.Keys.{AreFrom}
use Rattle.cw_links.specs.Stores.{Stored}
use Rattle.cw_linked.proofs.Staying.{known_on}
use Rattle.cw_linked.proofs.popped.pop.Goals as goal

pub returns-in-Cell : goal.returns-in-Cell
returns-in-Cell c =
    let w = c.args.work.now in
    let p = c.in-Cell.ensures in
    record {
      within = omega (arith, p.1.within, c.requires.long.asked);
      some = omega (arith, p.1.is, p.1.some);
      half = ap (λ (k : ℕ). k / 2) (sym p.1.is);
      least = subst (AreFrom w.store.asked w.store.due) (sym p.1.is) p.0;
      blocks = refl;
      heights = ap (λ (s : Stored). s.heights) p.2;
      written = refl;
      flags = ap (λ (s : Stored). s.flags) p.2;
      asked = p.1.taken;
      due = ap (λ (s : Stored). s.due) p.2;
      to = ap (λ (s : Stored). s.to) p.2;
      waves = ap (λ (s : Stored). s.waves) p.2;
      lists = ap (λ (s : Stored). s.lists) p.2;
    }

pub returns-in-Link : goal.returns-in-Link
returns-in-Link c =
    let w = c.args.work.now in
    let p = c.in-Link.ensures in
    record {
      within = omega (arith, p.1.within, c.requires.long.due);
      some = omega (arith, p.1.is, p.1.some);
      half = ap (λ (k : ℕ). k / 2) (sym p.1.is);
      least = subst (AreFrom w.store.asked w.store.due) (sym p.1.is) p.0;
      others = record {
        known = known_on w c.pop.new.self.heights (ap (λ (s : Stored). s.heights) p.3);
        flags = ap (λ (s : Stored). s.flags) p.3;
        to = ap (λ (s : Stored). s.to) p.3;
        waves = ap (λ (s : Stored). s.waves) p.3;
        lists = ap (λ (s : Stored). s.lists) p.3;
      };
      asked = ap (λ (s : Stored). s.asked) p.3;
      due = p.1.taken;
    }
