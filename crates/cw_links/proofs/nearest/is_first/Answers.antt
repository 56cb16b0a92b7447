use Rattle.std.proofs.Common.{◌≡◌, ◌<◌, length, refl, sym, arith, inl, inr}
use Rattle.std.proofs.lemmas.Bool.{false≢true}
use Rattle.std.specs.Prelude.{vec_len}
use Rattle.cw_links.proofs.Nearing.{none_there, some_there}
use Rattle.cw_links.proofs.nearest.is_first.Goals as goal

pub returns-then-is_empty-clause-first : goal.returns-then-is_empty-clause-first
returns-then-is_empty-clause-first c =
    let n = c.args.near.now in
    let none : length n.present.items ≡ 0 = none_there (length n.present.items) (vec_len n.present) c.is_empty.result n.present.ok.0 c.is_empty.ensures c.if-is_empty.true in
    record {
      same = record { now = refl; now_key = refl; soon = refl; soon_key = refl };
      above = c.requires.above;
      yes = λ t. absurd (false≢true t);
      no = λ _. inl none;
    }

pub returns-then-near-clause-first : goal.returns-then-near-clause-first
returns-then-near-clause-first c =
    let n = c.args.near.now in
    let some : 0 < length n.present.items = some_there (length n.present.items) (vec_len n.present) c.is_empty.result n.present.ok.0 c.is_empty.ensures c.if-is_empty.false in
    record {
      same = record { now = refl; now_key = refl; soon = refl; soon_key = refl };
      above = c.requires.above;
      yes = λ _. (some, c.if-near.true);
      no = λ f. absurd (false≢true (sym f));
    }

pub returns-then-not-is_clear_below-clause-first : goal.returns-then-not-is_clear_below-clause-first
returns-then-not-is_clear_below-clause-first c = record {
  same = record { now = refl; now_key = refl; soon = refl; soon_key = refl };
  above = c.requires.above;
  yes = λ t. absurd (false≢true t);
  no = λ _. inr (c.is_clear_below.ensures.some c.if-not-is_clear_below.true);
}

pub returns-clause-first : goal.returns-clause-first
returns-clause-first c =
    let n = c.args.near.now in
    let some : 0 < length n.present.items = some_there (length n.present.items) (vec_len n.present) c.is_empty.result n.present.ok.0 c.is_empty.ensures c.if-is_empty.false in
    record {
      same = record { now = refl; now_key = refl; soon = refl; soon_key = refl };
      above = c.is_clear_below.ensures.clear c.if-not-is_clear_below.false;
      yes = λ _. (some, omega arith);
      no = λ f. absurd (false≢true (sym f));
    }
