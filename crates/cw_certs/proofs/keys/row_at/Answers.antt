-- By the order of the keys, which is total.
use Rattle.std.proofs.Common.{◌≡◌, rules}
use Rattle.std.proofs.lemmas.List.Sorted.{answers_always}
use Rattle.cw_lemmas.proofs.Found.{found, lost}
use Rattle.cw_certs.proofs.keys.row_at.Goals as goal

pub returns-in-Ok : goal.returns-in-Ok
returns-in-Ok g c =
    let held = c.in-Ok.ensures.position g.R.Keyed.key_of (answers_always _ (λ a r. r ≡ g.R.Keyed.key_of a.0.now) _ (λ f a r q k. search rules)) in
    found g.met.R.Key.Ord.total g.R.Keyed.key_of c.args.key.now c.args.rows.now c.in-Ok.index c.index-rows-index.result c.requires.ascend c.in-Ok.ensures.bound held c.index-rows-index.is

pub returns-in-Err : goal.returns-in-Err
returns-in-Err g c =
    let position = c.in-Err.ensures.position g.R.Keyed.key_of (answers_always _ (λ a r. r ≡ g.R.Keyed.key_of a.0.now) _ (λ f a r q k. search rules)) in
    lost g.met.R.Key.Ord.total g.R.Keyed.key_of c.args.key.now c.args.rows.now _ c.requires.ascend position
