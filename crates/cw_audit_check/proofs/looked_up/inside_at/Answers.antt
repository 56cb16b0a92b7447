-- By the order of the keys, which is total.
use Rattle.std.proofs.Common.{◌≡◌, ◌∙◌, ap, rules, option_map, get_or}
use Rattle.std.proofs.lemmas.List.{get_or_default}
use Rattle.std.proofs.lemmas.List.Sorted.{answers_always}
use Rattle.cw_lemmas.proofs.Found.{found, lost}
use Rattle.cw_audit_check.proofs.LookUps.{inside_is, key_total, key_of}
use Rattle.cw_audit_check.proofs.looked_up.inside_at.Goals as goal

pub returns-in-Ok : goal.returns-in-Ok
returns-in-Ok c =
    let held = c.in-Ok.ensures.position key_of (answers_always _ (λ a r. r ≡ key_of a.0.now) _ (λ f a r q k. search rules)) in
    let rows = c.args.rows.now in
    let x = get_or rows c.in-Ok.pair (record { 0 = 0 }, record { 0 = 0 }, 0) in
    ap (option_map (λ r. r.2)) (found key_total key_of (c.args.pos, c.args.state) rows c.in-Ok.pair x c.requires c.in-Ok.ensures.bound held
    (get_or_default rows c.in-Ok.pair (record { 0 = 0 }, record { 0 = 0 }, 0) x c.in-Ok.ensures.bound))
    ∙ inside_is rows c.args.pos c.args.state

pub returns-in-Err : goal.returns-in-Err
returns-in-Err c =
    let pair = c.in-Err.ensures.position key_of (answers_always _ (λ a r. r ≡ key_of a.0.now) _ (λ f a r q k. search rules)) in
    ap (option_map (λ r. r.2)) (lost key_total key_of (c.args.pos, c.args.state) c.args.rows.now _ c.requires pair) ∙ inside_is c.args.rows.now c.args.pos c.args.state
