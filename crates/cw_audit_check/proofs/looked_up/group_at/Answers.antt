-- By the order of the keys, which is total.
use Rattle.std.proofs.Common.{◌≡◌, ◌∙◌, ap, rules, option_map}
use Rattle.std.proofs.lemmas.List.Sorted.{answers_always}
use Rattle.cw_audit_table.specs.Tables.{group_of}
use Rattle.cw_lemmas.proofs.Found.{found, lost}
use Rattle.cw_audit_check.proofs.LookUps.{group_is, group_total, group_key}
use Rattle.cw_audit_check.proofs.looked_up.group_at.Goals as goal

pub returns-in-Ok : goal.returns-in-Ok
returns-in-Ok c =
    let held = c.in-Ok.ensures.position group_key (answers_always _ (λ a r. r ≡ group_key a.0.now) _ (λ f a r q k. search rules)) in
    ap (option_map group_of) (found group_total group_key (c.args.function, c.args.entered) c.args.groups.now c.in-Ok.pair c.index-groups-pair.result c.requires c.in-Ok.ensures.bound held
    c.index-groups-pair.is) ∙ group_is c.args.groups.now c.args.function c.args.entered

pub returns-in-Err : goal.returns-in-Err
returns-in-Err c =
    let pair = c.in-Err.ensures.position group_key (answers_always _ (λ a r. r ≡ group_key a.0.now) _ (λ f a r q k. search rules)) in
    ap (option_map group_of) (lost group_total group_key (c.args.function, c.args.entered) c.args.groups.now _ c.requires pair)
    ∙ group_is c.args.groups.now c.args.function c.args.entered
