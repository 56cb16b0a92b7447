use Rattle.std.proofs.Common.{◌≡◌, ℕ, ◌<◌, List, length, sym, ap, ◌∙◌}
use Rattle.std.specs.Prelude.{get_or, slice_index}
use Rattle.std.specs.Ordering.{nat_cmp}
use Rattle.std.proofs.lemmas.Option.{slice_get-get_or, get_or_from_slice_get}
use Rattle.cw_certs.specs.Strategies.{how_of}
use Rattle.cw_certs.specs.declared.strategy.How.{How as HowData}
use Rattle.cw_fixpoint.specs.Numbers.{number_in}
use Rattle.cw_lemmas.proofs.Options.{if_ok}
use Rattle.cw_product.specs.Product.{game_of}
use Rattle.cw_least_strategy.specs.Acts.{act_of}
use Rattle.cw_least_strategy.specs.Parts.{how_in}
use Rattle.cw_least_strategy.specs.Small.{wholes}
use Rattle.cw_least_strategy.specs.Strategies.{how_by}
use Rattle.cw_least_strategy.proofs.Small.{its_number}
use Rattle.cw_least_strategy.proofs.rows.how_at.Goals as goal

-- what stands at an index, whichever number stands for none
stands : (aims : List ℕ) (n aim : ℕ) → n < length aims → aim ≡ get_or aims n aim → aim ≡ slice_index aims n
stands aims n aim within is = is ∙ sym (get_or_from_slice_get aims n (get_or aims n aim) 0 (slice_get-get_or aims n aim within))

pub how_by-requires-clause-near : goal.how_by-requires-clause-near
how_by-requires-clause-near c =
    let aims = c.args.aims.now in
    let n = c.args.key.now.aim in
    ap (λ (e : ℕ). number_in nat_cmp aims e) (stands aims n c.index-aims-key.result c.requires.within c.index-aims-key.is)
    ∙ its_number aims c.requires.ranked.ascend.order n c.requires.within

pub returns : goal.returns
returns c =
    let aims = c.args.aims.now in
    let keys = c.args.keys.now in
    let aim = stands aims c.args.key.now.aim c.index-aims-key.result c.requires.within c.index-aims-key.is in
    if_ok (λ (h : HowData). how_of h ≡ how_by (wholes aims keys) (act_of c.index-aims-key.result c.args.act.now))
    (λ (h : HowData). how_of h ≡ how_in (game_of c.args.solved.now.game) aims keys c.args.key.now)
    c.how_by.result c.how_by.ensures
    (λ h e. e ∙ ap (λ (x : ℕ). how_by (wholes aims keys) (act_of x c.args.act.now)) aim ∙ ap (how_by (wholes aims keys)) c.requires.done)
