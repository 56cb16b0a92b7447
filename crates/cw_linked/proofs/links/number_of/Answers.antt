use Rattle.std.proofs.Common.{◌≡◌, ◌++◌, ◌∷◌, [], ◌∙◌, List, Some, length, refl, ap, subst, arith, inl, inr}
use Rattle.std.specs.Prelude.{slice_get, Contains}
use Rattle.cw_lemmas.proofs.Lists.{get_last}
use Rattle.cw_product.specs.Product.{game_of}
use Rattle.cw_solve.specs.declared.contexts.Context.{Context}
use Rattle.cw_solve.specs.Indexed.{AreListed}
use Rattle.cw_solve.proofs.Fresh.{longer_tabled}
use Rattle.cw_solve.proofs.Tabling.{there}
use Rattle.cw_linked.proofs.Targets.{firm_open}
use Rattle.cw_linked.proofs.links.number_of.Goals as goal

pub returns-in-Some-clause-number : goal.returns-in-Some-clause-number
returns-in-Some-clause-number c =
    let d = c.args.context.now in
    record {
      there = subst (λ (cs : List Context). slice_get cs c.in-Some.number ≡ Some d) c.deref.ensures.value c.in-Some.ensures.some;
      grows = inl refl;
    }

pub size-requires-clause-there : goal.size-requires-clause-there
size-requires-clause-there c = there (game_of c.args.game.now) (length c.args.game.now.graph.parts.items) c.requires.routed c.args.context.now c.requires.needed

pub returns-then-indices-size-clause-number : goal.returns-then-indices-size-clause-number
returns-then-indices-size-clause-number c =
    let w = c.args.work.now in
    let d = c.args.context.now in (
      refl,
      record {
        missing = record {
          needed = c.requires.needed;
          new = subst (λ (cs : List Context). AreListed c.args.indices.now cs → Contains cs d → ⊥) c.deref.ensures.value c.in-None.ensures.none c.requires.listed.listed;
        };
        many = omega (arith, c.indices.ensures, c.requires.firm.long.flags, c.size.ensures.is, c.if-indices-size.true);
      },
    )

pub add_indexed-requires-clause-kept : goal.add_indexed-requires-clause-kept
add_indexed-requires-clause-kept c = firm_open (game_of c.args.game.now) c.args.work.now c.requires.firm

pub add_indexed-requires-clause-contexts : goal.add_indexed-requires-clause-contexts
add_indexed-requires-clause-contexts c =
    let g = game_of c.args.game.now in
    let w = c.args.work.now in
    let d = c.args.context.now in
    let new = subst (λ (cs : List Context). AreListed c.args.indices.now cs → Contains cs d → ⊥) c.deref.ensures.value c.in-None.ensures.none c.requires.listed.listed in
    (longer_tabled g (length c.args.game.now.graph.parts.items) c.requires.routed w.blocks c.requires.firm.known.blocks d (record { needed = c.requires.needed; new = new })
    (w.blocks.contexts.items ++ d ∷ []) refl
    (omega (arith, c.indices.ensures, c.requires.firm.long.flags, c.requires.firm.known.cells, c.size.ensures.is, c.if-indices-size.false)) (omega (arith, c.size.ensures.is, c.size.ensures.some))).0

pub returns-in_ok-add_indexed-in-None-clause-number : goal.returns-in_ok-add_indexed-in-None-clause-number
returns-in_ok-add_indexed-in-None-clause-number c =
    let w = c.args.work.now in
    let new = c.add_indexed.new.work in
    let d = c.args.context.now in
    let here : c.len-number.result ≡ length w.blocks.contexts.items = omega (arith, c.len-number.ensures, w.blocks.contexts.ok.0) in
    record {
      there = ap (slice_get new.blocks.contexts.items) here ∙ ap (λ (cs : List Context). slice_get cs (length w.blocks.contexts.items)) c.in_ok-add_indexed-in-None.ensures.adds.contexts
          ∙ get_last w.blocks.contexts.items d;
      grows = inr c.in_ok-add_indexed-in-None.ensures.adds;
    }
