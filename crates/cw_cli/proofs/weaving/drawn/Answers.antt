use Rattle.std.proofs.Common.{Result, Ok, Err, inl, inr}
use Rattle.std.specs.Result.{IfErr}
use Rattle.std.proofs.lemmas.Result.{err_from_is_err_and}
use Rattle.cw_lemmas.proofs.Options.{if_ok}
use Rattle.cw_stages.specs.Stops.{source_of}
use Rattle.cw_cli.proofs.weaving.drawn.Goals as goal

pub returns-in_err-fits : goal.returns-in_err-fits
returns-in_err-fits c =
    let p = err_from_is_err_and c.from_residual.result c.from_residual.ensures.1 in
    record {
      fits = rw p.1 tt;
      none = rw p.1 tt;
      few = rw p.1 tt;
      graph = rw p.1 tt;
      points = rw p.1 tt;
      stop = rw (p.1, p.2) (λ due r. inl (c.in_err-fits.ensures.stop due r));
    }

pub returns-in_err-attaches : goal.returns-in_err-attaches
returns-in_err-attaches c =
    let p = err_from_is_err_and c.from_residual-in_err-attaches.result c.from_residual-in_err-attaches.ensures.1 in
    record {
      fits = rw p.1 tt;
      none = rw p.1 tt;
      few = rw p.1 tt;
      graph = rw p.1 tt;
      points = rw p.1 tt;
      stop = rw (p.1, p.2) (λ due r. inr (c.in_ok-fits.ensures.fits, inl (c.in_err-attaches.ensures.stop (source_of c.args.reading.now) due r)));
    }

-- what follows from why there is no result
if_err : {A E : Type 0} (P Q : E → Type 0) (r : Result A E) → IfErr r P → ((e : E) → P e → Q e) → IfErr r Q
if_err P Q (Ok a) p h = p
if_err P Q (Err e) p h = h e p

pub returns : goal.returns
returns c = record {
  fits = if_ok _ _ c.draw.result c.draw.ensures.graph (λ graph is. c.in_ok-fits.ensures.fits);
  none = if_ok _ _ c.draw.result c.draw.ensures.graph (λ graph is. c.in_ok-attaches.ensures.none);
  few = c.draw.ensures.few;
  graph = c.draw.ensures.graph;
  points = c.draw.ensures.points;
  stop = if_err _ _ c.draw.result c.draw.ensures.stop (λ stop is due r. inr (c.in_ok-fits.ensures.fits, inr (c.in_ok-attaches.ensures.none, inl (is due r))));
}
