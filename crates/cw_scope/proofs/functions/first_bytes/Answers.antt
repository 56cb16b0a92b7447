use Rattle.std.proofs.Common.{◌≡◌, ◌+◌, ◌-◌, ◌<◌, length, arith, sym, ◌∙◌, ap, get_or}
use Rattle.std.proofs.lemmas.List.{length-set}
use Rattle.cw_scope.proofs.Firsts.{begin_more}
use Rattle.cw_scope.proofs.functions.first_bytes.Goals as goal

pub loop-at-preserved : goal.loop-at-preserved
loop-at-preserved c =
    let short : c.loop-at.at - 1 < length c.args.functions.now = omega (arith, c.loop-at.invariant.0, c.loop-at-test.true) in
    let next : c.loop-at.at - 1 + 1 ≡ c.loop-at.at = omega (arith, c.loop-at-test.true) in
    let byte = c.first_byte-byte.result in
    let size = c.loop-at.invariant.1 in
    let small : byte < length c.loop-at.begins = omega (arith, size, c.first_byte-byte.type_inv) in (
      omega (arith, short),
      length-set c.loop-at.begins byte _ ∙ size,
      begin_more c.args.source.now c.index-functions-at.result c.args.functions.now (c.loop-at.at - 1) byte c.loop-at.begins short (sym c.index-functions-at.is)
          (c.first_byte-byte.ensures ∙ ap (λ z. get_or z 0 0) c.text.ensures.bytes) small (rw next c.loop-at.invariant.2),
    )
