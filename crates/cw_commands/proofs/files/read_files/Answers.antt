use Rattle.std.proofs.Common.{ℕ, ◌+◌, ◌<◌, List, [], ◌∷◌, length, map, take, get_or, not, inl, inr, refl, sym, ap, ◌∙◌, subst, arith}
use Rattle.std.proofs.lemmas.List.{length-map, map-append}
use Rattle.std.proofs.lemmas.Option.{slice_get-get_or}
use Rattle.std.specs.Borrow.{Bor}
use Rattle.std.proofs.Common.{⊎_elim}
use Rattle.cw_core.specs.declared.quantity.Quantity.TheVariants.{PolicyBytes}
use Rattle.cw_commands.specs.Files.{first, HaveBytes}
use Rattle.cw_commands.proofs.Reading.{fault_later, has_same, placed_at, read_more}
use Rattle.cw_commands.proofs.Collected.{operand_at}
use Rattle.cw_commands.proofs.files.read_files.Goals as goal

pub returns-in-Err-clause-unread : goal.returns-in-Err-clause-unread
returns-in-Err-clause-unread g c =
    let files = g.F.Shelf.files c.args.shelf.now in
    let names = c.args.names.now in
    let index = c.loop-index.index in
    let bytes = map (λ file. file.items) c.loop-index.files.items in
    let lt : index < length names = omega (arith, c.loop-index-test.true) in
    let ltq : index < length c.args.quantities.now = omega (arith, lt, c.requires.many) in
    let name = (operand_at names index).now in
    let named = placed_at names index lt in
    let same_first = c.first.ensures ∙ ap (λ fs. first (map (λ file. file.items) fs)) c.deref.ensures.value in
    ⊎_elim
    (λ e. inl e)
    (λ h. inr (record {
      index = index;
      quantity = get_or c.args.quantities.now index PolicyBytes;
      name = name;
      before = bytes;
      is_quantity = slice_get-get_or c.args.quantities.now index PolicyBytes ltq;
      is_name = named;
      read = c.loop-index.invariant.read;
      fault = fault_later (g.F.Shelf.faults c.args.shelf.now) (g.F.Shelf.faults c.loop-index.shelf) (g.F.Shelf.faults c.read_file.new.shelf) c.loop-index.invariant.later
          files (g.F.Shelf.files c.loop-index.shelf) (first bytes) c.first.result.now (get_or c.args.quantities.now index PolicyBytes) name name c.without.result
          c.loop-index.invariant.same same_first refl h;
    }))
    (c.without.ensures (g.F.Shelf.files c.loop-index.shelf) (g.F.Shelf.faults c.loop-index.shelf) (g.F.Shelf.faults c.read_file.new.shelf) c.first.result.now c.in-Err.ensures.unread)

pub loop-index-preserved : goal.loop-index-preserved
loop-index-preserved g c = record {
  same = c.read_file.ensures.same ∙ c.loop-index.invariant.same;
  later = λ other. omega (arith, c.read_file.ensures.later other, c.loop-index.invariant.later other);
  read =
      let names = c.args.names.now in
      let index = c.loop-index.index in
      let quantities = c.args.quantities.now in
      let old = c.loop-index.files.items in
      let bytes = map (λ file. file.items) old in
      let lt : index < length names = omega (arith, c.loop-index-test.true) in
      let ltq : index < length quantities = omega (arith, lt, c.requires.many) in
      let ltn : index < length (map (λ (n : Bor (List ℕ)). n.now) names) = omega (arith, lt, length-map names (λ (n : Bor (List ℕ)). n.now)) in
      let q = get_or quantities index PolicyBytes in
      let name = (operand_at names index).now in
      let named = placed_at names index lt in
      let same_first = c.first.ensures ∙ ap (λ fs. first (map (λ file. file.items) fs)) c.deref.ensures.value in
      let has = has_same (g.F.Shelf.files c.args.shelf.now) (g.F.Shelf.files c.loop-index.shelf) (first bytes) c.first.result.now q name name c.in-Ok.bytes.items
      c.loop-index.invariant.same same_first refl c.in-Ok.ensures.read in
      let more = read_more (g.F.Shelf.files c.args.shelf.now) quantities (map (λ name. name.now) names) bytes index q name c.in-Ok.bytes.items ltq ltn
      (slice_get-get_or quantities index PolicyBytes ltq) named c.loop-index.invariant.read has in
      let ok = c.is_err.ensures.negation ∙ ap not c.if-is_err.false in
      let pushed = rw ok at c.push.ensures.items in
      let items = ap (map (λ file. file.items)) pushed ∙ map-append (λ file. file.items) old (c.in-Ok.bytes ∷ []) in
      subst (λ (x : List (List ℕ)). HaveBytes (g.F.Shelf.files c.args.shelf.now) [] (take (index + 1) quantities) (take (index + 1) (map (λ name. name.now) names)) x) (sym items) more;
}
