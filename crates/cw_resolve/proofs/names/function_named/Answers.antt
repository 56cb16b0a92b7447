use Rattle.std.proofs.Common.{◌≡◌, ◌∙◌, ◌<◌, ◌≤◌, Bool, true, List, get_or, ap, length, map, sym, rules, arith}
use Rattle.std.specs.Str.{bytes_eq}
use Rattle.cw_syntax.specs.declared.program.Function.{Function}
use Rattle.cw_syntax.specs.Names.{text}
use Rattle.cw_syntax.specs.Trees.{definition_of}
use Rattle.cw_resolve.proofs.Indices.{seeks_found, seeks_none, position_map}
use Rattle.cw_resolve.proofs.names.function_named.Goals as goal

pub returns-then-is_same : goal.returns-then-is_same
returns-then-is_same c =
    let xs = c.args.checked.now.program.functions.items in
    let source = c.args.checked.now.source.now in
    let name = c.args.name.now in
    let q : Function → Bool = λ f. bytes_eq name (text source f.name) in
    let x = c.f-item.result in
    let is : x ≡ get_or xs c.loop-i.i x = c.f-item.is ∙ ap (λ (l : List Function). get_or l c.loop-i.i x) c.deref-f-items.ensures.value in
    let l : c.loop-i.i < length xs = omega arith in
    let t : q x ≡ true = search rules in
    record {
      number = seeks_found q xs c.loop-i.i x l is t c.loop-i.invariant
          ∙ sym (position_map (λ f. bytes_eq name (text source f.name)) definition_of xs)
          ∙ sym (position_map (bytes_eq name) (λ f. text source f.name) (map definition_of xs));
    }

pub returns : goal.returns
returns c =
    let xs = c.args.checked.now.program.functions.items in
    let source = c.args.checked.now.source.now in
    let name = c.args.name.now in
    let q : Function → Bool = λ f. bytes_eq name (text source f.name) in
    let l : length xs ≤ c.loop-i.i = omega arith in
    record {
      number = seeks_none q xs c.loop-i.i l c.loop-i.invariant
          ∙ sym (position_map (λ f. bytes_eq name (text source f.name)) definition_of xs)
          ∙ sym (position_map (bytes_eq name) (λ f. text source f.name) (map definition_of xs));
    }
