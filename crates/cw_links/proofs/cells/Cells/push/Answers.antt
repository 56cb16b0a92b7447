use Rattle.std.proofs.Common.{◌≡◌, ◌+◌, ◌-◌, ◌++◌, ℕ, List, length, map, replicate, take, refl, ap, ◌∙◌, arith}
use Rattle.std.proofs.lemmas.Bool.{cond-true}
use Rattle.std.proofs.lemmas.List.{take_all}
use Rattle.cw_links.specs.Cells.{Celled, height_in, key_in}
use Rattle.cw_links.proofs.CellNumbers.{told_more}
use Rattle.cw_links.proofs.cells.Cells.push.Goals as goal

resized : (xs : List ℕ) (many count long : ℕ) → count ≡ length xs → long ≡ length xs → take (count + many) xs ++ replicate (count + many - long) 0 ≡ xs ++ replicate many 0
resized xs many count long is_count is_long =
    let all : take (count + many) xs ≡ xs = take_all (count + many) xs (omega (arith, is_count)) in
    let rest : count + many - long ≡ many = omega (arith, is_count, is_long) in
    rw (all, rest) refl

longer : (c : goal.After-resize) → c.resize.new.self.items ≡ c.self.inside.numbers.items ++ replicate c.args.many 0
longer c =
    let numbers = c.self.inside.numbers in
    let spare = ap (λ (k : Celled). k.spare) c.self.view_is in
    c.resize.ensures.items ∙ cond-true _ _ _ (c.resize.ensures.succeeds (omega (arith, spare, c.requires.room, c.len.ensures)))
    ∙ resized numbers.items c.args.many c.len.result numbers.len (c.len.ensures ∙ numbers.ok.0) numbers.ok.0

pub returns-clause-heights : goal.returns-clause-heights
returns-clause-heights c =
    ap (λ (ws : List ℕ). map height_in ws) (longer c) ∙ told_more height_in refl c.self.inside.numbers.items c.args.many
    ∙ ap (λ (k : Celled). k.heights ++ replicate c.args.many 0) c.self.view_is

pub returns-clause-asked : goal.returns-clause-asked
returns-clause-asked c =
    ap (λ (ws : List ℕ). map key_in ws) (longer c) ∙ told_more key_in refl c.self.inside.numbers.items c.args.many
    ∙ ap (λ (k : Celled). k.asked ++ replicate c.args.many 0) c.self.view_is
