-- Names by how they begin.
use Rattle.std.proofs.Common.{◌≡◌, ◌∙◌, ◌<◌, ◌+◌, ◌-◌, ℕ, List, Bool, true, false, ◌||◌, None, take, drop, length, codes, slice_index, slice_index_or, refl, ap, ap₂, arith}
use Rattle.std.specs.List.{find}
use Rattle.std.specs.Str.{bytes_eq}
use Rattle.std.proofs.lemmas.List.{get_or-drop, get_or-take, length-take}
use Rattle.std.proofs.lemmas.Slice.Eq.{bytes_eq-Decides}
use Rattle.cw_syntax.specs.declared.program.Name.{Name}
use Rattle.cw_syntax.specs.Names.{text}
use Rattle.cw_syntax.specs.Trees.{Definition}
use Rattle.cw_scope.specs.Known.{Begin}
use Rattle.cw_scope.specs.Rules.{is_reserved}

-- the first byte of a name that has bytes
first_byte : (source : List ℕ) (name : Name) → name.from < name.to → slice_index (text source name) 0 ≡ slice_index source name.from
first_byte source name some =
    let before : 0 < name.to - name.from = omega (arith, some) in
    let place : name.from + 0 ≡ name.from = omega arith in
    get_or-take (name.to - name.from) (drop name.from source) 0 0 before ∙ get_or-drop name.from source 0 0 ∙ ap (λ i. slice_index source i) place

-- a name that begins as none of the functions'
pub unfound : (source : List ℕ) (functions : List Definition) (flags : List Bool) (name : Name) → Begin source functions flags → name.from < name.to
    → slice_index_or flags (slice_index source name.from) false ≡ false → find (λ f. bytes_eq (text source name) (text source f.name)) functions ≡ None
unfound source functions flags name begin some unmarked = begin (text source name) (ap (λ byte. slice_index_or flags byte false) (first_byte source name some) ∙ unmarked)

-- a text that is shorter than another
shorter : (t other : List ℕ) → length t < length other → bytes_eq t other ≡ false
shorter t other less = by (bytes_eq t other) refl
  where
    by : (b : Bool) → bytes_eq t other ≡ b → b ≡ false
    by false e = refl
    by true e =
        let same : length t ≡ length other = ap length ((bytes_eq-Decides t other).0 e) in
        absurd (omega (arith, same, less))

-- and a name that is shorter than those that are kept
pub unreserved : (source : List ℕ) (name : Name) → name.to - name.from < 3 → is_reserved (text source name) ≡ false
unreserved source name short =
    let t = text source name in
    let less : length (take 3 t) < 3 = omega (arith, length-take 3 t, length-take (name.to - name.from) (drop name.from source), short) in
    ap₂ (λ a b. a || b) (shorter (take 3 t) (codes "cw_") less) (shorter (take 3 t) (codes "CW_") less)
