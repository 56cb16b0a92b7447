-- What each token is, for who walks over them.
use Rattle.std.proofs.Common.{◌≡◌, ℕ, ◌-◌, ◌≤◌, List, [], ◌∷◌, length, drop, arith, length-drop, length-take}
use Rattle.std.specs.List.{AllByRecursion}
use Rattle.cw_syntax.specs.Names.{slice}
use Rattle.cw_lex.specs.declared.tokens.Token.{Token}
use Rattle.cw_lex.specs.Tokens.{AreTokens}
use Rattle.cw_lex.specs.Listed.{AreInOrder, AreOfTheirKind, IsTokenOf}
use Rattle.cw_lex.proofs.Ordered.{tokens_in_order, tokens_of_their_kind}

pub order_within : (from to : ℕ) (ts : List Token) → AreInOrder from to ts → from ≤ to
order_within from to [] h = h
order_within from to (t ∷ ts) h =
    let rest = order_within t.to to ts h.2 in
    let first = h.0 in
    let some = h.1 in omega arith

each : (source : List ℕ) (from : ℕ) (ts : List Token) → AreInOrder from (length source) ts → AreOfTheirKind source ts → AllByRecursion (IsTokenOf source) ts
each source from [] h k = tt
each source from (t ∷ ts) h k = (record { some = h.1; within = order_within t.to (length source) ts h.2; alone = k.0 }, each source t.to ts h.2 k.1)

pub each_token : (source : List ℕ) (ts : List Token) → AreTokens source ts → AllByRecursion (IsTokenOf source) ts
each_token source ts h = each source 0 ts (tokens_in_order source ts h) (tokens_of_their_kind source ts h)

pub slice_long : (source : List ℕ) (t : Token) → IsTokenOf source t → length (slice source t.from t.to) ≡ t.to - t.from
slice_long source t h =
    let some = h.some in
    let within = h.within in
    omega (arith, length-take (t.to - t.from) (drop t.from source), length-drop t.from source)
