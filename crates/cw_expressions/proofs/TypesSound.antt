-- What is read as a type is one.
use Rattle.std.proofs.Common.{◌≡◌, ℕ, ◌<◌, Bool, true, false, cond, List, [], ◌∷◌, ◌++◌, length, Err, refl, sym, ap, ◌∙◌, append_assoc, arith, length-append, inl, inr}
use Rattle.std.specs.Prelude.{IfOk}
use Rattle.cw_syntax.specs.declared.program.CType.{CType}
use Rattle.cw_syntax.specs.declared.program.Base.{Base}
use Rattle.cw_syntax.specs.declared.program.Base.TheVariants as base
use Rattle.cw_grammar.specs.declared.terminals.Lexeme.{Lexeme}
use Rattle.cw_grammar.specs.declared.terminals.Terminal.{Terminal}
use Rattle.cw_grammar.specs.declared.terminals.Terminal.TheVariants as w
use Rattle.cw_grammar.specs.Lexemes.{Is, terminals, from_of, to_of, IsFlag, IsBetween}
use Rattle.cw_grammar.specs.Types.{IsType, AreStars, IsTypeName}
use Rattle.cw_grammar.proofs.SameTerminal.{is_plain}
use Rattle.cw_expressions.specs.declared.refusal.Refusal.TheVariants as refusal
use Rattle.cw_expressions.specs.Cursor.{begins, after, expect}
use Rattle.cw_expressions.specs.TypeReading.{skip, based, unsigned_base, base_of, stars_of, type_name, type_between}
use Rattle.cw_expressions.proofs.Steps.{if_bind, expect_takes, begins_takes, to_of_append}
use Rattle.cw_grammar.proofs.Wording.{terminals_one as alone, terminals_two as paired}

-- past a terminal, where it is next
abbrev pub Skips : Terminal → List Lexeme → List Lexeme → Type 0
Skips terminal ts rest = (flag : Bool) × (a : List Lexeme) × (ts ≡ a ++ rest) × IsFlag terminal a flag

skips_by : (terminal : Terminal) → is_plain terminal ≡ true → (ts : List Lexeme) (b : Bool) → begins terminal ts ≡ b → Skips terminal ts (cond b (after ts) ts)
skips_by terminal plain ts true e =
    let p = begins_takes terminal plain ts e in
    (true, p.0 ∷ [], p.1, ap (λ (z : Terminal). z ∷ []) p.2)
skips_by terminal plain ts false e = (false, [], refl, refl)

pub skips : (terminal : Terminal) → is_plain terminal ≡ true → (ts : List Lexeme) → Skips terminal ts (skip terminal ts)
skips terminal plain ts = skips_by terminal plain ts (begins terminal ts) refl

abbrev pub TakesBase : List Lexeme → (Base × Bool) × List Lexeme → Type 0
TakesBase ts x = (a : List Lexeme) × (ts ≡ a ++ x.1) × (0 < length a) × IsType a x.0.0 x.0.1

abbrev known_type : List Terminal → Base → Bool → List Terminal × (Base × Bool)
known_type ws b unsigned = (ws, (b, unsigned))

is_entry : (a : List Lexeme) (ws : List Terminal) (b : Base) (unsigned : Bool) → terminals a ≡ ws → known_type (terminals a) b unsigned ≡ known_type ws b unsigned
is_entry a ws b unsigned e = ap (λ (z : List Terminal). known_type z b unsigned) e

-- `long`, and `int` where it is next
long_takes : (t : Lexeme) (ts : List Lexeme) → Is w.Long t → TakesBase (t ∷ ts) ((base.Long, false), skip w.Int ts)
long_takes t ts is = by_flag (skips w.Int refl ts) where
  by_flag : Skips w.Int ts (skip w.Int ts) → TakesBase (t ∷ ts) ((base.Long, false), skip w.Int ts)
  by_flag (true, a, e, f) = (t ∷ a, ap (λ (z : List Lexeme). t ∷ z) e, omega arith, inr (inr (inr (inr (inr (inr (inr (inl (is_entry (t ∷ a) (w.Long ∷ w.Int ∷ []) base.Long false (cc))))))))))
  by_flag (false, a, e, f) = (
    t ∷ a,
    ap (λ (z : List Lexeme). t ∷ z) e,
    omega arith,
    inr
        (inr (inr (inr (inr (inr (inl (is_entry (t ∷ a) (w.Long ∷ []) base.Long false (rw f (alone t w.Long is))))))))),
  )

unsigned_long_takes : (u t : Lexeme) (ts : List Lexeme) → Is w.Unsigned u → Is w.Long t → TakesBase (u ∷ t ∷ ts) ((base.Long, true), skip w.Int ts)
unsigned_long_takes u t ts first is = by_flag (skips w.Int refl ts) where
  by_flag : Skips w.Int ts (skip w.Int ts) → TakesBase (u ∷ t ∷ ts) ((base.Long, true), skip w.Int ts)
  by_flag (true, a, e, f) = (
    u ∷ t ∷ a,
    ap (λ (z : List Lexeme). u ∷ t ∷ z) e,
    omega arith,
    inr
        (inr (inr (inr (inr (inr (inr (inr (inr (inl (is_entry (u ∷ t ∷ a) (w.Unsigned ∷ w.Long ∷ w.Int ∷ []) base.Long true (cc))))))))))),
  )
  by_flag (false, a, e, f) = (
    u ∷ t ∷ a,
    ap (λ (z : List Lexeme). u ∷ t ∷ z) e,
    omega arith,
    inr
        (inr (inr (inr (inr (inr (inr (inr (inl (is_entry (u ∷ t ∷ a) (w.Unsigned ∷ w.Long ∷ []) base.Long true (rw f (paired u t w.Unsigned w.Long first is))))))))))),
  )

unsigned_alone : (u : Lexeme) (ts : List Lexeme) → Is w.Unsigned u → TakesBase (u ∷ ts) ((base.Int, true), ts)
unsigned_alone u ts is = (u ∷ [], refl, omega arith, inr (inr (inr (inr (inr (inl (is_entry (u ∷ []) (w.Unsigned ∷ []) base.Int true (alone u w.Unsigned is))))))))

unsigned_by_terminal : (u t : Lexeme) (ts : List Lexeme) → Is w.Unsigned u → (terminal : Terminal) → Is terminal t
    → IfOk (elim terminal [ w.Char ↦ based base.Char true ts | w.Int ↦ based base.Int true ts | w.Long ↦ based base.Long true (skip w.Int ts) | _ ↦ based base.Int true (t ∷ ts) ])
    (TakesBase (u ∷ t ∷ ts))
unsigned_by_terminal u t ts first w.Char is = (u ∷ t ∷ [], refl, omega arith, inr (inr (inl (is_entry (u ∷ t ∷ []) (w.Unsigned ∷ w.Char ∷ []) base.Char true (paired u t w.Unsigned w.Char first is)))))
unsigned_by_terminal u t ts first w.Int is = (
  u ∷ t ∷ [],
  refl,
  omega arith,
  inr
      (inr (inr (inr (inl (is_entry (u ∷ t ∷ []) (w.Unsigned ∷ w.Int ∷ []) base.Int true (paired u t w.Unsigned w.Int first is)))))),
)
unsigned_by_terminal u t ts first w.Long is = unsigned_long_takes u t ts first is
unsigned_by_terminal u t ts first _ is = unsigned_alone u (t ∷ ts) first

unsigned_takes : (u : Lexeme) (ts : List Lexeme) → Is w.Unsigned u → IfOk (unsigned_base ts) (TakesBase (u ∷ ts))
unfolding unsigned_base
unsigned_takes u [] is = unsigned_alone u [] is
unsigned_takes u (t ∷ ts) is = unsigned_by_terminal u t ts is t.terminal refl

base_by_terminal : (t : Lexeme) (ts : List Lexeme) (terminal : Terminal) → Is terminal t
    → IfOk (elim terminal [
      | w.Void ↦ based base.Void false ts
      | w.Char ↦ based base.Char false ts
      | w.Int ↦ based base.Int false ts
      | w.Long ↦ based base.Long false
          (skip w.Int ts)
      | w.Unsigned ↦ unsigned_base ts
      | _ ↦ Err refusal.Syntax
    ]) (TakesBase (t ∷ ts))
base_by_terminal t ts w.Void is = (t ∷ [], refl, omega arith, inl (is_entry (t ∷ []) (w.Void ∷ []) base.Void false (alone t w.Void is)))
base_by_terminal t ts w.Char is = (t ∷ [], refl, omega arith, inr (inl (is_entry (t ∷ []) (w.Char ∷ []) base.Char false (alone t w.Char is))))
base_by_terminal t ts w.Int is = (t ∷ [], refl, omega arith, inr (inr (inr (inl (is_entry (t ∷ []) (w.Int ∷ []) base.Int false (alone t w.Int is))))))
base_by_terminal t ts w.Long is = long_takes t ts is
base_by_terminal t ts w.Unsigned is = unsigned_takes t ts is
base_by_terminal t ts _ is = tt

pub base_takes : (ts : List Lexeme) → IfOk (base_of ts) (TakesBase ts)
unfolding base_of
base_takes [] = tt
base_takes (t ∷ ts) = base_by_terminal t ts t.terminal refl

abbrev pub TakesStars : List Lexeme → ℕ × List Lexeme → Type 0
TakesStars ts x = (a : List Lexeme) × (ts ≡ a ++ x.1) × AreStars a x.0

abbrev stars_by : (one two : Bool) → List Lexeme → ℕ × List Lexeme
stars_by one two ts = cond one (cond two (2, after (after ts)) (1, after ts)) (0, ts)

stars_take_by : (ts : List Lexeme) (one two : Bool) → begins w.Star ts ≡ one → begins w.Star (after ts) ≡ two → TakesStars ts (stars_by one two ts)
stars_take_by ts true true e f =
    let p = begins_takes w.Star refl ts e in
    let q = begins_takes w.Star refl (after ts) f in
    (p.0 ∷ q.0 ∷ [], p.1 ∙ ap (λ (z : List Lexeme). p.0 ∷ z) q.1, (omega arith, paired p.0 q.0 w.Star w.Star p.2 q.2))
stars_take_by ts true false e f =
    let p = begins_takes w.Star refl ts e in
    (p.0 ∷ [], p.1, (omega arith, alone p.0 w.Star p.2))
stars_take_by ts false two e f = ([], refl, (omega arith, refl))

pub stars_take : (ts : List Lexeme) → TakesStars ts (stars_of ts)
unfolding stars_of
stars_take ts = stars_take_by ts (begins w.Star ts) (begins w.Star (after ts)) refl refl

abbrev pub TakesTypeName : List Lexeme → CType × List Lexeme → Type 0
TakesTypeName ts x = (a : List Lexeme) × (ts ≡ a ++ x.1) × (0 < length a) × IsTypeName a x.0

pub type_name_takes : (ts : List Lexeme) → IfOk (type_name ts) (TakesTypeName ts)
unfolding type_name
type_name_takes ts =
    let c = skips w.Const refl ts in
    if_bind (base_of (skip w.Const ts)) _ _ _ (base_takes (skip w.Const ts)) (λ b p.
    let s = stars_take b.1 in
    let some = p.2 in (
      c.1 ++ (p.0 ++ s.0),
      c.2 ∙ ap (λ (z : List Lexeme). c.1 ++ z) (p.1 ∙ ap (λ (z : List Lexeme). p.0 ++ z) s.1 ∙ sym (append_assoc p.0 s.0 (stars_of b.1).1)) ∙ sym (append_assoc c.1 (p.0 ++ s.0) (stars_of b.1).1),
      omega (arith, some, length-append c.1 (p.0 ++ s.0), length-append p.0 s.0),
      (c.0, c.1, p.0, s.0, refl, c.3, p.3, s.2),
    ))

abbrev pub TakesTypeBetween : List Lexeme → (CType × (ℕ × ℕ)) × List Lexeme → Type 0
TakesTypeBetween ts x = (a : List Lexeme) × (ts ≡ a ++ x.1) × (0 < length a) × IsBetween w.Open w.Close IsTypeName a x.0.0 × (x.0.1.0 ≡ from_of a) × (x.0.1.1 ≡ to_of a)

pub type_between_takes : (ts : List Lexeme) → IfOk (type_between ts) (TakesTypeBetween ts)
unfolding type_between
type_between_takes ts =
    if_bind (expect w.Open ts) _ _ _ (expect_takes w.Open refl ts) (λ o p.
    if_bind (type_name o.1) _ _ _ (type_name_takes o.1) (λ k q.
    if_bind (expect w.Close k.1) _ _ _ (expect_takes w.Close refl k.1) (λ c r. (
      o.0 ∷ q.0 ++ c.0 ∷ [],
      p.0 ∙ ap (λ (z : List Lexeme). o.0 ∷ z) (q.1 ∙ ap (λ (z : List Lexeme). q.0 ++ z) r.0 ∙ sym (append_assoc q.0 (c.0 ∷ []) c.1)),
      omega arith,
      (o.0, q.0, c.0, refl, p.1, r.1, q.3),
      refl,
      sym (to_of_append (o.0 ∷ q.0) (c.0 ∷ []) (omega arith)),
    ))))
