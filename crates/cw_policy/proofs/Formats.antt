-- A key that a format doesn't know stands in no tree of the format.
use Rattle.std.proofs.Common.{◌≡◌, ℕ, List, Bool, true, false, Option, Some, None, refl, sym, ap, ◌∙◌, subst}
use Rattle.std.specs.Prelude.{codes}
use Rattle.std.specs.Str.{bytes_eq}
use Rattle.std.specs.declared.cmp.Ordering.{Ordering}
use Rattle.std.specs.declared.cmp.Ordering.TheVariants.{Less, Equal, Greater}
use Rattle.std.specs.Ordering.{nat_cmp, is_eq, match_ordering}
use Rattle.std.specs.Cmp.Lexicographic.{slice_cmp}
use Rattle.std.proofs.lemmas.Bool.{and_parts, true≢false}
use Rattle.std.proofs.lemmas.Map.Text.{is_eq-slice_cmp}
use Rattle.std.proofs.lemmas.Slice.Eq.{bytes_eq-Decides}
use Rattle.toml.specs.Data.{Data, Members, no_members, member, get_member}
use Rattle.cw_rights.specs.Policies.{PlainPolicy}
use Rattle.cw_policy.specs.declared.keys.Key.{Key}
use Rattle.cw_policy.specs.declared.keys.Section.TheVariants.{Root}
use Rattle.cw_policy.specs.Keys.{keys_of}
use Rattle.cw_policy.specs.Form.{is_listed, has_only, items_at, format_of}
use Rattle.cw_policy.specs.Names.{names_of}
use Rattle.cw_policy.specs.Answer.{FormatOneDetachesNone}
use Rattle.cw_policy.proofs.Formed.{formed}
use Rattle.cw_policy.proofs.Whole.{early_parts}

passed : (o : Ordering) (a b : Option Data) → is_eq o ≡ false → match_ordering o a b a ≡ a
passed Less a b e = refl
passed Equal a b e = absurd (true≢false e)
passed Greater a b e = refl

-- a value at another key is passed over
pub other_key : (w v : List ℕ) (d : Data) (rest : Members) → bytes_eq w v ≡ false → get_member w (member v d rest) ≡ get_member w rest
other_key w v d rest e = passed (slice_cmp nat_cmp w v) (get_member w rest) (Some d) (is_eq-slice_cmp w v ∙ e)

-- of two keys one of which passes a test that the other doesn't pass
pub told_apart : (p : List ℕ → Bool) (w v : List ℕ) → p w ≡ false → p v ≡ true → bytes_eq w v ≡ false
told_apart p w v e h = by (bytes_eq w v) refl
  where
    by : (b : Bool) → bytes_eq w v ≡ b → b ≡ false
    by false s = refl
    by true s = absurd (true≢false (sym h ∙ ap p (sym ((bytes_eq-Decides w v).0 s)) ∙ e))

not_there : (format : ℕ) (keys : List Key) (w : List ℕ) (ms : Members) → is_listed format keys w ≡ false → has_only format keys ms ≡ true → get_member w ms ≡ None
not_there format keys w no_members e h = refl
not_there format keys w (member v d rest) e h =
    let both = and_parts (is_listed format keys v) (has_only format keys rest) h in
    other_key w v d rest (told_apart (is_listed format keys) w v e both.0) ∙ not_there format keys w rest e both.1

pub detaches_none : FormatOneDetachesNone
detaches_none text p s one =
    let ms = s.tree in
    let first : format_of ms ≡ 1 = sym (ap (λ (x : PlainPolicy). x.format) s.has.is) ∙ one in
    let unlisted : is_listed (format_of ms) (keys_of Root) (codes "detached") ≡ false = subst (λ n. is_listed n (keys_of Root) (codes "detached") ≡ false) (sym first) refl in
    let only = (formed ms (early_parts ms s.has.early).form).only in
    let none = not_there (format_of ms) (keys_of Root) (codes "detached") ms unlisted only in
    ap (λ (x : PlainPolicy). x.detached) s.has.is ∙ ap (λ o. names_of (items_at o)) none
