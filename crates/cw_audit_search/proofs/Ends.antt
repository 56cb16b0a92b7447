-- What a settled search says of each table of the game.
use Rattle.std.proofs.Common.{◌≡◌, ℕ, ◌+◌, ◌<◌, ◌≤◌, true, Option, Some, None, refl, sym, ◌∙◌, subst, arith, ◌⊎◌, inl, inr}
use Rattle.std.proofs.lemmas.Option.{same_Some}
use Rattle.std.proofs.lemmas.Bool.{ltb-true}
use Rattle.cw_game.specs.Games.{Game}
use Rattle.cw_audit_table.specs.Runs.{cut, IsHit, IsShortest}
use Rattle.cw_audit_table.specs.Tables.{Audit}
use Rattle.cw_audit_table.specs.Conditions.{is_before}
use Rattle.cw_audit_table.specs.Stated.{IsStated, IsKeptBy}
use Rattle.cw_audit_table.proofs.Bounds.{hits_later}
use Rattle.cw_audit_search.specs.Searches.{Found}
use Rattle.cw_audit_search.specs.Sound.{IsFair, IsSound}
use Rattle.cw_audit_search.specs.Settled.{IsSettled, IsBound, IsRowBelow}
use Rattle.cw_audit_search.specs.Counted.{HasRow}
use Rattle.cw_audit_search.proofs.Front.{front}

module _ (g : Game) (functions : ℕ) (fair : IsFair g functions) (s : Found) (sound : IsSound g functions s) where
  module _ (bound : ℕ) (D : Option ℕ) (b : IsBound s bound D) (settled : IsSettled g s bound) where
    -- no run hits before the distance
    pub hits_far : (n : ℕ) → IsHit g n → (d : ℕ) × (D ≡ Some d) × (d ≤ n)
    hits_far n h = hits_later g D (IsRowBelow s D) (front g functions fair s sound bound D b settled) n h

    stated_far : (t : Audit) → IsStated g t → (T : ℕ) → t.distance ≡ Some T → (d : ℕ) × (D ≡ Some d) × (d ≤ T)
    stated_far t stated T e = hits_far T (subst (IsShortest g) e stated.verdict).0

    -- the rows below the distance are in each table of the game; where the distance is 65,537 all rows are
    pub stated_has : (t : Audit) → IsStated g t → (f q p x r a : ℕ) → s.reach f q ≡ Some r → s.number f q p x ≡ Some a
        → (is_before D (r + a) ≡ true) ⊎ (D ≡ Some 65537) → HasRow t f q p x
    stated_has t stated f q p x r a er ea low =
        let e = sound.entered f q r er in
        let w = sound.inside f q p x a ea in
        stated.whole f q p x e.moves w.0 e.run w.1 (kept t.distance refl)
      where
        kept : (o : Option ℕ) → t.distance ≡ o → IsKeptBy o ((sound.entered f q r er).moves + (sound.inside f q p x a ea).0)
        kept None eo = tt
        kept (Some T) eo = λ few.
            let far = stated_far t stated T eo in
            let er2 = (sound.entered f q r er).number in
            let ea2 = (sound.inside f q p x a ea).2 in
            let most = (subst (IsBound s bound) far.1 b).2 in
            elim low [
              | inl h ↦ let l = ltb-true (cut (r + a)) far.0 (subst (λ D. is_before D (r + a) ≡ true) far.1 h) in omega (arith, er2, ea2, l, most, far.2)
              | inr h ↦ let same = same_Some 65537 far.0 (sym h ∙ far.1) in omega (arith, same, far.2, few)
            ]

  -- Where all is settled and the nearest violation is cut, no run hits by at most 65,536 moves.
  pub hits_cut : IsSettled g s 65538 → s.best ≡ Some 65537 → (n : ℕ) → IsHit g n → 65536 < n
  hits_cut settled e n h =
      let b : IsBound s 65538 (Some 65537) = (omega arith, omega arith, omega arith, λ k ek. let same = same_Some 65537 k (sym e ∙ ek) in omega (arith, same)) in
      let z = hits_far 65538 (Some 65537) b settled n h in
      let same = same_Some 65537 z.0 z.1 in
      omega (arith, same, z.2)
