-- What each step answers of a text in parts, as an answer of the whole.
use Rattle.std.proofs.Common.{◌≡◌, ℕ, List, map, ap, subst, ◌∙◌}
use Rattle.cw_rights.specs.Policies.{PlainPolicy}
use Rattle.cw_syntax.specs.Trees.{File}
use Rattle.cw_syntax.specs.Marks.{SeamMark}
use Rattle.cw_certs.specs.Tables.{Table}
use Rattle.cw_emit.specs.Woven.{placed}
use Rattle.cw_woven.specs.declared.fault.WovenFault.{WovenFault}
use Rattle.cw_woven.specs.declared.fault.WovenFault.TheVariants as fault
use Rattle.cw_woven.specs.Parts.{Insertion, without, places}
use Rattle.cw_woven.specs.Reading.{HasTable, IsAccepted, IsCutFault, IsFault, IsFaultOver, IsFirstDifference, ReadsWoven, seam_marks}
use Rattle.cw_woven.specs.Accepting.{IsRefused}
use Rattle.cw_woven.specs.Comparing.{IsDifference}

module _ (policy : PlainPolicy) (text source : List ℕ) (insertions : List Insertion) (left : List ℕ) (table : Table) (has : HasTable policy text insertions left table) (e : source ≡ without insertions left) where
  pub refused : (f : WovenFault) → IsRefused policy source f → IsFaultOver policy text source f
  refused (fault.Source why) r = (insertions, left, table, has, e, r)
  refused fault.NoMemory r = tt
  refused (fault.Mark at) r = absurd r
  refused (fault.Table why) r = absurd r
  refused (fault.Misplaced n) r = absurd r

  module _ (file : File) (accepted : IsAccepted policy source file) (marks : List SeamMark) (are : marks ≡ seam_marks policy source file) where
    pub misplaced : (f : WovenFault) → IsDifference (places insertions) (map (placed policy source) marks) f → IsFaultOver policy text source f
    misplaced (fault.Misplaced n) r = (
      insertions,
      left,
      table,
      file,
      has,
      subst (λ (z : List ℕ). IsAccepted policy z file) e accepted,
      subst (λ (z : List ℕ). IsFirstDifference (places insertions) (map (placed policy z) (seam_marks policy z file)) n) e
          (subst (λ (z : List SeamMark). IsFirstDifference (places insertions) (map (placed policy source) z) n) are r),
    )
    misplaced fault.NoMemory r = tt
    misplaced (fault.Mark at) r = absurd r
    misplaced (fault.Table why) r = absurd r
    misplaced (fault.Source why) r = absurd r

    pub reads : places insertions ≡ map (placed policy source) marks → ReadsWoven policy text source file table
    reads r = record {
      marks = insertions;
      left = left;
      has = has;
      is = e;
      accepted = accepted;
      placed = r ∙ ap (map (placed policy source)) are;
    }

pub is_fault : (policy : PlainPolicy) (text source : List ℕ) (f : WovenFault) → IsFaultOver policy text source f → IsFault policy text f
is_fault policy text source (fault.Source why) (marks, left, table, has, e, r) = (marks, left, table, has, subst (λ (z : List ℕ). IsCutFault policy z why) e r)
is_fault policy text source fault.NoMemory r = tt
is_fault policy text source (fault.Mark at) r = r
is_fault policy text source (fault.Table why) r = r
is_fault policy text source (fault.Misplaced n) r = r
