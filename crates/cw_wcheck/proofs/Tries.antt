-- Where the weaver is to move in a woven run: the pair at which the board stands, and that at which it stands after a skip.
use Rattle.std.proofs.Common.{◌≡◌, ℕ, suc, ◌+◌, List, [], ◌∷◌, true, Option, Some}
use Rattle.std.specs.Prelude.{slice_get}
use Rattle.cw_rights.specs.declared.capabilities.Caps.{Caps}
use Rattle.cw_rights.specs.declared.capabilities.Primitive.{Primitive}
use Rattle.cw_rights.specs.Words.{Word}
use Rattle.cw_certs.specs.Tables.{Table}
use Rattle.cw_syntax.specs.Frames.{Frame}
use Rattle.cw_model.specs.Boards.{Visit, seam_in, onward}
use Rattle.cw_game.specs.declared.spots.Spot.TheVariants.{Visit as VisitSpot}
use Rattle.cw_game.specs.Games.{Game, Ret}
use Rattle.cw_game.specs.Pairs.{is_live}
use Rattle.cw_game.specs.Standing.{Meaning, Under, StandsOn}
use Rattle.cw_game.proofs.Fronts.{next_stage}
use Rattle.cw_game.proofs.Stands.{stage_at}
use Rattle.cw_wcheck.proofs.Kept.{IsMeant, Below, KeptOn}

module _ (Means : Meaning) (Ex : ℕ → List Ret → Type 0) (g : Game) (t : Table) where
  pub under_of : (fn e : ℕ) (frames : List Frame) (ms : List ℕ) (kept : List (Option Caps)) (rets : List Ret) → Below Means Ex g t fn e frames ms kept rets → Under Means g fn frames kept rets
  under_of fn e [] [] kept [] b = tt
  under_of fn e (frame ∷ frames) (m ∷ ms) (k ∷ kept) (r ∷ rets) b = (b.0, b.2.resumes, under_of b.0 b.1 frames ms kept rets b.4)
  under_of fn e [] [] kept (r ∷ rets) b = absurd b
  under_of fn e [] (m ∷ ms) kept rets b = absurd b
  under_of fn e (frame ∷ frames) [] kept rets b = absurd b
  under_of fn e (frame ∷ frames) (m ∷ ms) [] rets b = absurd b
  under_of fn e (frame ∷ frames) (m ∷ ms) (k ∷ kept) [] b = absurd b

  -- the weaver is to move at p in the state q, under the promise e and over these returns
  pub record Choice (frame : Frame) (frames : List Frame) (kept : List (Option Caps)) (caps : Caps) (word : Word) (i : ℕ) (a : Primitive) (later : List Primitive) (m : ℕ) : Type 0 where
    pub p : ℕ
    pub q : ℕ
    pub e : ℕ
    pub j : ℕ
    pub rets : List Ret
    pub seam : seam_in frame ≡ Some j
    pub spot : slice_get g.spots p ≡ Some (VisitSpot j i a)
    pub live : is_live t p m ≡ true
    pub meant : IsMeant Means Ex g t m q e
    pub extra : Ex e rets
    pub means : Means q word caps
    pub stands : StandsOn Means g (frame ∷ frames) kept caps word (Visit i a later) p q rets
    pub skipped : StandsOn Means g (frame ∷ frames) kept caps word (onward (suc i) later) (p + 2) q rets

  pub choice_at : (frame : Frame) (frames : List Frame) (kept : List (Option Caps)) (caps : Caps) (word : Word) (i : ℕ) (a : Primitive) (later : List Primitive) (m : ℕ) (ms : List ℕ)
      → KeptOn Means Ex g t (frame ∷ frames) caps word (Visit i a later) kept (m ∷ ms) → Choice frame frames kept caps word i a later m
  choice_at frame frames kept caps word i a later m ms k =
      let w = k.3 in
      let s = w.2.0 in
      let u = under_of k.0 k.1 frames ms kept k.2 k.5 in
      record {
        p = w.0;
        q = w.1;
        e = k.1;
        j = s.1;
        rets = k.2;
        seam = s.2;
        spot = s.4.0;
        live = w.3;
        meant = w.4;
        extra = k.4;
        means = w.2.1;
        stands = (k.0, w.2, u);
        skipped = (k.0, stage_at Means g.spots g.policy (g.exit k.0) frame caps word (suc i) later (w.0 + 2) w.1 (next_stage g.spots g.policy (g.exit k.0) frame i a later w.0 s) w.2.1, u);
      }
