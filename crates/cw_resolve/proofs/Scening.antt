-- The scene of a file by its names, and how many functions it has.
use Rattle.std.proofs.Common.{◌≡◌, List, ℕ, map, length, refl, sym, ap, ap₂, ◌∙◌, subst}
use Rattle.std.proofs.lemmas.List.{length-map}
use Rattle.cw_syntax.specs.declared.checked.Checked.{Checked}
use Rattle.cw_syntax.specs.declared.program.Program.{Program}
use Rattle.cw_syntax.specs.Names.{text}
use Rattle.cw_syntax.specs.Trees.{File, definition_of, file_of}
use Rattle.cw_syntax.specs.Plans.{Scene, function_names, scene_of}
use Rattle.cw_rights.specs.Policies.{PlainPolicy}
use Rattle.cw_resolve.specs.Listed.{scene_by}
use Rattle.cw_resolve.specs.Own.{IsSceneOf}
use Rattle.cw_resolve.specs.Scenes.{scene_in}

pub same_lists : (source : List ℕ) (fs gs ds es ls ms ss ts : List (List ℕ)) → fs ≡ gs → ds ≡ es → ls ≡ ms → ss ≡ ts → scene_by source fs ds ls ss ≡ scene_by source gs es ms ts
same_lists source fs gs ds es ls ms ss ts p q r t = ap₂ (λ f d. scene_by source f d ls ss) p q ∙ ap₂ (λ l s. scene_by source gs es l s) r t

pub scene_is : (s : Scene) (file : File) → IsSceneOf s file → scene_of s.names s.source file ≡ s
scene_is s file e = sym (ap with_functions e)
  where
    with_functions : List (List ℕ) → Scene
    with_functions fs = record { source = s.source; functions = fs; names = s.names }

pub many_names : (source : List ℕ) (p : Program) → length (function_names source (file_of p)) ≡ length p.functions.items
many_names source p = length-map (map definition_of p.functions.items) (λ f. text source f.name) ∙ length-map p.functions.items definition_of

pub many_functions : (s : Scene) (p : Program) → IsSceneOf s (file_of p) → length s.functions ≡ length p.functions.items
many_functions s p e = ap length e ∙ many_names s.source p

pub same_scene_of : (s t : Scene) (file : File) → s ≡ t → IsSceneOf t file → IsSceneOf s file
same_scene_of s t file e h = subst (λ u. IsSceneOf u file) (sym e) h

-- of a source under a policy
pub is_scene_of : (s : Scene) (checked : Checked) (policy : PlainPolicy) → s ≡ scene_in checked policy → IsSceneOf s (file_of checked.program)
is_scene_of s checked policy e = same_scene_of s (scene_in checked policy) (file_of checked.program) e refl
