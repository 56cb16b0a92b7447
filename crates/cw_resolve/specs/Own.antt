-- A source under its own labels, and whether a scene is one of a file.
use Rattle.std.specs.Prelude.{◌≡◌, []}
use Rattle.cw_syntax.specs.declared.checked.Checked.{Checked}
use Rattle.cw_syntax.specs.Trees.{File, file_of}
use Rattle.cw_syntax.specs.Plans.{Scene, function_names, scene_of}
use Rattle.cw_resolve.specs.Labels.{label_names}

-- a source with the names of its functions and its own labels, and no others
abbrev pub own_scene : Checked → Scene
own_scene checked =
    scene_of (record { descriptors = []; labels = label_names checked.source.now (file_of checked.program); splits = [] }) checked.source.now (file_of checked.program)

-- a scene of this file: the names of its functions are the file's
abbrev pub IsSceneOf : Scene → File → Type 0
IsSceneOf s file = s.functions ≡ function_names s.source file
