-- A cap past every limit of the language changes nothing of what is found wrong with a file.
use Rattle.std.specs.Prelude.{◌≡◌, Option, Some}
use Rattle.std.specs.List.{Contains}
use Rattle.proto_tree.specs.Tree.{Tree}
use Rattle.proto_ast.specs.Numbers.{past}
use Rattle.proto_ast.specs.Scenes.{Scene, uncapped}
use Rattle.proto_desc_numbers.specs.declared.flaw.Flaw.{Flaw}
use Rattle.proto_desc_numbers.specs.Flaws.{IsLeastOfFlaws}
use Rattle.proto_desc_checks.specs.FileFlaws.{file_flaws}

-- the least flaw is the same with the cap and without it
abbrev pub CapsKeepTheLeast : Type 0
CapsKeepTheLeast = (scene : Scene) (tree : Tree) (r : Option Flaw) → scene.cap ≡ Some past
    → IsLeastOfFlaws (Contains (file_flaws scene tree)) r
    → IsLeastOfFlaws (Contains (file_flaws (uncapped scene) tree)) r
