-- A cap past every limit of the language changes nothing of a file's descriptor.
use Rattle.std.specs.Prelude.{◌≡◌, Some}
use Rattle.proto_base.specs.Texts.{Path}
use Rattle.proto_tree.specs.Tree.{Tree}
use Rattle.proto_ast.specs.Numbers.{past}
use Rattle.proto_ast.specs.Scenes.{Scene, uncapped}
use Rattle.proto_desc_build.specs.Described.{file_described}

-- the descriptor is the same with the cap and without it
abbrev pub CapsKeepTheDescriptor : Type 0
CapsKeepTheDescriptor =
    (scene : Scene) (path : Path) (tree : Tree) → scene.cap ≡ Some past
    → file_described scene path tree ≡ file_described (uncapped scene) path tree
