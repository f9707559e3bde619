-- The descriptor of a file in the core language and as written.
use Rattle.std.specs.Prelude.{◌≡◌}
use Rattle.proto_base.specs.Texts.{Path}
use Rattle.proto_base.specs.declared.profile.Profile.{Profile}
use Rattle.proto_tree.specs.Tree.{Tree}
use Rattle.proto_ast.specs.Scenes.{Scene}
use Rattle.proto_desc_build.specs.Described.{file_described}

-- The descriptor of a file does not ask for the file's language.
abbrev pub DescriptorsAskNoLanguage : Type 0
DescriptorsAskNoLanguage = (p : Profile) (scene : Scene) (path : Path) (tree : Tree)
    → file_described (record scene { profile = p }) path tree ≡ file_described scene path tree
