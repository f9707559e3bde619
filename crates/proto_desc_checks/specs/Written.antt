-- The flaws of a file in the core language and as written.
use Rattle.std.specs.List.{Contains}
use Rattle.proto_base.specs.declared.profile.Profile.{Profile}
use Rattle.proto_base.specs.declared.profile.Profile.TheVariants as profile
use Rattle.proto_tree.specs.Tree.{Tree}
use Rattle.proto_ast.specs.Scenes.{Scene}
use Rattle.proto_desc_numbers.specs.declared.flaw.Flaw.{Flaw}
use Rattle.proto_desc_checks.specs.FileFlaws.{file_flaws}

-- the same file, of a language
abbrev pub in_language : Profile → Scene → Scene
in_language p scene = record scene { profile = p }

-- What is wrong with a file as written is wrong with it in the core language, too.
abbrev pub FlawsAsWrittenAreOfCore : Type 0
FlawsAsWrittenAreOfCore = (scene : Scene) (tree : Tree) (f : Flaw)
    → Contains (file_flaws (in_language profile.AsWritten scene) tree) f
    → Contains (file_flaws (in_language profile.Core scene) tree) f
