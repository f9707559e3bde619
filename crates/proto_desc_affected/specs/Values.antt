-- The names of the values of the enums that a file's references mean: only the defaults of a proto2
-- file ask for them.
use Rattle.std.specs.Prelude.{◌≡◌, ◌⊎◌, Bool, true, false, List, [], map, Option, option_map}
use Rattle.proto_base.specs.Texts.{Path, Text}
use Rattle.proto_tree.specs.Tree.{Tree}
use Rattle.proto_ast.specs.Scenes.{EnumOf, MeantOf, Scene}
use Rattle.proto_desc_checks.specs.FileFlaws.{file_flaws}
use Rattle.proto_desc_build.specs.Described.{file_described}
use Rattle.proto_desc_extensions.specs.Extensions.{extensions_of}

-- an enum without the names of its values: its version, and whether its first value is not 0
abbrev pub enum_without_names : EnumOf → EnumOf
enum_without_names e = record e { values = [] }

-- what a reference means, without the names of the values of an enum that it means
abbrev pub meant_without_names : MeantOf → MeantOf
meant_without_names m = record m { enum = option_map enum_without_names m.enum }

-- a file without the names of the values of the enums that its references mean
abbrev pub without_value_names : Scene → Scene
without_value_names scene = record scene { means = map meant_without_names scene.means }

-- two files are the same but for the names of the values of the enums that their references mean
abbrev pub IsSameButForValueNames : Scene → Scene → Type 0
IsSameButForValueNames a b = without_value_names a ≡ without_value_names b

-- what is wrong with two such files is the same, where they are proto3
abbrev pub ValueNamesMatterToNoProto3Flaws : Type 0
ValueNamesMatterToNoProto3Flaws =
    (a b : Scene) → IsSameButForValueNames a b → a.is_proto3 ≡ true
    → (tree : Tree) → file_flaws a tree ≡ file_flaws b tree

-- the descriptors of two such files are the same
abbrev pub ValueNamesMatterToNoDescriptor : Type 0
ValueNamesMatterToNoDescriptor =
    (a b : Scene) → IsSameButForValueNames a b
    → (path : Path) (tree : Tree) → file_described a path tree ≡ file_described b path tree

-- and so are the extensions of what has a name, by their numbers
abbrev pub ValueNamesMatterToNoExtension : Type 0
ValueNamesMatterToNoExtension =
    (a b : Scene) → IsSameButForValueNames a b
    → (extendee : Option (List Text)) (within : Tree)
    → extensions_of a extendee within ≡ extensions_of b extendee within

-- ---- as a file's version asks

-- the enum that a name is of before and now, if it is one: the same to a file that is proto3 or not,
-- of which a proto3 file asks for no names of values
abbrev pub IsSameEnum : Bool → Option EnumOf → Option EnumOf → Type 0
IsSameEnum false before now = before ≡ now
IsSameEnum true before now =
    option_map enum_without_names before ≡ option_map enum_without_names now

-- two files are the same, or are proto3 and the same but for the names of values
abbrev pub IsSameScene : Scene → Scene → Type 0
IsSameScene a b = (a ≡ b) ⊎ ((a.is_proto3 ≡ true) × IsSameButForValueNames a b)
