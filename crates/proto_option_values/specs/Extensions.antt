-- The file that declares the extension of a custom option, by the link.
use Rattle.std.specs.Prelude.{ℕ, Bool, false, List, get_or, Option, Some, None}
use Rattle.std.specs.Option.{option_and_then}
use Rattle.proto_names.specs.Linking.{LinkOf, declaring_file, meant_at}
use Rattle.proto_tree.specs.References.{first_of}
use Rattle.proto_tree.specs.declared.tree.Custom.{Custom}

-- the file that declares what the name of an option of this file means
abbrev pub extension_file : LinkOf → ℕ → Custom → Option ℕ
extension_file l file c =
    option_and_then (declaring_file l) (meant_at l file (first_of c.name.dot c.name.words))

-- the file, if there is one, is one of these
abbrev pub is_in_set : List Bool → Option ℕ → Bool
is_in_set set None = false
is_in_set set (Some file) = get_or set file false

-- that file is one of these
abbrev pub is_leading : LinkOf → List Bool → ℕ → Custom → Bool
is_leading l set file c = is_in_set set (extension_file l file c)
