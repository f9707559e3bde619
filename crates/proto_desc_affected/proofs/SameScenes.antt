-- Files that are the same, or proto3 and the same but for the names of values, have the same flaws, extensions and descriptors.
use Rattle.std.proofs.Common.{◌≡◌, ℕ, Bool, true, false, List, Option, option_map, ap, inl, inr}
use Rattle.proto_tree.specs.Tree.{Tree}
use Rattle.proto_ast.specs.Scenes.{EnumOf, Scene}
use Rattle.proto_desc_checks.specs.FileFlaws.{file_flaws}
use Rattle.proto_desc_build.specs.Described.{file_described}
use Rattle.proto_desc_extensions.specs.Extensions.{extensions_of}
use Rattle.proto_desc_affected.specs.Values.{IsSameEnum, IsSameScene, enum_without_names}
use Rattle.proto_desc_affected.proofs.ValueDescriptors.{value_names_matter_to_no_descriptor}
use Rattle.proto_desc_affected.proofs.ValueExtensions.{value_names_matter_to_no_extension}
use Rattle.proto_desc_affected.proofs.ValueFlaws.{value_names_matter_to_no_proto3_flaws}

-- what is the same is so to any file
pub same_enum : (proto3 : Bool) (before now : Option EnumOf) → before ≡ now → IsSameEnum proto3 before now
same_enum false before now e = e
same_enum true before now e = ap (option_map enum_without_names) e

pub flaws_same : (a b : Scene) → IsSameScene a b → (tree : Tree) → file_flaws a tree ≡ file_flaws b tree
flaws_same a b (inl same) tree = ap (λ (s : Scene). file_flaws s tree) same
flaws_same a b (inr names) tree = value_names_matter_to_no_proto3_flaws a b names.1 names.0 tree

pub extensions_same : (a b : Scene) → IsSameScene a b → (extendee : Option (List (List ℕ))) (within : Tree) → extensions_of a extendee within ≡ extensions_of b extendee within
extensions_same a b (inl same) extendee within = ap (λ (s : Scene). extensions_of s extendee within) same
extensions_same a b (inr names) extendee within = value_names_matter_to_no_extension a b names.1 extendee within

pub described_same : (a b : Scene) → IsSameScene a b → (path : List ℕ) (tree : Tree) → file_described a path tree ≡ file_described b path tree
described_same a b (inl same) path tree = ap (λ (s : Scene). file_described s path tree) same
described_same a b (inr names) path tree = value_names_matter_to_no_descriptor a b names.1 path tree
