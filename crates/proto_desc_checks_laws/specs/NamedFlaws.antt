-- The flaws that names decide: of defaults, of reserved names, and of JSON names; block by block.
use Rattle.std.specs.Prelude.{◌≡◌, List, [], ◌++◌, filter, flat_map, map}
use Rattle.std.specs.List.{Contains}
use Rattle.proto_tree.specs.declared.piece.Header.{Header}
use Rattle.proto_tree.specs.declared.piece.Header.TheVariants as header
use Rattle.proto_tree.specs.Tree.{Tree}
use Rattle.proto_ast.specs.Parts.{BlockOf, blocks_in, fields_in, reserved_names_in, values_in}
use Rattle.proto_ast.specs.Scenes.{Scene}
use Rattle.proto_desc_numbers.specs.declared.flaw.Flaw.{Flaw}
use Rattle.proto_desc_checks.specs.FieldFlaws.{default_flaws}
use Rattle.proto_desc_checks.specs.FileFlaws.{file_flaws, json_clashes, name_flaws}
use Rattle.proto_desc_checks_laws.specs.Renamed.{but_names, is_of_names}

-- those of the flaws that names decide
abbrev pub of_names : List Flaw → List Flaw
of_names flaws = filter (λ (f : Flaw). is_of_names f.kind) flaws

-- the flaws of a block that names decide: of a message those of defaults, reserved names and JSON
-- names, of an enum those of reserved names, of an `extend` block those of defaults
abbrev pub flaws_of_block : Scene → Header → Tree → List Flaw
flaws_of_block scene (header.Message h) within =
    flat_map (default_flaws scene) (fields_in within)
    ++ (name_flaws scene (reserved_names_in within) (map (λ f. f.name) (fields_in within))
    ++ json_clashes scene (fields_in within))
flaws_of_block scene (header.Enum h) within =
    name_flaws scene (reserved_names_in within) (map (λ v. v.name) (values_in within))
flaws_of_block scene (header.Oneof h) within = []
flaws_of_block scene (header.Service h) within = []
flaws_of_block scene (header.Method s) within = []
flaws_of_block scene (header.Extend e) within =
    flat_map (default_flaws scene) (fields_in within)

-- The flaws of a file that names decide are those of its blocks.
abbrev pub FlawsOfNames : Type 0
FlawsOfNames = (scene : Scene) (tree : Tree)
    → of_names (file_flaws scene tree)
    ≡ flat_map (λ b. flaws_of_block scene b.header b.within) (blocks_in tree)

-- So where the other flaws are the same in a second scene, and no block has one of these there, a
-- file without a flaw has none.
abbrev pub NoFlawComesIn : Type 0
NoFlawComesIn = (a b : Scene) (tree : Tree) → file_flaws a tree ≡ []
    → but_names (file_flaws a tree) ≡ but_names (file_flaws b tree)
    → ((x : BlockOf) → Contains (blocks_in tree) x → flaws_of_block b x.header x.within ≡ [])
    → file_flaws b tree ≡ []
