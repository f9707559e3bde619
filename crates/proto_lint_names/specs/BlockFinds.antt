-- What the rules find at blocks, and the messages of the methods in them.
use Rattle.std.specs.Prelude.{ℕ, suc, Bool, List, [], ◌∷◌, ◌++◌, flat_map}
use Rattle.proto_base.specs.Texts.{Text}
use Rattle.proto_tree.specs.declared.piece.Header.{Header}
use Rattle.proto_tree.specs.declared.piece.Header.TheVariants as header
use Rattle.proto_tree.specs.Tree.{Tree}
use Rattle.proto_files.specs.GivenFiles.{FileOf}
use Rattle.proto_files.specs.FilesRead.{ReadOf}
use Rattle.proto_lint_names.specs.Readings.{LintFile, read_of_file}
use Rattle.proto_lint_names.specs.Placed.{Found}
use Rattle.proto_lint_names.specs.Blocks.{Scoped, file_blocks}
use Rattle.proto_lint_names.specs.Methods.{method_messages, methods_finds, signatures_in}
use Rattle.proto_lint_names.specs.NameRules.{enum_finds, message_finds, oneof_finds, service_finds}

-- the messages of the methods of a block, by their full names
abbrev pub block_messages : LintFile → Header → Tree → List Text
block_messages r (header.Service h) within = method_messages r (signatures_in within)
block_messages r _ within = []

-- the messages of the methods of a file
abbrev pub file_messages : LintFile → Tree → List Text
file_messages r tree = flat_map (λ b. block_messages r b.header b.within) (file_blocks r tree)

-- the messages of the methods of the files from this number on
abbrev pub messages_from : List FileOf → List ReadOf → ℕ → List ReadOf → List Text
messages_from files reads file [] = []
messages_from files reads file (r ∷ rs) =
    file_messages (read_of_file files reads file) r.tree ++ messages_from files reads (suc file) rs

-- the messages of the inputs and outputs of all methods of the workspace
abbrev pub all_messages : List FileOf → List ReadOf → List Text
all_messages files reads = messages_from files reads 0 reads

-- ---- what is found

-- what the rules find at a block in a scope, without the blocks in it (a method's block has none),
-- where these are the messages of all methods; an extension is no field of a message
abbrev pub block_finds : List Bool → LintFile → List Text → Text → Header → Tree → List Found
block_finds rules r all scope (header.Message h) within = message_finds rules r scope h.name within
block_finds rules r all scope (header.Oneof h) within = oneof_finds rules r scope h.name
block_finds rules r all scope (header.Enum h) within = enum_finds rules r scope h.name within
block_finds rules r all scope (header.Service h) within =
    service_finds rules r scope h.name ++ methods_finds rules r all scope h.name within
block_finds rules r all scope (header.Method s) within = []
block_finds rules r all scope (header.Extend e) within = []

-- what the rules find at some blocks, each in its scope
abbrev pub blocks_finds : List Bool → LintFile → List Text → List Scoped → List Found
blocks_finds rules r all blocks =
    flat_map (λ b. block_finds rules r all b.scope b.header b.within) blocks
