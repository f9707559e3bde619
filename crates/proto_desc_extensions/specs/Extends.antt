-- Whether files have `extend` blocks.
use Rattle.std.specs.Prelude.{Bool, true, false, List}
use Rattle.std.specs.List.{list_any}
use Rattle.proto_tree.specs.Tree.{Tree}
use Rattle.proto_tree.specs.declared.piece.Header.{Header}
use Rattle.proto_tree.specs.declared.piece.Header.TheVariants as header
use Rattle.proto_files.specs.FilesRead.{ReadOf}
use Rattle.proto_ast.specs.Parts.{blocks_in}

-- the header is that of an `extend` block
abbrev pub is_extend : Header → Bool
is_extend (header.Extend e) = true
is_extend (header.Message h) = false
is_extend (header.Oneof h) = false
is_extend (header.Enum h) = false
is_extend (header.Service h) = false
is_extend (header.Method s) = false

-- an `extend` block stands in the tree, at any depth
abbrev pub has_extend : Tree → Bool
has_extend tree = list_any (λ b. is_extend b.header) (blocks_in tree)

-- one stands in some file
abbrev pub some_has_extend : List ReadOf → Bool
some_has_extend reads = list_any (λ r. has_extend r.tree) reads
