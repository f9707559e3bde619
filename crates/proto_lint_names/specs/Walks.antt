-- What the walk through a file's blocks finds, and the messages of methods where services stand
-- outermost.
use Rattle.std.specs.Prelude.{List, [], ◌++◌}
use Rattle.proto_base.specs.Texts.{Text}
use Rattle.proto_tree.specs.Tree.{Tree, End, Leaf, Block}
use Rattle.proto_lint_names.specs.Placed.{Found}
use Rattle.proto_lint_names.specs.Readings.{LintFile, reading_of}
use Rattle.proto_lint_names.specs.declared.walk.Walk.{Walk}
use Rattle.proto_lint_names.specs.Blocks.{scoped_blocks}
use Rattle.proto_lint_names.specs.BlockFinds.{block_messages, blocks_finds}

-- what a walk finds in the blocks of a tree, in a scope
abbrev pub walk_finds : Walk → Text → Tree → List Found
walk_finds w scope tree =
    blocks_finds w.rules.now.chosen (reading_of w.reading.now) w.messages.now
    (scoped_blocks (reading_of w.reading.now) scope tree)

-- the messages of the methods of services that stand right in a file
abbrev pub outer_messages : LintFile → Tree → List Text
outer_messages r End = []
outer_messages r (Leaf s rest) = outer_messages r rest
outer_messages r (Block h opens within closes rest) =
    block_messages r h within ++ outer_messages r rest
