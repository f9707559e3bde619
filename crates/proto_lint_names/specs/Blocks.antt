-- The blocks of a file, each with the full name of what it stands in.
use Rattle.std.specs.Prelude.{List, [], ◌∷◌, ◌++◌}
use Rattle.proto_base.specs.Texts.{Text}
use Rattle.proto_tree.specs.declared.piece.Header.{Header}
use Rattle.proto_tree.specs.declared.piece.Header.TheVariants as header
use Rattle.proto_tree.specs.Tree.{Tree, End, Leaf, Block}
use Rattle.proto_names_rules.specs.Joined.{joined}
use Rattle.proto_names_rules.specs.Forest.{under}
use Rattle.proto_lint_names.specs.Readings.{package_words, LintFile, word_in}

-- a block in a scope: a full name, empty for none
pub record Scoped : Type 0 where
  pub scope : Text
  pub header : Header
  pub within : Tree

-- the scope in a block (what stands in an enum, in a oneof or in an `extend` block is declared
-- beside it)
abbrev pub scope_within : LintFile → Text → Header → Text
scope_within r scope (header.Message h) = under scope (word_in r h.name)
scope_within r scope (header.Service h) = under scope (word_in r h.name)
scope_within r scope (header.Oneof h) = scope
scope_within r scope (header.Enum h) = scope
scope_within r scope (header.Method s) = scope
scope_within r scope (header.Extend e) = scope

-- the blocks of a tree, each before those in it
abbrev pub scoped_blocks : LintFile → Text → Tree → List Scoped
scoped_blocks r scope End = []
scoped_blocks r scope (Leaf s rest) = scoped_blocks r scope rest
scoped_blocks r scope (Block h opens within closes rest) =
    record { scope = scope; header = h; within = within }
    ∷ (scoped_blocks r (scope_within r scope h) within ++ scoped_blocks r scope rest)

-- the blocks of a file, whose scope is its package
abbrev pub file_blocks : LintFile → Tree → List Scoped
file_blocks r tree = scoped_blocks r (joined (package_words r tree)) tree
