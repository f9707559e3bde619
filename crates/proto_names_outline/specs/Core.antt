-- The references of a file of the core language, which has no names of options among them: its rules
-- need one scope alone.
use Rattle.std.specs.Prelude.{◌≡◌, ℕ, List, [], ◌∷◌, ◌++◌, map}
use Rattle.proto_base.specs.Texts.{Text}
use Rattle.proto_text.specs.declared.lexer.Token.{Token as TextToken}
use Rattle.proto_tree.specs.Reads.{Reads}
use Rattle.proto_tree.specs.Tree.{Tree, End, Leaf, Block}
use Rattle.proto_tree.specs.declared.piece.Header.{Header}
use Rattle.proto_tree.specs.declared.piece.Header.TheVariants as header
use Rattle.proto_tree.specs.declared.piece.Statement.{Statement}
use Rattle.proto_tree.specs.declared.piece.Statement.TheVariants as statement
use Rattle.proto_names_rules.specs.Skeleton.{Source, Token, Used}
use Rattle.proto_names_rules.specs.Tree.{package_of}
use Rattle.proto_names_outline.specs.FromTree.{file_names, header_uses, items_in, scope_in, signature_uses, type_uses}

-- the references of a statement, in a scope
abbrev pub core_statement_uses : List (Source ℕ) → Statement → List (Used ℕ)
core_statement_uses scope (statement.Field f) = type_uses scope f.kind
core_statement_uses scope (statement.MapField f) = type_uses scope f.value
core_statement_uses scope (statement.Method s end) = signature_uses scope s
core_statement_uses scope _ = []

-- the references in a oneof, in a service or in an `extend`, where the scope stays
abbrev pub core_flat_uses : List (Source ℕ) → Tree → List (Used ℕ)
core_flat_uses scope End = []
core_flat_uses scope (Leaf s rest) = core_statement_uses scope s ++ core_flat_uses scope rest
core_flat_uses scope (Block h opens within closes rest) =
    header_uses scope h ++ core_flat_uses scope rest

-- the references in a block, given those in it if it is a message: the scope is the message or
-- service around them; that of an `extend` and of all in it is what stands around the `extend`
abbrev pub core_block_uses : List (Source ℕ) → Header → List (Used ℕ) → Tree → List (Used ℕ)
core_block_uses scope (header.Message h) inner within = inner
core_block_uses scope (header.Oneof h) inner within = core_flat_uses scope within
core_block_uses scope (header.Service h) inner within =
    core_flat_uses (scope ++ Token h.name ∷ []) within
core_block_uses scope (header.Enum h) inner within = []
core_block_uses scope (header.Method s) inner within = []
core_block_uses scope (header.Extend e) inner within =
    header_uses scope (header.Extend e) ++ core_flat_uses scope within

-- the references in a message
abbrev pub core_member_uses : List (Source ℕ) → Tree → List (Used ℕ)
core_member_uses scope End = []
core_member_uses scope (Leaf s rest) = core_statement_uses scope s ++ core_member_uses scope rest
core_member_uses scope (Block (header.Service h) opens within closes rest) =
    core_member_uses scope rest
core_member_uses scope (Block h opens within closes rest) =
    core_block_uses scope h (core_member_uses (scope_in scope h) within) within
    ++ core_member_uses scope rest

-- the references in a file, below its package
abbrev pub core_item_uses : List (Source ℕ) → Tree → List (Used ℕ)
core_item_uses scope End = []
core_item_uses scope (Leaf s rest) = core_item_uses scope rest
core_item_uses scope (Block (header.Oneof h) opens within closes rest) = core_item_uses scope rest
core_item_uses scope (Block h opens within closes rest) =
    core_block_uses scope h (core_member_uses (scope_in scope h) within) within
    ++ core_item_uses scope rest

-- The references of a file that is read in the core language are these.
abbrev pub CoreUsesStay : Type 0
CoreUsesStay =
    (text : Text) (tokens : List TextToken) (t : Tree) → Reads text tokens t
    → (file_names t).used ≡ core_item_uses (map (λ i. Token i) (package_of (items_in t))) t
