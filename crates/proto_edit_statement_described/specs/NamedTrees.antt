-- What the three trees of a deletion declare, use and import.
use Rattle.std.specs.Prelude.{◌≡◌, map}
use Rattle.proto_tree.specs.Moved.{Move}
use Rattle.proto_tree.specs.Tree.{Tree}
use Rattle.proto_names_outline.specs.FromTree.{imports_in}
use Rattle.proto_names_outline.specs.Moved.{move_wanted}
use Rattle.proto_edit_statement_described.specs.Deletions.{IsDeletedIn, Reservation, WrittenField}
use Rattle.proto_edit_statement_laws.specs.Files.{DeclaresMore}
use Rattle.proto_edit_statement_laws.specs.Trees.{MovesNames}

-- The second tree declares and uses more than the first, and imports the same; the third declares,
-- uses and imports what the first does.
pub record AreNamed (g k : Move) (x t u : Tree) : Type 0 where
  pub more : DeclaresMore g x t
  pub same : MovesNames k x u
  pub imports : imports_in u ≡ map (move_wanted k) (imports_in x)

-- So it is where a field is deleted.
abbrev pub TreesAreNamed : Type 0
TreesAreNamed = (g k : Move) (w : WrittenField) (r : Reservation) (x t u : Tree)
    → IsDeletedIn g k w r x t u
    → AreNamed g k x t u
