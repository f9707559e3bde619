-- The longest front of a scope that is a name of the table, and a reference that stands in a scope.
use Rattle.std.specs.Prelude.{◌≡◌, ◌≢◌, ℕ, ◌<◌, ◌≤◌, List, [], length, get_or, map, take, is_some}
use Rattle.proto_base.specs.Texts.{Text}
use Rattle.proto_files.specs.GivenFiles.{FileOf}
use Rattle.proto_tree.specs.declared.tree.Reference.{Reference as ReferenceOfTree}
use Rattle.proto_names_rules.specs.Forest.{front}
use Rattle.proto_tree.specs.References.{dotted}
use Rattle.proto_names_rules.specs.Grown.{at}
use Rattle.proto_names_rules.specs.Joined.{joined}
use Rattle.proto_files.specs.FilesRead.{ReadOf}
use Rattle.proto_names_imports.specs.Links.{text_of}
use Rattle.proto_names_rules.specs.declared.wants.Wants.TheVariants as wants
use Rattle.proto_names_rules.specs.Names.{Reference}
use Rattle.proto_names_table.specs.Tables.{names_of}
use Rattle.proto_names_table.specs.declared.table.Table.{Table}

-- the number is that of the scope's first words, and no row is named by more of them
pub record IsScopeFront (t : Table) (path : List Text) (number : ℕ) : Type 0 where
  pub words : ℕ
  pub within : words ≤ length path
  pub front_is : front (names_of t) number ≡ joined (take words path)
  pub longest : (j row : ℕ) → words < j → j ≤ length path → row < length t.rows.items
      → get_or (names_of t) row [] ≢ joined (take j path)

-- a reference of a file to a type, in the scope with this full name
abbrev pub reference_in : List FileOf → List ReadOf → ℕ → List Text → ReferenceOfTree → Reference
reference_in files reads file path r = record {
  file = file;
  scope = path;
  is_absolute = is_some r.dot;
  wants = wants.Type;
  words = map (λ i. text_of files reads (at file i)) (dotted r.words);
}
