-- The rules of imports.
use Rattle.std.specs.Prelude.{ℕ, Bool, false, not, ◌||◌, ◌&&◌, ◌==◌, List, [], ◌∷◌, ◌++◌, flat_map, Option, Some, None}
use Rattle.std.specs.List.{list_any}
use Rattle.proto_base.specs.Texts.{Path, Text, or_nothing}
use Rattle.proto_text.specs.Values.{value_of}
use Rattle.proto_tree.specs.declared.tree.Import.{Import}
use Rattle.proto_tree.specs.Modifiers.{is_public}
use Rattle.proto_tree.specs.declared.piece.Statement.{Statement}
use Rattle.proto_tree.specs.declared.piece.Statement.TheVariants as statement
use Rattle.proto_tree.specs.Tree.{Tree}
use Rattle.proto_names_rules.specs.Faults.{file_with_path}
use Rattle.proto_names_rules.specs.Names.{Workspace, meaning, reaches, same_name}
use Rattle.proto_ast.specs.Parts.{statements}
use Rattle.proto_files.specs.GivenFiles.{FileOf}
use Rattle.proto_lint_rules.specs.declared.rule.Rule.TheVariants as rule
use Rattle.proto_lint_names.specs.Placed.{Found, NamedToken, found_by, unless}
use Rattle.proto_lint_names.specs.Readings.{LintFile, word_in}

-- the import that a statement is
abbrev pub statement_import : Statement → List Import
statement_import (statement.Import i) = i ∷ []
statement_import _ = []

-- the import statements of a file
abbrev pub import_statements_in : Tree → List Import
import_statements_in tree = flat_map statement_import (statements tree)

-- the path that an import names
abbrev pub import_path : LintFile → Import → Path
import_path r i = or_nothing (value_of (word_in r i.path))

-- an import at its word `import`, with the path that it names, unless it passes
abbrev pub import_unless : LintFile → Bool → Import → List NamedToken
import_unless r passes i = unless passes i.keyword (import_path r i)

-- IMPORT_NO_PUBLIC: a public import
abbrev pub import_no_public : LintFile → Import → List NamedToken
import_no_public r i = import_unless r (not (is_public i.modifier)) i

-- ---- imports that are used

-- a symbol of this name is declared in a file, or in one that is reached from it by public imports
abbrev pub is_reached : Workspace → ℕ → Option (List Text) → Bool
is_reached w to None = false
is_reached w to (Some name) =
    list_any (λ s. same_name s.name name && reaches w.imports w.files to s.file) w.symbols

-- some reference of a file means a symbol of another, or of one that is reached from that
abbrev pub is_used : Workspace → ℕ → Option ℕ → Bool
is_used w file None = false
is_used w file (Some to) =
    list_any (λ u. u.file == file && is_reached w to (meaning w u)) w.references

-- IMPORT_USED: an import that is not public, where no reference of the file means a symbol of the
-- imported file or of one that is reached from it (a public import is for others, and needs no use);
-- the names of custom options are references, too
abbrev pub import_used : Workspace → List Path → LintFile → ℕ → Import → List NamedToken
import_used w paths r file i =
    import_unless r (is_public i.modifier
    || is_used w file (file_with_path paths (import_path r i))) i

-- ---- what they find

-- what the rules of imports know of a file: the chosen rules, all files, and this one as it is
-- read, with its number
pub record ImportsOf : Type 0 where
  pub rules : List Bool
  pub files : List FileOf
  pub read : LintFile
  pub file : ℕ

-- what the rules find at an import of a file, by its number, in a workspace with these paths
abbrev pub import_finds : List Bool → Workspace → List Path → LintFile → ℕ → Import → List Found
import_finds rules w paths r file i =
    found_by rules r rule.ImportNoPublic (import_no_public r i)
    ++ found_by rules r rule.ImportUsed (import_used w paths r file i)

-- what the rules find at the imports of a file
abbrev pub imports_finds : List Bool → Workspace → List Path → LintFile → ℕ → Tree → List Found
imports_finds rules w paths r file tree =
    flat_map (import_finds rules w paths r file) (import_statements_in tree)
