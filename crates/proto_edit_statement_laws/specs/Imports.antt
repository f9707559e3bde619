-- An import that is added or dropped: its place, its splice, and what is read then.
use Rattle.std.specs.Prelude.{◌≡◌, List, [], ◌∷◌, ◌++◌, map}
use Rattle.std.specs.Str.{IsUtf8}
use Rattle.proto_base.specs.Texts.{Path, Text}
use Rattle.proto_base.specs.declared.profile.Profile.{Profile}
use Rattle.proto_text.specs.declared.lexer.Token.{Token}
use Rattle.proto_text.specs.Edits.{Puts}
use Rattle.proto_text.specs.Segments.{moved, quoted}
use Rattle.proto_text.specs.Strings.{IsString}
use Rattle.proto_text.specs.Tokens.{lexeme_at}
use Rattle.proto_tree.specs.declared.context.Context.TheVariants as context
use Rattle.proto_tree.specs.declared.piece.Statement.TheVariants as statement
use Rattle.proto_tree.specs.declared.tree.Import.{Import}
use Rattle.proto_tree.specs.Moved.{Move}
use Rattle.proto_tree.specs.Reads.{ReadsIn}
use Rattle.proto_tree.specs.Tree.{Tree, End, Leaf}
use Rattle.proto_names_outline.specs.FromTree.{Wanted, imports_in, statement_imports}
use Rattle.proto_names_outline.specs.Moved.{move_wanted}
use Rattle.proto_edit_statement_laws.specs.Deletions.{own, without}
use Rattle.proto_edit_rules.specs.Statements.{StandsIn}
use Rattle.proto_edit_statement_laws.specs.Exchanges.{IsExchanged}
use Rattle.proto_edit_statement_laws.specs.Insertions.{IsInsertion}
use Rattle.proto_edit_statement_laws.specs.Statements.{import_tree, import_tokens}
use Rattle.proto_edit_rules.specs.AddImport.{import_place, addition}
use Rattle.proto_edit_rules.specs.DropImport.{drop_of}

-- ---- what is read

-- The second tree has the imports of the first, moved, and between them that of the statement.
pub record HasImportStatement (g : Move) (i : Import) (t u : Tree) : Type 0 where
  pub front : List Wanted
  pub back : List Wanted
  pub was : imports_in t ≡ front ++ back
  pub is : imports_in u ≡ map (move_wanted g) front
      ++ (statement_imports (statement.Import i) ++ map (move_wanted g) back)

-- So has each tree into which an import is put.
abbrev pub ImportsComeIn : Type 0
ImportsComeIn = (g : Move) (i : Import) (t u : Tree)
    → IsExchanged g End (Leaf (statement.Import i) End) context.Start t u
    → HasImportStatement g i t u

-- The import is put in, and is the last.
pub record IsImportPutIn
    (profile : Profile) (text : Text) (tokens : List Token) (t : Tree) (path : Path)
    (result : Text) (after : List Token) (u : Tree) : Type 0 where
  pub put : Puts 0 text (addition text tokens t path ∷ []) result
  pub utf8 : IsUtf8 path → IsUtf8 text → IsUtf8 result
  pub reads : ReadsIn profile result after u
  pub tree : IsInsertion profile (import_place t) (import_tree (import_place t))
      (import_tokens path) t (map (lexeme_at text) tokens) u (map (lexeme_at result) after)
  pub last : imports_in u ≡ map (move_wanted (moved (import_place t) (import_place t) 3))
      (imports_in t) ++ imports_in (import_tree (import_place t))

-- Where a string of the path in quotes is put in, a tree is read of what comes out.
abbrev pub AdditionsAreRead : Type 0
AdditionsAreRead =
    (profile : Profile) (text : Text) (tokens : List Token) (t : Tree) (path : Path)
    → ReadsIn profile text tokens t
    → IsString (quoted path)
    → (result : Text) × (after : List Token) × (u : Tree)
    × IsImportPutIn profile text tokens t path result after u

-- The old tree is the new one with the import put in.
pub record IsImportTakenOut
    (profile : Profile) (text : Text) (tokens : List Token) (t : Tree) (i : Import)
    (result : Text) (after : List Token) (u : Tree) : Type 0 where
  pub put : Puts 0 text (drop_of text tokens i ∷ []) result
  pub utf8 : IsUtf8 text → IsUtf8 result
  pub reads : ReadsIn profile result after u
  pub tokens_are : map (lexeme_at result) after
      ≡ without (statement.Import i) (map (lexeme_at text) tokens)
  pub tree : IsInsertion profile i.keyword (Leaf (statement.Import i) End)
      (own (statement.Import i) (map (lexeme_at text) tokens)) u (map (lexeme_at result) after) t
      (map (lexeme_at text) tokens)

-- Where an import is taken out, a tree is read of what comes out.
abbrev pub DropsAreRead : Type 0
DropsAreRead =
    (profile : Profile) (text : Text) (tokens : List Token) (t : Tree) (i : Import)
    → ReadsIn profile text tokens t
    → StandsIn (statement.Import i) t
    → (result : Text) × (after : List Token) × (u : Tree)
    × IsImportTakenOut profile text tokens t i result after u
