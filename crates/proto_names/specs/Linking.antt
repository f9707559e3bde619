-- The names of linked files: what is known of each, which files see it, and which references mean
-- it; and what each reference means.
use Rattle.std.specs.Prelude.{ℕ, suc, Bool, true, false, not, ◌&&◌, ◌==◌, if◌then◌else◌, List, [], ◌∷◌, ◌++◌, map, get_or, slice_get, slice_index_or, Option, Some, None, option_map}
use Rattle.std.specs.List.{filter, find, list_any}
use Rattle.std.specs.Option.{option_and_then}
use Rattle.std.specs.Str.{bytes_eq}
use Rattle.proto_base.specs.Texts.{Text}
use Rattle.proto_names_rules.specs.declared.kind.Kind.{Kind}
use Rattle.proto_names_rules.specs.Linked.{is_package}
use Rattle.proto_names_imports.specs.declared.import.FileImport.{FileImport}
use Rattle.proto_names_table.specs.Tables.{files_of}
pub use Rattle.proto_names_table.specs.declared.ids.RefId.{RefId}
pub use Rattle.proto_names_table.specs.declared.ids.SymbolId.{SymbolId}
pub use Rattle.proto_names_table.specs.declared.ids.Meant.{Meant}
use Rattle.proto_names_table.specs.declared.table.Row.{Row}

-- no element
abbrev pub is_empty : {A : Type 0} → List A → Bool
is_empty [] = true
is_empty (x ∷ xs) = false

-- what a link has of a name: its text, its kind, the files that declare it, and the token of its
-- first declaration
pub record NameOf : Type 0 where
  pub text : Text
  pub kind : Kind
  pub files : List ℕ
  pub token : ℕ

-- what a row of the table says of its name
abbrev pub name_of_row : Row → NameOf
name_of_row r = record {
  text = r.name;
  kind = r.symbol.kind;
  files = files_of r;
  token = r.symbol.token;
}

-- the names; for each file, its imports, the names that it declares, the marks of the files that it
-- sees, and what its references mean; for each name, the references that mean it
pub record LinkOf : Type 0 where
  pub names : List NameOf
  pub imports : List (List FileImport)
  pub rows : List (List ℕ)
  pub seen : List (List Bool)
  pub meant : List (List Meant)
  pub references : List (List RefId)

-- the name, if a file declares it
abbrev pub if_declared : NameOf → Option NameOf
if_declared n = if is_empty n.files then None else Some n

-- the row, if a file declares its name
abbrev pub declared_row : Row → Option Row
declared_row r = if r.is_declared then Some r else None

-- the name with this number, if there is one that a file declares
abbrev pub name_at : LinkOf → ℕ → Option NameOf
name_at l row = option_and_then if_declared (slice_get l.names row)

-- the text of the name with this number, if there is one that a file declares
abbrev pub name_text : LinkOf → ℕ → Option Text
name_text l row = option_map (λ n. n.text) (name_at l row)

-- a file declares the name, and it has this text
abbrev pub has_name : Text → NameOf → Bool
has_name text n = not (is_empty n.files) && bytes_eq n.text text

-- the name with this text, if there is one that a file declares
abbrev pub name_with : LinkOf → Text → Option NameOf
name_with l text = find (has_name text) l.names

-- the file that declares it (a package is of no file alone)
abbrev pub own_file : NameOf → Option ℕ
own_file n = if is_package n.kind then None else Some (get_or n.files 0 0)

-- the token that it is declared at (of a package, none)
abbrev pub own_token : NameOf → Option ℕ
own_token n = if is_package n.kind then None else Some n.token

-- the file that declares the name with this number; none of a package, and where there is no name
abbrev pub declaring_file : LinkOf → ℕ → Option ℕ
declaring_file l row = option_and_then own_file (name_at l row)

-- the token, in that file, that the name with this number is declared at; none where no file is
abbrev pub declaring_token : LinkOf → ℕ → Option ℕ
declaring_token l row = option_and_then own_token (name_at l row)

-- the row of the name that the reference with this first token means
abbrev pub row_at : List Meant → ℕ → Option ℕ
row_at ms token = option_map (λ m. m.row) (find (λ m. m.token == token) ms)

-- the row of the name that the reference with this first token means, among those of a file
abbrev pub meant_at : LinkOf → ℕ → ℕ → Option ℕ
meant_at l file token = row_at (get_or l.meant file []) token

-- one of these files is marked
abbrev pub sees_one : List Bool → List ℕ → Bool
sees_one seen files = list_any (λ f. slice_index_or seen f false) files

-- a name has this text, and one of its files is marked
abbrev pub shows_text : List Bool → Text → List NameOf → Bool
shows_text seen text names = list_any (λ n. bytes_eq n.text text && sees_one seen n.files) names

-- from the file a name is visible that has this text
abbrev pub is_visible : LinkOf → ℕ → Text → Bool
is_visible l file text = shows_text (get_or l.seen file []) text l.names

-- a reference, and the number of the name that it means
pub record MeantBy : Type 0 where
  pub reference : RefId
  pub row : ℕ

-- what a reference of this file means, with the file
abbrev pub meant_in_file : ℕ → Meant → MeantBy
meant_in_file file m = record { reference = record { file = file; token = m.token }; row = m.row }

-- the references of all files from this number on, file after file
abbrev pub all_meant : ℕ → List (List Meant) → List MeantBy
all_meant file [] = []
all_meant file (ms ∷ rest) = map (meant_in_file file) ms ++ all_meant (suc file) rest

-- those that mean this name
abbrev pub references_to : ℕ → List MeantBy → List RefId
references_to row ms = map (λ m. m.reference) (filter (λ m. m.row == row) ms)
