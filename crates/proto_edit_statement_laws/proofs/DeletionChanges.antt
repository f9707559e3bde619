-- A deletion changes one file by one splice, which is an entry.
use Rattle.std.proofs.Common.{◌≢◌, ℕ, Option, Some, None, List}
use Rattle.proto_text.specs.declared.lexer.Token.{Token}
use Rattle.proto_tree.proofs.Common.{ReadsIn, Tree}
use Rattle.proto_files.proofs.Common.{read_at, file_at}
use Rattle.proto_edit_statement_laws.specs.Deletions.{DeletionsAreOfOneTree, IsDeleted}
use Rattle.proto_edit_rules.specs.DeleteField.{StandsAt, deletion, name_of_field, field_number_value, splice_of_deletion}
use Rattle.proto_edit_statement_laws.specs.DeletionChanges.{DeletionsAreChanges}
use Rattle.proto_edit_statement_laws.proofs.Apart.{from_message, from_oneof}
use Rattle.proto_edit_statement_laws.proofs.FieldNames.{name_is_word}
use Rattle.proto_edit_statement_laws.proofs.OneFile.{changed_by}
use Rattle.proto_base.specs.declared.profile.Profile.{Profile}

pub deletions_are_changes : DeletionsAreOfOneTree → DeletionsAreChanges
deletions_are_changes law files reads f are at small short =
    let text : List ℕ = (file_at files f.file).bytes in
    let tokens : List Token = (read_at reads f.file).tokens in
    let tree : Tree = (read_at reads f.file).tree in
    let number : ℕ = field_number_value files reads f in
    let name : List ℕ = name_of_field files reads f in
    let profile : Profile = (file_at files f.file).profile in
    let read : ReadsIn profile text tokens tree = are.read.trees f.file at.within in
    let v = law profile text tokens tree f.statement f.oneof number name read at.stands small (name_is_word profile text tokens tree f.statement f.name f.number read at.stands at.declares) in (
      v.0,
      v.1,
      v.2,
      record {
        deleted = v.3;
        changed = changed_by files reads f.file (splice_of_deletion files reads f) v.0 v.1 v.2 are at.within v.3.put v.3.utf8 v.3.reads (apart f.oneof profile text tokens tree v.0 v.1 v.2 number name read at.stands v.3) short;
      },
    )
  where
    apart : (o : Option ℕ) (profile : Profile) (text : List ℕ) (tokens : List Token) (tree : Tree) (result : List ℕ) (after : List Token) (u : Tree) (number : ℕ) (name : List ℕ) → ReadsIn profile text tokens tree → StandsAt f.statement o tree → IsDeleted profile text tokens tree f.statement o number name result after u
        → (deletion text tokens f.statement o number name).old ≢ (deletion text tokens f.statement o number name).new
    apart None profile text tokens tree result after u number name read stands d = from_message profile text tokens tree f.statement number name result after u read f.name f.number at.declares d
    apart (Some close) profile text tokens tree result after u number name read stands d = from_oneof profile text tokens tree f.statement number name result after u read close stands d
