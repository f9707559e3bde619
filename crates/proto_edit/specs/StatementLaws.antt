-- What edits of statements rest on: laws of deleted fields, of added and of dropped imports.
use Rattle.proto_edit_statement_laws.specs.DeletionChanges.{FieldsAreOne}
use Rattle.proto_edit_statement_described.specs.Workspace.{DeletionsAreMade, FieldsMayBeDeleted}
use Rattle.proto_edit_statement_described.specs.Statements.{FilesAreThere, ImportsAreOne, ImportsAreThere}
use Rattle.proto_edit_statement_described.specs.Workspaces.{AdditionsAreMade, DropsAreMade}
use Rattle.proto_edit_statement_laws.specs.Fields.{NamedFieldsAreOne}
use Rattle.proto_edit_statement_laws.specs.Places.{NeededPlacesAreOne, OvertakenPlacesAreOne}

-- what is known of deletions, added and dropped imports: the laws that steps of these rest on
pub record StatementLaws : Type 0 where
  pub deleted : DeletionsAreMade
  pub fields : FieldsMayBeDeleted
  pub one_named : NamedFieldsAreOne
  pub one_field : FieldsAreOne
  pub added : AdditionsAreMade
  pub files : FilesAreThere
  pub overtaken : OvertakenPlacesAreOne
  pub dropped : DropsAreMade
  pub imports : ImportsAreThere
  pub one_import : ImportsAreOne
  pub needed : NeededPlacesAreOne
