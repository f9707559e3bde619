-- What is known of the options that an accepted edit leaves, by kinds of edits.
use Rattle.proto_option_laws.specs.Renames.{RenamesLeaveOptions}
use Rattle.proto_option_statement_laws.specs.OptionLaws.{AdditionsLeaveOptions, DeletionsLeaveOptions, DropsLeaveOptions}

-- what is known of the options that renames, deletions, added and dropped imports leave
pub record OptionLaws : Type 0 where
  pub renames : RenamesLeaveOptions
  pub deletions : DeletionsLeaveOptions
  pub additions : AdditionsLeaveOptions
  pub drops : DropsLeaveOptions
