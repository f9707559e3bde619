-- The statement of a field, as a field that is written.
use Rattle.std.proofs.Common.{◌≡◌, ℕ, refl}
use Rattle.proto_tree.specs.declared.piece.Statement.{Statement}
use Rattle.proto_tree.specs.declared.piece.Statement.TheVariants as statement
use Rattle.proto_edit_rules.specs.DeleteField.{IsFieldOf}
use Rattle.proto_edit_statement_described.specs.Deletions.{OfMap, Plain, WrittenField, written_name, written_number, statement_of}

pub record IsWritten (s : Statement) (name number : ℕ) : Type 0 where
  pub field : WrittenField
  pub same : s ≡ statement_of field
  pub named : written_name field ≡ name
  pub numbered : written_number field ≡ number

pub written : (s : Statement) (name number : ℕ) → IsFieldOf s name number → IsWritten s name number
written (statement.Field f) name number is = record { field = Plain f; same = refl; named = is.0; numbered = is.1 }
written (statement.MapField f) name number is = record { field = OfMap f; same = refl; named = is.0; numbered = is.1 }
written whole name number is = absurd is
