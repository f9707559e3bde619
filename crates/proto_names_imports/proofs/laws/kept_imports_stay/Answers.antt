use Rattle.proto_names_imports.proofs.KeptImports.{kept_imports_are_equal, kept_imports_are_sound}
use Rattle.proto_names_imports.proofs.laws.kept_imports_stay.Goals as goal

pub returns : goal.returns
returns c = record { equal = kept_imports_are_equal; sound = kept_imports_are_sound }
