use Rattle.proto_names_imports.proofs.ListedImports.{listed_imports_are_sound, listed_imports_are_these}
use Rattle.proto_names_imports.proofs.laws.listed_imports_are_known.Goals as goal

pub returns : goal.returns
returns c = record { these = listed_imports_are_these; sound = listed_imports_are_sound }
