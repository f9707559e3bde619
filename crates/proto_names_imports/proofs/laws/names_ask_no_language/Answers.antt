use Rattle.proto_names_imports.proofs.FilesAsWritten.{core_files_link, names_ask_no_language}
use Rattle.proto_names_imports.proofs.laws.names_ask_no_language.Goals as goal

pub returns : goal.returns
returns c = record { same = names_ask_no_language; clean = core_files_link }
