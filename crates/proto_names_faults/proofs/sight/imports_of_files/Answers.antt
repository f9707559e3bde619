use Rattle.proto_names_faults.proofs.sight.imports_of_files.Goals as goal

pub imports_by_index-requires : goal.imports_by_index-requires
imports_by_index-requires c = c.in_ok-index.ensures
