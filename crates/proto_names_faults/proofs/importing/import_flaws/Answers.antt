use Rattle.proto_names_faults.proofs.importing.import_flaws.Goals as goal

pub flaws_by_index-requires : goal.flaws_by_index-requires
flaws_by_index-requires c = c.in_ok-index.ensures
