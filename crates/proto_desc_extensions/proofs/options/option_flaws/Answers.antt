use Rattle.proto_desc_extensions.proofs.ExtendedRows.{no_rows_of_files}
use Rattle.proto_desc_extensions.proofs.options.option_flaws.Goals as goal

pub flaws_of_file-requires-clause-rows : goal.flaws_of_file-requires-clause-rows
flaws_of_file-requires-clause-rows c = no_rows_of_files c.args.linked.now.files c.new-rows.result c.new-rows.ensures.empty
