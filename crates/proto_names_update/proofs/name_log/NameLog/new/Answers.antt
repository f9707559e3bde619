use Rattle.std.proofs.Common.{◌∙◌}
use Rattle.proto_names_update.proofs.Undoing.{new_fits, new_undone}
use Rattle.proto_names_update.proofs.name_log.NameLog.new.Goals as goal

pub returns-clause-undone : goal.returns-clause-undone
returns-clause-undone c = new_undone (record { rows = c.len.result; words = c.len-2.result; changes = c.new.result }) c.args.table.now c.requires (c.len.ensures ∙ c.args.table.now.rows.ok.0) c.len-2.ensures.len c.new.ensures.items

pub returns-clause-fits : goal.returns-clause-fits
returns-clause-fits c = new_fits (record { rows = c.len.result; words = c.len-2.result; changes = c.new.result }) c.args.table.now c.requires (c.len.ensures ∙ c.args.table.now.rows.ok.0) c.len-2.ensures.len c.new.ensures.items
