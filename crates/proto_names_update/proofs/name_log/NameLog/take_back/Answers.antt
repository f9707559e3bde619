use Rattle.std.proofs.Common.{◌≡◌, ◌∙◌}
use Rattle.proto_names_table.proofs.Alike.{table_unchanged}
use Rattle.proto_names_update.specs.NameLogs.{seen_of, undone_table}
use Rattle.proto_names_update.proofs.Undoing.{seen_back, seen_unchanged}
use Rattle.proto_names_update.proofs.name_log.NameLog.take_back.Goals.{After-cut_back}
use Rattle.proto_names_update.proofs.name_log.NameLog.take_back.Goals as goal

seen : (c : After-cut_back) → seen_of c.cut_back.new.self ≡ undone_table c.args.self c.args.table.now
seen c = seen_back c.args.self c.args.table.now c.put_all_back.new.table c.cut_back.new.self c.put_all_back.ensures.standings c.put_all_back.ensures.rests c.put_all_back.ensures.below c.cut_back.ensures.rows c.cut_back.ensures.below

pub returns-clause-seen : goal.returns-clause-seen
returns-clause-seen c = seen (goal.at.returns-clause-seen c).After-cut_back

pub returns-clause-unchanged : goal.returns-clause-unchanged
returns-clause-unchanged c = λ was e. seen_unchanged was c.cut_back.new.self (seen (goal.at.returns-clause-unchanged c).After-cut_back ∙ e)

pub returns-clause-table : goal.returns-clause-table
returns-clause-table c = λ was e ok. table_unchanged was c.cut_back.new.self (seen_unchanged was c.cut_back.new.self (seen (goal.at.returns-clause-table c).After-cut_back ∙ e)) ok
