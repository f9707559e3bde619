use Rattle.proto_journal.proofs.CutCalls.{cut_commits_come_back, cut_undos_come_back}
use Rattle.proto_journal.proofs.laws.cut_calls_come_back.Goals as goal

pub returns : goal.returns
returns c = record {
  commits = cut_commits_come_back c.recoveries_are_one.ensures c.torn_stores_come_back.ensures.back;
  undos = cut_undos_come_back c.recoveries_are_one.ensures c.torn_stores_come_back.ensures.back c.journals_grow_and_shrink.ensures.less;
}
