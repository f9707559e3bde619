use Rattle.std.proofs.Common.{◌∙◌}
use Rattle.proto_journal_records.proofs.OldFiles.{cut_in, err_of, next_in, next_listed}
use Rattle.proto_journal_records.proofs.putting.put_files.Goals as goal

pub replace-requires-clause-listed : goal.replace-requires-clause-listed
replace-requires-clause-listed g c =
    next_listed c.args.files.now (g.S.Store.holds c.args.store.now) c.loop-file.file-index c.file-item.result c.as_str.result.now (g.S.Store.holds c.loop-file.store) c.loop-file-test.true c.file-item.is
    c.as_str.ensures.value c.loop-file.invariant.holds c.requires.listed

pub returns-in_err-replace-clause-err : goal.returns-in_err-replace-clause-err
returns-in_err-replace-clause-err g c =
    err_of c.from_residual.result _ (cut_in c.args.files.now (g.S.Store.holds c.args.store.now) c.loop-file.file-index c.file-item.result c.as_str.result.now c.as_slice.result.now
    (g.S.Store.holds c.loop-file.store) (g.S.Store.holds c.replace.new.self) c.loop-file-test.true c.file-item.is c.as_str.ensures.value c.as_slice.ensures.value c.loop-file.invariant.holds
    c.in_err-replace.ensures.err)

pub loop-file-preserved : goal.loop-file-preserved
loop-file-preserved g c = record {
  holds = next_in c.args.files.now (g.S.Store.holds c.args.store.now) c.loop-file.file-index c.file-item.result c.as_str.result.now c.as_slice.result.now (g.S.Store.holds c.loop-file.store)
      (g.S.Store.holds c.replace.new.self) c.loop-file-test.true c.file-item.is c.as_str.ensures.value c.as_slice.ensures.value c.loop-file.invariant.holds c.in_ok-replace.ensures.ok;
  count = c.in_ok-replace.ensures.count ∙ c.loop-file.invariant.count;
}
