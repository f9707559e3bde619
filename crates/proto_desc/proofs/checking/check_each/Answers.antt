use Rattle.std.proofs.Common.{◌≡◌, ℕ, ◌<◌, length, sym, subst, inl, inr, arith}
use Rattle.proto_base.proofs.Common.{cases_lt, err_from_is_err_and}
use Rattle.proto_resolved.specs.Scenes.{IsSceneOf}
use Rattle.proto_desc.specs.CheckSteps.{HasNoFlaw}
use Rattle.proto_desc.proofs.LeastCheckFault.{check_error, no_fault}
use Rattle.proto_desc.proofs.checking.check_each.Goals as goal

pub check_file-requires-clause-scene : goal.check_file-requires-clause-scene
check_file-requires-clause-scene c =
    let files = c.args.linked.now.files in
    let within : c.loop-file.file < length files = omega (arith, c.loop-file-test.true, c.file_count-file-end.ensures.len) in
    let scene = c.index-scenes-place.result in
    rw c.files-files.ensures.files
    (subst (IsSceneOf files c.loop-file.file) (sym c.index-scenes-place.is) (c.requires.scenes.each c.loop-file.file scene (omega (arith, within, c.requires.scenes.len))))

pub returns-in_err-check_file-clause-fault : goal.returns-in_err-check_file-clause-fault
returns-in_err-check_file-clause-fault c =
    let files = c.args.linked.now.files in
    let within : c.loop-file.file < length files = omega (arith, c.loop-file-test.true, c.file_count-file-end.ensures.len) in
    let exit = err_from_is_err_and c.from_residual.result c.from_residual.ensures.1 in
    rw (exit.1, exit.2) (check_error files c.files-files.ensures.linked.reads c.files-files.ensures.linked.read c.file_count-file-end.ensures.workspace c.loop-file.file within c.loop-file.invariant c.in_err-check_file.field-0.0 (rw c.files-files.ensures.files at c.in_err-check_file.ensures.fault))

pub loop-file-preserved : goal.loop-file-preserved
loop-file-preserved c = λ k l. elim (cases_lt k c.loop-file.file) [
  | inl before ↦ c.loop-file.invariant k before
  | inr past ↦ (let same : c.loop-file.file ≡ k = omega (arith, l, past) in subst (λ (i : ℕ). HasNoFlaw c.args.linked.now.files i) same (rw c.files-files.ensures.files at c.in_ok-check_file.ensures.clean))
]

pub returns-clause-clean : goal.returns-clause-clean
returns-clause-clean c =
    no_fault c.args.linked.now.files c.files-files.ensures.linked.reads c.files-files.ensures.linked.read (λ k l. c.loop-file.invariant k (omega (arith, l, c.loop-file-test.false, c.file_count-file-end.ensures.len, c.loop-file.auto.file-end)))
