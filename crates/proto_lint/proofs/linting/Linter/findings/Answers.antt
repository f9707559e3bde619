use Rattle.std.proofs.Common.{ℕ, ◌++◌, List, map, ap, ◌∙◌, arith}
use Rattle.proto_files.specs.GivenFiles.{file_at}
use Rattle.proto_lint_names.proofs.Common.{found_in, Found, finding_of}
use Rattle.proto_lint.specs.Findings.{findings}
use Rattle.proto_lint.proofs.FileFindings.{findings_more}
use Rattle.proto_lint.proofs.linting.Linter.findings.Goals as goal

pub loop-file-preserved : goal.loop-file-preserved
loop-file-preserved c = λ reads are.
    (let l = c.args.self.now in
    let files = l.linked.now.files in
    let before = map finding_of c.loop-file.all.items in
    let added = c.in_ok-add_findings.ensures
    ∙ ap (λ (path : List ℕ). before ++ map (found_in path) c.in_ok-found.found) (rw c.files-files.ensures.files at c.path.ensures)
    ∙ ap (λ (fs : List Found). before ++ map (found_in (file_at files c.loop-file.file).path) fs) (c.in_ok-found.ensures reads are) in
    findings_more files reads are l.rules.now.chosen c.loop-file.file (omega (arith, c.loop-file-test.true, c.file_count-file-end.ensures.len)) before _ (findings l.rules.now.chosen files reads) added (c.loop-file.invariant reads are))
