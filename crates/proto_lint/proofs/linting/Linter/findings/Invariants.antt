use Rattle.std.proofs.Common.{◌≡◌, ◌++◌, List, map, drop}
use Rattle.proto_files.specs.FilesRead.{AreRead, ReadOf}
use Rattle.proto_lint_names.specs.Views.{finding_of}
use Rattle.proto_lint.specs.Findings.{findings, findings_from}
use Rattle.proto_lint.proofs.linting.Linter.findings.Given as goal

abbrev pub invariant-loop-file : goal.invariant-loop-file
invariant-loop-file l = (reads : List ReadOf) → AreRead l.self.linked.now.files reads
    → map finding_of l.all.items ++ findings_from l.self.rules.now.chosen l.self.linked.now.files reads l.file (drop l.file reads) ≡ findings l.self.rules.now.chosen l.self.linked.now.files reads
