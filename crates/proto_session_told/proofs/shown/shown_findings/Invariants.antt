use Rattle.std.proofs.Common.{◌≡◌, map, take}
use Rattle.proto_lint_names.specs.Views.{finding_of}
use Rattle.proto_session_told.specs.Shown.{shown_finding, shown_of}
use Rattle.proto_session_told.proofs.shown.shown_findings.Given as goal

abbrev pub invariant-loop-finding : goal.invariant-loop-finding
invariant-loop-finding l =
    map shown_of l.shown.items ≡ map shown_finding (map finding_of (take l.finding-index l.listed))
