use Rattle.std.proofs.Common.{map}
use Rattle.proto_base.proofs.Turns.{listed_all}
use Rattle.proto_lint_names.specs.Views.{finding_of}
use Rattle.proto_session_told.specs.Shown.{shown_finding, shown_of}
use Rattle.proto_session_told.proofs.Viewed.{viewed_more}
use Rattle.proto_session_told.proofs.shown.shown_findings.Goals as goal

pub loop-finding-preserved : goal.loop-finding-preserved
loop-finding-preserved c =
    viewed_more shown_of shown_finding finding_of c.args.listed.now c.loop-finding.finding-index c.finding-item.result c.finding-item.result c.loop-finding.shown.items _ _ c.loop-finding-test.true c.finding-item.is c.in_ok-push.ensures.items c.in_ok-shown_finding.ensures c.loop-finding.invariant

pub returns : goal.returns
returns c = listed_all shown_finding finding_of c.args.listed.now c.loop-finding.finding-index (map shown_of c.loop-finding.shown.items) c.loop-finding-test.false c.loop-finding.invariant
