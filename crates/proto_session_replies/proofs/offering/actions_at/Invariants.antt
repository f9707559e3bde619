use Rattle.std.proofs.Common.{map, take}
use Rattle.proto_lint_names.proofs.Common.{finding_of}
use Rattle.proto_session_files.specs.Views.{view_at}
use Rattle.proto_session_replies.proofs.OfferLists.{OffersSoFar}
use Rattle.proto_session_replies.proofs.offering.actions_at.Given as goal

abbrev pub invariant-loop-finding : goal.invariant-loop-finding
invariant-loop-finding l =
    OffersSoFar (view_at l.view) l.workspace l.fn.spot l.fn.range (map finding_of (take l.finding-index l.finding-items)) l.actions.items
