use Rattle.std.proofs.Common.{take}
use Rattle.std.specs.List.{AllZip}
use Rattle.proto_session_files.specs.Views.{view_at}
use Rattle.proto_session_replies.specs.Replies.{IsSent}
use Rattle.proto_session_replies.proofs.requesting.all_sent.Given as goal

abbrev pub invariant-loop-location : goal.invariant-loop-location
invariant-loop-location l =
    AllZip (IsSent (view_at l.view) l.files) (take l.location-index l.locations) l.all.items
