use Rattle.std.proofs.Common.{take}
use Rattle.std.specs.List.{AllZip}
use Rattle.proto_session_files.specs.Views.{view_at}
use Rattle.proto_session_replies.specs.Replies.{IsDocumentEdit}
use Rattle.proto_session_replies.proofs.requesting.document_edits.Given as goal

abbrev pub invariant-loop-of_file : goal.invariant-loop-of_file
invariant-loop-of_file l =
    AllZip (IsDocumentEdit (view_at l.view)) (take l.of_file-index l.edits) l.all.items
