use Rattle.std.proofs.Common.{take}
use Rattle.std.specs.List.{AllZip}
use Rattle.proto_session_replies.specs.Replies.{IsTextEdit}
use Rattle.proto_session_replies.proofs.requesting.text_edits.Given as goal

abbrev pub invariant-loop-edit : goal.invariant-loop-edit
invariant-loop-edit l = AllZip IsTextEdit (take l.edit-index l.edits) l.all.items
