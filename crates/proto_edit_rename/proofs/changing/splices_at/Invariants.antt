use Rattle.std.proofs.Common.{◌≡◌, ◌++◌, drop, map}
use Rattle.proto_text.specs.Splicing.{edits}
use Rattle.proto_edit_rename.specs.MadeChanges.{word_put}
use Rattle.proto_edit_rename.proofs.changing.splices_at.Given as goal

abbrev pub invariant-loop-token : goal.invariant-loop-token
invariant-loop-token l = edits l.list.items ++ map (word_put l.source l.to) (drop l.token-index l.tokens) ≡ map (word_put l.source l.to) l.tokens
