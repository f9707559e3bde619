use Rattle.std.proofs.Common.{◌≡◌, ◌++◌, drop}
use Rattle.proto_text.specs.Splicing.{edits}
use Rattle.proto_edit_entries.proofs.change.copy_splices.Given as goal

abbrev pub invariant-loop-splice : goal.invariant-loop-splice
invariant-loop-splice l = edits l.list.items ++ edits (drop l.splice-index l.items) ≡ edits l.items
