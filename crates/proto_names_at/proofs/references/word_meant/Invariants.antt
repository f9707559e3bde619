use Rattle.std.proofs.Common.{◌≡◌, drop}
use Rattle.proto_names_at.specs.References.{word_meant}
use Rattle.proto_names_at.proofs.references.word_meant.Given as goal

abbrev pub invariant-loop-place : goal.invariant-loop-place
invariant-loop-place l = word_meant l.token l.uses l.meant ≡ word_meant l.token (drop l.place l.uses) (drop l.place l.meant)
