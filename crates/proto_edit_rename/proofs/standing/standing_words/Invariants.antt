use Rattle.std.proofs.Common.{◌≡◌, ◌++◌, drop}
use Rattle.proto_edit_rename.specs.StandingTokens.{standing_tokens}
use Rattle.proto_edit_rename.proofs.standing.standing_words.Given as goal

abbrev pub invariant-loop-place : goal.invariant-loop-place
invariant-loop-place l = l.found.items ++ standing_tokens l.link l.name (drop l.place l.uses) (drop l.place l.meant) ≡ standing_tokens l.link l.name l.uses l.meant
