use Rattle.std.proofs.Common.{◌≡◌, map, drop}
use Rattle.proto_names_at.specs.References.{behind_token}
use Rattle.proto_names_at.proofs.references.words_behind.Given as goal

abbrev pub invariant-loop-place : goal.invariant-loop-place
invariant-loop-place l = behind_token l.token (map (λ b. b.item) l.rest) ≡ behind_token l.token (map (λ b. b.item) (drop l.place l.rest))
