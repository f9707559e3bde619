use Rattle.std.proofs.Common.{◌≡◌, take, map, string_bytes}
use Rattle.proto_journal_records.proofs.putting.paths_in.Given as goal

abbrev pub invariant-loop-file : goal.invariant-loop-file
invariant-loop-file l = map (λ p. p.now) l.paths.items ≡ map (λ f. string_bytes f.0) (take l.file-index l.files)
