use Rattle.std.proofs.Common.{◌≡◌, ℕ, ◌/◌, ◌<◌, true}
use Rattle.proto_file_sets.specs.Words.{has_file}
use Rattle.proto_file_sets.proofs.words.have_common.Given as goal

abbrev pub invariant-loop-index : goal.invariant-loop-index
invariant-loop-index l = (file : ℕ) → file / 64 < l.index → has_file l.words file ≡ true → has_file l.others file ≡ true → ⊥
