use Rattle.std.proofs.Common.{◌≡◌, ℕ, ◌/◌, ◌<◌, ◌≤◌, not, ◌&&◌, ◌||◌, length}
use Rattle.proto_file_sets.specs.Words.{has_file}
use Rattle.proto_file_sets.proofs.words.add_new_bits.Given as goal

abbrev pub invariant-loop-index : goal.invariant-loop-index
invariant-loop-index l =
    record {
      count : length l.words ≡ length l.fn.words;
      done : (file : ℕ) → file / 64 < l.index → has_file l.words file ≡ (has_file l.fn.words file || has_file l.seen file && not (has_file l.before file));
      rest : (file : ℕ) → l.index ≤ file / 64 → has_file l.words file ≡ has_file l.fn.words file;
    }
