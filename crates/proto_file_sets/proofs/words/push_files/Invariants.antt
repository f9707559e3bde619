use Rattle.std.proofs.Common.{◌≡◌, ◌*◌, ◌≤◌, ◌++◌, filter}
use Rattle.std.specs.List.{range_with_len}
use Rattle.proto_file_sets.specs.Words.{has_file}
use Rattle.proto_file_sets.proofs.words.push_files.Given as goal

abbrev pub invariant-loop-bit : goal.invariant-loop-bit
invariant-loop-bit l =
    record {
      files : l.files.items ≡ l.fn.files.items ++ filter (has_file l.words) (range_with_len (64 * l.fn.index) l.bit);
      upto : l.bit ≤ 64;
    }
