use Rattle.std.proofs.Common.{◌≡◌, ◌*◌, ◌≤◌, length, filter}
use Rattle.std.specs.List.{range_with_len}
use Rattle.proto_file_sets.specs.Words.{has_file}
use Rattle.proto_file_sets.proofs.words.set_files.Given as goal

abbrev pub invariant-loop-index : goal.invariant-loop-index
invariant-loop-index l =
    record {
      files : l.files.items ≡ filter (has_file l.words) (range_with_len 0 (64 * l.index));
      upto : l.index ≤ length l.words;
    }
