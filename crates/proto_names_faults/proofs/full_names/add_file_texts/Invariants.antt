use Rattle.std.proofs.Common.{◌≡◌, ◌+◌, ◌++◌, [], length, map, take}
use Rattle.proto_names_table.specs.Spelled.{named_on}
use Rattle.proto_names_faults.specs.Common.{name_at, shown}
use Rattle.proto_names_faults.proofs.full_names.add_file_texts.Given as goal

abbrev pub invariant-loop-one : goal.invariant-loop-one
invariant-loop-one l = record {
  len : length l.all.items ≡ length l.fn.all.items + l.one-index;
  names : map shown l.all.items ≡ map shown l.fn.all.items ++ map name_at (named_on l.file [] (take l.one-index l.spelled));
}
