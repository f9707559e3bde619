use Rattle.std.proofs.Common.{◌≡◌, ◌++◌, map, take, string_bytes, flat_map}
use Rattle.proto_edit_entries.specs.Entries.{change_of}
use Rattle.protoref_test_cases.specs.Told.{change_told}
use Rattle.protoref_test_cases.proofs.told.tell_entry.Given as goal

abbrev pub invariant-loop-change : goal.invariant-loop-change
invariant-loop-change l = string_bytes l.out ≡ string_bytes l.initial.out
    ++ flat_map change_told (map change_of (take l.change-index l.change-items))
