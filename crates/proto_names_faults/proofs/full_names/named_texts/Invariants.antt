use Rattle.std.proofs.Common.{◌≡◌, map, take}
use Rattle.proto_names_table.specs.Spelled.{all_named}
use Rattle.proto_names_faults.specs.Common.{name_at, shown}
use Rattle.proto_names_faults.proofs.full_names.named_texts.Given as goal

abbrev pub invariant-loop-file : goal.invariant-loop-file
invariant-loop-file l = map shown l.all.items ≡ map name_at (all_named 0 (take l.file (map (λ v. v.items) l.files)))
