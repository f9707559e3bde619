use Rattle.std.proofs.Common.{◌≡◌, map, take, string_bytes}
use Rattle.std.specs.Cow.{cow_str_bytes}
use Rattle.proto_names_rules.specs.Joined.{joined}
use Rattle.proto_names_table.proofs.packages.package_text.Given as goal

abbrev pub invariant-loop-k : goal.invariant-loop-k
invariant-loop-k l = string_bytes l.text ≡ joined (map (λ s. cow_str_bytes s.word) (take l.k l.spelled))
