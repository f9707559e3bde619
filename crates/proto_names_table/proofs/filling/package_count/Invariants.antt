use Rattle.std.proofs.Common.{◌≡◌, ℕ, ◌<◌, ◌≤◌, ◌-◌, length, get_or}
use Rattle.proto_names_rules.specs.declared.kind.Kind.TheVariants.{Package}
use Rattle.proto_names_table.specs.declared.spelled.Spelled.{Spelled}
use Rattle.proto_names_table.proofs.filling.package_count.Given as goal

abbrev pub invariant-loop-count : goal.invariant-loop-count
invariant-loop-count l = record { within : l.count ≤ length l.spelled; front : (k : ℕ) (s : Spelled) → k < l.count → (get_or l.spelled k s).kind ≡ Package }

abbrev pub decreases-loop-count : goal.decreases-loop-count
decreases-loop-count l = length l.spelled - l.count
