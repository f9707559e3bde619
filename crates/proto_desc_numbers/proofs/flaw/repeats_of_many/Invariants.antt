use Rattle.std.proofs.Common.{◌≡◌}
use Rattle.std.specs.List.{list_any}
use Rattle.indexmap.specs.IndexSet.{contains}
use Rattle.proto_desc_numbers.specs.Flaws.{after_earlier}
use Rattle.proto_desc_numbers.proofs.flaw.repeats_of_many.Given as goal

abbrev pub invariant-loop-key : goal.invariant-loop-key
invariant-loop-key g l = record {
  flags : l.flags.items ≡ after_earlier g.K.PartialEq.eq l.yielded;
  seen : (q : g.row.K.Denot) → contains g.K.PartialEq.eq l.seen q ≡ list_any (λ p. g.K.PartialEq.eq p q) l.yielded;
}
