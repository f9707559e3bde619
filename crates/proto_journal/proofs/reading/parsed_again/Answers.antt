use Rattle.std.proofs.Common.{◌≡◌, List, ℕ, sym, subst, ◌∙◌}
use Rattle.proto_base.proofs.Common.{Decides-eqb, slice_eq-Decides}
use Rattle.proto_store.specs.Stores.{HoldsJournal}
use Rattle.proto_journal.proofs.Recorded.{last_ready}
use Rattle.proto_journal.proofs.reading.parsed_again.Goals as goal

pub returns-then-is_same-clause-outcome : goal.returns-then-is_same-clause-outcome
returns-then-is_same-clause-outcome c = λ held there.
    (let equal : c.as_slice.result.now ≡ c.as_slice-2.result.now = (slice_eq-Decides Decides-eqb c.as_slice.result.now c.as_slice-2.result.now c.eq-is_same.result c.eq-is_same.ensures).0 c.if-is_same.true in
    last_ready held c.known.inside.bytes.items c.known.inside.version c.known.inside.last (subst (λ (t : List ℕ). HoldsJournal held t) (sym c.as_slice.ensures.value ∙ equal ∙ c.as_slice-2.ensures.value) there) c.known.invariant)
