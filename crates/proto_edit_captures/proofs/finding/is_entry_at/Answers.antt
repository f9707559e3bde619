use Rattle.std.proofs.Common.{false, IsTrue}
use Rattle.proto_names_rules.specs.Grown.{at}
use Rattle.proto_edit_captures.proofs.LookedUp.{entry_found, no_entry_found}
use Rattle.proto_edit_captures.proofs.finding.is_entry_at.Goals as goal

pub returns-in-Some-place : goal.returns-in-Some-place
returns-in-Some-place c =
    entry_found c.args.link.now c.symbol.ensures.once c.in-Some.id.row c.args.name.now c.in-Some.ensures.some c.in-Some-place.place.kind c.in-Some-place.place.file c.in-Some-place.place.token c.args.file c.args.token
    c.in-Some-place.ensures.some c.is_entry_there.result c.is_entry_there.ensures

pub returns-in-None : goal.returns-in-None
returns-in-None c = (λ h. absurd (differ h), λ h. absurd (no_entry_found c.args.link.now c.symbol.ensures.once c.in-Some.id.row c.args.name.now c.in-Some.ensures.some c.in-None.ensures.none (at c.args.file c.args.token) h))
  where
    differ : IsTrue false → ⊥
    differ z = cc
