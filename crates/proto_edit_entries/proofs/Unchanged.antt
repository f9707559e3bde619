-- The change that leads back, with all of its fields.
use Rattle.std.proofs.Common.{◌≡◌, refl}
use Rattle.proto_text.specs.Edits.{inverse_from}
use Rattle.proto_edit_entries.specs.Entries.{ChangeOf, turned_round}

turned_whole : (c : ChangeOf) → turned_round c ≡ (let x : ChangeOf = record {
  path = c.path;
  before = c.after;
  after = c.before;
  splices = inverse_from 0 0 c.splices;
} in x)
turned_whole c = refl
