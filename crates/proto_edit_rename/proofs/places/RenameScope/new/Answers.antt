use Rattle.std.proofs.Common.{rules}
use Rattle.proto_edit_rename.proofs.places.RenameScope.new.Goals as goal

pub invariant_of-result : goal.invariant_of-result
invariant_of-result c = record {
  clean = c.files.ensures.clean;
  target_of = c.requires.target;
  value = search rules;
  changed = search rules;
}
