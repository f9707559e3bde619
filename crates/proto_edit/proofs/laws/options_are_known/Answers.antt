use Rattle.proto_edit.proofs.laws.options_are_known.Goals as goal

pub returns : goal.returns
returns c = record {
  renames = c.renames_leave_options.ensures.same;
  deletions = c.deletions_leave_options.ensures;
  additions = c.additions_leave_options.ensures;
  drops = c.drops_leave_options.ensures;
}
