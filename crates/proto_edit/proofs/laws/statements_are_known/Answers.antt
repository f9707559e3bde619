use Rattle.proto_edit.proofs.laws.statements_are_known.Goals as goal

pub returns : goal.returns
returns c = record {
  deleted = c.deletions_are_made.ensures.made;
  fields = c.fields_may_be_deleted.ensures.there;
  one_named = c.fields_are_one.ensures.one;
  one_field = c.statements_are_one.ensures.one;
  added = c.additions_are_made.ensures;
  files = c.statements_are_found.ensures.files;
  overtaken = c.places_are_one.ensures.one_overtaken;
  dropped = c.drops_are_made.ensures;
  imports = c.statements_are_found.ensures.there;
  one_import = c.statements_are_found.ensures.one;
  needed = c.places_are_one.ensures.one_needed;
}
