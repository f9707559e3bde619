use Rattle.proto_base.specs.declared.profile.Profile.TheVariants as profile
use Rattle.proto_text.proofs.Grouping.{groups_are_pieces, pieces_are_groups, one_grouping}
use Rattle.proto_text.proofs.laws.groups_are_pieces.Goals as goal

pub returns : goal.returns
returns c = record {
  pieces = groups_are_pieces profile.Core;
  groups = pieces_are_groups profile.Core;
  one = one_grouping profile.Core;
  pieces_in = groups_are_pieces;
  groups_in = pieces_are_groups;
  one_in = one_grouping;
}
