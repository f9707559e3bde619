use Rattle.proto_desc_affected.proofs.WantedEnums.{wanted_enums_are_there}
use Rattle.proto_desc_affected.proofs.laws.wanted_enums_are_there.Goals as goal

pub returns : goal.returns
returns c = wanted_enums_are_there c.links_have_what_is_kept.ensures.enums
