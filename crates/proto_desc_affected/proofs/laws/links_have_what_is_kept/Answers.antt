use Rattle.proto_desc_affected.proofs.EnumSummaries.{links_have_enums_kept}
use Rattle.proto_desc_affected.proofs.Linked.{links_have_what_is_kept, meant_messages_are_no_enums}
use Rattle.proto_desc_affected.proofs.Listed.{links_list_references}
use Rattle.proto_desc_affected.proofs.laws.links_have_what_is_kept.Goals as goal

pub returns-clause-kept : goal.returns-clause-kept
returns-clause-kept c = links_have_what_is_kept

pub returns-clause-enums : goal.returns-clause-enums
returns-clause-enums c = meant_messages_are_no_enums

pub returns-clause-listed : goal.returns-clause-listed
returns-clause-listed c = links_list_references

pub returns-clause-declared : goal.returns-clause-declared
returns-clause-declared c = links_have_enums_kept
