use Rattle.std.proofs.Common.{nat_eq, sym, ◌∙◌, inr}
use Rattle.indexmap.specs.IndexMap.{get}
use Rattle.proto_desc_affected.proofs.StillEnums.{still_row}
use Rattle.proto_desc_affected.proofs.marks.is_type_still.Goals as goal

pub returns-else-is_message_still : goal.returns-else-is_message_still
returns-else-is_message_still c = λ e files ks still.
    inr (still_row files c.args.link.now ks (get nat_eq c.args.still.now) still c.args.file.now.is_proto3 c.args.name.row (sym c.is_still.ensures ∙ e))
