use Rattle.proto_files.proofs.OneOrder.{one_order}
use Rattle.proto_files.proofs.laws.files_have_one_order.Goals as goal

pub returns : goal.returns
returns c = one_order
