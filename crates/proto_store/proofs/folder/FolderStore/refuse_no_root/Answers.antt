use Rattle.std.proofs.Common.{rules}
use Rattle.proto_store.proofs.folder.FolderStore.refuse_no_root.Goals as goal

pub returns : goal.returns
returns g c = search rules
