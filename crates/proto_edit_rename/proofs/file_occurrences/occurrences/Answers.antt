use Rattle.proto_edit_rename.proofs.NoTargets.{of_name}
use Rattle.proto_edit_rename.proofs.file_occurrences.occurrences.Goals as goal

pub returns-in_ok-found-in-Ok : goal.returns-in_ok-found-in-Ok
returns-in_ok-found-in-Ok c = rw (← c.new-linked.ensures.files) (of_name c.new-linked.result.files c.in-Ok.target c.args.name.now c.in-Ok.ensures.ok c.in-Ok.ensures.named c.in_ok-found-in-Ok.found c.in_ok-found-in-Ok.ensures)
