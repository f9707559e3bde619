use Rattle.std.proofs.Common.{◌≡◌, drop, find, option_map}
use Rattle.proto_edit_statements.specs.Steps.{first_hidden, is_hidden}
use Rattle.proto_edit_statements.proofs.needing.first_hidden.Given as goal

abbrev pub invariant-loop-meant : goal.invariant-loop-meant
invariant-loop-meant l = first_hidden l.link l.file l.sees ≡ option_map (λ m. m.token) (find (λ m. is_hidden l.link l.sees m.row) (drop l.meant-index l.meant-items))
