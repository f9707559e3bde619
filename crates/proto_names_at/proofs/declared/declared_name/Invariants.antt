use Rattle.proto_names_at.proofs.DeclaredNames.{NoneSoFar}
use Rattle.proto_names_at.proofs.declared.declared_name.Given as goal

abbrev pub invariant-loop-index : goal.invariant-loop-index
invariant-loop-index l = NoneSoFar l.linked.files l.linked.link l.declared.rows.now l.index l.place.file l.place.token
