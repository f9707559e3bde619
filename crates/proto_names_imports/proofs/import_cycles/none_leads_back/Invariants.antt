use Rattle.std.proofs.Common.{map}
use Rattle.proto_names_imports.proofs.Acyclic.{NoneBefore}
use Rattle.proto_names_imports.proofs.import_cycles.none_leads_back.Given as goal

abbrev pub invariant-loop-file : goal.invariant-loop-file
invariant-loop-file l = NoneBefore (map (λ v. v.items) l.next) (map (λ v. v.items) l.importers) l.file
