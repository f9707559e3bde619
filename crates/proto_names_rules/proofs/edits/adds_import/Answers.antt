use Rattle.proto_names_rules.proofs.edits.adds_import.Goals as goal
use Rattle.proto_names_rules.specs.Edits.{with_imports}
use Rattle.proto_names_rules.proofs.Imports.{added_means, overtaken_differs, linked_kept}

pub returns : goal.returns
returns c = record {
  means = added_means;
  overtaken = λ w imports r o m h. overtaken_differs w (with_imports w imports) r m h o;
  linked = λ w imports file path ok add free. linked_kept w ok imports (λ r cr m h. added_means w imports file path add r (free r cr) m h);
}
