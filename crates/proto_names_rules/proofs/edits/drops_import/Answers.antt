use Rattle.proto_names_rules.proofs.edits.drops_import.Goals as goal
use Rattle.proto_names_rules.proofs.Imports.{shrunk_means, needed_differs, linked_kept}

pub returns : goal.returns
returns c = record {
  means = λ w imports ok sub r free m h. shrunk_means w ok imports sub r free m h;
  needed = λ w imports ok r n m h. needed_differs w ok imports r m h n;
  linked = λ w imports ok sub free. linked_kept w ok imports (λ r cr m h. shrunk_means w ok imports sub r (free r cr) m h);
}
