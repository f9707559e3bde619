use Rattle.proto_names_rules.proofs.edits.renames.Goals as goal
use Rattle.proto_names_rules.proofs.Symbols.{ren_apart, package_stays}
use Rattle.proto_names_rules.proofs.Rename.{rename_means}
use Rattle.proto_names_rules.proofs.Renamed.{renamed_linked, captured_differs, meaning_clear}

pub returns : goal.returns
returns c = record {
  linked = renamed_linked;
  means = λ e w ok is r cr free m h. rename_means e w r m h (meaning_clear e w ok is r cr m h) free;
  captured = captured_differs;
  packages = package_stays;
  apart = ren_apart;
}
