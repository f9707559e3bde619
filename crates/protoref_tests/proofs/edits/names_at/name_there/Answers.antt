use Rattle.std.proofs.Common.{List, sym, subst}
use Rattle.proto_desc.specs.Whole.FileFaults.{of_link}
use Rattle.proto_files.specs.Faults.{HasNoFault}
use Rattle.proto_files.specs.GivenFiles.{FileOf}
use Rattle.proto_names_imports.specs.Links.{LinkFaults}
use Rattle.protoref_tests.proofs.edits.names_at.name_there.Goals as goal

pub name_at-requires-clause-linked : goal.name_at-requires-clause-linked
name_at-requires-clause-linked c =
    subst (λ (files : List FileOf). HasNoFault (LinkFaults files)) (sym c.files-files.ensures.files) (λ y h. c.files-files.ensures.compiled.clean y (of_link y h))
