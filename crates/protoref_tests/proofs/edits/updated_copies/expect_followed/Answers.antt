use Rattle.std.proofs.Common.{List, sym, subst}
use Rattle.proto_desc.specs.Edited.{AreCleanlyDescribed}
use Rattle.proto_desc.specs.Whole.FileFaults.{of_link}
use Rattle.proto_files.specs.Faults.{HasNoFault}
use Rattle.proto_files.specs.FilesRead.{AreRead}
use Rattle.proto_files.specs.GivenFiles.{FileOf}
use Rattle.proto_names_imports.specs.Links.{LinkFaults}
use Rattle.protoref_tests.proofs.edits.updated_copies.expect_followed.Goals as goal

pub follow_edit-requires-clause-link : goal.follow_edit-requires-clause-link
follow_edit-requires-clause-link g c = record {
  link = c.requires.link;
  clean = subst (λ (files : List FileOf). HasNoFault (LinkFaults files)) (sym c.requires.files) (λ y h. c.files-given.ensures.compiled.clean y (of_link y h));
  reads = c.descriptors.ensures.read.0;
  read = subst (λ (files : List FileOf). AreRead files c.descriptors.ensures.read.0) (sym c.requires.files) c.descriptors.ensures.read.1;
}

pub follow_edit-requires-clause-descriptors : goal.follow_edit-requires-clause-descriptors
follow_edit-requires-clause-descriptors g c =
    subst (λ (files : List FileOf). AreCleanlyDescribed files c.in_ok-descriptors.descriptors) (sym c.requires.files) (record {
      descriptors = c.in_ok-descriptors.ensures.same c.args.workspace.now c.descriptors.ensures.descriptors;
      clean = c.files-given.ensures.compiled.clean;
      reads = c.descriptors.ensures.read.0;
      read = c.descriptors.ensures.read.1;
    })
