use Rattle.std.proofs.Common.{◌≡◌, All, length, take}
use Rattle.proto_desc_affected.specs.Common.{file_summaries_of}
use Rattle.proto_desc_affected.proofs.AskedFiles.{IsAsked}
use Rattle.proto_desc_affected.proofs.marks.unsure_to_check.Given as goal

abbrev pub invariant-loop-file : goal.invariant-loop-file
invariant-loop-file l = record {
  len : length l.affected ≡ length l.linked.files;
  asked : All (IsAsked l.places l.linked.files l.linked.link (file_summaries_of l.kept.files.now) l.affected) (take l.file-index l.file-items);
}
