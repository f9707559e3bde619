-- What descriptors say, as the plain records of `proto_descriptors`.
use Rattle.std.specs.Prelude.{List, map}
use Rattle.proto_desc.specs.declared.descriptors.Descriptors.{Descriptors}
use Rattle.proto_descriptors.specs.Descriptors.{FileDesc}
use Rattle.proto_descriptors.specs.Views.{file_desc}
use Rattle.proto_desc_affected.specs.Checked.{FileSummaryOf}
use Rattle.proto_desc_affected.specs.Kept.{file_summaries_of}

-- descriptors, file by file
abbrev pub files_desc : Descriptors → List FileDesc
files_desc d = map file_desc d.file.items

-- what is kept of each file
abbrev pub files_kept : Descriptors → List FileSummaryOf
files_kept d = file_summaries_of d.kept.items
