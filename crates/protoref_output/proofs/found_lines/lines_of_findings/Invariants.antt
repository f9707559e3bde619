use Rattle.std.proofs.Common.{◌≡◌, map, take, flat_map, string_bytes}
use Rattle.proto_files.specs.GivenFiles.{file_at}
use Rattle.proto_lint_names.specs.Views.{finding_of}
use Rattle.protoref_output.specs.FoundLines.{found_line}
use Rattle.protoref_output.specs.Places.{IsCursorIn}
use Rattle.protoref_output.proofs.found_lines.lines_of_findings.Given as goal

abbrev pub invariant-loop-finding : goal.invariant-loop-finding
invariant-loop-finding l = record {
  lines : string_bytes l.text ≡ flat_map (found_line l.files) (map finding_of (take l.finding-index l.found));
  there : IsCursorIn (file_at l.files l.spot.file).bytes l.spot.cursor;
}
