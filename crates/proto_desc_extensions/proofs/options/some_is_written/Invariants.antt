use Rattle.std.proofs.Common.{◌≡◌, drop}
use Rattle.std.specs.List.{list_any}
use Rattle.proto_desc_extensions.specs.Options.{is_written}
use Rattle.proto_desc_extensions.proofs.options.some_is_written.Given as goal

abbrev pub invariant-loop-file : goal.invariant-loop-file
invariant-loop-file l = list_any is_written l.files ≡ list_any is_written (drop l.file l.files)
