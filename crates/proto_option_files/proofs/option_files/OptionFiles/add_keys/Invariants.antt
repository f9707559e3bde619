use Rattle.std.proofs.Common.{◌<◌, All, length, take}
use Rattle.proto_names_affected.specs.FirstWords.{FirstsStay}
use Rattle.proto_option_files.specs.OptionFiles.{AddsOnly, HasKeys}
use Rattle.proto_option_files.proofs.option_files.OptionFiles.add_keys.Given as goal

abbrev pub invariant-loop-key : goal.invariant-loop-key
invariant-loop-key l = record {
  within : All (λ set. l.file < length set) l.self;
  stay : FirstsStay l.initial.self l.self;
  added : HasKeys l.self l.file (take l.key-index l.keys);
  only : AddsOnly l.initial.self l.self l.file l.keys;
}
