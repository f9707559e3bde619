use Rattle.std.proofs.Common.{◌≡◌, All, Contains, length, take}
use Rattle.proto_names_affected.specs.FirstWords.{FirstsStay}
use Rattle.proto_option_files.specs.OptionFiles.{HaveFileKeys, OthersStay}
use Rattle.proto_option_files.proofs.option_files.OptionFiles.add_changed.Given as goal

abbrev pub invariant-loop-file : goal.invariant-loop-file
invariant-loop-file l = record {
  sized : All (λ set. length set ≡ length l.files) l.self;
  stay : FirstsStay l.initial.self l.self;
  added : HaveFileKeys l.files l.self (take l.file-index l.changed);
  others : OthersStay l.initial.self l.self (Contains l.changed);
}
