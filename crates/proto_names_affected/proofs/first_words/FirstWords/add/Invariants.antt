use Rattle.std.proofs.Common.{◌<◌, All, length, take}
use Rattle.proto_names_affected.specs.FirstWords.{FirstsStay, HasFirsts}
use Rattle.proto_names_affected.proofs.first_words.FirstWords.add.Given as goal

abbrev pub invariant-loop-one : goal.invariant-loop-one
invariant-loop-one l = record {
  within : All (λ set. l.file < length set) l.self;
  stay : FirstsStay l.initial.self l.self;
  added : HasFirsts l.self l.file (take l.one-index l.meant);
}
