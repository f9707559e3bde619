use Rattle.std.proofs.Common.{◌≡◌, All, length, take}
use Rattle.proto_names_affected.specs.FirstWords.{FirstsStay}
use Rattle.proto_names_affected.proofs.ChangedFirsts.{HasOwn}
use Rattle.proto_names_affected.proofs.first_words.FirstWords.add_changed.Given as goal

abbrev pub invariant-loop-change : goal.invariant-loop-change
invariant-loop-change l = record {
  sized : All (λ set. length set ≡ length l.meant) l.self;
  stay : FirstsStay l.initial.self l.self;
  added : All (HasOwn l.self l.meant) (take l.change-index l.changed);
}
