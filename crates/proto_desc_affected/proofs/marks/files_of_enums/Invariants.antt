use Rattle.std.proofs.Common.{◌≡◌, ℕ, All, [], length, get_or, take}
use Rattle.proto_desc_affected.specs.Common.{IsEnumMarked}
use Rattle.proto_desc_affected.proofs.marks.files_of_enums.Given as goal

abbrev pub invariant-loop-file : goal.invariant-loop-file
invariant-loop-file l = record {
  len : length l.wanted ≡ length l.files;
  each : All (λ (file : ℕ). All (IsEnumMarked l.link l.wanted) (get_or l.link.meant file [])) (take l.file-index l.file-items);
}
