use Rattle.std.proofs.Common.{◌≡◌, ◌++◌, List, map, take}
use Rattle.proto_desc_extensions.specs.Common.{HasSeen, Told, again, told_by}
use Rattle.proto_desc_extensions.proofs.flaws.add_again.Given as goal

abbrev pub invariant-loop-extension : goal.invariant-loop-extension
invariant-loop-extension l = record {
  flaws : (before : List Told) → HasSeen l.initial.seen before → l.found.items ≡ l.initial.found.items ++ again before (map told_by (take l.extension-index l.extensions));
  seen : (before : List Told) → HasSeen l.initial.seen before → HasSeen l.seen (before ++ map told_by (take l.extension-index l.extensions));
}
