use Rattle.std.proofs.Common.{◌≡◌, ◌≤◌, ◌++◌, flat_map, length, map, take}
use Rattle.proto_serving.specs.Serving.{texts}
use Rattle.proto_session_told.specs.Telling.{news_of, told_of}
use Rattle.proto_session_told.proofs.telling.add_new.Given as goal

abbrev pub invariant-loop-told : goal.invariant-loop-told
invariant-loop-told l = (l.from ≤ length l.old)
    × (texts l.messages.items ≡ texts l.initial.messages.items ++ flat_map (news_of (map told_of l.old)) (map told_of (take l.told-index l.new)))
