use Rattle.std.proofs.Common.{◌≡◌, [], map, drop, string_bytes}
use Rattle.proto_edit_captures.specs.Common.{shown_from, texts_of, shown_below}
use Rattle.proto_edit_captures.proofs.capturing.is_shown_from.Given as goal

abbrev pub invariant-loop-part : goal.invariant-loop-part
invariant-loop-part l =
    shown_from (λ front. shown_below l.after.link.now l.after.file l.around.fit (texts_of l.after.names.now) front l.word) l.around.least [] (map string_bytes l.around.scope.now)
    ≡ shown_from (λ front. shown_below l.after.link.now l.after.file l.around.fit (texts_of l.after.names.now) front l.word) l.around.least (string_bytes l.front) (map string_bytes (drop l.part-index l.around.scope.now))
