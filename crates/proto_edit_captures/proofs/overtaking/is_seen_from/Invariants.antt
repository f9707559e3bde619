use Rattle.std.proofs.Common.{◌≡◌, [], map, drop, string_bytes}
use Rattle.std.specs.HashSet.{contains_text}
use Rattle.proto_edit_captures.specs.Common.{shown_from, sees_text}
use Rattle.proto_names_rules.specs.Joined.{below}
use Rattle.proto_edit_captures.proofs.overtaking.is_seen_from.Given as goal

abbrev pub invariant-loop-part : goal.invariant-loop-part
invariant-loop-part l =
    shown_from (λ front. sees_text l.seen.link.now l.seen.files.now (contains_text l.seen.packages) l.around.fit (below front l.word)) l.around.least [] (map string_bytes l.around.scope.now)
    ≡ shown_from (λ front. sees_text l.seen.link.now l.seen.files.now (contains_text l.seen.packages) l.around.fit (below front l.word)) l.around.least (string_bytes l.front) (map string_bytes (drop l.part-index l.around.scope.now))
