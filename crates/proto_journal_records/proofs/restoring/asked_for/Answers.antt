use Rattle.std.proofs.Common.{ℕ, List, [], ◌∷◌, ◌++◌, take, map, ap, sym, ◌∙◌, bytes_eq, string_bytes}
use Rattle.proto_base.proofs.Common.{list_any, map_more}
use Rattle.proto_journal_records.proofs.OldTexts.{asked_more}
use Rattle.proto_journal_records.proofs.restoring.asked_for.Goals as goal

pub loop-path-preserved : goal.loop-path-preserved
loop-path-preserved c = λ w.
    let i = c.loop-path.path-index in
    let paths = c.args.paths.now in
    asked_more (λ k. k.now) c.loop-path.known.keys c.insert.new.self.keys (map string_bytes (take i paths)) c.as_str.result w c.in_ok-insert.ensures.keys (c.loop-path.invariant w)
    ∙ ap (λ (v : List ℕ). list_any (bytes_eq w) (map string_bytes (take i paths) ++ v ∷ [])) (c.as_str.ensures.value ∙ ap string_bytes c.path-item.is)
    ∙ ap (list_any (bytes_eq w)) (sym (map_more string_bytes paths i c.path-item.result c.loop-path-test.true))
