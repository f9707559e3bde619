use Rattle.std.proofs.Common.{ℕ, List, [], ◌∷◌, ◌++◌, take, map, ap, sym, ◌∙◌, bytes_eq, string_bytes}
use Rattle.proto_base.proofs.Common.{list_any, map_more}
use Rattle.proto_desc_checks.proofs.KnownNames.{known_more}
use Rattle.proto_desc_checks.proofs.names.known_names.Goals as goal

pub loop-name-preserved : goal.loop-name-preserved
loop-name-preserved c = λ w.
    let i = c.loop-name.name-index in
    let names = c.args.names.now in
    known_more (λ k. k.now) c.loop-name.known.keys c.insert.new.self.keys (map string_bytes (take i names)) c.as_str.result w c.in_ok-insert.ensures.keys (c.loop-name.invariant w)
    ∙ ap (λ (v : List ℕ). list_any (bytes_eq w) (map string_bytes (take i names) ++ v ∷ [])) (c.as_str.ensures.value ∙ ap string_bytes c.name-item.is)
    ∙ ap (list_any (bytes_eq w)) (sym (map_more string_bytes names i c.name-item.result c.loop-name-test.true))
