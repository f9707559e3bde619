use Rattle.std.proofs.Common.{◌∙◌, List, ℕ, map, ap, sym, bytes_eq}
use Rattle.proto_base.proofs.Common.{list_any, any_map}
use Rattle.proto_desc_checks.proofs.names.is_known.Goals as goal

pub returns : goal.returns
returns c =
    c.contains.ensures
    ∙ sym (any_map (bytes_eq c.text.result.now) (λ k. k.now) c.args.known.now.keys)
    ∙ ap (λ (w : List ℕ). list_any (bytes_eq w) (map (λ k. k.now) c.args.known.now.keys)) c.text.ensures
