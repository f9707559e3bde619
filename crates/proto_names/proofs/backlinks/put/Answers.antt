use Rattle.std.proofs.Common.{[], ◌∷◌, ◌++◌, map, sym, ◌∙◌, ap, slice_set}
use Rattle.std.proofs.lemmas.List.{get_or-map, map-set}
use Rattle.proto_names.proofs.backlinks.put.Goals as goal

pub returns : goal.returns
returns c =
    map-set (λ v. v.items) c.args.references.now.items c.args.row c.push.new.self
    ∙ ap (slice_set (map (λ v. v.items) c.args.references.now.items) c.args.row)
    (c.in_ok-push.ensures.items ∙ ap (λ z. z ++ c.args.reference ∷ []) (ap (λ v. v.items) c.index_mut-list.ensures.value ∙ sym (get_or-map (λ v. v.items) c.args.references.now.items c.args.row c.index_mut-list.result.now [] c.requires)))
