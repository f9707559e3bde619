use Rattle.std.proofs.Common.{[], ◌∷◌, ◌++◌, map, sym, ◌∙◌, ap, slice_set}
use Rattle.std.proofs.lemmas.List.{get_or-map, map-set}
use Rattle.proto_option_values.proofs.leading.put_in.Goals as goal

pub returns : goal.returns
returns c =
    map-set (λ v. v.items) c.args.lists.now.items c.args.place c.push.new.self
    ∙ ap (slice_set (map (λ v. v.items) c.args.lists.now.items) c.args.place)
    (c.in_ok-push.ensures.items ∙ ap (λ z. z ++ c.args.file ∷ []) (ap (λ v. v.items) c.index_mut-list.ensures.value ∙ sym (get_or-map (λ v. v.items) c.args.lists.now.items c.args.place c.index_mut-list.result.now [] c.requires)))
