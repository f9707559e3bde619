use Rattle.std.proofs.Common.{List, ◌++◌, ◌∙◌, ap, sym, not, filter}
use Rattle.std.proofs.lemmas.List.{drop_all}
use Rattle.proto_names_table.specs.declared.ids.RefId.{RefId}
use Rattle.proto_names_affected.specs.Merged.{is_of_marked_file, merged}
use Rattle.proto_names_affected.proofs.Merging.{parted}
use Rattle.proto_names_affected.proofs.backlinks.renewed.Goals as goal

pub returns-clause-exact : goal.returns-clause-exact
returns-clause-exact c all rising kept fresh =
    c.in_ok-extend_from_slice.ensures.items
    ∙ ap (λ (z : List RefId). c.loop-reference.found.items ++ merged (filter (λ r. not (is_of_marked_file c.args.marks.now r)) z) c.loop-reference.rest.now) (sym (drop_all c.loop-reference.reference-index c.args.old.now c.loop-reference-test.false))
    ∙ c.loop-reference.invariant
    ∙ ap (λ (z : List RefId). merged z c.args.fresh.now) (sym kept) ∙ ap (merged (filter (λ r. not (is_of_marked_file c.args.marks.now r)) all)) (sym fresh) ∙ parted c.args.marks.now all rising
