use Rattle.std.proofs.Common.{◌≡◌, rules, refl, ap, ◌∙◌}
use Rattle.proto_base.proofs.Common.{YieldsList-from_map, items_from_collect, YieldsList-from_vec, IfOk-weaker}
use Rattle.proto_files.specs.Common.{files_of_as, named_files}
use Rattle.proto_files.proofs.NamedLists.{name_pair, named_files-map}
use Rattle.proto_files.proofs.paths.name_files.Goals as goal

pub returns : goal.returns
returns c =
    IfOk-weaker _ _ (λ w. named_files w.items ≡ files_of_as c.args.profile c.args.files.items)
    (λ w e. ap named_files e ∙ named_files-map c.args.profile c.args.files.items)
    (items_from_collect _ c.collect.ensures.ran
    (YieldsList-from_map _ (name_pair c.args.profile) (YieldsList-from_vec c.args.files.items (search rules) (search rules)) refl (λ x r q k. search rules)))
