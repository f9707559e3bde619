use Rattle.std.proofs.Common.{map, sym, ◌∙◌, ap}
use Rattle.std.proofs.lemmas.Result.{IfOk-weaker}
use Rattle.std.specs.List.{list_any}
use Rattle.proto_names_faults.specs.Common.{is_package_named, shown}
use Rattle.proto_names_table.specs.Spelled.{all_named}
use Rattle.proto_names_faults.proofs.Clashes.{clashes_as_text}
use Rattle.proto_names_faults.proofs.FullNames.{files_plain}
use Rattle.proto_names_faults.proofs.clashing.clash_flaws.Goals as goal

pub clashes-requires : goal.clashes-requires
clashes-requires c = λ text. c.in_ok-taken.ensures text ∙ ap (λ xs. list_any (is_package_named text) (map shown xs)) (c.deref.ensures.value ∙ sym c.deref-2.ensures.value)

pub returns : goal.returns
returns c = IfOk-weaker c.clashes.result _ _
    (λ ws h.
    clashes_as_text (all_named 0 (map (λ v. v.items) c.args.files.now)) (files_plain c.args.files.now c.requires.spelled) (map shown c.deref-2.result.now) (ap (map shown) c.deref-2.ensures.value ∙ c.in_ok-all.ensures) ws.items h)
    c.clashes.ensures
