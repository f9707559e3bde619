use Rattle.std.proofs.Common.{◌++◌, List, ◌∙◌, ap, sym}
use Rattle.std.proofs.lemmas.Result.{on_ok_weaker}
use Rattle.proto_tree.specs.declared.piece.Header.TheVariants as header
use Rattle.proto_desc_numbers.specs.declared.flaw.Flaw.{Flaw}
use Rattle.proto_desc_checks.proofs.Blocks.{flaws_of_enum}
use Rattle.proto_desc_checks.proofs.file.add_enum.Goals as goal

pub returns : goal.returns
returns c =
    let e = c.args.enumeration.now in
    on_ok_weaker c.add_enum_flaws.result
    (λ h. h ∙ ap (λ (fs : List Flaw). c.args.found.now.items ++ fs) (sym (flaws_of_enum c.args.scene.now (header.Enum (record { keyword = e.keyword; name = e.name })) e.open e.members.items e.close)))
    c.add_enum_flaws.ensures
