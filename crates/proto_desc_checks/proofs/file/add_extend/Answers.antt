use Rattle.std.proofs.Common.{◌++◌, List, ◌∙◌, ap, sym}
use Rattle.std.proofs.lemmas.Result.{on_ok_weaker}
use Rattle.proto_tree.specs.declared.piece.Header.TheVariants as header
use Rattle.proto_desc_numbers.specs.declared.flaw.Flaw.{Flaw}
use Rattle.proto_desc_checks.proofs.Blocks.{flaws_of_extend}
use Rattle.proto_desc_checks.proofs.file.add_extend.Goals as goal

pub returns : goal.returns
returns c =
    let e = c.args.extend.now in
    on_ok_weaker c.add_extend_flaws.result
    (λ h. h ∙ ap (λ (fs : List Flaw). c.args.found.now.items ++ fs) (sym (flaws_of_extend c.args.scene.now (header.Extend (record { keyword = e.keyword; extendee = e.extendee })) e.«open» e.fields.items e.close)))
    c.add_extend_flaws.ensures
