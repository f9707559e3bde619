use Rattle.std.proofs.Common.{List, find, map, option_map, ap, ◌∙◌}
use Rattle.std.proofs.lemmas.Result.{IfOk-weaker}
use Rattle.proto_ast.specs.Parts.{BlockOf}
use Rattle.proto_edit_rename.specs.MembersCommon.{block_of, holds_value, name_token}
use Rattle.proto_edit_rename.proofs.enum_names.enum_in.Goals as goal

pub returns : goal.returns
returns c =
    let blocks = ap (map block_of) c.deref.ensures.value ∙ c.in_ok-blocks.ensures in
    IfOk-weaker c.enum_of_value.result _ _
    (λ o e. e ∙ ap (λ (bs : List BlockOf). option_map (λ (b : BlockOf). name_token b.header) (find (λ (b : BlockOf). holds_value c.args.token b.header b.within) bs)) blocks)
    c.enum_of_value.ensures
