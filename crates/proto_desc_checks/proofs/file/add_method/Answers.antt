use Rattle.std.proofs.Common.{List, ◌++◌, map, ap, sym, ◌∙◌}
use Rattle.std.proofs.lemmas.Result.{on_ok_weaker}
use Rattle.proto_tree.specs.declared.piece.Header.TheVariants as header
use Rattle.proto_tree.specs.declared.tree.MethodEnd.{MethodEnd}
use Rattle.proto_tree.specs.declared.tree.MethodItem.{MethodItem}
use Rattle.proto_tree.specs.File.{trees, method_by, method_item_tree}
use Rattle.proto_ast.proofs.Common.{OptionOf, options_in, option_of}
use Rattle.proto_ast.specs.declared.options.Element.TheVariants as element
use Rattle.proto_desc_numbers.specs.declared.flaw.Flaw.{Flaw}
use Rattle.proto_desc_checks.specs.Common.{option_flaws, flaws_in_blocks}
use Rattle.proto_desc_checks.proofs.Blocks.{flaws_of_method}
use Rattle.proto_desc_checks.proofs.file.add_method.Goals as goal

pub returns-in_ok-options-in-Block : goal.returns-in_ok-options-in-Block
returns-in_ok-options-in-Block c =
    let m = c.args.method.now in
    let found = c.args.found.now.items in
    on_ok_weaker c.add_option_flaws.result
    (λ e. e
    ∙ ap (λ (os : List OptionOf). found ++ option_flaws c.args.scene.now element.Method os) (ap (map option_of) c.deref-in-Block.ensures.value ∙ c.in_ok-options-in-Block.ensures ∙ ap (λ (is : List MethodItem). options_in (trees method_item_tree is)) c.deref.ensures.value)
    ∙ ap (λ (fs : List Flaw). found ++ fs) (sym (ap (λ (end : MethodEnd). flaws_in_blocks c.args.scene.now (method_by m.signature end)) c.in-Block.is ∙ flaws_of_method c.args.scene.now (header.Method m.signature) c.in-Block.open c.in-Block.items.items c.in-Block.close)))
    c.add_option_flaws.ensures
