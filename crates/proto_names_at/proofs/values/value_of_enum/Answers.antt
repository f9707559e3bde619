use Rattle.std.proofs.Common.{Bor, map, option_map, sym, ap, ◌∙◌}
use Rattle.std.proofs.lemmas.Result.{IfOk-weaker}
use Rattle.proto_tree.specs.File.{tree_of_file}
use Rattle.proto_tree.specs.declared.tree.Block.{Block as Braced}
use Rattle.proto_tree.specs.declared.tree.EnumItem.{EnumItem}
use Rattle.proto_files.specs.FilesRead.{read_at}
use Rattle.proto_resolved.specs.Blocks.{block_of, enum_block}
use Rattle.proto_names_at.proofs.EnumValues.{enum_value, no_enum}
use Rattle.proto_names_at.proofs.values.value_of_enum.Goals as goal

pub returns-in-Some : goal.returns-in-Some
returns-in-Some c = IfOk-weaker c.value_in.result _ _ (λ value its. λ reads are.
    enum_value c.args.files.now reads are c.args.place.file c.requires (tree_of_file c.tree.result.now) c.tree.ensures c.args.place.token (map block_of c.deref.result.now) (ap (map block_of) c.deref.ensures.value ∙ c.in_ok-blocks.ensures) c.args.word.now
    (enum_block c.in-Some.found.now) (sym (ap (option_map (λ (e : Bor (Braced EnumItem)). enum_block e.now)) c.in-Some.is) ∙ c.enum_among.ensures)
    c.new-words.result (c.new-words.ensures.words (read_at reads c.args.place.file).tokens (are.tokens c.args.place.file c.requires)) value its) c.value_in.ensures

pub returns : goal.returns
returns c = λ reads are.
    no_enum c.args.files.now reads are c.args.place.file c.requires (tree_of_file c.tree.result.now) c.tree.ensures c.args.place.token (map block_of c.deref.result.now) (ap (map block_of) c.deref.ensures.value ∙ c.in_ok-blocks.ensures) c.args.word.now
    (sym (ap (option_map (λ (e : Bor (Braced EnumItem)). enum_block e.now)) c.in-None.is) ∙ c.enum_among.ensures)
