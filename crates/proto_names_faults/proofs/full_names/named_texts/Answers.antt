use Rattle.std.proofs.Common.{◌<◌, ◌++◌, [], length, map, sym, ◌∙◌, ap, subst, arith, take_all}
use Rattle.proto_base.proofs.Common.{get_or-map, length-map}
use Rattle.proto_names_table.specs.Spelled.{AreSpelled, all_named, named_in}
use Rattle.proto_names_faults.specs.Common.{name_at, shown}
use Rattle.proto_names_faults.proofs.FullNames.{file_texts_turn}
use Rattle.proto_names_faults.proofs.full_names.named_texts.Goals as goal

pub add_file_texts-requires : goal.add_file_texts-requires
add_file_texts-requires c = subst AreSpelled (sym (c.deref.ensures.value ∙ ap (λ v. v.items) c.index-files-file.is)) (c.requires.spelled c.loop-file.file c.index-files-file.result c.loop-file-test.true)

pub loop-file-preserved : goal.loop-file-preserved
loop-file-preserved c =
    let fs = map (λ v. v.items) c.args.files.now in
    let file = c.loop-file.file in
    let l : file < length fs = omega (arith, c.loop-file-test.true, length-map c.args.files.now (λ v. v.items)) in
    let own = c.deref.ensures.value ∙ ap (λ v. v.items) c.index-files-file.is ∙ sym (get_or-map (λ v. v.items) c.args.files.now file c.index-files-file.result [] c.loop-file-test.true) in
    file_texts_turn fs file c.loop-file.all.items c.add_file_texts.new.all.items l c.loop-file.invariant (c.in_ok-add_file_texts.ensures ∙ ap (λ ss. map shown c.loop-file.all.items ++ map name_at (named_in file ss)) own)

pub returns : goal.returns
returns c =
    let fs = map (λ v. v.items) c.args.files.now in
    c.loop-file.invariant ∙ ap (λ xs. map name_at (all_named 0 xs)) (take_all c.loop-file.file fs (omega (arith, c.loop-file-test.false, length-map c.args.files.now (λ v. v.items))))
