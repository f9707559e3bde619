use Rattle.std.proofs.Common.{sym, ◌∙◌, ap}
use Rattle.std.specs.HashSet.{contains_text}
use Rattle.proto_text.specs.Texts.{word_at}
use Rattle.proto_tree.specs.File.{tree_of_file}
use Rattle.proto_files.proofs.Common.{read_at, same_tree}
use Rattle.proto_names_outline.specs.FromTree.{file_names}
use Rattle.proto_edit_captures.specs.Common.{first_passing, overtakes_by}
use Rattle.proto_edit_captures.proofs.AllFiles.{if_ok}
use Rattle.proto_edit_captures.proofs.FileOvertaken.{first_is}
use Rattle.proto_edit_captures.proofs.overtaking.first_overtaken.Goals as goal

pub returns : goal.returns
returns c =
    let files = c.args.linked.now.files in
    let file = c.args.file in
    let l = c.args.linked.now.link in
    let marks = c.args.sees.now in
    let packages = contains_text c.in_ok-packages.packages in
    let declared = c.in_ok-listing.listing.declared.items in
    let us = c.in_ok-listing.listing.used.items in
    let ms = c.meant_in.result.now in
    let same = c.files-files.ensures.files in
    if_ok c.first_in_list.result (rw c.link-link.ensures.link at c.first_in_list.ensures) (λ first h reads are v sees.
    first_is files reads are c.link-link.ensures.clean.clean v marks l c.link-link.ensures.clean.link file c.requires sees packages (rw same at c.in_ok-packages.ensures) declared us ms
    (c.in_ok-listing.ensures.used ∙ ap (λ z. (file_names z).used) (sym (same_tree files reads file (tree_of_file c.tree.result.now) are c.requires (rw same at c.tree.ensures))))
    (rw c.link-link.ensures.link at c.meant_in.ensures.exact) first
    (h ∙ ap (λ z. first_passing (overtakes_by l marks packages (word_at z) declared) us ms) ((rw same at c.new-words.ensures.words) (read_at reads file).tokens (are.tokens file c.requires))))
