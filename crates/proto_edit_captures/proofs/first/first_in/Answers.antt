use Rattle.std.proofs.Common.{sym, ◌∙◌, ap}
use Rattle.proto_text.specs.Texts.{word_at}
use Rattle.proto_tree.specs.File.{tree_of_file}
use Rattle.proto_files.proofs.Common.{read_at, same_tree}
use Rattle.proto_names_outline.specs.FromTree.{file_names}
use Rattle.proto_edit_captures.specs.Common.{captures_by, first_passing, texts_of}
use Rattle.proto_edit_captures.proofs.AllFiles.{if_ok}
use Rattle.proto_edit_captures.proofs.FileCaptures.{first_is}
use Rattle.proto_edit_captures.proofs.first.first_in.Goals as goal

pub returns : goal.returns
returns c =
    let files = c.args.linked.now.files in
    let file = c.args.file in
    let l = c.args.linked.now.link in
    let n = texts_of c.args.names.now in
    let declared = c.in_ok-listing.listing.declared.items in
    let us = c.in_ok-listing.listing.used.items in
    let ms = c.meant_in.result.now in
    let same = c.files-files.ensures.files in
    if_ok c.first_of.result (rw c.link-link.ensures.link at c.first_of.ensures) (λ first h reads t to r texts.
    first_is files reads t to r l c.link-link.ensures.clean.link c.visible_is_seen.ensures.shown file c.requires n texts declared us ms
    (c.in_ok-listing.ensures.used ∙ ap (λ z. (file_names z).used) (sym (same_tree files reads file (tree_of_file c.tree.result.now) r.read c.requires (rw same at c.tree.ensures))))
    (rw c.link-link.ensures.link at c.meant_in.ensures.exact) first
    (h ∙ ap (λ z. first_passing (captures_by l file n (word_at z) declared) us ms) ((rw same at c.new-words.ensures.words) (read_at reads file).tokens (r.read.tokens file c.requires))))
