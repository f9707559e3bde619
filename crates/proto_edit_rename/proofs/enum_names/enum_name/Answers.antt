use Rattle.std.proofs.Common.{List, ℕ, ◌++◌, sym, ap, ◌∙◌, string_bytes}
use Rattle.proto_text.specs.Texts.{word_at}
use Rattle.proto_tree.specs.File.{tree_of_file}
use Rattle.proto_files.specs.FilesRead.{read_at}
use Rattle.proto_edit_rename.proofs.AimedAt.{aim_inside}
use Rattle.proto_edit_rename.proofs.EnumOfValue.{enum_found, front_of, no_enum}
use Rattle.proto_edit_rename.proofs.enum_names.enum_name.Goals as goal

pub front-front-requires : goal.front-front-requires
front-front-requires c =
    let files = c.args.linked.now.files in
    let reads = c.files-files.ensures.clean.reads in
    let are = c.files-files.ensures.clean.read in
    let aim = c.args.target in
    let t = c.requires reads are in
    let within = aim_inside files reads are aim t.0 t.1 in
    let words = (rw c.files-files.ensures.files at c.new-words.ensures.words) (read_at reads aim.file).tokens (are.tokens aim.file within) in
    front_of files reads are aim t.0 t.1 (tree_of_file c.tree.result.now) (rw c.files-files.ensures.files at c.tree.ensures) c.get.result.now (c.get.ensures ∙ ap (λ ls. word_at ls aim.token) words)

pub returns-in_ok-name-in-Some : goal.returns-in_ok-name-in-Some
returns-in_ok-name-in-Some c = λ reads are t h.
    (let files = c.args.linked.now.files in
    let aim = c.args.target in
    let within = aim_inside files reads are aim t h in
    let words = (rw c.files-files.ensures.files at c.new-words.ensures.words) (read_at reads aim.file).tokens (are.tokens aim.file within) in
    let found = sym c.in_ok-token.ensures ∙ c.in-Some.is in
    let first = c.get.ensures ∙ ap (λ ls. word_at ls aim.token) words in
    let other = c.get-in-Some.ensures ∙ ap (λ ls. word_at ls c.in-Some.token) words in
    let front : List ℕ = c.front-front.result.now in
    enum_found files reads are aim t h (tree_of_file c.tree.result.now) (rw c.files-files.ensures.files at c.tree.ensures) (c.is_value.ensures.is c.if-not-is_value.false) c.in-Some.token found front (c.front-front.ensures ∙ ap (λ w. front ++ w) first)
    (string_bytes c.in_ok-name-in-Some.name) (c.in_ok-name-in-Some.ensures ∙ ap (λ w. front ++ w) other))

pub returns-in-None : goal.returns-in-None
returns-in-None c = λ reads are t h.
    (let aim = c.args.target in
    let found = sym c.in_ok-token.ensures ∙ c.in-None.is in
    no_enum c.args.linked.now.files reads are aim t h (tree_of_file c.tree.result.now) (rw c.files-files.ensures.files at c.tree.ensures) found)
