use Rattle.std.proofs.Common.{◌≡◌, ◌<◌, List, length, sym, ◌∙◌, ap, subst, arith, slice_set, ◌≤◌, ℕ, IsUtf8}
use Rattle.proto_base.proofs.Common.{map-set, text_limit}
use Rattle.proto_base.specs.declared.profile.Profile.{Profile}
use Rattle.proto_text.specs.declared.lexer.Token.{Token}
use Rattle.proto_tree.proofs.Common.{tree_of_file, ReadsIn, Tree}
use Rattle.proto_files.specs.Common.{ReadFile, FileOf, file_at, IsText, IsReadFile, read_file, read_files}
use Rattle.proto_files.proofs.LeastOfFiles.{file_at-read, length-read_files}
use Rattle.proto_files.proofs.SetFiles.{read_stays, read_whole}
use Rattle.proto_files.proofs.files.Files.set.Goals as goal

pub invariant_of-self : goal.invariant_of-self
invariant_of-self c =
    let files = c.self.inside.files.items in
    let old = c.index_mut-read.result.now in
    let new : ReadFile = record { path = old.path; source = c.replace-source.new.dest; tokens = c.replace-tokens.new.dest; tree = c.replace-tree.new.dest; profile = old.profile } in
    let within : c.args.file < length files = omega (arith, length-read_files files, ap length c.self.view_is, c.requires.file) in
    let here : read_file old ≡ file_at (read_files files) c.args.file = ap read_file c.index_mut-read.ensures.value ∙ sym (file_at-read files c.args.file old within) in
    let profile : old.profile ≡ (file_at c.args.self.now c.args.file).profile = ap (λ (f : FileOf). f.profile) here ∙ ap (λ (fs : List FileOf). (file_at fs c.args.file).profile) c.self.view_is in
    let given : IsText c.args.source = record {
      short = subst (λ (text : List ℕ). length text ≤ text_limit) c.as_bytes-text.ensures.value c.as_bytes-text.ensures.short;
      utf8 = subst IsUtf8 c.as_bytes-text.ensures.value c.as_bytes-text.ensures.utf8;
    } in
    let reads : ReadsIn new.profile new.source new.tokens.items (tree_of_file new.tree) =
    subst (λ (p : Profile). ReadsIn p new.source new.tokens.items (tree_of_file new.tree)) (sym profile)
    (subst (λ (text : List ℕ). ReadsIn (file_at c.args.self.now c.args.file).profile text new.tokens.items (tree_of_file new.tree)) (sym c.replace-source.ensures.after)
    (subst (λ (tokens : List Token). ReadsIn (file_at c.args.self.now c.args.file).profile c.args.source tokens (tree_of_file new.tree)) (ap (λ v. v.items) (sym c.replace-tokens.ensures.after))
    (subst (λ (tree : Tree). ReadsIn (file_at c.args.self.now c.args.file).profile c.args.source c.args.tokens.items tree) (ap tree_of_file (sym c.replace-tree.ensures.after)) c.requires.read))) in
    read_stays files c.args.file new c.self.invariant within (ap (λ (f : FileOf). f.path) here) (read_whole new (subst IsText (sym c.replace-source.ensures.after) given) reads)

pub returns-clause-files : goal.returns-clause-files
returns-clause-files c =
    let files = c.self.inside.files.items in
    let old = c.index_mut-read.result.now in
    let new : ReadFile = record { path = old.path; source = c.replace-source.new.dest; tokens = c.replace-tokens.new.dest; tree = c.replace-tree.new.dest; profile = old.profile } in
    let within : c.args.file < length files = omega (arith, length-read_files files, ap length c.self.view_is, c.requires.file) in
    let here : read_file old ≡ file_at c.args.self.now c.args.file =
    ap read_file c.index_mut-read.ensures.value ∙ sym (file_at-read files c.args.file old within)
    ∙ ap (λ (fs : List FileOf). file_at fs c.args.file) c.self.view_is in
    let put : FileOf = record (file_at c.args.self.now c.args.file) { bytes = c.args.source } in
    let same : read_file new ≡ put = λ i. record { path = (here i).path; bytes = c.replace-source.ensures.after i; profile = (here i).profile } in
    map-set read_file files c.args.file new ∙ ap (λ (fs : List FileOf). slice_set fs c.args.file (read_file new)) c.self.view_is ∙ ap (slice_set c.args.self.now c.args.file) same

pub returns-clause-read : goal.returns-clause-read
returns-clause-read c =
    let files = c.self.inside.files.items in
    let old = c.index_mut-read.result.now in
    let within : c.args.file < length files = omega (arith, length-read_files files, ap length c.self.view_is, c.requires.file) in
    let here : read_file old ≡ file_at c.args.self.now c.args.file =
    ap read_file c.index_mut-read.ensures.value ∙ sym (file_at-read files c.args.file old within)
    ∙ ap (λ (fs : List FileOf). file_at fs c.args.file) c.self.view_is in
    let was : IsReadFile old = subst IsReadFile (sym c.index_mut-read.ensures.value) (c.self.invariant.read c.args.file old within) in
    let profile = (file_at c.args.self.now c.args.file).profile in
    subst (λ (tree : Tree). ReadsIn profile c.replace-source.result c.replace-tokens.result.items tree) (ap tree_of_file (sym c.replace-tree.ensures.value))
    (subst (λ (tokens : List Token). ReadsIn profile c.replace-source.result tokens (tree_of_file old.tree)) (ap (λ v. v.items) (sym c.replace-tokens.ensures.value))
    (subst (λ (text : List ℕ). ReadsIn profile text old.tokens.items (tree_of_file old.tree)) (sym c.replace-source.ensures.value)
    (subst (λ (p : Profile). ReadsIn p old.source old.tokens.items (tree_of_file old.tree)) (ap (λ (f : FileOf). f.profile) here) was.reads)))
