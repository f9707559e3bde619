use Rattle.std.proofs.Common.{◌≡◌, ◌<◌, length, sym, ◌∙◌, ap, subst, arith, All}
use Rattle.proto_files.specs.FilesRead.{read_at}
use Rattle.proto_names_imports.proofs.Common.{IsListing}
use Rattle.proto_names_outline.specs.declared.listing.Listing.{Listing}
use Rattle.proto_names_faults.proofs.Added.{none_found}
use Rattle.proto_names_faults.proofs.FileFaults.{all_files, file_turn, linked_at, no_file}
use Rattle.proto_names_faults.proofs.references.flaws_of_uses.Goals as goal

pub add_file_flaws-requires-clause-listing : goal.add_file_flaws-requires-clause-listing
add_file_flaws-requires-clause-listing c =
    let reads = c.are_read.ensures.0 in
    let are = c.are_read.ensures.1 in
    let file = c.loop-file.file in
    let l : file < length c.args.files.now = omega (arith, c.loop-file-test.true, c.len-file-end.ensures.len) in
    let m : file < length c.args.listings.now = omega (arith, l, c.requires.listings.0) in
    let one = c.requires.listings.1 reads are file c.index-listings-file.result m in
    (read_at reads file, are.trees file l, subst (λ (z : Listing). IsListing (read_at reads file) z) (sym c.index-listings-file.is) one)

pub add_file_flaws-requires-clause-table : goal.add_file_flaws-requires-clause-table
add_file_flaws-requires-clause-table c = c.requires.rows.table

pub add_file_flaws-requires-clause-rows : goal.add_file_flaws-requires-clause-rows
add_file_flaws-requires-clause-rows c =
    let file = c.loop-file.file in
    let l : file < length c.args.names.now.rows.items = omega (arith, c.loop-file-test.true, c.len-file-end.ensures.len, c.requires.rows.paired) in
    let own = c.deref.ensures.value ∙ ap (λ v. v.items) c.index.ensures in
    ap length own ∙ c.requires.rows.counts file c.index.result.now l c.index-listings-file.result ∙ ap (λ (z : Listing). length z.declared.items) (sym c.index-listings-file.is)

pub add_file_flaws-requires-clause-within : goal.add_file_flaws-requires-clause-within
add_file_flaws-requires-clause-within c =
    let file = c.loop-file.file in
    let l : file < length c.args.names.now.rows.items = omega (arith, c.loop-file-test.true, c.len-file-end.ensures.len, c.requires.rows.paired) in
    subst (All (λ r. r < length c.args.names.now.table.rows.items)) (sym (c.deref.ensures.value ∙ ap (λ v. v.items) c.index.ensures)) (c.requires.rows.within file c.index.result.now l)

pub loop-file-init : goal.loop-file-init
loop-file-init c = λ reads are linked. none_found _ _ c.new-found.ensures.items (no_file c.args.files.now reads are)

pub loop-file-preserved : goal.loop-file-preserved
loop-file-preserved c = λ reads are linked.
    (let files = c.args.files.now in
    let file = c.loop-file.file in
    let l : file < length files = omega (arith, c.loop-file-test.true, c.len-file-end.ensures.len) in
    file_turn files reads are file c.loop-file.found.items c.add_file_flaws.new.found.items (c.loop-file.invariant reads are linked)
    (c.in_ok-add_file_flaws.ensures reads are
    (linked_at c.args.names.now.table c.args.seen.now c.args.names.now.rows.items files reads linked file l c.requires.seen c.requires.rows.paired c.index-seen-file.result c.index-seen-file.is c.index.result.now c.index.ensures c.deref.result.now c.deref.ensures.value)))

pub returns : goal.returns
returns c = λ reads are linked.
    (let n : c.loop-file.file ≡ length c.args.files.now = omega (arith, c.loop-file-test.false, c.len-file-end.ensures.len, c.loop-file.auto.file-end) in
    all_files c.args.files.now reads are c.loop-file.file c.loop-file.found.items n (c.loop-file.invariant reads are linked))
