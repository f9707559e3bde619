use Rattle.std.proofs.Common.{List, [], length, get_or, sym, subst, arith}
use Rattle.proto_base.proofs.Common.{get_or_default}
use Rattle.proto_tree.specs.File.{tree_of_file}
use Rattle.proto_files.specs.FilesRead.{read_at}
use Rattle.proto_names.specs.Common.{AreFileMeant, Meant}
use Rattle.proto_names_update.proofs.FileLists.{listing_at}
use Rattle.proto_names.proofs.RenewedLists.{linked_by, rows_at, rows_listed, sees_within}
use Rattle.proto_names.proofs.updating.resolve_file.Goals as goal

pub bounds-resolver-place : goal.bounds-resolver-place
bounds-resolver-place c =
    let reads = c.are_read.ensures.0 in
    let are = c.are_read.ensures.1 in
    sees_within c.args.resolver.declarations.now.table c.args.resolver.seen.now c.args.resolver.declarations.now.rows.items c.args.resolver.files.now reads c.args.file (c.requires.linked reads are)

pub file_meanings-requires-clause-listing : goal.file_meanings-requires-clause-listing
file_meanings-requires-clause-listing c =
    let reads = c.are_read.ensures.0 in
    let are = c.are_read.ensures.1 in
    (read_at reads c.args.file, are.trees c.args.file c.requires.file, listing_at c.args.resolver.files.now reads c.args.file (tree_of_file c.tree.result.now) c.in_ok-listing.listing are c.requires.file c.tree.ensures c.in_ok-listing.ensures.sound c.in_ok-listing.ensures.declared c.in_ok-listing.ensures.used)

pub file_meanings-requires-clause-rows : goal.file_meanings-requires-clause-rows
file_meanings-requires-clause-rows c =
    let reads = c.are_read.ensures.0 in
    let are = c.are_read.ensures.1 in
    let own = rows_at c.args.resolver.declarations.now.rows.items c.args.file (omega (arith, c.requires.file, c.requires.paired)) c.index.result.now c.index.ensures c.deref.result.now c.deref.ensures.value in
    rows_listed c.args.resolver.declarations.now.table c.args.resolver.seen.now c.args.resolver.declarations.now.rows.items c.args.resolver.files.now reads c.args.file (c.requires.linked reads are) c.deref.result.now own c.in_ok-listing.listing
    (listing_at c.args.resolver.files.now reads c.args.file (tree_of_file c.tree.result.now) c.in_ok-listing.listing are c.requires.file c.tree.ensures c.in_ok-listing.ensures.sound c.in_ok-listing.ensures.declared c.in_ok-listing.ensures.used)

pub returns-in-Ok-clause-below : goal.returns-in-Ok-clause-below
returns-in-Ok-clause-below c =
    let reads = c.are_read.ensures.0 in
    let are = c.are_read.ensures.1 in
    let own : AreFileMeant c.args.resolver.declarations.now.table c.args.resolver.files.now reads c.args.file c.in-Ok.own.items = c.in-Ok.ensures.meant reads are (linked_by c.args.resolver.declarations.now.table c.args.resolver.seen.now c.args.resolver.declarations.now.rows.items c.args.resolver.files.now reads c.args.file (c.requires.linked reads are) (get_or c.args.resolver.seen.now c.args.file c.index-resolver-place.result) (get_or_default c.args.resolver.seen.now c.args.file c.index-resolver-place.result [] (sees_within c.args.resolver.declarations.now.table c.args.resolver.seen.now c.args.resolver.declarations.now.rows.items c.args.resolver.files.now reads c.args.file (c.requires.linked reads are))) c.deref.result.now
    (rows_at c.args.resolver.declarations.now.rows.items c.args.file (omega (arith, c.requires.file, c.requires.paired)) c.index.result.now c.index.ensures c.deref.result.now c.deref.ensures.value)) in
    c.put_meanings.ensures.below (length c.args.resolver.declarations.now.table.rows.items) own.within

pub returns-in-Ok-clause-meant : goal.returns-in-Ok-clause-meant
returns-in-Ok-clause-meant c = λ _ reads are.
    (subst (λ (ms : List Meant). AreFileMeant c.args.resolver.declarations.now.table c.args.resolver.files.now reads c.args.file ms) (sym c.in_ok-put_meanings-in-Ok.ensures.own)
    (c.in-Ok.ensures.meant reads are (linked_by c.args.resolver.declarations.now.table c.args.resolver.seen.now c.args.resolver.declarations.now.rows.items c.args.resolver.files.now reads c.args.file (c.requires.linked reads are) (get_or c.args.resolver.seen.now c.args.file c.index-resolver-place.result) (get_or_default c.args.resolver.seen.now c.args.file c.index-resolver-place.result [] (sees_within c.args.resolver.declarations.now.table c.args.resolver.seen.now c.args.resolver.declarations.now.rows.items c.args.resolver.files.now reads c.args.file (c.requires.linked reads are))) c.deref.result.now
    (rows_at c.args.resolver.declarations.now.rows.items c.args.file (omega (arith, c.requires.file, c.requires.paired)) c.index.result.now c.index.ensures c.deref.result.now c.deref.ensures.value))))
