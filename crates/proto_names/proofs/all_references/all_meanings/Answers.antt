use Rattle.std.proofs.Common.{◌<◌, ℕ, List, [], ◌∷◌, ◌++◌, length, get_or, map, sym, ◌∙◌, ap, subst, arith, is_ok, length-append}
use Rattle.proto_base.proofs.Common.{cond-true, get_or-map, length-map, map-append, err_from_is_err_and}
use Rattle.proto_names.specs.Common.{AreFileMeant, Meant}
use Rattle.proto_files.specs.FilesRead.{read_at}
use Rattle.proto_names_imports.proofs.Common.{IsListing, pushed}
use Rattle.proto_names_outline.specs.declared.listing.Listing.{Listing}
use Rattle.proto_names.proofs.FileMeanings.{linked_at}
use Rattle.proto_names.proofs.LeastFlaws.{all_clean, least_error}
use Rattle.proto_names.proofs.all_references.all_meanings.Goals as goal

pub file_meanings-requires-clause-listing : goal.file_meanings-requires-clause-listing
file_meanings-requires-clause-listing c =
    let reads = c.are_read.ensures.0 in
    let are = c.are_read.ensures.1 in
    let file = c.loop-file.file in
    let l : file < length c.args.files.now = omega (arith, c.loop-file-test.true, c.len-file-end.ensures.len) in
    let m : file < length c.args.listings.now = omega (arith, l, c.requires.listings.0) in
    let one = c.requires.listings.1 reads are file c.index-listings-file.result m in
    (read_at reads file, are.trees file l, subst (λ (z : Listing). IsListing (read_at reads file) z) (sym c.index-listings-file.is) one)

pub returns-in_err-own-clause-fault : goal.returns-in_err-own-clause-fault
returns-in_err-own-clause-fault c =
    let file = c.loop-file.file in
    let l : file < length c.args.files.now = omega (arith, c.loop-file-test.true, c.len-file-end.ensures.len) in
    let exit = err_from_is_err_and c.from_residual.result c.from_residual.ensures.1 in
    rw (exit.1, exit.2) (λ reads are linked.
    least_error c.args.files.now reads are c.args.declarations.now.table c.requires.table (linked file l).index file l c.in_err-own.field-0.0
    (c.in_err-own.ensures.fault reads are
    (linked_at c.args.declarations.now.table c.args.seen.now c.args.declarations.now.rows.items c.args.files.now reads linked file l c.requires.seen c.requires.paired c.index-seen-file.result c.index-seen-file.is c.index.result.now c.index.ensures c.deref.result.now c.deref.ensures.value))
    (λ k m. (c.loop-file.invariant.meant reads are linked k m).faultless))

pub loop-file-preserved : goal.loop-file-preserved
loop-file-preserved c =
    let file = c.loop-file.file in
    let l : file < length c.args.files.now = omega (arith, c.loop-file-test.true, c.len-file-end.ensures.len) in
    let items = c.push.ensures.items ∙ cond-true (is_ok c.push.result) (c.loop-file.meant.items ++ c.in_ok-own.own ∷ []) c.loop-file.meant.items (sym c.map_err.ensures.variant ∙ ap is_ok c.in_ok-map_err.was) in
    let lists = ap (map (λ v. v.items)) items ∙ map-append (λ v. v.items) c.loop-file.meant.items (c.in_ok-own.own ∷ []) in
    record {
      len = omega (arith, ap length items, length-append c.loop-file.meant.items (c.in_ok-own.own ∷ []), c.loop-file.invariant.len);
      meant = λ reads are linked k m.
          (subst (λ z. AreFileMeant c.args.declarations.now.table c.args.files.now reads k (get_or z k [])) (sym lists)
          (pushed (AreFileMeant c.args.declarations.now.table c.args.files.now reads) (map (λ v. v.items) c.loop-file.meant.items) c.in_ok-own.own.items file (length-map c.loop-file.meant.items (λ v. v.items) ∙ c.loop-file.invariant.len)
          (c.loop-file.invariant.meant reads are linked)
          (c.in_ok-own.ensures.meant reads are
          (linked_at c.args.declarations.now.table c.args.seen.now c.args.declarations.now.rows.items c.args.files.now reads linked file l c.requires.seen c.requires.paired c.index-seen-file.result c.index-seen-file.is c.index.result.now c.index.ensures c.deref.result.now c.deref.ensures.value))
          k m));
    }

pub returns-clause-within : goal.returns-clause-within
returns-clause-within c = λ linked k d l.
    (let reads = c.are_read.ensures.0 in
    let are = c.are_read.ensures.1 in
    let n : k < length c.args.files.now = omega (arith, l, c.loop-file.invariant.len, c.loop-file-test.false, c.len-file-end.ensures.len, c.loop-file.auto.file-end) in
    let a = c.loop-file.invariant.meant reads are (linked reads are) k (omega (arith, l, c.loop-file.invariant.len)) in
    subst (λ (z : List Meant). (i : ℕ) (m : Meant) → i < length z → (get_or z i m).row < length c.args.declarations.now.table.rows.items) (get_or-map (λ v. v.items) c.loop-file.meant.items k d [] l) a.within)

pub returns-clause-clean : goal.returns-clause-clean
returns-clause-clean c = λ reads are linked.
    (all_clean c.args.files.now reads are (λ k l. (c.loop-file.invariant.meant reads are linked k (omega (arith, l, c.loop-file-test.false, c.len-file-end.ensures.len, c.loop-file.auto.file-end))).faultless))
