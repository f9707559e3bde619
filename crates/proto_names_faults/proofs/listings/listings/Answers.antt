use Rattle.std.proofs.Common.{◌≡◌, List, length, arith}
use Rattle.proto_tree.specs.File.{tree_of_file}
use Rattle.proto_files.proofs.Common.{ReadOf, read_at, each_pushed}
use Rattle.proto_names_imports.specs.Links.{IsListing}
use Rattle.proto_names_update.proofs.FileLists.{listing_at}
use Rattle.proto_names_faults.proofs.listings.listings.Goals as goal

pub loop-file-preserved : goal.loop-file-preserved
loop-file-preserved c =
    let file = c.loop-file.file in
    let done = c.loop-file.listings.items in
    let new = c.in_ok-list_file.field-0 in
    let n : length done ≡ file = c.loop-file.invariant.len in
    record {
      len = omega (arith, n, c.in_ok-push.ensures.len, c.loop-file.listings.ok.0, c.push.new.self.ok.0);
      each = λ (reads : List ReadOf) are.
          each_pushed (λ k l. IsListing (read_at reads k) l) done c.push.new.self.items new file c.in_ok-push.ensures.items n (c.loop-file.invariant.each reads are)
          (listing_at c.args.files.now reads file (tree_of_file c.tree.result.now) new are (omega (arith, c.loop-file-test.true, c.len-file-end.ensures.len)) c.tree.ensures c.in_ok-list_file.ensures.sound c.in_ok-list_file.ensures.declared c.in_ok-list_file.ensures.used);
    }
