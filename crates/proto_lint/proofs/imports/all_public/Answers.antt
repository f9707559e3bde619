use Rattle.std.proofs.Common.{◌≡◌, ℕ, List, length, arith}
use Rattle.proto_names_rules.specs.Grown.{at}
use Rattle.proto_names_outline.specs.FromTree.{imports_in}
use Rattle.proto_files.proofs.Common.{ReadOf, read_at, each_pushed}
use Rattle.proto_names_imports.specs.Links.{text_of}
use Rattle.proto_lint.specs.ImportTables.{public_targets}
use Rattle.proto_lint.proofs.imports.all_public.Goals as goal

pub loop-file-preserved : goal.loop-file-preserved
loop-file-preserved c =
    let files = c.args.files.now in
    let done = c.loop-file.public.items in
    let new = c.in_ok-public_of.field-0 in
    let n : length done ≡ c.loop-file.file = c.loop-file.invariant.len in
    record {
      len = omega (arith, n, c.in_ok-push.ensures.len, c.loop-file.public.ok.0, c.push.new.self.ok.0);
      each = λ (paths : List (List ℕ)) index (reads : List ReadOf) are.
          each_pushed (λ k v. v.items ≡ public_targets paths (λ i. text_of files reads (at k i)) (imports_in (read_at reads k).tree)) done c.push.new.self.items new c.loop-file.file c.in_ok-push.ensures.items n
          (c.loop-file.invariant.each paths index reads are) (c.in_ok-public_of.ensures paths index reads are);
    }
