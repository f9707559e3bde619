use Rattle.std.proofs.Common.{◌≡◌, ◌<◌, List, [], length, get_or, map, sym, ◌∙◌, subst, arith, All}
use Rattle.std.proofs.lemmas.List.{get_or-map, length-map}
use Rattle.proto_files.proofs.Common.{paths_of, ReadOf, read_at}
use Rattle.proto_names_rules.specs.Grown.{at}
use Rattle.proto_names_outline.specs.FromTree.{imports_in}
use Rattle.proto_names_imports.proofs.Common.{IsFileIndex, text_of}
use Rattle.proto_names_table.proofs.Search.{pick}
use Rattle.proto_lint.proofs.PublicImports.{are_public, targets_within}
use Rattle.proto_lint.proofs.imports.Imports.new.Goals as goal

pub returns : goal.returns
returns c =
    let files = c.args.files.now in
    let public = c.in_ok-public.public.items in
    let paths = paths_of files in
    let some = length-map files (λ f. f.path) in
    let count : length public ≡ length files = c.in_ok-public.ensures.len in
    let index : IsFileIndex c.in_ok-index.index paths = c.in_ok-index.ensures in
    let reads : List ReadOf = c.are_read.ensures.0 in
    record {
      index = index;
      count = count;
      within = λ k d l.
          (let own = c.in_ok-public.ensures.each paths index reads c.are_read.ensures.1 k d l in
          let small : All (λ g. g < length files) (get_or public k d).items = subst (All (λ g. g < length files)) (sym own) (λ j e m. (let w = targets_within paths (λ i. text_of files reads (at k i)) (imports_in (read_at reads k).tree) j e m in omega (arith, w, some))) in
          small);
      public = λ (rs : List ReadOf) are.
          are_public files rs are (map (λ v. v.items) public) (length-map public (λ v. v.items) ∙ count)
          (λ k l. (let m : k < length public = omega (arith, l, count) in let d = pick public k m in get_or-map (λ v. v.items) public k d [] m ∙ c.in_ok-public.ensures.each paths index rs are k d m));
    }
