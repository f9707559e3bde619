use Rattle.std.proofs.Common.{◌↔◌, List, sym, subst, ◌∙◌, Contains}
use Rattle.proto_tree.specs.File.{tree_of_file}
use Rattle.proto_names_outline.specs.FromTree.{items_in}
use Rattle.proto_names_rules.specs.Tree.{Placed, file_placed}
use Rattle.proto_names_outline.proofs.PackageFirst.{same_declared}
use Rattle.proto_names_outline.proofs.Listed.{file_listed, IsListed}
use Rattle.proto_names_outline.proofs.file_listing.list_file.Goals as goal

pub returns : goal.returns
returns c =
    let listed : IsListed c.list_items.new.listing (tree_of_file c.args.file.now) =
    file_listed c.deref.result.now (tree_of_file c.args.file.now) c.new-listing.ensures.declared c.new-listing.ensures.used (c.deref.ensures.value ∙ c.in_ok-words.ensures) c.in_ok-above.ensures.adds c.in_ok-above.ensures.above.1 (rw c.deref-2.ensures.value at c.in_ok-list_items.ensures) in
    let tree = tree_of_file c.args.file.now in
    record {
      sound = listed.sound;
      declared = listed.declared;
      same = λ low high span p. subst (λ (ps : List Placed). Contains ps p ↔ Contains (file_placed (items_in tree)) p) (sym listed.declared) (same_declared (items_in tree) low high span p);
      used = listed.used;
    }
