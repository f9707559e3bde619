use Rattle.std.proofs.Common.{◌∙◌, ◌||◌, [], ap, map, subst, sym, ◌↔◌, ◌≡◌, ◌+◌, ◌<◌, length, true}
use Rattle.std.specs.HashSet.{contains_text}
use Rattle.proto_text.specs.Texts.{word_at}
use Rattle.proto_tree.specs.File.{tree_of_file}
use Rattle.proto_files.proofs.Common.{read_at, same_tree}
use Rattle.proto_names_outline.specs.FromTree.{items_in}
use Rattle.proto_names_rules.specs.Tree.{package_of}
use Rattle.proto_edit_captures.specs.Overtaking.{fronts_from}
use Rattle.proto_edit_captures.proofs.PackageSets.{SeenUpTo, has_text, marked_more, unmarked_more}
use Rattle.proto_edit_captures.proofs.overtaking.packages.Goals as goal
use Rattle.proto_edit_captures.proofs.overtaking.packages.Goals.{then-contains+in_ok-tokens+in_ok-add_fronts, else-contains}

pub loop-file-preserved : goal.loop-file-preserved
loop-file-preserved c = λ reads are text. (
    let files = c.args.files.now in
    let marks = c.args.set.now in
    let n = c.loop-file.file in
    let within : n < length files = subst (λ m. n < m) c.len-file-end.ensures.len c.loop-file-test.true in
    let before = c.loop-file.invariant reads are text in
    elim c.if-contains.branch [
      | then-contains+in_ok-tokens+in_ok-add_fronts w ↦
          let old = contains_text c.loop-file.packages text in
          let words = w.new-words.ensures.words (read_at reads n).tokens (are.tokens n within) in
          let same = ap (λ t. package_of (items_in t)) (sym (same_tree files reads n (tree_of_file w.tree.result.now) are within w.tree.ensures)) in
          let tokens = w.deref.ensures.value ∙ w.in_ok-tokens.ensures ∙ same in
          marked_more files reads marks n text old (contains_text c.if-contains.packages text) (sym c.contains.ensures ∙ w.if-contains.true)
          (ap (λ z. contains_text z text) w.packages-is ∙ w.in_ok-add_fronts.ensures text
          ∙ ap (λ z. old || has_text (fronts_from [] (map (word_at w.new-words.result) z)) text) tokens
          ∙ ap (λ z. old || has_text (fronts_from [] (map (word_at z) (package_of (items_in (read_at reads n).tree)))) text) words)
          before
      | else-contains w ↦
          subst (λ z. (contains_text z text ≡ true) ↔ SeenUpTo files reads marks (n + 1) text) (sym w.packages-is)
          (unmarked_more files reads marks n text (contains_text c.loop-file.packages text) (sym c.contains.ensures ∙ w.if-contains.false) before)
    ])
