-- The messages of methods file by file, one more file at a time.
use Rattle.std.proofs.Common.{◌≡◌, ℕ, suc, ◌+◌, ◌<◌, List, [], ◌++◌, length, drop, drop-cons, sym, ap, ◌∙◌, append_assoc, arith}
use Rattle.proto_tree.specs.declared.context.Context.TheVariants as context
use Rattle.proto_tree.specs.Tree.{Tree, End}
use Rattle.proto_files.proofs.Common.{FileOf, file_at, ReadOf, AreRead, read_at, IsTreeOf, same_tree}
use Rattle.proto_lint_names.specs.Readings.{read_of_file, LintFile}
use Rattle.proto_lint_names.specs.RulesCommon.{file_messages, messages_from, outer_messages}
use Rattle.proto_lint_names.proofs.OuterMessages.{outer_is_all}

module _ (files : List FileOf) (reads : List ReadOf) where
  messages_step : (file : ℕ) → file < length reads → messages_from files reads file (drop file reads) ≡ file_messages (read_of_file files reads file) (read_at reads file).tree ++ messages_from files reads (file + 1) (drop (file + 1) reads)
  messages_step file l =
      let one : suc file ≡ file + 1 = omega arith in
      ap (messages_from files reads file) (drop-cons reads file (record { tokens = []; tree = End }) l)
      ∙ ap (λ (n : ℕ). file_messages (read_of_file files reads file) (read_at reads file).tree ++ messages_from files reads n (drop n reads)) one

  pub messages_more : AreRead files reads → (file : ℕ) → file < length files → (r : LintFile) → r ≡ read_of_file files reads file → (tree : Tree) → IsTreeOf (file_at files file) tree
      → (old new all : List (List ℕ)) → new ≡ old ++ outer_messages r tree → old ++ messages_from files reads file (drop file reads) ≡ all → new ++ messages_from files reads (file + 1) (drop (file + 1) reads) ≡ all
  messages_more are file within r is tree of_file old new all added before =
      let rest = messages_from files reads (file + 1) (drop (file + 1) reads) in
      let same = same_tree files reads file tree are within of_file in
      let here : outer_messages r tree ≡ file_messages (read_of_file files reads file) (read_at reads file).tree =
      ap (λ (x : LintFile). outer_messages x tree) is ∙ ap (outer_messages (read_of_file files reads file)) (sym same) ∙ outer_is_all (read_of_file files reads file) context.Start (read_at reads file).tree (are.trees file within).spells.well_formed in
      ap (λ (ms : List (List ℕ)). ms ++ rest) (added ∙ ap (λ (ms : List (List ℕ)). old ++ ms) here)
      ∙ append_assoc old (file_messages (read_of_file files reads file) (read_at reads file).tree) rest
      ∙ ap (λ (ms : List (List ℕ)). old ++ ms) (sym (messages_step file (let n = are.same in omega (arith, n, within))))
      ∙ before
