-- What is found in a file, of what its parts find.
use Rattle.std.proofs.Common.{◌≡◌, ℕ, ◌<◌, Bool, List, [], ◌++◌, length, get_or, sym, ap, ◌∙◌, append_assoc, arith}
use Rattle.proto_tree.specs.Tree.{Tree}
use Rattle.proto_files.proofs.Common.{FileOf, file_at, paths_of, ReadOf, AreRead, read_at, IsTreeOf, same_tree}
use Rattle.proto_names_rules.specs.Joined.{joined}
use Rattle.proto_names_imports.specs.Links.{names_of_files}
use Rattle.proto_lint_names.proofs.Common.{package_words, read_of_file, LintFile, Found}
use Rattle.proto_lint_names.specs.Blocks.{file_blocks}
use Rattle.proto_lint_names.specs.BlockFinds.{all_messages, blocks_finds}
use Rattle.proto_lint.specs.Common.{head_of_file, heads, imports_finds, Head, head_finds, package_name}
use Rattle.proto_lint.proofs.FileHeads.{heads_at, heads_count}
use Rattle.proto_lint.specs.Findings.{file_finds}

-- each file has a head
pub is_headed : (files : List FileOf) (reads : List ReadOf) → AreRead files reads → (hs : List Head) → hs ≡ heads files reads → (file : ℕ) → file < length files → file < length hs
is_headed files reads are hs same file within = let n = ap length same ∙ heads_count files reads ∙ are.same in omega (arith, n, within)

three : (a b c x y z : List Found) → a ≡ [] ++ x → b ≡ a ++ y → c ≡ b ++ z → c ≡ x ++ (y ++ z)
three a b c x y z p q r = r ∙ ap (λ (fs : List Found). fs ++ z) (q ∙ ap (λ (fs : List Found). fs ++ y) p) ∙ append_assoc x y z

-- the same of an equal number
pub moved : (a b : List Found) (f : ℕ → List Found) (n m : ℕ) → n ≡ m → b ≡ a ++ f n → b ≡ a ++ f m
moved a b f n m e p = p ∙ ap (λ (k : ℕ). a ++ f k) e

module _ (files : List FileOf) (reads : List ReadOf) (are : AreRead files reads) (file : ℕ) (within : file < length files) (r : LintFile) (read : r ≡ read_of_file files reads file) (tree : Tree) (of_file : IsTreeOf (file_at files file) tree) (hs : List Head) (heads_are : hs ≡ heads files reads) where
  head_there : (d : Head) → get_or hs file d ≡ head_of_file files reads file
  head_there d = ap (λ (xs : List Head). get_or xs file d) heads_are ∙ heads_at files reads file d (let n = are.same in omega (arith, n, within))

  same : (read_at reads file).tree ≡ tree
  same = same_tree files reads file tree are within of_file

  pub scope_is : (head : Head) → ((d : Head) → head ≡ get_or hs file d) → (scope : List ℕ) → scope ≡ package_name head → scope ≡ joined (package_words r tree)
  scope_is head there scope is =
      is ∙ ap package_name (there head ∙ head_there head) ∙ ap (λ (t : Tree). joined (package_words (read_of_file files reads file) t)) same ∙ ap (λ (x : LintFile). joined (package_words x tree)) (sym read)

  pub finds_are : (rules : List Bool) (messages : List (List ℕ)) → messages ≡ all_messages files reads → (start a b c : List Found) → start ≡ []
      → ((d : Head) → a ≡ start ++ head_finds rules hs (get_or hs file d))
      → b ≡ a ++ imports_finds rules (names_of_files files reads) (paths_of files) r file (read_at reads file).tree
      → c ≡ b ++ blocks_finds rules r messages (file_blocks r tree)
      → c ≡ file_finds rules files reads file
  finds_are rules messages messages_are start a b c none p q s =
      let here : LintFile = read_of_file files reads file in
      let head : Head = head_of_file files reads file in
      let own = (read_at reads file).tree in
      let d = head in
      let x : head_finds rules hs (get_or hs file d) ≡ head_finds rules (heads files reads) head = ap (λ (xs : List Head). head_finds rules xs (get_or hs file d)) heads_are ∙ ap (head_finds rules (heads files reads)) (head_there d) in
      let y = ap (λ (v : LintFile). imports_finds rules (names_of_files files reads) (paths_of files) v file own) read in
      let z : blocks_finds rules r messages (file_blocks r tree) ≡ blocks_finds rules here (all_messages files reads) (file_blocks here own) =
      ap (λ (v : LintFile). blocks_finds rules v messages (file_blocks v tree)) read ∙ ap (λ (ms : List (List ℕ)). blocks_finds rules here ms (file_blocks here tree)) messages_are ∙ ap (λ (t : Tree). blocks_finds rules here (all_messages files reads) (file_blocks here t)) (sym same) in
      three a b c (head_finds rules (heads files reads) head) (imports_finds rules (names_of_files files reads) (paths_of files) here file own) (blocks_finds rules here (all_messages files reads) (file_blocks here own))
      (p d ∙ ap (λ (fs : List Found). fs ++ head_finds rules hs (get_or hs file d)) none ∙ x) (q ∙ ap (λ (fs : List Found). a ++ fs) y) (s ∙ ap (λ (fs : List Found). b ++ fs) z)
