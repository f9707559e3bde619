-- What rules find in files as written is what they find in them in the core language.
use Rattle.std.proofs.Common.{◌≡◌, ℕ, suc, Bool, List, [], ◌∷◌, ◌++◌, map, option_map, refl}
use Rattle.proto_text.specs.Tokens.{lexeme_at}
use Rattle.proto_files.proofs.Common.{FileOf, ReadOf, read_at}
use Rattle.proto_files.specs.Laws.{as_written}
use Rattle.proto_names_rules.proofs.Common.{Used, joined, meaning}
use Rattle.proto_names_imports.proofs.Common.{used_named, uses_of}
use Rattle.proto_names_imports.proofs.FilesAsWritten.{bytes_same, names_same, path_same, paths_same, texts_same}
use Rattle.proto_names.proofs.Common.{meant_by_use}
use Rattle.proto_lint_names.specs.BlockFinds.{blocks_finds, file_messages, messages_from}
use Rattle.proto_lint_names.specs.Blocks.{file_blocks}
use Rattle.proto_lint_names.specs.Listings.{found_in}
use Rattle.proto_lint_names.specs.Readings.{read_of_file}
use Rattle.proto_lint.specs.AsWritten.{FindingsAskNoLanguage}
use Rattle.proto_lint.specs.Common.{head_finds, head_of, head_of_file, heads_from, imports_finds}
use Rattle.proto_lint.specs.Findings.{file_finds, findings_from}

module _ (files : List FileOf) (reads : List ReadOf) where
  abbrev after : List FileOf
  after = map as_written files

  meant_same : (k : ℕ) (u : Used ℕ) → meant_by_use after reads k u ≡ meant_by_use files reads k u
  meant_same k u = λ i. record {
    token = u.first;
    text = option_map joined (meaning (names_same files reads i) (used_named (texts_same files reads i) k u));
  }

  read_same : (k : ℕ) → read_of_file after reads k ≡ read_of_file files reads k
  read_same k = λ i. record {
    tokens = (read_at reads k).tokens;
    lexemes = map (lexeme_at (bytes_same files k i)) (read_at reads k).tokens;
    means = map (λ (u : Used ℕ). meant_same k u i) (uses_of reads k);
  }

  head_same : (k : ℕ) → head_of_file after reads k ≡ head_of_file files reads k
  head_same k = λ i. head_of (path_same files k i) (read_same k i) (read_at reads k).tree

  heads_same : (k : ℕ) (rs : List ReadOf) → heads_from after reads k rs ≡ heads_from files reads k rs
  heads_same k [] = refl
  heads_same k (r ∷ rs) = λ i. head_same k i ∷ heads_same (suc k) rs i

  messages_same : (k : ℕ) (rs : List ReadOf) → messages_from after reads k rs ≡ messages_from files reads k rs
  messages_same k [] = refl
  messages_same k (r ∷ rs) = λ i. file_messages (read_same k i) r.tree ++ messages_same (suc k) rs i

  module _ (rules : List Bool) where
    file_same : (k : ℕ) → file_finds rules after reads k ≡ file_finds rules files reads k
    file_same k =
        λ i. head_finds rules (heads_same 0 reads i) (head_same k i)
        ++ (imports_finds rules (names_same files reads i) (paths_same files i) (read_same k i) k (read_at reads k).tree
        ++ blocks_finds rules (read_same k i) (messages_same 0 reads i) (file_blocks (read_same k i) (read_at reads k).tree))

    findings_same : (k : ℕ) (rs : List ReadOf) → findings_from rules after reads k rs ≡ findings_from rules files reads k rs
    findings_same k [] = refl
    findings_same k (r ∷ rs) = λ i. map (found_in (path_same files k i)) (file_same k i) ++ findings_same (suc k) rs i

pub findings_ask_no_language : FindingsAskNoLanguage
findings_ask_no_language rules files reads = findings_same files reads rules 0 reads
