-- Files of the core language are read as written (for the crates above).
use Rattle.std.proofs.Common.{◌≡◌, ℕ, ◌<◌, List, length, map, refl, sym, ◌∙◌, subst, inl, arith}
use Rattle.proto_base.proofs.Common.{get_or-map, get_or_default, length-map}
use Rattle.proto_base.specs.declared.fault.FaultKind.{FaultKind}
use Rattle.proto_base.specs.declared.fault.FaultKind.TheVariants as kind
use Rattle.proto_base.specs.declared.profile.Profile.{Profile}
use Rattle.proto_base.specs.declared.profile.Profile.TheVariants as profile
use Rattle.proto_text.specs.declared.fault.LexFault.TheVariants as lex
use Rattle.proto_text.specs.declared.lexer.Token.{Token}
use Rattle.proto_text.proofs.Common.{AreTokens, no_fault_with_tokens_in, tokens_are_written}
use Rattle.proto_tree.proofs.Common.{ReadsIn, Tree, core_trees_are_written}
use Rattle.proto_files.specs.Common.{FaultAt, FileOf, file_at, no_file, read_at, IsTextFault, IsGrammarFault, FaultsOf, HasNone, TextFaults, GrammarFaults}
use Rattle.proto_files.specs.Laws.{CoreFilesAreWritten, CoreFilesStayClean, as_written}
use Rattle.proto_files.proofs.FaultOrder.{none_of_both}
use Rattle.proto_files.proofs.FileErrors.{no_grammar_fault}
use Rattle.proto_files.proofs.SetFiles.{no_fault}

-- the file at a place, as written
written_at : (files : List FileOf) (k : ℕ) → k < length files → file_at (map as_written files) k ≡ as_written (file_at files k)
written_at files k lt = get_or-map as_written files k no_file no_file lt

tree_is_written : (f : FileOf) (tokens : List Token) (tree : Tree) → f.profile ≡ profile.Core → ReadsIn f.profile f.bytes tokens tree → ReadsIn profile.AsWritten f.bytes tokens tree
tree_is_written f tokens tree core r = core_trees_are_written f.bytes tokens tree (subst (λ (p : Profile). ReadsIn p f.bytes tokens tree) core r)

within : (files : List FileOf) (k : ℕ) → k < length (map as_written files) → k < length files
within files k lt = omega (arith, lt, length-map files as_written)

pub core_files_are_written : CoreFilesAreWritten
core_files_are_written files reads core are =
    record {
      same = are.same ∙ sym (length-map files as_written);
      tokens = λ k l.
          let lt = within files k l in
          subst (λ (f : FileOf). AreTokens f.bytes (read_at reads k).tokens) (sym (written_at files k lt)) (are.tokens k lt);
      trees = λ k l.
          let lt = within files k l in
          subst (λ (f : FileOf). ReadsIn f.profile f.bytes (read_at reads k).tokens (read_at reads k).tree) (sym (written_at files k lt))
          (tree_is_written (file_at files k) (read_at reads k).tokens (read_at reads k).tree (core k no_file lt) (are.trees k lt));
    }

-- ---- no fault

text_stays : (f : FileOf) (tokens : List Token) → AreTokens f.bytes tokens → HasNone IsTextFault f → HasNone IsTextFault (as_written f)
text_stays f tokens are none offset kind.TooLarge h = none offset kind.TooLarge h
text_stays f tokens are none offset kind.NotUtf8 h = none offset kind.NotUtf8 h
text_stays f tokens are none offset kind.BadChar h = no_fault_with_tokens_in profile.AsWritten f.bytes tokens offset lex.BadChar (tokens_are_written f.bytes tokens are) h.1
text_stays f tokens are none offset kind.OpenComment h = no_fault_with_tokens_in profile.AsWritten f.bytes tokens offset lex.OpenComment (tokens_are_written f.bytes tokens are) h.1
text_stays f tokens are none offset kind.OpenString h = no_fault_with_tokens_in profile.AsWritten f.bytes tokens offset lex.OpenString (tokens_are_written f.bytes tokens are) h.1
text_stays f tokens are none offset kind.BadEscape h = no_fault_with_tokens_in profile.AsWritten f.bytes tokens offset lex.BadEscape (tokens_are_written f.bytes tokens are) h.1
text_stays f tokens are none offset kind.BadNumber h = no_fault_with_tokens_in profile.AsWritten f.bytes tokens offset lex.BadNumber (tokens_are_written f.bytes tokens are) h.1
text_stays f tokens are none offset _ h = absurd h

grammar_stays : (f : FileOf) (tokens : List Token) (tree : Tree) → ReadsIn profile.AsWritten f.bytes tokens tree → HasNone IsGrammarFault (as_written f)
grammar_stays f tokens tree r = no_grammar_fault (as_written f) tokens (tokens_are_written f.bytes tokens r.tokens_are) (no_fault profile.AsWritten f.bytes tokens tree r)

-- where no file has a fault as written, the files have none
none_written : (says : FileOf → ℕ → FaultKind → Type 0) (files : List FileOf) → ((k : ℕ) → k < length files → HasNone says (as_written (file_at files k))) → (y : FaultAt) → FaultsOf says (map as_written files) y → ⊥
none_written says files none y h =
    let place : ℕ = h.1.0 in
    let lt = within files place h.1.1 in
    let is : h.0 ≡ as_written (file_at files place) = sym h.1.2 ∙ sym (get_or_default (map as_written files) place no_file h.0 h.1.1) ∙ written_at files place lt in
    none place lt y.offset y.kind (subst (λ (f : FileOf). says f y.offset y.kind) is h.3)

pub core_files_stay_clean : CoreFilesStayClean
core_files_stay_clean files reads core are clean =
    none_of_both (TextFaults (map as_written files)) (GrammarFaults (map as_written files))
    (none_written IsTextFault files (λ k lt. text_stays (file_at files k) (read_at reads k).tokens (are.tokens k lt) (text_none k lt)))
    (none_written IsGrammarFault files (λ k lt.
    grammar_stays (file_at files k) (read_at reads k).tokens (read_at reads k).tree
    (tree_is_written (file_at files k) (read_at reads k).tokens (read_at reads k).tree (core k no_file lt) (are.trees k lt))))
  where
    text_none : (k : ℕ) → k < length files → HasNone IsTextFault (file_at files k)
    text_none k lt offset kind h =
        let f : FileOf = file_at files k in
        clean (record { path = f.path; offset = offset; kind = kind }) (inl (f, (k, lt, sym (get_or_default files k no_file f lt)), refl, h))
