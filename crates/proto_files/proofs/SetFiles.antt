-- Files of a workspace, of which one gets another text.
use Rattle.std.proofs.Common.{◌≡◌, ℕ, ◌+◌, ◌<◌, All, List, [], length, get_or, sym, ap, ◌∙◌, subst, inl, inr, arith, string_bytes, slice_set, get_or-set_same, get_or-set_other}
use Rattle.std.proofs.lemmas.List.{length-set}
use Rattle.proto_base.proofs.Common.{cases_eq, get_or_default, map-set, All-set}
use Rattle.proto_base.specs.declared.profile.Profile.{Profile}
use Rattle.proto_text.specs.declared.lexer.Token.{Token}
use Rattle.proto_text.specs.SourceFacts.{IsSpan}
use Rattle.proto_text.proofs.Spans.{token_spans}
use Rattle.proto_tree.specs.declared.parsing.ParseFault.{ParseFault}
use Rattle.proto_tree.specs.declared.parsing.ParseFault.TheVariants as grammar
use Rattle.proto_tree.specs.Reads.{IsParseFaultIn}
use Rattle.proto_tree.proofs.Common.{tree_of_file, ReadsIn, Tree, trees_have_tokens}
use Rattle.proto_files.specs.Common.{ReadFile, FileOf, file_at, no_file, AreWorkspaceFiles, IsWorkspacePath, IsBefore, IsText, IsTextFault, IsGrammarFault, HasNone, IsReadFile, read_file, read_files}
use Rattle.proto_files.specs.Reading.{AreReadFiles}
use Rattle.proto_files.proofs.FileErrors.{no_text_fault, no_grammar_fault}
use Rattle.proto_files.proofs.LeastOfFiles.{length-read_files}

module _ (files : List FileOf) (place : ℕ) (f : FileOf) (within : place < length files) (same : f.path ≡ (file_at files place).path) where
  path_stays : (k : ℕ) (d : FileOf) → (get_or (slice_set files place f) k d).path ≡ (get_or files k d).path
  path_stays k d = elim (cases_eq k place) [
    | inl e ↦
        ap (λ n. (get_or (slice_set files place f) n d).path) e
        ∙ ap (λ (g : FileOf). g.path) (get_or-set_same files place f d within) ∙ same
        ∙ ap (λ (g : FileOf). g.path) (get_or_default files place no_file d within)
        ∙ ap (λ n. (get_or files n d).path) (sym e)
    | inr apart ↦ ap (λ (g : FileOf). g.path) (get_or-set_other files place k f d apart)
  ]

  workspace_stays : AreWorkspaceFiles files → AreWorkspaceFiles (slice_set files place f)
  workspace_stays w =
      let len : length (slice_set files place f) ≡ length files = length-set files place f in
      record {
        few = omega (arith, w.few, len);
        named = λ k d lt. subst IsWorkspacePath (sym (path_stays k d)) (w.named k d (omega (arith, lt, len)));
        ordered = λ i j d lt behind.
            subst (λ p. IsBefore p (get_or (slice_set files place f) j d).path) (sym (path_stays i d))
            (subst (λ p. IsBefore (get_or files i d).path p) (sym (path_stays j d)) (w.ordered i j d lt (omega (arith, behind, len))));
      }

-- tokens with a tree have no fault
pub no_fault : (p : Profile) (text : List ℕ) (tokens : List Token) (tree : Tree) → ReadsIn p text tokens tree → (fault : ParseFault) → IsParseFaultIn p text tokens fault → ⊥
no_fault p text tokens tree reads (grammar.Syntax offset) is = is.no_tree tree reads.spells
no_fault p text tokens tree reads (grammar.TooDeep offset) is =
    let low = reads.shallow (is.at + 1) (omega (arith, is.place.within)) in
    omega (arith, low, is.place.deep)
no_fault p text tokens tree reads grammar.NoMemory is = is

-- a file with the tokens and the tree of its text
pub read_whole : (f : ReadFile) → IsText f.source → ReadsIn f.profile f.source f.tokens.items (tree_of_file f.tree) → IsReadFile f
read_whole f text reads =
    let are = trees_have_tokens f.profile f.source f.tokens.items (tree_of_file f.tree) reads in
    record {
      spans = token_spans f.source f.tokens.items reads.tokens_are;
      reads = reads;
      no_text_fault = no_text_fault (read_file f) f.tokens.items text are;
      no_fault = no_grammar_fault (read_file f) f.tokens.items are (no_fault f.profile f.source f.tokens.items (tree_of_file f.tree) reads);
    }

-- it takes the place of the file at its path
pub read_stays : (files : List ReadFile) (place : ℕ) (f : ReadFile) → AreReadFiles files → place < length files → string_bytes f.path ≡ (file_at (read_files files) place).path → IsReadFile f → AreReadFiles (slice_set files place f)
read_stays files place f are within path read =
    record {
      workspace =
          subst AreWorkspaceFiles (sym (map-set read_file files place f))
          (workspace_stays (read_files files) place (read_file f) (omega (arith, within, length-read_files files)) path are.workspace);
      read = All-set IsReadFile files place f read are.read;
    }

-- a file with the text, the language and the tokens of another
pub read_again : (f g : ReadFile) → IsReadFile f → read_file g ≡ read_file f → g.tokens.items ≡ f.tokens.items → ReadsIn g.profile g.source g.tokens.items (tree_of_file g.tree) → IsReadFile g
read_again f g whole same tokens reads =
    let source : g.source ≡ f.source = ap (λ (x : FileOf). x.bytes) same in
    record {
      spans =
          subst (λ (text : List ℕ). All (λ t. IsSpan text t.span) g.tokens.items) (sym source)
          (subst (λ (ts : List Token). All (λ t. IsSpan f.source t.span) ts) (sym tokens) whole.spans);
      reads = reads;
      no_text_fault = subst (HasNone IsTextFault) (sym same) whole.no_text_fault;
      no_fault = subst (HasNone IsGrammarFault) (sym same) whole.no_fault;
    }
