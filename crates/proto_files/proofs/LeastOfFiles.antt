-- The first file with a fault has the least fault of its phase, and of both phases.
use Rattle.std.proofs.Common.{◌≡◌, ℕ, zero, suc, ◌<◌, List, [], ◌∷◌, length, get_or, refl, sym, ap, ◌∙◌, subst, inl, inr, ⊎_elim, arith, ◌⊎◌, All}
use Rattle.proto_text.specs.declared.lexer.Token.{Token}
use Rattle.proto_text.proofs.Common.{AreTokens, one_token_list}
use Rattle.proto_tree.proofs.Common.{tree_of_file, ReadsIn}
use Rattle.proto_base.specs.declared.fault.FaultKind.{FaultKind}
use Rattle.proto_base.specs.declared.fault.FaultKind.TheVariants as kind
use Rattle.proto_base.specs.declared.fault.SchemaFault.{SchemaFault}
use Rattle.proto_base.specs.declared.fault.SchemaFault.TheVariants.{Schema, NoMemory}
use Rattle.proto_files.specs.Common.{LexedFile, ReadFile, IsBefore, FaultAt, fault_at, ComesBefore, IsLeastFault, HasNoFault, IsFilesError, FileOf, file_at, no_file, AreWorkspaceFiles, IsTextFault, IsGrammarFault, FaultsOf, TextFaults, GrammarFaults, ReadFaults, IsFirstFault, IsFirstError, IsLexedFile, IsReadFile, lexed_files, read_file, read_files}
use Rattle.proto_base.specs.FaultTable.{kind_number, phase_of}
use Rattle.proto_files.proofs.Members.{member_from_Contains}
use Rattle.proto_files.proofs.PathOrder.{never_before_itself, before_trans}
use Rattle.proto_files.proofs.FaultOrder.{comes_before_cases, least_of_first, least_of_second, none_of_both}
use Rattle.proto_files.proofs.FirstErrors.{NoneOf, none_lexed, none_read, none_read_texts}

get_or_any : (files : List FileOf) (k : ℕ) (d e : FileOf) → k < length files → get_or files k d ≡ get_or files k e
get_or_any [] k d e lt = absurd (omega arith)
get_or_any (f ∷ files) zero d e lt = refl
get_or_any (f ∷ files) (suc k) d e lt = get_or_any files k d e (omega arith)

sides : (j i : ℕ) → (j < i) ⊎ ((j ≡ i) ⊎ (i < j))
sides zero zero = inr (inl refl)
sides zero (suc i) = inl (omega arith)
sides (suc j) zero = inr (inr (omega arith))
sides (suc j) (suc i) = ⊎_elim (λ (a : j < i). inl (omega arith)) (λ more. ⊎_elim (λ e. inr (inl (ap suc e))) (λ (b : i < j). inr (inr (omega arith))) more) (sides j i)

module _ (says : FileOf → ℕ → FaultKind → Type 0) (phase : ℕ) (one_phase : (file : FileOf) (offset : ℕ) (k : FaultKind) → says file offset k → phase_of k ≡ phase) where
  pub phase_of-fault : (files : List FileOf) (x : FaultAt) → FaultsOf says files x → phase_of x.kind ≡ phase
  phase_of-fault files x f = one_phase f.0 x.offset x.kind f.3

  pub first_is_least : (files : List FileOf) (x : FaultAt) → AreWorkspaceFiles files → IsFirstFault says files x → IsLeastFault (FaultsOf says files) x
  first_is_least files x w h =
      record {
        is_fault = (file_at files h.place, (h.place, h.within, get_or_any files h.place (file_at files h.place) no_file h.within), h.is_only.at_file, h.is_only.is_fault);
        is_least = λ y f before. go y f before (sides f.1.0 h.place);
      }
    where
      here : (y : FaultAt) (f : FaultsOf says files y) → f.0 ≡ file_at files f.1.0
      here y f = sym f.1.2 ∙ get_or_any files f.1.0 f.0 no_file f.1.1

      one : (y : FaultAt) → FaultsOf says files y → phase_of y.kind ≡ phase_of x.kind
      one y f = one_phase f.0 y.offset y.kind f.3 ∙ sym (one_phase (file_at files h.place) x.offset x.kind h.is_only.is_fault)

      behind : (y : FaultAt) (f : FaultsOf says files y) → h.place < f.1.0 → IsBefore x.path y.path
      behind y f lt =
          let o : IsBefore (file_at files h.place).path (file_at files f.1.0).path = w.ordered h.place f.1.0 no_file lt f.1.1 in
          subst (λ (p : List ℕ). IsBefore p y.path) (sym h.is_only.at_file) (subst (λ (p : List ℕ). IsBefore (file_at files h.place).path p) (sym (f.2 ∙ ap (λ (g : FileOf). g.path) (here y f))) o)

      go : (y : FaultAt) (f : FaultsOf says files y) → ComesBefore y x → (f.1.0 < h.place) ⊎ ((f.1.0 ≡ h.place) ⊎ (h.place < f.1.0)) → ⊥
      go y f before (inl lt) = h.none_before f.1.0 lt y.offset y.kind (subst (λ (g : FileOf). says g y.offset y.kind) (here y f) f.3)
      go y f before (inr (inl e)) =
          let is : f.0 ≡ file_at files h.place = here y f ∙ ap (file_at files) e in
          let same = h.is_only.only y.offset y.kind (subst (λ (g : FileOf). says g y.offset y.kind) is f.3) in
          let path : y.path ≡ x.path = f.2 ∙ ap (λ (g : FileOf). g.path) is ∙ sym h.is_only.at_file in
          let offset : y.offset ≡ x.offset = same.0 in
          let number : kind_number y.kind ≡ kind_number x.kind = ap kind_number same.1 in
          let phases : phase_of y.kind ≡ phase_of x.kind = one y f in
          ⊎_elim (λ (lt : phase_of y.kind < phase_of x.kind). omega arith)
          (λ more. ⊎_elim (λ b. never_before_itself x.path (subst (λ (p : List ℕ). IsBefore p x.path) path b))
          (λ at. ⊎_elim (λ (lt : y.offset < x.offset). omega arith) (λ num. let lt : kind_number y.kind < kind_number x.kind = num.1 in omega arith) at.1) more.1)
          (comes_before_cases y x before)
      go y f before (inr (inr lt)) =
          let after = behind y f lt in
          let phases : phase_of y.kind ≡ phase_of x.kind = one y f in
          ⊎_elim (λ (less : phase_of y.kind < phase_of x.kind). omega arith)
          (λ more. ⊎_elim (λ b. never_before_itself x.path (before_trans x.path y.path x.path after b))
          (λ at. never_before_itself x.path (subst (λ (p : List ℕ). IsBefore x.path p) at.0 after)) more.1)
          (comes_before_cases y x before)

pub text_phase : (file : FileOf) (offset : ℕ) (k : FaultKind) → IsTextFault file offset k → phase_of k ≡ 1
text_phase file offset kind.TooLarge f = refl
text_phase file offset kind.NotUtf8 f = refl
text_phase file offset kind.BadChar f = refl
text_phase file offset kind.OpenComment f = refl
text_phase file offset kind.OpenString f = refl
text_phase file offset kind.BadEscape f = refl
text_phase file offset kind.BadNumber f = refl
text_phase file offset _ f = absurd f

pub grammar_phase : (file : FileOf) (offset : ℕ) (k : FaultKind) → IsGrammarFault file offset k → phase_of k ≡ 2
grammar_phase file offset kind.Syntax f = refl
grammar_phase file offset kind.TooDeep f = refl
grammar_phase file offset _ f = absurd f

no_fault_of : (says : FileOf → ℕ → FaultKind → Type 0) (files : List FileOf) → NoneOf says files → HasNoFault (FaultsOf says files)
no_fault_of says files h y f = h f.0 (member_from_Contains f.0 files f.1) y.offset y.kind f.3

-- the first file with a fault of its text has the least fault
pub least_text : (given files : List FileOf) → given ≡ files → AreWorkspaceFiles files → (e : SchemaFault) → IsFirstError IsTextFault given e → IsFilesError (ReadFaults files) e
least_text given files is w NoMemory h = tt
least_text given files is w (Schema fault) h =
    let x = fault_at fault in
    let first : IsFirstFault IsTextFault files x = subst (λ (fs : List FileOf). IsFirstFault IsTextFault fs x) is h in
    let least = first_is_least IsTextFault 1 text_phase files x w first in
    least_of_first (TextFaults files) (GrammarFaults files) x
    (λ y g. let a : phase_of x.kind ≡ 1 = phase_of-fault IsTextFault 1 text_phase files x least.is_fault in
    let b : phase_of y.kind ≡ 2 = phase_of-fault IsGrammarFault 2 grammar_phase files y g in omega arith)
    least

pub clean_texts : (lexed : List LexedFile) (files : List FileOf) → lexed_files lexed ≡ files → All IsLexedFile lexed → HasNoFault (TextFaults files)
clean_texts lexed files is h = subst (λ (fs : List FileOf). HasNoFault (TextFaults fs)) is (no_fault_of IsTextFault (lexed_files lexed) (none_lexed lexed h))

-- where no text has a fault, the first file with a fault of its grammar has the least fault
pub least_grammar : (lexed : List LexedFile) (files : List FileOf) → lexed_files lexed ≡ files → All IsLexedFile lexed → AreWorkspaceFiles files → (e : SchemaFault) → IsFirstError IsGrammarFault (lexed_files lexed) e → IsFilesError (ReadFaults files) e
least_grammar lexed files is all w NoMemory h = tt
least_grammar lexed files is all w (Schema fault) h =
    let x = fault_at fault in
    let first : IsFirstFault IsGrammarFault files x = subst (λ (fs : List FileOf). IsFirstFault IsGrammarFault fs x) is h in
    least_of_second (TextFaults files) (GrammarFaults files) x (clean_texts lexed files is all) (first_is_least IsGrammarFault 2 grammar_phase files x w first)

pub clean_files_read : (lexed : List LexedFile) (read : List ReadFile) (files : List FileOf) → lexed_files lexed ≡ files → read_files read ≡ files → All IsLexedFile lexed → All IsReadFile read → HasNoFault (ReadFaults files)
clean_files_read lexed read files is is' all all' =
    none_of_both (TextFaults files) (GrammarFaults files) (clean_texts lexed files is all)
    (subst (λ (fs : List FileOf). HasNoFault (GrammarFaults fs)) is' (no_fault_of IsGrammarFault (read_files read) (none_read read all')))

pub file_at-read : (files : List ReadFile) (place : ℕ) (d : ReadFile) → place < length files → file_at (read_files files) place ≡ read_file (get_or files place d)
file_at-read [] place d lt = absurd (omega arith)
file_at-read (f ∷ files) zero d lt = refl
file_at-read (f ∷ files) (suc place) d lt = file_at-read files place d (omega arith)

-- the tree of the file at a place is the one that its tokens spell
pub tree_at : (files : List ReadFile) (place : ℕ) (f : ReadFile) → All IsReadFile files → place < length files → f ≡ get_or files place f → (tokens : List Token) → AreTokens (file_at (read_files files) place).bytes tokens → ReadsIn (file_at (read_files files) place).profile (file_at (read_files files) place).bytes tokens (tree_of_file f.tree)
tree_at files place f all lt at tokens are =
    let is : read_file f ≡ file_at (read_files files) place = ap read_file at ∙ sym (file_at-read files place f lt) in
    let here : IsReadFile f = subst (λ (g : ReadFile). IsReadFile g) (sym at) (all place f lt) in
    subst (λ (g : FileOf). AreTokens g.bytes tokens → ReadsIn g.profile g.bytes tokens (tree_of_file f.tree)) is
    (λ own. subst (λ (ts : List Token). ReadsIn f.profile f.source ts (tree_of_file f.tree)) (one_token_list f.source f.tokens.items tokens here.reads.tokens_are own) here.reads)
    are

pub length-read_files : (files : List ReadFile) → length (read_files files) ≡ length files
length-read_files [] = refl
length-read_files (f ∷ files) = ap suc (length-read_files files)

-- files that were read have no fault
pub read_is_clean : (read : List ReadFile) (files : List FileOf) → read_files read ≡ files → All IsReadFile read → HasNoFault (ReadFaults files)
read_is_clean read files is all =
    subst (λ (fs : List FileOf). HasNoFault (ReadFaults fs)) is
    (none_of_both (TextFaults (read_files read)) (GrammarFaults (read_files read))
    (no_fault_of IsTextFault (read_files read) (none_read_texts read all))
    (no_fault_of IsGrammarFault (read_files read) (none_read read all)))
