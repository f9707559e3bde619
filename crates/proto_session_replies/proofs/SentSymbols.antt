-- The declarations of a document, as they are sent.
use Rattle.std.proofs.Common.{◌≡◌, ℕ, List, [], ◌∷◌, length, map, string_bytes, Some, None, bytes_eq, inl, inr, refl, sym, ap, subst, ◌∙◌, arith}
use Rattle.std.specs.List.{cons_option, filter_map, find}
use Rattle.std.specs.Prelude.{All, IsPermutation, option_map}
use Rattle.proto_base.proofs.Common.{All-cons, All-head, All-nil, All-permutation, FileOf, Path, Text, cases_Bool, cond-false, cond-true, length_permutation, paths_of, word_from_same}
use Rattle.proto_files.proofs.Common.{FaultAt, HasNoFault, IsLeastFault, ReadOf}
use Rattle.proto_files.specs.PathFaults.{PathFaults}
use Rattle.proto_files.specs.ReadFaults.{ReadFaults}
use Rattle.proto_files.specs.FilesRead.{read_at}
use Rattle.proto_names_outline.specs.FromTree.{items_in}
use Rattle.proto_names_outline.specs.Listing.{package_first}
use Rattle.proto_names_rules.specs.Skeleton.{EntryOf, Given, Source, Token}
use Rattle.proto_names_rules.specs.Tree.{Placed}
use Rattle.proto_answers.specs.Symbols.{symbol_at, symbol_if_written, symbols_of, written_token}
use Rattle.proto_answers.specs.declared.symbols.Symbol.{Symbol}
use Rattle.proto_messages.specs.declared.position.Range.{Range as SentRange}
use Rattle.proto_messages.specs.declared.results.Answer.TheVariants as answer
use Rattle.proto_messages.specs.declared.results.Symbol.{Symbol as SentSymbol}
use Rattle.proto_messages.specs.declared.results.Symbol.TheFolds.{fold-roll-Symbol}
use Rattle.proto_messages.specs.declared.results.Symbol.TheOpen.{Symbol-F}
use Rattle.proto_messages.specs.declared.results.Symbol.TheViews.{roll-Symbol}
use Rattle.proto_messages.specs.declared.results.SymbolKind.{SymbolKind}
use Rattle.proto_positions.specs.declared.encoding.Encoding.{Encoding}
use Rattle.proto_session_files.specs.Homes.{schema_of}
use Rattle.proto_session_files.specs.Views.{ViewOf}
use Rattle.proto_session_replies.specs.Symbols.{IsFileAsked, IsSymbolsReply, SentOf, has_path, sent_of, sent_step}
use Rattle.proto_session_replies.specs.declared.reply.Reply.TheVariants.{Result}

-- ---- each symbol of a file stands there

abbrev StandsIn : ℕ → Symbol → Type 0
StandsIn file s = s.location.file ≡ file

one_more : (e : Encoding) (files : List FileOf) (reads : List ReadOf) (file : ℕ) (p : Placed) (s : Source ℕ) (rest : List Symbol) → All (StandsIn file) rest → All (StandsIn file) (cons_option (option_map (symbol_at e files reads file p) (written_token s)) rest)
one_more e files reads file p (Token t) rest all = All-cons (StandsIn file) (symbol_at e files reads file p t) rest refl all
one_more e files reads file p (EntryOf t) rest all = all
one_more e files reads file p (Given w) rest all = all

all_stand : (e : Encoding) (files : List FileOf) (reads : List ReadOf) (file : ℕ) (ps : List Placed) → All (StandsIn file) (filter_map (symbol_if_written e files reads file) ps)
all_stand e files reads file [] = All-nil (StandsIn file)
all_stand e files reads file (p ∷ ps) = one_more e files reads file p p.last (filter_map (symbol_if_written e files reads file) ps) (all_stand e files reads file ps)

pub symbols_stand : (e : Encoding) (files : List FileOf) (reads : List ReadOf) (file : ℕ) → All (StandsIn file) (symbols_of e files reads file)
symbols_stand e files reads file = all_stand e files reads file (package_first (items_in (read_at reads file).tree))

-- ---- what is sent

abbrev made : Text → SymbolKind → SentRange → SentRange → ℕ → SentOf
made name kind range selection count = record { name = name; kind = kind; range = range; selection = selection; count = count }

-- a symbol with none in it
pub sent_is : (x : Symbol-F SentSymbol) (name : Text) (kind : SymbolKind) (range : SentRange) → string_bytes x.name ≡ name → x.kind ≡ kind → x.range ≡ range → x.selection ≡ range → x.children.items ≡ []
    → sent_of (roll-Symbol x) ≡ record { name = name; kind = kind; range = range; selection = range; count = 0 }
sent_is x name kind range name_is kind_is range_is selection_is none =
    fold-roll-Symbol SentOf sent_step x
    ∙ (ap (λ (n : Text). made n x.kind x.range x.selection (length (map sent_of x.children.items))) name_is
    ∙ (ap (λ (k : SymbolKind). made name k x.range x.selection (length (map sent_of x.children.items))) kind_is
    ∙ (ap (λ (r : SentRange). made name kind r x.selection (length (map sent_of x.children.items))) range_is
    ∙ (ap (λ (r : SentRange). made name kind range r (length (map sent_of x.children.items))) selection_is
    ∙ ap (λ (cs : List SentSymbol). made name kind range range (length (map sent_of cs))) none))))

-- ---- a file alone

only : (f : FileOf) (fs : List FileOf) → length fs ≡ 1 → All (λ g. g ≡ f) fs → fs ≡ f ∷ []
only f [] len all = absurd (omega arith)
only f (g ∷ []) len all = ap (λ (x : FileOf). x ∷ []) (All-head (λ x. x ≡ f) g [] all)
only f (g ∷ h ∷ fs) len all = absurd (omega arith)

-- a file alone in order
pub alone : (f : FileOf) (given fs : List FileOf) → given ≡ f ∷ [] → IsPermutation given fs → fs ≡ f ∷ []
alone f given fs is moved =
    let p : IsPermutation (f ∷ []) fs = subst (λ (gs : List FileOf). IsPermutation gs fs) is moved in
    only f fs (length_permutation (f ∷ []) fs p) (All-permutation (λ g. g ≡ f) (f ∷ []) fs p (All-cons (λ g. g ≡ f) f [] refl (All-nil (λ g. g ≡ f))))

pub path_faulty : (f : FileOf) (given : List FileOf) (x : FaultAt) → given ≡ f ∷ [] → IsLeastFault (PathFaults 4096 (paths_of given)) x → HasNoFault (PathFaults 4096 (f.path ∷ [])) → ⊥
path_faulty f given x is least clean = clean x (subst (λ (gs : List FileOf). PathFaults 4096 (paths_of gs) x) is least.is_fault)

pub text_faulty : (f : FileOf) (given paths : List FileOf) (x : FaultAt) → given ≡ f ∷ [] → IsPermutation given paths → IsLeastFault (ReadFaults paths) x → HasNoFault (ReadFaults (f ∷ [])) → ⊥
text_faulty f given paths x is moved least clean = clean x (subst (λ (gs : List FileOf). ReadFaults gs x) (alone f given paths is moved) least.is_fault)

-- ---- null

pub null_unnamed : (v : ViewOf) (uri : Text) → schema_of v.home uri ≡ None → IsSymbolsReply v uri (Result answer.Null)
null_unnamed v uri none = λ file is _ _. (let n = is.names in cc)

pub null_there : (v : ViewOf) (uri : Text) (path : Path) → schema_of v.home uri ≡ Some path → find (has_path path) v.files ≡ None → IsSymbolsReply v uri (Result answer.Null)
null_there v uri path named none = λ file is _ _.
    (let n = is.names in
    let same : file.path ≡ path = cc in
    let there = sym (ap (λ (p : Path). find (has_path p) v.files) same) ∙ is.there in
    cc)

pub null_faulty : (v : ViewOf) (uri : Text) (path : Path) (f : FileOf) → schema_of v.home uri ≡ Some path → find (has_path path) v.files ≡ Some f → (HasNoFault (PathFaults 4096 (f.path ∷ [])) → HasNoFault (ReadFaults (f ∷ [])) → ⊥) → IsSymbolsReply v uri (Result answer.Null)
null_faulty v uri path f named found faulty = λ file is clean read.
    (let n = is.names in
    let same : file.path ≡ path = cc in
    let there = sym (ap (λ (p : Path). find (has_path p) v.files) same) ∙ is.there in
    let it : file ≡ f = cc in
    faulty (subst (λ (g : FileOf). HasNoFault (PathFaults 4096 (g.path ∷ []))) it clean) (subst (λ (g : FileOf). HasNoFault (ReadFaults (g ∷ []))) it read))

-- ---- the file that is found

-- a file that is found at a path has it
pub found_path : (path : Path) (files : List FileOf) (f : FileOf) → find (has_path path) files ≡ Some f → f.path ≡ path
found_path path [] f found = absurd (none_some found)
  where
    none_some : None ≡ Some f → ⊥
    none_some e = cc
found_path path (g ∷ files) f found = elim (cases_Bool (bytes_eq g.path path)) [
  | inl same ↦
      let it : Some g ≡ Some f = sym (cond-true (bytes_eq g.path path) (Some g) (find (has_path path) files) same) ∙ found in
      let is : g ≡ f = cc in
      sym (ap (λ (x : FileOf). x.path) is) ∙ word_from_same g.path path same
  | inr other ↦ found_path path files f (sym (cond-false (bytes_eq g.path path) (Some g) (find (has_path path) files) other) ∙ found)
]

pub asked_there : (v : ViewOf) (uri : Text) (path : Path) (f : FileOf) → schema_of v.home uri ≡ Some path → find (has_path path) v.files ≡ Some f → IsFileAsked v uri f
asked_there v uri path f named found =
    let same : path ≡ f.path = sym (found_path path v.files f found) in
    record {
      names = named ∙ ap (λ (p : Path). Some p) same;
      there = subst (λ (p : Path). find (has_path p) v.files ≡ Some f) same found;
    }
