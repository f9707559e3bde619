-- Other words at tokens of many files (for the crates above).
use Rattle.std.proofs.Common.{slice_index_or, ◌≡◌, ℕ, zero, suc, ◌+◌, ◌<◌, List, [], ◌∷◌, ◌++◌, length, map, Option, Some, None, refl, sym, ap, ap₂, subst, ◌∙◌, arith, Contains}
use Rattle.proto_base.specs.Texts.{or_nothing}
use Rattle.proto_text.specs.declared.class.Class.TheVariants.{Letter, Quote}
use Rattle.proto_text.proofs.Common.{IsRun, IsString, or_word, words, IsReworded, length_map, words_are_changed, other_words_stay, value_of}
use Rattle.proto_text.specs.declared.lexer.Token.{Token}
use Rattle.proto_tree.proofs.Common.{Suits, PutsWords, Tree, End, flat, ReadsIn, edits_keep_trees_in}
use Rattle.proto_files.proofs.Common.{FileOf, file_at, paths_of, ReadOf, AreRead, read_at}
use Rattle.proto_names_rules.proofs.Common.{AskedImport, imports_of, At, at, FileNames, skeleton_of_files, Import, map_agree, map_map}
use Rattle.proto_names_outline.proofs.Common.{import_here, imports_are_strings, Wanted, imports_in, file_names}
use Rattle.proto_names_imports.specs.Links.{text_of, asked_as, all_wanted, names_in, link_imports}
use Rattle.proto_edit_rename_laws.specs.Rewording.{SuitFiles, AreReworded, FilesAreReworded, TextsAreChanged, OtherTextsStay, SkeletonsStay}
use Rattle.proto_edit_rules.specs.Rename.{words_of_file, NewWords}
use Rattle.proto_base.specs.declared.profile.Profile.{Profile}

pub at_same : {A B : Type 0} (f : A → B) (xs ys : List A) (d : A) (k : ℕ) → map f xs ≡ map f ys → f (slice_index_or xs k d) ≡ f (slice_index_or ys k d)
at_same f [] [] d k e = refl
at_same f [] (y ∷ ys) d k e = absurd cc
at_same f (x ∷ xs) [] d k e = absurd cc
at_same f (x ∷ xs) (y ∷ ys) d zero e = cc
at_same f (x ∷ xs) (y ∷ ys) d (suc k) e = let t : map f xs ≡ map f ys = cc in at_same f xs ys d k t

-- ---- the files after a change

abbrev no_read : ReadOf
no_read = record { tokens = []; tree = End }

-- what is made of each file
record Made (c : ℕ → ℕ → Option (List ℕ)) (files : List FileOf) (reads : List ReadOf) : Type 0 where
  after : List FileOf
  seen : List ReadOf
  counts : length seen ≡ length after
  paths : paths_of after ≡ paths_of files
  profiles : map (λ f. f.profile) after ≡ map (λ f. f.profile) files
  trees : map (λ r. r.tree) seen ≡ map (λ r. r.tree) reads
  words : (k : ℕ) → k < length files → IsReworded (file_at files k).bytes (read_at reads k).tokens (c k) (file_at after k).bytes (read_at seen k).tokens
  read : (k : ℕ) → k < length files → ReadsIn (file_at after k).profile (file_at after k).bytes (read_at seen k).tokens (read_at seen k).tree

abbrev AllSuit : (ℕ → ℕ → Option (List ℕ)) → List ReadOf → Type 0
AllSuit c reads = (k : ℕ) → k < length reads → Suits (c k) (flat (read_at reads k).tree) × PutsWords (c k)

abbrev AllRead : List FileOf → List ReadOf → Type 0
AllRead files reads = (k : ℕ) → k < length files → ReadsIn (file_at files k).profile (file_at files k).bytes (read_at reads k).tokens (read_at reads k).tree

make : (c : ℕ → ℕ → Option (List ℕ)) (files : List FileOf) (reads : List ReadOf) → length reads ≡ length files → AllRead files reads → AllSuit c reads → Made c files reads
make c [] [] e r s = record { after = []; seen = []; counts = refl; paths = refl; profiles = refl; trees = refl; words = λ k l. absurd (omega (arith, l)); read = λ k l. absurd (omega (arith, l)) }
make c [] (x ∷ reads) e r s = absurd (omega (arith, e))
make c (f ∷ files) [] e r s = absurd (omega (arith, e))
make c (f ∷ files) (x ∷ reads) e r s =
    let one = edits_keep_trees_in f.profile (c 0) f.bytes x.tokens x.tree (s 0 (omega arith)).0 (s 0 (omega arith)).1 (r 0 (omega arith)) in
    let m = make (λ k. c (suc k)) files reads (omega (arith, e)) (λ k l. r (suc k) (omega (arith, l))) (λ k l. s (suc k) (omega (arith, l))) in
    let g : FileOf = record f { bytes = one.0 } in
    let y : ReadOf = record { tokens = one.1; tree = x.tree } in
    record {
      after = g ∷ m.after;
      seen = y ∷ m.seen;
      counts = ap suc m.counts;
      paths = ap (λ ps. f.path ∷ ps) m.paths;
      profiles = ap (λ ps. f.profile ∷ ps) m.profiles;
      trees = ap (λ ts. x.tree ∷ ts) m.trees;
      words = words g y m.after m.seen one.2 m.words;
      read = reads_each g y m.after m.seen one.3 m.read;
    }
  where
    words : (g : FileOf) (y : ReadOf) (gs : List FileOf) (ys : List ReadOf) → IsReworded f.bytes x.tokens (c 0) g.bytes y.tokens
        → ((k : ℕ) → k < length files → IsReworded (file_at files k).bytes (read_at reads k).tokens (c (suc k)) (file_at gs k).bytes (read_at ys k).tokens)
        → (k : ℕ) → k < length (f ∷ files) → IsReworded (file_at (f ∷ files) k).bytes (read_at (x ∷ reads) k).tokens (c k) (file_at (g ∷ gs) k).bytes (read_at (y ∷ ys) k).tokens
    words g y gs ys h more zero l = h
    words g y gs ys h more (suc k) l = more k (omega (arith, l))

    reads_each : (g : FileOf) (y : ReadOf) (gs : List FileOf) (ys : List ReadOf) → ReadsIn g.profile g.bytes y.tokens y.tree
        → ((k : ℕ) → k < length files → ReadsIn (file_at gs k).profile (file_at gs k).bytes (read_at ys k).tokens (read_at ys k).tree)
        → (k : ℕ) → k < length (f ∷ files) → ReadsIn (file_at (g ∷ gs) k).profile (file_at (g ∷ gs) k).bytes (read_at (y ∷ ys) k).tokens (read_at (y ∷ ys) k).tree
    reads_each g y gs ys h more zero l = h
    reads_each g y gs ys h more (suc k) l = more k (omega (arith, l))

same_paths : (a b : List FileOf) → paths_of a ≡ paths_of b → length a ≡ length b
same_paths a b e = sym (length_map (λ (f : FileOf). f.path) a) ∙ ap length e ∙ length_map (λ (f : FileOf). f.path) b

pub files_are_reworded : FilesAreReworded
files_are_reworded c files reads r s =
    let m = make (λ k. words_of_file c k) files reads r.same r.trees s in
    let n = same_paths m.after files m.paths in (
      m.after,
      m.seen,
      record {
        paths = m.paths;
        profiles = m.profiles;
        trees = m.trees;
        words = m.words;
        read = record { same = m.counts; tokens = λ k l. (m.read k (omega (arith, l, n))).tokens_are; trees = λ k l. m.read k (omega (arith, l, n)) };
      },
    )

pub texts_are_changed : TextsAreChanged
texts_are_changed c files reads after seen r w a lf lt =
    words_are_changed (file_at files a.file).bytes (read_at reads a.file).tokens (words_of_file c a.file) (file_at after a.file).bytes (read_at seen a.file).tokens (w.words a.file lf) a.token lt

pub other_texts_stay : OtherTextsStay
other_texts_stay c files reads after seen r w a lf none =
    other_words_stay (file_at files a.file).bytes (read_at reads a.file).tokens (words_of_file c a.file) (file_at after a.file).bytes (read_at seen a.file).tokens (w.words a.file lf) a.token none

-- ---- what the files import, declare and use

-- no word is a string
string_is_no_word : (word : List ℕ) → IsString word → IsRun Letter word → ⊥
string_is_no_word word s h =
    let run : IsRun Letter (s.0 ∷ (s.1 ++ s.0 ∷ [])) = subst (IsRun Letter) s.2.1 h in
    apart (sym s.2.0 ∙ run.0)
  where
    apart : Quote ≡ Letter → ⊥
    apart e = cc

none_or : {X : Type 0} (o : Option X) → ((x : X) → o ≡ Some x → ⊥) → o ≡ None
none_or None h = refl
none_or (Some x) h = absurd (h x refl)

-- The path of an import is a string before and after, and a new word is none: so it is not changed.
imports_stay : (p q : Profile) (c : ℕ → Option (List ℕ)) (bytes : List ℕ) (tokens : List Token) (t : Tree) (after : List ℕ) (seen : List Token) → ReadsIn p bytes tokens t → ReadsIn q after seen t → PutsWords c → IsReworded bytes tokens c after seen
    → (w : Wanted) → Contains (imports_in t) w → c w.path ≡ None
imports_stay p q c bytes tokens t after seen r s puts is w h = none_or (c w.path) (λ word e.
    let here : w.path < length tokens = import_here p bytes tokens t r w h in
    let now : words after seen w.path ≡ word = words_are_changed bytes tokens c after seen is w.path here ∙ ap (λ o. or_word o (words bytes tokens w.path)) e in
    string_is_no_word word (subst IsString now (imports_are_strings q after seen t s w h)) (puts w.path word e))

-- the paths asked for by the texts of two readings
wanted_same : (text now : At → List ℕ) (n : ℕ) (xs ys : List ReadOf) → map (λ r. r.tree) ys ≡ map (λ r. r.tree) xs
    → ((k : ℕ) (w : Wanted) → k < length xs → Contains (imports_in (read_at xs k).tree) w → now (at (n + k) w.path) ≡ text (at (n + k) w.path))
    → all_wanted now n ys ≡ all_wanted text n xs
wanted_same text now n [] [] e h = refl
wanted_same text now n [] (y ∷ ys) e h = absurd cc
wanted_same text now n (x ∷ xs) [] e h = absurd cc
wanted_same text now n (x ∷ xs) (y ∷ ys) e h =
    let tree : y.tree ≡ x.tree = cc in
    let rest : map (λ (r : ReadOf). r.tree) ys ≡ map (λ (r : ReadOf). r.tree) xs = cc in
    ap₂ (λ (a b : List AskedImport). a ++ b)
    (ap (λ t. map (asked_as now n) (imports_in t)) tree
    ∙ map_agree (asked_as now n) (asked_as text n) (imports_in x.tree) (λ w c.
    let same = subst (λ (m : ℕ). now (at m w.path) ≡ text (at m w.path)) (omega arith) (h 0 w (omega arith) c) in
    ap (λ (v : List ℕ). let a : AskedImport = record { place = at n w.path; path = or_nothing (value_of v); is_public = w.is_public } in a) same))
    (wanted_same text now (suc n) xs ys rest (λ k w l c.
    subst (λ (m : ℕ). now (at m w.path) ≡ text (at m w.path)) (omega arith) (h (suc k) w (omega (arith, l)) c)))

pub asked_stay : (c : NewWords) (files : List FileOf) (reads : List ReadOf) (after : List FileOf) (seen : List ReadOf) → AreRead files reads → SuitFiles c reads → AreReworded c files reads after seen
    → all_wanted (text_of after seen) 0 seen ≡ all_wanted (text_of files reads) 0 reads
asked_stay c files reads after seen r s w =
    wanted_same (text_of files reads) (text_of after seen) 0 reads seen w.trees (λ k x l h.
    let lf : k < length files = omega (arith, l, r.same) in
    let la : k < length after = (let n = same_paths after files w.paths in omega (arith, lf, n)) in
    let tree : (read_at seen k).tree ≡ (read_at reads k).tree = at_same (λ (z : ReadOf). z.tree) seen reads no_read k w.trees in
    let again = subst (λ (z : Tree). ReadsIn (file_at after k).profile (file_at after k).bytes (read_at seen k).tokens z) tree (w.read.trees k la) in
    let none = imports_stay (file_at files k).profile (file_at after k).profile (words_of_file c k) (file_at files k).bytes (read_at reads k).tokens (read_at reads k).tree (file_at after k).bytes (read_at seen k).tokens (r.trees k lf) again (s k l).1 (w.words k lf) x h in
    let same = other_texts_stay c files reads after seen r w (at k x.path) lf none in
    subst (λ (m : ℕ). text_of after seen (at m x.path) ≡ text_of files reads (at m x.path)) (omega arith) same)

pub skeletons_stay : SkeletonsStay
skeletons_stay c files reads after seen r s w =
    let asked = asked_stay c files reads after seen r s w in
    let imports : link_imports after seen ≡ link_imports files reads = ap₂ (λ (ps : List (List ℕ)) (a : List AskedImport). imports_of ps a) w.paths asked in
    let names : map names_in seen ≡ map names_in reads = sym (map_map (λ (r : ReadOf). r.tree) file_names seen) ∙ ap (map file_names) w.trees ∙ map_map (λ (r : ReadOf). r.tree) file_names reads in
    ap₂ (λ (is : List Import) (ns : List FileNames). skeleton_of_files is ns) imports names
