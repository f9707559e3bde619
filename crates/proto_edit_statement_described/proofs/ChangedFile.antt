-- Files of which one has another text, and what is read of them, place by place (for the crates above).
use Rattle.std.proofs.Common.{◌≡◌, ◌≢◌, ℕ, zero, suc, ◌<◌, List, [], ◌∷◌, ◌++◌, length, map, refl, sym, ap, ap₂, subst, inl, inr, arith, slice_index_or, slice_set, get_or-set_other, get_or-set_same, length-set}
use Rattle.std.proofs.Math.Seq.{map-set_same}
use Rattle.std.proofs.lemmas.Bool.{cases_eq}
use Rattle.proto_text.specs.declared.lexer.Token.{Token}
use Rattle.proto_text.specs.Tokens.{lexeme_at}
use Rattle.proto_tree.specs.Tree.{Tree, End}
use Rattle.proto_files.proofs.Common.{ReadOf, read_at, FileOf, file_at, paths_of}
use Rattle.proto_edit_statement_described.proofs.Common.{lexemes_of, tree_at}
use Rattle.proto_edit_statement_laws.specs.OneFile.{with_read, with_text}
use Rattle.proto_edit_statement_laws.specs.Files.{IsOneFile}
use Rattle.proto_files.specs.GivenFiles.{no_file}

-- ---- one element of a list

-- two lists that are the same but for the element at this place
pub record IsSplit {A : Type 0} (xs ys : List A) (n : ℕ) (d : A) : Type 0 where
  pub front : List A
  pub back : List A
  pub was : xs ≡ front ++ slice_index_or xs n d ∷ back
  pub is : ys ≡ front ++ slice_index_or ys n d ∷ back
  pub long : n ≡ length front

pub split : {A : Type 0} (xs : List A) (n : ℕ) (y d : A) → n < length xs → IsSplit xs (slice_set xs n y) n d
split [] n y d l = absurd (omega (arith, l))
split (x ∷ xs) zero y d l = record { front = []; back = xs; was = refl; is = refl; long = refl }
split {A} (x ∷ xs) (suc n) y d l =
    let r = split xs n y d (omega (arith, l)) in
    record { front = x ∷ r.front; back = r.back; was = ap (λ (z : List A). x ∷ z) r.was; is = ap (λ (z : List A). x ∷ z) r.is; long = ap suc r.long }

-- ---- the files

-- One file has other tokens and another tree.
pub record IsChange (files : List FileOf) (reads : List ReadOf) (after : List FileOf) (seen : List ReadOf) (place : ℕ) : Type 0 where
  pub one : IsOneFile files reads after seen
  pub old : one.old ≡ read_at reads place
  pub new : one.new ≡ read_at seen place
  pub long : place ≡ length one.before
  pub files_many : length after ≡ length files
  pub reads_many : length seen ≡ length reads
  pub path : (k : ℕ) → (file_at after k).path ≡ (file_at files k).path
  pub profile : (k : ℕ) → (file_at after k).profile ≡ (file_at files k).profile
  pub lexemes : (k : ℕ) → k ≢ place → lexemes_of after seen k ≡ lexemes_of files reads k
  pub trees : (k : ℕ) → k ≢ place → tree_at seen k ≡ tree_at reads k

-- and so it is read backwards
pub change_back : {files : List FileOf} {reads : List ReadOf} {after : List FileOf} {seen : List ReadOf} {place : ℕ} → IsChange files reads after seen place → IsChange after seen files reads place
change_back c = record {
  one = record { before = c.one.before; old = c.one.new; new = c.one.old; behind = c.one.behind; was = c.one.is; is = c.one.was; paths = sym c.one.paths };
  old = c.new;
  new = c.old;
  long = c.long;
  files_many = sym c.files_many;
  reads_many = sym c.reads_many;
  path = λ k. sym (c.path k);
  profile = λ k. sym (c.profile k);
  lexemes = λ k n. sym (c.lexemes k n);
  trees = λ k n. sym (c.trees k n);
}

module _ (files : List FileOf) (reads : List ReadOf) (place : ℕ) (result : List ℕ) (after : List Token) (tree : Tree) (within : place < length files) (same : length reads ≡ length files) where
  file_here : file_at (with_text files place result) place ≡ record (file_at files place) { bytes = result }
  file_here = get_or-set_same files place (record (file_at files place) { bytes = result }) no_file within

  file_there : (k : ℕ) → k ≢ place → file_at (with_text files place result) k ≡ file_at files k
  file_there k n = get_or-set_other files place k (record (file_at files place) { bytes = result }) no_file n

  read_here : read_at (with_read reads place after tree) place ≡ record { tokens = after; tree = tree }
  read_here = get_or-set_same reads place (record { tokens = after; tree = tree }) (record { tokens = []; tree = End }) (subst (λ (n : ℕ). place < n) (sym same) within)

  read_there : (k : ℕ) → k ≢ place → read_at (with_read reads place after tree) k ≡ read_at reads k
  read_there k n = get_or-set_other reads place k (record { tokens = after; tree = tree }) (record { tokens = []; tree = End }) n

  pub tree_here : tree_at (with_read reads place after tree) place ≡ tree
  tree_here = ap (λ (r : ReadOf). r.tree) read_here

  tree_there : (k : ℕ) → k ≢ place → tree_at (with_read reads place after tree) k ≡ tree_at reads k
  tree_there k n = ap (λ (r : ReadOf). r.tree) (read_there k n)

  pub lexemes_here : lexemes_of (with_text files place result) (with_read reads place after tree) place ≡ map (lexeme_at result) after
  lexemes_here = ap₂ (λ (f : FileOf) (r : ReadOf). map (lexeme_at f.bytes) r.tokens) file_here read_here

  lexemes_there : (k : ℕ) → k ≢ place → lexemes_of (with_text files place result) (with_read reads place after tree) k ≡ lexemes_of files reads k
  lexemes_there k n = ap₂ (λ (f : FileOf) (r : ReadOf). map (lexeme_at f.bytes) r.tokens) (file_there k n) (read_there k n)

  path_is : (k : ℕ) → (file_at (with_text files place result) k).path ≡ (file_at files k).path
  path_is k = elim (cases_eq k place) [
    | inl e ↦ subst (λ j. (file_at (with_text files place result) j).path ≡ (file_at files j).path) (sym e) (ap (λ (f : FileOf). f.path) file_here)
    | inr n ↦ ap (λ (f : FileOf). f.path) (file_there k n)
  ]

  profile_is : (k : ℕ) → (file_at (with_text files place result) k).profile ≡ (file_at files k).profile
  profile_is k = elim (cases_eq k place) [
    | inl e ↦ subst (λ j. (file_at (with_text files place result) j).profile ≡ (file_at files j).profile) (sym e) (ap (λ (f : FileOf). f.profile) file_here)
    | inr n ↦ ap (λ (f : FileOf). f.profile) (file_there k n)
  ]

  paths_are : paths_of (with_text files place result) ≡ paths_of files
  paths_are = map-set_same (λ (f : FileOf). f.path) files place (record (file_at files place) { bytes = result }) no_file refl

  file_count : length (with_text files place result) ≡ length files
  file_count = length-set files place (record (file_at files place) { bytes = result })

  read_count : length (with_read reads place after tree) ≡ length reads
  read_count = length-set reads place (record { tokens = after; tree = tree })

  -- all of it
  pub is_change : IsChange files reads (with_text files place result) (with_read reads place after tree) place
  is_change =
      let r = split reads place (record { tokens = after; tree = tree }) (record { tokens = []; tree = End }) (subst (λ (n : ℕ). place < n) (sym same) within) in
      record {
        one = record { before = r.front; old = read_at reads place; new = read_at (with_read reads place after tree) place; behind = r.back; was = r.was; is = r.is; paths = paths_are };
        old = refl;
        new = refl;
        long = r.long;
        files_many = file_count;
        reads_many = read_count;
        path = path_is;
        profile = profile_is;
        lexemes = lexemes_there;
        trees = tree_there;
      }
