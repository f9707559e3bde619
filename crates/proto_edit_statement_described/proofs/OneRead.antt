-- Files and what is read of them, where one is put anew.
use Rattle.std.proofs.Common.{◌≡◌, ◌≢◌, ℕ, zero, suc, ◌+◌, ◌<◌, inl, inr, List, [], ◌∷◌, ◌++◌, length, map, slice_get, slice_index_or, slice_set, refl, sym, ◌∙◌, ap, subst, arith, get_or-set_other, get_or-set_same, length-set}
use Rattle.std.proofs.lemmas.Bool.{cases_eq}
use Rattle.proto_text.specs.declared.lexer.Token.{Token}
use Rattle.proto_text.specs.Tokens.{Lexeme}
use Rattle.proto_tree.specs.Tree.{Tree, End}
use Rattle.proto_files.proofs.Common.{ReadOf, read_at, FileOf, file_at, paths_of}
use Rattle.proto_edit_statement_laws.specs.OneFile.{with_read, with_text}
use Rattle.proto_edit_statement_laws.proofs.LexemesMoved.{got_behind as past}
use Rattle.proto_files.specs.GivenFiles.{no_file}

module _ (files : List FileOf) (reads : List ReadOf) (place : ℕ) (result : List ℕ) (after : List Token) (tree : Tree) where
  pub many : length (with_text files place result) ≡ length files
  many = length-set files place (record (file_at files place) { bytes = result })

  pub here : place < length files → file_at (with_text files place result) place ≡ (let f : FileOf = record (file_at files place) { bytes = result } in f)
  here l = get_or-set_same files place (record (file_at files place) { bytes = result }) no_file l

  pub other : (k : ℕ) → k ≢ place → file_at (with_text files place result) k ≡ file_at files k
  other k apart = get_or-set_other files place k (record (file_at files place) { bytes = result }) no_file apart

  pub read_here : place < length reads → read_at (with_read reads place after tree) place ≡ (let r : ReadOf = record { tokens = after; tree = tree } in r)
  read_here l = get_or-set_same reads place (record { tokens = after; tree = tree }) (record { tokens = []; tree = End }) l

  pub read_other : (k : ℕ) → k ≢ place → read_at (with_read reads place after tree) k ≡ read_at reads k
  read_other k apart = get_or-set_other reads place k (record { tokens = after; tree = tree }) (record { tokens = []; tree = End }) apart

  pub same_path : place < length files → (k : ℕ) → (file_at (with_text files place result) k).path ≡ (file_at files k).path
  same_path l k = elim (cases_eq k place) [
    | inl e ↦ subst (λ m. (file_at (with_text files place result) m).path ≡ (file_at files m).path) (sym e) (ap (λ (f : FileOf). f.path) (here l))
    | inr n ↦ ap (λ (f : FileOf). f.path) (other k n)
  ]

  pub same_profile : place < length files → (k : ℕ) → (file_at (with_text files place result) k).profile ≡ (file_at files k).profile
  same_profile l k = elim (cases_eq k place) [
    | inl e ↦ subst (λ m. (file_at (with_text files place result) m).profile ≡ (file_at files m).profile) (sym e) (ap (λ (f : FileOf). f.profile) (here l))
    | inr n ↦ ap (λ (f : FileOf). f.profile) (other k n)
  ]

-- no path changes
pub paths_stay : (files : List FileOf) (place : ℕ) (result : List ℕ) → paths_of (with_text files place result) ≡ paths_of files
paths_stay files place result = go files place (record (file_at files place) { bytes = result }) (λ l. refl)
  where
    go : (fs : List FileOf) (n : ℕ) (g : FileOf) → (n < length fs → (file_at fs n).path ≡ g.path) → map (λ (f : FileOf). f.path) (slice_set fs n g) ≡ map (λ (f : FileOf). f.path) fs
    go [] n g e = refl
    go (f ∷ fs) zero g e = ap (λ (p : List ℕ). p ∷ map (λ (f : FileOf). f.path) fs) (sym (e (omega arith)))
    go (f ∷ fs) (suc n) g e = ap (λ (ps : List (List ℕ)). f.path ∷ ps) (go fs n g (λ l. e (omega (arith, l))))

-- a list around one of its places
pub record IsAround {A : Type 0} (xs : List A) (n : ℕ) (x y : A) : Type 0 where
  pub front : List A
  pub back : List A
  pub was : xs ≡ front ++ x ∷ back
  pub is : slice_set xs n y ≡ front ++ y ∷ back
  pub long : length front ≡ n

pub around : {A : Type 0} (xs : List A) (n : ℕ) (d y : A) → n < length xs → IsAround xs n (slice_index_or xs n d) y
around [] n d y l = absurd (omega (arith, l))
around (x ∷ xs) zero d y l = record { front = []; back = xs; was = refl; is = refl; long = refl }
around (x ∷ xs) (suc n) d y l =
    let v = around xs n d y (omega (arith, l)) in
    record { front = x ∷ v.front; back = v.back; was = ap (λ z. x ∷ z) v.was; is = ap (λ z. x ∷ z) v.is; long = ap suc v.long }

-- ---- tokens that come in

in_front : (xs ys : List Lexeme) (k : ℕ) → k < length xs → slice_get (xs ++ ys) k ≡ slice_get xs k
in_front [] ys k l = absurd (omega (arith, l))
in_front (x ∷ xs) ys zero l = refl
in_front (x ∷ xs) ys (suc k) l = in_front xs ys k (omega (arith, l))

-- each new token stands behind those before the place
pub come_in : (front new back : List Lexeme) (p k : ℕ) → length front ≡ p → k < length new → slice_get (front ++ (new ++ back)) (p + k) ≡ slice_get new k
come_in front new back p k e l = past front (new ++ back) (p + k) k (omega (arith, e)) ∙ in_front new back k l
