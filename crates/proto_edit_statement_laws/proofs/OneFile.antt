-- One splice that changes a file of a workspace (for the crates above).
use Rattle.std.proofs.Common.{◌≡◌, ◌≢◌, inl, inr, ℕ, zero, suc, ◌+◌, ◌<◌, ◌≤◌, List, [], ◌∷◌, ◌++◌, length, get_or, All, refl, sym, ap, subst, ◌∙◌, arith, length-append, AllPairs, Contains, IsUtf8, get_or-set_same, get_or-set_other, length-set}
use Rattle.proto_base.proofs.Common.{cases_lt, cases_order, All-cons, All-head, All-nil, text_limit, contains_cases, contains_head}
use Rattle.proto_text.specs.declared.lexer.Token.{Token}
use Rattle.proto_text.specs.Edits.{Edit, Puts}
use Rattle.proto_tree.proofs.Common.{ReadsIn, Tree, End}
use Rattle.proto_files.proofs.Common.{ReadOf, read_at, FileOf, file_at, IsText, IsBefore, IsWorkspacePath, never_before_itself}
use Rattle.proto_edit_entries.proofs.Common.{ChangeOf, HasLengths, IsChange, IsEntry, IsMeasured, IsPut, PutsFile, puts_keep_paths}
use Rattle.proto_edit_statement_laws.specs.OneFile.{AreFiles, IsChangedBy, with_read, with_text}
use Rattle.proto_edit_rules.specs.Statements.{IsTooLong, length_with, one_change}
use Rattle.proto_edit_rename_laws.proofs.ChangesPut.{each_puts, index_get}
use Rattle.proto_files.specs.GivenFiles.{no_file}

-- ---- lengths

-- the parts of a text that one splice changes
record AreParts (text result : List ℕ) (e : Edit) : Type 0 where
  old_is : (rest : ℕ) × (length text ≡ e.at + (length e.old + rest)) × (length result ≡ e.at + (length e.new + rest))

parts_of : (text result : List ℕ) (e : Edit) → Puts 0 text (e ∷ []) result → AreParts text result e
parts_of text result e h =
    let kept = h.0 in
    let rest = h.1 in
    let at = h.3.1 in
    let was = ap (λ (z : List ℕ). length z) h.3.0 in
    let is = ap (λ (z : List ℕ). length z) h.4 in
    let more = ap (λ (z : List ℕ). length z) h.5 in
    record {
      old_is = (
        length rest,
        omega (arith, was, at, length-append kept (e.old ++ rest), length-append e.old rest),
        omega (arith, is, at, more, length-append kept (e.new ++ h.2), length-append e.new h.2),
      );
    }

pub long_with : (f : FileOf) (e : Edit) (result : List ℕ) → Puts 0 f.bytes (e ∷ []) result → length result ≡ length_with f e
long_with f e result h = let p = (parts_of f.bytes result e h).old_is in omega (arith, p.1, p.2)

fits_with : (f : FileOf) (e : Edit) (result : List ℕ) → Puts 0 f.bytes (e ∷ []) result → (IsTooLong f e → ⊥) → length result ≤ text_limit
fits_with f e result h short = let p = (parts_of f.bytes result e h).old_is in elim (cases_lt (text_limit + length e.old) (length f.bytes + length e.new)) [
  | inl big ↦ absurd (short big)
  | inr small ↦ omega (arith, p.1, p.2, small)
]

nil_apart : {A : Type 0} (x : A) (xs : List A) → x ∷ xs ≡ [] → ⊥
nil_apart x xs h = cc

-- ---- the entry

entry_of : (f : FileOf) (e : Edit) (result : List ℕ) → IsWorkspacePath f.path → length f.bytes ≤ text_limit → length result ≤ text_limit → Puts 0 f.bytes (e ∷ []) result → e.old ≢ e.new → IsEntry (one_change f e)
entry_of f e result path small fits puts apart =
    let p = (parts_of f.bytes result e puts).old_is in
    let was = p.1 in
    let is = p.2 in
    let c : ChangeOf = record { path = f.path; before = length f.bytes; after = length_with f e; splices = e ∷ [] } in
    let lengths : HasLengths (e ∷ []) (length f.bytes) (length_with f e) = record {
      within = All-cons (λ (x : Edit). x.at + length x.old ≤ length f.bytes) e [] (omega (arith, was)) (All-nil (λ (x : Edit). x.at + length x.old ≤ length f.bytes));
      lengths = omega (arith, was);
    } in
    let measured : IsMeasured c = record {
      before_fits = small;
      after_fits = omega (arith, was, is, fits);
      some = λ h. nil_apart e [] h;
      ordered = (omega arith, omega (arith, was, small), omega (arith, is, fits), tt);
      lengths = lengths;
      told_apart = λ same. record {
        same_lengths = All-cons (λ (x : Edit). length x.old ≡ length x.new) e [] (omega (arith, same, was)) (All-nil (λ (x : Edit). length x.old ≡ length x.new));
        differs = λ h. apart (All-head (λ (x : Edit). x.old ≡ x.new) e [] h);
      };
    } in
    record {
      some = λ h. nil_apart c [] h;
      rising = (tt, tt);
      each = All-cons IsChange c [] (record { path = path; measured = measured }) (All-nil IsChange);
    }

-- ---- files by their places

one_place : (fs : List FileOf) → AllPairs (λ f g. IsBefore f.path g.path) fs → (j k : ℕ) → j < length fs → k < length fs → (file_at fs j).path ≡ (file_at fs k).path → j ≡ k
one_place fs apart j k lj lk e = elim (cases_order j k) [
  | inl same ↦ same
  | inr (inl below) ↦ absurd (by j k below lj lk e)
  | inr (inr more) ↦ absurd (by k j more lk lj (sym e))
]
  where
    by : (j k : ℕ) → j < k → j < length fs → k < length fs → (file_at fs j).path ≡ (file_at fs k).path → ⊥
    by j k below lj lk e =
        let at = apart j k (file_at fs j) below lk in
        never_before_itself (file_at fs k).path (subst (λ (p : List ℕ). IsBefore p (file_at fs k).path) e
        (subst (λ (f : FileOf). IsBefore (file_at fs j).path f.path) (index_get fs (file_at fs j) k lk) (subst (λ (f : FileOf). IsBefore f.path (get_or fs k (file_at fs j)).path) (index_get fs (file_at fs j) j lj) at)))

path_at : (fs : List FileOf) (i : ℕ) → i < length fs → All (λ (f : FileOf). IsWorkspacePath f.path) fs → IsWorkspacePath (file_at fs i).path
path_at [] i l h = absurd (omega (arith, l))
path_at (f ∷ fs) zero l h = h 0 f l
path_at (f ∷ fs) (suc i) l h = path_at fs i (omega (arith, l)) (λ j d m. h (suc j) d (omega (arith, m)))

-- ---- the change of one file

module _ (files : List FileOf) (reads : List ReadOf) (file : ℕ) (e : Edit) (result : List ℕ) (after : List Token) (tree : Tree) (are : AreFiles files reads) (within : file < length files) where
  many : length (with_text files file result) ≡ length files
  many = length-set files file (record (file_at files file) { bytes = result })

  here : file_at (with_text files file result) file ≡ record (file_at files file) { bytes = result }
  here = get_or-set_same files file (record (file_at files file) { bytes = result }) no_file within

  other : (k : ℕ) → k ≢ file → file_at (with_text files file result) k ≡ file_at files k
  other k apart = get_or-set_other files file k (record (file_at files file) { bytes = result }) no_file apart

  read_here : read_at (with_read reads file after tree) file ≡ record { tokens = after; tree = tree }
  read_here = get_or-set_same reads file (record { tokens = after; tree = tree }) (record { tokens = []; tree = End }) (subst (λ (n : ℕ). file < n) (sym are.read.same) within)

  read_other : (k : ℕ) → k ≢ file → read_at (with_read reads file after tree) k ≡ read_at reads k
  read_other k apart = get_or-set_other reads file k (record { tokens = after; tree = tree }) (record { tokens = []; tree = End }) apart

  -- this file or another
  by_place : (P : ℕ → Type 0) → P file → ((k : ℕ) → k ≢ file → P k) → (k : ℕ) → P k
  by_place P this that k = elim (cases_order k file) [
    | inl same ↦ subst P (sym same) this
    | inr (inl below) ↦ that k (λ q. absurd (omega (arith, q, below)))
    | inr (inr more) ↦ that k (λ q. absurd (omega (arith, q, more)))
  ]

  only : (c : ChangeOf) → Contains (one_change (file_at files file) e) c → record { path = (file_at files file).path; before = length (file_at files file).bytes; after = length_with (file_at files file) e; splices = e ∷ [] } ≡ c
  only c h = elim (contains_cases _ c [] h) [
    | inl is ↦ is
    | inr d ↦ absurd (omega (arith, d.1))
  ]

  puts_at : Puts 0 (file_at files file).bytes (e ∷ []) result → (k : ℕ) → k < length files → PutsFile (one_change (file_at files file) e) (file_at files k) (file_at (with_text files file result) k)
  puts_at put = by_place (λ k. k < length files → PutsFile (one_change (file_at files file) e) (file_at files k) (file_at (with_text files file result) k)) this that
    where
      this : file < length files → PutsFile (one_change (file_at files file) e) (file_at files file) (file_at (with_text files file result) file)
      this l = subst (PutsFile (one_change (file_at files file) e) (file_at files file)) (sym here) (record {
        path = refl;
        profile = refl;
        changed = λ c h p. subst (λ (x : ChangeOf). (length (file_at files file).bytes ≡ x.before) × Puts 0 (file_at files file).bytes x.splices result) (only c h) (refl, put);
        kept = λ none. absurd (none (record { path = (file_at files file).path; before = length (file_at files file).bytes; after = length_with (file_at files file) e; splices = e ∷ [] }) (contains_head _ []) refl);
      })

      that : (k : ℕ) → k ≢ file → k < length files → PutsFile (one_change (file_at files file) e) (file_at files k) (file_at (with_text files file result) k)
      that k apart l = subst (PutsFile (one_change (file_at files file) e) (file_at files k)) (sym (other k apart)) (record {
        path = refl;
        profile = refl;
        changed = λ c h p. absurd (apart (sym (one_place files are.workspace.ordered file k within l (ap (λ (x : ChangeOf). x.path) (only c h) ∙ p))));
        kept = λ none. refl;
      })

  put_is : Puts 0 (file_at files file).bytes (e ∷ []) result → IsPut files (one_change (file_at files file) e) (with_text files file result)
  put_is put = record {
    each = each_puts (one_change (file_at files file) e) files (with_text files file result) many (puts_at put);
    there = λ c h. (file_at files file, (file, within, index_get files (file_at files file) file within), ap (λ (x : ChangeOf). x.path) (only c h));
  }

  pub changed_by : Puts 0 (file_at files file).bytes (e ∷ []) result → (IsUtf8 (file_at files file).bytes → IsUtf8 result) → ReadsIn (file_at files file).profile result after tree → e.old ≢ e.new → (IsTooLong (file_at files file) e → ⊥) → IsChangedBy files reads file e result after tree
  changed_by put utf8 read apart short =
      let fits = fits_with (file_at files file) e result put short in
      let whole = put_is put in
      record {
        entry = entry_of (file_at files file) e result (path_at files file within are.workspace.named) (are.texts file within).short fits put apart;
        put = whole;
        long = long_with (file_at files file) e result put;
        still = record {
          workspace = puts_keep_paths files (with_text files file result) (one_change (file_at files file) e) are.workspace whole;
          texts = λ k l. by_place (λ k. k < length files → IsText (file_at (with_text files file result) k).bytes)
              (λ m. subst (λ (f : FileOf). IsText f.bytes) (sym here) (record { short = fits; utf8 = utf8 (are.texts file within).utf8 }))
              (λ j other_is m. subst (λ (f : FileOf). IsText f.bytes) (sym (other j other_is)) (are.texts j m)) k (subst (λ (n : ℕ). k < n) many l);
          read = record {
            same = length-set reads file (record { tokens = after; tree = tree }) ∙ are.read.same ∙ sym many;
            tokens = λ k l. (all_read k (subst (λ (n : ℕ). k < n) many l)).tokens_are;
            trees = λ k l. all_read k (subst (λ (n : ℕ). k < n) many l);
          };
        };
      }
    where
      all_read : (k : ℕ) → k < length files → ReadsIn (file_at (with_text files file result) k).profile (file_at (with_text files file result) k).bytes (read_at (with_read reads file after tree) k).tokens (read_at (with_read reads file after tree) k).tree
      all_read = by_place (λ k. k < length files → ReadsIn (file_at (with_text files file result) k).profile (file_at (with_text files file result) k).bytes (read_at (with_read reads file after tree) k).tokens (read_at (with_read reads file after tree) k).tree)
          (λ l. subst (λ (f : FileOf). ReadsIn f.profile f.bytes (read_at (with_read reads file after tree) file).tokens (read_at (with_read reads file after tree) file).tree) (sym here)
          (subst (λ (r : ReadOf). ReadsIn (file_at files file).profile result r.tokens r.tree) (sym read_here) read))
          (λ j apart_is l. subst (λ (f : FileOf). ReadsIn f.profile f.bytes (read_at (with_read reads file after tree) j).tokens (read_at (with_read reads file after tree) j).tree) (sym (other j apart_is))
          (subst (λ (r : ReadOf). ReadsIn (file_at files j).profile (file_at files j).bytes r.tokens r.tree) (sym (read_other j apart_is)) (are.read.trees j l)))
