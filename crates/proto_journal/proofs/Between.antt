-- Files of which the first ones are as after and the others as before.
use Rattle.std.proofs.Common.{arith, ◌≡◌, ◌⊎◌, inl, inr, ℕ, zero, suc, ◌<◌, Bool, true, false, cond, List, [], ◌∷◌, length, Some, refl, sym, ap, ◌∙◌, subst, AllPairs, IsSome, is_some, bytes_eq}
use Rattle.std.proofs.lemmas.Slice.Eq.{bytes_eq-Decides}
use Rattle.proto_files.proofs.Common.{FileOf, file_at, paths_of, IsBefore, never_before_itself}
use Rattle.proto_edit_entries.proofs.Puts.{same_file}
use Rattle.proto_store.specs.Stores.{bytes_at, with_bytes, languages_of}
use Rattle.proto_journal_records.specs.Torn.{IsBetween}
use Rattle.proto_files.specs.GivenFiles.{no_file}

abbrev pub up_to : ℕ → List FileOf → List FileOf → List FileOf
up_to zero after before = before
up_to (suc i) [] before = before
up_to (suc i) (y ∷ ys) [] = []
up_to (suc i) (y ∷ ys) (x ∷ xs) = y ∷ up_to i ys xs

abbrev pub IsOrdered : List FileOf → Type 0
IsOrdered files = AllPairs (λ f g. IsBefore f.path g.path) files

head_of : {A : Type 0} (x y : A) (xs ys : List A) → x ∷ xs ≡ y ∷ ys → x ≡ y
head_of x y xs ys e = cc

tail_of : {A : Type 0} (x y : A) (xs ys : List A) → x ∷ xs ≡ y ∷ ys → xs ≡ ys
tail_of x y xs ys e = cc

none_is_some : (x : List ℕ) (xs : List (List ℕ)) → x ∷ xs ≡ [] → ⊥
none_is_some x xs e = cc

-- ---- the paths

pub paths_up_to : (i : ℕ) (after before : List FileOf) → paths_of after ≡ paths_of before → paths_of (up_to i after before) ≡ paths_of before
paths_up_to zero after before e = refl
paths_up_to (suc i) [] before e = refl
paths_up_to (suc i) (y ∷ ys) [] e = refl
paths_up_to (suc i) (y ∷ ys) (x ∷ xs) e =
    let first : y.path ≡ x.path = head_of y.path x.path (paths_of ys) (paths_of xs) e in
    let rest : paths_of (up_to i ys xs) ≡ paths_of xs = paths_up_to i ys xs (tail_of y.path x.path (paths_of ys) (paths_of xs) e) in
    λ j. first j ∷ rest j

pub as_long : (after before : List FileOf) → paths_of after ≡ paths_of before → length after ≡ length before
as_long [] [] e = refl
as_long [] (x ∷ xs) e = absurd (none_is_some x.path (paths_of xs) (sym e))
as_long (y ∷ ys) [] e = absurd (none_is_some y.path (paths_of ys) e)
as_long (y ∷ ys) (x ∷ xs) e = let rest : length ys ≡ length xs = as_long ys xs (tail_of y.path x.path (paths_of ys) (paths_of xs) e) in omega arith

pub all_after : (after before : List FileOf) → paths_of after ≡ paths_of before → up_to (length after) after before ≡ after
all_after [] [] e = refl
all_after [] (x ∷ xs) e = absurd (none_is_some x.path (paths_of xs) (sym e))
all_after (y ∷ ys) [] e = absurd (none_is_some y.path (paths_of ys) e)
all_after (y ∷ ys) (x ∷ xs) e = ap (λ (l : List FileOf). y ∷ l) (all_after ys xs (tail_of y.path x.path (paths_of ys) (paths_of xs) e))

-- ---- the languages

languages_up_to : (i : ℕ) (after before : List FileOf) → languages_of after ≡ languages_of before → languages_of (up_to i after before) ≡ languages_of before
languages_up_to zero after before e = refl
languages_up_to (suc i) [] before e = refl
languages_up_to (suc i) (y ∷ ys) [] e = refl
languages_up_to (suc i) (y ∷ ys) (x ∷ xs) e =
    let first : y.profile ≡ x.profile = head_of y.profile x.profile (languages_of ys) (languages_of xs) e in
    let rest : languages_of (up_to i ys xs) ≡ languages_of xs = languages_up_to i ys xs (tail_of y.profile x.profile (languages_of ys) (languages_of xs) e) in
    λ j. first j ∷ rest j

-- ---- one file more

-- a file that has the same bytes needs no write
pub same_step : (i : ℕ) (after before : List FileOf) → i < length after → paths_of after ≡ paths_of before
    → languages_of after ≡ languages_of before → (file_at before i).bytes ≡ (file_at after i).bytes → up_to (suc i) after before ≡ up_to i after before
same_step i [] before l e p b = absurd (omega arith)
same_step i (y ∷ ys) [] l e p b = absurd (none_is_some y.path (paths_of ys) e)
same_step zero (y ∷ ys) (x ∷ xs) l e p b = ap (λ (f : FileOf). f ∷ xs) (same_file y x (head_of y.path x.path (paths_of ys) (paths_of xs) e) (sym b) (head_of y.profile x.profile (languages_of ys) (languages_of xs) p))
same_step (suc i) (y ∷ ys) (x ∷ xs) l e p b =
    ap (λ (l : List FileOf). y ∷ l) (same_step i ys xs (omega arith) (tail_of y.path x.path (paths_of ys) (paths_of xs) e) (tail_of y.profile x.profile (languages_of ys) (languages_of xs) p) b)

behind : (f : FileOf) (fs : List FileOf) → IsOrdered (f ∷ fs) → IsOrdered fs
behind f fs o i j d lt within = o (suc i) (suc j) d (omega arith) (omega arith)

-- no file behind the first has its path
apart : (y : FileOf) (ys : List FileOf) (i : ℕ) → IsOrdered (y ∷ ys) → i < length ys → bytes_eq (file_at ys i).path y.path ≡ false
apart y ys i o l =
    let none : FileOf = no_file in
    let before : IsBefore y.path (file_at ys i).path = o 0 (suc i) none (omega arith) (omega arith) in
    go before (bytes_eq (file_at ys i).path y.path) refl
  where
    go : IsBefore y.path (file_at ys i).path → (b : Bool) → bytes_eq (file_at ys i).path y.path ≡ b → bytes_eq (file_at ys i).path y.path ≡ false
    go before true e = absurd (never_before_itself y.path (subst (λ (p : List ℕ). IsBefore y.path p) ((bytes_eq-Decides (file_at ys i).path y.path).0 e) before))
    go before false e = e

-- the file at the place is the first with its path
pub replaced_step : (i : ℕ) (after before : List FileOf) → i < length after → paths_of after ≡ paths_of before → languages_of after ≡ languages_of before → IsOrdered after
    → with_bytes (file_at after i).path (file_at after i).bytes (up_to i after before) ≡ up_to (suc i) after before
replaced_step i [] before l e p o = absurd (omega arith)
replaced_step i (y ∷ ys) [] l e p o = absurd (none_is_some y.path (paths_of ys) e)
replaced_step zero (y ∷ ys) (x ∷ xs) l e p o =
    let same : y.path ≡ x.path = head_of y.path x.path (paths_of ys) (paths_of xs) e in
    let here : bytes_eq y.path x.path ≡ true = (bytes_eq-Decides y.path x.path).1 same in
    let changed : FileOf = record x { bytes = y.bytes } in
    ap (λ (b : Bool). cond b (changed ∷ xs) (x ∷ with_bytes y.path y.bytes xs)) here ∙ ap (λ (f : FileOf). f ∷ xs) (same_file changed y (sym same) refl (sym (head_of y.profile x.profile (languages_of ys) (languages_of xs) p)))
replaced_step (suc i) (y ∷ ys) (x ∷ xs) l e p o =
    let file : FileOf = file_at ys i in
    let differs : bytes_eq file.path y.path ≡ false = apart y ys i o (omega arith) in
    let changed : FileOf = record y { bytes = file.bytes } in
    ap (λ (b : Bool). cond b (changed ∷ up_to i ys xs) (y ∷ with_bytes file.path file.bytes (up_to i ys xs))) differs
    ∙ ap (λ (l : List FileOf). y ∷ l) (replaced_step i ys xs (omega arith) (tail_of y.path x.path (paths_of ys) (paths_of xs) e) (tail_of y.profile x.profile (languages_of ys) (languages_of xs) p) (behind y ys o))

-- the file that is to be replaced is there
pub listed_step : (i : ℕ) (after before : List FileOf) → i < length after → paths_of after ≡ paths_of before → IsSome (bytes_at (file_at after i).path (up_to i after before))
listed_step i [] before l e = absurd (omega arith)
listed_step i (y ∷ ys) [] l e = absurd (none_is_some y.path (paths_of ys) e)
listed_step zero (y ∷ ys) (x ∷ xs) l e =
    let here : bytes_eq y.path x.path ≡ true = (bytes_eq-Decides y.path x.path).1 (head_of y.path x.path (paths_of ys) (paths_of xs) e) in
    ap (λ (b : Bool). is_some (cond b (Some x.bytes) (bytes_at y.path xs))) here
listed_step (suc i) (y ∷ ys) (x ∷ xs) l e =
    go (listed_step i ys xs (omega arith) (tail_of y.path x.path (paths_of ys) (paths_of xs) e)) (bytes_eq (file_at ys i).path y.path)
  where
    go : IsSome (bytes_at (file_at ys i).path (up_to i ys xs)) → (b : Bool) → IsSome (cond b (Some y.bytes) (bytes_at (file_at ys i).path (up_to i ys xs)))
    go rest true = refl
    go rest false = rest

-- ---- what stands at a path

pub between_at : (i : ℕ) (after before : List FileOf) → paths_of after ≡ paths_of before → (path : List ℕ)
    → (bytes_at path (up_to i after before) ≡ bytes_at path before) ⊎ (bytes_at path (up_to i after before) ≡ bytes_at path after)
between_at zero after before e path = inl refl
between_at (suc i) [] before e path = inl refl
between_at (suc i) (y ∷ ys) [] e path = inl refl
between_at (suc i) (y ∷ ys) (x ∷ xs) e path =
    go (head_of y.path x.path (paths_of ys) (paths_of xs) e) (between_at i ys xs (tail_of y.path x.path (paths_of ys) (paths_of xs) e) path) (bytes_eq path y.path) refl
  where
    go : y.path ≡ x.path → (bytes_at path (up_to i ys xs) ≡ bytes_at path xs) ⊎ (bytes_at path (up_to i ys xs) ≡ bytes_at path ys)
        → (b : Bool) → bytes_eq path y.path ≡ b
        → (bytes_at path (y ∷ up_to i ys xs) ≡ bytes_at path (x ∷ xs)) ⊎ (bytes_at path (y ∷ up_to i ys xs) ≡ bytes_at path (y ∷ ys))
    go same rest true e = inr (ap (λ (b : Bool). cond b (Some y.bytes) (bytes_at path (up_to i ys xs))) e ∙ sym (ap (λ (b : Bool). cond b (Some y.bytes) (bytes_at path ys)) e))
    go same rest false e = elim rest [
      | inl h ↦ inl (ap (λ (b : Bool). cond b (Some y.bytes) (bytes_at path (up_to i ys xs))) e ∙ h
          ∙ sym (ap (λ (b : Bool). cond b (Some x.bytes) (bytes_at path xs)) (ap (bytes_eq path) (sym same) ∙ e)))
      | inr h ↦ inr (ap (λ (b : Bool). cond b (Some y.bytes) (bytes_at path (up_to i ys xs))) e ∙ h
          ∙ sym (ap (λ (b : Bool). cond b (Some y.bytes) (bytes_at path ys)) e))
    ]

pub between_up_to : (i : ℕ) (after before : List FileOf) → paths_of after ≡ paths_of before → languages_of after ≡ languages_of before → IsBetween before after (up_to i after before)
between_up_to i after before e l = record { paths = paths_up_to i after before e; languages = languages_up_to i after before l; bytes = between_at i after before e }

pub between_as_before : (before after files : List FileOf) → files ≡ before → IsBetween before after files
between_as_before before after files e = record { paths = ap paths_of e; languages = ap languages_of e; bytes = λ path. inl (ap (bytes_at path) e) }

pub between_as_after : (before after files : List FileOf) → paths_of after ≡ paths_of before → languages_of after ≡ languages_of before → files ≡ after → IsBetween before after files
between_as_after before after files p l e = record { paths = ap paths_of e ∙ p; languages = ap languages_of e ∙ l; bytes = λ path. inr (ap (bytes_at path) e) }
