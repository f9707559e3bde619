-- Files with other texts at some places: which file stands where, and the way back.
use Rattle.std.proofs.Common.{◌≡◌, ℕ, zero, suc, ◌+◌, ◌<◌, ◌≤◌, List, [], ◌∷◌, ◌++◌, length, get_or, refl, sym, ap, ◌∙◌, subst, inl, inr, ◌⊎◌, arith, All, AllPairs, slice_set, get_or-set_same, get_or-set_other}
use Rattle.std.proofs.lemmas.List.{length-set, set-set, set-get_or}
use Rattle.proto_base.proofs.Common.{cases_eq, get_or_append_left, get_or_default, length_push, Text}
use Rattle.proto_files.proofs.Common.{FileOf, file_at, AreWorkspaceFiles, IsBefore, IsWorkspacePath}
use Rattle.proto_files.proofs.Members.{Member, All-member}
use Rattle.proto_edit_entries.specs.Putting.{with_texts}
use Rattle.proto_desc.specs.NewTexts.{IsReadText, TextAt, texts_at, file_with, with_text, with_all, with_old}
use Rattle.proto_files.specs.GivenFiles.{no_file}
use Rattle.proto_desc.specs.declared.texts.ReadText.{ReadText}
use Rattle.proto_tree.proofs.Common.{ReadsIn, tree_of_file}
use Rattle.proto_base.specs.declared.profile.Profile.{Profile}

-- ---- texts with their places

pub with_texts_at : (files : List FileOf) (ps : List ℕ) (ts : List Text) → with_all files (texts_at ps ts) ≡ with_texts files ps ts
with_texts_at files [] ts = refl
with_texts_at files (p ∷ ps) [] = refl
with_texts_at files (p ∷ ps) (t ∷ ts) = with_texts_at (with_text files (record { place = p; text = t })) ps ts

pub length-texts_at : (ps : List ℕ) (ts : List Text) → length ts ≡ length ps → length (texts_at ps ts) ≡ length ps
length-texts_at [] ts e = refl
length-texts_at (p ∷ ps) [] e = absurd (omega (arith, e))
length-texts_at (p ∷ ps) (t ∷ ts) e = ap suc (length-texts_at ps ts (omega (arith, e)))

pub no_texts : (ps : List ℕ) → texts_at ps [] ≡ []
no_texts [] = refl
no_texts (p ∷ ps) = refl

-- one text more, where there are more places
pub one_more_text : (ps : List ℕ) (ts : List Text) (p : ℕ) (t : Text) → length ts < length ps → p ≡ get_or ps (length ts) p → texts_at ps (ts ++ t ∷ []) ≡ texts_at ps ts ++ record { place = p; text = t } ∷ []
one_more_text [] ts p t l e = absurd (omega (arith, l))
one_more_text (q ∷ ps) [] p t l e =
    ap (λ (more : List TextAt). record { place = q; text = t } ∷ more) (no_texts ps) ∙ ap (λ (n : ℕ). record { place = n; text = t } ∷ []) (sym e)
one_more_text (q ∷ ps) (u ∷ ts) p t l e =
    ap (λ (more : List TextAt). record { place = q; text = u } ∷ more) (one_more_text ps ts p t (omega (arith, l)) e)

-- ---- places that rise

-- the places are those of files, and each is before those behind it
abbrev pub AreInPlace : ℕ → List TextAt → Type 0
AreInPlace n [] = Unit {0}
AreInPlace n (t ∷ ts) = (t.place < n) × ((u : TextAt) → Member u ts → t.place < u.place) × AreInPlace n ts

place_of_text : (ps : List ℕ) (ts : List Text) (u : TextAt) → Member u (texts_at ps ts) → Member u.place ps
place_of_text [] ts u m = absurd m
place_of_text (p ∷ ps) [] u m = absurd m
place_of_text (p ∷ ps) (t ∷ ts) u (inl e) = inl (ap (λ (x : TextAt). x.place) e)
place_of_text (p ∷ ps) (t ∷ ts) u (inr m) = inr (place_of_text ps ts u m)

pub in_place : (n : ℕ) (ps : List ℕ) (ts : List Text) → All (λ p. p < n) ps → AllPairs (λ a b. a < b) ps → AreInPlace n (texts_at ps ts)
in_place n [] ts within rising = tt
in_place n (p ∷ ps) [] within rising = tt
in_place n (p ∷ ps) (t ∷ ts) within rising = (
  within 0 p (omega arith),
  (λ u m. All-member (λ (q : ℕ). p < q) ps u.place (λ k d l. rising 0 (suc k) d (omega arith) (omega (arith, l))) (place_of_text ps ts u m)),
  in_place n ps ts (λ k d l. within (suc k) d (omega (arith, l))) (λ i j d before l. rising (suc i) (suc j) d (omega (arith, before)) (omega (arith, l))),
)

few_from : (m n : ℕ) (ps : List ℕ) → m ≤ n → All (λ p. m ≤ p) ps → All (λ p. p < n) ps → AllPairs (λ a b. a < b) ps → length ps + m ≤ n
few_from m n [] le from within rising = omega (arith, le)
few_from m n (p ∷ ps) le from within rising =
    let low : m ≤ p = from 0 p (omega arith) in
    let high : p < n = within 0 p (omega arith) in
    let more : length ps + suc p ≤ n =
    few_from (suc p) n ps (omega (arith, high))
    (λ k d l. let up : p < get_or ps k d = rising 0 (suc k) d (omega arith) (omega (arith, l)) in omega (arith, up))
    (λ k d l. within (suc k) d (omega (arith, l)))
    (λ i j d before l. rising (suc i) (suc j) d (omega (arith, before)) (omega (arith, l))) in
    omega (arith, low, more)

-- there are no more of them than files
pub few_places : (n : ℕ) (ps : List ℕ) → All (λ p. p < n) ps → AllPairs (λ a b. a < b) ps → length ps ≤ n
few_places n ps within rising =
    let le : length ps + 0 ≤ n = few_from 0 n ps (omega arith) (λ k d l. omega arith) within rising in omega (arith, le)

-- ---- the files with the texts

pub length-with_text : (files : List FileOf) (t : TextAt) → length (with_text files t) ≡ length files
length-with_text files t = length-set files t.place (file_with files t)

pub length-with_all : (files : List FileOf) (ts : List TextAt) → length (with_all files ts) ≡ length files
length-with_all files [] = refl
length-with_all files (t ∷ ts) = length-with_all (with_text files t) ts ∙ length-with_text files t

-- another file stays
other_file : (files : List FileOf) (t : TextAt) (k : ℕ) (d : FileOf) → (k ≡ t.place → ⊥) → get_or (with_text files t) k d ≡ get_or files k d
other_file files t k d apart = get_or-set_other files t.place k (file_with files t) d apart

-- paths stay
path_of_file : (files : List FileOf) (t : TextAt) → t.place < length files → (k : ℕ) (d : FileOf) → (get_or (with_text files t) k d).path ≡ (get_or files k d).path
path_of_file files t within k d = elim (cases_eq k t.place) [
  | inl e ↦
      ap (λ n. (get_or (with_text files t) n d).path) e
      ∙ ap (λ (g : FileOf). g.path) (get_or-set_same files t.place (file_with files t) d within)
      ∙ ap (λ (g : FileOf). g.path) (get_or_default files t.place no_file d within)
      ∙ ap (λ n. (get_or files n d).path) (sym e)
  | inr apart ↦ ap (λ (g : FileOf). g.path) (other_file files t k d apart)
]

-- languages stay
profile_set : (files : List FileOf) (p k : ℕ) (f d : FileOf) → f.profile ≡ (file_at files p).profile → (get_or (slice_set files p f) k d).profile ≡ (get_or files k d).profile
profile_set [] p k f d e = refl
profile_set (x ∷ files) zero zero f d e = e
profile_set (x ∷ files) zero (suc k) f d e = refl
profile_set (x ∷ files) (suc p) zero f d e = refl
profile_set (x ∷ files) (suc p) (suc k) f d e = profile_set files p k f d e

profile_of_file : (files : List FileOf) (t : TextAt) (k : ℕ) (d : FileOf) → (get_or (with_text files t) k d).profile ≡ (get_or files k d).profile
profile_of_file files t k d = profile_set files t.place k (file_with files t) d refl

pub profile_stays : (files : List FileOf) (ts : List TextAt) (k : ℕ) (d : FileOf) → (get_or (with_all files ts) k d).profile ≡ (get_or files k d).profile
profile_stays files [] k d = refl
profile_stays files (t ∷ ts) k d = profile_stays (with_text files t) ts k d ∙ profile_of_file files t k d

pub profile_of_text : (files next : List FileOf) (t : TextAt) (k : ℕ) → next ≡ with_text files t → (file_at next k).profile ≡ (file_at files k).profile
profile_of_text files next t k e = ap (λ (fs : List FileOf). (file_at fs k).profile) e ∙ profile_of_file files t k no_file

-- two files of one path and one language, with one text
with_its_text : (f g : FileOf) (text : Text) → f.path ≡ g.path → f.profile ≡ g.profile → record f { bytes = text } ≡ record g { bytes = text }
with_its_text f g text p l = λ i. record { path = p i; bytes = text; profile = l i }

-- what is read of a text is so while the languages stay
pub still_read : (files now : List FileOf) (t : ReadText) → ((k : ℕ) → (file_at now k).profile ≡ (file_at files k).profile) → IsReadText files t → IsReadText now t
still_read files now t same h = subst (λ (p : Profile). ReadsIn p t.source t.tokens.items (tree_of_file t.tree)) (sym (same t.place)) h

-- the texts lie at places of the files that have one text more
still_in_place : (files : List FileOf) (t : TextAt) (ts : List TextAt) → AreInPlace (length files) ts → AreInPlace (length (with_text files t)) ts
still_in_place files t ts h = subst (λ (n : ℕ). AreInPlace n ts) (sym (length-with_text files t)) h

pub path_stays : (files : List FileOf) (ts : List TextAt) → AreInPlace (length files) ts → (k : ℕ) (d : FileOf) → (get_or (with_all files ts) k d).path ≡ (get_or files k d).path
path_stays files [] h k d = refl
path_stays files (t ∷ ts) h k d = path_stays (with_text files t) ts (still_in_place files t ts h.2) k d ∙ path_of_file files t h.0 k d

pub workspace_stays : (files : List FileOf) (ts : List TextAt) → AreInPlace (length files) ts → AreWorkspaceFiles files → AreWorkspaceFiles (with_all files ts)
workspace_stays files ts h w =
    let len : length (with_all files ts) ≡ length files = length-with_all files ts in
    record {
      few = omega (arith, w.few, len);
      named = λ k d l. subst IsWorkspacePath (sym (path_stays files ts h k d)) (w.named k d (omega (arith, l, len)));
      ordered = λ i j d before l.
          subst (λ p. IsBefore p (get_or (with_all files ts) j d).path) (sym (path_stays files ts h i d))
          (subst (λ p. IsBefore (get_or files i d).path p) (sym (path_stays files ts h j d)) (w.ordered i j d before (omega (arith, l, len))));
    }

-- a file at no place of a text stays
pub file_stays : (files : List FileOf) (ts : List TextAt) (k : ℕ) (d : FileOf) → ((t : TextAt) → Member t ts → k ≡ t.place → ⊥) → get_or (with_all files ts) k d ≡ get_or files k d
file_stays files [] k d none = refl
file_stays files (t ∷ ts) k d none = file_stays (with_text files t) ts k d (λ u m. none u (inr m)) ∙ other_file files t k d (none t (inl refl))

-- a file at the place of a text has it
pub file_has : (files : List FileOf) (ts : List TextAt) → AreInPlace (length files) ts → (t : TextAt) → Member t ts → file_at (with_all files ts) t.place ≡ file_with files t
file_has files [] h t m = absurd m
file_has files (u ∷ ts) h t (inl e) =
    subst (λ (x : TextAt). file_at (with_all (with_text files u) ts) x.place ≡ file_with files x) e
    (file_stays (with_text files u) ts u.place no_file (λ v m same. let up : u.place < v.place = h.1 v m in omega (arith, up, same))
    ∙ get_or-set_same files u.place (file_with files u) no_file h.0)
file_has files (u ∷ ts) h t (inr m) =
    file_has (with_text files u) ts (still_in_place files u ts h.2) t m
    ∙ with_its_text (file_at (with_text files u) t.place) (file_at files t.place) t.text (path_of_file files u h.0 t.place no_file) (profile_of_file files u t.place no_file)

-- whether a place is that of a text
pub place_cases : (k : ℕ) (ts : List TextAt) → ((t : TextAt) × Member t ts × (k ≡ t.place)) ⊎ ((t : TextAt) → Member t ts → k ≡ t.place → ⊥)
place_cases k [] = inr (λ t m e. absurd m)
place_cases k (u ∷ ts) = elim (cases_eq k u.place) [
  | inl e ↦ inl (u, inl refl, e)
  | inr apart ↦ elim (place_cases k ts) [
    | inl more ↦ inl (more.0, inr more.1, more.2)
    | inr none ↦ inr (none_of apart none)
  ]
]
  where
    none_of : (k ≡ u.place → ⊥) → ((t : TextAt) → Member t ts → k ≡ t.place → ⊥) → (t : TextAt) → Member t (u ∷ ts) → k ≡ t.place → ⊥
    none_of apart none t (inl e) same = apart (same ∙ ap (λ (x : TextAt). x.place) (sym e))
    none_of apart none t (inr m) same = none t m same

-- what holds of the files and of the texts holds of the files with them
pub each_has : (P : FileOf → Type 0) (files : List FileOf) (ts : List TextAt) → AreInPlace (length files) ts → ((k : ℕ) → k < length files → P (file_at files k)) → ((t : TextAt) → Member t ts → P (file_with files t)) → (k : ℕ) → k < length (with_all files ts) → P (file_at (with_all files ts) k)
each_has P files ts h old new k l = elim (place_cases k ts) [
  | inl at ↦
      subst (λ (n : ℕ). P (file_at (with_all files ts) n)) (sym at.2)
      (subst P (sym (file_has files ts h at.0 at.1)) (new at.0 at.1))
  | inr none ↦ subst P (sym (file_stays files ts k no_file none)) (old k (omega (arith, l, length-with_all files ts)))
]

-- ---- one after the other, and back

pub with_more : (files : List FileOf) (ts : List TextAt) (t : TextAt) → with_all files (ts ++ t ∷ []) ≡ with_text (with_all files ts) t
with_more files [] t = refl
with_more files (u ∷ ts) t = with_more (with_text files u) ts t

pub with_older : (old : List TextAt) (t : TextAt) (files : List FileOf) → with_old (old ++ t ∷ []) files ≡ with_old old (with_text files t)
with_older [] t files = refl
with_older (u ∷ old) t files = ap (λ (fs : List FileOf). with_text fs u) (with_older old t files)

pub length-with_old : (old : List TextAt) (files : List FileOf) → length (with_old old files) ≡ length files
length-with_old [] files = refl
length-with_old (u ∷ old) files = length-with_text (with_old old files) u ∙ length-with_old old files

-- a text, and what stood there before
pub text_and_back : (files : List FileOf) (t : TextAt) → t.place < length files → with_text (with_text files t) (record { place = t.place; text = (file_at files t.place).bytes }) ≡ files
text_and_back files t within =
    let p = t.place in
    let was = file_at files p in
    set-set files p (file_with files t) (file_with (with_text files t) (record { place = p; text = was.bytes }))
    ∙ ap (slice_set files p) (with_its_text (file_at (with_text files t) p) was was.bytes (path_of_file files t within p no_file) (profile_of_file files t p no_file))
    ∙ set-get_or files p no_file

-- ---- the last of a list

last_at : {X : Type 0} (xs : List X) (x d : X) → get_or (xs ++ x ∷ []) (length xs) d ≡ x
last_at [] x d = refl
last_at (y ∷ xs) x d = last_at xs x d

-- what holds of all holds of the last, and of those before it
pub all_but_last : {X : Type 0} (P : X → Type 0) (whole xs : List X) (x : X) → whole ≡ xs ++ x ∷ [] → All P whole → All P xs × P x
all_but_last P whole xs x e h = (
  (λ k d l. subst P (get_or_append_left xs (x ∷ []) d k l) (subst (λ ys. All P ys) e h k d (omega (arith, l, length_push xs x)))),
  subst P (last_at xs x x) (subst (λ ys. All P ys) e h (length xs) x (omega (arith, length_push xs x))),
)
