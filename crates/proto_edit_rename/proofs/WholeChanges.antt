-- The changes of the files that a rename may change are all changes.
use Rattle.std.proofs.Common.{◌≡◌, ℕ, zero, suc, ◌+◌, ◌<◌, Bool, false, List, [], ◌∷◌, ◌++◌, All, cond, filter, flat_map, length, get_or, map, take, Option, None, refl, ap, ap₂, subst, ◌∙◌, inl, inr, arith, option_to_list}
use Rattle.std.specs.List.{range_with_len}
use Rattle.proto_base.proofs.Common.{All-contains, cases_Bool}
use Rattle.std.proofs.lemmas.List.Elements.{All-more}
use Rattle.proto_base.proofs.Turns.{added_more}
use Rattle.proto_file_sets.specs.FileSets.{files_in}
use Rattle.proto_file_sets.proofs.Members.{file_is_listed}
use Rattle.proto_text.specs.Texts.{token_edits}
use Rattle.proto_files.proofs.Common.{ReadOf, AreRead, read_at, FileOf, file_at}
use Rattle.proto_names_rules.proofs.Edited.{map_append}
use Rattle.proto_edit_entries.specs.Entries.{ChangeOf, change_of}
use Rattle.proto_edit_entries.specs.declared.entry.Change.{Change}
use Rattle.proto_edit_rename_laws.proofs.Common.{IsRewordedTooLong, change_by, changes_from, changes_of_words, splices_in, NewWords, words_of_file}
use Rattle.proto_edit_rename.specs.Common.{IsFileChange, AreWholeChanges}

-- ---- what is added for each file of a set

-- what the others add nothing to is what all add
added_by_all : (f : ℕ → List ChangeOf) (p : ℕ → Bool) (a n : ℕ) → ((k : ℕ) → k < a + n → p k ≡ false → [] ≡ f k) → flat_map f (filter p (range_with_len a n)) ≡ flat_map f (range_with_len a n)
added_by_all f p a zero none = refl
added_by_all f p a (suc n) none =
    let rest = range_with_len (a + 1) n in
    let same = added_by_all f p (a + 1) n (λ k l off. none k (omega (arith, l)) off) in
    elim (cases_Bool (p a)) [
      | inl on ↦ ap (λ b. flat_map f (cond b (a ∷ filter p rest) (filter p rest))) on ∙ ap (λ cs. f a ++ cs) same
      | inr off ↦
          ap (λ b. flat_map f (cond b (a ∷ filter p rest) (filter p rest))) off
          ∙ same
          ∙ ap (λ cs. cs ++ flat_map f rest) (none a (omega arith) off)
    ]

added_by_files : (f : ℕ → List ChangeOf) (set : List Bool) → ((k : ℕ) → k < length set → get_or set k false ≡ false → [] ≡ f k) → flat_map f (files_in set) ≡ flat_map f (range_with_len 0 (length set))
unfolding files_in
added_by_files f set none = added_by_all f (λ file. get_or set file false) 0 (length set) (λ k l off. none k (omega (arith, l)) off)

-- ---- the changes of files

module _ (c : NewWords) where
  -- the change of the file with this number
  abbrev pub change_at : List FileOf → List ReadOf → ℕ → List ChangeOf
  change_at files reads k = change_by (file_at files k) (splices_in c files reads k)

  -- the change of a file of these, which are numbered from another one on
  abbrev nth : ℕ → List FileOf → List ReadOf → ℕ → List ChangeOf
  nth number fs rs k = change_by (file_at fs k) (token_edits (file_at fs k).bytes (words_of_file c number) 0 (read_at rs k).tokens)

  changes_on : (f : ℕ → List ChangeOf) (m : ℕ) (fs : List FileOf) (rs : List ReadOf) → length rs ≡ length fs → ((k : ℕ) → k < length fs → f (m + k) ≡ nth (m + k) fs rs k) → flat_map f (range_with_len m (length fs)) ≡ changes_from c m fs rs
  changes_on f m [] rs l same = refl
  changes_on f m (x ∷ fs) [] l same = absurd (omega (arith, l))
  changes_on f m (x ∷ fs) (r ∷ rs) l same =
      let here : m + 0 ≡ m = omega arith in
      let next : m + 1 ≡ suc m = omega arith in
      ap₂ (λ (xs ys : List ChangeOf). xs ++ ys)
      (subst (λ n. f n ≡ nth n (x ∷ fs) (r ∷ rs) 0) here (same 0 (omega arith)))
      (ap (λ n. flat_map f (range_with_len n (length fs))) next
      ∙ changes_on f (suc m) fs rs (omega (arith, l)) (λ k lt.
      let on : m + suc k ≡ suc m + k = omega arith in
      subst (λ n. f n ≡ nth n fs rs k) on (same (suc k) (omega (arith, lt)))))

  all_changes : (files : List FileOf) (reads : List ReadOf) → AreRead files reads → flat_map (change_at files reads) (range_with_len 0 (length files)) ≡ changes_of_words c files reads
  all_changes files reads r = changes_on (change_at files reads) 0 files reads r.same (λ k _.
      let same : 0 + k ≡ k = omega arith in
      ap (λ n. change_by (file_at files n) (token_edits (file_at files n).bytes (words_of_file c (0 + k)) 0 (read_at reads n).tokens)) same)

-- ---- as the files are gone through

-- the changes of these files, none of which gets too long
pub record AreChangesAt (files : List FileOf) (reads : List ReadOf) (c : NewWords) (listed : List ℕ) (cs : List ChangeOf) : Type 0 where
  pub changes : cs ≡ flat_map (change_at c files reads) listed
  pub short : All (λ k. IsRewordedTooLong c files reads k → ⊥) listed

pub more_changes : (files : List FileOf) (reads : List ReadOf) (c : NewWords) (listed : List ℕ) (i : ℕ) → i < length listed → (items more : List Change) (found : Option Change) → AreChangesAt files reads c (take i listed) (map change_of items) → more ≡ items ++ option_to_list found
    → IsFileChange files reads c (get_or listed i 0) found → AreChangesAt files reads c (take (i + 1) listed) (map change_of more)
more_changes files reads c listed i lt items more found h pushed made = record {
  changes = added_more (change_at c files reads) listed i (get_or listed i 0) 0 [] (map change_of items) (map change_of more) lt refl
      (ap (map change_of) pushed ∙ map_append change_of items (option_to_list found) ∙ ap (λ (cs : List ChangeOf). map change_of items ++ cs) made.change)
      h.changes;
  short = All-more (λ k. IsRewordedTooLong c files reads k → ⊥) listed i 0 lt h.short made.short;
}

-- the files that are gone through are those of a set, and no other is changed
pub whole_changes : (files : List FileOf) (reads : List ReadOf) → AreRead files reads → (c : NewWords) (set : List Bool) → length set ≡ length files → ((k : ℕ) → k < length files → get_or set k false ≡ false → IsFileChange files reads c k None)
    → (cs : List ChangeOf) → AreChangesAt files reads c (files_in set) cs → AreWholeChanges files reads c cs
whole_changes files reads r c set as_many others cs h = record {
  changes =
      h.changes
      ∙ added_by_files (change_at c files reads) set (λ k l off. (others k (omega (arith, l, as_many)) off).change)
      ∙ ap (λ n. flat_map (change_at c files reads) (range_with_len 0 n)) as_many
      ∙ all_changes c files reads r;
  short = λ k l. elim (cases_Bool (get_or set k false)) [
    | inl on ↦ All-contains (λ n. IsRewordedTooLong c files reads n → ⊥) (files_in set) k h.short (file_is_listed set k (omega (arith, l, as_many)) on)
    | inr off ↦ (others k l off).short
  ];
}
