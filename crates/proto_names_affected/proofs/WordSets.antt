-- Sets of files by the first words of their references (for the crates above).
use Rattle.std.proofs.Common.{◌≡◌, ℕ, ◌<◌, ◌≤◌, Bool, true, false, List, [], length, get_or, length-set, slice_set, get_or-set_same, get_or-set_other, refl, sym, ◌∙◌, ap, subst, inl, inr, arith, All}
use Rattle.std.specs.List.{Contains}
use Rattle.std.proofs.lemmas.Bool.{cases_eq, cases_lt}
use Rattle.std.proofs.lemmas.List.{get_or_default, get_or_past}
use Rattle.std.proofs.lemmas.List.Elements.{All-contains, All-weaker}
use Rattle.proto_file_sets.specs.FileSets.{IsIn}
use Rattle.proto_file_sets.proofs.Members.{inserted_is_in}
use Rattle.proto_names_table.specs.declared.ids.Meant.{Meant}
use Rattle.proto_names_affected.specs.FileMeanings.{place_of}
use Rattle.proto_names_affected.specs.FirstWords.{AreFirstSets, AreFirstsOf, FirstsStay, HasFirsts, first_files}
use Rattle.proto_names_affected.specs.Marking.{MarksStay}
use Rattle.proto_names_affected.proofs.Inserted.{inserted_stay}
use Rattle.proto_names_affected.proofs.Marks.{stay_more, stay_same}

-- ---- sets that stay

pub firsts_same : (sets : List (List Bool)) → FirstsStay sets sets
firsts_same sets = record { count = refl; each = λ place. stay_same (get_or sets place []) }

pub firsts_more : (a b c : List (List Bool)) → FirstsStay a b → FirstsStay b c → FirstsStay a c
firsts_more a b c p q = record {
  count = q.count ∙ p.count;
  each = λ place. stay_more (get_or a place []) (get_or b place []) (get_or c place []) (p.each place) (q.each place);
}

module _ (old new : List (List Bool)) (stay : FirstsStay old new) where
  -- a file stays in the set of a key
  pub first_stays : (key file : ℕ) → IsIn (first_files old key) file → IsIn (first_files new key) file
  first_stays key file is = ap (λ n. get_or (get_or new (place_of n key) []) file false) stay.count ∙ (stay.each (place_of (length old) key)).set file is

  pub has_stays : (file : ℕ) (ms : List Meant) → HasFirsts old file ms → HasFirsts new file ms
  has_stays file = All-weaker (λ (m : Meant). IsIn (first_files old m.first) file) (λ (m : Meant). IsIn (first_files new m.first) file) (λ m h. first_stays m.first file h)

  size_stays : (k : ℕ) (d : List Bool) → k < length new → length (get_or new k d) ≡ length (get_or old k [])
  size_stays k d l = ap length (get_or_default new k d [] l) ∙ (stay.each k).count

  pub sizes_stay : (n : ℕ) → All (λ set. length set ≡ n) old → All (λ set. length set ≡ n) new
  sizes_stay n sized k d l = size_stays k d l ∙ sized k [] (omega (arith, l, stay.count))

  pub within_stays : (file : ℕ) → All (λ set. file < length set) old → All (λ set. file < length set) new
  within_stays file within k d l = (let was = within k [] (omega (arith, l, stay.count)) in omega (arith, was, size_stays k d l))

  pub sets_stay : AreFirstSets old → AreFirstSets new
  sets_stay are = record {
    some = omega (arith, are.some, stay.count);
    few = λ k d l. (let few = are.few k [] (omega (arith, l, stay.count)) in omega (arith, few, size_stays k d l));
  }

  pub are_still : (meant : List (List Meant)) → AreFirstsOf old meant → AreFirstsOf new meant
  are_still meant are = record { sized = sizes_stay (length meant) are.sized; each = λ file. has_stays file (get_or meant file []) (are.each file) }

-- ---- a file more in a set

module _ (sets : List (List Bool)) (place file : ℕ) (there : place < length sets) where
  abbrev own : List Bool
  own = slice_set (get_or sets place []) file true

  abbrev now : List (List Bool)
  now = slice_set sets place own

  stays_at : (other : ℕ) → MarksStay (get_or sets other []) (get_or now other [])
  stays_at other = elim (cases_eq other place) [
    | inl same ↦
        subst (λ n. MarksStay (get_or sets n []) (get_or now n [])) (sym same)
        (subst (MarksStay (get_or sets place [])) (sym (get_or-set_same sets place own [] there)) (inserted_stay (get_or sets place []) own file refl))
    | inr apart ↦ subst (MarksStay (get_or sets other [])) (sym (get_or-set_other sets place other own [] apart)) (stay_same (get_or sets other []))
  ]

  pub added_stay : FirstsStay sets now
  added_stay = record { count = length-set sets place own; each = stays_at }

  pub added_in : (key : ℕ) → place ≡ place_of (length sets) key → file < length (get_or sets place []) → IsIn (first_files now key) file
  added_in key is within =
      ap (λ n. get_or (get_or now (place_of n key) []) file false) (length-set sets place own)
      ∙ ap (λ p. get_or (get_or now p []) file false) (sym is)
      ∙ ap (λ (set : List Bool). get_or set file false) (get_or-set_same sets place own [] there)
      ∙ inserted_is_in (get_or sets place []) file within

-- ---- the files of a key

module _ (sets : List (List Bool)) (meant : List (List Meant)) (are : AreFirstsOf sets meant) where
  pub files_short : (key : ℕ) → length (first_files sets key) ≤ length meant
  files_short key = elim (cases_lt (place_of (length sets) key) (length sets)) [
    | inl l ↦ omega (arith, are.sized (place_of (length sets) key) [] l)
    | inr past ↦ omega (arith, ap length (get_or_past sets (place_of (length sets) key) [] past))
  ]

  -- a file with a reference that begins with a word of the key is among them
  pub is_among : (file key : ℕ) (m : Meant) → Contains (get_or meant file []) m → m.first ≡ key → IsIn (first_files sets key) file
  is_among file key m has is =
      subst (λ k. IsIn (first_files sets k) file) is
      (All-contains (λ (m : Meant). IsIn (first_files sets m.first) file) (get_or meant file []) m (are.each file) has)
