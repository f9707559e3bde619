-- First words of the references of files, some of which are changed.
use Rattle.std.proofs.Common.{◌≡◌, ℕ, suc, ◌<◌, Bool, List, [], ◌∷◌, length, get_or, map, get_or-set_other, sym, ◌∙◌, ap, subst, inl, inr, arith, All}
use Rattle.std.specs.Global.{Vec}
use Rattle.std.proofs.lemmas.Bool.{cases_eq, cases_lt}
use Rattle.std.proofs.lemmas.List.{get_or_past, length-map}
use Rattle.std.proofs.lemmas.List.Elements.{All-nil}
use Rattle.proto_base.specs.Undone.{undone}
use Rattle.proto_base.specs.declared.changes.Change.{Change}
use Rattle.proto_file_sets.specs.FileSets.{IsIn}
use Rattle.proto_names_table.specs.declared.ids.Meant.{Meant}
use Rattle.proto_names_affected.specs.FirstWords.{AreFirstsOf, FirstsStay, HasFirsts, first_files}
use Rattle.proto_names_affected.proofs.WordSets.{has_stays}
use Rattle.proto_names_affected.proofs.Renewing.{before_more, length_before}

-- what each file's references mean
abbrev pub lists_of : List (Vec Meant) → List (List Meant)
lists_of meant = map (λ v. v.items) meant

-- what is known of changed files now, and was known of each before, is known of each now
known_now : (P : ℕ → List Meant → Type 0) (log : List (Change (Vec Meant))) (meant : List (Vec Meant)) (file : ℕ) → All (λ c. P c.place (get_or (lists_of meant) c.place [])) log → P file (get_or (lists_of (undone log meant)) file []) → P file (get_or (lists_of meant) file [])
known_now P [] meant file now was = was
known_now P (c ∷ log) meant file now was = elim (cases_eq file c.place) [
  | inl same ↦ subst (λ n. P n (get_or (lists_of meant) n [])) (sym same) (now 0 c (omega arith))
  | inr apart ↦
      known_now P log meant file (λ k d l. now (suc k) d (omega (arith, l)))
      (subst (P file) (ap (λ (ms : List (List Meant)). get_or ms file []) (before_more c log meant) ∙ get_or-set_other (lists_of (undone log meant)) c.place file c.was.items [] apart) was)
]

-- the file of a change has its first words in the sets
abbrev pub HasOwn : List (List Bool) → List (Vec Meant) → Change (Vec Meant) → Type 0
HasOwn sets meant c = HasFirsts sets c.place (get_or (lists_of meant) c.place [])

pub own_stays : (old new : List (List Bool)) (meant : List (Vec Meant)) → FirstsStay old new → (c : Change (Vec Meant)) → HasOwn old meant c → HasOwn new meant c
own_stays old new meant stay c = has_stays old new stay c.place (get_or (lists_of meant) c.place [])

pub firsts_now : (old new : List (List Bool)) (log : List (Change (Vec Meant))) (meant : List (Vec Meant)) → FirstsStay old new → All (λ set. length set ≡ length meant) new → AreFirstsOf old (lists_of (undone log meant)) → All (HasOwn new meant) log → AreFirstsOf new (lists_of meant)
firsts_now old new log meant stay sized was own = record {
  sized = λ k d l. sized k d l ∙ sym (length-map meant (λ v. v.items));
  each = λ file. known_now (HasFirsts new) log meant file own (has_stays old new stay file (get_or (lists_of (undone log meant)) file []) (was.each file));
}

-- the sets are those of as many files as there are now
pub sized_now : (sets : List (List Bool)) (log : List (Change (Vec Meant))) (meant : List (Vec Meant)) → AreFirstsOf sets (lists_of (undone log meant)) → All (λ set. length set ≡ length meant) sets
sized_now sets log meant are k d l = are.sized k d l ∙ length-map (undone log meant) (λ v. v.items) ∙ length_before log meant

-- the first words of all files, once they are of each there is
pub firsts_of_all : (sets : List (List Bool)) (meant : List (Vec Meant)) (n : ℕ) → (n < length meant → ⊥) → All (λ set. length set ≡ length meant) sets → ((file : ℕ) → file < n → HasFirsts sets file (get_or (lists_of meant) file [])) → AreFirstsOf sets (lists_of meant)
firsts_of_all sets meant n done sized each = record {
  sized = λ k d l. sized k d l ∙ sym (length-map meant (λ v. v.items));
  each = λ file. elim (cases_lt file n) [
    | inl l ↦ each file l
    | inr past ↦ subst (HasFirsts sets file) (sym (get_or_past (lists_of meant) file [] (omega (arith, past, done, length-map meant (λ v. v.items))))) (All-nil (λ (m : Meant). IsIn (first_files sets m.first) file))
  ];
}
