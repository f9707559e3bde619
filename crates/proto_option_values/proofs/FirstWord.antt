-- The first word of the files in order is the first of all.
use Rattle.std.proofs.Common.{◌≡◌, ◌↔◌, ℕ, ◌<◌, ◌≤◌, Bool, List, length, Option, Some, None, refl, subst, inl, inr, arith, Contains}
use Rattle.proto_base.proofs.Common.{cases_lt, get_or_past}
use Rattle.proto_base.specs.Texts.{Text}
use Rattle.proto_custom_options.specs.CustomOptions.{customs_in}
use Rattle.proto_edit_entries.specs.declared.refusal.Refusal.{Refusal}
use Rattle.proto_edit_entries.specs.declared.refusal.Refusal.TheVariants as refusal
use Rattle.proto_edit_rules.specs.Options.{IsOptionWord}
use Rattle.proto_files.proofs.Common.{AreRead, FileOf, ReadOf}
use Rattle.proto_names.proofs.Common.{IsLinkRead, LinkOf}
use Rattle.proto_names_imports.proofs.Common.{IsMarked, link_imports}
use Rattle.proto_names_rules.proofs.Common.{At, Leads, at}
use Rattle.proto_option_values.proofs.LeastOf.{IsLeast}
use Rattle.proto_option_values.proofs.WordsOfFile.{file_word_is}
use Rattle.proto_option_values.specs.FileWords.{HasNoWord, IsFirstFrom, file_word}
use Rattle.proto_option_values.specs.OptionValues.{IsFirstOf, IsOptionPlace, IsOptionValue}
use Rattle.proto_option_values.specs.declared.first.WordAt.{WordAt}

module _ (files : List FileOf) (reads : List ReadOf) (are : AreRead files reads) (target : ℕ) (these : List Text) where
  abbrev IsWord : At → Type 0
  IsWord a = IsOptionWord files reads target these a

  -- it stands in a file
  inside : (a : At) → IsWord a → a.file < length files
  inside a w = elim (cases_lt a.file (length files)) [
    | inl lt ↦ lt
    | inr le ↦
        let past : length reads ≤ a.file = omega (arith, le, are.same) in
        let c = subst (λ (r : ReadOf). Contains (customs_in r.tree) w.option) (get_or_past reads a.file _ past) w.within in
        omega (arith, c.1)
  ]

  abbrev HasNone : ℕ → Type 0
  HasNone file = HasNoWord files reads these file

  none_in : (a : At) → IsWord a → HasNone a.file → ⊥
  none_in a w none = none w.option w.within a.token w.stands w.word

  -- where no file has a word
  pub none_of_all : ((file : ℕ) → file < length files → HasNone file) → IsFirstOf IsWord None
  none_of_all none = λ a w. none_in a w (none a.file (inside a w))

  module _ (l : LinkOf) (link : IsLinkRead files reads l) (set : List Bool) (leading : (from : ℕ) → IsMarked set from ↔ Leads (link_imports files reads) from target)
      (start : ℕ) (none : (file : ℕ) → file < start → HasNone file) where
    abbrev word : ℕ → Option ℕ
    word = file_word l set these files reads

    word_is : (file : ℕ) → file < length files → (o : Option ℕ) → word file ≡ o → IsLeast (λ t. IsWord (at file t)) o
    word_is file within o e = subst (IsLeast (λ t. IsWord (at file t))) e (file_word_is files reads l link set target these leading file within)

    -- there is none in a file before some, where none of these has one
    none_before : (end : ℕ) → ((file : ℕ) → start ≤ file → file < end → word file ≡ None) → (a : At) → a.file < end → IsWord a → ⊥
    none_before end without a lt w = elim (cases_lt a.file start) [
      | inl early ↦ none_in a w (none a.file early)
      | inr late ↦ word_is a.file (inside a w) None (without a.file late lt) a.token w
    ]

    pub first_is : (first : Option WordAt) → IsFirstFrom word start (length files) first → IsFirstOf IsWord first
    first_is None h = λ a w. none_before (length files) h a (inside a w) w
    first_is (Some w) h =
        let one = word_is w.file h.1 (Some w.token) h.2 in (
          one.0,
          λ b is before. elim before [
            | inl lt ↦ none_before w.file h.3 b lt is
            | inr same ↦ one.1 b.token same.1 (subst (λ (f : ℕ). IsWord (at f b.token)) same.0 is)
          ],
        )

-- ---- an answer

pub none_found : (o : Option ℕ) → ((t : ℕ) → o ≡ Some t → ⊥) → o ≡ None
none_found None h = refl
none_found (Some t) h = absurd (h t refl)

pub refused : (files : List FileOf) (reads : List ReadOf) (Holds : At → Type 0) (w : WordAt) (r : Refusal) → IsFirstOf Holds (Some w) → IsOptionPlace files reads w r → IsOptionValue files reads Holds (Some r)
refused files reads Holds w (refusal.OptionValue path offset) h place = record { a = at w.file w.token; holds = h.0; least = h.1; path_is = place.0; offset_is = place.1 }
refused files reads Holds w _ h place = absurd place
