-- The words of a file's options that are asked for are those that the rules mean.
use Rattle.std.proofs.Common.{◌≡◌, ◌↔◌, ℕ, ◌<◌, Bool, true, List, length, Option, Some, None, refl, sym, ap, subst, ◌∙◌, inl, inr, bytes_eq, Contains}
use Rattle.proto_base.proofs.Common.{any_from, any_to, both_ways, cases_Bool, cond-false, cond-true, false≢true, same_from_word, word_from_same}
use Rattle.proto_base.specs.Texts.{Text}
use Rattle.proto_custom_options.specs.CustomOptions.{CustomOf, custom_words, customs_in}
use Rattle.proto_edit_rules.specs.Options.{IsOptionWord}
use Rattle.proto_files.proofs.Common.{FileOf, ReadOf, read_at}
use Rattle.proto_names.proofs.Common.{IsLinkRead, LinkOf}
use Rattle.proto_names_imports.proofs.Common.{IsMarked, link_imports, text_of}
use Rattle.proto_names_rules.proofs.Common.{Leads, at}
use Rattle.proto_option_values.proofs.Declaring.{declared_in, declares}
use Rattle.proto_option_values.proofs.LeastOf.{IsLeast, least_of, least_same, least_word_is}
use Rattle.proto_option_values.specs.Extensions.{extension_file, is_in_set, is_leading}
use Rattle.proto_option_values.specs.FileWords.{file_word, option_word}
use Rattle.proto_option_values.specs.Words.{is_asked, least_word}
use Rattle.proto_tree.specs.declared.tree.Custom.{Custom}

pub asked_in : (these : List Text) (word : Text) → is_asked these word ≡ true → Contains these word
asked_in these word h =
    let x = any_to (bytes_eq word) these h in
    subst (Contains these) (sym (word_from_same word x.0 x.2)) x.1

pub in_asked : (these : List Text) (word : Text) → Contains these word → is_asked these word ≡ true
in_asked these word c = any_from (bytes_eq word) these word c (same_from_word word word refl)

file_in_set : (set : List Bool) (o : Option ℕ) → is_in_set set o ≡ true → (k : ℕ) × (o ≡ Some k) × IsMarked set k
file_in_set set None h = absurd (false≢true h)
file_in_set set (Some k) h = (k, refl, h)

module _ (files : List FileOf) (reads : List ReadOf) (l : LinkOf) (link : IsLinkRead files reads l) (set : List Bool) (target : ℕ) (these : List Text)
    (leading : (from : ℕ) → IsMarked set from ↔ Leads (link_imports files reads) from target) (file : ℕ) (within : file < length files) where
  abbrev test : ℕ → Bool
  test t = is_asked these (text_of files reads (at file t))

  abbrev counts : Custom → Bool
  counts = is_leading l set file

  abbrev options : List CustomOf
  options = customs_in (read_at reads file).tree

  -- it is such a word of this option
  abbrev IsWordOf : CustomOf → ℕ → Type 0
  IsWordOf o t = (counts o.custom ≡ true) × Contains (custom_words o.custom) t × (test t ≡ true)

  option_is : (o : CustomOf) → IsLeast (IsWordOf o) (option_word counts test o.custom)
  option_is o =
      let ts = custom_words o.custom in
      let found = least_word test ts in
      elim (cases_Bool (counts o.custom)) [
        | inl is ↦
            subst (IsLeast (IsWordOf o)) (sym (cond-true (counts o.custom) found None is))
            (least_same (λ t. Contains ts t × (test t ≡ true)) (IsWordOf o) (λ t h. (is, h.0, h.1)) (λ t h. (h.1, h.2)) found (least_word_is test ts))
        | inr not_so ↦ subst (IsLeast (IsWordOf o)) (sym (cond-false (counts o.custom) found None not_so)) (λ t h. both_ways (counts o.custom) not_so h.0)
      ]

  is_meant : (t : ℕ) → (o : CustomOf) × Contains options o × IsWordOf o t → IsOptionWord files reads target these (at file t)
  is_meant t h =
      let o = h.0 in
      let k = file_in_set set (extension_file l file o.custom) h.2.0 in
      let d = declares files reads l link file within o.custom k.0 k.1 in
      record {
        option = o;
        extension = d.0;
        within = h.1;
        stands = h.2.1;
        word = asked_in these (text_of files reads (at file t)) h.2.2;
        declared = d.1;
        means = d.2;
        leads = subst (λ (from : ℕ). Leads (link_imports files reads) from target) (sym d.3) ((leading k.0).0 k.2);
      }

  is_found : (t : ℕ) → IsOptionWord files reads target these (at file t) → (o : CustomOf) × Contains options o × IsWordOf o t
  is_found t w = (
    w.option,
    w.within,
    (
      ap (is_in_set set) (declared_in files reads l link file within w.option.custom w.extension w.declared w.means) ∙ (leading w.extension.file).1 w.leads,
      w.stands,
      in_asked these (text_of files reads (at file t)) w.word,
    ),
  )

  pub file_word_is : IsLeast (λ t. IsOptionWord files reads target these (at file t)) (file_word l set these files reads file)
  file_word_is =
      least_same (λ t. (o : CustomOf) × Contains options o × IsWordOf o t) (λ t. IsOptionWord files reads target these (at file t)) is_meant is_found (file_word l set these files reads file)
      (least_of (λ o. option_word counts test o.custom) IsWordOf options (λ o c. option_is o))
