-- What is found in the options of a file is so in each reading of it.
use Rattle.std.proofs.Common.{◌≡◌, ℕ, Bool, true, false, List, map, Option, Some, None, is_some, refl, sym, ap, subst, ◌∙◌, Contains}
use Rattle.proto_base.proofs.Common.{any_from, both_ways, list_any}
use Rattle.proto_custom_options.specs.CustomOptions.{CustomOf, custom_words, customs_in}
use Rattle.proto_files.proofs.Common.{FileOf, ReadOf, file_at, read_at}
use Rattle.proto_names_imports.proofs.Common.{text_of}
use Rattle.proto_names_rules.proofs.Common.{at}
use Rattle.proto_option_values.proofs.LeastOf.{IsLeast, least_word_is}
use Rattle.proto_option_values.proofs.WordsOfFile.{in_asked}
use Rattle.proto_option_values.specs.FileWords.{HasNoWord, file_word, option_word}
use Rattle.proto_option_values.specs.Extensions.{is_leading}
use Rattle.proto_option_values.specs.OptionValues.{words_asked}
use Rattle.proto_option_values.specs.Words.{asks, least, least_word}
use Rattle.proto_option_values.specs.declared.asked.OptionWords.{OptionWords}
use Rattle.proto_text.proofs.Common.{Lexeme, lexeme_at}

-- ---- where no option has a word

some_here : (test : ℕ → Bool) (ts : List ℕ) (o : Option ℕ) → least_word test ts ≡ o → (t : ℕ) → Contains ts t → test t ≡ true → is_some o ≡ true
some_here test ts None e t c h = absurd (subst (IsLeast (λ s. Contains ts s × (test s ≡ true))) e (least_word_is test ts) t (c, h))
some_here test ts (Some s) e t c h = refl

none_there : (test : ℕ → Bool) (os : List CustomOf) → list_any (λ o. is_some (least_word test (custom_words o.custom))) os ≡ false
    → (o : CustomOf) → Contains os o → (t : ℕ) → Contains (custom_words o.custom) t → test t ≡ true → ⊥
none_there test os h o c t ct is =
    let has : CustomOf → Bool = λ x. is_some (least_word test (custom_words x.custom)) in
    both_ways (list_any has os) h (any_from has os o c (some_here test (custom_words o.custom) (least_word test (custom_words o.custom)) refl t ct is))

module _ (files : List FileOf) (reads : List ReadOf) (file : ℕ) (asked : OptionWords) (words : List Lexeme) (os : List CustomOf)
    (read : words ≡ map (lexeme_at (file_at files file).bytes) (read_at reads file).tokens) (are_all : os ≡ customs_in (read_at reads file).tree) where
  abbrev these : List (List ℕ)
  these = words_asked asked

  pub has_no_word : list_any (λ o. is_some (least_word (asks asked words) (custom_words o.custom))) os ≡ false → HasNoWord files reads these file
  has_no_word h o c t ct word =
      none_there (asks asked words) os h o (subst (λ (xs : List CustomOf). Contains xs o) (sym are_all) c) t ct
      (ap (λ (ls : List Lexeme). asks asked ls t) read ∙ in_asked these (text_of files reads (at file t)) word)

  pub word_read : (l : _) (set : List Bool) → least (λ o. option_word (is_leading l set file) (asks asked words) o.custom) os ≡ file_word l set these files reads file
  word_read l set =
      ap (λ (ls : List Lexeme). least (λ o. option_word (is_leading l set file) (asks asked ls) o.custom) os) read
      ∙ ap (least (λ o. option_word (is_leading l set file) (asks asked (map (lexeme_at (file_at files file).bytes) (read_at reads file).tokens)) o.custom)) are_all
