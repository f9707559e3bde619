-- A file in which no word that is asked for is noted has none.
use Rattle.std.proofs.Common.{◌≡◌, ℕ, Bool, true, false, List, [], ◌∷◌, get_or, Option, Some, None, refl, sym, ap, ◌∙◌, subst, Contains}
use Rattle.proto_base.proofs.Common.{All-contains, any_from, both_ways, cond_both, contains_head, contains_later, contains_map, to_flat_map}
use Rattle.proto_base.specs.Texts.{Text}
use Rattle.proto_base.specs.Words.{word_key}
use Rattle.proto_custom_options.specs.CustomOptions.{custom_words, customs_in}
use Rattle.proto_file_sets.specs.FileSets.{IsIn}
use Rattle.proto_files.proofs.Common.{FileOf, ReadOf, file_at, read_at}
use Rattle.proto_names.proofs.Common.{LinkOf}
use Rattle.proto_names_affected.specs.FirstWords.{first_files}
use Rattle.proto_names_imports.proofs.Common.{text_of}
use Rattle.proto_names_rules.proofs.Common.{at}
use Rattle.proto_option_files.specs.OptionFiles.{AreOptionFiles, file_keys, option_keys}
use Rattle.proto_option_values.proofs.LeastOf.{IsLeast, least_word_is}
use Rattle.proto_option_values.proofs.WordsOfFile.{asked_in}
use Rattle.proto_option_values.specs.Extensions.{is_leading}
use Rattle.proto_option_values.specs.FileWords.{HasNoWord, file_word, option_word}
use Rattle.proto_option_values.specs.Noted.{AreNoted, may_have, sets_of}
use Rattle.proto_option_values.specs.Words.{is_asked, least, least_word, lesser}

least_none : {X : Type 0} (token : X → Option ℕ) (xs : List X) → ((x : X) → Contains xs x → token x ≡ None) → least token xs ≡ None
least_none token [] none = refl
least_none token (x ∷ xs) none = ap (λ o. lesser o (least token xs)) (none x (contains_head x xs)) ∙ least_none token xs (λ y c. none y (contains_later x y xs c))

no_least : (test : ℕ → Bool) (ts : List ℕ) → ((t : ℕ) → Contains ts t → test t ≡ true → ⊥) → least_word test ts ≡ None
no_least test ts none = go (least_word test ts) refl
  where
    go : (o : Option ℕ) → least_word test ts ≡ o → least_word test ts ≡ None
    go None e = e
    go (Some t) e = absurd ((let h = subst (IsLeast (λ s. Contains ts s × (test s ≡ true))) e (least_word_is test ts) in none t h.0.0 h.0.1))

-- the sets of an index are noted for their words
sets_are_noted : (files : List FileOf) (index : List (List Bool)) → AreOptionFiles files index → (these : List Text) → AreNoted files these (sets_of index these)
sets_are_noted files index theirs these file within none reads are o c t ct word =
    let text : ℕ → Text = λ s. text_of files reads (at file s) in
    let key = word_key (text t) in
    let keys = file_keys (file_at files file) (read_at reads file) in
    let there = to_flat_map (option_keys text) (customs_in (read_at reads file).tree) o key c (contains_map (λ s. word_key (text s)) (custom_words o.custom) t ct) in
    let noted = All-contains (λ k. IsIn (first_files index k) file) keys key (theirs.each file within (read_at reads file) (are.trees file within)) there in
    both_ways (may_have (sets_of index these) file) none
    (any_from (λ (set : List Bool). get_or set file false) (sets_of index these) (first_files index key) (contains_map (λ (w : Text). first_files index (word_key w)) these (text t) word) noted)

pub noted_by_index : (fs files : List FileOf) (index sets : List (List Bool)) (these : List Text) → fs ≡ files → sets ≡ sets_of index these → AreOptionFiles files index → AreNoted fs these sets
noted_by_index fs files index sets these same are theirs =
    subst (λ (gs : List FileOf). AreNoted gs these sets) (sym same) (subst (AreNoted files these) (sym are) (sets_are_noted files index theirs these))

-- a file without a word has no least one
pub none_of_file : (files : List FileOf) (reads : List ReadOf) (these : List Text) (file : ℕ) → HasNoWord files reads these file
    → (l : LinkOf) (set : List Bool) → None ≡ file_word l set these files reads file
none_of_file files reads these file none l set =
    let text : ℕ → Text = λ t. text_of files reads (at file t) in
    let test : ℕ → Bool = λ t. is_asked these (text t) in
    sym (least_none (λ o. option_word (is_leading l set file) test o.custom) (customs_in (read_at reads file).tree) (λ o c.
    (let found = least_word test (custom_words o.custom) in
    let nothing : found ≡ None = no_least test (custom_words o.custom) (λ t ct h. none o c t ct (asked_in these (text t) h)) in
    cond_both (is_leading l set file o.custom) found None (λ z. z ≡ None) (λ _. nothing) (λ _. refl))))
