-- The tokens found file by file are all tokens that a rename changes.
use Rattle.std.proofs.Common.{◌≡◌, ◌↔◌, ℕ, suc, ◌+◌, ◌<◌, ◌==◌, false, if◌then◌else◌, List, [], ◌∷◌, ◌++◌, length, Option, Some, None, refl, sym, ap, subst, ◌∙◌, inl, inr, arith, option_to_list, append-nil, Contains, eq-eqb, ne_eqb, true≢false}
use Rattle.std.specs.List.{All, AllPairs}
use Rattle.std.proofs.lemmas.Bool.{cases_lt}
use Rattle.std.proofs.lemmas.List.Elements.{All-push}
use Rattle.std.proofs.lemmas.List.Quantifiers.{all_pairs_push}
use Rattle.proto_base.proofs.Common.{cond-true, cond-false}
use Rattle.proto_files.proofs.Common.{ReadOf, AreRead, FileOf}
use Rattle.proto_edit_rename_laws.proofs.Common.{Target, renamed_words}
use Rattle.proto_edit_rename.proofs.Placed.{puts_at}
use Rattle.proto_edit_rename.specs.Common.{AreOccurrences, AreOccurrencesIn, AreOccurrencesOf, ArePlacesIn, PutsAt, tokens_in}
use Rattle.proto_edit_rename.specs.declared.file_occurrences.FileOccurrences.{FileOccurrences}
use Rattle.proto_edit_captures.specs.FoundTargets.{IsFoundTarget}
use Rattle.proto_edit_captures.specs.declared.rename_target.RenameTarget.{RenameTarget}

-- ---- the tokens of a file among those of several

first_all : (o : FileOccurrences) (os : List FileOccurrences) (P : FileOccurrences → Type 0) → All P (o ∷ os) → P o
first_all o os P h = h 0 o (omega arith)

later_all : (o : FileOccurrences) (os : List FileOccurrences) (P : FileOccurrences → Type 0) → All P (o ∷ os) → All P os
later_all o os P h k d l = h (suc k) d (omega (arith, l))

-- of files that are not there none
none_there : (found : List FileOccurrences) (file : ℕ) → All (λ o. o.file < file) found → tokens_in found file ≡ []
none_there [] file below = refl
none_there (o ∷ os) file below =
    let l = first_all o os (λ o. o.file < file) below in
    cond-false (o.file == file) o.tokens.items (tokens_in os file) (ne_eqb o.file file (λ e. omega (arith, l, e))) ∙ none_there os file (later_all o os (λ o. o.file < file) below)

-- those of the last
last_there : (found : List FileOccurrences) (o : FileOccurrences) → All (λ p. p.file < o.file) found → tokens_in (found ++ o ∷ []) o.file ≡ o.tokens.items
last_there [] o below = cond-true (o.file == o.file) o.tokens.items [] (eq-eqb o.file o.file refl)
last_there (p ∷ ps) o below =
    let l = first_all p ps (λ p. p.file < o.file) below in
    cond-false (p.file == o.file) p.tokens.items (tokens_in (ps ++ o ∷ []) o.file) (ne_eqb p.file o.file (λ e. omega (arith, l, e))) ∙ last_there ps o (later_all p ps (λ p. p.file < o.file) below)

-- those of another than the last
others_there : (found : List FileOccurrences) (o : FileOccurrences) (file : ℕ) → (o.file ≡ file → ⊥) → tokens_in (found ++ o ∷ []) file ≡ tokens_in found file
others_there [] o file other = cond-false (o.file == file) o.tokens.items [] (ne_eqb o.file file other)
others_there (p ∷ ps) o file other = ap (λ (z : List ℕ). if p.file == file then p.tokens.items else z) (others_there ps o file other)

-- ---- a file more

module _ (files : List FileOf) (reads : List ReadOf) (r : AreRead files reads) (a : RenameTarget) (t : Target) (aimed : IsFoundTarget files reads a t) where
  none_yet : AreOccurrences files reads t 0 []
  none_yet = record {
    in_order = λ i j d below l. absurd (omega (arith, l));
    within = λ k d l. absurd (omega (arith, l));
    some = λ k d l. absurd (omega (arith, l));
    rising = λ k d l. absurd (omega (arith, l));
    changed = λ file l. absurd (omega (arith, l));
  }

  -- the tokens of the file with this number
  abbrev Puts : ℕ → List ℕ → Type 0
  Puts file tokens = (to : List ℕ) → PutsAt (renamed_words files reads t to) file tokens to

  changed_more : (n : ℕ) (found more : List FileOccurrences) → ((file : ℕ) → file < n → tokens_in more file ≡ tokens_in found file) → ((file : ℕ) → file < n → Puts file (tokens_in found file)) → Puts n (tokens_in more n) → (file : ℕ) → file < n + 1 → Puts file (tokens_in more file)
  changed_more n found more same h here file l = elim (cases_lt file n) [
    | inl below ↦ subst (Puts file) (sym (same file below)) (h file below)
    | inr past ↦ (let e : n ≡ file = omega (arith, l, past) in subst (λ (z : ℕ). Puts z (tokens_in more z)) e here)
  ]

  file_more : (n : ℕ) (found : List FileOccurrences) → AreOccurrences files reads t n found → (o : Option FileOccurrences) → AreOccurrencesIn files a n o → AreOccurrences files reads t (n + 1) (found ++ option_to_list o)
  file_more n found h None are =
      subst (AreOccurrences files reads t (n + 1)) (sym (append-nil found)) (record {
        in_order = h.in_order;
        within = λ k d l. (let b = h.within k d l in omega (arith, b));
        some = h.some;
        rising = h.rising;
        changed = changed_more n found found (λ file l. refl) h.changed (λ to. subst (λ (z : List ℕ). PutsAt (renamed_words files reads t to) n z to) (sym (none_there found n h.within)) (puts_at files a n [] are reads r t aimed to));
      })
  file_more n found h (Some o) are =
      let here : Puts n (tokens_in (found ++ o ∷ []) n) = λ to.
      subst (λ (z : List ℕ). PutsAt (renamed_words files reads t to) n z to)
      (sym (subst (λ (z : ℕ). All (λ (p : FileOccurrences). p.file < z) found → tokens_in (found ++ o ∷ []) z ≡ o.tokens.items) are.0 (last_there found o) h.within))
      (puts_at files a n o.tokens.items are.3 reads r t aimed to) in
      let file = are.0 in
      record {
        in_order = all_pairs_push (λ (o p : FileOccurrences). o.file < p.file) found o h.in_order (λ k d l. (let b = h.within k d l in omega (arith, b, file)));
        within = All-push (λ (p : FileOccurrences). p.file < n + 1) found o (λ k d l. (let b = h.within k d l in omega (arith, b))) (omega (arith, file));
        some = All-push (λ (p : FileOccurrences). 0 < length p.tokens.items) found o h.some are.1;
        rising = All-push (λ (p : FileOccurrences). AllPairs (λ i j. i < j) p.tokens.items) found o h.rising are.2;
        changed = changed_more n found (found ++ o ∷ []) (λ f l. others_there found o f (λ e. omega (arith, e, l, file))) h.changed here;
      }

-- as the files are gone through

pub none_found : (files : List FileOf) (a : RenameTarget) (found : List FileOccurrences) → found ≡ [] → AreOccurrencesOf files a 0 found
none_found files a found e reads r t aimed = subst (AreOccurrences files reads t 0) (sym e) (none_yet files reads r a t aimed)

pub more_found : (files : List FileOf) (a : RenameTarget) (n : ℕ) (found more : List FileOccurrences) (o : Option FileOccurrences) → AreOccurrencesOf files a n found → AreOccurrencesIn files a n o → more ≡ found ++ option_to_list o → AreOccurrencesOf files a (n + 1) more
more_found files a n found more o h are e reads r t aimed = subst (AreOccurrences files reads t (n + 1)) (sym e) (file_more files reads r a t aimed n found (h reads r t aimed) o are)

-- the same tokens in another order
pub places_in_order : (files : List FileOf) (a : RenameTarget) (file : ℕ) (places tokens : List ℕ) → ((i : ℕ) → Contains tokens i ↔ Contains places i) → ArePlacesIn files a file places → ArePlacesIn files a file tokens
places_in_order files a file places tokens same are reads r t aimed to i =
    let p = are reads r t aimed to i in
    let s = same i in
    (λ c. p.0 (s.0 c), λ c. s.1 (p.1 c))

-- a list that is not empty has an element
pub some_there : (xs : List ℕ) → (length xs == 0) ≡ false → 0 < length xs
some_there [] h = absurd (true≢false h)
some_there (x ∷ xs) h = omega arith

-- tokens in another order are as few
pub some_stay : (places tokens : List ℕ) → ((i : ℕ) → Contains tokens i ↔ Contains places i) → 0 < length places → 0 < length tokens
some_stay (p ∷ places) tokens same l = let c = (same p).1 (0, omega arith, refl) in omega (arith, c.1)
some_stay [] tokens same l = absurd (omega (arith, l))
