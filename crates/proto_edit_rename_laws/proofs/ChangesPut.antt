-- The changes that a change of words makes put the files after it (for the crates above).
use Rattle.std.proofs.Common.{◌≡◌, ◌≢◌, ℕ, zero, suc, ◌+◌, ◌<◌, List, [], ◌∷◌, length, get_or, Option, refl, sym, ap, subst, ◌∙◌, inl, inr, arith, AllPairs, Contains}
use Rattle.proto_base.proofs.Common.{cases_order, Contains-append_left, Contains-append_right, Contains-append_cases, contains_cases, contains_head}
use Rattle.proto_text.proofs.Common.{Edit, Puts, token_edits, length_map}
use Rattle.proto_files.proofs.Common.{FileOf, file_at, ReadOf, read_at}
use Rattle.proto_names_rules.specs.Grown.{At}
use Rattle.proto_edit_entries.proofs.Common.{ChangeOf, EachPuts, PutsFile}
use Rattle.proto_edit_rename_laws.specs.ChangesPut.{ChangesArePut}
use Rattle.proto_edit_rename_laws.specs.Common.{words_of_file, NewWords, change_by, changes_from, spliced_length}
use Rattle.proto_edit_rename_laws.proofs.Rewording.{at_same}
use Rattle.proto_files.specs.GivenFiles.{no_file}

abbrev pub edits_at : (At → Option (List ℕ)) → ℕ → List FileOf → List ReadOf → ℕ → List Edit
edits_at c n fs rs k = token_edits (file_at fs k).bytes (words_of_file c (n + k)) 0 (read_at rs k).tokens

pub each_puts : (cs : List ChangeOf) (fs gs : List FileOf) → length gs ≡ length fs → ((k : ℕ) → k < length fs → PutsFile cs (file_at fs k) (file_at gs k)) → EachPuts cs fs gs
each_puts cs [] [] e h = tt
each_puts cs [] (g ∷ gs) e h = absurd (omega (arith, e))
each_puts cs (f ∷ fs) [] e h = absurd (omega (arith, e))
each_puts cs (f ∷ fs) (g ∷ gs) e h = (h 0 (omega arith), each_puts cs fs gs (omega (arith, e)) (λ k l. h (suc k) (omega (arith, l))))

-- what a change of a file is
pub record IsBy (f : FileOf) (es : List Edit) (ch : ChangeOf) : Type 0 where
  pub path : ch.path ≡ f.path
  pub before : ch.before ≡ length f.bytes
  pub splices : ch.splices ≡ es

pub is_by : (f : FileOf) (es : List Edit) (ch : ChangeOf) → Contains (change_by f es) ch → IsBy f es ch
is_by f [] ch c = absurd (omega (arith, c.1))
is_by f (s ∷ es) ch c = elim (contains_cases _ ch [] c) [
  | inl e ↦ record { path = ap (λ (x : ChangeOf). x.path) (sym e); before = ap (λ (x : ChangeOf). x.before) (sym e); splices = ap (λ (x : ChangeOf). x.splices) (sym e) }
  | inr d ↦ absurd (omega (arith, d.1))
]

pub from_changes : (c : NewWords) (n : ℕ) (fs : List FileOf) (rs : List ReadOf) (ch : ChangeOf) → Contains (changes_from c n fs rs) ch → (k : ℕ) × (k < length fs) × Contains (change_by (file_at fs k) (edits_at c n fs rs k)) ch
from_changes c n [] rs ch h = absurd (omega (arith, h.1))
from_changes c n (f ∷ fs) [] ch h = absurd (omega (arith, h.1))
from_changes c n (f ∷ fs) (r ∷ rs) ch h = elim (Contains-append_cases (change_by f (token_edits f.bytes (words_of_file c n) 0 r.tokens)) (changes_from c (suc n) fs rs) ch h) [
  | inl a ↦ (let e : n ≡ n + 0 = omega arith in (0, omega arith, subst (λ m. Contains (change_by f (token_edits f.bytes (words_of_file c m) 0 r.tokens)) ch) e a))
  | inr b ↦ (
      let k = from_changes c (suc n) fs rs ch b in
      let e : suc n + k.0 ≡ n + suc k.0 = omega arith in
      (suc k.0, (let l = k.1 in omega (arith, l)), subst (λ m. Contains (change_by (file_at fs k.0) (token_edits (file_at fs k.0).bytes (words_of_file c m) 0 (read_at rs k.0).tokens)) ch) e k.2))
]

pub to_changes : (c : NewWords) (n : ℕ) (fs : List FileOf) (rs : List ReadOf) (ch : ChangeOf) (k : ℕ) → k < length fs → length rs ≡ length fs → Contains (change_by (file_at fs k) (edits_at c n fs rs k)) ch → Contains (changes_from c n fs rs) ch
to_changes c n [] rs ch k l e h = absurd (omega (arith, l))
to_changes c n (f ∷ fs) [] ch k l e h = absurd (omega (arith, e))
to_changes c n (f ∷ fs) (r ∷ rs) ch zero l e h =
    let same : n + 0 ≡ n = omega arith in
    Contains-append_left (change_by f (token_edits f.bytes (words_of_file c n) 0 r.tokens)) (changes_from c (suc n) fs rs) ch (subst (λ m. Contains (change_by f (token_edits f.bytes (words_of_file c m) 0 r.tokens)) ch) same h)
to_changes c n (f ∷ fs) (r ∷ rs) ch (suc k) l e h =
    let same : n + suc k ≡ suc n + k = omega arith in
    Contains-append_right (change_by f (token_edits f.bytes (words_of_file c n) 0 r.tokens)) (changes_from c (suc n) fs rs) ch
    (to_changes c (suc n) fs rs ch k (omega (arith, l)) (omega (arith, e)) (subst (λ m. Contains (change_by (file_at fs k) (token_edits (file_at fs k).bytes (words_of_file c m) 0 (read_at rs k).tokens)) ch) same h))

pub index_get : (xs : List FileOf) (d : FileOf) (k : ℕ) → k < length xs → get_or xs k d ≡ file_at xs k
index_get [] d k l = absurd (omega (arith, l))
index_get (x ∷ xs) d zero l = refl
index_get (x ∷ xs) d (suc k) l = index_get xs d k (omega (arith, l))

pub listed_at : (xs : List FileOf) (k : ℕ) → k < length xs → Contains xs (file_at xs k)
listed_at xs k l = (k, l, index_get xs (file_at xs k) k l)

-- a path is that of one file
one_place : (fs : List FileOf) → AllPairs (λ f g. f.path ≢ g.path) fs → (j k : ℕ) → j < length fs → k < length fs → (file_at fs j).path ≡ (file_at fs k).path → j ≡ k
one_place fs apart j k lj lk e = elim (cases_order j k) [
  | inl same ↦ same
  | inr (inl below) ↦ absurd (apart j k (file_at fs j) below lk (ap (λ (f : FileOf). f.path) (index_get fs (file_at fs j) j lj) ∙ e ∙ sym (ap (λ (f : FileOf). f.path) (index_get fs (file_at fs j) k lk))))
  | inr (inr more) ↦ absurd (apart k j (file_at fs j) more lj (ap (λ (f : FileOf). f.path) (index_get fs (file_at fs j) k lk) ∙ sym e ∙ sym (ap (λ (f : FileOf). f.path) (index_get fs (file_at fs j) j lj))))
]

pub changes_are_put : ChangesArePut
changes_are_put c files reads after seen r w apart = record {
  each = each_puts (changes_from c 0 files reads) files after (sym (length_map (λ (g : FileOf). g.path) after) ∙ ap length w.paths ∙ length_map (λ (g : FileOf). g.path) files) puts;
  there = λ ch h. (
      let k = from_changes c 0 files reads ch h in
      (file_at files k.0, listed_at files k.0 k.1, sym (is_by (file_at files k.0) (edits_at c 0 files reads k.0) ch k.2).path));
}
  where
    put : (k : ℕ) → k < length files → Puts 0 (file_at files k).bytes (edits_at c 0 files reads k) (file_at after k).bytes
    put k l =
        let e : k ≡ 0 + k = omega arith in
        subst (λ m. Puts 0 (file_at files k).bytes (token_edits (file_at files k).bytes (words_of_file c m) 0 (read_at reads k).tokens) (file_at after k).bytes) e (w.words k l).put

    kept : (k : ℕ) → k < length files → (es : List Edit) → edits_at c 0 files reads k ≡ es → Puts 0 (file_at files k).bytes es (file_at after k).bytes
        → ((ch : ChangeOf) → Contains (changes_from c 0 files reads) ch → ch.path ≢ (file_at files k).path) → (file_at after k).bytes ≡ (file_at files k).bytes
    kept k l [] q p h = p
    kept k l (s ∷ es) q p h =
        let f = file_at files k in
        let ch : ChangeOf = record { path = f.path; before = length f.bytes; after = spliced_length (length f.bytes) (s ∷ es); splices = s ∷ es } in
        absurd (h ch (to_changes c 0 files reads ch k l r.same (subst (λ z. Contains (change_by (file_at files k) z) ch) (sym q) (contains_head ch []))) refl)

    puts : (k : ℕ) → k < length files → PutsFile (changes_from c 0 files reads) (file_at files k) (file_at after k)
    puts k l = record {
      path = at_same (λ (g : FileOf). g.path) after files no_file k w.paths;
      profile = at_same (λ (g : FileOf). g.profile) after files no_file k w.profiles;
      changed = λ ch h p. (
          let j = from_changes c 0 files reads ch h in
          let by = is_by (file_at files j.0) (edits_at c 0 files reads j.0) ch j.2 in
          let same : j.0 ≡ k = one_place files apart j.0 k j.1 l (sym by.path ∙ p) in
          (sym (by.before ∙ ap (λ i. length (file_at files i).bytes) same), subst (λ es. Puts 0 (file_at files k).bytes es (file_at after k).bytes) (sym (by.splices ∙ ap (edits_at c 0 files reads) same)) (put k l)));
      kept = kept k l (edits_at c 0 files reads k) refl (put k l);
    }
