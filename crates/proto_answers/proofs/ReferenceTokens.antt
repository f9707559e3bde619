-- The tokens that stand for a name, in their order.
use Rattle.std.proofs.Common.{◌≡◌, ◌↔◌, ℕ, suc, ◌<◌, ◌==◌, Bool, true, false, not, if◌then◌else◌, eqb-true, eq-eqb, All, AllPairs, List, [], ◌∷◌, ◌++◌, length, get_or, map, Option, Some, None, refl, sym, ap, subst, ◌∙◌, arith, inl, inr, Contains, true≢false}
use Rattle.std.proofs.lemmas.List.Kept.{AllPairs-filter}
use Rattle.proto_base.proofs.Common.{All-append, All-contains, All-map, All-weaker, AllPairs-cons, Contains-append_left, Contains-append_right, Contains-get_or, Text, Vec, cond-false, cond-true, contains_cases, contains_filter, contains_head, contains_later, contains_map, false_from_ne_true, from_filter, from_flat_map, from_map}
use Rattle.proto_files.proofs.Common.{AreRead, FileOf, HasNoFault, ReadOf}
use Rattle.proto_names_rules.specs.Grown.{At, at}
use Rattle.proto_names_imports.proofs.Common.{LinkFaults}
use Rattle.proto_edit_rename.specs.Occurrences.{AreOccurrencesOfName, tokens_in}
use Rattle.proto_edit_rename.specs.declared.file_occurrences.FileOccurrences.{FileOccurrences}
use Rattle.proto_edit_rename_laws.proofs.Common.{StandsBefore, same_at}
use Rattle.proto_edit_rename_laws.proofs.Places.{at_same, same_at_itself}
use Rattle.proto_names_at.specs.NamesAt.{DeclaresName, StandsFor}
use Rattle.proto_names_at.specs.Occurring.{NamesOccur}
use Rattle.proto_answers.specs.Common.{AreReferences, IsLeftOut, all_tokens, is_listed, listed_tokens}
use Rattle.proto_answers.specs.Declaring.{at_token}
use Rattle.proto_answers.specs.declared.declaring.FileToken.{FileToken}
use Rattle.proto_answers.proofs.Declarers.{one_declaring}

-- ---- pairs of a list

module _ {X : Type 0} (R : X → X → Type 0) where
  head_pairs : (x : X) (xs : List X) → AllPairs R (x ∷ xs) → All (R x) xs
  head_pairs x xs h k d lt = h 0 (suc k) d (omega arith) (omega (arith, lt))

  tail_pairs : (x : X) (xs : List X) → AllPairs R (x ∷ xs) → AllPairs R xs
  tail_pairs x xs h i j d lt within = h (suc i) (suc j) d (omega (arith, lt)) (omega (arith, within))

  no_pairs : AllPairs R []
  no_pairs i j d lt within = absurd (omega (arith, within))

  pairs_append : (xs ys : List X) → AllPairs R xs → AllPairs R ys → ((x y : X) → Contains xs x → Contains ys y → R x y) → AllPairs R (xs ++ ys)
  pairs_append [] ys a b across = b
  pairs_append (x ∷ xs) ys a b across =
      AllPairs-cons R x (xs ++ ys)
      (All-append (R x) xs ys (head_pairs x xs a) (λ k d lt. across x (get_or ys k d) (contains_head x xs) (Contains-get_or ys k d lt)))
      (pairs_append xs ys (tail_pairs x xs a) b (λ u y c. across u y (contains_later x u xs c)))

-- ---- the tokens that were found, in order

abbrev IsFileBefore : FileOccurrences → FileOccurrences → Type 0
IsFileBefore o p = o.file < p.file

abbrev Rises : FileOccurrences → Type 0
Rises o = AllPairs (λ i j. i < j) o.tokens.items

in_file : (file : ℕ) (ts : List ℕ) → AllPairs (λ i j. i < j) ts → AllPairs StandsBefore (map (at file) ts)
in_file file [] h = no_pairs StandsBefore
in_file file (t ∷ ts) h =
    AllPairs-cons StandsBefore (at file t) (map (at file) ts)
    (All-map (StandsBefore (at file t)) (at file) ts (All-weaker (λ j. t < j) (λ j. StandsBefore (at file t) (at file j)) (λ j lt. inr (refl, lt)) ts (head_pairs (λ i j. i < j) t ts h)))
    (in_file file ts (tail_pairs (λ i j. i < j) t ts h))

file_of : (os : List FileOccurrences) (a : At) → Contains (all_tokens os) a → (o : FileOccurrences) × Contains os o × (o.file ≡ a.file) × Contains o.tokens.items a.token
file_of os a c =
    let f = from_flat_map (λ (o : FileOccurrences). map (at o.file) o.tokens.items) os a c in
    let t = from_map (at f.0.file) f.0.tokens.items a f.2 in
    (f.0, f.1, ap (λ (z : At). z.file) t.2, subst (Contains f.0.tokens.items) (ap (λ (z : At). z.token) t.2) t.1)

tail_all : {X : Type 0} (P : X → Type 0) (x : X) (xs : List X) → All P (x ∷ xs) → All P xs
tail_all P x xs h k d lt = h (suc k) d (omega (arith, lt))

in_files : (os : List FileOccurrences) → AllPairs IsFileBefore os → All Rises os → AllPairs StandsBefore (all_tokens os)
in_files [] h r = no_pairs StandsBefore
in_files (o ∷ os) h r =
    pairs_append StandsBefore (map (at o.file) o.tokens.items) (all_tokens os) (in_file o.file o.tokens.items (r 0 o (omega arith))) (in_files os (tail_pairs IsFileBefore o os h) (tail_all Rises o os r))
    (λ x y cx cy.
    let t = from_map (at o.file) o.tokens.items x cx in
    let f = file_of os y cy in
    let here : o.file ≡ x.file = ap (λ (z : At). z.file) t.2 in
    let before : o.file < f.0.file = All-contains (IsFileBefore o) os f.0 (head_pairs IsFileBefore o os h) f.1 in
    let there = f.2 in
    inl (omega (arith, here, before, there)))

-- ---- those of one file

tokens_of_file : (os : List FileOccurrences) → AllPairs IsFileBefore os → (o : FileOccurrences) → Contains os o → tokens_in os o.file ≡ o.tokens.items
tokens_of_file [] h o c = absurd (omega (arith, c.1))
tokens_of_file (p ∷ os) h o c = elim (contains_cases p o os c) [
  | inl same ↦ ap (λ (f : ℕ). tokens_in (p ∷ os) f) (sym (ap (λ (z : FileOccurrences). z.file) same)) ∙ cond-true (p.file == p.file) p.tokens.items (tokens_in os p.file) (eq-eqb p.file p.file refl) ∙ ap (λ (z : FileOccurrences). z.tokens.items) same
  | inr later ↦
      let before : p.file < o.file = All-contains (IsFileBefore p) os o (head_pairs IsFileBefore p os h) later in
      cond-false (p.file == o.file) p.tokens.items (tokens_in os o.file) (false_from_ne_true (p.file == o.file) (λ e. (let same = eqb-true p.file o.file e in omega (arith, same, before))))
      ∙ tokens_of_file os (tail_pairs IsFileBefore p os h) o later
]

from_all : (os : List FileOccurrences) → AllPairs IsFileBefore os → (a : At) → Contains (all_tokens os) a → Contains (tokens_in os a.file) a.token
from_all os h a c =
    let f = file_of os a c in
    subst (λ (ts : List ℕ). Contains ts a.token) (sym (tokens_of_file os h f.0 f.1) ∙ ap (tokens_in os) f.2) f.3

to_all : (os : List FileOccurrences) (file token : ℕ) → Contains (tokens_in os file) token → Contains (all_tokens os) (at file token)
to_all [] file token c = absurd (omega (arith, c.1))
to_all (o ∷ os) file token c = by (o.file == file) refl c (to_all os file token)
  where
    by : (b : Bool) → (o.file == file) ≡ b → Contains (if b then o.tokens.items else tokens_in os file) token → (Contains (tokens_in os file) token → Contains (all_tokens os) (at file token)) → Contains (all_tokens (o ∷ os)) (at file token)
    by true e k rest =
        Contains-append_left (map (at o.file) o.tokens.items) (all_tokens os) (at file token)
        (subst (λ (f : ℕ). Contains (map (at o.file) o.tokens.items) (at f token)) (eqb-true o.file file e) (contains_map (at o.file) o.tokens.items token k))
    by false e k rest = Contains-append_right (map (at o.file) o.tokens.items) (all_tokens os) (at file token) (rest k)

-- ---- what is left out

module _ (files : List FileOf) (reads : List ReadOf) (are : AreRead files reads) (clean : HasNoFault (LinkFaults files)) (name : Text) (wanted : Bool) where
  not_same : (a b : At) → (not (same_at a b)) ≡ true → a ≡ b → ⊥
  not_same a b h e = both (same_at a b) h (ap (λ (z : At). same_at a z) (sym e) ∙ same_at_itself a)
    where
      both : (b : Bool) → not b ≡ true → b ≡ true → ⊥
      both true n y = cc
      both false n y = cc

  listed_no_declaration : (left_out : Option FileToken) → IsLeftOut files name wanted left_out → (a : At) → is_listed left_out a ≡ true → wanted ≡ false → DeclaresName files reads a name → ⊥
  listed_no_declaration None h a holds fails d = true≢false (sym h ∙ fails)
  listed_no_declaration (Some t) h a holds fails d = not_same a (at_token t) holds (one_declaring files reads are clean name a (at_token t) d (h.1.declares reads are))

  not_true : (b : Bool) → (b ≡ true → ⊥) → not b ≡ true
  not_true true h = absurd (h refl)
  not_true false h = refl

  is_there : (left_out : Option FileToken) → IsLeftOut files name wanted left_out → (a : At) → (wanted ≡ false → DeclaresName files reads a name → ⊥) → is_listed left_out a ≡ true
  is_there None h a none = refl
  is_there (Some t) h a none =
      not_true (same_at a (at_token t)) (λ e. none h.0 (subst (λ (z : At). DeclaresName files reads z name) (sym (at_same a (at_token t) e)) (h.1.declares reads are)))

  pub are_references : NamesOccur → (found : Vec FileOccurrences) → AreOccurrencesOfName files name (Some found) → (left_out : Option FileToken) → IsLeftOut files name wanted left_out
      → AreReferences files reads name wanted (listed_tokens left_out found.items)
  are_references law found has left_out h = record {
    in_order = AllPairs-filter StandsBefore (is_listed left_out) (all_tokens found.items) (in_files found.items (has reads are).2.in_order (has reads are).2.rising);
    same = λ a. (
      λ c. (let f = from_filter (is_listed left_out) (all_tokens found.items) a c in
          let l = file_of found.items a f.0 in
          let below : l.0.file < length files = All-contains (λ (p : FileOccurrences). p.file < length files) found.items l.0 (has reads are).2.within l.1 in
          let within : a.file < length files = subst (λ (n : ℕ). n < length files) l.2 below in
          record {
            within = within;
            stands = (stood a within).1 (from_all found.items (has reads are).2.in_order a f.0);
            listed = listed_no_declaration left_out h a f.1;
          }),
      λ r. contains_filter (is_listed left_out) (all_tokens found.items) a (to_all found.items a.file a.token ((stood a r.within).0 r.stands)) (is_there left_out h a r.listed),
    );
  }
    where
      stood : (a : At) → a.file < length files → StandsFor files reads a name ↔ Contains (tokens_in found.items a.file) a.token
      stood a within = law files reads name (Some found) are clean has a.file a.token within
