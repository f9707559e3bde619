-- A scene with the tokens of another at moved indices reads the same (for the crates above).
use Rattle.std.proofs.Common.{◌≡◌, ◌≢◌, ℕ, zero, suc, ◌==◌, inl, inr, Bool, true, false, Option, Some, None, List, [], ◌∷◌, ◌++◌, map, find, option_map, slice_get, refl, sym, ap, ap₂, ◌∙◌, cond, Contains, option_and_then, eq-eqb, ne_eqb}
use Rattle.proto_base.proofs.Common.{cases_eq, contains_head, contains_later}
use Rattle.proto_text.proofs.Common.{word_at, Lexeme}
use Rattle.proto_tree.specs.declared.tree.Reference.{Reference}
use Rattle.proto_tree.specs.declared.tree.Separated.{Separated}
use Rattle.proto_tree.proofs.Common.{Move, move_option, move_reference, move_separated, first_of}
use Rattle.proto_ast.specs.Scenes.{MeantOf, Scene, meant_by, string_of}
use Rattle.proto_desc_checks.proofs.Common.{is_of_options}
use Rattle.proto_edit_statement_described.specs.Scenes.{HasTokens, ScenesAreMoved, move_meant}

-- ---- tokens

abbrev pub text_in : Option Lexeme → List ℕ
text_in None = []
text_in (Some l) = l.text

pub word_by : (ls : List Lexeme) (i : ℕ) → word_at ls i ≡ text_in (slice_get ls i)
word_by [] zero = refl
word_by [] (suc i) = refl
word_by (l ∷ ls) zero = refl
word_by (l ∷ ls) (suc i) = word_by ls i

-- ---- what is found

abbrev or_else : Option MeantOf → Option MeantOf → Option MeantOf
or_else None o = o
or_else (Some m) o = Some m

found_among : (p : MeantOf → Bool) (ms ns : List MeantOf) → find p (ms ++ ns) ≡ or_else (find p ms) (find p ns)
found_among p [] ns = refl
found_among p (m ∷ ms) ns = ap (λ o. cond (p m) (Some m) o) (found_among p ms ns) ∙ go (p m)
  where
    go : (b : Bool) → cond b (Some m) (or_else (find p ms) (find p ns)) ≡ or_else (cond b (Some m) (find p ms)) (find p ns)
    go true = refl
    go false = refl

-- whether the token is this one
abbrev begins : ℕ → MeantOf → Bool
begins t m = m.token == t

module _ (g : Move) (apart : (i j : ℕ) → g i ≡ g j → i ≡ j) where
  same_test : (i j : ℕ) → (g i == g j) ≡ (i == j)
  same_test i j = elim (cases_eq i j) [
    | inl e ↦ eq-eqb (g i) (g j) (ap g e) ∙ sym (eq-eqb i j e)
    | inr n ↦ ne_eqb (g i) (g j) (λ h. n (apart i j h)) ∙ sym (ne_eqb i j n)
  ]

  found_moved : (t : ℕ) (ms : List MeantOf) → find (begins (g t)) (map (move_meant g) ms) ≡ option_map (move_meant g) (find (begins t) ms)
  found_moved t [] = refl
  found_moved t (m ∷ ms) = ap₂ (λ (b : Bool) (o : Option MeantOf). cond b (Some (move_meant g m)) o) (same_test m.token t) (found_moved t ms) ∙ go (m.token == t)
    where
      go : (b : Bool) → cond b (Some (move_meant g m)) (option_map (move_meant g) (find (begins t) ms)) ≡ option_map (move_meant g) (cond b (Some m) (find (begins t) ms))
      go true = refl
      go false = refl

none_found : (t : ℕ) (ms : List MeantOf) → ((m : MeantOf) → Contains ms m → m.token ≢ t) → find (begins t) ms ≡ None
none_found t [] h = refl
none_found t (m ∷ ms) h = ap₂ (λ (b : Bool) (o : Option MeantOf). cond b (Some m) o) (ne_eqb m.token t (h m (contains_head m ms))) (none_found t ms (λ n c. h n (contains_later m n ms c)))

pub first_moved : (g : Move) (o : Option ℕ) (w : Separated ℕ) → first_of (move_option g o) (move_separated g g w) ≡ g (first_of o w)
first_moved g None w = refl
first_moved g (Some i) w = refl

module _ (g : Move) (a b : Scene) (h : HasTokens g a b) where
  same_meant : (r : Reference) → meant_by b (move_reference g r) ≡ option_map (move_meant g) (meant_by a r)
  same_meant r =
      let t : ℕ = first_of r.dot r.words in
      ap₂ (λ (k : ℕ) (ms : List MeantOf). find (begins k) ms) (first_moved g r.dot r.words) h.is
      ∙ found_among (begins (g t)) (map (move_meant g) h.front) (h.more ++ map (move_meant g) h.back)
      ∙ ap₂ or_else (found_moved g h.apart t h.front)
      (found_among (begins (g t)) h.more (map (move_meant g) h.back) ∙ ap₂ or_else (none_found (g t) h.more (λ m c. h.own m c t)) (found_moved g h.apart t h.back))
      ∙ both (find (begins t) h.front) (find (begins t) h.back)
      ∙ ap (option_map (move_meant g)) (sym (ap (find (begins t)) h.was ∙ found_among (begins t) h.front h.back))
    where
      both : (o p : Option MeantOf) → or_else (option_map (move_meant g) o) (option_map (move_meant g) p) ≡ option_map (move_meant g) (or_else o p)
      both None p = refl
      both (Some m) p = refl

pub scenes_are_moved : ScenesAreMoved
scenes_are_moved g a b h = record {
  same = record {
    profile = h.profile;
    version = h.version;
    caps = h.caps;
    texts = λ t. word_by b.lexemes (g t) ∙ ap text_in (h.stays t) ∙ sym (word_by a.lexemes t);
    strings = λ t. ap string_of (h.stays t);
    enums = λ r. ap (option_and_then (λ (m : MeantOf). m.enum)) (same_meant g a b h r) ∙ same_enum (meant_by a r);
    options = λ r. ap is_of_options (same_meant g a b h r) ∙ same_options (meant_by a r);
  };
  names = λ r. ap (option_map (λ (m : MeantOf). m.name)) (same_meant g a b h r) ∙ same_name (meant_by a r);
}
  where
    same_enum : (o : Option MeantOf) → option_and_then (λ (m : MeantOf). m.enum) (option_map (move_meant g) o) ≡ option_and_then (λ (m : MeantOf). m.enum) o
    same_enum None = refl
    same_enum (Some m) = refl

    same_options : (o : Option MeantOf) → is_of_options (option_map (move_meant g) o) ≡ is_of_options o
    same_options None = refl
    same_options (Some m) = refl

    same_name : (o : Option MeantOf) → option_map (λ (m : MeantOf). m.name) (option_map (move_meant g) o) ≡ option_map (λ (m : MeantOf). m.name) o
    same_name None = refl
    same_name (Some m) = refl
