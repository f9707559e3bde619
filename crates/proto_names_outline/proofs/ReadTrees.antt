-- What is known of the tokens of a tree that was read from a text (for the crates above).
use Rattle.std.proofs.Common.{◌≡◌, ◌≢◌, ℕ, zero, suc, ◌<◌, ◌≤◌, Bool, true, false, ◌||◌, ◌==◌, List, [], ◌∷◌, length, get_or, map, Some, refl, sym, ap, subst, ◌∙◌, inl, inr, arith, cond, AllPairs, Contains, bytes_eq, eqb-true}
use Rattle.proto_base.proofs.Common.{list_any, AllByRecursion, cases_Bool}
use Rattle.proto_text.specs.declared.class.Class.TheVariants.{Letter}
use Rattle.proto_text.specs.declared.kind.PieceKind.TheVariants.{Solid}
use Rattle.proto_text.specs.declared.kind.TokenKind.{TokenKind}
use Rattle.proto_text.specs.declared.kind.TokenKind.TheVariants.{Word, Number, Text, Punctuation}
use Rattle.proto_text.specs.declared.lexer.Token.{Token}
use Rattle.proto_text.proofs.Common.{EachByte, class_of, extends_word, is_identifier, IsRun, IsLexeme, IsString, word_at, words, Lexeme, lexeme_at, tokens_are_lexemes}
use Rattle.proto_tree.specs.declared.class.Class.{Class}
use Rattle.proto_tree.specs.declared.class.Class.TheVariants as class
use Rattle.proto_tree.specs.declared.class.Expected.{Expected}
use Rattle.proto_tree.specs.declared.class.Expected.TheVariants as want
use Rattle.proto_tree.proofs.Common.{is_word, is_text, fits, Mark, Tree, flat, Listed, class_in, marks, class_by, word_is_word, words_only, place_of_word, ReadsIn, trees_are_numbered_in, marks_fit_in}
use Rattle.proto_names_outline.specs.Common.{Wanted, items_in, imports_in, file_names, whole, last_token, package_first}
use Rattle.proto_names_rules.proofs.Common.{IsPlain, ArePlain, Token as TokenOf, Used, Placed, ItemsSpan, package_of, file_placed, rising_each, rising_pairs}
use Rattle.proto_names_rules.specs.declared.kind.Kind.TheVariants.{Package}
use Rattle.proto_names_outline.proofs.FromTree.{tree_grown}
use Rattle.proto_names_outline.proofs.MarkedNames.{declared_worded, declared_ascend, packages_before}
use Rattle.proto_names_outline.proofs.MarkedTokens.{Are, are_from, Known}
use Rattle.proto_names_outline.proofs.MarkedUses.{Uses, items_rise, Imports, imports_rise, uses_each, uses_firsts}
use Rattle.proto_names_outline.proofs.PackageFirst.{same_declared}
use Rattle.proto_base.specs.declared.profile.Profile.{Profile}
use Rattle.proto_base.specs.declared.profile.Profile.TheVariants.{AsWritten, Core}
use Rattle.proto_tree.specs.Words.{class_as}

-- ---- words hold no point

differ : false ≡ true → ⊥
differ e = cc

no_point : (b : ℕ) → is_identifier b ≡ true → (b == 46) ≡ false
unfolding class_of
no_point b h = elim (cases_Bool (b == 46)) [
  | inr f ↦ f
  | inl t ↦ absurd (differ (sym (ap is_identifier (eqb-true b 46 t)) ∙ h))
]

none_pointed : (bytes : List ℕ) → EachByte is_identifier bytes → list_any (λ b. b == 46) bytes ≡ false
none_pointed [] h = refl
none_pointed (b ∷ bytes) h = ap (λ (t : Bool). t || list_any (λ b. b == 46) bytes) (no_point b h.0) ∙ none_pointed bytes h.1

pub run_is_plain : (w : List ℕ) → IsRun Letter w → IsPlain w
run_is_plain [] h = absurd h
run_is_plain (b ∷ bytes) h = (none_pointed (b ∷ bytes) (ap extends_word h.0, h.1), λ e. cc)

-- ---- a place that wants a string holds one

no_word_text : (c : Class) → is_text c ≡ true → is_word c ≡ true → ⊥
no_word_text class.ProtoText e h = cc
no_word_text class.OtherText e h = cc
no_word_text _ e h = cc

no_text_in : (ks : List Listed) (c : Class) (w : List ℕ) → AllByRecursion (λ k. is_text k.class ≡ false) ks → is_text c ≡ false → is_text (class_in ks c w) ≡ false
no_text_in [] c w h e = e
no_text_in (k ∷ ks) c w h e = either (bytes_eq w k.word) h.0 (no_text_in ks c w h.1 e)
  where
    either : (b : Bool) → is_text k.class ≡ false → is_text (class_in ks c w) ≡ false → is_text (cond b k.class (class_in ks c w)) ≡ false
    either true x y = x
    either false x y = y

pub text_only : (k : TokenKind) (w : List ℕ) → is_text (class_by k w) ≡ true → k ≡ Text
text_only Text w h = refl
text_only Word w h = absurd (no_word_text (class_by Word w) h (word_is_word w))
text_only Number w h = absurd cc
text_only Punctuation w h =
    absurd (differ (sym (no_text_in marks class.Other w (refl, (refl, (refl, (refl, (refl, (refl, (refl, (refl, (refl, (refl, (refl, (refl, (refl, (refl, tt)))))))))))))) refl) ∙ h))

pub word_is : (ls : List Lexeme) (i : ℕ) (other : Lexeme) → i < length ls → word_at ls i ≡ (get_or ls i other).text
word_is [] i other lt = absurd (omega (arith, lt))
word_is (l ∷ ls) zero other lt = refl
word_is (l ∷ ls) (suc i) other lt = word_is ls i other (omega (arith, lt))

plain_all : (text : ℕ → List ℕ) (ts : List ℕ) → AllByRecursion (λ i. IsPlain (text i)) ts → ArePlain (map text ts)
plain_all text [] h = tt
plain_all text (t ∷ ts) h = (h.0, plain_all text ts h.1)

-- ---- a tree that was read

-- ---- a class in the language as written

pub same_word : (profile : Profile) (c : Class) → is_word (class_as profile c) ≡ is_word c
same_word AsWritten class.LeftParenthesis = refl
same_word AsWritten _ = refl
same_word Core c = refl

pub same_text : (profile : Profile) (c : Class) → is_text (class_as profile c) ≡ is_text c
same_text AsWritten class.LeftParenthesis = refl
same_text AsWritten _ = refl
same_text Core c = refl

module _ (profile : Profile) (text : List ℕ) (tokens : List Token) (tree : Tree) (reads : ReadsIn profile text tokens tree) where
  abbrev W : ℕ → Type 0
  W i = IsPlain (words text tokens i)

  abbrev S : ℕ → Type 0
  S i = IsString (words text tokens i)

  module _ (m : Mark) (other : Lexeme) (c : Contains (flat tree) m) where
    abbrev l : Lexeme
    l = get_or (map (lexeme_at text) tokens) m.at other

    abbrev k : Class
    k = class_as profile (class_by l.kind l.text)

    fit : (m.at < length (map (lexeme_at text) tokens)) × (fits m.want k ≡ true)
    fit = marks_fit_in profile tree (map (lexeme_at text) tokens) m other reads.spells c

    text_is : words text tokens m.at ≡ l.text
    text_is = word_is (map (lexeme_at text) tokens) m.at other fit.0

    lexeme : IsLexeme (Solid l.kind) l.text
    lexeme = tokens_are_lexemes text tokens reads.tokens_are m.at other fit.0

    as_word : is_word k ≡ true → W m.at
    as_word h = subst IsPlain (sym text_is) (run_is_plain l.text (subst (λ (t : TokenKind). IsLexeme (Solid t) l.text) (words_only l.kind l.text (sym (same_word profile (class_by l.kind l.text)) ∙ h)) lexeme))

    as_text : is_text k ≡ true → S m.at
    as_text h = subst IsString (sym text_is) (subst (λ (t : TokenKind). IsLexeme (Solid t) l.text) (text_only l.kind l.text (sym (same_text profile (class_by l.kind l.text)) ∙ h)) lexeme)

    as_wanted : (w : Expected) → fits w k ≡ true → Known W W S w m.at
    as_wanted (want.One class.Name) f = as_word (place_of_word (want.One class.Name) class.Name k refl f refl)
    as_wanted want.Word f = as_word f
    as_wanted want.Name f = as_word f
    as_wanted want.ValueName f = as_word (place_of_word want.ValueName class.Name k refl f refl)
    as_wanted want.Text f = as_text f
    as_wanted _ f = tt

    known : Known W W S m.want m.at
    known = as_wanted m.want fit.1

  are : Are W W S 0 (flat tree)
  are = are_from W W S 0 (flat tree) (trees_are_numbered_in profile tree (map (lexeme_at text) tokens) reads.spells) (λ m. known m (record { kind = Word; text = [] }))

  -- ---- declarations

  pub tree_span : (low high : ℕ) × ItemsSpan low high (items_in tree)
  tree_span = let g = tree_grown profile tree (map (lexeme_at text) tokens) reads.spells in (g.low, g.high, g.span)

  -- a declaration is named by a word
  pub names_plain : (p : Placed) → Contains (package_first (items_in tree)) p → (t : ℕ) → last_token (whole p) ≡ Some t → IsPlain (words text tokens t)
  names_plain = declared_worded W W S tree 0 are

  pub placed_plain : (p : Placed) → Contains (file_placed (items_in tree)) p → (t : ℕ) → last_token (whole p) ≡ Some t → IsPlain (words text tokens t)
  placed_plain p c = names_plain p ((same_declared (items_in tree) tree_span.0 tree_span.1 tree_span.2 p).1 c)

  pub declared_rising : AllPairs (λ p q. p.kind ≢ Package → (s t : ℕ) → last_token (whole p) ≡ Some s → last_token (whole q) ≡ Some t → s ≤ t) (package_first (items_in tree))
  declared_rising = declared_ascend W W S tree 0 are

  pub packages_first : AllPairs (λ p q. q.kind ≡ Package → p.kind ≡ Package) (package_first (items_in tree))
  packages_first = packages_before W W S tree 0 are

  -- ---- references

  used : Uses W W S 0 (length (flat tree)) (file_names tree).used
  used = items_rise W W S tree (map (λ t. TokenOf t) (package_of (items_in tree))) 0 (length (flat tree)) are (omega arith)

  pub uses_plain : (u : Used ℕ) → Contains (file_names tree).used u → ArePlain (map (words text tokens) u.tokens) × (0 < length u.tokens)
  uses_plain u c =
      let of = uses_each W W S (file_names tree).used 0 (length (flat tree)) used u c in
      (plain_all (words text tokens) u.tokens of.0, of.1)

  pub uses_rising : AllPairs (λ a b. a.first < b.first) (file_names tree).used
  uses_rising = uses_firsts W W S (file_names tree).used 0 (length (flat tree)) used

  -- ---- imports

  imported : Imports W W S 0 (length (flat tree)) (imports_in tree)
  imported = imports_rise W W S tree 0 (length (flat tree)) are (omega arith)

  pub imports_are_strings : (w : Wanted) → Contains (imports_in tree) w → IsString (words text tokens w.path)
  imports_are_strings = rising_each (λ w. w.path) (λ w. S w.path) (imports_in tree) 0 (length (flat tree)) imported

  pub imports_rising : AllPairs (λ a b. a.path < b.path) (imports_in tree)
  imports_rising = rising_pairs (λ w. w.path) (λ w. S w.path) (imports_in tree) 0 (length (flat tree)) imported
