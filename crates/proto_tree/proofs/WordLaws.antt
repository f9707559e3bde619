-- The same tree spells the new words (for the crates above).
use Rattle.std.proofs.Common.{◌≡◌, ℕ, zero, suc, ◌≤◌, Bool, true, false, ◌==◌, List, [], ◌∷◌, length, take, map, Option, Some, None, refl, sym, ap, subst, ◌∙◌, arith, cond, ◌||◌, codes, bytes_eq, eqb-true}
use Rattle.proto_text.specs.declared.kind.TokenKind.{TokenKind}
use Rattle.proto_text.specs.declared.kind.TokenKind.TheVariants.{Word, Number, Text, Punctuation}
use Rattle.proto_text.proofs.Common.{or_word, changed, AreWords, Lexeme, lexeme_at, says}
use Rattle.proto_text.proofs.Texts.{words_are_put}
use Rattle.proto_tree.specs.Common.{Class, Expected, code, is_element, is_word, fits, Mark, Fit, flat, Spells, open_after, open_from, IsShallow, Listed, class_in, listed, marks, class_by, classes_in, class_as, Profile, Change, Suits, PutsWords, WordsKeepTreesIn, WordsComeForWordsIn, EditsKeepTreesIn, WordsHaveWordClasses, WordsKeepTrees, WordsComeForWords, EditsKeepTrees}
use Rattle.proto_base.specs.declared.profile.Profile.TheVariants as profile
use Rattle.proto_tree.specs.declared.class.Class.TheVariants as class
use Rattle.proto_tree.specs.declared.class.Expected.TheVariants as want
use Rattle.proto_tree.proofs.CoreTrees.{any_changed, first_false, is_changed, second_false, still_fits, tree_core}
use Rattle.proto_tree.proofs.Each.{each, each_is}

-- ---- the classes of words

abbrev Holds : (Class → Bool) → List Listed → Type 0
Holds p [] = Unit {0}
Holds p (k ∷ ks) = (p k.class ≡ true) × Holds p ks

either_holds : (p : Class → Bool) (b : Bool) (c d : Class) → p c ≡ true → p d ≡ true → p (cond b c d) ≡ true
either_holds p true c d e f = e
either_holds p false c d e f = f

class_holds : (p : Class → Bool) (ks : List Listed) (c : Class) (w : List ℕ) → Holds p ks → p c ≡ true → p (class_in ks c w) ≡ true
class_holds p [] c w h e = e
class_holds p (k ∷ ks) c w h e = either_holds p (bytes_eq w k.word) k.class (class_in ks c w) h.0 (class_holds p ks c w h.1 e)

abbrev is_no_word : Class → Bool
is_no_word c = cond (is_word c) false true

differ : true ≡ false → ⊥
differ z = cc

not_both : (b : Bool) → b ≡ true → cond b false true ≡ true → ⊥
not_both true e h = cc
not_both false e h = cc

pub word_is_word : (w : List ℕ) → is_word (class_by Word w) ≡ true
word_is_word w = class_holds is_word listed class.Name w (refl, (refl, (refl, (refl, (refl, (refl, (refl, (refl, (refl, (refl, (refl, (refl, (refl, (refl, (refl, (refl, (refl, (refl, (refl, (refl, (refl, (refl, (refl, (refl, (refl, (refl, (refl, (refl, (refl, (refl, (refl, (refl, (refl, (refl, (refl, (refl, (refl, (refl, tt)))))))))))))))))))))))))))))))))))))) refl

mark_is_none : (w : List ℕ) → is_no_word (class_by Punctuation w) ≡ true
mark_is_none w = class_holds is_no_word marks class.Other w (refl, (refl, (refl, (refl, (refl, (refl, (refl, (refl, (refl, (refl, (refl, (refl, (refl, (refl, tt)))))))))))))) refl

text_is_none : (b : Bool) → is_word (cond b class.ProtoText class.OtherText) ≡ true → ⊥
text_is_none true h = cc
text_is_none false h = cc

pub words_only : (k : TokenKind) (w : List ℕ) → is_word (class_by k w) ≡ true → k ≡ Word
words_only Word w h = refl
words_only Number w h = absurd cc
words_only Text w h = absurd (text_is_none (says w (codes "proto2") || says w (codes "proto3")) h)
words_only Punctuation w h = absurd (not_both (is_word (class_by Punctuation w)) h (mark_is_none w))

pub words_have_word_classes : WordsHaveWordClasses
words_have_word_classes k w = (λ e. subst (λ (x : TokenKind). is_word (class_by x w) ≡ true) (sym e) (word_is_word w), words_only k w)

-- ---- a place that a word fits holds a word

text_no_word : (c : Class) → fits want.Text c ≡ true → is_word c ≡ true → ⊥
text_no_word class.ProtoText e h = cc
text_no_word class.OtherText e h = cc
text_no_word _ e h = cc

value_is_word : (c : Class) → fits want.ValueName c ≡ true → is_word c ≡ true
value_is_word class.Option e = refl
value_is_word class.Reserved e = refl
value_is_word c e = e

label_is_word : (c : Class) → fits want.Label c ≡ true → is_word c ≡ true
label_is_word class.Optional e = refl
label_is_word class.Required e = refl
label_is_word class.Repeated e = refl
label_is_word _ e = absurd cc

modifier_is_word : (c : Class) → fits want.Modifier c ≡ true → is_word c ≡ true
modifier_is_word class.Public e = refl
modifier_is_word class.ImportWeak e = refl
modifier_is_word _ e = absurd cc

-- what stands between the braces of a value, and is no word
abbrev is_no_element : Class → Bool
is_no_element c = cond (is_element c) (is_no_word c) true

element_no_word : (c : Class) → fits want.Element c ≡ true → is_word c ≡ true → ⊥
element_no_word c e h = by (is_element c) (is_word c) e h (each_is is_no_element refl c)
  where
    by : (a b : Bool) → a ≡ true → b ≡ true → cond a (cond b false true) true ≡ true → ⊥
    by true true e h k = cc
    by true false e h k = cc
    by false b e h k = cc

parenthesis_no_word : (c : Class) → fits want.Parenthesis c ≡ true → is_word c ≡ true → ⊥
parenthesis_no_word class.LeftParenthesis e h = cc
parenthesis_no_word class.NameParenthesis e h = cc
parenthesis_no_word _ e h = cc

atom_is_element : (c : Class) → fits want.Atom c ≡ true → fits want.Element c ≡ true
atom_is_element class.LeftBracket e = refl
atom_is_element c e = e

-- two classes with one number are of words or not alike
abbrev alike : Class → Class → Bool
alike c d = cond (code c == code d) (cond (is_word c) (is_word d) true) true

all_alike : (c d : Class) → alike c d ≡ true
all_alike c d = each_is (alike c) (each_is (λ (x : Class). each (alike x)) refl c) d

one_word : (w c d : Class) → fits (want.One w) c ≡ true → fits (want.One w) d ≡ true → is_word c ≡ true → is_word d ≡ true
one_word w c d e f h =
    let same : (code c == code d) ≡ true = subst (λ (n : ℕ). (n == code d) ≡ true) (eqb-true (code w) (code c) e) f in
    by (code c == code d) (is_word c) (is_word d) same h (all_alike c d)
  where
    by : (a b x : Bool) → a ≡ true → b ≡ true → cond a (cond b x true) true ≡ true → x ≡ true
    by true true x s h k = k
    by true false x s h k = absurd cc
    by false b x s h k = absurd cc

pub place_of_word : (w : Expected) (c d : Class) → fits w c ≡ true → fits w d ≡ true → is_word c ≡ true → is_word d ≡ true
place_of_word (want.One x) c d e f h = one_word x c d e f h
place_of_word want.Word c d e f h = f
place_of_word want.Name c d e f h = f
place_of_word want.OptionName c d e f h = f
place_of_word want.Constant c d e f h = f
place_of_word want.ValueName c d e f h = value_is_word d f
place_of_word want.Label c d e f h = label_is_word d f
place_of_word want.Text c d e f h = absurd (text_no_word c e h)
place_of_word want.Atom c d e f h = absurd (element_no_word c (atom_is_element c e) h)
place_of_word want.Element c d e f h = absurd (element_no_word c e h)
place_of_word want.Nothing c d e f h = absurd cc
place_of_word want.Parenthesis c d e f h = absurd (parenthesis_no_word c e h)
place_of_word want.Modifier c d e f h = modifier_is_word d f

-- ---- the tree

-- a language changes the class of no word
class_as_word : (p : Profile) (c : Class) → is_word (class_as p c) ≡ is_word c
class_as_word profile.AsWritten class.LeftParenthesis = refl
class_as_word profile.AsWritten _ = refl
class_as_word profile.Core c = refl

-- what fits a place fits it in each language, where that does not want a token whose class is another as written
fits_in : (p : Profile) (w : Expected) (c : Class) → is_changed w ≡ false → fits w c ≡ true → fits w (class_as p c) ≡ true
fits_in profile.AsWritten w c e h = still_fits w c e h
fits_in profile.Core w c e h = h

kind_there : (p : Profile) (c : Change) (n : ℕ) (m : Mark) (l : Lexeme) (w : List ℕ) → ((w : List ℕ) → c m.at ≡ Some w → fits m.want (class_by Word w) ≡ true) → n ≡ m.at → c n ≡ Some w → fits m.want (class_as p (class_by l.kind l.text)) ≡ true → l.kind ≡ Word
kind_there p c n m l w suits at e fit =
    words_only l.kind l.text (sym (class_as_word p (class_by l.kind l.text)) ∙ place_of_word m.want (class_by Word w) (class_as p (class_by l.kind l.text)) (suits w (ap c (sym at) ∙ e)) fit (word_is_word w))

fits_words : (p : Profile) (c : Change) (n : ℕ) (ms : List Mark) (ls : List Lexeme) → any_changed ms ≡ false → Suits c ms → Fit ms (classes_in p n ls) → Fit ms (classes_in p n (changed c n ls))
fits_words p c n [] [] e g h = tt
fits_words p c n [] (l ∷ ls) e g h = absurd h
fits_words p c n (m ∷ ms) [] e g h = absurd h
fits_words p c n (m ∷ ms) (l ∷ ls) u g h = (by (c n) refl, h.1, fits_words p c (suc n) ms ls (second_false (is_changed m.want) (any_changed ms) u) g.1 h.2)
  where
    by : (o : Option (List ℕ)) → c n ≡ o → fits m.want (class_as p (class_by l.kind (or_word o l.text))) ≡ true
    by None e = h.0
    by (Some v) e = subst (λ (k : TokenKind). fits m.want (class_as p (class_by k v)) ≡ true) (sym (kind_there p c n m l v g.0 h.1 e h.0)) (fits_in p m.want (class_by Word v) (first_false (is_changed m.want) (any_changed ms) u) (g.0 v (ap c (sym h.1) ∙ e)))

are_words : (p : Profile) (c : Change) → PutsWords c → (n : ℕ) (ms : List Mark) (ls : List Lexeme) → Suits c ms → Fit ms (classes_in p n ls) → AreWords c n ls
are_words p c run n [] [] g h = tt
are_words p c run n [] (l ∷ ls) g h = absurd h
are_words p c run n (m ∷ ms) [] g h = tt
are_words p c run n (m ∷ ms) (l ∷ ls) g h = ((λ w e. (kind_there p c n m l w g.0 h.1 e h.0, run n w e)), are_words p c run (suc n) ms ls g.1 h.2)

-- ---- braces

opens_none : (d : ℕ) (k : Class) → is_word k ≡ true → open_after d k ≡ d
opens_none d class.Open e = absurd cc
opens_none d class.Close e = absurd cc
opens_none d _ e = refl

open_same : (p : Profile) (c : Change) (n d k : ℕ) (ms : List Mark) (ls : List Lexeme) → Suits c ms → Fit ms (classes_in p n ls) → open_from d (take k (classes_in p n (changed c n ls))) ≡ open_from d (take k (classes_in p n ls))
open_same p c n d zero ms ls g h = refl
open_same p c n d (suc k) ms [] g h = refl
open_same p c n d (suc k) [] (l ∷ ls) g h = absurd h
open_same p c n d (suc k) (m ∷ ms) (l ∷ ls) g h =
    ap (λ (x : ℕ). open_from x (take k (classes_in p (suc n) (changed c (suc n) ls)))) (by (c n) refl) ∙ open_same p c (suc n) (open_after d (class_as p (class_by l.kind l.text))) k ms ls g.1 h.2
  where
    by : (o : Option (List ℕ)) → c n ≡ o → open_after d (class_as p (class_by l.kind (or_word o l.text))) ≡ open_after d (class_as p (class_by l.kind l.text))
    by None e = refl
    by (Some v) e =
        let there = kind_there p c n m l v g.0 h.1 e h.0 in
        opens_none d (class_as p (class_by l.kind v)) (class_as_word p (class_by l.kind v) ∙ (words_have_word_classes l.kind v).0 there) ∙ sym (opens_none d (class_as p (class_by l.kind l.text)) (class_as_word p (class_by l.kind l.text) ∙ (words_have_word_classes l.kind l.text).0 there))

same_length : (p : Profile) (c : Change) (n : ℕ) (ls : List Lexeme) → length (classes_in p n (changed c n ls)) ≡ length (classes_in p n ls)
same_length p c n [] = refl
same_length p c n (l ∷ ls) = ap suc (same_length p c (suc n) ls)

pub words_keep_trees_in : (p : Profile) → WordsKeepTreesIn p
words_keep_trees_in p c t ls g h = (
  record { well_formed = h.well_formed; fits = fits_words p c 0 (flat t) ls (tree_core t).unchanged g h.fits },
  λ s k lt. subst (λ (x : ℕ). x ≤ 32) (sym (open_same p c 0 0 k (flat t) ls g h.fits)) (s k (omega (arith, lt, same_length p c 0 ls))),
)

pub words_come_for_words_in : (p : Profile) → WordsComeForWordsIn p
words_come_for_words_in p c t ls g run h = are_words p c run 0 (flat t) ls g h.fits

pub edits_keep_trees_in : (p : Profile) → EditsKeepTreesIn p
edits_keep_trees_in p c text tokens t g run r =
    let ls = map (lexeme_at text) tokens in
    let put = words_are_put text tokens c r.tokens_are (words_come_for_words_in p c t ls g run r.spells) in
    let kept = words_keep_trees_in p c t ls g r.spells in (
      put.0,
      put.1,
      put.2,
      record {
        tokens_are = put.2.lexed;
        spells = subst (λ (s : List Lexeme). Spells t (classes_in p 0 s)) (sym put.2.words) kept.0;
        shallow = subst (λ (s : List Lexeme). IsShallow (classes_in p 0 s)) (sym put.2.words) (kept.1 r.shallow);
      },
    )

-- ---- the same in the core language

pub words_keep_trees : WordsKeepTrees
words_keep_trees = words_keep_trees_in profile.Core

pub words_come_for_words : WordsComeForWords
words_come_for_words = words_come_for_words_in profile.Core

pub edits_keep_trees : EditsKeepTrees
edits_keep_trees = edits_keep_trees_in profile.Core
