-- Items begin and end at seams: what stands before an item is a semicolon or a brace, and so is its last token (for the crates above).
use Rattle.std.proofs.Common.{◌≡◌, inl, inr, ℕ, suc, ◌+◌, true, List, [], ◌∷◌, ◌++◌, length, map, refl, sym, ap, subst, ◌∙◌, arith, append_assoc, length-append}
use Rattle.std.proofs.lemmas.List.{length-map}
use Rattle.proto_text.specs.declared.kind.TokenKind.{TokenKind}
use Rattle.proto_text.specs.declared.kind.TokenKind.TheVariants.{Word, Number, Text, Punctuation}
use Rattle.proto_text.specs.declared.lexer.Token.{Token}
use Rattle.proto_text.proofs.Common.{EndsByItself, IsSeam, lexeme_at}
use Rattle.proto_tree.specs.declared.class.Class.{Class}
use Rattle.proto_tree.specs.declared.class.Class.TheVariants as class
use Rattle.proto_tree.specs.declared.class.Expected.TheVariants as want
use Rattle.proto_tree.specs.declared.context.Context.TheVariants as context
use Rattle.proto_tree.proofs.Common.{is_word, fits, Mark, one, Fit, flat, class_by, word_is_word, place_of_word, classes_in}
pub use Rattle.proto_tree.proofs.MarkLaws.{fit_length_in as fit_long}
use Rattle.proto_edit_statement_laws.specs.Common.{before, PlacesAreSeams}
use Rattle.proto_edit_statement_laws.proofs.Endings.{is_end, IsApart, apart_then, tree_apart}
use Rattle.proto_edit_statement_laws.proofs.Exchanged.{around}
use Rattle.proto_tree.specs.Words.{class_as}
use Rattle.proto_base.specs.declared.profile.Profile.{Profile}
use Rattle.proto_base.specs.declared.profile.Profile.TheVariants.{AsWritten, Core}
use Rattle.proto_names_outline.proofs.ReadTrees.{same_word}

-- ---- a token that a semicolon or a brace wants ends by itself

end_no_word : (c : Class) → is_end c ≡ true → is_word c ≡ true → ⊥
end_no_word class.Semicolon e h = cc
end_no_word class.Open e h = cc
end_no_word class.Close e h = cc
end_no_word _ e h = cc

end_is : (c : Class) → is_end c ≡ true → fits (want.One c) c ≡ true
end_is class.Semicolon e = refl
end_is class.Open e = refl
end_is class.Close e = refl
end_is _ e = absurd cc

end_no_number : (c : Class) → is_end c ≡ true → fits (want.One c) class.Number ≡ true → ⊥
end_no_number class.Semicolon e h = cc
end_no_number class.Open e h = cc
end_no_number class.Close e h = cc
end_no_number _ e h = cc

number_is : (profile : Profile) → class_as profile class.Number ≡ class.Number
number_is AsWritten = refl
number_is Core = refl

ends_by_itself : (profile : Profile) (c : Class) (k : TokenKind) (w : List ℕ) → is_end c ≡ true → fits (want.One c) (class_as profile (class_by k w)) ≡ true → EndsByItself k
ends_by_itself profile c Word w e h = end_no_word c e (place_of_word (want.One c) (class_as profile (class_by Word w)) c h (end_is c e) (same_word profile (class_by Word w) ∙ word_is_word w))
ends_by_itself profile c Number w e h = end_no_number c e (subst (λ (k : Class). fits (want.One c) k ≡ true) (number_is profile) h)
ends_by_itself profile c Text w e h = tt
ends_by_itself profile c Punctuation w e h = tt

pub seam_behind : (profile : Profile) (source : List ℕ) (ts : List Token) (n : ℕ) (init : List Mark) (c : Class) (k : ℕ) (back : List Mark) → is_end c ≡ true → Fit (init ++ (one c k ++ back)) (classes_in profile n (map (lexeme_at source) ts)) → IsSeam ts (suc (length init))
seam_behind profile source [] n [] c k back e h = absurd h
seam_behind profile source [] n (m ∷ init) c k back e h = absurd h
seam_behind profile source (t ∷ ts) n [] c k back e h = ends_by_itself profile c t.kind _ e h.0
seam_behind profile source (t ∷ ts) n (m ∷ init) c k back e h = seam_behind profile source ts (suc n) init c k back e h.2

pub seam_at : (profile : Profile) (source : List ℕ) (ts : List Token) (front back : List Mark) (n : ℕ) → IsApart front → length front ≡ n → Fit (front ++ back) (classes_in profile 0 (map (lexeme_at source) ts)) → IsSeam ts n
seam_at profile source ts front back n (inl e) at h = subst (IsSeam ts) (sym (ap (λ (z : List Mark). length z) e) ∙ at) tt
seam_at profile source ts front back n (inr k) at h =
    let i : suc (length k.init) ≡ n = omega (arith, at, ap (λ (z : List Mark). length z) k.parts, length-append k.init (one k.last k.at)) in
    subst (IsSeam ts) i (seam_behind profile source ts 0 k.init k.last k.at back k.is (subst (λ (z : List Mark). Fit z (classes_in profile 0 (map (lexeme_at source) ts))) (ap (λ (z : List Mark). z ++ back) k.parts ∙ append_assoc k.init (one k.last k.at) back) h))

pub places_are_seams : PlacesAreSeams
places_are_seams profile source ts g a b t u r reads =
    let s = around g a b context.Start t u r in
    let fit = subst (λ (z : List Mark). Fit z (classes_in profile 0 (map (lexeme_at source) ts))) s.old reads.spells.fits in
    let whole = subst (λ (z : List Mark). Fit z (classes_in profile 0 (map (lexeme_at source) ts))) (sym (append_assoc s.front (flat a) s.back)) fit in
    let both : length (s.front ++ flat a) ≡ before r + length (flat a) = length-append s.front (flat a) ∙ ap (λ (n : ℕ). n + length (flat a)) s.long in
    let all : length ts ≡ length ((s.front ++ flat a) ++ s.back) = sym (length-map ts (lexeme_at source)) ∙ sym (fit_long profile 0 ((s.front ++ flat a) ++ s.back) (map (lexeme_at source) ts) whole) in
    (seam_at profile source ts s.front (flat a ++ s.back) (before r) s.apart s.long fit, seam_at profile source ts (s.front ++ flat a) s.back (before r + length (flat a)) (apart_then s.front (flat a) s.apart (tree_apart a)) both whole, omega (arith, all, both, length-append (s.front ++ flat a) s.back))
