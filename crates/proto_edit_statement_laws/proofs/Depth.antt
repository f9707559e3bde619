-- Tokens that leave the depth of braces, and tokens without a brace.
use Rattle.std.proofs.Common.{◌≡◌, ℕ, zero, suc, ◌+◌, ◌-◌, ◌<◌, ◌≤◌, ◌⊎◌, inl, inr, false, List, [], ◌∷◌, ◌++◌, length, take, refl, sym, ap, subst, ◌∙◌, arith, length-append}
use Rattle.std.proofs.lemmas.Bool.{cases_lt}
use Rattle.proto_text.specs.Tokens.{Lexeme}
use Rattle.proto_tree.specs.declared.class.Class.{Class}
use Rattle.proto_tree.specs.declared.class.Class.TheVariants as class
use Rattle.proto_tree.specs.declared.class.Lexeme.{Lexeme as Classed}
use Rattle.proto_tree.proofs.Common.{is_brace, open_after, open_from, IsShallow, class_by, classes-length_in, classes_in}
use Rattle.proto_edit_statement_laws.specs.Reading.{DepthIsKept, HaveNoBrace, LeaveDepth}
use Rattle.proto_tree.specs.Words.{class_as}
use Rattle.proto_base.specs.declared.profile.Profile.{Profile}
use Rattle.proto_base.specs.declared.profile.Profile.TheVariants.{AsWritten, Core}

-- braces open behind tokens, whatever their indices
pub opens : ℕ → List Lexeme → ℕ
opens d [] = d
opens d (l ∷ ls) = opens (open_after d (class_by l.kind l.text)) ls

-- braces are of one class in both languages
open_as : (profile : Profile) (d : ℕ) (c : Class) → open_after d (class_as profile c) ≡ open_after d c
open_as AsWritten d class.LeftParenthesis = refl
open_as AsWritten d _ = refl
open_as Core d c = refl

pub opens_is : (profile : Profile) (d n : ℕ) (ls : List Lexeme) → open_from d (classes_in profile n ls) ≡ opens d ls
unfolding opens
opens_is profile d n [] = refl
opens_is profile d n (l ∷ ls) = ap (λ e. open_from e (classes_in profile (suc n) ls)) (open_as profile d (class_by l.kind l.text)) ∙ opens_is profile (open_after d (class_by l.kind l.text)) (suc n) ls

opens_append : (d : ℕ) (x y : List Lexeme) → opens d (x ++ y) ≡ opens (opens d x) y
unfolding opens
opens_append d [] y = refl
opens_append d (l ∷ x) y = opens_append (open_after d (class_by l.kind l.text)) x y

calm_step : (c : Class) (d : ℕ) → is_brace c ≡ false → open_after d c ≡ d
calm_step class.Open d e = absurd cc
calm_step class.Close d e = absurd cc
calm_step _ d e = refl

calm_take : (d k : ℕ) (x : List Lexeme) → HaveNoBrace x → opens d (take k x) ≡ d
unfolding opens
calm_take d zero x h = refl
calm_take d (suc k) [] h = refl
calm_take d (suc k) (l ∷ x) h = ap (λ e. opens e (take k x)) (calm_step (class_by l.kind l.text) d h.0) ∙ calm_take d k x h.1

leaves_all : (d : ℕ) (x : List Lexeme) → LeaveDepth x → opens d x ≡ d
leaves_all d x h = sym (opens_is Core d 0 x) ∙ h d

calm_all : (d : ℕ) (x : List Lexeme) → HaveNoBrace x → opens d x ≡ d
unfolding opens
calm_all d [] h = refl
calm_all d (l ∷ x) h = ap (λ e. opens e x) (calm_step (class_by l.kind l.text) d h.0) ∙ calm_all d x h.1

take_classes : (profile : Profile) (n k : ℕ) (ls : List Lexeme) → take k (classes_in profile n ls) ≡ classes_in profile n (take k ls)
take_classes profile n zero ls = refl
take_classes profile n (suc k) [] = refl
take_classes profile n (suc k) (l ∷ ls) = ap (λ (x : List Classed). record { class = class_as profile (class_by l.kind l.text); at = n } ∷ x) (take_classes profile (suc n) k ls)

-- shallow without indices
abbrev Flat : List Lexeme → Type 0
Flat ls = (k : ℕ) → k ≤ length ls → opens 0 (take k ls) ≤ 32

to_flat : (profile : Profile) (ls : List Lexeme) → IsShallow (classes_in profile 0 ls) → Flat ls
to_flat profile ls h k le = subst (λ (n : ℕ). n ≤ 32) (ap (open_from 0) (take_classes profile 0 k ls) ∙ opens_is profile 0 0 (take k ls)) (h k (omega (arith, le, classes-length_in profile 0 ls)))

from_flat : (profile : Profile) (ls : List Lexeme) → Flat ls → IsShallow (classes_in profile 0 ls)
from_flat profile ls h k le = subst (λ (n : ℕ). n ≤ 32) (sym (ap (open_from 0) (take_classes profile 0 k ls) ∙ opens_is profile 0 0 (take k ls))) (h k (omega (arith, le, classes-length_in profile 0 ls)))

take_past : (n k : ℕ) (x y : List Lexeme) → n ≡ length x + k → take n (x ++ y) ≡ x ++ take k y
take_past n k [] y e = ap (λ (i : ℕ). take i y) (omega (arith, e))
take_past zero k (l ∷ x) y e = absurd (omega (arith, e))
take_past (suc n) k (l ∷ x) y e = ap (λ (z : List Lexeme). l ∷ z) (take_past n k x y (omega (arith, e)))

take_within : (n : ℕ) (x y : List Lexeme) → n ≤ length x → take n (x ++ y) ≡ take n x
take_within zero x y le = refl
take_within (suc n) [] y le = absurd (omega (arith, le))
take_within (suc n) (l ∷ x) y le = ap (λ (z : List Lexeme). l ∷ z) (take_within n x y (omega (arith, le)))

pub depth_is_kept : DepthIsKept
depth_is_kept profile front old new back calm_old calm_new h = from_flat profile (front ++ (new ++ back)) (λ k le. by k le (cases_lt (length front) k))
  where
    was : Flat (front ++ (old ++ back))
    was = to_flat profile (front ++ (old ++ back)) h

    long : (x : List Lexeme) → length (front ++ (x ++ back)) ≡ length front + (length x + length back)
    long x = length-append front (x ++ back) ∙ ap (λ (n : ℕ). length front + n) (length-append x back)

    whole : opens 0 front ≤ 32
    whole = subst (λ (n : ℕ). n ≤ 32) (ap (opens 0) (take_within (length front) front (old ++ back) (omega arith) ∙ all front)) (was (length front) (omega (arith, long old)))
      where
        all : (x : List Lexeme) → take (length x) x ≡ x
        all [] = refl
        all (l ∷ x) = ap (λ (z : List Lexeme). l ∷ z) (all x)

    behind : (m : ℕ) → m ≤ length back → opens (opens 0 front) (take m back) ≤ 32
    behind m le =
        let e : take (length front + (length old + m)) (front ++ (old ++ back)) ≡ front ++ (old ++ take m back) = take_past (length front + (length old + m)) (length old + m) front (old ++ back) refl ∙ ap (λ (z : List Lexeme). front ++ z) (take_past (length old + m) m old back refl) in
        let f : opens 0 (front ++ (old ++ take m back)) ≡ opens (opens 0 front) (take m back) = opens_append 0 front (old ++ take m back) ∙ opens_append (opens 0 front) old (take m back) ∙ ap (λ (d : ℕ). opens d (take m back)) (leaves_all (opens 0 front) old calm_old) in
        subst (λ (n : ℕ). n ≤ 32) (ap (opens 0) e ∙ f) (was (length front + (length old + m)) (omega (arith, le, long old)))

    past : (k m : ℕ) → k ≡ length front + m → m ≤ length new + length back → (length new < m) ⊎ (m ≤ length new) → opens 0 (take k (front ++ (new ++ back))) ≤ 32
    past k m e le (inr small) =
        let f = ap (opens 0) (take_past k m front (new ++ back) e ∙ ap (λ (z : List Lexeme). front ++ z) (take_within m new back small)) ∙ opens_append 0 front (take m new) ∙ calm_take (opens 0 front) m new calm_new in
        subst (λ (n : ℕ). n ≤ 32) (sym f) whole
    past k m e le (inl big) =
        let i : m ≡ length new + (m - length new) = omega (arith, big) in
        let f = ap (opens 0) (take_past k m front (new ++ back) e ∙ ap (λ (z : List Lexeme). front ++ z) (take_past m (m - length new) new back i)) ∙ opens_append 0 front (new ++ take (m - length new) back) ∙ opens_append (opens 0 front) new (take (m - length new) back) ∙ ap (λ (d : ℕ). opens d (take (m - length new) back)) (calm_all (opens 0 front) new calm_new) in
        subst (λ (n : ℕ). n ≤ 32) (sym f) (behind (m - length new) (omega (arith, le, big)))

    by : (k : ℕ) → k ≤ length (front ++ (new ++ back)) → (length front < k) ⊎ (k ≤ length front) → opens 0 (take k (front ++ (new ++ back))) ≤ 32
    by k le (inr small) = subst (λ (n : ℕ). n ≤ 32) (ap (opens 0) (take_within k front (old ++ back) small ∙ sym (take_within k front (new ++ back) small))) (was k (omega (arith, small, long old)))
    by k le (inl big) = past k (k - length front) (omega (arith, big)) (omega (arith, le, big, long new)) (cases_lt (length new) (k - length front))
