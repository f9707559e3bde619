-- Marks of what references mean.
use Rattle.std.proofs.Common.{◌≡◌, ◌⊎◌, ◌↔◌, ℕ, ◌+◌, ◌<◌, Bool, true, false, List, [], ◌∷◌, ◌++◌, length, get_or, take, Option, None, Some, refl, sym, ◌∙◌, ap, subst, inl, inr, arith, slice_set, get_or-set_same, get_or-set_other, length-set}
use Rattle.proto_base.proofs.Common.{cases_eq, Contains-append_left, Contains-append_right, Contains-append_cases, none-some, same_Some, contains_cases, contains_head}
use Rattle.proto_names_imports.proofs.Common.{IsMarked, take_more}
use Rattle.proto_names.specs.Linking.{LinkOf, declaring_file}
use Rattle.proto_names.specs.Linking.{Meant}
use Rattle.proto_lint.specs.ImportTables.{MarksMeant, MeansIn, with_mark}

marked_cases : (marks : List Bool) (o : Option ℕ) (g : ℕ) → IsMarked (with_mark marks o) g → IsMarked marks g ⊎ (o ≡ Some g)
marked_cases marks None g h = inl h
marked_cases marks (Some f) g h = elim (cases_eq g f) [
  | inl e ↦ inr (ap (λ n. Some n) (sym e))
  | inr ne ↦ inl (sym (get_or-set_other marks f g true false ne) ∙ h)
]

kept : (marks : List Bool) (o : Option ℕ) (g : ℕ) → g < length marks → IsMarked marks g → IsMarked (with_mark marks o) g
kept marks None g l h = h
kept marks (Some f) g l h = elim (cases_eq g f) [
  | inl e ↦ subst (λ n. IsMarked (slice_set marks n true) g) e (get_or-set_same marks g true false l)
  | inr ne ↦ get_or-set_other marks f g true false ne ∙ h
]

newly : (marks : List Bool) (o : Option ℕ) (g : ℕ) → g < length marks → o ≡ Some g → IsMarked (with_mark marks o) g
newly marks None g l h = absurd (none-some g h)
newly marks (Some f) g l h = subst (λ n. IsMarked (slice_set marks n true) g) (sym (same_Some f g h)) (get_or-set_same marks g true false l)

pub with_mark_length : (marks : List Bool) (o : Option ℕ) → length (with_mark marks o) ≡ length marks
with_mark_length marks None = refl
with_mark_length marks (Some f) = length-set marks f true

marks_one : (l : LinkOf) (done all : List Meant) (m : Meant) (count : ℕ) (old new : List Bool) → all ≡ done ++ m ∷ [] → length old ≡ count → MarksMeant l done count old → new ≡ with_mark old (declaring_file l m.row) → MarksMeant l all count new
marks_one l done all m count old new more sized before is g within =
    subst (λ (ms : List Bool). IsMarked ms g ↔ MeansIn l (all) g) (sym is)
    (subst (λ (xs : List Meant). IsMarked (with_mark old (declaring_file l m.row)) g ↔ MeansIn l xs g) (sym more) (yes, no))
  where
    yes : IsMarked (with_mark old (declaring_file l m.row)) g → MeansIn l (done ++ m ∷ []) g
    yes h = elim (marked_cases old (declaring_file l m.row) g h) [
      | inl k ↦ let x = (before g within).0 k in (x.0, Contains-append_left (done) (m ∷ []) x.0 x.1, x.2)
      | inr e ↦ (m, Contains-append_right (done) (m ∷ []) m (contains_head m []), e)
    ]

    no : MeansIn l (done ++ m ∷ []) g → IsMarked (with_mark old (declaring_file l m.row)) g
    no (x, c, e) = elim (Contains-append_cases (done) (m ∷ []) x c) [
      | inl a ↦ kept old (declaring_file l m.row) g (omega (arith, within, sized)) ((before g within).1 (x, a, e))
      | inr b ↦ elim (contains_cases m x [] b) [
        | inl same ↦ newly old (declaring_file l m.row) g (omega (arith, within, sized)) (ap (λ (y : Meant). declaring_file l y.row) same ∙ e)
        | inr n ↦ absurd (omega (arith, n.1))
      ]
    ]

-- one reference more
pub marks_more : (l : LinkOf) (means : List Meant) (i : ℕ) (d : Meant) (count : ℕ) (old new : List Bool) → i < length means → length old ≡ count → MarksMeant l (take i means) count old
    → new ≡ with_mark old (declaring_file l (get_or means i d).row) → MarksMeant l (take (i + 1) means) count new
marks_more l means i d count old new lt sized before is = one_more (get_or means i d) (take_more means i d lt) is
  where
    one_more : (m : Meant) → take (i + 1) means ≡ take i means ++ m ∷ [] → new ≡ with_mark old (declaring_file l m.row) → MarksMeant l (take (i + 1) means) count new
    one_more m more is g within = marks_one l (take i means) (take (i + 1) means) m count old new more sized before is g within
