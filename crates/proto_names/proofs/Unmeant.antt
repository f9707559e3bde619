-- A name that no file declares has no references.
use Rattle.std.proofs.Common.{◌≡◌, ℕ, suc, ◌<◌, ◌==◌, cond, List, [], ◌∷◌, ◌++◌, length, get_or, map, None, Some, sym, ◌∙◌, ap, ap₂, inl, inr, arith, refl, All, filter, eqb-true}
use Rattle.proto_base.proofs.Common.{cases_Bool, none-some}
use Rattle.proto_names.proofs.MeantBy.{references_more}
use Rattle.proto_names.specs.Common.{LinkOf, Meant, MeantBy, NameOf, RefId, all_meant, meant_in_file, name_at, references_to}

module _ (row : ℕ) where
  abbrev IsOther : Meant → Type 0
  IsOther m = m.row ≡ row → ⊥

  none_in_file : (file : ℕ) (ms : List Meant) → All IsOther ms → references_to row (map (meant_in_file file) ms) ≡ []
  none_in_file file [] other = refl
  none_in_file file (m ∷ ms) other = elim (cases_Bool (m.row == row)) [
    | inl same ↦ absurd (other 0 m (omega arith) (eqb-true m.row row same))
    | inr not_same ↦
        ap (λ b. map (λ (x : MeantBy). x.reference) (cond b (meant_in_file file m ∷ filter (λ (x : MeantBy). x.row == row) (map (meant_in_file file) ms)) (filter (λ (x : MeantBy). x.row == row) (map (meant_in_file file) ms)))) not_same
        ∙ none_in_file file ms (λ k d l. other (suc k) d (omega (arith, l)))
  ]

  none_in_files : (n : ℕ) (mss : List (List Meant)) → ((k : ℕ) → k < length mss → All IsOther (get_or mss k [])) → references_to row (all_meant n mss) ≡ []
  none_in_files n [] other = refl
  none_in_files n (ms ∷ mss) other =
      references_more row (map (meant_in_file n) ms) (all_meant (suc n) mss)
      ∙ ap₂ (λ (xs ys : List RefId). xs ++ ys) (none_in_file n ms (other 0 (omega arith))) (none_in_files (suc n) mss (λ k l. other (suc k) (omega (arith, l))))

-- each reference means a name that a file declares
pub no_references : (l : LinkOf) (row : ℕ) → name_at l row ≡ None → ((file : ℕ) → file < length l.meant → All (λ m. (n : NameOf) × (name_at l m.row ≡ Some n)) (get_or l.meant file [])) → references_to row (all_meant 0 l.meant) ≡ []
no_references l row none within = none_in_files row 0 l.meant (λ k lk j d lj same.
    (let n = within k lk j d lj in
    none-some n.0 (sym none ∙ ap (name_at l) (sym same) ∙ n.1)))
