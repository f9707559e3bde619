-- The references to a name, as proto_names_affected has them, are those of a link.
use Rattle.std.proofs.Common.{◌≡◌, ℕ, suc, ◌==◌, List, [], ◌∷◌, ◌++◌, map, refl, sym, ◌∙◌, ap, ap₂, filter}
use Rattle.proto_base.proofs.Common.{filter-append, map-append}
use Rattle.proto_names_affected.specs.Referred.{MeantRow, all_meant_by, meant_row, references_to_row}
use Rattle.proto_names.proofs.LinkParts.{one_more}
use Rattle.proto_names.proofs.MeantBy.{references_more}
use Rattle.proto_names.specs.Common.{Meant, MeantBy, RefId, all_meant, meant_in_file, references_to}

module _ (row : ℕ) where
  in_file : (file : ℕ) (ms : List Meant) → references_to_row row (map (meant_row file) ms) ≡ references_to row (map (meant_in_file file) ms)
  in_file file [] = refl
  in_file file (m ∷ ms) =
      one_more (λ (x : MeantRow). x.row == row) (λ (x : MeantBy). x.row == row) (λ (x : MeantRow). x.reference) (λ (x : MeantBy). x.reference) (meant_row file m) (meant_in_file file m) (map (meant_row file) ms) (map (meant_in_file file) ms)
      refl refl (in_file file ms)

  in_files : (n : ℕ) (mss : List (List Meant)) → references_to_row row (all_meant_by meant_row n mss) ≡ references_to row (all_meant n mss)
  in_files n [] = refl
  in_files n (ms ∷ mss) =
      ap (map (λ (m : MeantRow). m.reference)) (filter-append (λ (m : MeantRow). m.row == row) (map (meant_row n) ms) (all_meant_by meant_row (suc n) mss))
      ∙ map-append (λ (m : MeantRow). m.reference) (filter (λ (m : MeantRow). m.row == row) (map (meant_row n) ms)) (filter (λ (m : MeantRow). m.row == row) (all_meant_by meant_row (suc n) mss))
      ∙ ap₂ (λ (xs ys : List RefId). xs ++ ys) (in_file n ms) (in_files (suc n) mss)
      ∙ sym (references_more row (map (meant_in_file n) ms) (all_meant (suc n) mss))

pub references_by_row : (row : ℕ) (mss : List (List Meant)) → references_to_row row (all_meant_by meant_row 0 mss) ≡ references_to row (all_meant 0 mss)
references_by_row row mss = in_files row 0 mss
