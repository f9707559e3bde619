-- References mean what is kept of them.
use Rattle.std.proofs.Common.{◌≡◌, ℕ, suc, ◌<◌, List, [], ◌∷◌, length, get_or, sym, subst, arith, Contains}
use Rattle.proto_files.proofs.Common.{FileOf}
use Rattle.proto_names.specs.Linking.{LinkOf, Meant}
use Rattle.proto_desc_affected.specs.Checked.{AreMeantStill, DoesMeanStill, IsKeptStill, IsMeantStill, FileSummaryOf, TypeUseOf, nothing_kept}

module _ (places : List ℕ) (files : List FileOf) (l : LinkOf) (ks : List FileSummaryOf) (by : FileSummaryOf) where
  -- so it is of as many as there are, one for one
  pub all_meant_still : (means : List TypeUseOf) (ms : List Meant) → length means ≡ length ms
      → ((j : ℕ) → j < length ms → (k : TypeUseOf) (m : Meant) → IsMeantStill places files l ks by (get_or means j k) (get_or ms j m)) → AreMeantStill places files l ks by means ms
  all_meant_still [] [] n h = tt
  all_meant_still [] (m ∷ ms) n h = absurd (omega (arith, n))
  all_meant_still (k ∷ means) [] n h = absurd (omega (arith, n))
  all_meant_still (k ∷ means) (m ∷ ms) n h = (h 0 (omega arith) k m, all_meant_still means ms (omega (arith, n)) (λ j d x y. h (suc j) (omega (arith, d)) x y))

-- a file that is not edited, by what is kept of it
pub kept_still : (places : List ℕ) (files : List FileOf) (l : LinkOf) (ks : List FileSummaryOf) (k : FileSummaryOf) (file : ℕ) → file < length files → (Contains places file → ⊥) → get_or ks file nothing_kept ≡ k → DoesMeanStill places files l ks file k → IsKeptStill places files l ks file
kept_still places files l ks k file within left here means = record { within = within; left = left; means = subst (DoesMeanStill places files l ks file) (sym here) means }
