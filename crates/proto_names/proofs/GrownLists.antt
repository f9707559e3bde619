-- Lists of references that were grown by empty ones.
use Rattle.std.proofs.Common.{◌≡◌, ℕ, ◌≤◌, List, length, take, max, ◌∙◌, sym, ap, arith, length-append}
use Rattle.proto_base.proofs.Common.{Vec}
use Rattle.proto_base.specs.Undone.{AddedAreCut, undone}
use Rattle.proto_base.specs.declared.changes.Change.{Change}
use Rattle.proto_names_affected.specs.Renewed.{AreGrown}
use Rattle.proto_names.specs.Common.{RefId}

module _ (cut : AddedAreCut (Vec RefId)) (old grown : List (Vec RefId)) (more : AreGrown old grown) where
  pub not_less : length old ≤ length grown
  not_less = omega (arith, ap length more.behind, length-append old more.added)

  -- the changes of the lists that there were are taken back all the same
  pub cut_grown : (log : List (Change (Vec RefId))) (count : ℕ) → count ≤ length old → take count (undone log grown) ≡ take count (undone log old)
  cut_grown log count within = ap (λ z. take count (undone log z)) more.behind ∙ cut log old more.added count within

  -- there is one for each row
  pub paired_now : (asked rows : ℕ) {size : ℕ} → asked ≡ size → rows ≡ size → (before : ℕ) → length old ≡ before → before ≤ rows → length grown ≡ max (length old) asked → length grown ≡ rows
  paired_now asked rows a r before paired less grown_is = grown_is ∙ max_is (length old) asked (omega (arith, a, r, paired, less)) ∙ a ∙ sym r
    where
      max_is : (m n : ℕ) → m ≤ n → max m n ≡ n
      max_is m n l = omega (arith, l)
