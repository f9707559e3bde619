-- Files are read in one way (for the crates above).
use Rattle.std.proofs.Common.{◌≡◌, ℕ, suc, ◌<◌, List, [], ◌∷◌, length, slice_index_or, refl, sym, ap, subst, ◌∙◌, arith}
use Rattle.proto_base.specs.declared.profile.Profile.{Profile}
use Rattle.proto_text.specs.declared.lexer.Token.{Token}
use Rattle.proto_text.proofs.Common.{AreTokens, one_token_list}
use Rattle.proto_tree.proofs.Common.{Tree, Spells, ReadsIn, classed_in, one_tree}
use Rattle.proto_files.specs.Common.{FileOf, file_at, ReadOf, read_at, AreRead}

pub one_reading : (p : Profile) (text : List ℕ) (a b : ReadOf) → ReadsIn p text a.tokens a.tree → ReadsIn p text b.tokens b.tree → a ≡ b
one_reading p text a b x y =
    let same = one_token_list text a.tokens b.tokens x.tokens_are y.tokens_are in
    let tree = one_tree a.tree b.tree (classed_in p text b.tokens) (subst (λ (z : List Token). Spells a.tree (classed_in p text z)) same x.spells) y.spells in
    ap (λ (z : List Token). let r : ReadOf = record { tokens = z; tree = a.tree } in r) same ∙ ap (λ (t : Tree). let r : ReadOf = record { tokens = b.tokens; tree = t } in r) tree

-- lists of one length with the same elements
same_list : {A : Type 0} (d : A) (xs ys : List A) → length xs ≡ length ys → ((k : ℕ) → k < length xs → slice_index_or xs k d ≡ slice_index_or ys k d) → xs ≡ ys
same_list d [] [] e h = refl
same_list d [] (y ∷ ys) e h = absurd (omega (arith, e))
same_list d (x ∷ xs) [] e h = absurd (omega (arith, e))
same_list d (x ∷ xs) (y ∷ ys) e h = ap (λ z. z ∷ xs) (h 0 (omega arith)) ∙ ap (λ zs. y ∷ zs) (same_list d xs ys (omega (arith, e)) (λ k l. h (suc k) (omega (arith, l))))

module _ (files : List FileOf) where
  pub tokens_at : (reads : List ReadOf) → AreRead files reads → (k : ℕ) (tokens : List Token) → k < length files → AreTokens (file_at files k).bytes tokens → tokens ≡ (read_at reads k).tokens
  tokens_at reads r k tokens l t = one_token_list (file_at files k).bytes tokens (read_at reads k).tokens t (r.tokens k l)

  pub read_once : (a b : List ReadOf) → AreRead files a → AreRead files b → a ≡ b
  read_once a b x y =
      same_list _ a b (x.same ∙ sym y.same)
      (λ k l. let in_files : k < length files = omega (arith, l, x.same) in one_reading (file_at files k).profile (file_at files k).bytes (read_at a k) (read_at b k) (x.trees k in_files) (y.trees k in_files))
