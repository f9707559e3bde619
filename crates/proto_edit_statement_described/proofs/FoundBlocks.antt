-- What is read of the first block that passes a test, in a file that loses a field: the same as before.
use Rattle.std.proofs.Common.{◌≡◌, ◌⊎◌, inl, inr, Bool, false, true, ℕ, List, [], ◌∷◌, ◌++◌, find, Option, Some, None, option_map, refl, sym, ◌∙◌, ap, ap₂, cond, true≢false}
use Rattle.proto_tree.specs.declared.piece.Header.{Header}
use Rattle.proto_tree.specs.declared.piece.Header.TheVariants as header
use Rattle.proto_tree.specs.declared.piece.Heading.{Heading}
use Rattle.proto_tree.specs.declared.tree.Field.{Field}
use Rattle.proto_tree.proofs.Common.{Move, move_header, move_tree, Tree, Block}
use Rattle.proto_ast.proofs.Common.{BlockOf, blocks_in}
use Rattle.proto_edit_statement_described.proofs.Common.{AtField, AtOneof, BehindBlock, BehindLeaf, Deeper, Found, FurtherOn, InMessage, IsAmong, IsDeletedIn, IsDeletedRight, PastBlock, PastLeaf, Reservation, WrittenField}
use Rattle.proto_desc_checks_laws.proofs.MovedParts.{blocks_moved, find_moved, move_block_of}

-- ---- the first that is found

abbrev pub or_else : {A : Type 0} → Option A → Option A → Option A
or_else None o = o
or_else (Some x) o = Some x

pub found_among : {A B : Type 0} (p : A → Bool) (f : A → B) (xs ys : List A) → option_map f (find p (xs ++ ys)) ≡ or_else (option_map f (find p xs)) (option_map f (find p ys))
found_among p f [] ys = refl
found_among {A} {B} p f (x ∷ xs) ys = by (p x) (found_among p f xs ys)
  where
    by : (b : Bool) → option_map f (find p (xs ++ ys)) ≡ or_else (option_map f (find p xs)) (option_map f (find p ys)) → option_map f (cond b (Some x) (find p (xs ++ ys))) ≡ or_else (option_map f (cond b (Some x) (find p xs))) (option_map f (find p ys))
    by true e = refl
    by false e = e

-- what is read within the first block whose header passes
abbrev pub first_read : {X : Type 0} → (Header → Bool) → (Tree → X) → Tree → Option X
first_read p f x = option_map (λ (b : BlockOf). f b.within) (find (λ (b : BlockOf). p b.header) (blocks_in x))

-- ---- moved tokens

module _ {X : Type 0} (g : Move) (p q : Header → Bool) (f h : Tree → X) (same_test : (y : Header) → q (move_header g y) ≡ p y) (same_read : (x : Tree) → h (move_tree g x) ≡ f x) where
  mapped_twice : (o : Option BlockOf) → option_map (λ (b : BlockOf). h b.within) (option_map (move_block_of g) o) ≡ option_map (λ (b : BlockOf). f b.within) o
  mapped_twice None = refl
  mapped_twice (Some b) = ap Some (same_read b.within)

  in_moved : (x : Tree) → first_read q h (move_tree g x) ≡ first_read p f x
  in_moved x =
      ap (λ (bs : List BlockOf). option_map (λ (b : BlockOf). h b.within) (find (λ (b : BlockOf). q b.header) bs)) (blocks_moved g x)
      ∙ ap (option_map (λ (b : BlockOf). h b.within)) (find_moved (move_block_of g) (λ (b : BlockOf). p b.header) (λ (b : BlockOf). q b.header) (λ b. same_test b.header) (blocks_in x))
      ∙ mapped_twice (find (λ (b : BlockOf). p b.header) (blocks_in x))

  -- within a block and behind it
  both : (t s x y : Tree) → first_read q h t ≡ first_read p f x → first_read q h s ≡ first_read p f y
      → option_map (λ (b : BlockOf). h b.within) (find (λ (b : BlockOf). q b.header) (blocks_in t ++ blocks_in s)) ≡ option_map (λ (b : BlockOf). f b.within) (find (λ (b : BlockOf). p b.header) (blocks_in x ++ blocks_in y))
  both t s x y a b =
      found_among (λ (b : BlockOf). q b.header) (λ (b : BlockOf). h b.within) (blocks_in t) (blocks_in s) ∙ ap₂ or_else a b
      ∙ sym (found_among (λ (b : BlockOf). p b.header) (λ (b : BlockOf). f b.within) (blocks_in x) (blocks_in y))

  -- The block itself is not asked for, or reads the same.
  abbrev StaysSo : Header → Tree → Tree → Type 0
  StaysSo y t x = (p y ≡ false) ⊎ (h t ≡ f x)

  around : (y : Header) (i j : ℕ) (t x s rest : Tree) → StaysSo y t x → first_read q h t ≡ first_read p f x → first_read q h s ≡ first_read p f rest → first_read q h (Block (move_header g y) (g i) t (g j) s) ≡ first_read p f (Block y i x j rest)
  around y i j t x s rest stays inner behind =
      ap (λ (b : Bool). option_map (λ (z : BlockOf). h z.within) (cond b (Some (let z : BlockOf = record { header = move_header g y; within = t } in z)) (find (λ (z : BlockOf). q z.header) (blocks_in t ++ blocks_in s)))) (same_test y)
      ∙ by (p y) refl
    where
      by : (b : Bool) → p y ≡ b → option_map (λ (z : BlockOf). h z.within) (cond b (Some (let z : BlockOf = record { header = move_header g y; within = t } in z)) (find (λ (z : BlockOf). q z.header) (blocks_in t ++ blocks_in s)))
          ≡ option_map (λ (z : BlockOf). f z.within) (cond b (Some (let z : BlockOf = record { header = y; within = x } in z)) (find (λ (z : BlockOf). p z.header) (blocks_in x ++ blocks_in rest)))
      by true e = elim stays [
        | inl fails ↦ absurd (true≢false (sym e ∙ fails))
        | inr same ↦ ap Some same
      ]
      by false e = both t s x rest inner behind

  -- behind a block that is moved
  past : (y : Header) (i : ℕ) (within : Tree) (j : ℕ) (x t : Tree) → first_read q h t ≡ first_read p f x → first_read q h (Block (move_header g y) (g i) (move_tree g within) (g j) t) ≡ first_read p f (Block y i within j x)
  past y i within j x t e = around y i j (move_tree g within) within t x (inr (same_read within)) (in_moved within) e

  among : (fd : Field) (x t : Tree) → IsAmong g fd x t → first_read q h t ≡ first_read p f x
  among fd _ _ (Found rest) = in_moved rest
  among fd _ _ (FurtherOn a x t at) = among fd x t at

-- ---- the three trees

module _ {X : Type 0} (g k : Move) (w : WrittenField) (r : Reservation) (p old new : Header → Bool) (f h l : Tree → X)
    (old_test : (y : Header) → old (move_header g y) ≡ p y) (new_test : (y : Header) → new (move_header k y) ≡ p y)
    (old_read : (x : Tree) → h (move_tree g x) ≡ f x) (new_read : (x : Tree) → l (move_tree k x) ≡ f x)
    (no_oneof : (y : Heading) → p (header.Oneof y) ≡ false)
    (right : (y : Heading) (x t u : Tree) → IsDeletedRight g k w r x t u → (p (header.Message y) ≡ false) ⊎ ((h t ≡ f x) × (l u ≡ f x)))
    (deep : (y : Heading) (x t u : Tree) → IsDeletedIn g k w r x t u → (p (header.Message y) ≡ false) ⊎ ((h t ≡ f x) × (l u ≡ f x))) where
  abbrev pub AreFound : Tree → Tree → Tree → Type 0
  AreFound x t u = (first_read old h t ≡ first_read p f x) × (first_read new l u ≡ first_read p f x)

  olds : (x : Tree) → first_read old h (move_tree g x) ≡ first_read p f x
  olds = in_moved g p old f h old_test old_read

  news : (x : Tree) → first_read new l (move_tree k x) ≡ first_read p f x
  news = in_moved k p new f l new_test new_read

  past_both : (y : Header) (i : ℕ) (within : Tree) (j : ℕ) (x t u : Tree) → AreFound x t u → AreFound (Block y i within j x) (Block (move_header g y) (g i) (move_tree g within) (g j) t) (Block (move_header k y) (k i) (move_tree k within) (k j) u)
  past_both y i within j x t u v = (past g p old f h old_test old_read y i within j x t v.0, past k p new f l new_test new_read y i within j x u v.1)

  -- a message in which it is
  message : (y : Heading) (i : ℕ) (x t u : Tree) (j : ℕ) (rest : Tree) → (p (header.Message y) ≡ false) ⊎ ((h t ≡ f x) × (l u ≡ f x)) → AreFound x t u
      → AreFound (Block (header.Message y) i x j rest) (Block (move_header g (header.Message y)) (g i) t (g j) (move_tree g rest)) (Block (move_header k (header.Message y)) (k i) u (k j) (move_tree k rest))
  message y i x t u j rest stays v = elim stays [
    | inl fails ↦ (
      around g p old f h old_test old_read (header.Message y) i j t x (move_tree g rest) rest (inl fails) v.0 (olds rest),
      around k p new f l new_test new_read (header.Message y) i j u x (move_tree k rest) rest (inl fails) v.1 (news rest),
    )
    | inr same ↦ (
      around g p old f h old_test old_read (header.Message y) i j t x (move_tree g rest) rest (inr same.0) v.0 (olds rest),
      around k p new f l new_test new_read (header.Message y) i j u x (move_tree k rest) rest (inr same.1) v.1 (news rest),
    )
  ]

  right_found : (x t u : Tree) → IsDeletedRight g k w r x t u → AreFound x t u
  right_found _ _ _ (AtField rest) = (olds rest, news rest)
  right_found _ _ _ (AtOneof y fd i x t j rest is some at) = (
    around g p old f h old_test old_read (header.Oneof y) i j t x (move_tree g rest) rest (inl (no_oneof y)) (among g p old f h old_test old_read fd x t at) (olds rest),
    news (Block (header.Oneof y) i x j rest),
  )
  right_found _ _ _ (PastLeaf a x t u sw) = right_found x t u sw
  right_found _ _ _ (PastBlock y i within j x t u sw) = past_both y i within j x t u (right_found x t u sw)

  pub are_found : (x t u : Tree) → IsDeletedIn g k w r x t u → AreFound x t u
  are_found _ _ _ (InMessage y i x t u j rest sw) = message y i x t u j rest (right y x t u sw) (right_found x t u sw)
  are_found _ _ _ (Deeper y i x t u j rest sw) = message y i x t u j rest (deep y x t u sw) (are_found x t u sw)
  are_found _ _ _ (BehindLeaf a x t u sw) = are_found x t u sw
  are_found _ _ _ (BehindBlock y i within j x t u sw) = past_both y i within j x t u (are_found x t u sw)
