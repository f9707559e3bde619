-- What the `extend` blocks of a tree say, one after another, where its tokens are moved and where a field goes: the same (for the crates above).
use Rattle.std.proofs.Common.{◌≡◌, ℕ, List, [], ◌++◌, map, flat_map, None, refl, sym, ◌∙◌, ap, ap₂}
use Rattle.proto_base.proofs.Common.{flat_map-append}
use Rattle.proto_tree.specs.declared.piece.Header.{Header}
use Rattle.proto_tree.specs.declared.piece.Header.TheVariants as header
use Rattle.proto_tree.specs.declared.piece.Heading.{Heading}
use Rattle.proto_tree.specs.declared.tree.Field.{Field}
use Rattle.proto_tree.proofs.Common.{Move, Tree, Block, move_header, move_tree}
use Rattle.proto_ast.proofs.Common.{BlockOf, blocks_in}
use Rattle.proto_desc_checks_laws.proofs.Common.{blocks_moved, flat_kept, move_block_of}
use Rattle.proto_desc_extensions.specs.Extensions.{extendee_in}
use Rattle.proto_edit_statement_described.specs.Deletions.{AtField, AtOneof, BehindBlock, BehindLeaf, Deeper, Found, FurtherOn, InMessage, IsAmong, IsDeletedIn, IsDeletedRight, PastBlock, PastLeaf, Reservation, WrittenField}

abbrev pub block_with : Header → Tree → BlockOf
block_with h t = record { header = h; within = t }

-- what the blocks of a tree say
abbrev pub listed : {Y : Type 0} → (BlockOf → List Y) → Tree → List Y
listed says t = flat_map says (blocks_in t)

-- only `extend` blocks say something
abbrev pub IsOfExtends : {Y : Type 0} → (BlockOf → List Y) → Type 0
IsOfExtends says = (h : Header) (t : Tree) → extendee_in h ≡ None → says (block_with h t) ≡ []

-- only they do, and moved ones say what they said
pub record IsMovedSaying {Y : Type 0} (g : Move) (was now : BlockOf → List Y) : Type 0 where
  pub of_old : IsOfExtends was
  pub of_new : IsOfExtends now
  pub same : (h : Header) (t : Tree) → now (block_with (move_header g h) (move_tree g t)) ≡ was (block_with h t)

-- a block, what is in it and what is behind it
parted : {Y : Type 0} (says : BlockOf → List Y) (h : Header) (i : ℕ) (t : Tree) (j : ℕ) (rest : Tree) → listed says (Block h i t j rest) ≡ says (block_with h t) ++ (listed says t ++ listed says rest)
parted {Y} says h i t j rest = ap (λ (z : List Y). says (block_with h t) ++ z) (flat_map-append says (blocks_in t) (blocks_in rest))

module _ {Y : Type 0} (g : Move) (was now : BlockOf → List Y) (is : IsMovedSaying g was now) where
  joint : (h : Header) (i j : ℕ) (t x s rest : Tree) → now (block_with (move_header g h) t) ≡ was (block_with h x) → listed now t ≡ listed was x → listed now s ≡ listed was rest
      → listed now (Block (move_header g h) (g i) t (g j) s) ≡ listed was (Block h i x j rest)
  joint h i j t x s rest own inner behind =
      parted now (move_header g h) (g i) t (g j) s
      ∙ ap₂ (λ (y z : List Y). y ++ z) own (ap₂ (λ (y z : List Y). y ++ z) inner behind)
      ∙ sym (parted was h i x j rest)

  -- a block that says nothing, whatever is in it
  silent : (h : Header) (t x : Tree) → extendee_in h ≡ None → extendee_in (move_header g h) ≡ None → now (block_with (move_header g h) t) ≡ was (block_with h x)
  silent h t x old new = is.of_new (move_header g h) t new ∙ sym (is.of_old h x old)

  pub blocks_listed : (bs : List BlockOf) → flat_map now (map (move_block_of g) bs) ≡ flat_map was bs
  blocks_listed = flat_kept (move_block_of g) was now (λ b. is.same b.header b.within)

  in_moved : (x : Tree) → listed now (move_tree g x) ≡ listed was x
  in_moved x = ap (flat_map now) (blocks_moved g x) ∙ blocks_listed (blocks_in x)

  past : (h : Header) (i : ℕ) (within : Tree) (j : ℕ) (x t : Tree) → listed now t ≡ listed was x → listed now (Block (move_header g h) (g i) (move_tree g within) (g j) t) ≡ listed was (Block h i within j x)
  past h i within j x t e = joint h i j (move_tree g within) within t x (is.same h within) (in_moved within) e

  among : (f : Field) (x t : Tree) → IsAmong g f x t → listed now t ≡ listed was x
  among f _ _ (Found rest) = in_moved rest
  among f _ _ (FurtherOn s x t at) = among f x t at

-- of the three trees: no message and no oneof says anything (the walk is that of `FoundBlocks`; here all blocks of a tree are joined, there the first that passes is read)
module _ {Y : Type 0} (g k : Move) (w : WrittenField) (r : Reservation) (says was now : BlockOf → List Y) (is_old : IsMovedSaying g says was) (is_new : IsMovedSaying k says now) where
  abbrev pub SayTheSame : Tree → Tree → Tree → Type 0
  SayTheSame x t u = (listed was t ≡ listed says x) × (listed now u ≡ listed says x)

  olds : (x : Tree) → listed was (move_tree g x) ≡ listed says x
  olds = in_moved g says was is_old

  news : (x : Tree) → listed now (move_tree k x) ≡ listed says x
  news = in_moved k says now is_new

  past_both : (h : Header) (i : ℕ) (within : Tree) (j : ℕ) (x t u : Tree) → SayTheSame x t u → SayTheSame (Block h i within j x) (Block (move_header g h) (g i) (move_tree g within) (g j) t) (Block (move_header k h) (k i) (move_tree k within) (k j) u)
  past_both h i within j x t u v = (past g says was is_old h i within j x t v.0, past k says now is_new h i within j x u v.1)

  right_says : (x t u : Tree) → IsDeletedRight g k w r x t u → SayTheSame x t u
  right_says _ _ _ (AtField rest) = (olds rest, news rest)
  right_says _ _ _ (AtOneof h f i x t j rest plain some at) = (
    joint g says was is_old (header.Oneof h) i j t x (move_tree g rest) rest (silent g says was is_old (header.Oneof h) t x refl refl) (among g says was is_old f x t at) (olds rest),
    news (Block (header.Oneof h) i x j rest),
  )
  right_says _ _ _ (PastLeaf a x t u sw) = right_says x t u sw
  right_says _ _ _ (PastBlock h i within j x t u sw) = past_both h i within j x t u (right_says x t u sw)

  -- in a message, whose own tree says the same
  in_message : (h : Heading) (i : ℕ) (x t u : Tree) (j : ℕ) (rest : Tree) → SayTheSame x t u
      → SayTheSame (Block (header.Message h) i x j rest) (Block (move_header g (header.Message h)) (g i) t (g j) (move_tree g rest)) (Block (move_header k (header.Message h)) (k i) u (k j) (move_tree k rest))
  in_message h i x t u j rest v = (
    joint g says was is_old (header.Message h) i j t x (move_tree g rest) rest (silent g says was is_old (header.Message h) t x refl refl) v.0 (olds rest),
    joint k says now is_new (header.Message h) i j u x (move_tree k rest) rest (silent k says now is_new (header.Message h) u x refl refl) v.1 (news rest),
  )

  pub deep_says : (x t u : Tree) → IsDeletedIn g k w r x t u → SayTheSame x t u
  deep_says _ _ _ (InMessage h i x t u j rest sw) = in_message h i x t u j rest (right_says x t u sw)
  deep_says _ _ _ (Deeper h i x t u j rest sw) = in_message h i x t u j rest (deep_says x t u sw)
  deep_says _ _ _ (BehindLeaf a x t u sw) = deep_says x t u sw
  deep_says _ _ _ (BehindBlock h i within j x t u sw) = past_both h i within j x t u (deep_says x t u sw)
