-- The rows of a file's enums are those that its blocks give.
use Rattle.std.proofs.Common.{◌≡◌, ℕ, ◌==◌, Bool, true, false, cond, List, [], ◌∷◌, ◌++◌, Option, Some, None, option_map, refl, sym, ap, ◌∙◌, nat_eq, is_some, find, eqb-true}
use Rattle.proto_base.proofs.Common.{option_or, find-append, lookup}
use Rattle.indexmap.specs.IndexMap.{IndexMap, IsEmpty, get}
use Rattle.proto_text.specs.Tokens.{Lexeme}
use Rattle.proto_tree.specs.declared.tree.Block.{Block as Braced}
use Rattle.proto_tree.specs.declared.tree.EnumItem.{EnumItem}
use Rattle.proto_tree.specs.declared.tree.Extend.{Extend}
use Rattle.proto_tree.specs.declared.tree.OneofItem.{OneofItem}
use Rattle.proto_tree.specs.declared.tree.Member.{Member}
use Rattle.proto_tree.proofs.Common.{enum_item_tree, trees, Tree}
use Rattle.proto_ast.proofs.Common.{BlockOf, blocks_in, EnumOf}
use Rattle.proto_resolved.proofs.Holders.{found_before, found_in_holders, or_none}
use Rattle.proto_resolved.specs.Common.{AreEnumsOf, enum_among, enum_block, enum_of_row, extend_block, holders_in, message_block, oneof_block, enum_within, is_enum_at, EnumRow}

module _ (lexemes : List Lexeme) (proto3 : Bool) where
  abbrev here : BlockOf → EnumOf
  here b = enum_within lexemes proto3 b.within

  abbrev is_it : ℕ → BlockOf → Bool
  is_it token b = is_enum_at token b.header

  pub rows_of_blocks : {S : Type 0} → (tree : Tree) (rows : IndexMap ℕ EnumRow S) → AreEnumsOf lexemes proto3 (holders_in tree) rows → AreEnumsOf lexemes proto3 (blocks_in tree) rows
  rows_of_blocks tree rows h token = h token ∙ ap (option_map here) (found_in_holders (is_enum_at token) (λ h. refl) (λ s. refl) tree)

  pub no_rows : {S : Type 0} → (rows : IndexMap ℕ EnumRow S) → IsEmpty rows → AreEnumsOf lexemes proto3 [] rows
  no_rows rows e token = ap (λ (es : List (ℕ × EnumRow)). option_map enum_of_row (lookup (nat_eq token) es)) e

  -- ---- one block more

  pub message_added : {S : Type 0} → (blocks : List BlockOf) (m : Braced Member) (rows : IndexMap ℕ EnumRow S) → AreEnumsOf lexemes proto3 blocks rows → AreEnumsOf lexemes proto3 (blocks ++ message_block m ∷ []) rows
  message_added blocks m rows h token = h token ∙ ap (option_map here) (found_before (is_it token) blocks (message_block m) refl)

  pub oneof_added : {S : Type 0} → (blocks : List BlockOf) (o : Braced OneofItem) (rows : IndexMap ℕ EnumRow S) → AreEnumsOf lexemes proto3 blocks rows → AreEnumsOf lexemes proto3 (blocks ++ oneof_block o ∷ []) rows
  oneof_added blocks o rows h token = h token ∙ ap (option_map here) (found_before (is_it token) blocks (oneof_block o) refl)

  pub extend_added : {S : Type 0} → (blocks : List BlockOf) (x : Extend) (rows : IndexMap ℕ EnumRow S) → AreEnumsOf lexemes proto3 blocks rows → AreEnumsOf lexemes proto3 (blocks ++ extend_block x ∷ []) rows
  extend_added blocks x rows h token = h token ∙ ap (option_map here) (found_before (is_it token) blocks (extend_block x) refl)

  -- ---- one enum more

  past : (b : Braced EnumItem) (token : ℕ) (o : Option BlockOf) → option_map here o ≡ None → (c : Bool) → (b.name == token) ≡ c
      → option_map here (option_or o (cond c (Some (enum_block b)) None)) ≡ cond c (Some (enum_within lexemes proto3 (trees enum_item_tree b.members.items))) None
  past b token None h true e = refl
  past b token None h false e = refl
  past b token (Some x) h c e = absurd (cc)

  one_more : (blocks : List BlockOf) (b : Braced EnumItem) (token : ℕ) → enum_among lexemes proto3 (blocks ++ enum_block b ∷ []) token ≡ option_map here (option_or (find (is_it token) blocks) (cond (b.name == token) (Some (enum_block b)) None))
  one_more blocks b token = ap (option_map here) (find-append (is_it token) blocks (enum_block b ∷ []))

  -- where its token has a row
  pub row_kept : {S : Type 0} → (blocks : List BlockOf) (b : Braced EnumItem) (rows : IndexMap ℕ EnumRow S) → is_some (get nat_eq rows b.name) ≡ true → AreEnumsOf lexemes proto3 blocks rows → AreEnumsOf lexemes proto3 (blocks ++ enum_block b ∷ []) rows
  row_kept {S} blocks b rows has h token = h token ∙ go (find (is_it token) blocks) refl (b.name == token) refl ∙ sym (one_more blocks b token)
    where
      some_row : (o : Option EnumRow) → is_some o ≡ true → option_map enum_of_row o ≡ None → None ≡ Some (enum_block b)
      some_row None t n = absurd (cc)
      some_row (Some r) t n = absurd (cc)

      go : (o : Option BlockOf) → find (is_it token) blocks ≡ o → (c : Bool) → (b.name == token) ≡ c → option_map here o ≡ option_map here (option_or o (cond c (Some (enum_block b)) None))
      go (Some x) e c f = refl
      go None e false f = refl
      go None e true f =
          let same : b.name ≡ token = eqb-true b.name token f in
          let none : option_map enum_of_row (get nat_eq rows b.name) ≡ None = h b.name ∙ ap (λ (t : ℕ). option_map here (find (is_it t) blocks)) same ∙ ap (option_map here) e in
          ap (option_map here) (some_row (get nat_eq rows b.name) has none)

  -- where it has none
  pub row_added : {S : Type 0} → (blocks : List BlockOf) (b : Braced EnumItem) (rows more : IndexMap ℕ EnumRow S) (r : EnumRow) → is_some (get nat_eq rows b.name) ≡ false → ((q : ℕ) → get nat_eq more q ≡ cond (nat_eq b.name q) (Some r) (get nat_eq rows q))
      → enum_of_row r ≡ enum_within lexemes proto3 (trees enum_item_tree b.members.items) → AreEnumsOf lexemes proto3 blocks rows → AreEnumsOf lexemes proto3 (blocks ++ enum_block b ∷ []) more
  row_added {S} blocks b rows more r lacks put is h token = ap (option_map enum_of_row) (put token) ∙ go (nat_eq b.name token) refl ∙ sym (one_more blocks b token)
    where
      no_row : (o : Option EnumRow) → is_some o ≡ false → option_map enum_of_row o ≡ None
      no_row None t = refl
      no_row (Some r) t = absurd (cc)

      first : (o : Option BlockOf) → option_map here o ≡ None → Some (enum_of_row r) ≡ option_map here (option_or o (Some (enum_block b)))
      first None n = ap Some is
      first (Some x) n = absurd (cc)

      go : (c : Bool) → nat_eq b.name token ≡ c → option_map enum_of_row (cond c (Some r) (get nat_eq rows token)) ≡ option_map here (option_or (find (is_it token) blocks) (cond c (Some (enum_block b)) None))
      go true f =
          let same : b.name ≡ token = eqb-true b.name token f in
          let none : option_map here (find (is_it token) blocks) ≡ None = sym (h token) ∙ ap (λ (t : ℕ). option_map enum_of_row (get nat_eq rows t)) (sym same) ∙ no_row (get nat_eq rows b.name) lacks in
          first (find (is_it token) blocks) none
      go false f = h token ∙ ap (option_map here) (or_none (find (is_it token) blocks))
