-- Messages by their full names, where a field is deleted: what becomes of each old one.
use Rattle.std.proofs.Common.{◌≡◌, ℕ, ◌==◌, inl, inr, Bool, true, false, List, [], ◌∷◌, ◌++◌, refl, sym, ap, subst, ◌∙◌, Contains, arith, if◌then◌else◌, eqb-true}
use Rattle.proto_base.proofs.Common.{Contains-append_left, Contains-append_right, contains_head, contains_later}
use Rattle.proto_base.specs.Texts.{Text}
use Rattle.proto_case.specs.Camel.{entry_name}
use Rattle.proto_names_rules.proofs.Common.{map_append}
use Rattle.proto_names_rules.specs.Names.{Name}
use Rattle.proto_names_rules.specs.declared.kind.Kind.TheVariants.{Entry, Field, Message as MessageKind}
use Rattle.proto_names_rules.specs.Skeleton.{Source, Token, EntryOf, name_of, spell}
use Rattle.proto_names_rules.specs.Tree.{Placed, all_placed, enum, extend, items_placed, map_field, message, oneof, place, placed, prefixes, service}
use Rattle.proto_tree.specs.References.{dotted}
use Rattle.proto_tree.specs.Tree.{Tree, End, Leaf, Block}
use Rattle.proto_tree.specs.declared.piece.Header.{Header}
use Rattle.proto_tree.specs.declared.piece.Header.TheVariants as header
use Rattle.proto_tree.specs.declared.piece.Statement.{Statement}
use Rattle.proto_tree.specs.declared.piece.Statement.TheVariants as statement
use Rattle.proto_tree.specs.declared.tree.MapField.{MapField}
use Rattle.proto_names_outline.specs.FromTree.{items_in, members_in}
use Rattle.proto_ast.specs.Scenes.{Scene, text}
use Rattle.proto_desc_build.specs.Described.{below, entry_described, message_described, messages_described}
use Rattle.proto_descriptors.specs.Descriptors.{MessageDesc, Messages, NoMessages, Message}
use Rattle.proto_edit_rules.specs.DeleteField.{is_its, messages_with_deletion, without_entry, without_field}
use Rattle.proto_edit_rules.specs.OptionViews.{IsMessageBelow, within, behind}
use Rattle.proto_option_statement_laws.proofs.Messages.{first, hit}

-- An old message of this full name: it is there as it was, or without the field of this token, or it
-- was the field's entry. What is declared in the tree is so.
pub data Becomes (scene : Scene) (token : ℕ) (IsSo : Placed → Type 0) (IsNow : MessageDesc → Type 0) (name : Name) (m : MessageDesc) : Type 0 where
  stays : IsNow m → Becomes scene token IsSo IsNow name m
  loses : (full : Text) (path : List (Source ℕ)) (own : ℕ) (inner : Tree)
      → m ≡ message_described scene full own inner → name ≡ name_of (text scene) entry_name (path ++ Token own ∷ [])
      → IsSo (place path (Token own) MessageKind) → IsNow (without_field token inner m)
      → Becomes scene token IsSo IsNow name m
  goes : (path : List (Source ℕ)) (f : MapField)
      → m ≡ entry_described scene f → name ≡ name_of (text scene) entry_name (path ++ EntryOf token ∷ [])
      → IsSo (place path (EntryOf token) Entry)
      → Becomes scene token IsSo IsNow name m

-- and it is so elsewhere
pub becomes_as : {scene : Scene} {token : ℕ} {IsSo : Placed → Type 0} {IsNow IsThen : MessageDesc → Type 0} {name : Name} {m : MessageDesc} → ((n : MessageDesc) → IsNow n → IsThen n) → Becomes scene token IsSo IsNow name m → Becomes scene token IsSo IsThen name m
becomes_as f (stays n) = stays (f _ n)
becomes_as f (loses full path own inner e named so n) = loses full path own inner e named so (f _ n)
becomes_as f (goes path mf e named so) = goes path mf e named so

-- ---- what is declared in a tree

-- behind a statement
pub behind_leaf : (path : List (Source ℕ)) (s : Statement) (rest : Tree) (p : Placed) → Contains (all_placed path (members_in rest)) p → Contains (all_placed path (members_in (Leaf s rest))) p
behind_leaf path (statement.Field f) rest p c = contains_later (place path (Token f.name) Field) p (all_placed path (members_in rest)) c
behind_leaf path (statement.MapField f) rest p c = Contains-append_right (placed path (map_field f.name)) (all_placed path (members_in rest)) p c
behind_leaf path whole rest p c = c

-- behind a block
pub behind_block : (path : List (Source ℕ)) (h : Header) (i : ℕ) (inner : Tree) (j : ℕ) (rest : Tree) (p : Placed) → Contains (all_placed path (members_in rest)) p → Contains (all_placed path (members_in (Block h i inner j rest))) p
behind_block path (header.Message h) i inner j rest p c = Contains-append_right (placed path (message h.name (members_in inner))) (all_placed path (members_in rest)) p c
behind_block path (header.Oneof h) i inner j rest p c = Contains-append_right (placed path (oneof h.name _)) (all_placed path (members_in rest)) p c
behind_block path (header.Enum h) i inner j rest p c = Contains-append_right (placed path (enum h.name _)) (all_placed path (members_in rest)) p c
behind_block path (header.Extend e) i inner j rest p c = Contains-append_right (placed path (extend _)) (all_placed path (members_in rest)) p c
behind_block path whole i inner j rest p c = c

-- the entry of a map field
entry_placed : (path : List (Source ℕ)) (t : ℕ) → Contains (placed path (map_field t)) (place path (EntryOf t) Entry)
entry_placed path t = (1, omega arith, refl)

-- the messages right in it, and what these declare, are so
abbrev pub AreSo : (Placed → Type 0) → List (Source ℕ) → Tree → Type 0
AreSo IsSo path End = Unit {0}
AreSo IsSo path (Leaf s rest) = AreSo IsSo path rest
AreSo IsSo path (Block (header.Message h) i inner j rest) =
    IsSo (place path (Token h.name) MessageKind)
    × ((p : Placed) → Contains (all_placed (path ++ Token h.name ∷ []) (members_in inner)) p → IsSo p)
    × AreSo IsSo path rest
AreSo IsSo path (Block h i inner j rest) = AreSo IsSo path rest

pub members_so : (IsSo : Placed → Type 0) (path : List (Source ℕ)) (t : Tree) → ((p : Placed) → Contains (all_placed path (members_in t)) p → IsSo p) → AreSo IsSo path t
members_so IsSo path End so = tt
members_so IsSo path (Leaf s rest) so = members_so IsSo path rest (λ p c. so p (behind_leaf path s rest p c))
members_so IsSo path (Block (header.Message h) i inner j rest) so =
    let mine = placed path (message h.name (members_in inner)) in
    let others = all_placed path (members_in rest) in
    let deep = all_placed (path ++ Token h.name ∷ []) (members_in inner) in (
      so (place path (Token h.name) MessageKind) (Contains-append_left mine others _ (contains_head (place path (Token h.name) MessageKind) deep)),
      λ p c. so p (Contains-append_left mine others p (contains_later (place path (Token h.name) MessageKind) p deep c)),
      members_so IsSo path rest (λ p c. so p (Contains-append_right mine others p c)),
    )
members_so IsSo path (Block whole i inner j rest) so = members_so IsSo path rest (λ p c. so p (behind_block path whole i inner j rest p c))

pub items_so : (IsSo : Placed → Type 0) (path : List (Source ℕ)) (t : Tree) → ((p : Placed) → Contains (items_placed path (items_in t)) p → IsSo p) → AreSo IsSo path t
items_so IsSo path End so = tt
items_so IsSo path (Leaf (statement.Package k) rest) so = items_so IsSo path rest (λ p c. so p (Contains-append_right (prefixes [] (dotted k.name)) (items_placed path (items_in rest)) p c))
items_so IsSo path (Leaf whole rest) so = items_so IsSo path rest so
items_so IsSo path (Block (header.Message h) i inner j rest) so =
    let mine = placed path (message h.name (members_in inner)) in
    let others = items_placed path (items_in rest) in
    let deep = all_placed (path ++ Token h.name ∷ []) (members_in inner) in (
      so (place path (Token h.name) MessageKind) (Contains-append_left mine others _ (contains_head (place path (Token h.name) MessageKind) deep)),
      λ p c. so p (Contains-append_left mine others p (contains_later (place path (Token h.name) MessageKind) p deep c)),
      items_so IsSo path rest (λ p c. so p (Contains-append_right mine others p c)),
    )
items_so IsSo path (Block (header.Enum h) i inner j rest) so = items_so IsSo path rest (λ p c. so p (Contains-append_right (placed path (enum h.name _)) (items_placed path (items_in rest)) p c))
items_so IsSo path (Block (header.Service h) i inner j rest) so = items_so IsSo path rest (λ p c. so p (Contains-append_right (placed path (service h.name _)) (items_placed path (items_in rest)) p c))
items_so IsSo path (Block (header.Extend e) i inner j rest) so = items_so IsSo path rest (λ p c. so p (Contains-append_right (placed path (extend _)) (items_placed path (items_in rest)) p c))
items_so IsSo path (Block whole i inner j rest) so = items_so IsSo path rest so

-- ---- the messages of a tree

-- an entry and the messages behind it, or these alone
abbrev entry_or : Bool → ℕ → MessageDesc → Tree → Messages → Messages
entry_or b token own rest more = if b then more else Message own NoMessages (without_entry token rest more)

-- what is nested in a message that has the field, or has it not
abbrev nested_in : Bool → ℕ → Tree → Messages → Messages
nested_in b token inner nested = if b then without_entry token inner nested else messages_with_deletion token inner nested

-- such a message
abbrev message_now : Bool → ℕ → Tree → MessageDesc → Messages → Messages → Messages
message_now b token inner own nested later = Message (if b then without_field token inner own else own) (nested_in b token inner nested) later

module _ (scene : Scene) (token : ℕ) (IsSo : Placed → Type 0) where
  -- the name of what a source names below a path
  name_below : (path : List (Source ℕ)) (above : Name) (s : Source ℕ) (word : Text) → above ≡ name_of (text scene) entry_name path → word ≡ spell (text scene) entry_name s → above ++ word ∷ [] ≡ name_of (text scene) entry_name (path ++ s ∷ [])
  name_below path above s word e w = rw e (rw w (sym (map_append (spell (text scene) entry_name) path (s ∷ []))))

  -- ---- of a message that loses the field

  inner_becomes : (path : List (Source ℕ)) (above : Name) (full : Text) (t : Tree) → above ≡ name_of (text scene) entry_name path → ((p : Placed) → Contains (all_placed path (members_in t)) p → IsSo p)
      → (name : Name) (m : MessageDesc) → IsMessageBelow above (messages_described scene full t) name m
      → Becomes scene token IsSo (IsMessageBelow above (without_entry token t (messages_described scene full t)) name) name m
  inner_becomes path above full End e so name m d = stays d
  inner_becomes path above full (Leaf (statement.MapField f) rest) e so name m d = elim (hit above (Message (entry_described scene f) NoMessages (messages_described scene full rest)) name m d) [
    | inl h ↦ by_own (f.name == token) refl h.0 h.1
    | inr (inl w) ↦ absurd (hit (above ++ (entry_described scene f).name ∷ []) NoMessages name m w)
    | inr (inr b) ↦ by_rest b (inner_becomes path above full rest e (λ p c. so p (behind_leaf path (statement.MapField f) rest p c)) name m b) (f.name == token)
  ]
    where
      by_own : (b : Bool) → (f.name == token) ≡ b → name ≡ above ++ (entry_described scene f).name ∷ [] → m ≡ entry_described scene f
          → Becomes scene token IsSo (IsMessageBelow above (entry_or b token (entry_described scene f) rest (messages_described scene full rest)) name) name m
      by_own true q n k =
          let t : f.name ≡ token = eqb-true f.name token q in
          goes path f k (n ∙ name_below path above (EntryOf token) (entry_name (text scene f.name)) e (ap (λ i. entry_name (text scene i)) t))
          (subst (λ i. IsSo (place path (EntryOf i) Entry)) t
          (so (place path (EntryOf f.name) Entry) (Contains-append_left (placed path (map_field f.name)) (all_placed path (members_in rest)) (place path (EntryOf f.name) Entry) (entry_placed path f.name))))
      by_own false q n k = stays (first above name (entry_described scene f) m NoMessages (without_entry token rest (messages_described scene full rest)) n k)

      by_rest : IsMessageBelow above (messages_described scene full rest) name m → Becomes scene token IsSo (IsMessageBelow above (without_entry token rest (messages_described scene full rest)) name) name m → (b : Bool)
          → Becomes scene token IsSo (IsMessageBelow above (entry_or b token (entry_described scene f) rest (messages_described scene full rest)) name) name m
      by_rest d r true = stays d
      by_rest d r false = becomes_as (λ n k. behind above name (entry_described scene f) n NoMessages (without_entry token rest (messages_described scene full rest)) k) r
  inner_becomes path above full (Leaf whole rest) e so name m d = inner_becomes path above full rest e (λ p c. so p (behind_leaf path whole rest p c)) name m d
  inner_becomes path above full (Block (header.Message h) i inner j rest) e so name m d =
      let own = message_described scene (below full (text scene h.name)) h.name inner in
      let nested = messages_described scene (below full (text scene h.name)) inner in
      let more = messages_described scene full rest in
      elim (hit above (Message own nested more) name m d) [
        | inl k ↦ stays (first above name own m nested (without_entry token rest more) k.0 k.1)
        | inr (inl w) ↦ stays (within above name own m nested (without_entry token rest more) w)
        | inr (inr b) ↦ becomes_as (λ n k. behind above name own n nested (without_entry token rest more) k)
            (inner_becomes path above full rest e (λ p c. so p (behind_block path (header.Message h) i inner j rest p c)) name m b)
      ]
  inner_becomes path above full (Block whole i inner j rest) e so name m d = inner_becomes path above full rest e (λ p c. so p (behind_block path whole i inner j rest p c)) name m d

  -- ---- of a file, or of a message that has one that loses it

  pub message_becomes : (path : List (Source ℕ)) (above : Name) (full : Text) (t : Tree) → above ≡ name_of (text scene) entry_name path → AreSo IsSo path t
      → (name : Name) (m : MessageDesc) → IsMessageBelow above (messages_described scene full t) name m
      → Becomes scene token IsSo (IsMessageBelow above (messages_with_deletion token t (messages_described scene full t)) name) name m
  message_becomes path above full End e so name m d = stays d
  message_becomes path above full (Leaf (statement.MapField f) rest) e so name m d =
      let own = entry_described scene f in
      let more = messages_described scene full rest in
      elim (hit above (Message own NoMessages more) name m d) [
        | inl k ↦ stays (first above name own m NoMessages (messages_with_deletion token rest more) k.0 k.1)
        | inr (inl w) ↦ absurd (hit (above ++ own.name ∷ []) NoMessages name m w)
        | inr (inr b) ↦ becomes_as (λ n k. behind above name own n NoMessages (messages_with_deletion token rest more) k) (message_becomes path above full rest e so name m b)
      ]
  message_becomes path above full (Leaf whole rest) e so name m d = message_becomes path above full rest e so name m d
  message_becomes path above full (Block (header.Message h) i inner j rest) e so name m d =
      let own = message_described scene (below full (text scene h.name)) h.name inner in
      let nested = messages_described scene (below full (text scene h.name)) inner in
      let deeper : above ++ own.name ∷ [] ≡ name_of (text scene) entry_name (path ++ Token h.name ∷ []) = name_below path above (Token h.name) (text scene h.name) e refl in
      elim (hit above (Message own nested (messages_described scene full rest)) name m d) [
        | inl k ↦ by_own (is_its token inner) k.0 k.1
        | inr (inl w) ↦ by_inner (is_its token inner)
            (λ u. inner_becomes (path ++ Token h.name ∷ []) (above ++ own.name ∷ []) (below full (text scene h.name)) inner deeper so.1 name m w)
            (message_becomes (path ++ Token h.name ∷ []) (above ++ own.name ∷ []) (below full (text scene h.name)) inner deeper (members_so IsSo (path ++ Token h.name ∷ []) inner so.1) name m w)
        | inr (inr b) ↦ becomes_as (λ n k. behind above name (if is_its token inner then without_field token inner own else own) n (nested_in (is_its token inner) token inner nested) (messages_with_deletion token rest (messages_described scene full rest)) k) (message_becomes path above full rest e so.2 name m b)
      ]
    where
      by_own : (b : Bool) → name ≡ above ++ (message_described scene (below full (text scene h.name)) h.name inner).name ∷ [] → m ≡ (message_described scene (below full (text scene h.name)) h.name inner) → Becomes scene token IsSo (IsMessageBelow above (message_now b token inner (message_described scene (below full (text scene h.name)) h.name inner) (messages_described scene (below full (text scene h.name)) inner) (messages_with_deletion token rest (messages_described scene full rest))) name) name m
      by_own true n k =
          loses (below full (text scene h.name)) path h.name inner k (n ∙ name_below path above (Token h.name) (text scene h.name) e refl) so.0
          (first above name (without_field token inner (message_described scene (below full (text scene h.name)) h.name inner)) (without_field token inner m) (nested_in true token inner (messages_described scene (below full (text scene h.name)) inner)) (messages_with_deletion token rest (messages_described scene full rest)) n (ap (without_field token inner) k))
      by_own false n k = stays (first above name (message_described scene (below full (text scene h.name)) h.name inner) m (nested_in false token inner (messages_described scene (below full (text scene h.name)) inner)) (messages_with_deletion token rest (messages_described scene full rest)) n k)

      by_inner : (b : Bool)
          → (Unit {0} → Becomes scene token IsSo (IsMessageBelow (above ++ (message_described scene (below full (text scene h.name)) h.name inner).name ∷ []) (without_entry token inner (messages_described scene (below full (text scene h.name)) inner)) name) name m)
          → Becomes scene token IsSo (IsMessageBelow (above ++ (message_described scene (below full (text scene h.name)) h.name inner).name ∷ []) (messages_with_deletion token inner (messages_described scene (below full (text scene h.name)) inner)) name) name m
          → Becomes scene token IsSo (IsMessageBelow above (message_now b token inner (message_described scene (below full (text scene h.name)) h.name inner) (messages_described scene (below full (text scene h.name)) inner) (messages_with_deletion token rest (messages_described scene full rest))) name) name m
      by_inner true r s = becomes_as (λ n k. within above name (without_field token inner (message_described scene (below full (text scene h.name)) h.name inner)) n (nested_in true token inner (messages_described scene (below full (text scene h.name)) inner)) (messages_with_deletion token rest (messages_described scene full rest)) k) (r tt)
      by_inner false r s = becomes_as (λ n k. within above name (message_described scene (below full (text scene h.name)) h.name inner) n (nested_in false token inner (messages_described scene (below full (text scene h.name)) inner)) (messages_with_deletion token rest (messages_described scene full rest)) k) s
  message_becomes path above full (Block whole i inner j rest) e so name m d = message_becomes path above full rest e so name m d
