-- Messages by their full names, where a field is deleted: each new one was there.
use Rattle.std.proofs.Common.{◌≡◌, ℕ, ◌==◌, ◌⊎◌, inl, inr, Bool, true, false, [], ◌∷◌, ◌++◌, refl, Contains, if◌then◌else◌}
use Rattle.proto_names_rules.specs.Names.{Name}
use Rattle.proto_tree.specs.Tree.{Tree, End, Leaf, Block}
use Rattle.proto_tree.specs.declared.piece.Header.TheVariants as header
use Rattle.proto_tree.specs.declared.piece.Statement.TheVariants as statement
use Rattle.proto_descriptors.specs.Descriptors.{FieldDesc, MessageDesc, Messages, NoMessages, Message}
use Rattle.proto_edit_rules.specs.DeleteField.{field_place, is_its, messages_with_deletion, without_entry, without_field}
use Rattle.proto_edit_rules.specs.OptionViews.{IsMessageBelow, here, within, behind}
use Rattle.proto_option_statement_laws.proofs.Lists.{left_there}

-- ---- one step

-- what a message below this name is: the first, nested in it, or behind it
abbrev pub Hit : Name → Messages → Name → MessageDesc → Type 0
Hit above NoMessages name n = ⊥
Hit above (Message m nested rest) name n =
    ((name ≡ above ++ m.name ∷ []) × (n ≡ m)) ⊎ (IsMessageBelow (above ++ m.name ∷ []) nested name n ⊎ IsMessageBelow above rest name n)

pub hit : (above : Name) (ms : Messages) (name : Name) (n : MessageDesc) → IsMessageBelow above ms name n → Hit above ms name n
hit _ _ _ _ (here above m nested rest) = inl (refl, refl)
hit _ _ _ _ (within above name m n nested rest d) = inr (inl d)
hit _ _ _ _ (behind above name m n nested rest d) = inr (inr d)

pub first : (above name : Name) (m n : MessageDesc) (nested rest : Messages) → name ≡ above ++ m.name ∷ [] → n ≡ m → IsMessageBelow above (Message m nested rest) name n
first above name m n nested rest e f = rw e (rw f (here above m nested rest))

-- ---- back

-- a message of the new descriptors, and the old one whose fields it has
pub record Was (above : Name) (ms : Messages) (name : Name) (n : MessageDesc) : Type 0 where
  pub m : MessageDesc
  pub below : IsMessageBelow above ms name m
  pub fields : (f : FieldDesc) → Contains n.field f → Contains m.field f

it_was : (above : Name) (ms : Messages) (name : Name) (n : MessageDesc) → IsMessageBelow above ms name n → Was above ms name n
it_was above ms name n d = record { m = n; below = d; fields = λ f c. c }

was_within : (above name : Name) (m n : MessageDesc) (nested rest : Messages) → Was (above ++ m.name ∷ []) nested name n → Was above (Message m nested rest) name n
was_within above name m n nested rest w = record { m = w.m; below = within above name m w.m nested rest w.below; fields = w.fields }

was_behind : (above name : Name) (m n : MessageDesc) (nested rest : Messages) → Was above rest name n → Was above (Message m nested rest) name n
was_behind above name m n nested rest w = record { m = w.m; below = behind above name m w.m nested rest w.below; fields = w.fields }

-- without an entry
pub entry_was : (token : ℕ) (t : Tree) (above : Name) (ms : Messages) (name : Name) (n : MessageDesc) → IsMessageBelow above (without_entry token t ms) name n → IsMessageBelow above ms name n
entry_was token End above ms name n d = d
entry_was token (Leaf (statement.MapField f) rest) above NoMessages name n d = d
entry_was token (Leaf (statement.MapField f) rest) above (Message m nested more) name n d = by (entry_was token rest above more name n) (f.name == token) d
  where
    by : (IsMessageBelow above (without_entry token rest more) name n → IsMessageBelow above more name n) → (b : Bool) → IsMessageBelow above (if b then more else Message m nested (without_entry token rest more)) name n → IsMessageBelow above (Message m nested more) name n
    by later true d = behind above name m n nested more d
    by later false d = elim (hit above (Message m nested (without_entry token rest more)) name n d) [
      | inl h ↦ first above name m n nested more h.0 h.1
      | inr (inl w) ↦ within above name m n nested more w
      | inr (inr b) ↦ behind above name m n nested more (later b)
    ]
entry_was token (Leaf whole rest) above ms name n d = entry_was token rest above ms name n d
entry_was token (Block (header.Message h) i inner j rest) above NoMessages name n d = d
entry_was token (Block (header.Message h) i inner j rest) above (Message m nested more) name n d = elim (hit above (Message m nested (without_entry token rest more)) name n d) [
  | inl h ↦ first above name m n nested more h.0 h.1
  | inr (inl w) ↦ within above name m n nested more w
  | inr (inr b) ↦ behind above name m n nested more (entry_was token rest above more name n b)
]
entry_was token (Block whole i inner j rest) above ms name n d = entry_was token rest above ms name n d

-- without the field
pub message_was : (token : ℕ) (t : Tree) (above : Name) (ms : Messages) (name : Name) (n : MessageDesc) → IsMessageBelow above (messages_with_deletion token t ms) name n → Was above ms name n
message_was token End above ms name n d = it_was above ms name n d
message_was token (Leaf (statement.MapField f) rest) above NoMessages name n d = it_was above NoMessages name n d
message_was token (Leaf (statement.MapField f) rest) above (Message m nested more) name n d = elim (hit above (Message m nested (messages_with_deletion token rest more)) name n d) [
  | inl h ↦ it_was above (Message m nested more) name n (first above name m n nested more h.0 h.1)
  | inr (inl w) ↦ it_was above (Message m nested more) name n (within above name m n nested more w)
  | inr (inr b) ↦ was_behind above name m n nested more (message_was token rest above more name n b)
]
message_was token (Leaf whole rest) above ms name n d = message_was token rest above ms name n d
message_was token (Block (header.Message h) i inner j rest) above NoMessages name n d = it_was above NoMessages name n d
message_was token (Block (header.Message h) i inner j rest) above (Message m nested more) name n d = by (message_was token inner (above ++ m.name ∷ []) nested name n) (message_was token rest above more name n) (is_its token inner) d
  where
    by : (IsMessageBelow (above ++ m.name ∷ []) (messages_with_deletion token inner nested) name n → Was (above ++ m.name ∷ []) nested name n) → (IsMessageBelow above (messages_with_deletion token rest more) name n → Was above more name n) → (b : Bool)
        → IsMessageBelow above (Message (if b then without_field token inner m else m) (if b then without_entry token inner nested else messages_with_deletion token inner nested) (messages_with_deletion token rest more)) name n
        → Was above (Message m nested more) name n
    by inside later true d = elim (hit above (Message (without_field token inner m) (without_entry token inner nested) (messages_with_deletion token rest more)) name n d) [
      | inl h ↦ record { m = m; below = first above name m m nested more h.0 refl; fields = λ f c. left_there (field_place token inner) m.field f (rw h.1 at c) }
      | inr (inl w) ↦ it_was above (Message m nested more) name n (within above name m n nested more (entry_was token inner (above ++ m.name ∷ []) nested name n w))
      | inr (inr b) ↦ was_behind above name m n nested more (later b)
    ]
    by inside later false d = elim (hit above (Message m (messages_with_deletion token inner nested) (messages_with_deletion token rest more)) name n d) [
      | inl h ↦ it_was above (Message m nested more) name n (first above name m n nested more h.0 h.1)
      | inr (inl w) ↦ was_within above name m n nested more (inside w)
      | inr (inr b) ↦ was_behind above name m n nested more (later b)
    ]
message_was token (Block whole i inner j rest) above ms name n d = message_was token rest above ms name n d
