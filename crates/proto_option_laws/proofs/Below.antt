-- Messages below a name, by cases on the messages, and under the name map (for the crates above).
use Rattle.std.proofs.Common.{◌≡◌, ◌⊎◌, [], ◌∷◌, ◌++◌, refl, sym, ◌∙◌, ap, subst, inl, inr}
use Rattle.proto_descriptors.specs.Descriptors.{MessageDesc, Messages, NoMessages, Message}
use Rattle.proto_edit_rename_described.proofs.Mapped.{ren_more}
use Rattle.proto_edit_rules.specs.OptionViews.{IsMessageBelow, here, within, behind}
use Rattle.proto_edit_rules.specs.Rename.{Taken, mapped_message, mapped_messages}
use Rattle.proto_names_rules.proofs.Common.{Renaming, ren}
use Rattle.proto_names_rules.specs.Names.{Name}

-- a message of this full name stands right below a name, or in one of these messages
abbrev pub Stands : Name → Messages → Name → MessageDesc → Type 0
Stands above NoMessages name m = ⊥
Stands above (Message k nested rest) name m =
    ((name ≡ above ++ k.name ∷ []) × (m ≡ k)) ⊎ (Stands (above ++ k.name ∷ []) nested name m ⊎ Stands above rest name m)

pub from_below : (above : Name) (ms : Messages) (name : Name) (m : MessageDesc) → IsMessageBelow above ms name m → Stands above ms name m
from_below _ _ _ _ (here above m nested rest) = inl (refl, refl)
from_below _ _ _ _ (within above name m n nested rest b) = inr (inl (from_below (above ++ m.name ∷ []) nested name n b))
from_below _ _ _ _ (behind above name m n nested rest b) = inr (inr (from_below above rest name n b))

pub to_below : (above : Name) (ms : Messages) (name : Name) (m : MessageDesc) → Stands above ms name m → IsMessageBelow above ms name m
to_below above NoMessages name m s = absurd s
to_below above (Message k nested rest) name m s = elim s [
  | inl q ↦ subst (λ x. IsMessageBelow above (Message k nested rest) x m) (sym q.0) (subst (λ x. IsMessageBelow above (Message k nested rest) (above ++ k.name ∷ []) x) (sym q.1) (here above k nested rest))
  | inr (inl b) ↦ within above name k m nested rest (to_below (above ++ k.name ∷ []) nested name m b)
  | inr (inr b) ↦ behind above name k m nested rest (to_below above rest name m b)
]

module _ (e : Renaming) (taken : Taken) where
  -- what a message becomes
  pub turned_below : (above : Name) (ms : Messages) (name : Name) (m : MessageDesc) → Stands above ms name m
      → (over : Name) × (name ≡ over ++ m.name ∷ []) × Stands (ren e above) (mapped_messages e taken above ms) (ren e name) (mapped_message e taken over name m)
  turned_below above NoMessages name m s = absurd s
  turned_below above (Message k nested rest) name m s = elim s [
    | inl q ↦ (
      above,
      q.0 ∙ ap (λ (z : MessageDesc). above ++ z.name ∷ []) (sym q.1),
      inl (ap (ren e) q.0 ∙ ren_more e above k.name, ap (mapped_message e taken above name) q.1 ∙ ap (λ z. mapped_message e taken above z k) q.0),
    )
    | inr (inl b) ↦ (
        let r = turned_below (above ++ k.name ∷ []) nested name m b in
        (r.0, r.1, inr (inl (subst (λ z. Stands z (mapped_messages e taken (above ++ k.name ∷ []) nested) (ren e name) (mapped_message e taken r.0 name m)) (ren_more e above k.name) r.2))))
    | inr (inr b) ↦ (let r = turned_below above rest name m b in (r.0, r.1, inr (inr r.2)))
  ]

  -- the message that a mapped one was
  pub record WasBelow (above : Name) (ms : Messages) (next : Name) (n : MessageDesc) : Type 0 where
    pub name : Name
    pub m : MessageDesc
    pub over : Name
    pub stood : Stands above ms name m
    pub named : ren e name ≡ next
    pub is : n ≡ mapped_message e taken over name m
    pub under : name ≡ over ++ m.name ∷ []

  pub was_below : (above : Name) (ms : Messages) (next : Name) (n : MessageDesc) → Stands (ren e above) (mapped_messages e taken above ms) next n → WasBelow above ms next n
  was_below above NoMessages next n s = absurd s
  was_below above (Message k nested rest) next n s = elim s [
    | inl q ↦ record {
      name = above ++ k.name ∷ [];
      m = k;
      over = above;
      stood = inl (refl, refl);
      named = ren_more e above k.name ∙ sym q.0;
      is = q.1;
      under = refl;
    }
    | inr (inl b) ↦ (
        let r = was_below (above ++ k.name ∷ []) nested next n (subst (λ z. Stands z (mapped_messages e taken (above ++ k.name ∷ []) nested) next n) (sym (ren_more e above k.name)) b) in
        record { name = r.name; m = r.m; over = r.over; stood = inr (inl r.stood); named = r.named; is = r.is; under = r.under })
    | inr (inr b) ↦ (
        let r = was_below above rest next n b in
        record { name = r.name; m = r.m; over = r.over; stood = inr (inr r.stood); named = r.named; is = r.is; under = r.under })
  ]
