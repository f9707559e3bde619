-- What is described after a rename: messages, enums and extensions of the mapped descriptors are those of the old ones.
use Rattle.std.proofs.Common.{◌≡◌, ℕ, List, [], ◌∷◌, ◌++◌, refl, sym, ◌∙◌, ap, subst, Contains}
use Rattle.proto_base.proofs.Common.{contains_map, from_map}
use Rattle.proto_descriptors.specs.Descriptors.{EnumDesc, FieldDesc, FileDesc, MessageDesc}
use Rattle.proto_edit_rename_described.proofs.Mapped.{ren_more}
use Rattle.proto_edit_rules.specs.OptionViews.{IsEnumOf, IsExtensionOf, IsMessageBelow, IsMessageOf, package_words}
use Rattle.proto_edit_rules.specs.Rename.{Taken, mapped, mapped_enum, mapped_field, mapped_file, mapped_message, mapped_messages, word_under}
use Rattle.proto_names_rules.proofs.Common.{Renaming, ren}
use Rattle.proto_names_rules.specs.Names.{Name}
use Rattle.proto_option_laws.proofs.Below.{from_below, to_below, turned_below, was_below}

module _ (e : Renaming) (taken : Taken) (ds : List FileDesc) (kept : (f : FileDesc) → Contains ds f → ren e (package_words f) ≡ package_words f) where
  -- a message afterwards
  pub record IsTurned (name : Name) (m : MessageDesc) : Type 0 where
    pub over : Name
    pub under : name ≡ over ++ m.name ∷ []
    pub is : IsMessageOf (mapped e taken ds) (ren e name) (mapped_message e taken over name m)

  pub message_turned : (name : Name) (m : MessageDesc) → IsMessageOf ds name m → IsTurned name m
  message_turned name m is =
      let f = is.file in
      let r = turned_below e taken (package_words f) f.message_type name m (from_below (package_words f) f.message_type name m is.below) in
      let b = to_below (ren e (package_words f)) (mapped_messages e taken (package_words f) f.message_type) (ren e name) (mapped_message e taken r.0 name m) r.2 in
      record {
        over = r.0;
        under = r.1;
        is = record {
          file = mapped_file e taken f;
          within = contains_map (mapped_file e taken) ds f is.within;
          below = subst (λ z. IsMessageBelow z (mapped_messages e taken (package_words f) f.message_type) (ren e name) (mapped_message e taken r.0 name m)) (kept f is.within) b;
        };
      }

  -- the message that one afterwards was
  pub record IsOld (next : Name) (n : MessageDesc) : Type 0 where
    pub name : Name
    pub m : MessageDesc
    pub over : Name
    pub is : IsMessageOf ds name m
    pub named : ren e name ≡ next
    pub turned : n ≡ mapped_message e taken over name m

  pub message_was : (next : Name) (n : MessageDesc) → IsMessageOf (mapped e taken ds) next n → IsOld next n
  message_was next n is =
      let o = from_map (mapped_file e taken) ds is.file is.within in
      let f = o.0 in
      let b : IsMessageBelow (package_words f) (mapped_messages e taken (package_words f) f.message_type) next n = subst (λ (z : FileDesc). IsMessageBelow (package_words z) z.message_type next n) (sym o.2) is.below in
      let w = was_below e taken (package_words f) f.message_type next n
      (from_below (ren e (package_words f)) (mapped_messages e taken (package_words f) f.message_type) next n (subst (λ z. IsMessageBelow z (mapped_messages e taken (package_words f) f.message_type) next n) (sym (kept f o.1)) b)) in
      record {
        name = w.name;
        m = w.m;
        over = w.over;
        is = record { file = f; within = o.1; below = to_below (package_words f) f.message_type w.name w.m w.stood };
        named = w.named;
        turned = w.is;
      }

  -- a word right below the name of a package
  package_more : (f : FileDesc) → Contains ds f → (w : List ℕ) → package_words f ++ word_under e (package_words f) w ∷ [] ≡ ren e (package_words f ++ w ∷ [])
  package_more f c w = sym (ren_more e (package_words f) w ∙ ap (λ z. z ++ word_under e (package_words f) w ∷ []) (kept f c))

  pub enum_turned : (name : Name) (d : EnumDesc) → IsEnumOf ds name d → (above : Name) × (name ≡ above ++ d.name ∷ []) × IsEnumOf (mapped e taken ds) (ren e name) (mapped_enum e above d)
  enum_turned _ _ (IsEnumOf.in_file f d cf cd) =
      let is = IsEnumOf.in_file (mapped_file e taken f) (mapped_enum e (package_words f) d) (contains_map (mapped_file e taken) ds f cf) (contains_map (mapped_enum e (package_words f)) f.enum_type d cd) in
      (package_words f, refl, subst (λ z. IsEnumOf (mapped e taken ds) z (mapped_enum e (package_words f) d)) (package_more f cf d.name) is)
  enum_turned _ _ (IsEnumOf.in_message name m d im cd) =
      let t = message_turned name m im in
      let is = IsEnumOf.in_message (ren e name) (mapped_message e taken t.over name m) (mapped_enum e name d) t.is (contains_map (mapped_enum e name) m.enum_type d cd) in
      (name, refl, subst (λ z. IsEnumOf (mapped e taken ds) z (mapped_enum e name d)) (sym (ren_more e name d.name)) is)

  pub extension_turned : (name : Name) (x : FieldDesc) → IsExtensionOf ds name x → (above : Name) × IsExtensionOf (mapped e taken ds) (ren e name) (mapped_field e taken above x)
  extension_turned _ _ (IsExtensionOf.in_file f x cf cx) =
      let is = IsExtensionOf.in_file (mapped_file e taken f) (mapped_field e taken (package_words f) x) (contains_map (mapped_file e taken) ds f cf) (contains_map (mapped_field e taken (package_words f)) f.extension x cx) in
      (package_words f, subst (λ z. IsExtensionOf (mapped e taken ds) z (mapped_field e taken (package_words f) x)) (package_more f cf x.name) is)
  extension_turned _ _ (IsExtensionOf.in_message name m x im cx) =
      let t = message_turned name m im in
      let is = IsExtensionOf.in_message (ren e name) (mapped_message e taken t.over name m) (mapped_field e taken name x) t.is (contains_map (mapped_field e taken name) m.extension x cx) in
      (name, subst (λ z. IsExtensionOf (mapped e taken ds) z (mapped_field e taken name x)) (sym (ren_more e name x.name)) is)
