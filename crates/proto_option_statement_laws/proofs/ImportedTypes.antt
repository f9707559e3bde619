-- Messages, enums and extensions by their full names, where the imports of one file change.
use Rattle.std.proofs.Common.{◌≡◌, ℕ, inl, inr, List, [], ◌∷◌, ◌++◌, refl, sym, subst, Contains}
use Rattle.proto_base.specs.Texts.{Text}
use Rattle.proto_names_rules.specs.Names.{Name}
use Rattle.proto_descriptors.specs.Descriptors.{EnumDesc, FieldDesc, FileDesc, MessageDesc, Messages}
use Rattle.proto_edit_rules.specs.OptionViews.{IsEnumOf, IsExtensionOf, IsMessageBelow, IsMessageOf, SeesTheSame, in_file, in_message, package_words}
use Rattle.proto_edit_rules.specs.Statements.{changed_at}
use Rattle.proto_option_statement_laws.proofs.Lists.{changed_from, changed_to}
use Rattle.proto_option_statement_laws.proofs.Views.{filled_before}

-- a change of a file that leaves its package, its messages, enums and extensions
pub record LeavesTypes (f : FileDesc → FileDesc) : Type 0 where
  pub words : (d : FileDesc) → package_words (f d) ≡ package_words d
  pub messages : (d : FileDesc) → (f d).message_type ≡ d.message_type
  pub enums : (d : FileDesc) → (f d).enum_type ≡ d.enum_type
  pub extensions : (d : FileDesc) → (f d).extension ≡ d.extension

module _ (f : FileDesc → FileDesc) (leaves : LeavesTypes f) (place : ℕ) (ds : List FileDesc) where
  abbrev new : List FileDesc
  new = changed_at place f ds

  below_now : (d : FileDesc) (name : Name) (m : MessageDesc) → IsMessageBelow (package_words d) d.message_type name m → IsMessageBelow (package_words (f d)) (f d).message_type name m
  below_now d name m b =
      subst (λ (w : Name). IsMessageBelow w (f d).message_type name m) (sym (leaves.words d)) (subst (λ (ms : Messages). IsMessageBelow (package_words d) ms name m) (sym (leaves.messages d)) b)

  below_then : (d : FileDesc) (name : Name) (m : MessageDesc) → IsMessageBelow (package_words (f d)) (f d).message_type name m → IsMessageBelow (package_words d) d.message_type name m
  below_then d name m b =
      subst (λ (w : Name). IsMessageBelow w d.message_type name m) (leaves.words d) (subst (λ (ms : Messages). IsMessageBelow (package_words (f d)) ms name m) (leaves.messages d) b)

  message_now : (name : Name) (m : MessageDesc) → IsMessageOf ds name m → IsMessageOf new name m
  message_now name m is = elim (changed_to place f ds is.file is.within) [
    | inl c ↦ record { file = is.file; within = c; below = is.below }
    | inr c ↦ record { file = f is.file; within = c.1; below = below_now is.file name m is.below }
  ]

  message_then : (name : Name) (m : MessageDesc) → IsMessageOf new name m → IsMessageOf ds name m
  message_then name m is =
      let c = changed_from place f ds is.file is.within in
      elim c.2 [
        | inl e ↦ record { file = c.0; within = c.1; below = subst (λ (z : FileDesc). IsMessageBelow (package_words z) z.message_type name m) e is.below }
        | inr e ↦ record { file = c.0; within = c.1; below = below_then c.0 name m (subst (λ (z : FileDesc). IsMessageBelow (package_words z) z.message_type name m) e.1 is.below) }
      ]

  extension_now : (name : Name) (x : FieldDesc) → IsExtensionOf ds name x → IsExtensionOf new name x
  extension_now _ _ (in_file d x c cx) = elim (changed_to place f ds d c) [
    | inl same ↦ in_file d x same cx
    | inr made ↦ subst (λ (w : Name). IsExtensionOf new (w ++ x.name ∷ []) x) (leaves.words d) (in_file (f d) x made.1 (subst (λ (xs : List FieldDesc). Contains xs x) (sym (leaves.extensions d)) cx))
  ]
  extension_now _ _ (in_message name m x is cx) = in_message name m x (message_now name m is) cx

  enum_now : (name : Name) (x : EnumDesc) → IsEnumOf ds name x → IsEnumOf new name x
  enum_now _ _ (in_file d x c cx) = elim (changed_to place f ds d c) [
    | inl same ↦ in_file d x same cx
    | inr made ↦ subst (λ (w : Name). IsEnumOf new (w ++ x.name ∷ []) x) (leaves.words d) (in_file (f d) x made.1 (subst (λ (xs : List EnumDesc). Contains xs x) (sym (leaves.enums d)) cx))
  ]
  enum_now _ _ (in_message name m x is cx) = in_message name m x (message_now name m is) cx

  -- a reader of a value sees the same
  pub sees_types : (these : List Text) (name : Name) (x : FieldDesc) → IsExtensionOf ds name x → IsExtensionOf new name x × SeesTheSame (λ t. t) these ds new x x
  sees_types these name x is = (
    extension_now name x is,
    record {
      own = refl;
      messages = λ message m filled im. (m, message_now message m im, refl);
      enums = λ enum e filled ie. (e, enum_now enum e ie, refl);
      none_new = λ next filled. (next, filled_before these ds new x (λ message n im. record { m = n; is = message_then message n im; fields = λ g c. c }) next filled, refl);
    },
  )
