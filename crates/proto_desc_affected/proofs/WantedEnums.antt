-- A table of the enums of wanted files has those that references of marked files mean.
use Rattle.std.proofs.Common.{◌≡◌, ℕ, ◌≤◌, Bool, true, false, if◌then◌else◌, List, [], length, get_or, Option, Some, None, option_map, option_and_then, find, refl, sym, ap, ◌∙◌, inl, inr, arith}
use Rattle.proto_base.proofs.Common.{cases_lt, false≢true, get_or_past}
use Rattle.proto_tree.proofs.Common.{End}
use Rattle.proto_files.proofs.Common.{AreRead, FileOf, ReadOf}
use Rattle.proto_names_rules.specs.Grown.{At, at}
use Rattle.proto_ast.proofs.Common.{EnumOf, blocks_in}
use Rattle.proto_names.proofs.Common.{LinkOf, declaring_file, declaring_token}
use Rattle.proto_names.specs.Linking.{Meant}
use Rattle.proto_resolved.specs.Common.{IsEnumTableOf, enum_at, enum_in, enum_of_name, enum_within, is_enum_at, is_proto3_file, lexemes_of}
use Rattle.proto_resolved.specs.declared.enum_table.EnumTable.{EnumTable}
use Rattle.proto_desc_affected.specs.Checked.{MeantMessagesAreNoEnums, kept_by_link}
use Rattle.proto_desc_affected.specs.Common.{IsEnumMarked, WantedEnumsAreThere}

-- a file that is not there has no enum
none_past : (files : List FileOf) (reads : List ReadOf) (a : At) → length reads ≤ a.file → enum_at files reads a ≡ None
none_past files reads a past =
    ap (λ (r : ReadOf). option_map (λ b. enum_within (lexemes_of files reads a.file) (is_proto3_file files reads a.file) b.within) (find (λ b. is_enum_at a.token b.header) (blocks_in r.tree)))
    (get_or_past reads a.file (record { tokens = []; tree = End }) past)

-- the enum at a token of a file, where there are both
abbrev enum_there : (At → Option EnumOf) → Option ℕ → Option ℕ → Option EnumOf
enum_there enum file token = option_and_then (λ g. option_and_then (λ t. enum (at g t)) token) file

module _ (files : List FileOf) (reads : List ReadOf) (are : AreRead files reads) (l : LinkOf) (wanted : List Bool) (len : length wanted ≡ length files)
    (table : EnumTable) (of : IsEnumTableOf files wanted table) (m : Meant) (asked : IsEnumMarked l wanted m)
    (no_enum : (kept_by_link l m).is_message ≡ true → enum_of_name l (enum_at files reads) m.row ≡ None) where
  -- where a file declares what the reference means, at some token
  at_token : (g t : ℕ) → declaring_file l m.row ≡ Some g → enum_of_name l (enum_at files reads) m.row ≡ enum_at files reads (at g t) → enum_in table (at g t) ≡ enum_at files reads (at g t)
  at_token g t own is = of reads are (at g t) ∙ go (get_or wanted g false) refl
    where
      left_out : get_or wanted g false ≡ false → (b : Bool) → (kept_by_link l m).is_message ≡ b → None ≡ enum_at files reads (at g t)
      left_out off true e = sym (no_enum e) ∙ is
      left_out off false e = elim (cases_lt g (length wanted)) [
        | inl within ↦ absurd (false≢true (sym off ∙ asked e g own within))
        | inr past ↦ sym (none_past files reads (at g t) (omega (arith, past, len, are.same)))
      ]

      go : (b : Bool) → get_or wanted g false ≡ b → (if b then enum_at files reads (at g t) else None) ≡ enum_at files reads (at g t)
      go true e = refl
      go false e = left_out e (kept_by_link l m).is_message refl

  same_enum : (file : Option ℕ) → declaring_file l m.row ≡ file → (token : Option ℕ) → declaring_token l m.row ≡ token → enum_there (enum_in table) file token ≡ enum_there (enum_at files reads) file token
  same_enum None e token h = refl
  same_enum (Some g) e None h = refl
  same_enum (Some g) e (Some t) h =
      at_token g t e (ap (λ (o : Option ℕ). enum_there (enum_at files reads) o (declaring_token l m.row)) e ∙ ap (enum_there (enum_at files reads) (Some g)) h)

pub wanted_enums_are_there : MeantMessagesAreNoEnums → WantedEnumsAreThere
wanted_enums_are_there no_enums files l link marks wanted enums table of file within marked reads are = λ k m n.
    (let one = get_or (get_or l.meant file []) k m in
    same_enum files reads are l wanted enums.len table of one (enums.each file within marked k m n) (no_enums files l link reads are file within k m n)
    (declaring_file l one.row) refl (declaring_token l one.row) refl)
