-- What a reader of an option sees of the types that its value may fill is the same after an allowed rename.
use Rattle.std.proofs.Common.{◌≡◌, ◌≢◌, ◌⊎◌, ℕ, ℤ, Bool, true, false, List, [], ◌∷◌, ◌++◌, Option, Some, None, option_map, refl, sym, ◌∙◌, ap, ap₂, subst, inl, inr, Contains, filter}
use Rattle.proto_base.proofs.Common.{cases_Bool, cond-false, cond-true, contains_head, contains_later, contains_map, from_map, none-some, same_Some}
use Rattle.proto_ast.specs.Options.{is_one_of}
use Rattle.proto_base.specs.Texts.{Text}
use Rattle.proto_case.proofs.Common.{entry_differs, entry_name}
use Rattle.proto_custom_options.specs.CustomOptions.{CustomOf, custom_words, customs_in}
use Rattle.proto_desc.specs.Checked.{described}
use Rattle.proto_descriptors.specs.Descriptors.{EnumDesc, EnumValueDesc, FieldDesc, FileDesc, MessageDesc}
use Rattle.proto_edit_rename_described.specs.Allowed.{IsAllowedRename}
use Rattle.proto_edit_rename_described.proofs.Allowed.{is_rename}
use Rattle.proto_edit_rename_described.proofs.FilesTurn.{files_turn}
use Rattle.proto_edit_rename_described.proofs.Mapped.{words_of_dotted}
use Rattle.proto_edit_rename_laws.proofs.Common.{AreReworded, IsRename, Target, may_rename, name_map, renamed_words}
use Rattle.proto_edit_rename_laws.proofs.Declarations.{ends_with_token, is_written}
use Rattle.proto_edit_rename_laws.proofs.Rewording.{skeletons_stay}
use Rattle.proto_edit_rules.specs.OptionViews.{IsEnumOf, IsExtensionOf, IsFilled, IsMessageOf, SeenField, SeesTheSame, enum_view, message_view, of_extension, of_field, package_words, seen_field, seen_value, texts_at}
use Rattle.proto_edit_rules.specs.Options.{IsOptionWord, is_named_in_values}
use Rattle.proto_edit_rules.specs.Rename.{Taken, WritesJson, mapped, mapped_enum, mapped_field, mapped_message, mapped_name, mapped_value, option_value, word_under, words_of}
use Rattle.proto_files.proofs.Common.{FileOf, ReadOf, read_at}
use Rattle.proto_names_imports.proofs.Common.{link_skeleton, names_of_files, text_of}
use Rattle.proto_names_rules.proofs.Common.{ArePlain, At, Declared, EntryFits, IsRenaming, Renaming, Skeleton, Symbol, Token, aim_renaming, at, map_append, moves, moves_to, name_after, name_from_same, name_of, one_symbol, ren, ren_apart, same_name, snoc_parts, spell, stays, symbol_of, target, turned}
use Rattle.proto_names_rules.specs.Names.{Name}
use Rattle.proto_names_rules.specs.declared.kind.Kind.{Kind}
use Rattle.proto_names_rules.specs.declared.kind.Kind.TheVariants.{Package, Entry, Field, EntryField, Value}
use Rattle.proto_option_laws.proofs.Declared.{described_by, enums_are_declared, extensions_are_declared, messages_are_declared, package_is}
use Rattle.proto_option_laws.proofs.Filtered.{filtered}
use Rattle.proto_option_laws.proofs.Filled.{filled_are_unaffected, one_file, reached}
use Rattle.proto_option_laws.proofs.Maps.{enum_turned, message_turned, message_was}
use Rattle.proto_option_laws.proofs.Types.{linked, plain}
use Rattle.proto_option_laws.specs.Declared.{HasName, IsDeclaredExtension, TypeIsReached}
use Rattle.proto_resolved.specs.SceneOf.{name_meant}

no : false ≡ true → ⊥
no h = cc

-- ---- words

-- the word stays, or neither it nor what it becomes is one of these
abbrev IsUnaffected : List Text → Text → Text → Type 0
IsUnaffected these v w = (w ≡ v) ⊎ ((is_one_of these v ≡ false) × (is_one_of these w ≡ false))

unaffected_tests : (these : List Text) (v w : Text) → IsUnaffected these v w → is_one_of these w ≡ is_one_of these v
unaffected_tests these v w (inl q) = ap (is_one_of these) q
unaffected_tests these v w (inr n) = n.1 ∙ sym n.0

unaffected_same : (these : List Text) (v w : Text) → IsUnaffected these v w → is_one_of these v ≡ true → w ≡ v
unaffected_same these v w (inl q) h = q
unaffected_same these v w (inr n) h = absurd (no (sym n.0 ∙ h))

-- ---- kinds

-- of what stands in a message or an enum and has its word in values
abbrev IsInType : Kind → Type 0
IsInType k = (is_named_in_values k ≡ true) ⊎ (k ≡ EntryField)

in_type : (k : Kind) → (k ≡ Field) ⊎ (k ≡ EntryField) → IsInType k
in_type k (inl q) = inl (ap is_named_in_values q)
in_type k (inr q) = inr q

no_entry_field : (j : Kind) → is_named_in_values j ≡ false → (EntryField ≡ j → ⊥) → (k : Kind) → IsInType k → k ≡ j → ⊥
no_entry_field j h ne k (inl q) e = no (sym h ∙ ap is_named_in_values (sym e) ∙ q)
no_entry_field j h ne k (inr q) e = ne (sym q ∙ e)

entry_field_differs : EntryField ≡ Package → ⊥
entry_field_differs e = cc

entry_field_no_entry : EntryField ≡ Entry → ⊥
entry_field_no_entry e = cc

in_no_package : (k : Kind) → IsInType k → k ≡ Package → ⊥
in_no_package = no_entry_field Package refl entry_field_differs

in_no_entry : (k : Kind) → IsInType k → k ≡ Entry → ⊥
in_no_entry = no_entry_field Entry refl entry_field_no_entry

named_in : (k : Kind) → IsInType k → may_rename k ≡ true → is_named_in_values k ≡ true
named_in k (inl q) m = q
named_in k (inr q) m = absurd (no (sym (ap may_rename q) ∙ m))

in_written : (k : Kind) → is_named_in_values k ≡ true → is_written k ≡ true
in_written Field h = refl
in_written Value h = refl
in_written _ h = absurd (no h)

same_token : (i j : At) → Token i ≡ Token j → i ≡ j
same_token i j h = cc

module _ (files : List FileOf) (reads : List ReadOf) (name to : List ℕ) (t : Target) (after : List FileOf) (seen : List ReadOf)
    (al : IsAllowedRename files reads name to t) (w : AreReworded (renamed_words files reads t to) files reads after seen) where
  abbrev e : Renaming
  e = name_map files reads t to

  is : IsRename files reads (renamed_words files reads t to) after seen t.token t.above t.aim t.is_map to
  is = is_rename files reads name to t after seen al w

  renaming : IsRenaming (name_map files reads t to) (names_of_files files reads)
  renaming = aim_renaming (text_of files reads) (text_of after seen) entry_name (link_skeleton files reads) t.token t.above t.aim t.is_map to is.linked is.woven is.is is.entry is.respelled entry_differs

  abbrev words : List Text
  words = text_of files reads t.token ∷ to ∷ []

  -- ---- words of fields and values

  aim_name : HasName files reads t.aim (target (name_map files reads t to))
  aim_name = ap (name_of (text_of files reads) entry_name) al.named.path ∙ map_append (spell (text_of files reads) entry_name) t.above (Token t.token ∷ [])

  token_file : is_named_in_values t.aim.kind ≡ true → t.aim.file ≡ t.token.file
  token_file h =
      let p = ends_with_token 0 reads t.aim al.named.within (in_written t.aim.kind h) in
      ap (λ (x : At). x.file) (sym (same_token t.token (at t.aim.file p.1) (snoc_parts t.above p.0 (Token t.token) (Token (at t.aim.file p.1)) (sym al.named.path ∙ p.2)).1))

  module _ (these : List Text) (s : Declared At) (cs : Contains (link_skeleton files reads).declared s) (above : Name) (v : Text) (n : HasName files reads s (above ++ v ∷ [])) (k : IsInType s.kind)
      (is_unaffected : ((a : At) → IsOptionWord files reads s.file words a → ⊥) → (u : Text) → Contains words u → is_one_of these u ≡ false) where
    target_unaffected : above ≡ e.parent → v ≡ e.old → (u : Text) → Contains words u → is_one_of these u ≡ false
    target_unaffected p q =
        let full : above ++ v ∷ [] ≡ target (name_map files reads t to) = ap₂ (λ (x : Name) (y : Text). x ++ y ∷ []) p q in
        let same : s ≡ t.aim = one_file files reads al.read al.link (target (name_map files reads t to)) s t.aim cs al.named.within (n ∙ full) aim_name (in_no_package s.kind k) in
        let kind : is_named_in_values t.aim.kind ≡ true = named_in t.aim.kind (subst IsInType (ap (λ (d : Declared At). d.kind) same) k) al.named.kind in
        let file : s.file ≡ t.token.file = ap (λ (d : Declared At). d.file) same ∙ token_file kind in
        is_unaffected (λ a h. al.admissible 19 (option_value t a al.named (kind, subst (λ f. IsOptionWord files reads f words a) file h)))

    no_entry_here : (p : List ℕ × List ℕ) → above ≡ e.parent → e.entry ≡ Some p → v ≡ p.0 → ⊥
    no_entry_here p q h m =
        let fits : EntryFits (names_of_files files reads) (name_map files reads t to) (Some p) = subst (EntryFits (names_of_files files reads) (name_map files reads t to)) h renaming.entry_is in
        let entry = fits.2 in
        let full : above ++ v ∷ [] ≡ e.parent ++ p.0 ∷ [] = ap₂ (λ (x : Name) (y : Text). x ++ y ∷ []) q m in
        let mine = symbol_of (text_of files reads) entry_name s in
        let there = contains_map (symbol_of (text_of files reads) entry_name) (link_skeleton files reads).declared s cs in
        elim (one_symbol (names_of_files files reads).symbols (linked files reads al.read al.link).unique mine entry.0 there entry.1 (n ∙ full ∙ sym entry.2)) [
          | inl same ↦ in_no_entry s.kind k (ap (λ (z : Symbol). z.kind) same ∙ entry.3)
          | inr both ↦ in_no_package s.kind k both.0
        ]

    word_turns : IsUnaffected these v (word_under (name_map files reads t to) above v)
    word_turns = elim (cases_Bool (same_name above e.parent)) [
      | inr off ↦ inl (cond-false (same_name above e.parent) (turned e v) v off)
      | inl there ↦ (
          let p = name_from_same above e.parent there in
          let turns = cond-true (same_name above e.parent) (turned e v) v there in
          elim (cases_Bool (moves e v)) [
            | inr stay ↦ inl (turns ∙ stays e v stay)
            | inl move ↦ elim (moves_to e v move) [
              | inl q ↦ (
                  let none = target_unaffected p q.0 in
                  inr (
                    ap (is_one_of these) q.0 ∙ none (text_of files reads t.token) (contains_head (text_of files reads t.token) (to ∷ [])),
                    ap (is_one_of these) (turns ∙ q.1) ∙ none to (contains_later (text_of files reads t.token) to (to ∷ []) (contains_head to [])),
                  ))
              | inr q ↦ absurd (no_entry_here q.0 p q.1 q.2)
            ]
          ])
    ]

  -- ---- types

  -- the new name of what is declared is plain
  plain_after : (d : Declared At) → Contains (link_skeleton files reads).declared d → (x : Name) → HasName files reads d x → ArePlain (ren (name_map files reads t to) x)
  plain_after d cd x h =
      let there = subst (λ (z : Skeleton At). Contains z.declared d) (sym (skeletons_stay (renamed_words files reads t to) files reads after seen is.read is.suits is.reworded)) cd in
      let named = name_after (text_of files reads) (text_of after seen) entry_name (link_skeleton files reads) t.token t.above t.aim t.is_map to is.linked is.woven is.is is.entry is.respelled entry_differs d cd in
      subst ArePlain (named ∙ ap (ren (name_map files reads t to)) h) (plain after seen w.read d there)

  type_turns : (from : ℕ) (x : Text) → TypeIsReached files reads from (Some x) → words_of (mapped_name (name_map files reads t to) x) ≡ ren (name_map files reads t to) (words_of x)
  type_turns from x h = let d = h (words_of x) refl in words_of_dotted (ren e (words_of x)) (plain_after d.d d.within (words_of x) d.name_is)

  types_turn : (from : ℕ) (o : Option Text) → TypeIsReached files reads from o → option_map words_of (option_map (mapped_name (name_map files reads t to)) o) ≡ option_map (λ x. ren (name_map files reads t to) (words_of x)) o
  types_turn from None h = refl
  types_turn from (Some x) h = ap Some (type_turns from x h)

  type_was : (from : ℕ) (o : Option Text) → TypeIsReached files reads from o → (next : Name) → option_map words_of (option_map (mapped_name (name_map files reads t to)) o) ≡ Some next
      → (x : Name) × (option_map words_of o ≡ Some x) × (ren (name_map files reads t to) x ≡ next)
  type_was from None h next q = absurd (none-some next q)
  type_was from (Some x) h next q = (words_of x, refl, sym (type_turns from x h) ∙ same_Some (words_of (mapped_name e x)) next q)

  -- packages keep their names
  pub packages_stay : (written : Bool) → WritesJson files reads t written → (f : FileDesc) → Contains (described files reads) f → ren (name_map files reads t to) (package_words f) ≡ package_words f
  packages_stay written writes f cf =
      let o = described_by files reads al.read al.link f cf in
      let p = package_is files reads al.read al.link o.0 o.1 in
      let stay = (files_turn files reads name to t after seen al w written writes o.0 o.1).kept in
      subst (λ (z : FileDesc). ren e (package_words z) ≡ package_words z) (sym o.2) (ap (ren e) p ∙ stay ∙ sym p)

  -- ---- the types that the value of an option may fill

  module _ (written : Bool) (writes : WritesJson files reads t written) (file : ℕ) (c : CustomOf) (within : Contains (customs_in (read_at reads file).tree) c) (extension : Name) (x : FieldDesc)
      (means : name_meant files reads file c.custom.name ≡ Some extension) (ix : IsExtensionOf (described files reads) extension x) where
    abbrev taken : Taken
    taken = record { written = written; enum = t.enum }

    abbrev these : List Text
    these = texts_at files reads file (custom_words c.custom)

    abbrev ds : List FileDesc
    ds = described files reads

    abbrev Filled : Name → Type 0
    Filled = IsFilled these ds x

    kept : (f : FileDesc) → Contains ds f → ren e (package_words f) ≡ package_words f
    kept = packages_stay written writes

    unaffected_in : (next : Name) → Filled next → (d : Declared At) → Contains (link_skeleton files reads).declared d → HasName files reads d next → d.kind ≢ Package → (f : ℕ) → f ≡ d.file
        → ((a : At) → IsOptionWord files reads f words a → ⊥) → (u : Text) → Contains words u → is_one_of these u ≡ false
    unaffected_in next filled d cd nd other f q none =
        filled_are_unaffected files reads al.read al.link file c within extension x means ix next filled d cd nd other words (λ a h. none a (subst (λ n. IsOptionWord files reads n words a) (sym q) h))

    field_unaffected : (next : Name) (m : MessageDesc) → Filled next → IsMessageOf ds next m → (f : FieldDesc) → Contains m.field f → IsUnaffected these f.name (word_under e next f.name)
    field_unaffected next m filled im f cf =
        let k = messages_are_declared files reads al.read al.link next m im in
        let g = k.fields f cf in
        word_turns these g.d g.within next f.name g.name_is (in_type g.d.kind g.kind) (unaffected_in next filled k.d k.within k.name_is k.no_package g.d.file g.file_is)

    own : IsDeclaredExtension files reads extension x
    own = extensions_are_declared files reads al.read al.link extension x ix

    -- ---- what is seen

    field_seen : (next : Name) (f : FieldDesc) (from : ℕ) → TypeIsReached files reads from f.type_name → word_under e next f.name ≡ f.name → seen_field (λ x. x) (mapped_field e taken next f) ≡ seen_field (ren e) f
    field_seen next f from h q =
        let types = types_turn from f.type_name h in
        λ i. record { name = q i; number = f.number; label = f.label; field_type = f.field_type; type_name = types i; options = f.options }

    -- the extension is the same field, but for its name
    own_is_same : (above : Name) → seen_field (λ x. x) (mapped_field e taken above x) ≡ record (seen_field (ren e) x) { name = word_under e above x.name }
    own_is_same above =
        let types = types_turn own.d.file x.type_name own.type in
        λ i. record { name = word_under e above x.name; number = x.number; label = x.label; field_type = x.field_type; type_name = types i; options = x.options }

    message_seen : (over next : Name) (m : MessageDesc) → Filled next → IsMessageOf ds next m → message_view (λ x. x) these (mapped_message e taken over next m) ≡ message_view (ren e) these m
    message_seen over next m filled im =
        let pair : List SeenField → List SeenField × List Text = λ fs. (fs, filter (is_one_of these) m.reserved_name) in
        let k = messages_are_declared files reads al.read al.link next m im in
        ap pair (filtered (λ (f : FieldDesc). is_one_of these f.name) (λ (f : FieldDesc). is_one_of these f.name) (mapped_field e taken next) (seen_field (λ x. x)) (seen_field (ren e)) m.field (λ f cf. (
          unaffected_tests these f.name (word_under e next f.name) (field_unaffected next m filled im f cf),
          λ h. field_seen next f k.d.file (k.fields f cf).type (unaffected_same these f.name (word_under e next f.name) (field_unaffected next m filled im f cf) h),
        )))

    enum_seen : (next : Name) (d : EnumDesc) → Filled next → IsEnumOf ds next d → (above : Name) → next ≡ above ++ d.name ∷ [] → enum_view these (mapped_enum e above d) ≡ enum_view these d
    enum_seen next d filled ie above under =
        let o = enums_are_declared files reads al.read al.link next d ie in
        let k = o.2 in
        let same : o.0 ≡ above = (snoc_parts o.0 above d.name d.name (sym o.1 ∙ under)).0 in
        let is_unaffected : (v : EnumValueDesc) → Contains d.value v → IsUnaffected these v.name (word_under e above v.name) = λ v cv. (
        let g = k.values v cv in
        subst (λ z. IsUnaffected these v.name (word_under e z v.name)) same
        (word_turns these g.d g.within o.0 v.name g.name_is (inl (ap is_named_in_values g.kind)) (unaffected_in next filled k.d k.within (k.name_is ∙ sym o.1) k.no_package g.d.file g.file_is))) in
        filtered (λ (v : EnumValueDesc). is_one_of these v.name) (λ (v : EnumValueDesc). is_one_of these v.name) (mapped_value e above) seen_value seen_value d.value (λ v cv. (
          unaffected_tests these v.name (word_under e above v.name) (is_unaffected v cv),
          λ h. (let pair : Text → Text × ℤ = λ z. (z, v.number) in ap pair (unaffected_same these v.name (word_under e above v.name) (is_unaffected v cv) h)),
        ))

    -- ---- no other type is filled

    -- names that are declared become one where they were one
    name_was : (p q : Name) (d g : Declared At) → Contains (link_skeleton files reads).declared d → Contains (link_skeleton files reads).declared g → HasName files reads d p → HasName files reads g q → ren e p ≡ ren e q → p ≡ q
    name_was p q d g cd cg np nq h =
        let old = ren_apart e (names_of_files files reads) renaming is.free.no_collision (symbol_of (text_of files reads) entry_name d) (symbol_of (text_of files reads) entry_name g)
        (contains_map (symbol_of (text_of files reads) entry_name) (link_skeleton files reads).declared d cd) (contains_map (symbol_of (text_of files reads) entry_name) (link_skeleton files reads).declared g cg)
        (ap (ren e) np ∙ h ∙ ap (ren e) (sym nq)) in
        sym np ∙ old ∙ nq

    none_new : (above next : Name) → IsFilled these (mapped e taken ds) (mapped_field e taken above x) next → (old : Name) × Filled old × (ren e old ≡ next)
    none_new above _ (of_extension next h) = let b = type_was own.d.file x.type_name own.type next h in (b.0, of_extension b.0 b.1, b.2)
    none_new above _ (of_field before next n g filled ig cg one h) =
        let p = none_new above before filled in
        let o = message_was e taken ds kept before n ig in
        let before_is = reached files reads al.read al.link these extension x own p.0 p.1 in
        let is_there = messages_are_declared files reads al.read al.link o.name o.m o.is in
        let q : o.name ≡ p.0 = name_was o.name p.0 is_there.d before_is.d is_there.within before_is.within is_there.name_is before_is.name_is (o.named ∙ sym p.2) in
        let im : IsMessageOf ds p.0 o.m = subst (λ z. IsMessageOf ds z o.m) q o.is in
        let f = from_map (mapped_field e taken o.name) o.m.field g (subst (λ (z : MessageDesc). Contains z.field g) o.turned cg) in
        let is_unaffected = field_unaffected p.0 o.m p.1 im f.0 f.1 in
        let named : word_under e p.0 f.0.name ≡ g.name = ap (λ z. word_under e z f.0.name) (sym q) ∙ ap (λ (z : FieldDesc). z.name) f.2 in
        let was_one : is_one_of these f.0.name ≡ true = sym (unaffected_tests these f.0.name (word_under e p.0 f.0.name) is_unaffected) ∙ ap (is_one_of these) named ∙ one in
        let k = messages_are_declared files reads al.read al.link p.0 o.m im in
        let b = type_was k.d.file f.0.type_name (k.fields f.0 f.1).type next (ap (λ (z : FieldDesc). option_map words_of z.type_name) f.2 ∙ h) in
        (b.0, of_field p.0 b.0 o.m f.0 p.1 im f.1 was_one b.1, b.2)

    pub sees_the_same : (above : Name) → SeesTheSame (ren (name_map files reads t to)) these ds (mapped (name_map files reads t to) taken ds) x (mapped_field (name_map files reads t to) taken above x)
    sees_the_same above = record {
      own = own_is_same above;
      messages = λ next m filled im. (let r = message_turned e taken ds kept next m im in (mapped_message e taken r.over next m, r.is, message_seen r.over next m filled im));
      enums = λ next d filled ie. (let r = enum_turned e taken ds kept next d ie in (mapped_enum e r.0 d, r.2, enum_seen next d filled ie r.0 r.1));
      none_new = λ next filled. none_new above next filled;
    }
