-- A default of an enum's field is one of the enum's values after a rename (for the crates above).
use Rattle.std.proofs.Common.{◌≡◌, ℕ, ◌<◌, ◌==◌, true, false, ◌&&◌, ◌≢◌, ◌⊎◌, if◌then◌else◌, List, length, map, Option, Some, None, option_map, refl, sym, ap, ap₂, subst, ◌∙◌, inl, inr, option_and_then, Contains, find, bytes_eq}
use Rattle.proto_base.proofs.Common.{and_parts, cases_Bool, cond-true, cond-false, any_from, any_to, contains_map, from_map, same_from_word, word_from_same}
pub use Rattle.proto_base.proofs.Common.{found_in_map}
use Rattle.proto_case.specs.Camel.{entry_name}
use Rattle.proto_text.specs.Texts.{word_at}
use Rattle.proto_tree.specs.declared.tree.Reference.{Reference}
use Rattle.proto_tree.specs.declared.tree.Value.{Value}
use Rattle.proto_tree.specs.References.{first_of}
use Rattle.proto_files.proofs.Common.{FileOf, ReadOf, read_at}
use Rattle.proto_names_rules.proofs.Common.{Renaming, ren, place_of, At, at, used_in, same_name, Declared, Used, name_of, reference_of, name_from_same, same_from_name, has_meaning, meant}
use Rattle.proto_names_imports.specs.Links.{text_of, link_skeleton, names_of_files, used_named, uses_of}
use Rattle.proto_ast.proofs.Common.{BlockOf, blocks_in, values_in, EnumOf, MeantOf, enum_meant}
use Rattle.proto_desc_checks.specs.FieldFlaws.{is_value_of}
use Rattle.proto_edit_rename_laws.proofs.Common.{declared_as, enum_at, enum_named, enum_within, is_enum_at, is_proto3_file, lexemes_of, meaning_of, meant_as, scene_of, means_value, meaning_from, HasEnumRoles, HasValue, Target, name_map, renamed_words, AreReworded, Names, IsRename, declared_stays, find_agree, find_there, meaning_after, trees_at, used_here, uses_stay}
use Rattle.proto_edit_rename_described.specs.Allowed.{IsAllowedRename}
use Rattle.proto_edit_rename_described.specs.EnumDefaults.{EnumDefaultsFit}
use Rattle.proto_edit_rename_described.proofs.Allowed.{allowed_roles, is_rename}

pub meant_token : (files : List FileOf) (reads : List ReadOf) (t : ℕ) (o : Option (List (List ℕ))) → (meant_as files reads t o).token ≡ t
meant_token files reads t None = refl
meant_token files reads t (Some m) = refl

-- the use that a scene's meaning is of
meant_by_first : (files : List FileOf) (reads : List ReadOf) (file first : ℕ) (us : List (Used ℕ))
    → option_and_then (λ (m : MeantOf). m.enum) (find (λ (m : MeantOf). m.token == first) (map (λ u. meant_as files reads u.first (meaning_of files reads file u)) us))
    ≡ option_and_then (λ (u : Used ℕ). (meant_as files reads u.first (meaning_of files reads file u)).enum) (find (λ (u : Used ℕ). u.first == first) us)
meant_by_first files reads file first us =
    let f : Used ℕ → MeantOf = λ u. meant_as files reads u.first (meaning_of files reads file u) in
    ap (option_and_then (λ (m : MeantOf). m.enum)) (found_in_map (λ (m : MeantOf). m.token == first) f us ∙ ap (option_map f) (find_agree (λ u. (f u).token == first) (λ (u : Used ℕ). u.first == first) us (λ u c. ap (λ n. n == first) (meant_token files reads u.first (meaning_of files reads file u)))))
    ∙ through (find (λ (u : Used ℕ). u.first == first) us)
  where
    through : (o : Option (Used ℕ)) → option_and_then (λ (m : MeantOf). m.enum) (option_map (λ u. meant_as files reads u.first (meaning_of files reads file u)) o) ≡ option_and_then (λ (u : Used ℕ). (meant_as files reads u.first (meaning_of files reads file u)).enum) o
    through None = refl
    through (Some u) = refl

module _ (files : List FileOf) (reads : List ReadOf) (name to : List ℕ) (t : Target) (after : List FileOf) (seen : List ReadOf)
    (a : IsAllowedRename files reads name to t) (re : AreReworded (renamed_words files reads t to) files reads after seen) where
  roles : HasEnumRoles files reads t
  roles = (allowed_roles files reads name to t a).enums

  abbrev e : Renaming
  e = name_map files reads t to

  is : IsRename files reads (renamed_words files reads t to) after seen t.token t.above t.aim t.is_map to
  is = is_rename files reads name to t after seen a re

  -- the values of a declared enum, before and after
  values_there : (d : Declared At) → Contains (link_skeleton files reads).declared d → (word now : List ℕ)
      → ((v : ℕ) → HasValue files reads d v → word ≡ text_of files reads (at (place_of d).file v) → now ≡ text_of after seen (at (place_of d).file v))
      → is_value_of (enum_at files reads (place_of d)) (Some word) ≡ true → is_value_of (enum_at after seen (place_of d)) (Some now) ≡ true
  values_there d cd word now follows h = by (find (λ (x : BlockOf). is_enum_at (place_of d).token x.header) (blocks_in (read_at reads (place_of d).file).tree)) refl
    where
      f2 : ℕ
      f2 = (place_of d).file

      by : (o : Option BlockOf) → find (λ (x : BlockOf). is_enum_at (place_of d).token x.header) (blocks_in (read_at reads (place_of d).file).tree) ≡ o → is_value_of (enum_at after seen (place_of d)) (Some now) ≡ true
      by None q = absurd (none (sym (ap (λ x. is_value_of (option_map (λ (b : BlockOf). enum_within (lexemes_of files reads (place_of d).file) (is_proto3_file files reads (place_of d).file) b.within) x) (Some word)) q) ∙ h))
        where
          none : false ≡ true → ⊥
          none z = cc
      by (Some b) q =
          let old = sym (ap (λ x. is_value_of (option_map (λ (b : BlockOf). enum_within (lexemes_of files reads (place_of d).file) (is_proto3_file files reads (place_of d).file) b.within) x) (Some word)) q) ∙ h in
          let found = any_to (bytes_eq word) (map (λ (v : Value). word_at (lexemes_of files reads (place_of d).file) v.name) (values_in b.within)) old in
          let v = from_map (λ (v : Value). word_at (lexemes_of files reads (place_of d).file) v.name) (values_in b.within) found.0 found.1 in
          let has : HasValue files reads d v.0.name = record { b = b; declared = cd; found = q; within = contains_map (λ (v : Value). v.name) (values_in b.within) v.0 v.1 } in
          let same = follows v.0.name has (word_from_same word found.0 found.2 ∙ sym v.2) in
          let later = ap (λ x. find (λ (x : BlockOf). is_enum_at (place_of d).token x.header) (blocks_in x)) (trees_at files reads (renamed_words files reads t to) after seen t.token t.above t.aim t.is_map to is (place_of d).file) ∙ q in
          ap (λ x. is_value_of (option_map (λ (b : BlockOf). enum_within (lexemes_of after seen (place_of d).file) (is_proto3_file after seen (place_of d).file) b.within) x) (Some now)) later
          ∙ any_from (bytes_eq now) (map (λ (v : Value). word_at (lexemes_of after seen (place_of d).file) v.name) (values_in b.within)) (word_at (lexemes_of after seen (place_of d).file) v.0.name)
          (contains_map (λ (v : Value). word_at (lexemes_of after seen (place_of d).file) v.name) (values_in b.within) v.0 v.1) (same_from_word now _ same)

  -- what the test of a default says
  means_from : (enum : Option (List (List ℕ))) (old : List ℕ) (m : List (List ℕ)) (word : List ℕ) → means_value enum old (Some m) word ≡ true → (enum ≡ Some m) × (word ≡ old)
  means_from None old m word h = absurd cc
  means_from (Some en) old m word h = let p = and_parts (same_name m en) (bytes_eq word old) h in (ap Some (sym (name_from_same m en p.0)), word_from_same word old p.1)

  means_to : (enum : Option (List (List ℕ))) (old : List ℕ) (m : List (List ℕ)) (word : List ℕ) → enum ≡ Some m → word ≡ old → means_value enum old (Some m) word ≡ true
  means_to enum old m word q w = ap (λ z. means_value z old (Some m) word) q ∙ ap₂ (λ b c. b && c) (same_from_name m m refl) (same_from_word word old w)

  -- the default goes with the value
  follows : (d : Declared At) (m : List (List ℕ)) → name_of (text_of files reads) entry_name d.path ≡ m → (word now : List ℕ)
      → now ≡ (if means_value t.enum (text_of files reads t.token) (Some m) word then to else word)
      → (v : ℕ) → HasValue files reads d v → word ≡ text_of files reads (at (place_of d).file v) → now ≡ text_of after seen (at (place_of d).file v)
  follows d m named word now turn v has same = elim (respelled_at (roles.names d v has)) [
    | inl it ↦
        let enum : t.enum ≡ Some m = roles.one d v has it ∙ ap Some named in
        let test = means_to t.enum (text_of files reads t.token) m word enum (same ∙ ap (text_of files reads) it) in
        turn ∙ cond-true (means_value t.enum (text_of files reads t.token) (Some m) word) to word test ∙ sym (ap (text_of after seen) it ∙ is.respelled.aim)
    | inr other ↦ elim (cases_Bool (means_value t.enum (text_of files reads t.token) (Some m) word)) [
      | inl test ↦
          let p = means_from t.enum (text_of files reads t.token) m word test in
          absurd (other.0 (roles.apart d v has (p.0 ∙ ap Some (sym named)) (sym same ∙ p.1)))
      | inr f ↦ turn ∙ cond-false (means_value t.enum (text_of files reads t.token) (Some m) word) to word f ∙ same ∙ sym other.1
    ]
  ]
    where
      respelled_at : {i : At} → Names (link_skeleton files reads) i → (i ≡ t.token) ⊎ ((i ≢ t.token) × (text_of after seen i ≡ text_of files reads i))
      respelled_at {i} (s, cs, (above, inl path)) = is.respelled.others s cs above i path
      respelled_at {i} (s, cs, (above, inr path)) = is.respelled.other_entries s cs above i path

  defaults_fit : (file w : ℕ) (r : Reference) → file < length files
      → text_of after seen (at file w) ≡ (if means_value t.enum (text_of files reads t.token) (meaning_from files reads file (first_of r.dot r.words)) (text_of files reads (at file w)) then to else text_of files reads (at file w))
      → is_value_of (enum_meant (scene_of None files reads file) r) (Some (text_of files reads (at file w))) ≡ true
      → is_value_of (enum_meant (scene_of None after seen file) r) (Some (text_of after seen (at file w))) ≡ true
  defaults_fit file w r l turn h = by (find (λ (u : Used ℕ). u.first == first_of r.dot r.words) (uses_of reads file)) refl
    where
      no_value : (o : Option EnumOf) (v : Option (List ℕ)) → o ≡ None → is_value_of o v ≡ true → ⊥
      no_value None v q h = absurd cc
      no_value (Some x) v q h = absurd cc

      -- the enum that the reference means, by the use that it is, before and afterwards
      before : enum_meant (scene_of None files reads file) r ≡ option_and_then (λ (u : Used ℕ). (meant_as files reads u.first (meaning_of files reads file u)).enum) (find (λ (u : Used ℕ). u.first == first_of r.dot r.words) (uses_of reads file))
      before = meant_by_first files reads file (first_of r.dot r.words) (uses_of reads file)

      behind : enum_meant (scene_of None after seen file) r ≡ option_and_then (λ (u : Used ℕ). (meant_as after seen u.first (meaning_of after seen file u)).enum) (find (λ (u : Used ℕ). u.first == first_of r.dot r.words) (uses_of reads file))
      behind =
          meant_by_first after seen file (first_of r.dot r.words) (uses_of seen file)
          ∙ ap (λ us. option_and_then (λ (u : Used ℕ). (meant_as after seen u.first (meaning_of after seen file u)).enum) (find (λ (u : Used ℕ). u.first == first_of r.dot r.words) us)) (uses_stay files reads (renamed_words files reads t to) after seen t.token t.above t.aim t.is_map to is file)

      by : (o : Option (Used ℕ)) → find (λ (u : Used ℕ). u.first == first_of r.dot r.words) (uses_of reads file) ≡ o → is_value_of (enum_meant (scene_of None after seen file) r) (Some (text_of after seen (at file w))) ≡ true
      by None q = absurd (no_value (enum_meant (scene_of None files reads file) r) (Some (text_of files reads (at file w))) (before ∙ ap (option_and_then (λ (u : Used ℕ). (meant_as files reads u.first (meaning_of files reads file u)).enum)) q) h)
      by (Some u) q =
          let cu = (find_there (λ (u : Used ℕ). u.first == first_of r.dot r.words) (uses_of reads file) u q).0 in
          let used = contains_map (reference_of (text_of files reads) entry_name) (link_skeleton files reads).used (used_in file u) (used_here files reads (renamed_words files reads t to) after seen t.token t.above t.aim t.is_map to is file l u cu) in
          let m = has_meaning (meaning_of files reads file u) (is.linked.resolved (used_named (text_of files reads) file u) used) in
          let s = meant (names_of_files files reads) (used_named (text_of files reads) file u) m.0 m.1 in
          let later = meaning_after files reads (renamed_words files reads t to) after seen t.token t.above t.aim t.is_map to is file l u cu m.0 m.1 in
          let old : enum_meant (scene_of None files reads file) r ≡ enum_named files reads m.0 =
          before ∙ ap (option_and_then (λ (u : Used ℕ). (meant_as files reads u.first (meaning_of files reads file u)).enum)) q ∙ ap (λ o. (meant_as files reads u.first o).enum) m.1 in
          let new : enum_meant (scene_of None after seen file) r ≡ enum_named after seen (ren e m.0) =
          behind ∙ ap (option_and_then (λ (u : Used ℕ). (meant_as after seen u.first (meaning_of after seen file u)).enum)) q ∙ ap (λ o. (meant_as after seen u.first o).enum) later in
          let stays : declared_as files reads m.0 ≡ declared_as after seen (ren e m.0) = subst (λ n. declared_as files reads n ≡ declared_as after seen (ren e n)) s.2 (declared_stays files reads (renamed_words files reads t to) after seen t.token t.above t.aim t.is_map to is s.0 s.1) in
          let from : meaning_from files reads file (first_of r.dot r.words) ≡ Some m.0 = ap (option_and_then (meaning_of files reads file)) q ∙ m.1 in
          let turned = turn ∙ ap (λ z. if means_value t.enum (text_of files reads t.token) z (text_of files reads (at file w)) then to else text_of files reads (at file w)) from in
          declared m.0 (declared_as files reads m.0) refl old new stays turned
        where
          declared : (m : List (List ℕ)) (o : Option (Declared At)) → declared_as files reads m ≡ o → enum_meant (scene_of None files reads file) r ≡ enum_named files reads m → enum_meant (scene_of None after seen file) r ≡ enum_named after seen (ren e m)
              → declared_as files reads m ≡ declared_as after seen (ren e m)
              → text_of after seen (at file w) ≡ (if means_value t.enum (text_of files reads t.token) (Some m) (text_of files reads (at file w)) then to else text_of files reads (at file w))
              → is_value_of (enum_meant (scene_of None after seen file) r) (Some (text_of after seen (at file w))) ≡ true
          declared m None d old new stays turned = absurd (no_value (enum_meant (scene_of None files reads file) r) (Some (text_of files reads (at file w))) (old ∙ ap (option_and_then (λ (x : Declared At). enum_at files reads (place_of x))) d) h)
          declared m (Some d) is_d old new stays turned =
              let there = find_there (λ x. same_name (name_of (text_of files reads) entry_name x.path) m) (link_skeleton files reads).declared d is_d in
              let named = name_from_same (name_of (text_of files reads) entry_name d.path) m there.1 in
              let was = sym (ap (λ x. is_value_of x (Some (text_of files reads (at file w)))) (old ∙ ap (option_and_then (λ (x : Declared At). enum_at files reads (place_of x))) is_d)) ∙ h in
              let now = values_there d there.0 (text_of files reads (at file w)) (text_of after seen (at file w)) (follows d m named (text_of files reads (at file w)) (text_of after seen (at file w)) turned) was in
              ap (λ x. is_value_of x (Some (text_of after seen (at file w)))) (new ∙ ap (option_and_then (λ (x : Declared At). enum_at after seen (place_of x))) (sym stays ∙ is_d)) ∙ now

pub enum_defaults_fit : EnumDefaultsFit
enum_defaults_fit files reads name to t after seen a re file w r l = defaults_fit files reads name to t after seen a re file w r l
