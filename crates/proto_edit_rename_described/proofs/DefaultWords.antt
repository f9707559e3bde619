-- Each field keeps its label, type and numbers after a rename, and its defaults go with the value that they mean (for the crates above).
use Rattle.std.proofs.Common.{◌≡◌, ℕ, zero, suc, ◌+◌, ◌<◌, ◌&&◌, Bool, true, false, if◌then◌else◌, List, [], ◌∷◌, ◌++◌, length, map, flat_map, Option, Some, None, codes, sym, ap, subst, ◌∙◌, inl, inr, arith, Contains, bytes_eq, true≢false}
use Rattle.proto_base.proofs.Common.{list_any, cases_Bool, cond-true, cond-false, Contains-append_left, Contains-append_right, contains_head, contains_later, contains_map, word_from_same}
use Rattle.proto_case.specs.Camel.{entry_name}
use Rattle.proto_text.specs.Texts.{or_word}
use Rattle.proto_tree.specs.declared.tree.Constant.{Constant}
use Rattle.proto_tree.specs.declared.tree.FieldType.{FieldType}
use Rattle.proto_tree.specs.declared.tree.Constant.TheVariants as constant
use Rattle.proto_files.proofs.Common.{FileOf, file_at, ReadOf, read_at}
use Rattle.proto_names_rules.proofs.Common.{At, at, ArePlain, IsPlain, same_name, Token, name_of, spell, symbol_of, map_append}
use Rattle.proto_names_imports.proofs.Common.{link_skeleton, text_of, names_are_plain}
use Rattle.proto_ast.proofs.Common.{is_named, BlockOf, FieldOf, OptionOf, blocks_in}
use Rattle.proto_desc_checks_laws.specs.Renamed.{constant_tokens}
use Rattle.proto_edit_rename_laws.proofs.Common.{default_words, defaults_from, fields_of_block, fields_of_file, meaning_from, means_value, renamed_default, renamed_defaults, type_meaning, HasDefaultWords, HasDefaultRoles, AreReworded, renamed_places, same_at, standing, Target, name_map, renamed_words, plain_inside, other_texts_stay, texts_are_changed, listed, to_flat_map}
use Rattle.proto_edit_rename_described.specs.Common.{IsAllowedRename, FieldsHaveRoles}
use Rattle.proto_edit_rename_described.proofs.Allowed.{allowed_roles}
use Rattle.proto_edit_rename_described.proofs.OtherTokens.{labels_and_scalars_stay, other_tokens_stay}

no_meaning : (enum : Option (List (List ℕ))) (old word : List ℕ) → means_value enum old None word ≡ true → ⊥
no_meaning None old word h = cc
no_meaning (Some e) old word h = cc

-- a word that means the value is its name
meant_word : (enum : Option (List (List ℕ))) (old : List ℕ) (type : Option (List (List ℕ))) (word : List ℕ) → means_value enum old type word ≡ true → word ≡ old
meant_word None old type word h = absurd cc
meant_word (Some e) old None word h = absurd cc
meant_word (Some e) old (Some m) word h = word_from_same word old (second (same_name m e) (bytes_eq word old) h)
  where
    second : (a b : Bool) → (a && b) ≡ true → b ≡ true
    second true b z = z
    second false b z = absurd cc

last_plain : (xs : List (List ℕ)) (w : List ℕ) → ArePlain (xs ++ w ∷ []) → IsPlain w
last_plain [] w h = h.0
last_plain (x ∷ xs) w h = last_plain xs w h.1

in_defaults : (files : List FileOf) (reads : List ReadOf) (enum : Option (List (List ℕ))) (old : List ℕ) (n k w : ℕ) (rs : List ReadOf) (f : FieldOf) → k < length rs → Contains (fields_of_file (read_at rs k).tree) f → Contains (renamed_default files reads enum old (n + k) f) w → Contains (defaults_from files reads enum old n rs) (at (n + k) w)
in_defaults files reads enum old n k w [] f l cf c = absurd (omega (arith, l))
in_defaults files reads enum old n zero w (r ∷ rs) f l cf c =
    let e : n + 0 ≡ n = omega arith in
    subst (λ m. Contains (defaults_from files reads enum old n (r ∷ rs)) (at m w)) (sym e)
    (Contains-append_left (map (at n) (flat_map (renamed_default files reads enum old n) (fields_of_file r.tree))) (defaults_from files reads enum old (suc n) rs) (at n w)
    (contains_map (at n) (flat_map (renamed_default files reads enum old n) (fields_of_file r.tree)) w (to_flat_map (renamed_default files reads enum old n) (fields_of_file r.tree) f w cf (subst (λ m. Contains (renamed_default files reads enum old m f) w) e c))))
in_defaults files reads enum old n (suc k) w (r ∷ rs) f l cf c =
    let e : n + suc k ≡ suc n + k = omega arith in
    subst (λ m. Contains (defaults_from files reads enum old n (r ∷ rs)) (at m w)) (sym e)
    (Contains-append_right (map (at n) (flat_map (renamed_default files reads enum old n) (fields_of_file r.tree))) (defaults_from files reads enum old (suc n) rs) (at (suc n + k) w)
    (in_defaults files reads enum old (suc n) k w rs f (omega (arith, l)) cf (subst (λ m. Contains (renamed_default files reads enum old m f) w) e c)))

module _ (files : List FileOf) (reads : List ReadOf) (name to : List ℕ) (t : Target) (after : List FileOf) (seen : List ReadOf) (a : IsAllowedRename files reads name to t) (w : AreReworded (renamed_words files reads t to) files reads after seen)
    (file : ℕ) (b : BlockOf) (f : FieldOf) (l : file < length files) (cb : Contains (blocks_in (read_at reads file).tree) b) (cf : Contains (fields_of_block b.header b.within) f) where
  words : HasDefaultWords files reads t to file f
  words = (allowed_roles files reads name to t a).defaults file b f l cb cf

  -- the target is named by a word
  named_plain : IsPlain (text_of files reads t.token)
  named_plain =
      let name : name_of (text_of files reads) entry_name t.aim.path ≡ name_of (text_of files reads) entry_name t.above ++ text_of files reads t.token ∷ [] =
      ap (name_of (text_of files reads) entry_name) a.named.path ∙ map_append (spell (text_of files reads) entry_name) t.above (Token t.token ∷ []) in
      last_plain (name_of (text_of files reads) entry_name t.above) (text_of files reads t.token)
      (subst ArePlain name (names_are_plain files reads a.read (symbol_of (text_of files reads) entry_name t.aim) (contains_map (symbol_of (text_of files reads) entry_name) (link_skeleton files reads).declared t.aim a.named.within)))

  -- so a token with its text is there
  inside : (i : At) → i.file < length files → text_of files reads i ≡ text_of files reads t.token → i.token < length (read_at reads i.file).tokens
  inside i m e = plain_inside (file_at files i.file).bytes (read_at reads i.file).tokens i.token (subst IsPlain (sym e) named_plain)

  unchanged : (o : OptionOf) (i : ℕ) → Contains f.options o → o.value ≡ constant.Word i → means_value t.enum (text_of files reads t.token) (type_meaning files reads file f.kind) (text_of files reads (at file i)) ≡ false → renamed_words files reads t to (at file i) ≡ None
  unchanged o i co q no_value = other_tokens_stay files reads name to t a (at file i) (words.no_name o i co q) (words.no_use o i co q) (λ c. true≢false (sym (words.own o i co q c) ∙ no_value))

  changed_now : (o : OptionOf) (i : ℕ) → Contains f.options o → o.value ≡ constant.Word i → is_named (λ j. text_of files reads (at file j)) (codes "default") o ≡ true
      → means_value t.enum (text_of files reads t.token) (type_meaning files reads file f.kind) (text_of files reads (at file i)) ≡ true → text_of after seen (at file i) ≡ to
  changed_now o i co q named value =
      let fields : Contains (fields_of_file (read_at reads file).tree) f = to_flat_map (λ (x : BlockOf). fields_of_block x.header x.within) (blocks_in (read_at reads file).tree) b f cb cf in
      let tokens : Contains (constant_tokens o.value) i = subst (λ (z : Constant). Contains (constant_tokens z) i) (sym q) (contains_head i []) in
      let word : Contains (default_words (λ j. text_of files reads (at file j)) f) i = to_flat_map (λ (x : OptionOf). if is_named (λ j. text_of files reads (at file j)) (codes "default") x then constant_tokens x.value else []) f.options o i co (subst (λ (z : Bool). Contains (if z then constant_tokens o.value else []) i) (sym named) tokens) in
      let renamed : Contains (renamed_default files reads t.enum (text_of files reads t.token) file f) i = to_flat_map (λ j. if means_value t.enum (text_of files reads t.token) (type_meaning files reads file f.kind) (text_of files reads (at file j)) then j ∷ [] else []) (default_words (λ j. text_of files reads (at file j)) f) i i word (subst (λ (z : Bool). Contains (if z then i ∷ [] else []) i) (sym value) (contains_head i [])) in
      let e : 0 + file ≡ file = omega arith in
      let same = a.read.same in
      let there : Contains (renamed_defaults files reads t.enum (text_of files reads t.token)) (at file i) = subst (λ m. Contains (renamed_defaults files reads t.enum (text_of files reads t.token)) (at m i)) e
      (in_defaults files reads t.enum (text_of files reads t.token) 0 file i reads f (omega (arith, l, same)) fields (subst (λ m. Contains (renamed_default files reads t.enum (text_of files reads t.token) m f) i) (sym e) renamed)) in
      let uses = flat_map (standing (text_of files reads) (link_skeleton files reads) (name_map files reads t to)) (link_skeleton files reads).used in
      let places = renamed_places (text_of files reads) (link_skeleton files reads) (name_map files reads t to) t.token (renamed_defaults files reads t.enum (text_of files reads t.token)) in
      let change : renamed_words files reads t to (at file i) ≡ Some to = cond-true (list_any (same_at (at file i)) places) (Some to) None (listed (at file i) places (contains_later t.token (at file i) (uses ++ renamed_defaults files reads t.enum (text_of files reads t.token)) (Contains-append_right uses (renamed_defaults files reads t.enum (text_of files reads t.token)) (at file i) there))) in
      texts_are_changed (renamed_words files reads t to) files reads after seen a.read w (at file i) l (inside (at file i) l (meant_word t.enum (text_of files reads t.token) (type_meaning files reads file f.kind) (text_of files reads (at file i)) value)) ∙ ap (λ z. or_word z (text_of files reads (at file i))) change

  roles : HasDefaultRoles (renamed_words files reads t to) (text_of files reads) (text_of after seen) (meaning_from files reads file) t.enum (text_of files reads t.token) to file f
  roles = record {
    label = (labels_and_scalars_stay files reads name to t a file b f l cb cf).0;
    scalar = (labels_and_scalars_stay files reads name to t a file b f l cb cf).1;
    number = words.number;
    word = λ o i x co k q. unchanged o x co q (elim (cases_Bool (means_value t.enum (text_of files reads t.token) (type_meaning files reads file f.kind) (text_of files reads (at file x)))) [
      | inl y ↦ absurd (no_meaning t.enum (text_of files reads t.token) (text_of files reads (at file x)) (ap (λ (z : FieldType). means_value t.enum (text_of files reads t.token) (type_meaning files reads file z) (text_of files reads (at file x))) (sym k) ∙ y))
      | inr n ↦ n
    ]);
    enum_word = λ o r x co k q named. (
        let by = ap (λ (z : FieldType). if means_value t.enum (text_of files reads t.token) (type_meaning files reads file z) (text_of files reads (at file x)) then to else text_of files reads (at file x)) k in
        elim (cases_Bool (means_value t.enum (text_of files reads t.token) (type_meaning files reads file f.kind) (text_of files reads (at file x)))) [
          | inl y ↦ changed_now o x co q named y ∙ sym (cond-true _ to (text_of files reads (at file x)) y) ∙ by
          | inr n ↦ other_texts_stay (renamed_words files reads t to) files reads after seen a.read w (at file x) l (unchanged o x co q n) ∙ sym (cond-false _ to (text_of files reads (at file x)) n) ∙ by
        ]);
  }

pub fields_have_roles : FieldsHaveRoles
fields_have_roles files reads name to t after seen a w = record { defaults = λ file b f l cb cf. roles files reads name to t after seen a w file b f l cb cf }
