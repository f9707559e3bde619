-- Defaults that mean a value, told by the texts of a link.
use Rattle.std.proofs.Common.{◌≡◌, ℕ, ◌+◌, ◌<◌, ◌==◌, ◌&&◌, Bool, true, false, cond, if◌then◌else◌, List, [], ◌∷◌, ◌++◌, length, map, get_or, drop, flat_map, Option, Some, None, option_map, refl, sym, ap, subst, ◌∙◌, inl, inr, find, option_and_then, bytes_eq, true≢false}
use Rattle.proto_base.proofs.Common.{cases_Bool, none-some, flat_map-append, fails_from, same_from_word, word_from_same, listed_turn, any_from, list_any}
use Rattle.proto_text.proofs.Common.{word_at, Lexeme}
use Rattle.proto_tree.specs.declared.piece.Header.{Header}
use Rattle.proto_tree.specs.declared.piece.Header.TheVariants as header
use Rattle.proto_tree.specs.declared.tree.FieldType.{FieldType}
use Rattle.proto_tree.specs.declared.tree.FieldType.TheVariants as field_type
use Rattle.proto_tree.proofs.Common.{first_of, Tree}
use Rattle.proto_files.proofs.Common.{FileOf, file_at, AreRead, ReadOf, read_at, IsTreeOf, same_tree}
use Rattle.proto_names_rules.proofs.Common.{at, ArePlain, joined, same_name, Used, name_from_same, same_from_name, joined_apart, meant}
use Rattle.proto_names_imports.proofs.Common.{names_of_files, text_of, used_named, uses_of, names_are_plain}
use Rattle.proto_names.proofs.Common.{IsLinkRead, TextMeant, meant_by_link, meant_by_use, LinkOf, row_at, name_text}
use Rattle.proto_names.specs.Linking.{Meant}
use Rattle.proto_ast.proofs.Common.{BlockOf, FieldOf, blocks_in, Scene, text}
use Rattle.proto_edit_rename_laws.proofs.Common.{meaning_of, default_words, fields_of_block, fields_of_file, meaning_from, means_value, renamed_default, type_meaning, find_there}
use Rattle.proto_edit_rename.proofs.Common.{given_by_holders, holders_in, may_hold, IsReadAs}
use Rattle.proto_edit_rename.specs.Defaults.{defaults_in, defaults_of, is_found_name, spelled, type_means}

-- ---- lists

flat_none : {X : Type 0} (xs : List X) → flat_map (λ (x : X). let ys : List X = [] in ys) xs ≡ []
flat_none [] = refl
flat_none (x ∷ xs) = flat_none xs

gives_none : {X Y : Type 0} (f : X → List Y) (xs : List X) → ((x : X) → f x ≡ []) → flat_map f xs ≡ []
gives_none f [] h = refl
gives_none f (x ∷ xs) h = ap (λ ys. ys ++ flat_map f xs) (h x) ∙ gives_none f xs h

flat_agree : {X Y : Type 0} (f g : X → List Y) (xs : List X) → ((x : X) → f x ≡ g x) → flat_map f xs ≡ flat_map g xs
flat_agree f g [] h = refl
flat_agree f g (x ∷ xs) h = ap (λ ys. ys ++ flat_map f xs) (h x) ∙ ap (λ ys. g x ++ ys) (flat_agree f g xs h)

-- those of what one element more gives
pub spelled_turn : {X Y : Type 0} (text : ℕ → List ℕ) (old : List ℕ) (part : Y → List ℕ) (view : X → Y) (xs : List X) (i : ℕ) (x : X) (found next whole : List ℕ) → i < length xs → x ≡ get_or xs i x
    → next ≡ found ++ spelled text old (part (view x)) → found ++ spelled text old (flat_map part (map view (drop i xs))) ≡ whole
    → next ++ spelled text old (flat_map part (map view (drop (i + 1) xs))) ≡ whole
spelled_turn text old part view xs i x found next whole lt is new before =
    listed_turn (λ ys. spelled text old (flat_map part (map view ys))) (λ y. spelled text old (part (view y)))
    (λ y ys. flat_map-append (λ w. if bytes_eq (text w) old then w ∷ [] else []) (part (view y)) (flat_map part (map view ys))) xs i x x found next whole lt is new before

flat_flat : {X Y Z : Type 0} (g : Y → List Z) (f : X → List Y) (xs : List X) → flat_map g (flat_map f xs) ≡ flat_map (λ x. flat_map g (f x)) xs
flat_flat g f [] = refl
flat_flat g f (x ∷ xs) = flat_map-append g (f x) (flat_map f xs) ∙ ap (λ zs. flat_map g (f x) ++ zs) (flat_flat g f xs)

no_fields : (h : Header) (within : Tree) → may_hold h ≡ false → fields_of_block h within ≡ []
no_fields (header.Message h) within e = absurd cc
no_fields (header.Extend x) within e = absurd cc
no_fields whole within e = refl

-- ---- references that do not mean the enum

module _ (l : LinkOf) (file : ℕ) (name : List ℕ) (none : list_any (λ (m : Meant). is_found_name name (name_text l m.row)) (get_or l.meant file []) ≡ false) where
  -- then no type does
  no_type : (kind : FieldType) → type_means l file name kind ≡ false
  no_type (field_type.Scalar t) = refl
  no_type (field_type.Reference r) = go (find (λ (m : Meant). m.token == first_of r.dot r.words) (get_or l.meant file [])) refl
    where
      go : (o : Option Meant) → find (λ (m : Meant). m.token == first_of r.dot r.words) (get_or l.meant file []) ≡ o
          → is_found_name name (option_and_then (name_text l) (option_map (λ (m : Meant). m.row) o)) ≡ false
      go None e = refl
      go (Some m) e =
          let c = find_there (λ (x : Meant). x.token == first_of r.dot r.words) (get_or l.meant file []) m e in
          fails_from (is_found_name name (name_text l m.row)) (λ t. true≢false (sym (any_from (λ (x : Meant). is_found_name name (name_text l x.row)) (get_or l.meant file []) m c.0 t) ∙ none))

  -- and no field has a default that does
  pub no_defaults : (word : ℕ → List ℕ) (old : List ℕ) (bs : List BlockOf) → flat_map (defaults_in word (type_means l file name) old) bs ≡ []
  no_defaults word old bs =
      gives_none (defaults_in word (type_means l file name) old) bs
      (λ b. gives_none (defaults_of word (type_means l file name) old) (fields_of_block b.header b.within) (λ f. ap (λ t. if t then spelled word old (default_words word f) else []) (no_type f.kind)))

-- ---- names by their texts

says_same : (m enum : List (List ℕ)) → ArePlain m → ArePlain enum → bytes_eq (joined m) (joined enum) ≡ same_name m enum
says_same m enum pm pe = elim (cases_Bool (same_name m enum)) [
  | inl t ↦ same_from_word (joined m) (joined enum) (ap joined (name_from_same m enum t)) ∙ sym t
  | inr f ↦ fails_from (bytes_eq (joined m) (joined enum)) (λ t. true≢false (sym (same_from_name m enum (joined_apart m enum pm pe (word_from_same (joined m) (joined enum) t))) ∙ f)) ∙ sym f
]

-- a type's meaning is the enum
is_enum : List (List ℕ) → Option (List (List ℕ)) → Bool
is_enum enum None = false
is_enum enum (Some m) = same_name m enum

by_meaning : (word : ℕ → List ℕ) (enum : List (List ℕ)) (old : List ℕ) (o : Option (List (List ℕ))) (ws : List ℕ) → flat_map (λ w. if means_value (Some enum) old o (word w) then w ∷ [] else []) ws ≡ (if is_enum enum o then spelled word old ws else [])
unfolding is_enum
by_meaning word enum old None ws = flat_none ws
by_meaning word enum old (Some m) ws = go (same_name m enum)
  where
    go : (b : Bool) → flat_map (λ w. if b && bytes_eq (word w) old then w ∷ [] else []) ws ≡ (if b then spelled word old ws else [])
    go true = refl
    go false = flat_none ws

module _ (files : List FileOf) (reads : List ReadOf) (are : AreRead files reads) (l : LinkOf) (link : IsLinkRead files reads l) (file : ℕ) (within : file < length files) (enum : List (List ℕ)) (plain : ArePlain enum) where
  -- the link's answer for a first token
  same_texts : (ms : List Meant) (us : List (Used ℕ)) (first : ℕ) → map (meant_by_link l) ms ≡ map (meant_by_use files reads file) us
      → option_and_then (name_text l) (row_at ms first) ≡ option_map joined (option_and_then (meaning_of files reads file) (find (λ (u : Used ℕ). u.first == first) us))
  same_texts [] [] first e = refl
  same_texts [] (u ∷ us) first e = absurd cc
  same_texts (m ∷ ms) [] first e = absurd cc
  same_texts (m ∷ ms) (u ∷ us) first e =
      let here : meant_by_link l m ≡ meant_by_use files reads file u = cc in
      let on : map (meant_by_link l) ms ≡ map (meant_by_use files reads file) us = cc in
      go (m.token == first) (u.first == first) (ap (λ (z : TextMeant). z.token == first) here) (ap (λ (z : TextMeant). z.text) here) (same_texts ms us first on)
    where
      go : (b d : Bool) → b ≡ d → name_text l m.row ≡ option_map joined (meaning_of files reads file u)
          → option_and_then (name_text l) (row_at ms first) ≡ option_map joined (option_and_then (meaning_of files reads file) (find (λ (x : Used ℕ). x.first == first) us))
          → option_and_then (name_text l) (option_map (λ (x : Meant). x.row) (cond b (Some m) (find (λ (x : Meant). x.token == first) ms)))
          ≡ option_map joined (option_and_then (meaning_of files reads file) (cond d (Some u) (find (λ (x : Used ℕ). x.first == first) us)))
      go true true e now more = now
      go false false e now more = more
      go true false e now more = absurd cc
      go false true e now more = absurd cc

  -- what is meant is of plain words
  plain_meaning : (o : Option (Used ℕ)) (m : List (List ℕ)) → option_and_then (meaning_of files reads file) o ≡ Some m → ArePlain m
  plain_meaning None m e = absurd (none-some m e)
  plain_meaning (Some u) m e = let s = meant (names_of_files files reads) (used_named (text_of files reads) file u) m e in subst ArePlain s.2 (names_are_plain files reads are s.0 s.1)

  same_type : (kind : FieldType) → type_means l file (joined enum) kind ≡ is_enum enum (type_meaning files reads file kind)
  unfolding is_enum
  same_type (field_type.Scalar t) = refl
  same_type (field_type.Reference r) =
      let first = first_of r.dot r.words in
      ap (is_found_name (joined enum)) (same_texts (get_or l.meant file []) (uses_of reads file) first (link.means file within).texts) ∙ go (meaning_from files reads file first) (plain_meaning (find (λ (u : Used ℕ). u.first == first) (uses_of reads file)))
    where
      go : (o : Option (List (List ℕ))) → ((m : List (List ℕ)) → o ≡ Some m → ArePlain m) → is_found_name (joined enum) (option_map joined o) ≡ is_enum enum o
      go None p = refl
      go (Some m) p = says_same m enum (p m refl) plain

  -- where no reference means the enum, no default does
  pub no_renamed : list_any (λ (m : Meant). is_found_name (joined enum) (name_text l m.row)) (get_or l.meant file []) ≡ false → (old : List ℕ) (fs : List FieldOf) → flat_map (renamed_default files reads (Some enum) old file) fs ≡ []
  no_renamed none old fs = gives_none (renamed_default files reads (Some enum) old file) fs (λ f.
      (let word : ℕ → List ℕ = λ t. text_of files reads (at file t) in
      by_meaning word enum old (type_meaning files reads file f.kind) (default_words word f)
      ∙ ap (λ b. if b then spelled word old (default_words word f) else []) (sym (same_type f.kind) ∙ no_type l file (joined enum) none f.kind)))

  module _ (scene : Scene) (as_read : IsReadAs files reads file scene) (tree : Tree) (of_file : IsTreeOf (file_at files file) tree) (old : List ℕ) where
    one_field : (f : FieldOf) → defaults_of (text scene) (type_means l file (joined enum)) old f ≡ renamed_default files reads (Some enum) old file f
    one_field f =
        ap (λ (ls : List Lexeme). if type_means l file (joined enum) f.kind then spelled (word_at ls) old (default_words (word_at ls) f) else []) as_read.lexemes
        ∙ ap (λ b. if b then spelled (λ (t : ℕ). text_of files reads (at file t)) old (default_words (λ (t : ℕ). text_of files reads (at file t)) f) else []) (same_type f.kind)
        ∙ sym (by_meaning (λ (t : ℕ). text_of files reads (at file t)) enum old (type_meaning files reads file f.kind) (default_words (λ (t : ℕ). text_of files reads (at file t)) f))

    pub defaults_are : flat_map (defaults_in (text scene) (type_means l file (joined enum)) old) (holders_in tree) ≡ flat_map (renamed_default files reads (Some enum) old file) (fields_of_file (read_at reads file).tree)
    defaults_are =
        given_by_holders (defaults_in (text scene) (type_means l file (joined enum)) old)
        (λ (b : BlockOf) e. ap (flat_map (defaults_of (text scene) (type_means l file (joined enum)) old)) (no_fields b.header b.within e)) tree
        ∙ sym (flat_flat (defaults_of (text scene) (type_means l file (joined enum)) old) (λ (b : BlockOf). fields_of_block b.header b.within) (blocks_in tree))
        ∙ flat_agree (defaults_of (text scene) (type_means l file (joined enum)) old) (renamed_default files reads (Some enum) old file) (fields_of_file tree) one_field
        ∙ ap (λ t. flat_map (renamed_default files reads (Some enum) old file) (fields_of_file t)) (sym (same_tree files reads file tree are within of_file))
