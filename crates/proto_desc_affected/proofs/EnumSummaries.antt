-- The enums that are kept of a file are those of their names; a link has the same, and they stay where the file is not edited.
use Rattle.std.proofs.Common.{◌≡◌, ℕ, ◌+◌, ◌<◌, Bool, true, false, if◌then◌else◌, List, [], ◌∷◌, ◌++◌, length, get_or, map, flat_map, Option, Some, None, option_map, option_and_then, refl, sym, ◌∙◌, ap, ap₂, subst, inl, inr, arith, true≢false, Contains}
use Rattle.proto_base.proofs.Common.{contains_cases, contains_head, contains_later, contains_map, none-some, or_nothing, same_Some}
use Rattle.proto_case.specs.Camel.{entry_name}
use Rattle.proto_files.proofs.Common.{AreRead, FileOf, ReadOf, file_at, read_at}
use Rattle.proto_names_rules.specs.declared.kind.Kind.{Kind}
use Rattle.proto_names_rules.specs.declared.kind.Kind.TheVariants.{Enum}
use Rattle.proto_names_rules.proofs.Common.{ArePlain, At, Declared, EntryOf, Given, Placed, Source, Token, all_declared, at, declares, is_package, is_type, joined, joined_apart, map_map, name_of, place_from, place_of, shifted_source, symbol_of}
use Rattle.proto_names_outline.proofs.Common.{items_in, package_first, same_declared, tree_span, whole}
use Rattle.proto_names_imports.proofs.Common.{link_skeleton, name_in, names_are_plain, names_in, text_of}
use Rattle.proto_names_update.specs.Edited.{AreEdited}
use Rattle.proto_names_update.specs.Relinked.{NoNameClashes}
use Rattle.proto_names.specs.LinkOfFiles.{IsLinkRead}
use Rattle.proto_names.specs.Linking.{LinkOf, NameOf, declaring_token, name_at, name_text, own_token}
use Rattle.proto_names.proofs.Common.{name_declared_as}
use Rattle.proto_ast.specs.Scenes.{EnumOf}
use Rattle.proto_resolved.specs.SceneOf.{enum_at, enum_named}
use Rattle.proto_desc_extensions.proofs.WrittenExtensions.{from_flat_map}
use Rattle.proto_desc_affected.specs.Checked.{KeepsEnum, EnumSummaryOf, LinksHaveEnumsKept, enum_as_kept, enum_by_link, is_enum_kind, enum_summary, enum_summaries, file_summary}
use Rattle.proto_desc_affected.proofs.Declared.{IsNamed, declared_in, declared_named, no_package}
use Rattle.proto_desc_affected.proofs.Linked.{one_kind}
use Rattle.proto_desc_affected.proofs.Unedited.{same_enums, same_reading, same_text}

-- ---- one enum

enum_kind : (k : Kind) → is_enum_kind (Some k) ≡ true → k ≡ Enum
enum_kind Enum e = refl
enum_kind _ e = absurd (true≢false (sym e))

abbrev as_kept : List ℕ → EnumOf → EnumSummaryOf
as_kept name e = record { name = name; enum = e }

-- what is no enum is not kept
none_kept : (k : Option Kind) (name : List ℕ) (o : Option EnumOf) → is_enum_kind k ≡ false → enum_as_kept k name o ≡ []
none_kept k name None e = refl
none_kept k name (Some x) e = ap (λ (b : Bool). if b then as_kept name x ∷ [] else []) e

-- what is kept is an enum of this name
kept_as : (k : Kind) (name : List ℕ) (o : Option EnumOf) (x : EnumSummaryOf) → Contains (enum_as_kept (Some k) name o) x → (k ≡ Enum) × (name ≡ x.name) × (o ≡ Some x.enum)
kept_as k name None x c = absurd (omega (arith, c.1))
kept_as k name (Some e) x c = by (is_enum_kind (Some k)) refl c
  where
    by : (b : Bool) → is_enum_kind (Some k) ≡ b → Contains (if b then as_kept name e ∷ [] else []) x → (k ≡ Enum) × (name ≡ x.name) × (Some e ≡ Some x.enum)
    by true t c = elim (contains_cases (as_kept name e) x [] c) [
      | inl same ↦ (enum_kind k t, ap (λ (y : EnumSummaryOf). y.name) same, ap (λ (y : EnumSummaryOf). Some y.enum) same)
      | inr none ↦ absurd (omega (arith, none.1))
    ]
    by false t c = absurd (omega (arith, c.1))

from_option : {A B : Type 0} (f : A → B) (o : Option A) (y : B) → option_map f o ≡ Some y → (x : A) × (o ≡ Some x) × (f x ≡ y)
from_option f None y e = absurd (none-some y e)
from_option f (Some x) y e = (x, refl, same_Some (f x) y e)

-- where a path of a file ends among all files
place_shifted : (file token : ℕ) (path : List (Source ℕ)) → place_from (at file token) (map (shifted_source (at file)) path) ≡ at file (place_from token path)
place_shifted file token [] = refl
place_shifted file token (Token t ∷ path) = place_shifted file t path
place_shifted file token (EntryOf t ∷ path) = place_shifted file t path
place_shifted file token (Given w ∷ path) = place_shifted file token path

-- ---- the enums of a file

module _ (files : List FileOf) (reads : List ReadOf) (are : AreRead files reads) (file : ℕ) (within : file < length files) where
  abbrev own_name : Placed → List (List ℕ)
  own_name p = name_of (λ token. text_of files reads (at file token)) entry_name (whole p)

  abbrev own : List Placed
  own = package_first (items_in (read_at reads file).tree)

  -- a declaration of the file is one of the files
  there : (p : Placed) → Contains own p → Contains (link_skeleton files reads).declared (declares file p)
  there p c =
      let s = tree_span (file_at files file).profile (file_at files file).bytes (read_at reads file).tokens (read_at reads file).tree (are.trees file within) in
      let zero_more : 0 + file ≡ file = omega arith in
      subst (λ n. Contains (all_declared 0 (map names_in reads)) (declares n p)) zero_more
      (declared_in 0 file reads p (omega (arith, within, are.same)) ((same_declared (items_in (read_at reads file).tree) s.0 s.1 s.2 p).0 c))

  spelled : (p : Placed) → name_of (text_of files reads) entry_name (declares file p).path ≡ own_name p
  spelled p = name_in (text_of files reads) file (whole p)

  stands : (p : Placed) → place_of (declares file p) ≡ at file (place_from 0 (whole p))
  stands p = place_shifted file 0 (whole p)

  -- a declaration of an enum of this name
  pub record IsKeptEnum (name : List (List ℕ)) (e : EnumOf) : Type 0 where
    pub declared : Declared At
    pub named : IsNamed files reads name declared
    pub kind : declared.kind ≡ Enum
    pub is : enum_at files reads (place_of declared) ≡ Some e

  pub kept_is : (name : List (List ℕ)) → ArePlain name → (e : EnumOf) → KeepsEnum (file_summary files reads file) (joined name) e → IsKeptEnum name e
  kept_is name plain e kept =
      let x : EnumSummaryOf = as_kept (joined name) e in
      let p = from_flat_map (enum_summary files reads file) own x kept in
      let k = kept_as p.0.kind (joined (own_name p.0)) (enum_at files reads (at file (place_from 0 (whole p.0)))) x p.2 in
      let declared = there p.0 p.1 in
      let plain_own : ArePlain (own_name p.0) = subst ArePlain (spelled p.0) (names_are_plain files reads are (symbol_of (text_of files reads) entry_name (declares file p.0)) (contains_map (symbol_of (text_of files reads) entry_name) (link_skeleton files reads).declared (declares file p.0) declared)) in
      let same : own_name p.0 ≡ name = joined_apart (own_name p.0) name plain_own plain k.1 in
      record {
        declared = declares file p.0;
        named = record { there = declared; other = no_package p.0.kind (ap is_type k.0); spelled = spelled p.0 ∙ same };
        kind = k.0;
        is = ap (enum_at files reads) (stands p.0) ∙ k.2;
      }

  -- it is found by the name where names do not clash
  pub kept_named : NoNameClashes files reads → (name : List (List ℕ)) (e : EnumOf) → IsKeptEnum name e → enum_named files reads name ≡ Some e
  kept_named apart name e is = ap (option_and_then (λ (d : Declared At). enum_at files reads (place_of d))) (declared_named files reads apart name is.declared is.named) ∙ is.is

  -- ---- what a link has of them

  module _ (l : LinkOf) (link : IsLinkRead files reads l) where
    abbrev at_token : ℕ → Option EnumOf
    at_token token = enum_at files reads (at file token)

    one_by_link : (row : ℕ) (p : Placed) → Contains own p → name_text l row ≡ Some (joined (own_name p)) → enum_by_link l at_token row ≡ enum_summary files reads file p
    one_by_link row p c text =
        let n = from_option (λ (y : NameOf). y.text) (name_at l row) (joined (own_name p)) text in
        let said : n.0.text ≡ joined (name_of (text_of files reads) entry_name (declares file p).path) = n.2 ∙ ap joined (sym (spelled p)) in
        let kind : n.0.kind ≡ p.kind = one_kind files reads l link row n.0 n.1 (declares file p) (there p c) said in
        let of_kind : option_map (λ (y : NameOf). y.kind) (name_at l row) ≡ Some p.kind = ap (option_map (λ (y : NameOf). y.kind)) n.1 ∙ ap (λ (k : Kind). Some k) kind in
        ap₂ (λ (k : Option Kind) (t : Option (List ℕ)). enum_as_kept k (or_nothing t) (option_and_then at_token (declaring_token l row))) of_kind text
        ∙ by n.0 n.1 said kind (is_enum_kind (Some p.kind)) refl
      where
        by : (n : NameOf) → name_at l row ≡ Some n → n.text ≡ joined (name_of (text_of files reads) entry_name (declares file p).path) → n.kind ≡ p.kind → (b : Bool) → is_enum_kind (Some p.kind) ≡ b
            → enum_as_kept (Some p.kind) (joined (own_name p)) (option_and_then at_token (declaring_token l row)) ≡ enum_summary files reads file p
        by n h said kind false e =
            none_kept (Some p.kind) (joined (own_name p)) (option_and_then at_token (declaring_token l row)) e
            ∙ sym (none_kept (Some p.kind) (joined (own_name p)) (enum_at files reads (at file (place_from 0 (whole p)))) e)
        by n h said kind true e =
            let enum : p.kind ≡ Enum = enum_kind p.kind e in
            let place = (name_declared_as (text_of files reads) (link_skeleton files reads) l link.by (declares file p) (there p c) (no_package p.kind (ap is_type enum)) row n h said).1 in
            let other : is_package n.kind ≡ false = ap is_package (kind ∙ enum) in
            let token_is : declaring_token l row ≡ Some (place_of (declares file p)).token = ap (option_and_then own_token) h ∙ ap₂ (λ (b : Bool) (a : At). if b then None else Some a.token) other place in
            ap (enum_as_kept (Some p.kind) (joined (own_name p)))
            (ap (option_and_then at_token) token_is ∙ ap (λ (a : At). at_token a.token) (stands p))

    each_by_link : (rows : List ℕ) (ps : List Placed) → ((p : Placed) → Contains ps p → Contains own p) → map (name_text l) rows ≡ map (λ p. Some (joined (own_name p))) ps
        → flat_map (enum_by_link l at_token) rows ≡ flat_map (enum_summary files reads file) ps
    each_by_link [] [] all e = refl
    each_by_link [] (p ∷ ps) all e = absurd (cc)
    each_by_link (row ∷ rows) [] all e = absurd (cc)
    each_by_link (row ∷ rows) (p ∷ ps) all e =
        let here : name_text l row ≡ Some (joined (own_name p)) = cc in
        let on : map (name_text l) rows ≡ map (λ p. Some (joined (own_name p))) ps = cc in
        ap₂ (λ (x y : List EnumSummaryOf). x ++ y) (one_by_link row p (all p (contains_head p ps)) here) (each_by_link rows ps (λ q c. all q (contains_later p q ps c)) on)

    pub all_by_link : flat_map (enum_by_link l at_token) (get_or l.rows file []) ≡ enum_summaries files reads file
    all_by_link =
        each_by_link (get_or l.rows file []) own (λ p c. c)
        (link.declares file within ∙ map_map own_name (λ (name : List (List ℕ)). Some (joined name)) own)

pub links_have_enums_kept : LinksHaveEnumsKept
links_have_enums_kept files l link reads read file within = all_by_link files reads read file within l (link reads read)

-- ---- where other files are edited

pub kept_enums_stay : (places : List ℕ) (before : List FileOf) (was : List ReadOf) (files : List FileOf) (reads : List ReadOf) → AreEdited places before was files reads → (file : ℕ) → file < length files → (Contains places file → ⊥) → enum_summaries files reads file ≡ enum_summaries before was file
kept_enums_stay places before was files reads are file within left = λ i.
    flat_map (λ (p : Placed). enum_as_kept (Some p.kind)
    (joined (name_of (λ token. same_text places before was files reads are file within left token i) entry_name (whole p)))
    (same_enums places before was files reads are file within left (at file (place_from 0 (whole p))) refl i))
    (package_first (items_in (same_reading places before was files reads are file within left i).tree))
