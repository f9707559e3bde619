-- What a link has of references is what is kept of them; and a message that it has is no enum.
use Rattle.std.proofs.Common.{◌≡◌, ◌≢◌, ℕ, suc, ◌+◌, ◌<◌, Bool, true, false, if◌then◌else◌, List, [], ◌∷◌, ◌++◌, length, get_or, map, Option, Some, None, option_map, option_and_then, refl, sym, ◌∙◌, ap, ap₂, subst, arith, true≢false, All, Contains}
use Rattle.proto_base.proofs.Common.{Contains-get_or, false_from_ne_true, contains_map, from_map, or_nothing, same_Some}
use Rattle.proto_case.specs.Camel.{entry_name}
use Rattle.proto_text.specs.Tokens.{lexeme_at}
use Rattle.proto_tree.proofs.Common.{Numbered, Tree, flat, trees_are_numbered_in}
use Rattle.proto_files.proofs.Common.{AreRead, FileOf, ReadOf, file_at, read_at}
use Rattle.proto_names_rules.specs.declared.kind.Kind.{Kind}
use Rattle.proto_names_rules.specs.declared.kind.Kind.TheVariants.{Message, Package}
use Rattle.proto_names_rules.proofs.Common.{At, Declared, EntryOf, Given, Placed, Source, Token, Used, at, declares, is_package, joined, name_from_same, name_of, package_from, package_of, place_from, place_of, same_from_name, same_name, shifted_source, symbol_of}
use Rattle.proto_names_outline.specs.FromTree.{items_in}
use Rattle.proto_names_imports.specs.Links.{link_skeleton, text_of, uses_of}
use Rattle.proto_names.specs.LinkOfFiles.{IsLinkRead, meant_by_link, meant_by_use}
use Rattle.proto_names.specs.Linking.{LinkOf, Meant, NameOf, declaring_file, declaring_token, name_at, name_text, own_file, own_token}
use Rattle.proto_names.proofs.Common.{name_declared_as}
use Rattle.proto_ast.specs.Parts.{BlockOf}
use Rattle.proto_resolved.proofs.MeantPlaces.{row_means}
use Rattle.proto_resolved.specs.Meanings.{enum_of_name}
use Rattle.proto_resolved.specs.SceneOf.{declared_as, enum_at, enum_named, enum_within, is_proto3_file, lexemes_of, meaning_of}
use Rattle.proto_desc_affected.specs.Checked.{TypeUseOf, LinksHaveWhatIsKept, MeantMessagesAreNoEnums, is_message_kind, kept_by_link, type_use}
use Rattle.proto_desc_affected.proofs.Declared.{IsNamed, declared_by, found_passes, meant_named, some_found}
use Rattle.proto_desc_affected.proofs.MessageBlocks.{in_items, no_enum_there}

-- ---- a message is no enum

place_last : (k : ℕ) (x : At) (path : List (Source ℕ)) (t : ℕ) → place_from x (map (shifted_source (at k)) (path ++ Token t ∷ [])) ≡ at k t
place_last k x [] t = refl
place_last k x (Token i ∷ path) t = place_last k (at k i) path t
place_last k x (EntryOf i ∷ path) t = place_last k (at k i) path t
place_last k x (Given w ∷ path) t = place_last k x path t

message_no_enum : (files : List FileOf) (reads : List ReadOf) → AreRead files reads → (name : List (List ℕ)) (d : Declared At) → IsNamed files reads name d → d.kind ≡ Message → enum_at files reads (place_of d) ≡ None
message_no_enum files reads read name d is e =
    let p = declared_by 0 reads d is.there in
    let k : ℕ = p.0 in
    let placed : Placed = p.2.0 in
    let zero_more : 0 + k ≡ k = omega arith in
    let of_file : declares k placed ≡ d = ap (λ m. declares m placed) (sym zero_more) ∙ p.2.2 in
    let kind : placed.kind ≡ Message = ap (λ (x : Declared At). x.kind) of_file ∙ e in
    let tree : Tree = (read_at reads k).tree in
    let path : List (Source ℕ) = map (λ t. Token t) (package_of (items_in tree)) in
    let h = in_items tree path placed kind p.2.1 in
    let stands : place_of d ≡ at k h.token =
    ap (λ (x : Declared At). place_of x) (sym of_file)
    ∙ ap (λ (s : Source ℕ). place_from (at k 0) (map (shifted_source (at k)) (placed.above ++ s ∷ []))) h.last
    ∙ place_last k (at k 0) placed.above h.token in
    let l : k < length files = omega (arith, p.1, read.same) in
    let numbered : Numbered 0 (flat tree) = trees_are_numbered_in (file_at files k).profile tree (map (lexeme_at (file_at files k).bytes) (read_at reads k).tokens) (read.trees k l).spells in
    ap (enum_at files reads) stands
    ∙ ap (option_map (λ (b : BlockOf). enum_within (lexemes_of files reads k) (is_proto3_file files reads k) b.within)) (no_enum_there tree numbered path placed kind p.2.1 h.token h.last)

pub no_enum_named : (files : List FileOf) (reads : List ReadOf) → AreRead files reads → (name : List (List ℕ)) (d : Declared At) → IsNamed files reads name d → d.kind ≡ Message → declared_as files reads name ≡ Some d → enum_named files reads name ≡ None
no_enum_named files reads read name d is e found = ap (option_and_then (λ (x : Declared At). enum_at files reads (place_of x))) found ∙ message_no_enum files reads read name d is e

-- ---- what a link has of a reference

pub message_kind : (k : Kind) → is_message_kind (Some k) ≡ true → k ≡ Message
message_kind Message e = refl
message_kind _ e = absurd (true≢false (sym e))

module _ (files : List FileOf) (reads : List ReadOf) (l : LinkOf) (link : IsLinkRead files reads l) where
  -- the name of a declaration has its kind
  pub one_kind : (row : ℕ) (n : NameOf) → name_at l row ≡ Some n → (d : Declared At) → Contains (link_skeleton files reads).declared d → n.text ≡ joined (name_of (text_of files reads) entry_name d.path) → n.kind ≡ d.kind
  one_kind row n h d c e =
      let declared = (link_skeleton files reads).declared in
      let x = link.by.names.there (symbol_of (text_of files reads) entry_name d) (contains_map (symbol_of (text_of files reads) entry_name) declared d c) in
      let here : row ≡ x.0 = link.by.names.once row x.0 n x.1 h x.2 (e ∙ sym x.3) in
      ap (λ (y : NameOf). y.kind) (same_Some n x.1 (sym h ∙ ap (name_at l) here ∙ x.2)) ∙ x.4

  -- by the link the reference means the name that it means by the rules of names, which is found at
  -- a declaration with the kind and the place that the link has
  pub record HasMeant (file : ℕ) (u : Used ℕ) (m : Meant) : Type 0 where
    pub name : List (List ℕ)
    pub means : meaning_of files reads file u ≡ Some name
    pub text : name_text l m.row ≡ Some (joined name)
    pub declared : Declared At
    pub named : IsNamed files reads name declared
    pub found : declared_as files reads name ≡ Some declared
    pub kind : option_map (λ (n : NameOf). n.kind) (name_at l m.row) ≡ Some declared.kind
    pub file_is : declaring_file l m.row ≡ Some (place_of declared).file
    pub token_is : declaring_token l m.row ≡ Some (place_of declared).token

  pub has_meant : (file : ℕ) (u : Used ℕ) (m : Meant) → meant_by_link l m ≡ meant_by_use files reads file u → (n : NameOf) × (name_at l m.row ≡ Some n) → HasMeant file u m
  has_meant file u m e within =
      let declared = (link_skeleton files reads).declared in
      let spelled : Declared At → List (List ℕ) = λ x. name_of (text_of files reads) entry_name x.path in
      let r = row_means files reads l link file m u e within in
      let d = meant_named files reads file u r.name r.means in
      let f = some_found (λ x. same_name (spelled x) r.name) declared d.0 d.1.there (same_from_name (spelled d.0) r.name d.1.spelled) in
      let g = found_passes (λ x. same_name (spelled x) r.name) declared f.0 f.1 in
      let same : spelled f.0 ≡ r.name = name_from_same (spelled f.0) r.name g.1 in
      let text : r.has.text ≡ joined (spelled f.0) = r.text ∙ ap joined (sym same) in
      let kind : r.has.kind ≡ f.0.kind = one_kind m.row r.has r.there f.0 g.0 text in
      let same_kind : f.0.kind ≡ d.0.kind = sym kind ∙ one_kind m.row r.has r.there d.0 d.1.there (r.text ∙ ap joined (sym d.1.spelled)) in
      let apart : f.0.kind ≢ Package = λ e. d.1.other (sym same_kind ∙ e) in
      let place = (name_declared_as (text_of files reads) (link_skeleton files reads) l link.by f.0 g.0 apart m.row r.has r.there text).1 in
      let other : is_package r.has.kind ≡ false = false_from_ne_true (is_package r.has.kind) (λ q. apart (sym kind ∙ package_from r.has.kind q)) in
      record {
        name = r.name;
        means = r.means;
        text = ap (option_map (λ (y : NameOf). y.text)) r.there ∙ ap (λ (t : List ℕ). Some t) r.text;
        declared = f.0;
        named = record { there = g.0; other = apart; spelled = same };
        found = f.1;
        kind = ap (option_map (λ (y : NameOf). y.kind)) r.there ∙ ap (λ (k : Kind). Some k) kind;
        file_is = ap (option_and_then own_file) r.there ∙ ap₂ (λ (b : Bool) (a : At). if b then None else Some a.file) other place;
        token_is = ap (option_and_then own_token) r.there ∙ ap₂ (λ (b : Bool) (a : At). if b then None else Some a.token) other place;
      }

  -- so it has what is kept
  kept_is : (file : ℕ) (u : Used ℕ) (m : Meant) → HasMeant file u m → kept_by_link l m ≡ type_use files reads (meaning_of files reads file u)
  kept_is file u m h =
      let kind : option_map (λ (n : NameOf). n.kind) (name_at l m.row) ≡ option_map (λ (d : Declared At). d.kind) (declared_as files reads h.name) = h.kind ∙ sym (ap (option_map (λ (d : Declared At). d.kind)) h.found) in
      let of_name : kept_by_link l m ≡ type_use files reads (Some h.name) = λ i. record { text = or_nothing (h.text i); is_message = is_message_kind (kind i) } in
      of_name ∙ ap (type_use files reads) (sym h.means)

  -- and where it has a message, there is no enum
  no_enum_meant : AreRead files reads → (file : ℕ) (u : Used ℕ) (m : Meant) → HasMeant file u m → (kept_by_link l m).is_message ≡ true → enum_of_name l (enum_at files reads) m.row ≡ None
  no_enum_meant read file u m h message =
      ap₂ (λ (f t : Option ℕ). option_and_then (λ x. option_and_then (λ y. enum_at files reads (at x y)) t) f) h.file_is h.token_is
      ∙ message_no_enum files reads read h.name h.declared h.named (message_kind h.declared.kind (sym (ap is_message_kind h.kind) ∙ message))

-- ---- the references of a file

pub paired : {A B C : Type 0} (f : A → C) (g : B → C) (xs : List A) (ys : List B) → map f xs ≡ map g ys → (y : B) → Contains ys y → (x : A) × Contains xs x × (f x ≡ g y)
paired {C = C} f g xs ys e y c = from_map f xs (g y) (subst (λ (zs : List C). Contains zs (g y)) (sym e) (contains_map g ys y c))

pub links_have_what_is_kept : LinksHaveWhatIsKept
links_have_what_is_kept files l link reads read file within =
    go (get_or l.meant file []) (uses_of reads file) (is.means file within).texts (is.means file within).within
  where
    is : IsLinkRead files reads l
    is = link reads read

    go : (ms : List Meant) (us : List (Used ℕ)) → map (meant_by_link l) ms ≡ map (meant_by_use files reads file) us → All (λ (m : Meant). (n : NameOf) × (name_at l m.row ≡ Some n)) ms
        → map (kept_by_link l) ms ≡ map (λ u. type_use files reads (meaning_of files reads file u)) us
    go [] [] e rows = refl
    go [] (u ∷ us) e rows = absurd (cc)
    go (m ∷ ms) [] e rows = absurd (cc)
    go (m ∷ ms) (u ∷ us) e rows =
        let here : meant_by_link l m ≡ meant_by_use files reads file u = cc in
        let on : map (meant_by_link l) ms ≡ map (meant_by_use files reads file) us = cc in
        ap₂ (λ (x : TypeUseOf) (xs : List TypeUseOf). x ∷ xs)
        (kept_is files reads l is file u m (has_meant files reads l is file u m here (rows 0 m (omega arith))))
        (go ms us on (λ k d n. rows (suc k) d (omega (arith, n))))

pub meant_messages_are_no_enums : MeantMessagesAreNoEnums
meant_messages_are_no_enums files l link reads read file within k d below =
    let is = link reads read in
    let ms : List Meant = get_or l.meant file [] in
    let m : Meant = get_or ms k d in
    let u = paired (meant_by_use files reads file) (meant_by_link l) (uses_of reads file) ms (sym (is.means file within).texts) m (Contains-get_or ms k d below) in
    no_enum_meant files reads l is read file u.0 m (has_meant files reads l is file u.0 m (sym u.2) ((is.means file within).within k d below))
