-- What the references of a file mean, with the enums, as the link and the table of enums say it.
use Rattle.std.proofs.Common.{◌≡◌, ℕ, suc, ◌<◌, Bool, false, if◌then◌else◌, List, [], ◌∷◌, length, get_or, map, Option, Some, None, option_map, refl, sym, ap, ◌∙◌, arith, option_and_then, All, AllPairs}
use Rattle.proto_base.proofs.Common.{or_nothing}
use Rattle.proto_files.proofs.Common.{FileOf, ReadOf}
use Rattle.proto_names_rules.proofs.Common.{place_of, At, at, joined, is_package, Declared, Used}
use Rattle.proto_names.specs.Links.{uses_of}
use Rattle.proto_names.proofs.Common.{IsLinkRead, meant_by_link, meant_by_use, LinkOf, NameOf, name_at, own_file, own_token}
use Rattle.proto_names.specs.Linking.{Meant, name_text}
use Rattle.proto_names.proofs.LinkMeanings.{rising_by}
use Rattle.proto_ast.specs.declared.scene.MeantAt.{MeantAt}
use Rattle.proto_ast.specs.Scenes.{EnumOf, MeantOf}
use Rattle.proto_resolved.proofs.MeantPlaces.{place_meant, row_means}
use Rattle.proto_resolved.specs.Common.{HasEnumsMeant, IsEnumTable, enum_of_name, meant_in_table, enum_at, enum_named, meaning_of, meant_as, means_of, EnumTable}

-- as the tokens of other elements rise, so do these
pub means_rise : (xs : List MeantAt) (ys : List Meant) → map (λ m. m.token) xs ≡ map (λ m. m.token) ys → AllPairs (λ a b. a.token < b.token) ys → AllPairs (λ a b. a.token < b.token) xs
means_rise = rising_by (λ m. m.token) (λ m. m.token)

-- the enum of a name that is no package's
enum_there : (l : LinkOf) (enum : At → Option EnumOf) (row : ℕ) (n : NameOf) → name_at l row ≡ Some n → is_package n.kind ≡ false → enum_of_name l enum row ≡ enum (at (get_or n.files 0 0) n.token)
enum_there l enum row n h other =
    ap (λ (o : Option NameOf). option_and_then (λ file. option_and_then (λ token. enum (at file token)) (option_and_then own_token o)) (option_and_then own_file o)) h
    ∙ ap (λ (b : Bool). option_and_then (λ file. option_and_then (λ token. enum (at file token)) (if b then None else Some n.token)) (if b then None else Some (get_or n.files 0 0))) other

-- a table that has the enums that references mean tells of these what the files do
pub same_meant : (l : LinkOf) (enum other : At → Option EnumOf) (ms : List Meant) → All (λ m. enum_of_name l enum m.row ≡ enum_of_name l other m.row) ms → map (meant_in_table l enum) ms ≡ map (meant_in_table l other) ms
same_meant l enum other [] h = refl
same_meant l enum other (m ∷ ms) h =
    let here : meant_in_table l enum m ≡ meant_in_table l other m = λ i. record { token = m.token; name = or_nothing (name_text l m.row); enum = h 0 m (omega arith) i } in
    ap (λ (x : MeantOf). x ∷ map (meant_in_table l enum) ms) here
    ∙ ap (λ (xs : List MeantOf). meant_in_table l other m ∷ xs) (same_meant l enum other ms (λ k d n. h (suc k) d (omega (arith, n))))

-- a table of all enums has those that the references of a file mean
pub all_meant : (files : List FileOf) (l : LinkOf) (file : ℕ) (table : EnumTable) → IsEnumTable files table → HasEnumsMeant files l file table
all_meant files l file table h reads are = λ k m n. ap (λ (enum : At → Option EnumOf). enum_of_name l enum (get_or (get_or l.meant file []) k m).row) (λ i a. h reads are a i)

module _ (files : List FileOf) (reads : List ReadOf) (l : LinkOf) (link : IsLinkRead files reads l) where
  -- the enum at the place of a name that is meant
  enum_meant : (file : ℕ) (u : Used ℕ) (name : List (List ℕ)) → meaning_of files reads file u ≡ Some name → (row : ℕ) (n : NameOf) → name_at l row ≡ Some n → n.text ≡ joined name → enum_of_name l (enum_at files reads) row ≡ enum_named files reads name
  enum_meant file u name means row n h text =
      let p = place_meant files reads l link file u name means row n h text in
      enum_there l (enum_at files reads) row n h p.other
      ∙ ap (enum_at files reads) p.place
      ∙ sym (ap (option_and_then (λ (x : Declared At). enum_at files reads (place_of x))) p.is)

  one_meant : (file : ℕ) (m : Meant) (u : Used ℕ) → meant_by_link l m ≡ meant_by_use files reads file u → (n : NameOf) × (name_at l m.row ≡ Some n) → meant_in_table l (enum_at files reads) m ≡ meant_as files reads u.first (meaning_of files reads file u)
  one_meant file m u e within =
      let n = row_means files reads l link file m u e within in
      let named : meant_in_table l (enum_at files reads) m ≡ meant_as files reads u.first (Some n.name) =
      λ i. record {
        token = (e i).token;
        name = (ap (λ (o : Option NameOf). or_nothing (option_map (λ (y : NameOf). y.text) o)) n.there ∙ n.text) i;
        enum = enum_meant file u n.name n.means m.row n.has n.there n.text i;
      } in
      named ∙ ap (meant_as files reads u.first) (sym n.means)

  pub means_are : (file : ℕ) → file < length files → map (meant_in_table l (enum_at files reads)) (get_or l.meant file []) ≡ means_of files reads file
  means_are file within = go (get_or l.meant file []) (uses_of reads file) (link.means file within).texts (link.means file within).within
    where
      go : (ms : List Meant) (us : List (Used ℕ)) → map (meant_by_link l) ms ≡ map (meant_by_use files reads file) us → All (λ (m : Meant). (n : NameOf) × (name_at l m.row ≡ Some n)) ms
          → map (meant_in_table l (enum_at files reads)) ms ≡ map (λ u. meant_as files reads u.first (meaning_of files reads file u)) us
      go [] [] e rows = refl
      go [] (u ∷ us) e rows = absurd (cc)
      go (m ∷ ms) [] e rows = absurd (cc)
      go (m ∷ ms) (u ∷ us) e rows =
          let here : meant_by_link l m ≡ meant_by_use files reads file u = cc in
          let on : map (meant_by_link l) ms ≡ map (meant_by_use files reads file) us = cc in
          ap (λ (x : MeantOf). x ∷ map (meant_in_table l (enum_at files reads)) ms) (one_meant file m u here (rows 0 m (omega arith)))
          ∙ ap (λ (xs : List MeantOf). meant_as files reads u.first (meaning_of files reads file u) ∷ xs) (go ms us on (λ k d n. rows (suc k) d (omega (arith, n))))
