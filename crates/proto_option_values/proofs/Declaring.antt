-- The file that declares the extension of an option, by the link and by the rules of names.
use Rattle.std.proofs.Common.{◌≡◌, ◌≢◌, ℕ, suc, ◌<◌, Bool, if◌then◌else◌, List, [], ◌∷◌, length, get_or, map, option_map, Option, None, Some, refl, sym, ◌∙◌, ap, subst, inl, inr, arith, ◌==◌, find, Contains, option_and_then}
use Rattle.proto_base.proofs.Common.{both_ways, Contains-append_cases, Contains-get_or, none-some, same_Some, contains_map, from_map}
use Rattle.proto_base.specs.Texts.{Text}
use Rattle.proto_case.specs.Camel.{entry_name}
use Rattle.proto_files.proofs.Common.{FileOf, ReadOf}
use Rattle.proto_names_imports.specs.Links.{link_skeleton, names_in, text_of}
use Rattle.proto_names_rules.proofs.Common.{At, at, Declared, EntryOf, FileNames, Given, Placed as PlacedIn, Source, Symbol, Token, all_declared, declared_of, file_declared, file_placed, is_package, joined, joined_apart, name_of, place_from, place_of, shifted_declared, shifted_source, symbol_of}
use Rattle.proto_names_rules.specs.declared.kind.Kind.TheVariants.{Package}
use Rattle.proto_names.proofs.Common.{IsLinkRead, LinkOf, NameOf, declaring_file, name_at, own_file}
use Rattle.proto_names.specs.Linking.{Meant, meant_at}
use Rattle.proto_option_values.specs.Extensions.{extension_file}
use Rattle.proto_resolved.proofs.MeantPlaces.{Placed, none_named, one_named, place_meant}
use Rattle.proto_resolved.specs.SceneOf.{meaning_of, name_meant}
use Rattle.proto_tree.specs.References.{first_of}
use Rattle.proto_tree.specs.declared.tree.Custom.{Custom}

-- ---- declarations stand in their files

place_stays : (file token : ℕ) (path : List (Source ℕ)) → (place_from (at file token) (map (shifted_source (at file)) path)).file ≡ file
place_stays file token [] = refl
place_stays file token (Token t ∷ path) = place_stays file t path
place_stays file token (EntryOf t ∷ path) = place_stays file t path
place_stays file token (Given w ∷ path) = place_stays file token path

stands_in_file : (n : ℕ) (fs : List FileNames) (d : Declared At) → Contains (all_declared n fs) d → (place_of d).file ≡ d.file
stands_in_file n [] d c = absurd (omega (arith, c.1))
stands_in_file n (f ∷ fs) d c = elim (Contains-append_cases (file_declared n f) (all_declared (suc n) fs) d c) [
  | inl h ↦
      let p = from_map (λ (q : PlacedIn). shifted_declared (at n) (declared_of n q)) (file_placed f.items) d h in
      subst (λ (x : Declared At). (place_of x).file ≡ x.file) p.2 (place_stays n 0 (declared_of n p.0).path)
  | inr t ↦ stands_in_file (suc n) fs d t
]

-- ---- the name of an option

module _ (files : List FileOf) (reads : List ReadOf) (l : LinkOf) (link : IsLinkRead files reads l) (file : ℕ) (within : file < length files) (c : Custom) where
  abbrev first : ℕ
  first = first_of c.name.dot c.name.words

  abbrev text : At → Text
  text = text_of files reads

  abbrev declared : List (Declared At)
  declared = (link_skeleton files reads).declared

  abbrev by_link : Option Meant
  by_link = find (λ m. m.token == first) (get_or l.meant file [])

  meant_none : meant_at l file first ≡ None → name_meant files reads file c.name ≡ None
  meant_none h = ap (option_and_then (meaning_of files reads file)) (none_named files reads l link file first within (go by_link refl))
    where
      go : (o : Option Meant) → by_link ≡ o → by_link ≡ None
      go None e = e
      go (Some m) e = absurd (none-some m.row (sym h ∙ ap (option_map (λ x. x.row)) e))

  -- the name that it means, with its row
  record MeansRow (row : ℕ) : Type 0 where
    name : List Text
    is : name_meant files reads file c.name ≡ Some name
    has : NameOf
    there : name_at l row ≡ Some has
    text_is : has.text ≡ joined name
    placed : Placed files reads l link name has

  means_row : (row : ℕ) → meant_at l file first ≡ Some row → MeansRow row
  means_row row h = go by_link refl
    where
      go : (o : Option Meant) → by_link ≡ o → MeansRow row
      go None e = absurd (none-some row (sym (sym h ∙ ap (option_map (λ (x : Meant). x.row)) e)))
      go (Some m) e =
          let same : m.row ≡ row = same_Some m.row row (sym (sym h ∙ ap (option_map (λ (x : Meant). x.row)) e)) in
          let n = one_named files reads l link file first within m e in
          subst MeansRow same (record {
            name = n.name;
            is = ap (option_and_then (meaning_of files reads file)) n.is ∙ n.means;
            has = n.has;
            there = n.there;
            text_is = n.text;
            placed = place_meant files reads l link file n.reference n.name n.means m.row n.has n.there n.text;
          })

  module _ (row : ℕ) (h : meant_at l file first ≡ Some row) where
    m : MeansRow row
    m = means_row row h

    file_there : extension_file l file c ≡ Some (get_or m.has.files 0 0)
    file_there =
        ap (option_and_then (declaring_file l)) h
        ∙ ap (option_and_then own_file) m.there
        ∙ ap (λ (b : Bool). if b then None else Some (get_or m.has.files 0 0)) m.placed.other

    -- a declaration of its name, in the file that the link has for it
    declared_there : (d : Declared At) × Contains declared d × (name_of text entry_name d.path ≡ m.name) × (d.file ≡ get_or m.has.files 0 0)
    declared_there =
        let n = m.has in
        let names = link.by.names in
        let s = names.only row (get_or n.files 0 0) n m.there (Contains-get_or n.files 0 0 (names.declared row n m.there)) in
        let d = from_map (symbol_of text entry_name) declared s.0 s.1 in
        let same : s.0.name ≡ m.name = joined_apart s.0.name m.name (names.plain s.0 s.1) m.placed.plain (s.2 ∙ m.text_is) in
        (d.0, d.1, ap (λ (x : Symbol). x.name) d.2 ∙ same, ap (λ (x : Symbol). x.file) d.2 ∙ s.4)

    -- each declaration of its name stands there
    only_there : (d : Declared At) → Contains declared d → name_of text entry_name d.path ≡ m.name → d.file ≡ get_or m.has.files 0 0
    only_there d there same =
        let n = m.has in
        let names = link.by.names in
        let s : Symbol = symbol_of text entry_name d in
        let spelled : n.text ≡ joined (name_of text entry_name d.path) = m.text_is ∙ ap joined (sym same) in
        let x = names.there s (contains_map (symbol_of text entry_name) declared d there) in
        let here : row ≡ x.0 = names.once row x.0 n x.1 m.there x.2 (spelled ∙ sym x.3) in
        let one : n ≡ x.1 = same_Some n x.1 (sym m.there ∙ ap (name_at l) here ∙ x.2) in
        let kind : n.kind ≡ d.kind = ap (λ (y : NameOf). y.kind) one ∙ x.4 in
        let other : d.kind ≢ Package = λ e. both_ways (is_package d.kind) (ap is_package (sym kind) ∙ m.placed.other) (ap is_package e) in
        let place = link.by.places d there other row n m.there spelled in
        sym (stands_in_file 0 (map names_in reads) d there) ∙ ap (λ (a : At). a.file) (sym place)

  pub declares : (k : ℕ) → extension_file l file c ≡ Some k
      → (d : Declared At) × Contains declared d × (name_meant files reads file c.name ≡ Some (name_of text entry_name d.path)) × (d.file ≡ k)
  declares k h = go (meant_at l file first) refl
    where
      go : (o : Option ℕ) → meant_at l file first ≡ o → (d : Declared At) × Contains declared d × (name_meant files reads file c.name ≡ Some (name_of text entry_name d.path)) × (d.file ≡ k)
      go None e = absurd (none-some k (sym (ap (option_and_then (declaring_file l)) e) ∙ h))
      go (Some row) e =
          let d = declared_there row e in
          let same : get_or (m row e).has.files 0 0 ≡ k = same_Some (get_or (m row e).has.files 0 0) k (sym (file_there row e) ∙ h) in
          (d.0, d.1, (m row e).is ∙ ap (λ (x : List Text). Some x) (sym d.2), d.3 ∙ same)

  pub declared_in : (d : Declared At) → Contains declared d → name_meant files reads file c.name ≡ Some (name_of text entry_name d.path) → extension_file l file c ≡ Some d.file
  declared_in d there means = go (meant_at l file first) refl
    where
      go : (o : Option ℕ) → meant_at l file first ≡ o → extension_file l file c ≡ Some d.file
      go None e = absurd (none-some (name_of text entry_name d.path) (sym (meant_none e) ∙ means))
      go (Some row) e =
          let same : name_of text entry_name d.path ≡ (m row e).name = same_Some (name_of text entry_name d.path) (m row e).name (sym means ∙ (m row e).is) in
          file_there row e ∙ ap (λ (k : ℕ). Some k) (sym (only_there row e d there same))
