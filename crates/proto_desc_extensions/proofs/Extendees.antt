-- What a reference means by the link is what it means by the rules of names, and its ranges are found where its name stands.
use Rattle.std.proofs.Common.{◌≡◌, ℕ, ◌<◌, Bool, if◌then◌else◌, List, [], length, get_or, Option, Some, None, option_map, option_and_then, refl, sym, ap, subst, ◌∙◌, find, ◌==◌, unwrap_or}
use Rattle.proto_base.proofs.Common.{none-some, same_Some}
use Rattle.proto_tree.specs.References.{first_of}
use Rattle.proto_tree.specs.declared.tree.Reference.{Reference}
use Rattle.proto_tree.specs.declared.tree.Separated.{Separated}
use Rattle.proto_files.proofs.Common.{FileOf, ReadOf}
use Rattle.proto_names_rules.proofs.Common.{At, at, joined, place_of, Declared}
use Rattle.proto_names.specs.Common.{meant_at}
use Rattle.proto_names.proofs.Common.{IsLinkRead, LinkOf, NameOf, declaring_file, name_at, own_file, own_token, name_text, declaring_token}
use Rattle.proto_names.specs.Linking.{Meant}
use Rattle.proto_ast.proofs.Common.{past}
use Rattle.proto_desc_numbers.specs.RangeIndex.{IsRangeIndexOf}
use Rattle.proto_resolved.specs.SceneOf.{meaning_of}
use Rattle.proto_resolved.proofs.MeantPlaces.{Placed, none_named, one_named, place_meant}
use Rattle.proto_desc_extensions.specs.Common.{Extendee, IsExtendee, name_meant, extension_ranges_at, ranges_at_place, ranges_named}

-- the first token of a reference
pub first_is : (dot : Option ℕ) (words : Separated ℕ) → unwrap_or dot words.first ≡ first_of dot words
first_is None words = refl
first_is (Some i) words = refl

module _ (files : List FileOf) (reads : List ReadOf) (l : LinkOf) (link : IsLinkRead files reads l) (file : ℕ) (within : file < length files) (r : Reference) where
  abbrev first : ℕ
  first = first_of r.dot r.words

  abbrev by_link : Option Meant
  by_link = find (λ m. m.token == first) (get_or l.meant file [])

  pub meant_none : meant_at l file first ≡ None → name_meant files reads file r ≡ None
  meant_none h = ap (option_and_then (meaning_of files reads file)) (none_named files reads l link file first within (go by_link refl))
    where
      go : (o : Option Meant) → by_link ≡ o → by_link ≡ None
      go None e = e
      go (Some m) e = absurd (none-some m.row (sym h ∙ ap (option_map (λ x. x.row)) e))

  -- the name that is meant, with its row in the link
  pub record MeantName (row : ℕ) : Type 0 where
    pub name : List (List ℕ)
    pub is : name_meant files reads file r ≡ Some name
    pub has : NameOf
    pub there : name_at l row ≡ Some has
    pub text : has.text ≡ joined name
    pub placed : Placed files reads l link name has

  pub meant_some : (row : ℕ) → meant_at l file first ≡ Some row → MeantName row
  meant_some row h = go by_link refl
    where
      go : (o : Option Meant) → by_link ≡ o → MeantName row
      go None e = absurd (none-some row (sym (sym h ∙ ap (option_map (λ (x : Meant). x.row)) e)))
      go (Some m) e =
          let same : m.row ≡ row = same_Some m.row row (sym (sym h ∙ ap (option_map (λ (x : Meant). x.row)) e)) in
          let n = one_named files reads l link file first within m e in
          subst MeantName same (record {
            name = n.name;
            is = ap (option_and_then (meaning_of files reads file)) n.is ∙ n.means;
            has = n.has;
            there = n.there;
            text = n.text;
            placed = place_meant files reads l link file n.reference n.name n.means m.row n.has n.there n.text;
          })

  module _ (row : ℕ) (m : MeantName row) where
    pub text_there : name_text l row ≡ Some (joined m.name)
    text_there = ap (option_map (λ (n : NameOf). n.text)) m.there ∙ ap (λ (t : List ℕ). Some t) m.text

    pub file_there : declaring_file l row ≡ Some (get_or m.has.files 0 0)
    file_there = ap (option_and_then own_file) m.there ∙ ap (λ (b : Bool). if b then None else Some (get_or m.has.files 0 0)) m.placed.other

    pub token_there : declaring_token l row ≡ Some m.has.token
    token_there = ap (option_and_then own_token) m.there ∙ ap (λ (b : Bool). if b then None else Some m.has.token) m.placed.other

    pub ranges_there : extension_ranges_at (Some past) files reads (at (get_or m.has.files 0 0) m.has.token) ≡ ranges_named (Some past) files reads m.name
    ranges_there =
        ap (extension_ranges_at (Some past) files reads) m.placed.place
        ∙ sym (ap (λ (o : Option (Declared At)). ranges_at_place (Some past) files reads (option_map place_of o)) m.placed.is)

    -- what the code finds
    pub found_extendee : (x : Extendee) (declared token : ℕ) → x.name.now ≡ joined m.name → declared ≡ get_or m.has.files 0 0 → token ≡ m.has.token
        → IsRangeIndexOf (extension_ranges_at (Some past) files reads (at declared token)) x.ranges.now → IsExtendee files reads file r (Some x)
    found_extendee x declared token name d t is = (
      m.name,
      m.is,
      name,
      subst (λ rs. IsRangeIndexOf rs x.ranges.now) (ap (λ (i : ℕ). extension_ranges_at (Some past) files reads (at i token)) d ∙ ap (λ (i : ℕ). extension_ranges_at (Some past) files reads (at (get_or m.has.files 0 0) i)) t ∙ ranges_there) is,
    )
