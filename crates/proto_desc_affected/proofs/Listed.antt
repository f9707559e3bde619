-- Each reference of a link is among those that mean its name, and the name among those of its file.
use Rattle.std.proofs.Common.{◌≡◌, ℕ, ◌+◌, ◌<◌, Bool, true, List, [], ◌∷◌, ◌++◌, length, get_or, map, filter, Option, Some, None, option_map, refl, sym, ◌∙◌, ap, subst, arith, Contains}
use Rattle.proto_base.proofs.Common.{Contains-get_or, contains_filter, contains_map, from_map, none-some, same_Some, same_from_word}
use Rattle.proto_case.specs.Camel.{entry_name}
use Rattle.proto_files.proofs.Common.{AreRead, FileOf, ReadOf, file_at, read_at}
use Rattle.proto_names_outline.proofs.Common.{items_in, package_first, same_declared, tree_span, whole}
use Rattle.proto_names_rules.proofs.Common.{At, Declared, Placed, Source, Used, all_used, at, declares, joined, meaning, name_of, place_of, reference_of, used_in}
use Rattle.proto_names_imports.proofs.Common.{name_in, use_in}
use Rattle.proto_names_imports.specs.Links.{link_skeleton, names_in, names_of_files, text_of, uses_of}
use Rattle.proto_names.specs.Common.{declared_names}
use Rattle.proto_names.specs.LinkOfFiles.{IsLinkRead, TextMeant, has_text, meant_by_link, meant_by_use, reference_id}
use Rattle.proto_names.specs.Linking.{LinkOf, Meant, NameOf, RefId, declaring_file, name_at, name_text}
use Rattle.proto_desc_affected.specs.Checked.{LinksListReferences}
use Rattle.proto_desc_affected.proofs.Declared.{declared_by, place_file}
use Rattle.proto_desc_affected.proofs.Linked.{HasMeant, has_meant, paired}

-- the name with a text
named_at : (l : LinkOf) (row : ℕ) (text : List ℕ) → name_text l row ≡ Some text → (n : NameOf) × (name_at l row ≡ Some n) × (n.text ≡ text)
named_at l row text h = go (name_at l row) refl h
  where
    go : (o : Option NameOf) → name_at l row ≡ o → option_map (λ (n : NameOf). n.text) o ≡ Some text → (n : NameOf) × (name_at l row ≡ Some n) × (n.text ≡ text)
    go None e q = absurd (none-some text q)
    go (Some n) e q = (n, e, same_Some n.text text q)

module _ (files : List FileOf) (reads : List ReadOf) (are : AreRead files reads) (l : LinkOf) (link : IsLinkRead files reads l) where
  one_row : (i j : ℕ) (t : List ℕ) → name_text l i ≡ Some t → name_text l j ≡ Some t → i ≡ j
  one_row i j t h q =
      let m = named_at l i t h in
      let n = named_at l j t q in
      link.by.names.once i j m.0 n.0 m.1 n.1 (m.2 ∙ sym n.2)

  -- a declaration is among those of its file
  declared_there : (d : Declared At) → Contains (link_skeleton files reads).declared d → ((place_of d).file < length files) × Contains (declared_names files reads (place_of d).file) (name_of (text_of files reads) entry_name d.path)
  declared_there d there =
      let text : At → List ℕ = text_of files reads in
      let o = declared_by 0 reads d there in
      let k : ℕ = o.0 in
      let p : Placed = o.2.0 in
      let zero_more : 0 + k ≡ k = omega arith in
      let is : declares k p ≡ d = ap (λ m. declares m p) (sym zero_more) ∙ o.2.2 in
      let path : List (Source ℕ) = p.above ++ p.last ∷ [] in
      let stands : k ≡ (place_of d).file = sym (place_file k (at k 0) path refl) ∙ ap (λ (x : Declared At). (place_of x).file) is in
      let inside : k < length files = omega (arith, o.1, are.same) in
      let tree = (read_at reads k).tree in
      let span = tree_span (file_at files k).profile (file_at files k).bytes (read_at reads k).tokens tree (are.trees k inside) in
      let listed = (same_declared (items_in tree) span.0 span.1 span.2 p).1 o.2.1 in
      let here : Contains (declared_names files reads k) (name_of (λ i. text (at k i)) entry_name (whole p)) = contains_map (λ (q : Placed). name_of (λ i. text (at k i)) entry_name (whole q)) (package_first (items_in tree)) p listed in
      let name : name_of (λ i. text (at k i)) entry_name (whole p) ≡ name_of text entry_name d.path = sym (name_in text k (whole p)) ∙ ap (λ (x : Declared At). name_of text entry_name x.path) is in (
        subst (λ (m : ℕ). m < length files) stands inside,
        subst (λ (m : ℕ). Contains (declared_names files reads m) (name_of text entry_name d.path)) stands (subst (Contains (declared_names files reads k)) name here),
      )

  module _ (file : ℕ) (within : file < length files) (u : Used ℕ) (c : Contains (uses_of reads file) u) (m : Meant) (h : HasMeant files reads l link file u m) (e : meant_by_link l m ≡ meant_by_use files reads file u) where
    name_listed : (own : ℕ) → declaring_file l m.row ≡ Some own → Contains (get_or l.rows own []) m.row
    name_listed own is =
        let file_is : (place_of h.declared).file ≡ own = same_Some (place_of h.declared).file own (sym h.file_is ∙ is) in
        let there = declared_there h.declared h.named.there in
        let some_joined : List (List ℕ) → Option (List ℕ) = λ name. Some (joined name) in
        let name : Contains (declared_names files reads own) h.name = subst (λ (k : ℕ). Contains (declared_names files reads k) h.name) file_is (subst (Contains (declared_names files reads (place_of h.declared).file)) h.named.spelled there.1) in
        let inside : own < length files = subst (λ (k : ℕ). k < length files) file_is there.0 in
        let row = from_map (name_text l) (get_or l.rows own []) (Some (joined h.name))
        (subst (λ (z : List (Option (List ℕ))). Contains z (Some (joined h.name))) (sym (link.declares own inside)) (contains_map some_joined (declared_names files reads own) h.name name)) in
        subst (Contains (get_or l.rows own [])) (one_row row.0 m.row (joined h.name) row.2 h.text) row.1

    reference_listed : Contains (get_or l.references m.row []) (record { file = file; token = m.token })
    reference_listed =
        let text : At → List ℕ = text_of files reads in
        let n = named_at l m.row (joined h.name) h.text in
        let used = (link_skeleton files reads).used in
        let zero_more : 0 + file ≡ file = omega arith in
        let there : Contains used (used_in file u) = subst (λ k. Contains (all_used 0 (map names_in reads)) (used_in k u)) zero_more (use_in 0 file reads u (omega (arith, within, are.same)) c) in
        let passes : Used At → Bool = λ v. has_text n.0.text (meaning (names_of_files files reads) (reference_of text entry_name v)) in
        let test : passes (used_in file u) ≡ true = ap (has_text n.0.text) h.means ∙ same_from_word (joined h.name) n.0.text (sym n.2) in
        let kept = contains_map reference_id (filter passes used) (used_in file u) (contains_filter passes used (used_in file u) there test) in
        let token : u.first ≡ m.token = sym (ap (λ (z : TextMeant). z.token) e) in
        let id : ℕ → RefId = λ t. record { file = file; token = t } in
        subst (λ (rs : List RefId). Contains rs (id m.token)) (sym (link.by.references m.row n.0 n.1))
        (subst (λ (t : ℕ). Contains (map reference_id (filter passes used)) (id t)) token kept)

pub links_list_references : LinksListReferences
links_list_references files l link reads read file within k d below =
    let is = link reads read in
    let ms : List Meant = get_or l.meant file [] in
    let m : Meant = get_or ms k d in
    let u = paired (meant_by_use files reads file) (meant_by_link l) (uses_of reads file) ms (sym (is.means file within).texts) m (Contains-get_or ms k d below) in
    let h = has_meant files reads l is file u.0 m (sym u.2) ((is.means file within).within k d below) in
    record {
      reference = reference_listed files reads read l is file within u.0 u.1 m h (sym u.2);
      name = name_listed files reads read l is file within u.0 u.1 m h (sym u.2);
    }
