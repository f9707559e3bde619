-- An import is used where the files that declare what references mean are reached from its file.
use Rattle.std.proofs.Common.{◌≡◌, ◌≢◌, ◌↔◌, ℕ, suc, ◌+◌, ◌<◌, Bool, true, false, ◌&&◌, if◌then◌else◌, List, [], ◌∷◌, length, get_or, map, option_map, Option, None, Some, refl, sym, ◌∙◌, ap, subst, inl, inr, arith, ◌==◌, Contains, option_and_then, true≢false, eqb-true, eq-eqb}
use Rattle.proto_base.proofs.Common.{false_from_ne_true, and_parts, and_from, length-map, Contains-append_cases, Contains-get_or, none-some, same_Some, any_from, any_to, contains_map, from_map}
use Rattle.proto_files.proofs.Common.{FileOf, ReadOf, AreRead}
use Rattle.proto_names_rules.proofs.Common.{place_from, place_of, At, at, FileNames, all_declared, all_used, declared_of, file_declared, used_in, ArePlain, joined, is_package, Symbol, Reference, Workspace, Reaches, may_resolve_to, meaning, reaches, same_name, Source, Token, EntryOf, Given, Declared, Used, name_of, reference_of, shifted_declared, shifted_source, symbol_of, Placed, file_placed, name_from_same, same_from_name, joined_apart, meant, package_from, reaches_all, reaches_only, wanted_no_package}
use Rattle.proto_names_rules.specs.declared.kind.Kind.TheVariants.{Package}
use Rattle.proto_names_imports.proofs.Common.{link_skeleton, names_in, names_of_files, text_of, use_from, use_in, marked_within, used_named, uses_of}
use Rattle.proto_names.proofs.Common.{IsLinkRead, TextMeant, meant_by_link, meant_by_use, LinkOf, NameOf, declaring_file, name_at, own_file, name_declared_as}
use Rattle.proto_case.specs.Camel.{entry_name}
use Rattle.proto_lint.specs.Common.{is_reached, is_used, LeadsToMarked, MarksMeant}
use Rattle.proto_lint.proofs.Reached.{reached_within}

-- ---- the declarations of files, file after file

place_stays : (file token : ℕ) (path : List (Source ℕ)) → (place_from (at file token) (map (shifted_source (at file)) path)).file ≡ file
place_stays file token [] = refl
place_stays file token (Token t ∷ path) = place_stays file t path
place_stays file token (EntryOf t ∷ path) = place_stays file t path
place_stays file token (Given w ∷ path) = place_stays file token path

-- a declaration stands in its file
stands_in_file : (n : ℕ) (fs : List FileNames) (d : Declared At) → Contains (all_declared n fs) d → (place_of d).file ≡ d.file
stands_in_file n [] d c = absurd (omega (arith, c.1))
stands_in_file n (f ∷ fs) d c = elim (Contains-append_cases (file_declared n f) (all_declared (suc n) fs) d c) [
  | inl h ↦
      let p = from_map (λ (q : Placed). shifted_declared (at n) (declared_of n q)) (file_placed f.items) d h in
      subst (λ (x : Declared At). (place_of x).file ≡ x.file) p.2 (place_stays n 0 (declared_of n p.0).path)
  | inr t ↦ stands_in_file (suc n) fs d t
]

-- ---- names in their own files

-- the file of a name that is no package
own_of : (n : NameOf) (g : ℕ) → own_file n ≡ Some g → get_or n.files 0 0 ≡ g
own_of n g h = go (is_package n.kind) h
  where
    go : (b : Bool) → (if b then None else Some (get_or n.files 0 0)) ≡ Some g → get_or n.files 0 0 ≡ g
    go true e = absurd (none-some g e)
    go false e = same_Some (get_or n.files 0 0) g e

own_is : (n : NameOf) → is_package n.kind ≡ false → own_file n ≡ Some (get_or n.files 0 0)
own_is n other = ap (λ (b : Bool). if b then None else Some (get_or n.files 0 0)) other

with_file : (o : Option NameOf) (g : ℕ) → option_and_then own_file o ≡ Some g → (n : NameOf) × (o ≡ Some n) × (own_file n ≡ Some g)
with_file None g h = absurd (none-some g h)
with_file (Some n) g h = (n, refl, h)

with_text : (o : Option NameOf) (text : List ℕ) → option_map (λ n. n.text) o ≡ Some text → (n : NameOf) × (o ≡ Some n) × (n.text ≡ text)
with_text None text h = absurd (none-some text h)
with_text (Some n) text h = (n, refl, same_Some n.text text h)

with_meaning : (o : Option (List (List ℕ))) (text : List ℕ) → Some text ≡ option_map joined o → (name : List (List ℕ)) × (o ≡ Some name) × (text ≡ joined name)
with_meaning None text h = absurd (none-some text (sym h))
with_meaning (Some name) text h = (name, refl, same_Some text (joined name) h)

reached_name : (w : Workspace) (to : ℕ) (o : Option (List (List ℕ))) → is_reached w to o ≡ true → (name : List (List ℕ)) × (o ≡ Some name) × ((s : Symbol) × Contains w.symbols s × (s.name ≡ name) × (reaches w.imports w.files to s.file ≡ true))
reached_name w to None h = absurd (true≢false (sym h))
reached_name w to (Some name) h =
    let x = any_to (λ s. same_name s.name name && reaches w.imports w.files to s.file) w.symbols h in
    let p = and_parts (same_name x.0.name name) (reaches w.imports w.files to x.0.file) x.2 in
    (name, refl, (x.0, x.1, name_from_same x.0.name name p.0, p.1))

module _ (files : List FileOf) (reads : List ReadOf) (l : LinkOf) (are : AreRead files reads) (link : IsLinkRead files reads l) where
  abbrev pub w : Workspace
  w = names_of_files files reads

  abbrev text : At → List ℕ
  text = text_of files reads

  -- the name of a symbol has its kind
  same_kind : (row : ℕ) (n : NameOf) → name_at l row ≡ Some n → (s : Symbol) → Contains w.symbols s → n.text ≡ joined s.name → n.kind ≡ s.kind
  same_kind row n h s c e =
      let x = link.by.names.there s c in
      let here : row ≡ x.0 = link.by.names.once row x.0 n x.1 h x.2 (e ∙ sym x.3) in
      let same : n ≡ x.1 = same_Some n x.1 (sym h ∙ ap (name_at l) here ∙ x.2) in
      ap (λ (y : NameOf). y.kind) same ∙ x.4

  -- a symbol of the name that a reference means is declared in the name's own file
  symbol_file : (r : Reference) (name : List (List ℕ)) → meaning w r ≡ Some name → (row : ℕ) (n : NameOf) → name_at l row ≡ Some n → n.text ≡ joined name → (s : Symbol) → Contains w.symbols s → s.name ≡ name → declaring_file l row ≡ Some s.file
  symbol_file r name means row n h e s c same =
      let t = meant w r name means in
      let wanted : may_resolve_to r.wants n.kind ≡ true = ap (may_resolve_to r.wants) (same_kind row n h t.0 t.1 (e ∙ ap joined (sym t.2))) ∙ t.3 in
      let d = from_map (symbol_of text entry_name) (link_skeleton files reads).declared s c in
      let spelled : name_of text entry_name d.0.path ≡ name = ap (λ (x : Symbol). x.name) d.2 ∙ same in
      let kind : n.kind ≡ d.0.kind = same_kind row n h s c (e ∙ ap joined (sym same)) ∙ ap (λ (x : Symbol). x.kind) (sym d.2) in
      let other : d.0.kind ≢ Package = wanted_no_package r.wants d.0.kind (ap (may_resolve_to r.wants) (sym kind) ∙ wanted) in
      let place = (name_declared_as text (link_skeleton files reads) l link.by d.0 d.1 other row n h (e ∙ ap joined (sym spelled))).1 in
      let file : get_or n.files 0 0 ≡ s.file = ap (λ (a : At). a.file) place ∙ stands_in_file 0 (map names_in reads) d.0 d.1 ∙ ap (λ (x : Symbol). x.file) d.2 in
      ap (option_and_then own_file) h ∙ own_is n (false_from_ne_true (is_package n.kind) (λ q. wanted_no_package r.wants n.kind wanted (package_from n.kind q))) ∙ ap Some file

  -- a symbol of the name, in its own file
  own_symbol : (row g : ℕ) → declaring_file l row ≡ Some g → (n : NameOf) × (name_at l row ≡ Some n) × ((s : Symbol) × Contains w.symbols s × (joined s.name ≡ n.text) × (s.file ≡ g))
  own_symbol row g h =
      let n = with_file (name_at l row) g h in
      let first : get_or n.0.files 0 0 ≡ g = own_of n.0 g n.2 in
      let some = link.by.names.declared row n.0 n.1 in
      let c : Contains n.0.files g = subst (Contains n.0.files) first (Contains-get_or n.0.files 0 0 some) in
      let s = link.by.names.only row g n.0 n.1 c in
      (n.0, n.1, (s.0, s.1, s.2, s.4))

  module _ (file : ℕ) (within : file < length files) (marks : List Bool) (count : length marks ≡ length files) (marked : MarksMeant l (get_or l.meant file []) (length files) marks) where
    files_are : w.files ≡ length files
    files_are = length-map reads names_in ∙ are.same

    leads_used : (to : ℕ) → to < length files → LeadsToMarked w.imports (Some to) marks → is_used w file (Some to) ≡ true
    leads_used to l' (g, r, m) =
        let lg = marked_within marks g m in
        let x = (marked g (omega (arith, lg, count))).0 m in
        let o = own_symbol x.0.row g x.2 in
        let us = uses_of reads file in
        let u = from_map (meant_by_use files reads file) us (meant_by_link l x.0) (subst (λ (z : List TextMeant). Contains z (meant_by_link l x.0)) (link.means file within).texts (contains_map (meant_by_link l) (get_or l.meant file []) x.0 x.1)) in
        let named = with_meaning (meaning w (used_named text file u.0)) o.0.text (ap (option_map (λ (y : NameOf). y.text)) (sym o.1) ∙ ap (λ (z : TextMeant). z.text) (sym u.2)) in
        let t = meant w (used_named text file u.0) named.0 named.1 in
        let plain : ArePlain named.0 = subst ArePlain t.2 (link.by.names.plain t.0 t.1) in
        let s = o.2 in
        let same : s.0.name ≡ named.0 = joined_apart s.0.name named.0 (link.by.names.plain s.0 s.1) plain (s.2 ∙ named.2) in
        let found : reaches w.imports w.files to s.0.file ≡ true = reaches_all w.imports w.files (λ i c. (link.by.between i c).1) to s.0.file (omega (arith, l', files_are)) (subst (Reaches w.imports to) (sym s.3) r) in
        let reached : is_reached w to (Some named.0) ≡ true = any_from (λ y. same_name y.name named.0 && reaches w.imports w.files to y.file) w.symbols s.0 s.1 (and_from _ _ (same_from_name s.0.name named.0 same) found) in
        let there : Contains w.references (used_named text file u.0) = contains_map (reference_of text entry_name) (link_skeleton files reads).used (used_in file u.0)
        (subst (λ m. Contains (all_used 0 (map names_in reads)) (used_in m u.0)) {x = 0 + file} {y = file} (omega arith) (use_in 0 file reads u.0 (omega (arith, within, are.same)) u.1)) in
        any_from (λ y. y.file == file && is_reached w to (meaning w y)) w.references (used_named text file u.0) there (and_from _ _ (eq-eqb file file refl) (ap (is_reached w to) named.1 ∙ reached))

    used_leads : (to : ℕ) → to < length files → is_used w file (Some to) ≡ true → LeadsToMarked w.imports (Some to) marks
    used_leads to l' h =
        let x = any_to (λ y. y.file == file && is_reached w to (meaning w y)) w.references h in
        let p = and_parts (x.0.file == file) (is_reached w to (meaning w x.0)) x.2 in
        let here : x.0.file ≡ file = eqb-true x.0.file file p.0 in
        let named = reached_name w to (meaning w x.0) p.1 in
        let s = named.2 in
        let u = from_map (reference_of text entry_name) (link_skeleton files reads).used x.0 x.1 in
        let v = use_from 0 reads u.0 u.1 in
        let one : Used ℕ = v.2.0 in
        let k : v.0 ≡ file = let a = ap (λ (z : Used At). z.file) v.2.2 in let b = ap (λ (z : Reference). z.file) u.2 in omega (arith, a, b, here) in
        let c : Contains (uses_of reads file) one = subst (λ j. Contains (uses_of reads j) one) k v.2.1 in
        let same : used_named text file one ≡ x.0 = ap (λ j. reference_of text entry_name (used_in j one)) {x = file} {y = 0 + v.0} (omega (arith, k)) ∙ ap (reference_of text entry_name) v.2.2 ∙ u.2 in
        let means : meaning w (used_named text file one) ≡ Some named.0 = ap (meaning w) same ∙ named.1 in
        let ms = get_or l.meant file [] in
        let m = from_map (meant_by_link l) ms (meant_by_use files reads file one) (subst (λ (z : List TextMeant). Contains z (meant_by_use files reads file one)) (sym (link.means file within).texts) (contains_map (meant_by_use files reads file) (uses_of reads file) one c)) in
        let n = with_text (name_at l m.0.row) (joined named.0) (ap (λ (z : TextMeant). z.text) m.2 ∙ ap (option_map joined) means) in
        let declared = symbol_file (used_named text file one) named.0 means m.0.row n.0 n.1 n.2 s.0 s.1 s.2 in
        let r = reaches_only w.imports w.files to s.0.file s.3 in
        let inside = reached_within w link.by.between {f = to} {g = s.0.file} (omega (arith, l', files_are)) r in
        (s.0.file, r, (marked s.0.file (omega (arith, inside, files_are))).1 (m.0, m.1, declared))

  pub marks_used : (file : ℕ) → file < length files → (marks : List Bool) → length marks ≡ length files → MarksMeant l (get_or l.meant file []) (length files) marks → (to : ℕ) → to < length files
      → LeadsToMarked w.imports (Some to) marks ↔ (is_used w file (Some to) ≡ true)
  marks_used file within marks count marked to l' = (leads_used file within marks count marked to l', used_leads file within marks count marked to l')
