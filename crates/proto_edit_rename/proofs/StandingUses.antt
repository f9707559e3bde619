-- The words that stand for a target, by counting, are those by the front at the hit.
use Rattle.std.proofs.Common.{◌≡◌, ◌≢◌, ◌↔◌, ℕ, ◌+◌, ◌<◌, true, false, is_some, List, [], ◌∷◌, ◌++◌, length, get_or, map, option_map, flat_map, Option, Some, None, refl, sym, ap, subst, ◌∙◌, inl, inr, arith, append_assoc, length-append, if◌then◌else◌, option_to_list, Contains, option_and_then, append-nil}
use Rattle.proto_base.proofs.Common.{any_from, both_ways, from_map, list_any, length-map, Contains-append_left, Contains-append_right, Contains-append_cases, contains_cases, contains_head, contains_later, contains_map}
use Rattle.proto_case.specs.Camel.{entry_name}
use Rattle.proto_tree.proofs.Common.{dotted, ReadsIn, Tree}
use Rattle.proto_files.proofs.Common.{HasNoFault, FileOf, file_at, ReadOf, AreRead, read_at, one_reading}
use Rattle.proto_names_outline.proofs.Common.{file_names, used_by}
use Rattle.proto_names_outline.specs.declared.listing.Use.{Use}
use Rattle.proto_names_rules.proofs.Common.{Renaming, target, At, at, used_in, ArePlain, joined, IsLinked, Workspace, meaning, same_name, Token, Skeleton, Used, name_of, reference_of, spell, symbol_of, Placed, name_from_same, same_from_name, map_append, has_meaning, meant}
use Rattle.proto_names_imports.proofs.Common.{LinkFaults, link_skeleton, names_in, names_of_files, text_of, used_named, uses_of, names_are_plain}
use Rattle.proto_names.proofs.Common.{from_use, use_there, IsLinkRead, TextMeant, meant_by_link, meant_by_use, LinkOf, name_text}
use Rattle.proto_names.specs.Linking.{Meant}
use Rattle.proto_edit_rename_laws.proofs.Common.{front_of, standing, stands, Target, IsNamed, name_map, files_are_linked, from_flat_map, stands_at, to_flat_map, meaning_parts}
use Rattle.proto_edit_rename.specs.StandingTokens.{counted, from_end, goes_on, standing_tokens, words_behind}
use Rattle.proto_edit_rename.proofs.EndTokens.{cons_parts, end_split, is_listed, listed_is, same_fronts, split_end, split_map}
use Rattle.proto_edit_rename.proofs.NameTexts.{behind_is, is_behind}

-- ---- a word that stands for the target, by the words before it

stands_here : (e : Renaming) (text : At → List ℕ) (xs : List At) (front : List (List ℕ)) (i : At) (ys : List At) → same_name ((front ++ map text xs) ++ text i ∷ []) (target e) ≡ true → Contains (stands e text front (xs ++ i ∷ ys)) i
stands_here e text [] front i ys h =
    let same : same_name (front ++ text i ∷ []) (target e) ≡ true = ap (λ z. same_name (z ++ text i ∷ []) (target e)) (sym (append-nil front)) ∙ h in
    Contains-append_left (if same_name (front ++ text i ∷ []) (target e) then i ∷ [] else []) (stands e text (front ++ text i ∷ []) ys) i
    (subst (λ b. Contains (if b then i ∷ [] else []) i) (sym same) (contains_head i []))
stands_here e text (j ∷ xs) front i ys h =
    Contains-append_right (if same_name (front ++ text j ∷ []) (target e) then j ∷ [] else []) (stands e text (front ++ text j ∷ []) (xs ++ i ∷ ys)) i
    (stands_here e text xs (front ++ text j ∷ []) i ys (ap (λ z. same_name (z ++ text i ∷ []) (target e)) (append_assoc front (text j ∷ []) (map text xs)) ∙ h))

-- what the words are, where the front and they make a name
parts_of : (text : At → List ℕ) (front m : List (List ℕ)) (all before : List At) (i : At) (after : List At) → all ≡ before ++ i ∷ after → m ≡ front ++ map text all
    → m ≡ ((front ++ map text before) ++ text i ∷ []) ++ map text after
parts_of text front m all before i after parts e =
    e ∙ ap (λ (z : List At). front ++ map text z) parts
    ∙ ap (λ z. front ++ z) (map_append text before (i ∷ after))
    ∙ sym (append_assoc front (map text before) (text i ∷ map text after))
    ∙ sym (append_assoc (front ++ map text before) (text i ∷ []) (map text after))

module _ (files : List FileOf) (reads : List ReadOf) (are : AreRead files reads) (clean : HasNoFault (LinkFaults files)) (l : LinkOf) (link : IsLinkRead files reads l) (name to : List ℕ) (t : Target) (named : IsNamed files reads name t) (file : ℕ) (within : file < length files) where
  abbrev text : At → List ℕ
  text = text_of files reads

  abbrev k : Skeleton At
  k = link_skeleton files reads

  abbrev w : Workspace
  w = names_of_files files reads

  abbrev e : Renaming
  e = name_map files reads t to

  linked : IsLinked w
  linked = files_are_linked files reads are clean

  aim_name : name_of text entry_name t.aim.path ≡ target e
  aim_name = ap (name_of text entry_name) named.path ∙ map_append (spell text entry_name) t.above (Token t.token ∷ [])

  target_plain : ArePlain (target e)
  target_plain = subst ArePlain aim_name (names_are_plain files reads are (symbol_of text entry_name t.aim) (contains_map (symbol_of text entry_name) k.declared t.aim named.within))

  target_text : name ≡ joined (target e)
  target_text = sym named.name_is ∙ ap joined aim_name

  target_some : target e ≢ []
  target_some z = let n = ap length z in let m = length-append e.parent (e.old ∷ []) in omega (arith, n, m)

  used_there : (u : Used ℕ) → Contains (uses_of reads file) u → Contains k.used (used_in file u)
  used_there u c =
      let same = are.same in
      let none : 0 + file ≡ file = omega arith in
      subst (λ (n : ℕ). Contains k.used (used_in n u)) none (use_there 0 reads file u (omega (arith, same, within)) c)

  -- what a reference of the file means
  means : (u : Used ℕ) → Contains (uses_of reads file) u → (m : List (List ℕ)) × (meaning w (used_named text file u) ≡ Some m) × ArePlain m
  means u c =
      let r = used_named text file u in
      let cr = contains_map (reference_of text entry_name) k.used (used_in file u) (used_there u c) in
      let m = has_meaning (meaning w r) (linked.resolved r cr) in
      let s = meant w r m.0 m.1 in
      (m.0, m.1, subst ArePlain s.2 (names_are_plain files reads are s.0 s.1))

  module _ (u : Used ℕ) (m : List (List ℕ)) (is : meaning w (used_named text file u) ≡ Some m) (plain : ArePlain m) where
    abbrev front : List (List ℕ)
    front = front_of text k (used_in file u)

    whole : m ≡ front ++ map text (map (at file) u.tokens)
    whole = meaning_parts w (used_named text file u) m is

    one_forth : (i : ℕ) → Contains (option_to_list (counted name u.tokens (Some (joined m)))) i → Contains (standing text k e (used_in file u)) (at file i)
    one_forth i c = by (words_behind name (joined m)) refl c
      where
        by : (o : Option ℕ) → words_behind name (joined m) ≡ o → Contains (option_to_list (option_and_then (λ n. from_end n u.tokens) o)) i → Contains (standing text k e (used_in file u)) (at file i)
        by None q c = absurd (omega (arith, c.1))
        by (Some n) q c =
            let s = end_split u.tokens n i (listed_is (from_end n u.tokens) i c) in
            let b = is_behind (target e) m n target_some target_plain plain (ap (λ (z : List ℕ). words_behind z (joined m)) (sym target_text) ∙ q) in
            let tokens : map (at file) u.tokens ≡ map (at file) s.0 ++ at file i ∷ map (at file) s.1 = ap (map (at file)) s.2 ∙ map_append (at file) s.0 (i ∷ s.1) in
            let split = parts_of text front m (map (at file) u.tokens) (map (at file) s.0) (at file i) (map (at file) s.1) tokens whole in
            let long = length-map (map (at file) s.1) text in
            let longer = length-map s.1 (at file) in
            let behind : length (map text (map (at file) s.1)) ≡ length b.0 = omega (arith, long, longer, s.3, b.2) in
            let same = same_fronts ((front ++ map text (map (at file) s.0)) ++ text (at file i) ∷ []) (target e) (map text (map (at file) s.1)) b.0 (sym split ∙ b.1) behind in
            subst (λ z. Contains (stands e text front z) (at file i)) (sym tokens)
            (stands_here e text (map (at file) s.0) front (at file i) (map (at file) s.1) (same_from_name ((front ++ map text (map (at file) s.0)) ++ text (at file i) ∷ []) (target e) same))

    one_back : (i : ℕ) → Contains (standing text k e (used_in file u)) (at file i) → Contains (option_to_list (counted name u.tokens (Some (joined m)))) i
    one_back i c =
        let st = stands_at e text front (map (at file) u.tokens) (at file i) c in
        let sp = split_map (at file) u.tokens st.before (at file i) st.behind st.parts in
        let x : sp.1 ≡ i = ap (λ (z : At). z.token) sp.4 in
        let is_target = name_from_same ((front ++ map text st.before) ++ text (at file i) ∷ []) (target e) st.same in
        let split : m ≡ target e ++ map text st.behind = parts_of text front m (map (at file) u.tokens) st.before (at file i) st.behind st.parts whole ∙ ap (λ z. z ++ map text st.behind) is_target in
        let long = length-map st.behind text in
        let longer = length-map sp.2 (at file) ∙ refl in
        let back = ap length sp.5 in
        let count : length (map text st.behind) ≡ length sp.2 = omega (arith, long, longer, back) in
        let words : words_behind name (joined m) ≡ Some (length sp.2) =
        ap (λ (z : List ℕ). words_behind z (joined m)) target_text ∙ ap (λ z. words_behind (joined (target e)) (joined z)) split
        ∙ behind_is (target e) (map text st.behind) target_some (subst ArePlain split plain) ∙ ap Some count in
        let found : from_end (length sp.2) u.tokens ≡ Some i = ap (from_end (length sp.2)) sp.3 ∙ split_end sp.0 sp.2 sp.1 ∙ ap Some x in
        is_listed (counted name u.tokens (Some (joined m))) i (ap (option_and_then (λ n. from_end n u.tokens)) words ∙ found)

  -- ---- all references of the file

  module _ (ds : List Placed) where
    abbrev one : Use → Meant → List ℕ
    one u m = option_to_list (counted name (dotted u.reference.now.words) (name_text l m.row))

    text_meant : (u : Use) (m : Meant) (x : List (List ℕ)) → meant_by_link l m ≡ meant_by_use files reads file (used_by ds u) → meaning w (used_named text file (used_by ds u)) ≡ Some x → name_text l m.row ≡ Some (joined x)
    text_meant u m x h is = ap (λ (z : TextMeant). z.text) h ∙ ap (option_map joined) is

    forth : (us : List Use) (ms : List Meant) → ((u : Use) → Contains us u → Contains (uses_of reads file) (used_by ds u)) → map (meant_by_link l) ms ≡ map (meant_by_use files reads file) (map (used_by ds) us)
        → (i : ℕ) → Contains (standing_tokens l name us ms) i → (u : Used ℕ) × Contains (uses_of reads file) u × Contains (standing text k e (used_in file u)) (at file i)
    forth [] ms ok h i c = absurd (omega (arith, c.1))
    forth (u ∷ us) [] ok h i c = absurd (omega (arith, c.1))
    forth (u ∷ us) (m ∷ ms) ok h i c =
        let p = cons_parts (meant_by_link l m) (meant_by_use files reads file (used_by ds u)) (map (meant_by_link l) ms) (map (meant_by_use files reads file) (map (used_by ds) us)) h in
        elim (Contains-append_cases (one u m) (standing_tokens l name us ms) i c) [
          | inl a ↦
              let there = ok u (contains_head u us) in
              let x = means (used_by ds u) there in (
                used_by ds u,
                there,
                one_forth (used_by ds u) x.0 x.1 x.2 i (subst (λ (z : Option (List ℕ)). Contains (option_to_list (counted name (dotted u.reference.now.words) z)) i) (text_meant u m x.0 p.0 x.1) a),
              )
          | inr b ↦ forth us ms (λ v cv. ok v (contains_later u v us cv)) p.1 i b
        ]

    back : (us : List Use) (ms : List Meant) → ((u : Use) → Contains us u → Contains (uses_of reads file) (used_by ds u)) → map (meant_by_link l) ms ≡ map (meant_by_use files reads file) (map (used_by ds) us)
        → (u : Used ℕ) → Contains (map (used_by ds) us) u → (i : ℕ) → Contains (standing text k e (used_in file u)) (at file i) → Contains (standing_tokens l name us ms) i
    back [] ms ok h u cu i c = absurd (omega (arith, cu.1))
    back (v ∷ us) [] ok h u cu i c = let n = ap length h in absurd (omega (arith, n))
    back (v ∷ us) (m ∷ ms) ok h u cu i c =
        let p = cons_parts (meant_by_link l m) (meant_by_use files reads file (used_by ds v)) (map (meant_by_link l) ms) (map (meant_by_use files reads file) (map (used_by ds) us)) h in
        elim (contains_cases (used_by ds v) u (map (used_by ds) us) cu) [
          | inl same ↦
              let x = means (used_by ds v) (ok v (contains_head v us)) in
              let here = one_back (used_by ds v) x.0 x.1 x.2 i (subst (λ (z : Used ℕ). Contains (standing text k e (used_in file z)) (at file i)) (sym same) c) in
              Contains-append_left (one v m) (standing_tokens l name us ms) i
              (subst (λ (z : Option (List ℕ)). Contains (option_to_list (counted name (dotted v.reference.now.words) z)) i) (sym (text_meant v m x.0 p.0 x.1)) here)
          | inr later ↦ Contains-append_right (one v m) (standing_tokens l name us ms) i (back us ms (λ x cx. ok x (contains_later v x us cx)) p.1 u later i c)
        ]

    -- a use with a token of this file is one of this file
    of_file : (i : ℕ) → Contains (flat_map (standing text k e) k.used) (at file i) → (u : Used ℕ) × Contains (uses_of reads file) u × Contains (standing text k e (used_in file u)) (at file i)
    of_file i c =
        let f = from_flat_map (standing text k e) k.used (at file i) c in
        let v = from_use 0 reads f.0 f.1 in
        let c1 = subst (λ (z : Used At). Contains (standing text k e z) (at file i)) (sym v.4) f.2 in
        let st = stands_at e text (front_of text k (used_in (0 + v.0) v.1)) (map (at (0 + v.0)) v.1.tokens) (at file i) c1 in
        let sp = split_map (at (0 + v.0)) v.1.tokens st.before (at file i) st.behind st.parts in
        let same : 0 + v.0 ≡ file = ap (λ (z : At). z.file) {x = at (0 + v.0) sp.1} {y = at file i} sp.4 in
        let own : v.0 ≡ file = omega (arith, same) in
        (v.1, subst (λ (z : ℕ). Contains (uses_of reads z) v.1) own v.3, subst (λ (z : ℕ). Contains (standing text k e (used_in z v.1)) (at file i)) same c1)

    -- where no reference means what goes on from the name, none of them stands for it
    nothing_stands : list_any (λ (m : Meant). goes_on l name m.row) (get_or l.meant file []) ≡ false → (i : ℕ) → Contains (flat_map (standing text k e) k.used) (at file i) → ⊥
    nothing_stands none i c =
        let f = of_file i c in
        let x = means f.0 f.1 in
        let here = one_back f.0 x.0 x.1 x.2 i f.2 in
        let ms = get_or l.meant file [] in
        let there = subst (λ z. Contains z (meant_by_use files reads file f.0)) (sym (link.means file within).texts) (contains_map (meant_by_use files reads file) (uses_of reads file) f.0 f.1) in
        let m = from_map (meant_by_link l) ms (meant_by_use files reads file f.0) there in
        let said : name_text l m.0.row ≡ Some (joined x.0) = ap (λ (z : TextMeant). z.text) m.2 ∙ ap (option_map joined) x.1 in
        by (joined x.0) f.0.tokens (words_behind name (joined x.0)) refl here (λ n q. both_ways (list_any (λ (z : Meant). goes_on l name z.row) ms) none
        (any_from (λ (z : Meant). goes_on l name z.row) ms m.0 m.1 (ap (λ (o : Option (List ℕ)). is_some (option_and_then (words_behind name) o)) said ∙ ap is_some q)))
      where
        by : (text tokens : List ℕ) (o : Option ℕ) → words_behind name text ≡ o → Contains (option_to_list (option_and_then (λ n. from_end n tokens) o)) i → ((n : ℕ) → words_behind name text ≡ Some n → ⊥) → ⊥
        by text tokens None q c h = absurd (omega (arith, c.1))
        by text tokens (Some n) q c h = h n q

    all_standing : (us : List Use) → map (used_by ds) us ≡ uses_of reads file → (i : ℕ) → Contains (standing_tokens l name us (get_or l.meant file [])) i ↔ Contains (flat_map (standing text k e) k.used) (at file i)
    all_standing us is i =
        let ok : (u : Use) → Contains us u → Contains (uses_of reads file) (used_by ds u) = λ u c. subst (λ z. Contains z (used_by ds u)) is (contains_map (used_by ds) us u c) in
        let texts = (link.means file within).texts ∙ ap (map (meant_by_use files reads file)) (sym is) in (
          λ c. (let f = forth us (get_or l.meant file []) ok texts i c in to_flat_map (standing text k e) k.used (used_in file f.0) (at file i) (used_there f.0 f.1) f.2),
          λ c. (let f = of_file i c in back us (get_or l.meant file []) ok texts f.0 (subst (λ z. Contains z f.0) (sym is) f.1) i f.2),
        )

-- the references of a listing are those of the file as it is read
pub uses_are : (files : List FileOf) (reads : List ReadOf) → AreRead files reads → (file : ℕ) → file < length files → (tree : Tree) → ReadsIn (file_at files file).profile (file_at files file).bytes (read_at reads file).tokens tree → (file_names tree).used ≡ uses_of reads file
uses_are files reads are file within tree r =
    let own : ReadOf = record { tokens = (read_at reads file).tokens; tree = tree } in
    ap (λ (z : ReadOf). (names_in z).used) (one_reading (file_at files file).profile (file_at files file).bytes own (read_at reads file) r (are.trees file within))

pub meant_are_as_many : (files : List FileOf) (reads : List ReadOf) (l : LinkOf) → IsLinkRead files reads l → (file : ℕ) → file < length files → length (get_or l.meant file []) ≡ length (uses_of reads file)
meant_are_as_many files reads l link file within =
    sym (length-map (get_or l.meant file []) (meant_by_link l)) ∙ ap length (link.means file within).texts ∙ length-map (uses_of reads file) (meant_by_use files reads file)

pub counted_are_standing : (files : List FileOf) (reads : List ReadOf) (are : AreRead files reads) (clean : HasNoFault (LinkFaults files)) (l : LinkOf) (link : IsLinkRead files reads l) (name to : List ℕ) (t : Target) (named : IsNamed files reads name t) (file : ℕ) (within : file < length files)
    (ds : List Placed) (us : List Use) → map (used_by ds) us ≡ uses_of reads file → (i : ℕ) → Contains (standing_tokens l name us (get_or l.meant file [])) i ↔ Contains (flat_map (standing (text_of files reads) (link_skeleton files reads) (name_map files reads t to)) (link_skeleton files reads).used) (at file i)
counted_are_standing files reads are clean l link name to t named file within ds us is i = all_standing files reads are clean l link name to t named file within ds us is i

pub none_goes_on : (files : List FileOf) (reads : List ReadOf) (are : AreRead files reads) (clean : HasNoFault (LinkFaults files)) (l : LinkOf) (link : IsLinkRead files reads l) (name to : List ℕ) (t : Target) (named : IsNamed files reads name t) (file : ℕ) (within : file < length files)
    (ds : List Placed) → list_any (λ (m : Meant). goes_on l name m.row) (get_or l.meant file []) ≡ false → (i : ℕ) → Contains (flat_map (standing (text_of files reads) (link_skeleton files reads) (name_map files reads t to)) (link_skeleton files reads).used) (at file i) → ⊥
none_goes_on files reads are clean l link name to t named file within ds none i c = nothing_stands files reads are clean l link name to t named file within ds none i c
