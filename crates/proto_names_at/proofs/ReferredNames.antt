-- The name for which a word of a reference stands.
use Rattle.std.proofs.Common.{◌≡◌, ◌≢◌, ◌↔◌, ℕ, ◌+◌, ◌<◌, ◌==◌, Bool, true, false, List, [], ◌∷◌, ◌++◌, length, get_or, map, Option, Some, None, option_map, refl, sym, ap, subst, ◌∙◌, inl, inr, arith, append_assoc, append-nil, Contains, eqb-true, eq-eqb, if◌then◌else◌}
use Rattle.proto_base.proofs.Common.{append_cancel_right, cases_Bool, cond-true, cond-false, contains_cases, contains_head, contains_later, contains_map, from_flat_map, length-map, to_flat_map, none-some, option_or, same_Some, Contains-append_left, Contains-append_right}
use Rattle.proto_case.specs.Camel.{entry_name}
use Rattle.proto_tree.proofs.Common.{dotted, ReadsIn, Tree}
use Rattle.proto_files.proofs.Common.{HasNoFault, FileOf, file_at, ReadOf, AreRead, read_at, one_reading}
use Rattle.proto_names_outline.proofs.Common.{file_names, used_by}
use Rattle.proto_names_outline.specs.declared.listing.Use.{Use}
use Rattle.proto_names_rules.proofs.Common.{Renaming, target, At, at, used_in, ArePlain, joined, joined_apart, Workspace, meaning, same_name, Token, Skeleton, Used, Placed, name_of, reference_of, spell, symbol_of, name_from_same, same_from_name, map_append, has_meaning, meant}
use Rattle.proto_names_imports.proofs.Common.{LinkFaults, link_skeleton, names_in, names_of_files, text_of, used_named, uses_of, names_are_plain}
use Rattle.proto_names.proofs.Common.{use_there, IsLinkRead, TextMeant, meant_by_link, meant_by_use, LinkOf, name_text}
use Rattle.proto_names.specs.Linking.{Meant}
use Rattle.proto_edit_rules.specs.Rename.{dotted_text}
use Rattle.proto_edit_rename_laws.proofs.Common.{IsNamed, Target, front_of, meaning_parts, name_map, standing, stands, files_are_linked, stands_at}
use Rattle.proto_edit_rename_laws.proofs.Inside.{word_of_file}
use Rattle.proto_edit_rename_laws.proofs.TokenRoles.{tokens_have_roles}
use Rattle.proto_names_at.specs.NamesAt.{HasTarget, RefersToName}
use Rattle.proto_names_at.specs.References.{WordOf, behind_token, word_meant, word_with}

-- ---- a token among others

pub behind_split : (token : ℕ) (ts rest : List ℕ) → behind_token token ts ≡ Some rest → (before : List ℕ) × (ts ≡ before ++ token ∷ rest)
behind_split token [] rest e = absurd (none-some rest e)
behind_split token (t ∷ ts) rest e = elim (cases_Bool (t == token)) [
  | inl q ↦
      let here : ts ≡ rest = same_Some ts rest (sym (cond-true (t == token) (Some ts) (behind_token token ts) q) ∙ e) in
      ([], ap (λ (z : ℕ). z ∷ ts) (eqb-true t token q) ∙ ap (λ (z : List ℕ). token ∷ z) here)
  | inr q ↦
      let r = behind_split token ts rest (sym (cond-false (t == token) (Some ts) (behind_token token ts) q) ∙ e) in
      (t ∷ r.0, ap (λ (z : List ℕ). t ∷ z) r.1)
]

pub none_behind : (token : ℕ) (ts : List ℕ) → behind_token token ts ≡ None → Contains ts token → ⊥
none_behind token [] e c = omega (arith, c.1)
none_behind token (t ∷ ts) e c = elim (cases_Bool (t == token)) [
  | inl q ↦ none-some ts (sym e ∙ cond-true (t == token) (Some ts) (behind_token token ts) q)
  | inr q ↦ elim (contains_cases t token ts c) [
    | inl same ↦ (let f : false ≡ true = sym q ∙ eq-eqb t token same in absurd (cc))
    | inr later ↦ none_behind token ts (sym (cond-false (t == token) (Some ts) (behind_token token ts) q) ∙ e) later
  ]
]

-- ---- names as texts

first_joined : (v : List ℕ) (b : List (List ℕ)) → joined (v ∷ b) ≡ v ++ dotted_text b
first_joined v [] = sym (append-nil v)
first_joined v (u ∷ b) = ap (λ z. v ++ 46 ∷ z) (first_joined u b)

pub joined_dotted : (a b : List (List ℕ)) → a ≢ [] → joined (a ++ b) ≡ joined a ++ dotted_text b
joined_dotted [] b some = absurd (some refl)
joined_dotted (w ∷ []) b some = first_joined w b
joined_dotted (w ∷ v ∷ a) b some = ap (λ z. w ++ 46 ∷ z) (joined_dotted (v ∷ a) b (λ e. cc)) ∙ sym (append_assoc w (46 ∷ joined (v ∷ a)) (dotted_text b))

plain_front : (a b : List (List ℕ)) → ArePlain (a ++ b) → ArePlain a
plain_front [] b h = tt
plain_front (w ∷ a) b h = (h.0, plain_front a b h.1)

-- ---- a word that stands for the target, by the words before it

stands_here : (e : Renaming) (text : At → List ℕ) (xs : List At) (front : List (List ℕ)) (i : At) (ys : List At) → same_name ((front ++ map text xs) ++ text i ∷ []) (target e) ≡ true → Contains (stands e text front (xs ++ i ∷ ys)) i
stands_here e text [] front i ys h =
    let same : same_name (front ++ text i ∷ []) (target e) ≡ true = ap (λ z. same_name (z ++ text i ∷ []) (target e)) (sym (append-nil front)) ∙ h in
    Contains-append_left (if same_name (front ++ text i ∷ []) (target e) then i ∷ [] else []) (stands e text (front ++ text i ∷ []) ys) i
    (subst (λ (b : Bool). Contains (if b then i ∷ [] else []) i) (sym same) (contains_head i []))
stands_here e text (j ∷ xs) front i ys h =
    Contains-append_right (if same_name (front ++ text j ∷ []) (target e) then j ∷ [] else []) (stands e text (front ++ text j ∷ []) (xs ++ i ∷ ys)) i
    (stands_here e text xs (front ++ text j ∷ []) i ys (ap (λ z. same_name (z ++ text i ∷ []) (target e)) (append_assoc front (text j ∷ []) (map text xs)) ∙ h))

module _ (files : List FileOf) (reads : List ReadOf) (are : AreRead files reads) (clean : HasNoFault (LinkFaults files)) (l : LinkOf) (link : IsLinkRead files reads l) (file : ℕ) (within : file < length files) where
  abbrev text : At → List ℕ
  text = text_of files reads

  abbrev k : Skeleton At
  k = link_skeleton files reads

  abbrev w : Workspace
  w = names_of_files files reads

  used_there : (u : Used ℕ) → Contains (uses_of reads file) u → Contains k.used (used_in file u)
  used_there u c =
      let same = are.same in
      let none : 0 + file ≡ file = omega arith in
      subst (λ (n : ℕ). Contains k.used (used_in n u)) none (use_there 0 reads file u (omega (arith, same, within)) c)

  -- what a reference of the file means
  means : (u : Used ℕ) → Contains (uses_of reads file) u → (m : List (List ℕ)) × (meaning w (used_named text file u) ≡ Some m) × ArePlain m
  means u c =
      let r = used_named text file u in
      let cr = contains_map (reference_of text entry_name) k.used (used_in file u) (used_there u c) in
      let m = has_meaning (meaning w r) ((files_are_linked files reads are clean).resolved r cr) in
      let s = meant w r m.0 m.1 in
      (m.0, m.1, subst ArePlain s.2 (names_are_plain files reads are s.0 s.1))

  target_name : (name : List ℕ) (t : Target) → IsNamed files reads name t → (name ≡ joined (target (name_map files reads t []))) × ArePlain (target (name_map files reads t []))
  target_name name t named =
      let is : name_of text entry_name t.aim.path ≡ target (name_map files reads t []) = ap (name_of text entry_name) named.path ∙ map_append (spell text entry_name) t.above (Token t.token ∷ []) in (
        sym named.name_is ∙ ap joined is,
        subst ArePlain is (names_are_plain files reads are (symbol_of text entry_name t.aim) (contains_map (symbol_of text entry_name) k.declared t.aim named.within)),
      )

  -- ---- one reference, with a word between others

  module _ (u : Used ℕ) (cu : Contains (uses_of reads file) u) (m : List (List ℕ)) (is : meaning w (used_named text file u) ≡ Some m) (plain : ArePlain m) (before : List ℕ) (token : ℕ) (behind : List ℕ) (split : u.tokens ≡ before ++ token ∷ behind) where
    abbrev front : List (List ℕ)
    front = front_of text k (used_in file u)

    -- the front of what is meant, up to the word
    abbrev upto : List (List ℕ)
    upto = (front ++ map text (map (at file) before)) ++ text (at file token) ∷ []

    tokens : map (at file) u.tokens ≡ map (at file) before ++ at file token ∷ map (at file) behind
    tokens = ap (map (at file)) split ∙ map_append (at file) before (token ∷ behind)

    whole : m ≡ upto ++ map text (map (at file) behind)
    whole =
        meaning_parts w (used_named text file u) m is
        ∙ ap (λ (z : List At). front ++ map text z) tokens
        ∙ ap (λ z. front ++ z) (map_append text (map (at file) before) (at file token ∷ map (at file) behind))
        ∙ sym (append_assoc front (map text (map (at file) before)) (text (at file token) ∷ map text (map (at file) behind)))
        ∙ sym (append_assoc (front ++ map text (map (at file) before)) (text (at file token) ∷ []) (map text (map (at file) behind)))

    upto_some : upto ≢ []
    upto_some e = no_end (front ++ map text (map (at file) before)) (text (at file token)) e
      where
        no_end : (xs : List (List ℕ)) (x : List ℕ) → xs ++ x ∷ [] ≡ [] → ⊥
        no_end [] x e = cc
        no_end (y ∷ xs) x e = cc

    upto_plain : ArePlain upto
    upto_plain = plain_front upto (map text (map (at file) behind)) (subst ArePlain whole plain)

    meant_text : joined m ≡ joined upto ++ dotted_text (map (λ t. text (at file t)) behind)
    meant_text = ap joined whole ∙ joined_dotted upto (map text (map (at file) behind)) upto_some ∙ ap (λ z. joined upto ++ dotted_text z) (twice behind)
      where
        twice : (ts : List ℕ) → map text (map (at file) ts) ≡ map (λ t. text (at file t)) ts
        twice [] = refl
        twice (t ∷ ts) = ap (λ z. text (at file t) ∷ z) (twice ts)

    refers_forth : HasTarget files reads (joined upto) → RefersToName files reads (at file token) (joined upto)
    refers_forth h =
        let n = target_name (joined upto) h.0 h.1 in
        let same = joined_apart upto (target (name_map files reads h.0 [])) upto_plain n.1 n.0 in
        let there = stands_here (name_map files reads h.0 []) text (map (at file) before) front (at file token) (map (at file) behind) (same_from_name upto (target (name_map files reads h.0 [])) same) in
        (h.0, h.1, to_flat_map (standing text k (name_map files reads h.0 [])) k.used (used_in file u) (at file token) (used_there u cu) (subst (λ z. Contains (stands (name_map files reads h.0 []) text front z) (at file token)) (sym tokens) there))

    refers_back : (name : List ℕ) → RefersToName files reads (at file token) name → name ≡ joined upto
    refers_back name r =
        let e = name_map files reads r.0 [] in
        let f = from_flat_map (standing text k e) k.used (at file token) r.2 in
        let st = stands_at e text (front_of text k f.0) f.0.tokens (at file token) f.2 in
        let once = (tokens_have_roles files reads name [] r.0 are clean r.1).tokens.apart.once f.0 (used_in file u) f.1 (used_there u cu) st.before st.behind (map (at file) before) (map (at file) behind) (at file token) st.parts tokens in
        let target_is = name_from_same ((front_of text k f.0 ++ map text st.before) ++ text (at file token) ∷ []) (target e) st.same in
        let upto_is : (front_of text k f.0 ++ map text st.before) ++ text (at file token) ∷ [] ≡ upto =
        ap (λ (z : Used At). (front_of text k z ++ map text st.before) ++ text (at file token) ∷ []) once.0
        ∙ ap (λ (z : List At). (front ++ map text z) ++ text (at file token) ∷ []) once.1 in
        (target_name name r.0 r.1).0 ∙ ap joined (sym target_is ∙ upto_is)

    -- the name that was found in front is the one that may stand here
    refers : (found : Option (List ℕ)) → ((front : List ℕ) → (found ≡ Some front) ↔ (joined m ≡ front ++ dotted_text (map (λ t. text (at file t)) behind))) → (name : List ℕ) → ((found ≡ Some name) × HasTarget files reads name) ↔ RefersToName files reads (at file token) name
    refers found has name = (
      λ h.
          let same : name ≡ joined upto = append_cancel_right name (joined upto) (dotted_text (map (λ t. text (at file t)) behind)) (sym ((has name).0 h.0) ∙ meant_text) in
          subst (RefersToName files reads (at file token)) (sym same) (refers_forth (subst (HasTarget files reads) same h.1)),
      λ r.
          let same = refers_back name r in
          ((has name).1 (meant_text ∙ ap (λ z. z ++ dotted_text (map (λ t. text (at file t)) behind)) (sym same)), (r.0, r.1)),
    )

  -- ---- all references of the file

  module _ (ds : List Placed) (token : ℕ) where
    -- the use that was found
    record Found (us : List Use) (x : WordOf) : Type 0 where
      u : Use
      there : Contains us u
      says : meant_by_link l x.meant ≡ meant_by_use files reads file (used_by ds u)
      behind : behind_token token (dotted u.reference.now.words) ≡ Some x.behind

    abbrev here : Use → Meant → Option WordOf
    here u m = option_map (word_with m) (behind_token token (dotted u.reference.now.words))

    head_same : (u : Use) (us : List Use) (m : Meant) (ms : List Meant) → map (meant_by_link l) (m ∷ ms) ≡ map (meant_by_use files reads file) (map (used_by ds) (u ∷ us)) → meant_by_link l m ≡ meant_by_use files reads file (used_by ds u)
    head_same u us m ms h = cc

    rest_same : (u : Use) (us : List Use) (m : Meant) (ms : List Meant) → map (meant_by_link l) (m ∷ ms) ≡ map (meant_by_use files reads file) (map (used_by ds) (u ∷ us)) → map (meant_by_link l) ms ≡ map (meant_by_use files reads file) (map (used_by ds) us)
    rest_same u us m ms h = cc

    found_use : (us : List Use) (ms : List Meant) → map (meant_by_link l) ms ≡ map (meant_by_use files reads file) (map (used_by ds) us) → (x : WordOf) → word_meant token us ms ≡ Some x → Found us x
    found_use [] ms h x e = absurd (none-some x e)
    found_use (u ∷ us) [] h x e = absurd (none-some x e)
    found_use (u ∷ us) (m ∷ ms) h x e = by (found_use us ms (rest_same u us m ms h) x) (behind_token token (dotted u.reference.now.words)) refl e
      where
        by : (word_meant token us ms ≡ Some x → Found us x) → (o : Option (List ℕ)) → behind_token token (dotted u.reference.now.words) ≡ o → option_or (option_map (word_with m) o) (word_meant token us ms) ≡ Some x → Found (u ∷ us) x
        by on (Some ts) q f =
            let same : word_with m ts ≡ x = same_Some (word_with m ts) x f in
            subst (Found (u ∷ us)) same (record { u = u; there = contains_head u us; says = head_same u us m ms h; behind = q })
        by on None q f =
            let r = on f in
            record { u = r.u; there = contains_later u r.u us r.there; says = r.says; behind = r.behind }

    no_use : (us : List Use) (ms : List Meant) → map (meant_by_link l) ms ≡ map (meant_by_use files reads file) (map (used_by ds) us) → word_meant token us ms ≡ None → (v : Used ℕ) → Contains (map (used_by ds) us) v → Contains v.tokens token → ⊥
    no_use [] ms h e v cv ct = omega (arith, cv.1)
    no_use (u ∷ us) [] h e v cv ct = let n = ap length h in omega (arith, n)
    no_use (u ∷ us) (m ∷ ms) h e v cv ct = by (λ f later. no_use us ms (rest_same u us m ms h) f v later ct) (behind_token token (dotted u.reference.now.words)) refl e
      where
        by : (word_meant token us ms ≡ None → Contains (map (used_by ds) us) v → ⊥) → (o : Option (List ℕ)) → behind_token token (dotted u.reference.now.words) ≡ o → option_or (option_map (word_with m) o) (word_meant token us ms) ≡ None → ⊥
        by on (Some ts) q f = none-some (word_with m ts) (sym f)
        by on None q f = elim (contains_cases (used_by ds u) v (map (used_by ds) us) cv) [
          | inl same ↦ none_behind token (dotted u.reference.now.words) q (subst (λ (z : Used ℕ). Contains z.tokens token) (sym same) ct)
          | inr later ↦ on f later
        ]

    module _ (us : List Use) (uses : map (used_by ds) us ≡ uses_of reads file) where
      all_meant : map (meant_by_link l) (get_or l.meant file []) ≡ map (meant_by_use files reads file) (map (used_by ds) us)
      all_meant = (link.means file within).texts ∙ ap (map (meant_by_use files reads file)) (sym uses)

      word_refers : (x : WordOf) → word_meant token us (get_or l.meant file []) ≡ Some x → (found : Option (List ℕ)) → ((text : List ℕ) → name_text l x.meant.row ≡ Some text → (front : List ℕ) → (found ≡ Some front) ↔ (text ≡ front ++ dotted_text (map (λ t. text_of files reads (at file t)) x.behind)))
          → (name : List ℕ) → ((found ≡ Some name) × HasTarget files reads name) ↔ RefersToName files reads (at file token) name
      word_refers x e found has =
          let f = found_use us (get_or l.meant file []) all_meant x e in
          let cv : Contains (uses_of reads file) (used_by ds f.u) = subst (λ z. Contains z (used_by ds f.u)) uses (contains_map (used_by ds) us f.u f.there) in
          let m = means (used_by ds f.u) cv in
          let said : name_text l x.meant.row ≡ Some (joined m.0) = ap (λ (z : TextMeant). z.text) f.says ∙ ap (option_map joined) m.1 in
          let s = behind_split token (dotted f.u.reference.now.words) x.behind f.behind in
          refers (used_by ds f.u) cv m.0 m.1 m.2 s.0 token x.behind s.1 found (has (joined m.0) said)

      no_word_refers : word_meant token us (get_or l.meant file []) ≡ None → (name : List ℕ) → RefersToName files reads (at file token) name → ⊥
      no_word_refers e name r =
          let f = from_flat_map (standing text k (name_map files reads r.0 [])) k.used (at file token) r.2 in
          let st = stands_at (name_map files reads r.0 []) text (front_of text k f.0) f.0.tokens (at file token) f.2 in
          let o = word_of_file files reads (at file token) (f.0, f.1, subst (λ z. Contains z (at file token)) (sym st.parts) (Contains-append_right st.before (at file token ∷ st.behind) (at file token) (contains_head (at file token) st.behind))) in
          no_use us (get_or l.meant file []) all_meant e o.v (subst (λ z. Contains z o.v) (sym uses) o.within) o.word

-- the references of a listing are those of the file as it is read
pub uses_are : (files : List FileOf) (reads : List ReadOf) → AreRead files reads → (file : ℕ) → file < length files → (tree : Tree) → ReadsIn (file_at files file).profile (file_at files file).bytes (read_at reads file).tokens tree → (file_names tree).used ≡ uses_of reads file
uses_are files reads are file within tree r =
    let own : ReadOf = record { tokens = (read_at reads file).tokens; tree = tree } in
    ap (λ (z : ReadOf). (names_in z).used) (one_reading (file_at files file).profile (file_at files file).bytes own (read_at reads file) r (are.trees file within))

-- ---- for the answers

pub word_named : (files : List FileOf) (reads : List ReadOf) → AreRead files reads → HasNoFault (LinkFaults files) → (l : LinkOf) → IsLinkRead files reads l → (file : ℕ) → file < length files → (ds : List Placed) (token : ℕ) (us : List Use) → map (used_by ds) us ≡ uses_of reads file
    → (x : WordOf) → word_meant token us (get_or l.meant file []) ≡ Some x → (found : Option (List ℕ)) → ((text : List ℕ) → name_text l x.meant.row ≡ Some text → (front : List ℕ) → (found ≡ Some front) ↔ (text ≡ front ++ dotted_text (map (λ t. text_of files reads (at file t)) x.behind)))
    → (name : List ℕ) → ((found ≡ Some name) × HasTarget files reads name) ↔ RefersToName files reads (at file token) name
word_named files reads are clean l link file within ds token us uses x e found has name = word_refers files reads are clean l link file within ds token us uses x e found has name

pub no_word : (files : List FileOf) (reads : List ReadOf) → AreRead files reads → HasNoFault (LinkFaults files) → (l : LinkOf) → IsLinkRead files reads l → (file : ℕ) → file < length files → (ds : List Placed) (token : ℕ) (us : List Use) → map (used_by ds) us ≡ uses_of reads file
    → word_meant token us (get_or l.meant file []) ≡ None → (name : List ℕ) → (◌≡◌ {A = Option (List ℕ)} None (Some name) × HasTarget files reads name) ↔ RefersToName files reads (at file token) name
no_word files reads are clean l link file within ds token us uses e name = (λ h. absurd (none-some name h.0), λ r. absurd (no_word_refers files reads are clean l link file within ds token us uses e name r))

pub as_many : (files : List FileOf) (reads : List ReadOf) (l : LinkOf) → IsLinkRead files reads l → (file : ℕ) → file < length files → (ds : List Placed) (us : List Use) → map (used_by ds) us ≡ uses_of reads file → length (get_or l.meant file []) ≡ length us
as_many files reads l link file within ds us uses =
    sym (length-map (get_or l.meant file []) (meant_by_link l)) ∙ ap length (link.means file within).texts ∙ length-map (uses_of reads file) (meant_by_use files reads file) ∙ sym (ap length uses) ∙ length-map us (used_by ds)

-- what was found, where something that may be renamed has it, or nothing has
pub one_referred : (files : List FileOf) (reads : List ReadOf) (a : At) (found : Option (List ℕ)) → ((name : List ℕ) → ((found ≡ Some name) × HasTarget files reads name) ↔ RefersToName files reads a name) → (m : List ℕ) → found ≡ Some m → HasTarget files reads m → (name : List ℕ) → (found ≡ Some name) ↔ RefersToName files reads a name
one_referred files reads a found is m here has name = (
  λ e. (is name).0 (e, subst (HasTarget files reads) (same_Some m name (sym here ∙ e)) has),
  λ r. ((is name).1 r).0,
)

pub not_referred : (files : List FileOf) (reads : List ReadOf) (a : At) (found : Option (List ℕ)) → ((name : List ℕ) → ((found ≡ Some name) × HasTarget files reads name) ↔ RefersToName files reads a name) → (m : List ℕ) → found ≡ Some m → (HasTarget files reads m → ⊥) → (name : List ℕ) → ◌≡◌ {A = Option (List ℕ)} None (Some name) ↔ RefersToName files reads a name
not_referred files reads a found is m here none name = (
  λ e. absurd (none-some name e),
  λ r. (let h = (is name).1 r in absurd (none (subst (HasTarget files reads) (sym (same_Some m name (sym here ∙ h.0))) h.1))),
)

pub none_referred : (files : List FileOf) (reads : List ReadOf) (a : At) (found : Option (List ℕ)) → ((name : List ℕ) → ((found ≡ Some name) × HasTarget files reads name) ↔ RefersToName files reads a name) → found ≡ None → (name : List ℕ) → ◌≡◌ {A = Option (List ℕ)} None (Some name) ↔ RefersToName files reads a name
none_referred files reads a found is here name = (λ e. absurd (none-some name e), λ r. absurd (none-some name (sym here ∙ ((is name).1 r).0)))
