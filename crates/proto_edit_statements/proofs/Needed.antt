-- The first reference that needs an import is the first that means a name of a file that is not marked.
use Rattle.std.proofs.Common.{◌≡◌, ℕ, zero, suc, ◌+◌, ◌<◌, Bool, true, false, not, List, [], ◌∷◌, ◌++◌, length, get_or, map, take, Option, Some, None, option_map, refl, sym, ap, subst, ◌∙◌, inl, inr, arith, find, slice_index_or, AllPairs, Contains, option_and_then}
use Rattle.proto_base.proofs.Common.{both_ways, false_from_ne_true, cases_Bool, cond-false, cond-true, get_or_default, none-some, same_Some, contains_cases, contains_head, contains_later, contains_map, from_map}
use Rattle.proto_case.specs.Camel.{entry_name}
use Rattle.proto_files.proofs.Common.{HasNoFault, ReadOf, AreRead, FileOf}
use Rattle.proto_names_imports.specs.Links.{LinkFaults, link_skeleton, names_of_files, text_of, uses_of, used_named}
use Rattle.proto_names_rules.proofs.Common.{IsNeeded, At, at, used_in, ArePlain, joined, IsLinked, is_package, MarksSeen, Reference, Symbol, Workspace, hit, may_resolve_to, meaning, meaning_at, sees, shows, visible_as, Used, reference_of, joined_apart, visible_is, package_from, one_symbol, shown, wanted_no_package}
use Rattle.proto_names.proofs.Common.{HoldsNames, IsLinkOf, TextMeant, meant_by_link, meant_by_use, LinkOf, NameOf, declaring_file, name_at, own_file, name_text, from_use, use_there}
use Rattle.proto_names.specs.Linking.{Meant}
use Rattle.proto_edit_captures.proofs.Common.{StandsBefore, files_are_linked}
use Rattle.proto_edit_rules.specs.DropImport.{IsNeededIn, with_dropped}
use Rattle.proto_edit_statements.specs.Steps.{AreSeenIn, IsFirstNeeded, first_hidden, hidden_in, is_hidden}

-- ---- what a reference means is what it wants

wanted_shown : (w : Workspace) (r : Reference) (m : List (List ℕ)) (o : Option ℕ) → meaning_at w r o ≡ Some m → shows w r.file (may_resolve_to r.wants) m ≡ true
wanted_shown w r m None h = elim (cases_Bool r.is_absolute) [
  | inl t ↦ (let x = visible_is w r.file (may_resolve_to r.wants) r.words m (sym (cond-true r.is_absolute (visible_as w r.file (may_resolve_to r.wants) r.words) None t) ∙ h) in subst (λ z. shows w r.file (may_resolve_to r.wants) z ≡ true) x.1 x.0)
  | inr f ↦ absurd (none-some m (sym (cond-false r.is_absolute (visible_as w r.file (may_resolve_to r.wants) r.words) None f) ∙ h))
]
wanted_shown w r m (Some k) h = let x = visible_is w r.file (may_resolve_to r.wants) (take k r.scope ++ r.words) m h in subst (λ z. shows w r.file (may_resolve_to r.wants) z ≡ true) x.1 x.0

marked_is : (marks : List Bool) (g : ℕ) → slice_index_or marks g false ≡ get_or marks g false
marked_is [] g = refl
marked_is (m ∷ marks) zero = refl
marked_is (m ∷ marks) (suc g) = marked_is marks g

not_so : (b : Bool) → not b ≡ true → b ≡ false
not_so true h = absurd (both_ways false refl h)
not_so false h = refl

hidden_file : (marks : List Bool) (o : Option ℕ) → hidden_in marks o ≡ true → (g : ℕ) × (o ≡ Some g) × (slice_index_or marks g false ≡ false)
hidden_file marks None h = absurd (both_ways false refl h)
hidden_file marks (Some g) h = (g, refl, not_so (slice_index_or marks g false) h)

own_is : (n : NameOf) (g : ℕ) → own_file n ≡ Some g → (is_package n.kind ≡ false) × (get_or n.files 0 0 ≡ g)
own_is n g h = elim (cases_Bool (is_package n.kind)) [
  | inl p ↦ absurd (none-some g (sym (cond-true (is_package n.kind) None (Some (get_or n.files 0 0)) p) ∙ h))
  | inr f ↦ (f, same_Some (get_or n.files 0 0) g (sym (cond-false (is_package n.kind) None (Some (get_or n.files 0 0)) f) ∙ h))
]

file_is : (l : LinkOf) (row g : ℕ) → declaring_file l row ≡ Some g → (n : NameOf) × (name_at l row ≡ Some n) × (is_package n.kind ≡ false) × (get_or n.files 0 0 ≡ g)
file_is l row g h = by (name_at l row) refl
  where
    by : (o : Option NameOf) → name_at l row ≡ o → (n : NameOf) × (name_at l row ≡ Some n) × (is_package n.kind ≡ false) × (get_or n.files 0 0 ≡ g)
    by None e = absurd (none-some g (sym (ap (option_and_then own_file) e) ∙ h))
    by (Some n) e = let x = own_is n g (sym (ap (option_and_then own_file) e) ∙ h) in (n, e, x.0, x.1)

pub named_at : (l : LinkOf) (row : ℕ) (text : List ℕ) → name_text l row ≡ Some text → (n : NameOf) × (name_at l row ≡ Some n) × (n.text ≡ text)
named_at l row text h = by (name_at l row) refl
  where
    by : (o : Option NameOf) → name_at l row ≡ o → (n : NameOf) × (name_at l row ≡ Some n) × (n.text ≡ text)
    by None e = absurd (none-some text (sym (ap (option_map (λ (n : NameOf). n.text)) e) ∙ h))
    by (Some n) e = (n, e, same_Some n.text text (sym (ap (option_map (λ (z : NameOf). z.text)) e) ∙ h))

-- ---- one reference

module _ (files : List FileOf) (reads : List ReadOf) (are : AreRead files reads) (clean : HasNoFault (LinkFaults files)) (l : LinkOf) (link : IsLinkOf files l) (v : Workspace) where
  abbrev w : Workspace
  w = names_of_files files reads

  abbrev T : At → List ℕ
  T = text_of files reads

  linked : IsLinked w
  linked = files_are_linked files reads are clean

  names : HoldsNames w l
  names = (link reads are).by.names

  module _ (file : ℕ) (within : file < length files) (marks : List Bool) (seen : MarksSeen v file marks) where
    abbrev P : Used ℕ → Type 0
    P u = IsNeeded w v (used_named T file u)

    abbrev test : Meant → Bool
    test m = is_hidden l marks m.row

    abbrev IsDecided : Used ℕ → Type 0
    IsDecided u = (y : Meant) → meant_by_link l y ≡ meant_by_use files reads file u → (test y ≡ true → P u) × (P u → test y ≡ true)

    has_meaning : (u : Used ℕ) → Contains (uses_of reads file) u → (m : List (List ℕ)) × (meaning w (used_named T file u) ≡ Some m)
    has_meaning u c = by (meaning w (used_named T file u)) refl
      where
        there : Contains (link_skeleton files reads).used (used_in file u)
        there =
            let e : 0 + file ≡ file = omega arith in
            let s = are.same in
            subst (λ m. Contains (link_skeleton files reads).used (used_in m u)) e (use_there 0 reads file u (omega (arith, within, s)) c)

        by : (o : Option (List (List ℕ))) → meaning w (used_named T file u) ≡ o → (m : List (List ℕ)) × (meaning w (used_named T file u) ≡ Some m)
        by None h = absurd (linked.resolved (used_named T file u) (contains_map (reference_of T entry_name) (link_skeleton files reads).used (used_in file u) there) h)
        by (Some m) h = (m, h)

    forth : (u : Used ℕ) (m : List (List ℕ)) → meaning w (used_named T file u) ≡ Some m → (row : ℕ) → name_text l row ≡ Some (joined m) → is_hidden l marks row ≡ true → P u
    forth u m means row text h =
        let q = used_named T file u in
        let f = hidden_file marks (declaring_file l row) h in
        let n = file_is l row f.0 f.1 in
        let named : n.0.text ≡ joined m = same_Some n.0.text (joined m) (sym (ap (option_map (λ (z : NameOf). z.text)) n.1) ∙ text) in
        let own = names.declared row n.0 n.1 in
        let s = names.only row (get_or n.0.files 0 0) n.0 n.1 (0, own, get_or_default n.0.files 0 (get_or n.0.files 0 0) 0 own) in
        let t = shown w q.file (may_resolve_to q.wants) m (wanted_shown w q m (hit w q) means) in
        let plain : ArePlain m = subst ArePlain t.2 (names.plain t.0 t.1) in
        let same : s.0.name ≡ m = joined_apart s.0.name m (names.plain s.0 s.1) plain (s.2 ∙ named) in
        (s.0, s.1, means ∙ ap Some (sym same), ap (λ g. sees v file g) (s.4 ∙ n.3) ∙ sym (seen f.0) ∙ sym (marked_is marks f.0) ∙ f.2)

    back : (u : Used ℕ) (row : ℕ) → (p : P u) → name_text l row ≡ Some (joined p.0.name) → is_hidden l marks row ≡ true
    back u row p text =
        let q = used_named T file u in
        let n = named_at l row (joined p.0.name) text in
        let t = shown w q.file (may_resolve_to q.wants) p.0.name (wanted_shown w q p.0.name (hit w q) p.2) in
        let o = names.there t.0 t.1 in
        let one : row ≡ o.0 = names.once row o.0 n.0 o.1 n.1 o.2 (n.2 ∙ sym (o.3 ∙ ap joined t.2)) in
        let both : n.0 ≡ o.1 = same_Some n.0 o.1 (sym n.1 ∙ ap (name_at l) one ∙ o.2) in
        let wanted : may_resolve_to q.wants n.0.kind ≡ true = ap (λ (z : NameOf). may_resolve_to q.wants z.kind) both ∙ ap (may_resolve_to q.wants) o.4 ∙ t.3 in
        let free : is_package n.0.kind ≡ false = false_from_ne_true (is_package n.0.kind) (λ h. wanted_no_package q.wants n.0.kind wanted (package_from n.0.kind h)) in
        let own = names.declared row n.0 n.1 in
        let s = names.only row (get_or n.0.files 0 0) n.0 n.1 (0, own, get_or_default n.0.files 0 (get_or n.0.files 0 0) 0 own) in
        let name : s.0.name ≡ p.0.name = joined_apart s.0.name p.0.name (names.plain s.0 s.1) (names.plain p.0 p.1) (s.2 ∙ n.2) in
        let file_of : s.0.file ≡ p.0.file = elim (one_symbol w.symbols linked.unique s.0 p.0 s.1 p.1 name) [
          | inl same ↦ ap (λ (z : Symbol). z.file) same
          | inr two ↦ absurd (both_ways (is_package n.0.kind) free (ap is_package (sym s.3 ∙ two.0)))
        ] in
        let place : get_or n.0.files 0 0 ≡ p.0.file = sym s.4 ∙ file_of in
        ap (hidden_in marks) (ap (option_and_then own_file) n.1 ∙ cond-false (is_package n.0.kind) None (Some (get_or n.0.files 0 0)) free ∙ ap Some place)
        ∙ ap not (marked_is marks p.0.file ∙ seen p.0.file ∙ p.3)

    decided : (u : Used ℕ) → Contains (uses_of reads file) u → IsDecided u
    decided u c y same =
        let m = has_meaning u c in
        let text : name_text l y.row ≡ Some (joined m.0) = ap (λ (z : TextMeant). z.text) same ∙ ap (option_map joined) m.1 in (
          λ h. forth u m.0 m.1 y.row text h,
          λ p. back u y.row p (text ∙ ap (λ z. Some (joined z)) (same_Some m.0 p.0.name (sym m.1 ∙ p.2))),
        )

    -- ---- the references of a file

    abbrev first_in : List Meant → Option ℕ
    first_in ms = option_map (λ (m : Meant). m.token) (find test ms)

    none_passes : (us : List (Used ℕ)) (ms : List Meant) → map (meant_by_link l) ms ≡ map (meant_by_use files reads file) us → ((u : Used ℕ) → Contains us u → IsDecided u) → first_in ms ≡ None
        → (x : Used ℕ) → Contains us x → P x → ⊥
    none_passes [] ms same each h x c p = absurd (omega (arith, c.1))
    none_passes (u ∷ us) [] same each h x c p = absurd cc
    none_passes (u ∷ us) (m ∷ ms) same each h x c p =
        let head : meant_by_link l m ≡ meant_by_use files reads file u = cc in
        let tail : map (meant_by_link l) ms ≡ map (meant_by_use files reads file) us = cc in
        let d = each u (contains_head u us) m head in
        elim (cases_Bool (test m)) [
          | inl t ↦ absurd (none-some m.token (sym h ∙ ap (option_map (λ (z : Meant). z.token)) (cond-true (test m) (Some m) (find test ms) t)))
          | inr f ↦ elim (contains_cases u x us c) [
            | inl e ↦ both_ways (test m) f (d.1 (subst P (sym e) p))
            | inr k ↦ none_passes us ms tail (λ y cy. each y (contains_later u y us cy)) (sym (ap (option_map (λ (z : Meant). z.token)) (cond-false (test m) (Some m) (find test ms) f)) ∙ h) x k p
          ]
        ]

    -- each token behind is greater
    later : (m : Meant) (ms : List Meant) → AllPairs (λ a b. a.token < b.token) (m ∷ ms) → (us : List (Used ℕ)) → map (meant_by_link l) ms ≡ map (meant_by_use files reads file) us → (x : Used ℕ) → Contains us x → m.token < x.first
    later m ms rise us same x cx =
        let there = subst (λ (z : List TextMeant). Contains z (meant_by_use files reads file x)) (sym same) (contains_map (meant_by_use files reads file) us x cx) in
        let y = from_map (meant_by_link l) ms (meant_by_use files reads file x) there in
        let c = y.1 in
        let above = rise 0 (suc c.0) y.0 (omega arith) (let lt = c.1 in omega (arith, lt)) in
        let e1 = ap (λ (z : Meant). z.token) c.2 in
        let e2 : y.0.token ≡ x.first = ap (λ (z : TextMeant). z.token) y.2 in
        omega (arith, above, e1, e2)

    one_passes : (us : List (Used ℕ)) (ms : List Meant) (t : ℕ) → map (meant_by_link l) ms ≡ map (meant_by_use files reads file) us → AllPairs (λ a b. a.token < b.token) ms
        → ((u : Used ℕ) → Contains us u → IsDecided u) → first_in ms ≡ Some t
        → (u : Used ℕ) × Contains us u × P u × (u.first ≡ t) × ((x : Used ℕ) → Contains us x → x.first < t → P x → ⊥)
    one_passes [] ms t same rise each h = absurd (by ms same h)
      where
        by : (zs : List Meant) → map (meant_by_link l) zs ≡ [] → first_in zs ≡ Some t → ⊥
        by [] e k = none-some t k
        by (z ∷ zs) e k = cc
    one_passes (u ∷ us) [] t same rise each h = absurd (none-some t h)
    one_passes (u ∷ us) (m ∷ ms) t same rise each h =
        let head : meant_by_link l m ≡ meant_by_use files reads file u = cc in
        let tail : map (meant_by_link l) ms ≡ map (meant_by_use files reads file) us = cc in
        let d = each u (contains_head u us) m head in
        let here : m.token ≡ u.first = ap (λ (z : TextMeant). z.token) head in
        elim (cases_Bool (test m)) [
          | inl hit_here ↦
              let token : m.token ≡ t = same_Some m.token t (sym (ap (option_map (λ (z : Meant). z.token)) (cond-true (test m) (Some m) (find test ms) hit_here)) ∙ h) in (
                u,
                contains_head u us,
                d.0 hit_here,
                sym here ∙ token,
                λ x cx below p. elim (contains_cases u x us cx) [
                  | inl e ↦ (let z = ap (λ (y : Used ℕ). y.first) e in absurd (omega (arith, below, z, here, token)))
                  | inr c ↦ (let z = later m ms rise us tail x c in absurd (omega (arith, below, z, token)))
                ],
              )
          | inr miss ↦
              let r = one_passes us ms t tail (λ i j x a b. rise (suc i) (suc j) x (omega (arith, a)) (omega (arith, b))) (λ y cy. each y (contains_later u y us cy)) (sym (ap (option_map (λ (z : Meant). z.token)) (cond-false (test m) (Some m) (find test ms) miss)) ∙ h) in (
                r.0,
                contains_later u r.0 us r.1,
                r.2,
                r.3,
                λ x cx below p. elim (contains_cases u x us cx) [
                  | inl e ↦ both_ways (test m) miss (d.1 (subst P (sym e) p))
                  | inr c ↦ r.4 x c below p
                ],
              )
        ]

    none_here : first_hidden l file marks ≡ None → (u : Used ℕ) → Contains (uses_of reads file) u → P u → ⊥
    none_here h = let m = (link reads are).means file within in none_passes (uses_of reads file) (get_or l.meant file []) m.texts decided h

    one_here : (t : ℕ) → first_hidden l file marks ≡ Some t → (u : Used ℕ) × Contains (uses_of reads file) u × P u × (u.first ≡ t) × ((x : Used ℕ) → Contains (uses_of reads file) x → x.first < t → P x → ⊥)
    one_here t h = let m = (link reads are).means file within in one_passes (uses_of reads file) (get_or l.meant file []) t m.texts m.rising decided h

-- ---- all files

module _ (files : List FileOf) (reads : List ReadOf) (are : AreRead files reads) (clean : HasNoFault (LinkFaults files)) (l : LinkOf) (link : IsLinkOf files l) (k : ℕ) (path : List ℕ)
    (seen : List (List Bool)) (sees_are : AreSeenIn files (with_dropped files reads k path) seen) where
  abbrev marks_of : ℕ → List Bool
  marks_of file = get_or seen file []

  -- a use that needs the import, by its file
  needed_in : (u : Used At) → IsNeededIn files reads k path u → (f : ℕ) × (x : Used ℕ) × (f < length files) × Contains (uses_of reads f) x × (used_in f x ≡ u)
  needed_in u c =
      let o = from_use 0 reads u c.used in
      let b = o.2 in
      let s = are.same in
      let e : 0 + o.0 ≡ o.0 = omega arith in
      (o.0, o.1, omega (arith, b, s), o.3, subst (λ m. used_in m o.1 ≡ u) e o.4)

  abbrev needs_it : ℕ → Used ℕ → Type 0
  needs_it f x = IsNeeded (names_of_files files reads) (with_dropped files reads k path) (used_named (text_of files reads) f x)

  needs : (u : Used At) → IsNeededIn files reads k path u → (f : ℕ) (x : Used ℕ) → used_in f x ≡ u → needs_it f x
  needs u c f x e = subst (λ z. IsNeeded (names_of_files files reads) (with_dropped files reads k path) (reference_of (text_of files reads) entry_name z)) (sym e) c.needed

  pub none_in_all : (n : ℕ) → length files ≡ n → ((f : ℕ) → f < n → first_hidden l f (marks_of f) ≡ None) → IsFirstNeeded files reads k path None
  none_in_all n count none u c =
      let o = needed_in u c in
      let inside = o.2 in
      none_here files reads are clean l link (with_dropped files reads k path) o.0 o.2 (marks_of o.0) (sees_are.1 o.0 o.2) (none o.0 (omega (arith, inside, count))) o.1 o.3 (needs u c o.0 o.1 o.4)

  pub first_of_all : (file token : ℕ) → file < length files → ((f : ℕ) → f < file → first_hidden l f (marks_of f) ≡ None) → first_hidden l file (marks_of file) ≡ Some token
      → IsFirstNeeded files reads k path (Some (record { file = file; token = token }))
  first_of_all file token within none one = (used_in file x.0, record { used = there; needed = x.2 }, ap (at file) x.3, least)
    where
      x : (u : Used ℕ) × Contains (uses_of reads file) u × needs_it file u × (u.first ≡ token) × ((z : Used ℕ) → Contains (uses_of reads file) z → z.first < token → needs_it file z → ⊥)
      x = one_here files reads are clean l link (with_dropped files reads k path) file within (marks_of file) (sees_are.1 file within) token one

      there : Contains (link_skeleton files reads).used (used_in file x.0)
      there =
          let e : 0 + file ≡ file = omega arith in
          let s = are.same in
          subst (λ m. Contains (link_skeleton files reads).used (used_in m x.0)) e (use_there 0 reads file x.0 (omega (arith, within, s)) x.1)

      least : (z : Used At) → IsNeededIn files reads k path z → StandsBefore z.first (at file x.0.first) → ⊥
      least z c before =
          let o = needed_in z c in
          let p = needs z c o.0 o.1 o.4 in
          let place : at o.0 o.1.first ≡ z.first = ap (λ (y : Used At). y.first) o.4 in
          let e1 = ap (λ (y : At). y.file) place in
          let e2 = ap (λ (y : At). y.token) place in
          elim before [
            | inl b ↦ none_here files reads are clean l link (with_dropped files reads k path) o.0 o.2 (marks_of o.0) (sees_are.1 o.0 o.2) (none o.0 (omega (arith, b, e1))) o.1 o.3 p
            | inr b ↦
                let same : o.0 ≡ file = e1 ∙ b.0 in
                let lower = b.1 in
                let e3 = x.3 in
                x.4 o.1 (subst (λ f. Contains (uses_of reads f) o.1) same o.3) (omega (arith, lower, e2, e3)) (subst (λ f. needs_it f o.1) same p)
          ]
