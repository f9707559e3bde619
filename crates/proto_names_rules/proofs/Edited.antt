-- The edited text spells the renamed workspace (for the crates above).
use Rattle.std.proofs.Common.{◌≡◌, ◌≢◌, ◌↔◌, ℕ, zero, suc, ◌<◌, Bool, true, false, cond, List, [], ◌∷◌, ◌++◌, length, get_or, Option, Some, None, refl, sym, ◌∙◌, ap, subst, inl, inr, ◌⊎◌, arith, map, if◌then◌else◌, length-append, Contains, bytes_eq}
use Rattle.proto_base.proofs.Common.{cases_Bool, cases_order, cond-true, cond-false, false_from_ne_true, get_or-map, length-map, get_or_default, same_from_word, word_from_same, contains_head, contains_later, contains_map}
use Rattle.proto_names_rules.specs.Common.{Package, Entry, Reference, Workspace, same_name, meaning, Renaming, turned, turned_by, moves, ren, renamed, renamed_symbol, renamed_reference, IsLinked, EntryFits, IsRenaming, IsFree, Source, Token, EntryOf, Given, Declared, Used, Skeleton, spell, name_of, symbol_of, reference_of, workspace_of, IsWoven, IsAim, IsAimEntry, renaming_of, IsRespelled, MeansDeclaration}
use Rattle.proto_names_rules.proofs.Basics.{name_from_same, same_from_name}
use Rattle.proto_names_rules.proofs.Ren.{turn_below-more, turn_below-nil}
use Rattle.proto_names_rules.proofs.Symbols.{moves_to, stays, ren_apart}
use Rattle.proto_names_rules.proofs.Renamed.{renamed_linked, each_means, has_meaning, meant}

pub map_agree : {X Y : Type 0} (f g : X → Y) (xs : List X) → ((x : X) → Contains xs x → f x ≡ g x) → map f xs ≡ map g xs
map_agree f g [] h = refl
map_agree f g (x ∷ xs) h = ap (λ y. y ∷ map f xs) (h x (contains_head x xs)) ∙ ap (λ l. g x ∷ l) (map_agree f g xs (λ y c. h y (contains_later x y xs c)))

pub map_map : {X Y Z : Type 0} (f : X → Y) (g : Y → Z) (xs : List X) → map g (map f xs) ≡ map (λ x. g (f x)) xs
map_map f g [] = refl
map_map f g (x ∷ xs) = ap (λ l. g (f x) ∷ l) (map_map f g xs)

pub map_append : {X Y : Type 0} (f : X → Y) (xs ys : List X) → map f (xs ++ ys) ≡ map f xs ++ map f ys
map_append f [] ys = refl
map_append f (x ∷ xs) ys = ap (λ l. f x ∷ l) (map_append f xs ys)

last_source : {X : Type 0} (a b : List (Source X)) (x y : Source X) → a ++ x ∷ [] ≡ b ++ y ∷ [] → x ≡ y
last_source [] [] x y h = cc
last_source {X} [] (c ∷ []) x y h = absurd (none_here h)
  where
    none_here : ◌≡◌ {A = List (Source X)} (x ∷ []) (c ∷ y ∷ []) → ⊥
    none_here h = cc
last_source {X} [] (c ∷ d ∷ b) x y h = absurd (none_here h)
  where
    none_here : ◌≡◌ {A = List (Source X)} (x ∷ []) (c ∷ d ∷ (b ++ y ∷ [])) → ⊥
    none_here h = cc
last_source {X} (c ∷ []) [] x y h = absurd (none_here h)
  where
    none_here : ◌≡◌ {A = List (Source X)} (c ∷ x ∷ []) (y ∷ []) → ⊥
    none_here h = cc
last_source {X} (c ∷ d ∷ a) [] x y h = absurd (none_here h)
  where
    none_here : ◌≡◌ {A = List (Source X)} (c ∷ d ∷ (a ++ x ∷ [])) (y ∷ []) → ⊥
    none_here h = cc
last_source (c ∷ a) (d ∷ b) x y h = let t : a ++ x ∷ [] ≡ b ++ y ∷ [] = cc in last_source a b x y t

pub split_source : {X : Type 0} (b : List (Source X)) → b ≢ [] → (a : List (Source X)) × (x : Source X) × (b ≡ a ++ x ∷ [])
split_source [] h = absurd (h refl)
split_source (p ∷ []) h = ([], p, refl)
split_source (p ∷ q ∷ b) h = let r = split_source (q ∷ b) (λ z. not_empty z) in (p ∷ r.0, r.1, ap (λ l. p ∷ l) r.2)
  where
    not_empty : q ∷ b ≡ [] → ⊥
    not_empty z = cc

module _ {X : Type 0} (text text_after : X → List ℕ) (entry : List ℕ → List ℕ) (k : Skeleton X) (token : X) (above : List (Source X)) (aim : Declared X) (is_map : Bool) (to : List ℕ)
    (ok : IsLinked (workspace_of text entry k)) (woven : IsWoven k) (is : IsAim k token above aim) (has : IsAimEntry k token above is_map)
    (spelled : IsRespelled text text_after entry k token (renaming_of text entry token above is_map to)) (longer : (w : List ℕ) → entry w ≢ w) where
  -- two declarations of one name are one, or packages
  pub one_declared : (s t : Declared X) → Contains k.declared s → Contains k.declared t → name_of text entry s.path ≡ name_of text entry t.path → (s ≡ t) ⊎ ((s.kind ≡ Package) × (t.kind ≡ Package))
  one_declared s t cs ct h = elim (cases_order cs.0 ct.0) [
    | inl same ↦ inl (sym cs.2 ∙ get_or_default k.declared cs.0 s t cs.1 ∙ ap (λ i. get_or k.declared i t) same ∙ ct.2)
    | inr (inl below) ↦
        let r = at cs.0 ct.0 s t s below cs.1 ct.1 cs.2 (get_or_default k.declared ct.0 s t ct.1 ∙ ct.2) h in inr (r.0, r.1)
    | inr (inr more) ↦
        let r = at ct.0 cs.0 t s s more ct.1 cs.1 (get_or_default k.declared ct.0 s t ct.1 ∙ ct.2) cs.2 (sym h) in inr (r.1, r.0)
  ]
    where
      at : (i j : ℕ) (x y d : Declared X) → i < j → i < length k.declared → j < length k.declared → get_or k.declared i d ≡ x → get_or k.declared j d ≡ y → name_of text entry x.path ≡ name_of text entry y.path → (x.kind ≡ Package) × (y.kind ≡ Package)
      at i j x y d below li lj ex ey h =
          let n = length-map k.declared (symbol_of text entry) in
          let ei = get_or-map (symbol_of text entry) k.declared i d (symbol_of text entry d) li ∙ ap (symbol_of text entry) ex in
          let ej = get_or-map (symbol_of text entry) k.declared j d (symbol_of text entry d) lj ∙ ap (symbol_of text entry) ey in
          let lj' : j < length (map (symbol_of text entry) k.declared) = omega (arith, n, lj) in
          let r = ok.unique i j (symbol_of text entry d) below lj' (ap (λ z. z.name) ei ∙ h ∙ sym (ap (λ z. z.name) ej)) in
          (sym (ap (λ z. z.kind) ei) ∙ r.0, sym (ap (λ z. z.kind) ej) ∙ r.1)

  abbrev e : Renaming
  e = renaming_of text entry token above is_map to

  name_last : (a : List (Source X)) (x : Source X) → name_of text entry (a ++ x ∷ []) ≡ name_of text entry a ++ spell text entry x ∷ []
  name_last a x = map_append (spell text entry) a (x ∷ [])

  -- the target and its entry are where the name map has them
  not_aim : (s : Declared X) → Contains k.declared s → (a : List (Source X)) (x : Source X) → s.path ≡ a ++ x ∷ [] → x ≢ Token token → name_of text entry a ≡ name_of text entry above → spell text entry x ≢ text token
  not_aim s cs a x path ne same h =
      let n : name_of text entry s.path ≡ name_of text entry aim.path =
      ap (name_of text entry) path ∙ name_last a x ∙ ap (λ l. l ++ spell text entry x ∷ []) same ∙ ap (λ v. name_of text entry above ++ v ∷ []) h ∙ sym (name_last above (Token token)) ∙ sym (ap (name_of text entry) is.path) in
      elim (one_declared s aim cs is.within n) [
        | inl one ↦ ne (last_source a above x (Token token) (sym path ∙ ap (λ z. z.path) one ∙ is.path))
        | inr both ↦ is.no_package both.1
      ]

  not_entry : (b : Bool) → IsAimEntry k token above b → (p : List ℕ × List ℕ) → cond b (Some (entry (text token), entry to)) None ≡ Some p → (s : Declared X) → Contains k.declared s → (a : List (Source X)) (x : Source X) → s.path ≡ a ++ x ∷ [] → x ≢ EntryOf token → name_of text entry a ≡ name_of text entry above → spell text entry x ≢ p.0
  not_entry false h p q s cs a x path ne same w = elim (none q) [ ]
    where
      none : ◌≡◌ {A = Option (List ℕ × List ℕ)} None (Some p) → ⊥
      none q = cc
  not_entry true h p q s cs a x path ne same w =
      let p0 : entry (text token) ≡ p.0 = ap (λ (z : List ℕ × List ℕ). z.0) (some_same q) in
      let n : name_of text entry s.path ≡ name_of text entry h.0.path =
      ap (name_of text entry) path ∙ name_last a x ∙ ap (λ l. l ++ spell text entry x ∷ []) same ∙ ap (λ v. name_of text entry above ++ v ∷ []) (w ∙ sym p0) ∙ sym (name_last above (EntryOf token)) ∙ sym (ap (name_of text entry) h.2) in
      elim (one_declared s h.0 cs h.1 n) [
        | inl one ↦ ne (last_source a above x (EntryOf token) (sym path ∙ ap (λ z. z.path) one ∙ h.2))
        | inr both ↦ absurd (differ (sym h.3 ∙ both.1))
      ]
    where
      differ : Entry ≡ Package → ⊥
      differ z = cc

      some_same : {u v : List ℕ × List ℕ} → Some u ≡ Some v → u ≡ v
      some_same z = cc

  -- any other word stays
  untouched : (s : Declared X) → Contains k.declared s → (a : List (Source X)) (x : Source X) → s.path ≡ a ++ x ∷ [] → x ≢ Token token → x ≢ EntryOf token → (if same_name (name_of text entry a) e.parent then turned e (spell text entry x) else spell text entry x) ≡ spell text entry x
  untouched s cs a x path nt ne = elim (cases_Bool (same_name (name_of text entry a) e.parent)) [
    | inl at ↦
        let same = name_from_same (name_of text entry a) e.parent at in
        cond-true (same_name (name_of text entry a) e.parent) (turned e (spell text entry x)) (spell text entry x) at
        ∙ stays e (spell text entry x) (false_from_ne_true (moves e (spell text entry x)) (λ m. elim (moves_to e (spell text entry x) m) [
          | inl q ↦ not_aim s cs a x path nt same q.0
          | inr q ↦ not_entry is_map has q.0 q.1 s cs a x path ne same q.2
        ]))
    | inr off ↦ cond-false (same_name (name_of text entry a) e.parent) (turned e (spell text entry x)) (spell text entry x) off
  ]

  turned_aim : turned e (text token) ≡ to
  turned_aim = cond-true (bytes_eq (text token) e.old) e.new (turned_by e.entry (text token)) (same_from_word (text token) e.old refl)

  turned_entry : (b : Bool) → turned_by (cond b (Some (entry (text token), entry to)) None) (entry (text token)) ≡ cond b (entry to) (entry (text token))
  turned_entry true = cond-true (bytes_eq (entry (text token)) (entry (text token))) (entry to) (entry (text token)) (same_from_word (entry (text token)) (entry (text token)) refl)
  turned_entry false = refl

  mapped : (b : Bool) → IsAimEntry k token above b → (s : Declared X) → Contains k.declared s → s.path ≡ above ++ EntryOf token ∷ [] → b ≡ true
  mapped true h s cs p = refl
  mapped false h s cs p = absurd (h s cs p)

  -- one word of a declaration after the edit: right below the parent it is turned
  pub word_after : (s : Declared X) → Contains k.declared s → (a : List (Source X)) (x : Source X) → s.path ≡ a ++ x ∷ [] → spell text_after entry x ≡ (if same_name (name_of text entry a) e.parent then turned e (spell text entry x) else spell text entry x)
  word_after s cs a (Token i) path = elim (spelled.others s cs a i path) [
    | inl it ↦
        let at = woven.tokens s aim cs is.within a above token (path ∙ ap (λ z. a ++ Token z ∷ []) it) is.path in
        ap text_after it ∙ spelled.aim ∙ sym turned_aim ∙ ap (λ z. turned e (text z)) (sym it)
        ∙ sym (cond-true (same_name (name_of text entry a) e.parent) (turned e (text i)) (text i) (same_from_name (name_of text entry a) e.parent (ap (name_of text entry) at)))
    | inr n ↦ n.1 ∙ sym (untouched s cs a (Token i) path (λ q. n.0 (token_same q)) (λ q. absurd (token_entry q)))
  ]
    where
      token_same : {i j : X} → Token i ≡ Token j → i ≡ j
      token_same q = cc

      token_entry : {i j : X} → Token i ≡ EntryOf j → ⊥
      token_entry q = cc
  word_after s cs a (EntryOf i) path = elim (spelled.other_entries s cs a i path) [
    | inl it ↦
        let path' : s.path ≡ a ++ EntryOf token ∷ [] = path ∙ ap (λ z. a ++ EntryOf z ∷ []) it in
        let at = woven.entries s aim cs is.within a above token path' is.path in
        let b = mapped is_map has s cs (path' ∙ ap (λ z. z ++ EntryOf token ∷ []) at) in
        let other : bytes_eq (entry (text token)) e.old ≡ false = false_from_ne_true (bytes_eq (entry (text token)) e.old) (λ q. longer (text token) (word_from_same (entry (text token)) e.old q)) in
        let turn : turned e (entry (text token)) ≡ entry to = cond-false (bytes_eq (entry (text token)) e.old) e.new (turned_by e.entry (entry (text token))) other ∙ turned_entry is_map ∙ cond-true is_map (entry to) (entry (text token)) b in
        ap (λ z. entry (text_after z)) it ∙ ap entry spelled.aim ∙ sym turn ∙ ap (λ z. turned e (entry (text z))) (sym it)
        ∙ sym (cond-true (same_name (name_of text entry a) e.parent) (turned e (entry (text i))) (entry (text i)) (same_from_name (name_of text entry a) e.parent (ap (name_of text entry) at)))
    | inr n ↦ ap entry n.1 ∙ sym (untouched s cs a (EntryOf i) path (λ q. absurd (entry_token q)) (λ q. n.0 (entry_same q)))
  ]
    where
      entry_same : {i j : X} → EntryOf i ≡ EntryOf j → i ≡ j
      entry_same q = cc

      entry_token : {i j : X} → EntryOf i ≡ Token j → ⊥
      entry_token q = cc
  word_after s cs a (Given w) path = sym (untouched s cs a (Given w) path (λ q. given_token q) (λ q. given_entry q))
    where
      given_token : {j : X} → Given w ≡ Token j → ⊥
      given_token q = cc

      given_entry : {j : X} → Given w ≡ EntryOf j → ⊥
      given_entry q = cc

  -- a name after the edit
  pub path_after : (n : ℕ) (path : List (Source X)) → length path ≡ n → (path ≢ [] → (s : Declared X) × Contains k.declared s × (s.path ≡ path)) → name_of text_after entry path ≡ ren e (name_of text entry path)
  path_after zero [] l h = sym (turn_below-nil e.parent (turned e))
  path_after zero (x ∷ path) l h = absurd (omega (arith, l))
  path_after (suc n) [] l h = absurd (omega (arith, l))
  path_after (suc n) (y ∷ path) l h =
      let whole = y ∷ path in
      let d = h (λ q. not_empty q) in
      let s = split_source whole (λ q. not_empty q) in
      let a = s.0 in
      let x = s.1 in
      let long : length a ≡ n = omega (arith, l, ap length s.2, length-append a (x ∷ [])) in
      let ih = path_after n a long (λ q. woven.fronts d.0 d.1 a x (d.2 ∙ s.2) q) in
      ap (name_of text_after entry) s.2
      ∙ map_append (spell text_after entry) a (x ∷ [])
      ∙ ap (λ z. z ++ spell text_after entry x ∷ []) ih
      ∙ ap (λ v. ren e (name_of text entry a) ++ v ∷ []) (word_after d.0 d.1 a x (d.2 ∙ s.2))
      ∙ sym (turn_below-more e.parent (turned e) (name_of text entry a) (spell text entry x))
      ∙ ap (ren e) (sym (name_last a x))
      ∙ ap (λ z. ren e (name_of text entry z)) (sym s.2)
    where
      not_empty : y ∷ path ≡ [] → ⊥
      not_empty q = cc

  pub name_after : (d : Declared X) → Contains k.declared d → name_of text_after entry d.path ≡ ren e (name_of text entry d.path)
  name_after d c = path_after (length d.path) d.path refl (λ q. (d, c, refl))

  pub reference_after : (u : Used X) → Contains k.used u → reference_of text_after entry u ≡ renamed_reference e (workspace_of text entry k) (reference_of text entry u)
  reference_after u c =
      λ i. record { file = u.file; scope = path_after (length u.scope) u.scope refl (woven.scopes u c) i; is_absolute = u.is_absolute; wants = u.wants; words = spelled.words u c i }

  symbols_after : map (symbol_of text_after entry) k.declared ≡ map (renamed_symbol e) (map (symbol_of text entry) k.declared)
  symbols_after =
      map_agree (symbol_of text_after entry) (λ d. renamed_symbol e (symbol_of text entry d)) k.declared
      (λ d c. λ i. record { name = name_after d c i; kind = d.kind; file = d.file })
      ∙ sym (map_map (symbol_of text entry) (renamed_symbol e) k.declared)

  references_after : map (reference_of text_after entry) k.used ≡ map (renamed_reference e (workspace_of text entry k)) (map (reference_of text entry) k.used)
  references_after =
      map_agree (reference_of text_after entry) (λ u. renamed_reference e (workspace_of text entry k) (reference_of text entry u)) k.used reference_after
      ∙ sym (map_map (reference_of text entry) (renamed_reference e (workspace_of text entry k)) k.used)

  -- the edited text spells the renamed workspace
  pub workspace_after : workspace_of text_after entry k ≡ renamed e (workspace_of text entry k)
  workspace_after = λ i. record { files = k.files; symbols = symbols_after i; imports = k.imports; references = references_after i }

  -- the name map is that of its declaration
  pub aim_renaming : IsRenaming e (workspace_of text entry k)
  aim_renaming = record {
    target_is = (symbol_of text entry aim, contains_map (symbol_of text entry) k.declared aim is.within, ap (name_of text entry) is.path ∙ name_last above (Token token), is.no_package, is.no_entry);
    entry_is = go is_map has;
  }
    where
      go : (b : Bool) → IsAimEntry k token above b → EntryFits (workspace_of text entry k) e (cond b (Some (entry (text token), entry to)) None)
      go true h = (longer (text token), longer to, (symbol_of text entry h.0, contains_map (symbol_of text entry) k.declared h.0 h.1, ap (name_of text entry) h.2 ∙ name_last above (EntryOf token), h.3))
      go false h = tt

  pub linked_after : IsFree e (workspace_of text entry k) → IsLinked (workspace_of text_after entry k)
  linked_after free = subst IsLinked (sym workspace_after) (renamed_linked e (workspace_of text entry k) ok aim_renaming free)

  -- A reference means a declaration after the edit exactly where it did before.
  pub means_same : IsFree e (workspace_of text entry k) → (u : Used X) (d : Declared X) → Contains k.used u → Contains k.declared d → MeansDeclaration text entry k u d ↔ MeansDeclaration text_after entry k u d
  means_same free u d cu cd = (there, again)
    where
      w : Workspace
      w = workspace_of text entry k

      r : Reference
      r = reference_of text entry u

      cr : Contains (workspace_of text entry k).references (reference_of text entry u)
      cr = contains_map (reference_of text entry) k.used u cu

      new : (m : List (List ℕ)) → meaning (workspace_of text entry k) (reference_of text entry u) ≡ Some m → meaning (workspace_of text_after entry k) (reference_of text_after entry u) ≡ Some (ren e m)
      new m h =
          ap (λ z. meaning z (reference_of text_after entry u)) workspace_after
          ∙ ap (meaning (renamed e (workspace_of text entry k))) (reference_after u cu)
          ∙ each_means e (workspace_of text entry k) ok aim_renaming free (reference_of text entry u) cr m h

      there : MeansDeclaration text entry k u d → MeansDeclaration text_after entry k u d
      there h = new (name_of text entry d.path) h ∙ ap Some (sym (name_after d cd))

      again : MeansDeclaration text_after entry k u d → MeansDeclaration text entry k u d
      again h =
          let m = has_meaning (meaning (workspace_of text entry k) (reference_of text entry u)) (ok.resolved (reference_of text entry u) cr) in
          let t = meant (workspace_of text entry k) (reference_of text entry u) m.0 m.1 in
          let same : ren e m.0 ≡ ren e (name_of text entry d.path) = some_same (sym (new m.0 m.1) ∙ h ∙ ap Some (name_after d cd)) in
          let old = ren_apart e (workspace_of text entry k) aim_renaming free.no_collision t.0 (symbol_of text entry d) t.1 (contains_map (symbol_of text entry) k.declared d cd) (ap (ren e) t.2 ∙ same) in
          m.1 ∙ ap Some (sym t.2 ∙ old)
        where
          some_same : {u v : List (List ℕ)} → Some u ≡ Some v → u ≡ v
          some_same z = cc
