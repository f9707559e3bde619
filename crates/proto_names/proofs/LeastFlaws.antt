-- The least of the faults of references: the first one of the first file that has any.
use Rattle.std.proofs.Common.{◌≡◌, ◌⊎◌, ℕ, suc, ◌+◌, ◌<◌, List, [], ◌∷◌, ◌++◌, length, get_or, map, Some, refl, sym, ◌∙◌, ap, subst, inl, inr, arith, All, AllPairs, Contains, get_or-append-add, length-append}
use Rattle.proto_base.proofs.Common.{none-some, same_Some, get_or-map, length-map, All-contains, Contains-append_cases, Contains-append_right, contains_cases, contains_head, contains_map}
use Rattle.std.proofs.Math.Seq.{get_or-append_seam}
use Rattle.proto_tree.specs.Tree.{End}
use Rattle.proto_files.proofs.Common.{FileOf, file_at, ReadOf, AreRead, read_at}
use Rattle.proto_names_rules.proofs.Common.{Fault, fault, FaultIsBefore, IsLeast, ReferenceFault, FileNames, At, at, joined, Symbol, Reference, Workspace, meaning, Skeleton, Used}
use Rattle.proto_names.specs.Common.{flaw_number, uses_of, IsFirstFlawed, IsFileReferenceError, IsLeastBad, IsFaultless, IsFlawed, BadReference, ReferenceFlaw, Unresolved, WrongKind, MapEntry}
use Rattle.proto_names_imports.specs.Links.{text_of, names_in, link_imports, link_skeleton, names_of_files}
use Rattle.proto_names_rules.specs.declared.kind.Kind.TheVariants.{Entry, Enum}
use Rattle.proto_names_table.specs.Naming as by_number
use Rattle.proto_names_table.proofs.Common.{used_named, IsIndexOf, IsTable}
use Rattle.proto_base.specs.declared.or_no_memory.OrNoMemory.{OrNoMemory}
use Rattle.proto_base.specs.declared.or_no_memory.OrNoMemory.TheVariants as or
use Rattle.proto_names_table.specs.declared.table.Table.{Table}
use Rattle.proto_names_outline.proofs.ReadTrees.{uses_rising}
use Rattle.proto_names.proofs.Referring.{row_kind}
use Rattle.proto_names_table.proofs.UseFaults.{use_faults}

-- ---- flaws and their numbers

of_number : (w : Workspace) (r : Reference) (n : ℕ) → by_number.ReferenceFlaw w r n → (flaw : ReferenceFlaw) × IsFlawed w r flaw × (n ≡ flaw_number flaw)
of_number w r n (by_number.unresolved h) = (Unresolved, h, refl)
of_number w r n (by_number.wrong_kind s c h m e) = (WrongKind, (s, c, h, m, e), refl)
of_number w r n (by_number.of_entry s c h e) = (MapEntry, (s, c, h, e), refl)

to_number : (w : Workspace) (r : Reference) (flaw : ReferenceFlaw) → IsFlawed w r flaw → by_number.ReferenceFlaw w r (flaw_number flaw)
to_number w r Unresolved h = by_number.unresolved h
to_number w r WrongKind h = by_number.wrong_kind h.0 h.1 h.2 h.3 h.4
to_number w r MapEntry h = by_number.of_entry h.0 h.1 h.2 h.3

one_of : {X : Type 0} (xs : List X) → 0 < length xs → X
one_of [] l = absurd (omega (arith, l))
one_of (x ∷ xs) l = x

no_enum_entry : Enum ≡ Entry → ⊥
no_enum_entry e = cc

-- a reference has one flaw at most
module _ (t : Table) (ok : IsTable t) (w : Workspace) (index : IsIndexOf t w.symbols) (r : Reference) where
  -- symbols with one name have one kind, the row's
  one_kind : (s u : Symbol) → Contains w.symbols s → Contains w.symbols u → meaning w r ≡ Some s.name → meaning w r ≡ Some u.name → s.kind ≡ u.kind
  one_kind s u c d hs hu =
      let i = index.row s c in
      let name : s.name ≡ u.name = same_Some s.name u.name (sym hs ∙ hu) in
      let row = one_of t.rows.items (omega (arith, i.1)) in
      let j = row_kind t ok w index r i.0 u d (i.2 ∙ ap joined name) in
      sym (i.3 row).0 ∙ j.1 row

  one_flaw : (a b : ReferenceFlaw) → IsFlawed w r a → IsFlawed w r b → a ≡ b
  one_flaw Unresolved Unresolved x y = refl
  one_flaw Unresolved WrongKind x y = absurd (none-some y.0.name (sym x ∙ y.2))
  one_flaw Unresolved MapEntry x y = absurd (none-some y.0.name (sym x ∙ y.2))
  one_flaw WrongKind Unresolved x y = absurd (none-some x.0.name (sym y ∙ x.2))
  one_flaw WrongKind WrongKind x y = refl
  one_flaw WrongKind MapEntry x y = absurd (no_enum_entry (sym x.4 ∙ one_kind x.0 y.0 x.1 y.1 x.2 y.2 ∙ y.3))
  one_flaw MapEntry Unresolved x y = absurd (none-some x.0.name (sym y ∙ x.2))
  one_flaw MapEntry WrongKind x y = absurd (no_enum_entry (sym y.4 ∙ one_kind y.0 x.0 y.1 x.1 y.2 x.2 ∙ x.3))
  one_flaw MapEntry MapEntry x y = refl

-- an element, and one behind it
pair_behind : {X : Type 0} (R : X → X → Type 0) (xs ys : List X) (y x : X) → AllPairs R (xs ++ y ∷ ys) → Contains ys x → R y x
pair_behind R xs ys y x p c =
    subst (λ z. R z x) (get_or-append_seam xs y ys x)
    (subst (R (get_or (xs ++ y ∷ ys) (length xs) x)) (get_or-append-add xs (y ∷ ys) (suc c.0) x ∙ c.2)
    (p (length xs) (length xs + suc c.0) x (omega arith) (omega (arith, c.1, length-append xs (y ∷ ys)))))

-- ---- the faults of files

module _ (files : List FileOf) (reads : List ReadOf) (are : AreRead files reads) where
  abbrev w : Workspace
  w = names_of_files files reads

  abbrev text : At → List ℕ
  text = text_of files reads

  abbrev skeleton : Skeleton At
  skeleton = link_skeleton files reads

  abbrev named : ℕ → Used ℕ → Reference
  named = used_named text

  -- no reference of the file is faulty
  abbrev pub IsClean : ℕ → Type 0
  IsClean file = All (IsFaultless w) (map (named file) (uses_of reads file))

  -- a faulty reference of one of the files
  record Stands (f : Fault) : Type 0 where
    file : ℕ
    one : Used ℕ
    flaw : ReferenceFlaw
    within : file < length files
    used : Contains (uses_of reads file) one
    flawed : IsFlawed w (named file one) flaw
    is : f ≡ fault (at file one.first) (flaw_number flaw)

  here : (file : ℕ) (g : FileNames) → file < length files → get_or (map names_in reads) file g ≡ names_in (read_at reads file)
  here file g l = get_or-map names_in reads file (record { tokens = []; tree = End }) g (omega (arith, l, are.same))

  stands : (f : Fault) → ReferenceFault text skeleton f → Stands f
  stands f h =
      let x = (use_faults text (link_imports files reads) (map names_in reads) f).0 h in
      let l : x.file < length files = omega (arith, x.within, length-map reads names_in, are.same) in
      let n = of_number w (named x.file x.one) x.number x.flaw in
      record {
        file = x.file;
        one = x.one;
        flaw = n.0;
        within = l;
        used = subst (λ (z : FileNames). Contains z.used x.one) (sym x.here ∙ here x.file x.names l) x.used;
        flawed = n.1;
        is = x.is ∙ ap (fault (at x.file x.one.first)) n.2;
      }

  not_clean : (f : Fault) (s : Stands f) → IsClean s.file → ⊥
  not_clean f s c = All-contains (IsFaultless w) (map (named s.file) (uses_of reads s.file)) (named s.file s.one) c (contains_map (named s.file) (uses_of reads s.file) s.one s.used) s.flaw s.flawed

  -- no fault where each file is clean
  pub all_clean : ((k : ℕ) → k < length files → IsClean k) → (f : Fault) → ReferenceFault text skeleton f → ⊥
  all_clean c f h = let s = stands f h in not_clean f s (c s.file s.within)

  module _ (t : Table) (ok : IsTable t) (index : IsIndexOf t w.symbols) (file : ℕ) (within : file < length files) (bad : BadReference) (b : IsFirstFlawed w text file (uses_of reads file) bad) where
    is_fault : ReferenceFault text skeleton (fault (at bad.file bad.token) (flaw_number bad.flaw))
    is_fault =
        (use_faults text (link_imports files reads) (map names_in reads) (fault (at bad.file bad.token) (flaw_number bad.flaw))).1
        (record {
          file = file;
          names = names_in (read_at reads file);
          one = b.faulty;
          number = flaw_number bad.flaw;
          within = omega (arith, within, length-map reads names_in, are.same);
          here = here file (names_in (read_at reads file)) within;
          used = subst (λ (z : List (Used ℕ)). Contains z b.faulty) (sym b.parts) (Contains-append_right b.before (b.faulty ∷ b.behind) b.faulty (contains_head b.faulty b.behind));
          flaw = to_number w (named file b.faulty) bad.flaw b.flawed;
          is = ap (λ z. fault (at z bad.token) (flaw_number bad.flaw)) b.file_is ∙ ap (λ z. fault (at file z) (flaw_number bad.flaw)) b.token_is;
        })

    -- no other one of the file stands before it
    first_here : (u : Used ℕ) (flaw : ReferenceFlaw) → Contains (uses_of reads file) u → IsFlawed w (named file u) flaw
        → (u.first < bad.token) ⊎ ((u.first ≡ bad.token) × (flaw_number flaw < flaw_number bad.flaw)) → ⊥
    first_here u flaw c f before = elim (Contains-append_cases b.before (b.faulty ∷ b.behind) u (subst (λ (z : List (Used ℕ)). Contains z u) b.parts c)) [
      | inl d ↦ All-contains (λ v. IsFaultless w (named file v)) b.before u b.faultless d flaw f
      | inr d ↦ elim (contains_cases b.faulty u b.behind d) [
        | inl same ↦
            let first : bad.token ≡ u.first = b.token_is ∙ ap (λ (v : Used ℕ). v.first) same in
            let number : flaw_number flaw ≡ flaw_number bad.flaw = ap flaw_number (one_flaw t ok w index (named file u) flaw bad.flaw f (subst (λ (v : Used ℕ). IsFlawed w (named file v) bad.flaw) same b.flawed)) in
            elim before [
              | inl less ↦ omega (arith, less, first)
              | inr less ↦ let n = less.1 in omega (arith, n, number)
            ]
        | inr later ↦
            let rising = subst (AllPairs (λ x y. x.first < y.first)) b.parts (uses_rising (file_at files file).profile (file_at files file).bytes (read_at reads file).tokens (read_at reads file).tree (are.trees file within)) in
            let behind : b.faulty.first < u.first = pair_behind (λ x y. x.first < y.first) b.before b.behind b.faulty u rising later in
            let first = b.token_is in
            elim before [
              | inl less ↦ omega (arith, less, first, behind)
              | inr less ↦ let e = less.0 in omega (arith, e, first, behind)
            ]
      ]
    ]

    pub first_least : ((k : ℕ) → k < file → IsClean k) → IsLeast (ReferenceFault text skeleton) (fault (at bad.file bad.token) (flaw_number bad.flaw))
    first_least clean = record {
      holds = is_fault;
      least = λ g h before.
          (let s = stands g h in
          let place = b.file_is in
          elim (subst (λ z. FaultIsBefore z (fault (at bad.file bad.token) (flaw_number bad.flaw))) s.is before) [
            | inl less ↦ not_clean g s (clean s.file (omega (arith, less, place)))
            | inr same ↦
                let e : s.file ≡ file = same.0 ∙ place in
                first_here s.one s.flaw (subst (λ k. Contains (uses_of reads k) s.one) e s.used) (subst (λ k. IsFlawed w (named k s.one) s.flaw) e s.flawed) same.1
          ]);
    }

  pub least_error : (t : Table) → IsTable t → IsIndexOf t w.symbols → (file : ℕ) → file < length files → (e : OrNoMemory BadReference) → IsFileReferenceError files reads file e → ((k : ℕ) → k < file → IsClean k) → IsLeastBad files reads e
  least_error t ok index file l (or.Fault bad) b clean = first_least t ok index file l bad b clean
  least_error t ok index file l or.NoMemory b clean = tt
