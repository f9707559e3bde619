-- Faults of files stand at tokens that are there, and are of one phase each (for the crates above).
use Rattle.std.proofs.Common.{◌≡◌, ℕ, suc, ◌+◌, ◌<◌, List, [], ◌∷◌, length, map, refl, sym, ap, subst, ◌∙◌, inl, inr, arith, Contains}
use Rattle.proto_base.proofs.Common.{Contains-append_cases, kind_number, phase_of, from_map}
use Rattle.proto_base.specs.declared.fault.FaultKind.{FaultKind}
use Rattle.proto_base.specs.declared.fault.FaultKind.TheVariants as kinds
use Rattle.proto_files.proofs.Common.{FileOf, file_at, paths_of, ReadOf, read_at, AreRead}
use Rattle.proto_files.proofs.OneLeast.{kinds_by_number}
use Rattle.proto_case.specs.Camel.{entry_name}
use Rattle.proto_names_rules.proofs.Common.{Fault, AskedImport, ImportFault, unknown, double, cycle, NameFault, earlier, of_package, ReferenceFault, unresolved, wrong_kind, of_entry, place_from, place_of, At, at, declared_of, file_declared, used_in, file_used, all_declared, all_used, Source, Token, EntryOf, Given, Declared, Used, name_of, shifted_source, shifted_declared, Placed, file_placed, follows_after, follows_second}
use Rattle.proto_names_outline.proofs.Common.{Wanted, imports_in, items_in, file_names, whole, import_here, use_here, name_here}
use Rattle.proto_names_imports.specs.Links.{text_of, asked_as, all_wanted, names_in, link_skeleton}

-- ---- phases

-- the faults with this number are of the phase
abbrev pub IsOfPhase : ℕ → ℕ → Type 0
IsOfPhase phase number = (k : FaultKind) → kind_number k ≡ number → phase_of k ≡ phase

phase_by : (kind : FaultKind) → IsOfPhase (phase_of kind) (kind_number kind)
phase_by kind k e = ap phase_of (kinds_by_number k kind e)

-- ---- lists of all files

-- what holds of one of the files, which are numbered from n on
abbrev InFile : (ℕ → ReadOf → Type 0) → ℕ → List ReadOf → Type 0
InFile P n rs = (k : ℕ) × (k < length rs) × P (n + k) (read_at rs k)

in_first : (P : ℕ → ReadOf → Type 0) (n : ℕ) (r : ReadOf) (rs : List ReadOf) → P n r → InFile P n (r ∷ rs)
in_first P n r rs h = let e : n ≡ n + 0 = omega arith in (0, omega arith, subst (λ (k : ℕ). P k r) e h)

in_later : (P : ℕ → ReadOf → Type 0) (n : ℕ) (r : ReadOf) (rs : List ReadOf) → InFile P (suc n) rs → InFile P n (r ∷ rs)
in_later P n r rs h = let e : suc n + h.0 ≡ n + suc h.0 = omega arith in (suc h.0, omega (arith, h.1), subst (λ (k : ℕ). P k (read_at rs h.0)) e h.2)

abbrev Imports : At → ℕ → ReadOf → Type 0
Imports a file r = (w : Wanted) × Contains (imports_in r.tree) w × (at file w.path ≡ a)

imports_from : (text : At → List ℕ) (n : ℕ) (rs : List ReadOf) (a : AskedImport) → Contains (all_wanted text n rs) a → InFile (Imports a.place) n rs
imports_from text n [] a c = absurd (omega (arith, c.1))
imports_from text n (r ∷ rs) a c = elim (Contains-append_cases (map (asked_as text n) (imports_in r.tree)) (all_wanted text (suc n) rs) a c) [
  | inl d ↦ let w = from_map (asked_as text n) (imports_in r.tree) a d in in_first (Imports a.place) n r rs (w.0, w.1, ap (λ (z : AskedImport). z.place) w.2)
  | inr d ↦ in_later (Imports a.place) n r rs (imports_from text (suc n) rs a d)
]

place_in : (n x : ℕ) (path : List (Source ℕ)) → place_from (at n x) (map (shifted_source (at n)) path) ≡ at n (place_from x path)
place_in n x [] = refl
place_in n x (Token t ∷ rest) = place_in n t rest
place_in n x (EntryOf t ∷ rest) = place_in n t rest
place_in n x (Given w ∷ rest) = place_in n x rest

abbrev Declares : At → ℕ → ReadOf → Type 0
Declares a file r = (p : Placed) × Contains (file_placed (items_in r.tree)) p × (at file (place_from 0 (whole p)) ≡ a)

declared_from : (n : ℕ) (rs : List ReadOf) (d : Declared At) → Contains (all_declared n (map names_in rs)) d → InFile (Declares (place_of d)) n rs
declared_from n [] d c = absurd (omega (arith, c.1))
declared_from n (r ∷ rs) d c = elim (Contains-append_cases (file_declared n (names_in r)) (all_declared (suc n) (map names_in rs)) d c) [
  | inl e ↦
      let p = from_map (λ p. shifted_declared (at n) (declared_of n p)) (file_placed (items_in r.tree)) d e in
      in_first (Declares (place_of d)) n r rs (p.0, p.1, sym (place_in n 0 (whole p.0)) ∙ ap place_of p.2)
  | inr e ↦ in_later (Declares (place_of d)) n r rs (declared_from (suc n) rs d e)
]

abbrev Refers : At → ℕ → ReadOf → Type 0
Refers a file r = (u : Used ℕ) × Contains (file_names r.tree).used u × (at file u.first ≡ a)

used_from : (n : ℕ) (rs : List ReadOf) (u : Used At) → Contains (all_used n (map names_in rs)) u → InFile (Refers u.first) n rs
used_from n [] u c = absurd (omega (arith, c.1))
used_from n (r ∷ rs) u c = elim (Contains-append_cases (file_used n (names_in r)) (all_used (suc n) (map names_in rs)) u c) [
  | inl e ↦ let v = from_map (used_in n) (file_names r.tree).used u e in in_first (Refers u.first) n r rs (v.0, v.1, ap (λ (z : Used At). z.first) v.2)
  | inr e ↦ in_later (Refers u.first) n r rs (used_from (suc n) rs u e)
]

-- ---- the places of faults

module _ (files : List FileOf) (reads : List ReadOf) (are_read : AreRead files reads) where
  -- the file and its token are there
  abbrev pub IsThere : At → Type 0
  IsThere a = (a.file < length files) × (a.token < length (read_at reads a.file).tokens)

  in_files : (P : ℕ → ReadOf → Type 0) (a : At) → ((k : ℕ) → k < length files → P k (read_at reads k) → IsThere a) → InFile P 0 reads → IsThere a
  in_files P a there h = let e : 0 + h.0 ≡ h.0 = omega arith in there h.0 (omega (arith, h.1, are_read.same)) (subst (λ (k : ℕ). P k (read_at reads h.0)) e h.2)

  import_there : (text : At → List ℕ) (a : AskedImport) → Contains (all_wanted text 0 reads) a → IsThere a.place
  import_there text a c =
      in_files (Imports a.place) a.place
      (λ k l h. subst IsThere h.2 (l, import_here (file_at files k).profile (file_at files k).bytes (read_at reads k).tokens (read_at reads k).tree (are_read.trees k l) h.0 h.1)) (imports_from text 0 reads a c)

  declared_there : (d : Declared At) → Contains (link_skeleton files reads).declared d → IsThere (place_of d)
  declared_there d c =
      in_files (Declares (place_of d)) (place_of d)
      (λ k l h. subst IsThere h.2 (l, name_here (file_at files k).profile (file_at files k).bytes (read_at reads k).tokens (read_at reads k).tree (are_read.trees k l) h.0 h.1)) (declared_from 0 reads d c)

  use_there : (u : Used At) → Contains (link_skeleton files reads).used u → IsThere u.first
  use_there u c =
      in_files (Refers u.first) u.first
      (λ k l h. subst IsThere h.2 (l, use_here (file_at files k).profile (file_at files k).bytes (read_at reads k).tokens (read_at reads k).tree (are_read.trees k l) h.0 h.1)) (used_from 0 reads u c)

  -- a fault of a phase, at a token that is there
  pub record IsFoundIn (phase : ℕ) (f : Fault) : Type 0 where
    pub there : IsThere f.place
    pub in_phase : IsOfPhase phase f.number

  pub import_found : (f : Fault) → ImportFault (paths_of files) (all_wanted (text_of files reads) 0 reads) f → IsFoundIn 3 f
  import_found f (unknown a c missing) = record { there = import_there (text_of files reads) a c; in_phase = phase_by kinds.UnknownImport }
  import_found f (double a h) =
      let asked = all_wanted (text_of files reads) 0 reads in
      let r = follows_after (λ (x y : AskedImport). (x.place.file ≡ y.place.file) × (x.path ≡ y.path)) asked a h in
      record { there = import_there (text_of files reads) a (follows_second asked r.0 a r.1); in_phase = phase_by kinds.DoubleImport }
  import_found f (cycle a to c e l) = record { there = import_there (text_of files reads) a c; in_phase = phase_by kinds.ImportCycle }

  pub name_found : (f : Fault) → NameFault (text_of files reads) (link_skeleton files reads).declared f → IsFoundIn 4 f
  name_found f (earlier d h other) =
      let ds = (link_skeleton files reads).declared in
      let r = follows_after (λ (x y : Declared At). name_of (text_of files reads) entry_name x.path ≡ name_of (text_of files reads) entry_name y.path) ds d h in
      record { there = declared_there d (follows_second ds r.0 d r.1); in_phase = phase_by kinds.DuplicateName }
  name_found f (of_package d e c ce other package_kind same) = record { there = declared_there d c; in_phase = phase_by kinds.DuplicateName }

  pub reference_found : (f : Fault) → ReferenceFault (text_of files reads) (link_skeleton files reads) f → IsFoundIn 5 f
  reference_found f (unresolved u c h) = record { there = use_there u c; in_phase = phase_by kinds.Unresolved }
  reference_found f (wrong_kind u s c cs h m e) = record { there = use_there u c; in_phase = phase_by kinds.WrongKind }
  reference_found f (of_entry u s c cs h e) = record { there = use_there u c; in_phase = phase_by kinds.MapEntryRef }
