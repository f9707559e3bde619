-- The least fault by file, token and number is the least by phase, path, offset and number (for the crates above).
use Rattle.std.proofs.Common.{◌≡◌, ℕ, suc, ◌<◌, List, length, sym, ap, subst, ◌∙◌, inl, inr, ◌⊎◌, arith}
use Rattle.proto_base.proofs.Common.{cases_order, kind_number, phase_of}
use Rattle.proto_text.specs.declared.lexer.Token.{Token}
use Rattle.proto_text.proofs.Common.{offset_at, AreTokens, tokens_are_in_order}
use Rattle.proto_base.specs.declared.fault.FaultKind.{FaultKind}
use Rattle.proto_files.proofs.Common.{FaultAt, fault_at, ComesBefore, IsLeastFault, HasNoFault, FileOf, file_at, paths_of, AreWorkspaceFiles, IsBefore as PathIsBefore, comes_before_cases, never_before_itself, before_trans, ReadOf, read_at, AreRead, IsAtToken, read_once}
use Rattle.proto_base.specs.declared.fault.SchemaFault.{SchemaFault}
use Rattle.proto_base.specs.declared.fault.SchemaFault.TheVariants.{Schema, NoMemory}
use Rattle.proto_names_rules.proofs.Common.{Fault, fault, FaultIsBefore, IsLeast, ImportFault, NameFault, ReferenceFault, at}
use Rattle.proto_names_imports.specs.LinkErrors.{IsLinkError}
use Rattle.proto_names_imports.specs.Links.{text_of, all_wanted, link_skeleton, FaultStandsAt, LinkFaults, of_import, of_name, of_reference}
use Rattle.proto_names_imports.proofs.FaultPlaces.{IsFoundIn, import_found, name_found, reference_found}
use Rattle.proto_files.specs.GivenFiles.{no_file}

offset_rises : (text : List ℕ) (tokens : List Token) (i j : ℕ) → AreTokens text tokens → i < j → j < length tokens → offset_at tokens i < offset_at tokens j
offset_rises text tokens i j lexed lt within =
    let o = tokens_are_in_order text tokens lexed in
    omega (arith, o.some i (omega (arith, lt, within)), o.rising (suc i) j (omega (arith, lt)) (omega (arith, within)), o.apart j within)

-- one token is before another, by its offset
pub token_before : (text : List ℕ) (tokens : List Token) (i j : ℕ) → AreTokens text tokens → i < length tokens → offset_at tokens i < offset_at tokens j → i < j
token_before text tokens i j lexed within lt = elim (cases_order i j) [
  | inl e ↦ let same : offset_at tokens i ≡ offset_at tokens j = ap (offset_at tokens) e in absurd (omega (arith, lt, same))
  | inr (inl below) ↦ below
  | inr (inr above) ↦ absurd (omega (arith, lt, offset_rises text tokens j i lexed above within))
]

pub one_token : (text : List ℕ) (tokens : List Token) (i j : ℕ) → AreTokens text tokens → i < length tokens → j < length tokens → offset_at tokens i ≡ offset_at tokens j → i ≡ j
one_token text tokens i j lexed li lj e = elim (cases_order i j) [
  | inl same ↦ same
  | inr (inl below) ↦ absurd (omega (arith, e, offset_rises text tokens i j lexed below lj))
  | inr (inr above) ↦ absurd (omega (arith, e, offset_rises text tokens j i lexed above li))
]

module _ (files : List FileOf) (are_files : AreWorkspaceFiles files) where
  path_rises : (i j : ℕ) → i < j → j < length files → PathIsBefore (file_at files i).path (file_at files j).path
  path_rises i j lt within = are_files.ordered i j no_file lt within

  pub file_before : (i j : ℕ) → i < length files → PathIsBefore (file_at files i).path (file_at files j).path → i < j
  file_before i j within h = elim (cases_order i j) [
    | inl e ↦ absurd (never_before_itself (file_at files j).path (subst (λ (k : ℕ). PathIsBefore (file_at files k).path (file_at files j).path) e h))
    | inr (inl below) ↦ below
    | inr (inr above) ↦ absurd (never_before_itself (file_at files i).path (before_trans (file_at files i).path (file_at files j).path (file_at files i).path h (path_rises j i above within)))
  ]

  pub one_file : (i j : ℕ) → i < length files → j < length files → (file_at files i).path ≡ (file_at files j).path → i ≡ j
  one_file i j li lj e = elim (cases_order i j) [
    | inl same ↦ same
    | inr (inl below) ↦ absurd (never_before_itself (file_at files j).path (subst (λ (p : List ℕ). PathIsBefore p (file_at files j).path) e (path_rises i j below lj)))
    | inr (inr above) ↦ absurd (never_before_itself (file_at files i).path (subst (λ (p : List ℕ). PathIsBefore p (file_at files i).path) (sym e) (path_rises j i above li)))
  ]

  module _ (reads : List ReadOf) (are_read : AreRead files reads) where
    abbrev Stands : Fault → FaultAt → Type 0
    Stands = FaultStandsAt files reads

    abbrev Found : ℕ → Fault → Type 0
    Found = IsFoundIn files reads are_read

    abbrev Imports : Fault → Type 0
    Imports = ImportFault (paths_of files) (all_wanted (text_of files reads) 0 reads)

    abbrev Names : Fault → Type 0
    Names = NameFault (text_of files reads) (link_skeleton files reads).declared

    abbrev References : Fault → Type 0
    References = ReferenceFault (text_of files reads) (link_skeleton files reads)

    phase_is : (n : ℕ) (f : Fault) (x : FaultAt) → Found n f → Stands f x → phase_of x.kind ≡ n
    phase_is n f x found s = found.in_phase x.kind s.number

    -- ---- one phase

    -- in one file
    by_token : (f g : Fault) (x y : FaultAt) (n : ℕ) → Found n f → Found n g → Stands f x → Stands g y → g.place.file ≡ f.place.file
        → (y.offset < x.offset) ⊎ ((y.offset ≡ x.offset) × (kind_number y.kind < kind_number x.kind)) → (g.place.token < f.place.token) ⊎ ((g.place.token ≡ f.place.token) × (g.number < f.number))
    by_token f g x y n ff fg s t file h =
        let tokens = (read_at reads f.place.file).tokens in
        let lexed = are_read.tokens f.place.file ff.there.0 in
        let within : g.place.token < length tokens = subst (λ (k : ℕ). g.place.token < length (read_at reads k).tokens) file fg.there.1 in
        let offset : y.offset ≡ offset_at tokens g.place.token = t.offset ∙ ap (λ (k : ℕ). offset_at (read_at reads k).tokens g.place.token) file in
        let bytes = (file_at files f.place.file).bytes in
        elim h [
          | inl lt ↦ inl (token_before bytes tokens g.place.token f.place.token lexed within (omega (arith, lt, offset, s.offset)))
          | inr more ↦ inr (one_token bytes tokens g.place.token f.place.token lexed within ff.there.1 (sym offset ∙ more.0 ∙ s.offset), omega (arith, more.1, s.number, t.number))
        ]

    before_from : (f g : Fault) (x y : FaultAt) (n : ℕ) → Found n f → Found n g → Stands f x → Stands g y → ComesBefore y x → FaultIsBefore g f
    before_from f g x y n ff fg s t before = elim (comes_before_cases y x before) [
      | inl lt ↦ absurd (omega (arith, lt, phase_is n f x ff s, phase_is n g y fg t))
      | inr more ↦ elim more.1 [
        | inl path ↦ inl (file_before g.place.file f.place.file fg.there.0 (subst (λ (p : List ℕ). PathIsBefore p (file_at files f.place.file).path) t.path (subst (λ (p : List ℕ). PathIsBefore y.path p) s.path path)))
        | inr place ↦
            let file = one_file g.place.file f.place.file fg.there.0 ff.there.0 (sym t.path ∙ place.0 ∙ s.path) in
            inr (file, by_token f g x y n ff fg s t file place.1)
      ]
    ]

    in_one : (Says : Fault → Type 0) (n : ℕ) → ((f : Fault) → Says f → Found n f) → (f g : Fault) (x y : FaultAt) → IsLeast Says f → Says g → Stands f x → Stands g y → ComesBefore y x → ⊥
    in_one Says n found f g x y least h s t before = least.least g h (before_from f g x y n (found f least.holds) (found g h) s t before)

    -- ---- a later phase

    in_later : (f g : Fault) (x y : FaultAt) (n m : ℕ) → n < m → Found n f → Found m g → Stands f x → Stands g y → ComesBefore y x → ⊥
    in_later f g x y n m lt ff fg s t before = elim (comes_before_cases y x before) [
      | inl less ↦ omega (arith, lt, less, phase_is n f x ff s, phase_is m g y fg t)
      | inr more ↦ omega (arith, lt, more.0, phase_is n f x ff s, phase_is m g y fg t)
    ]

    -- ---- the faults of the files, as they are read

    said : (y : FaultAt) → LinkFaults files y → (g : Fault) × Stands g y × (Imports g ⊎ (Names g ⊎ References g))
    said y (of_import rs g z r s h) =
        let e = read_once files rs reads r are_read in
        (g, subst (λ (q : List ReadOf). FaultStandsAt files q g y) e s, inl (subst (λ (q : List ReadOf). ImportFault (paths_of files) (all_wanted (text_of files q) 0 q) g) e h))
    said y (of_name rs g z r s h) =
        let e = read_once files rs reads r are_read in
        (g, subst (λ (q : List ReadOf). FaultStandsAt files q g y) e s, inr (inl (subst (λ (q : List ReadOf). NameFault (text_of files q) (link_skeleton files q).declared g) e h)))
    said y (of_reference rs g z r s h) =
        let e = read_once files rs reads r are_read in
        (g, subst (λ (q : List ReadOf). FaultStandsAt files q g y) e s, inr (inr (subst (λ (q : List ReadOf). ReferenceFault (text_of files q) (link_skeleton files q) g) e h)))

    pub least_import : (f : Fault) (x : FaultAt) → IsLeast Imports f → Stands f x → IsLeastFault (LinkFaults files) x
    least_import f x least s = record { is_fault = of_import reads f x are_read s least.holds; is_least = least_here }
      where
        least_here : (y : FaultAt) → LinkFaults files y → ComesBefore y x → ⊥
        least_here y h before = let g = said y h in elim g.2 [
          | inl i ↦ in_one Imports 3 (import_found files reads are_read) f g.0 x y least i s g.1 before
          | inr (inl i) ↦ in_later f g.0 x y 3 4 (omega arith) (import_found files reads are_read f least.holds) (name_found files reads are_read g.0 i) s g.1 before
          | inr (inr i) ↦ in_later f g.0 x y 3 5 (omega arith) (import_found files reads are_read f least.holds) (reference_found files reads are_read g.0 i) s g.1 before
        ]

    pub least_name : ((g : Fault) → Imports g → ⊥) → (f : Fault) (x : FaultAt) → IsLeast Names f → Stands f x → IsLeastFault (LinkFaults files) x
    least_name no_import f x least s = record { is_fault = of_name reads f x are_read s least.holds; is_least = least_here }
      where
        least_here : (y : FaultAt) → LinkFaults files y → ComesBefore y x → ⊥
        least_here y h before = let g = said y h in elim g.2 [
          | inl i ↦ no_import g.0 i
          | inr (inl i) ↦ in_one Names 4 (name_found files reads are_read) f g.0 x y least i s g.1 before
          | inr (inr i) ↦ in_later f g.0 x y 4 5 (omega arith) (name_found files reads are_read f least.holds) (reference_found files reads are_read g.0 i) s g.1 before
        ]

    pub least_reference : ((g : Fault) → Imports g → ⊥) → ((g : Fault) → Names g → ⊥) → (f : Fault) (x : FaultAt) → IsLeast References f → Stands f x → IsLeastFault (LinkFaults files) x
    least_reference no_import no_name f x least s = record { is_fault = of_reference reads f x are_read s least.holds; is_least = least_here }
      where
        least_here : (y : FaultAt) → LinkFaults files y → ComesBefore y x → ⊥
        least_here y h before = let g = said y h in elim g.2 [
          | inl i ↦ no_import g.0 i
          | inr (inl i) ↦ no_name g.0 i
          | inr (inr i) ↦ in_one References 5 (reference_found files reads are_read) f g.0 x y least i s g.1 before
        ]

    pub no_fault : ((g : Fault) → Imports g → ⊥) → ((g : Fault) → Names g → ⊥) → ((g : Fault) → References g → ⊥) → HasNoFault (LinkFaults files)
    no_fault no_import no_name no_reference y h = let g = said y h in elim g.2 [
      | inl i ↦ no_import g.0 i
      | inr (inl i) ↦ no_name g.0 i
      | inr (inr i) ↦ no_reference g.0 i
    ]

    -- ---- what is answered

    -- a fault at a token that is the least one where it stands
    pub link_error : (file token : ℕ) (kind : FaultKind) (e : SchemaFault) → file < length files → IsAtToken files file token kind e
        → ((x : FaultAt) → Stands (fault (at file token) (kind_number kind)) x → IsLeastFault (LinkFaults files) x) → IsLinkError files e
    link_error file token kind (Schema f) l h least =
        least (fault_at f) (record { path = h.path; offset = h.offset (read_at reads file).tokens (are_read.tokens file l); number = ap kind_number h.kind_is })
    link_error file token kind NoMemory l h least = tt
