-- The faults that stand at the flaws of a phase are all of the phase.
use Rattle.std.proofs.Common.{◌<◌, List, length, get_or, sym, ap, subst, ◌∙◌, All, Contains}
use Rattle.proto_base.proofs.Common.{Contains-get_or, contains_map, from_map, kind_number}
use Rattle.proto_text.specs.declared.lexer.Token.{Token}
use Rattle.proto_text.proofs.Common.{offset_at, one_token_list}
use Rattle.proto_files.proofs.Common.{AreRead, FaultAt, FileOf, ReadOf, file_at, paths_of, read_at, read_once}
use Rattle.proto_files.proofs.OneLeast.{kinds_by_number}
use Rattle.proto_names_rules.proofs.Common.{Fault, ImportFault, NameFault, ReferenceFault}
use Rattle.proto_names_imports.proofs.Common.{FaultStandsAt, all_wanted, import_found, link_skeleton, name_found, reference_found, text_of}
use Rattle.proto_names_faults.specs.Common.{AreAllOf, AreFlawsOf, AreListed, Flaw, ImportFaults, NameFaults, ReferenceFaults, StandsAtFlaw, fault_of_flaw, import_fault, name_fault, reference_fault}

module _ (files : List FileOf) (reads : List ReadOf) (are : AreRead files reads) where
  abbrev Stands : Fault → FaultAt → Type 0
  Stands = FaultStandsAt files reads

  module _ (Says : Fault → Type 0) (found : (f : Fault) → Says f → f.place.file < length files) (flaws : List Flaw) (of : AreFlawsOf Says flaws) where
    says : (w : Flaw) → Contains flaws w → Says (fault_of_flaw w)
    says w c = (of (fault_of_flaw w)).0 (contains_map fault_of_flaw flaws w c)

    pub flaws_within : All (λ w. w.file < length files) flaws
    flaws_within k d l = let w = get_or flaws k d in found (fault_of_flaw w) (says w (Contains-get_or flaws k d l))

    module _ (P : FaultAt → Type 0) (put : (f : Fault) (x : FaultAt) → Stands f x → Says f → P x) (out : (x : FaultAt) → P x → (f : Fault) × Stands f x × Says f) (listed : List FaultAt) (l : AreListed files flaws listed) where
      sound : (x : FaultAt) → Contains listed x → P x
      sound x c =
          let r = (l.same x).0 c in
          let w = r.0 in
          let s = r.2 in
          let here = says w r.1 in
          put (fault_of_flaw w) x
          (record { path = s.path; offset = s.offset (read_at reads w.file).tokens (are.tokens w.file (found (fault_of_flaw w) here)); number = ap kind_number s.kind_is })
          here

      stands : (w : Flaw) (x : FaultAt) → Contains flaws w → Stands (fault_of_flaw w) x → StandsAtFlaw files w x
      stands w x c s =
          let within = found (fault_of_flaw w) (says w c) in
          record {
            path = s.path;
            offset = λ tokens lexed. s.offset ∙ ap (λ (ts : List Token). offset_at ts w.token) (one_token_list (file_at files w.file).bytes (read_at reads w.file).tokens tokens (are.tokens w.file within) lexed);
            kind_is = kinds_by_number x.kind w.kind s.number;
          }

      whole : (x : FaultAt) → P x → Contains listed x
      whole x p =
          let r = out x p in
          let w = from_map fault_of_flaw flaws r.0 ((of r.0).1 r.2) in
          (l.same x).1 (w.0, w.1, stands w.0 x w.1 (subst (λ (f : Fault). Stands f x) (sym w.2) r.1))

      pub all_of : AreAllOf P listed
      all_of = record { rising = l.rising; sound = λ k d m. sound (get_or listed k d) (Contains-get_or listed k d m); whole = whole }

  -- ---- the phases

  abbrev Imports : Fault → Type 0
  Imports = ImportFault (paths_of files) (all_wanted (text_of files reads) 0 reads)

  abbrev Names : Fault → Type 0
  Names = NameFault (text_of files reads) (link_skeleton files reads).declared

  abbrev References : Fault → Type 0
  References = ReferenceFault (text_of files reads) (link_skeleton files reads)

  import_within : (f : Fault) → Imports f → f.place.file < length files
  import_within f h = (import_found files reads are f h).there.0

  import_out : (x : FaultAt) → ImportFaults files x → (f : Fault) × Stands f x × Imports f
  import_out x (import_fault rs f z r s h) =
      let e = read_once files rs reads r are in
      (f, subst (λ (q : List ReadOf). FaultStandsAt files q f x) e s, subst (λ (q : List ReadOf). ImportFault (paths_of files) (all_wanted (text_of files q) 0 q) f) e h)

  pub imports_within : (flaws : List Flaw) → AreFlawsOf Imports flaws → All (λ w. w.file < length files) flaws
  imports_within flaws of = flaws_within Imports import_within flaws of

  pub all_imports_listed : (flaws : List Flaw) → AreFlawsOf Imports flaws → (listed : List FaultAt) → AreListed files flaws listed → AreAllOf (ImportFaults files) listed
  all_imports_listed flaws of listed l = all_of Imports import_within flaws of (ImportFaults files) (λ f x s h. import_fault reads f x are s h) import_out listed l

  name_within : (f : Fault) → Names f → f.place.file < length files
  name_within f h = (name_found files reads are f h).there.0

  name_out : (x : FaultAt) → NameFaults files x → (f : Fault) × Stands f x × Names f
  name_out x (name_fault rs f z r s h) =
      let e = read_once files rs reads r are in
      (f, subst (λ (q : List ReadOf). FaultStandsAt files q f x) e s, subst (λ (q : List ReadOf). NameFault (text_of files q) (link_skeleton files q).declared f) e h)

  pub names_within : (flaws : List Flaw) → AreFlawsOf Names flaws → All (λ w. w.file < length files) flaws
  names_within flaws of = flaws_within Names name_within flaws of

  pub all_names_listed : (flaws : List Flaw) → AreFlawsOf Names flaws → (listed : List FaultAt) → AreListed files flaws listed → AreAllOf (NameFaults files) listed
  all_names_listed flaws of listed l = all_of Names name_within flaws of (NameFaults files) (λ f x s h. name_fault reads f x are s h) name_out listed l

  reference_within : (f : Fault) → References f → f.place.file < length files
  reference_within f h = (reference_found files reads are f h).there.0

  reference_out : (x : FaultAt) → ReferenceFaults files x → (f : Fault) × Stands f x × References f
  reference_out x (reference_fault rs f z r s h) =
      let e = read_once files rs reads r are in
      (f, subst (λ (q : List ReadOf). FaultStandsAt files q f x) e s, subst (λ (q : List ReadOf). ReferenceFault (text_of files q) (link_skeleton files q) f) e h)

  pub references_within : (flaws : List Flaw) → AreFlawsOf References flaws → All (λ w. w.file < length files) flaws
  references_within flaws of = flaws_within References reference_within flaws of

  pub all_references_listed : (flaws : List Flaw) → AreFlawsOf References flaws → (listed : List FaultAt) → AreListed files flaws listed → AreAllOf (ReferenceFaults files) listed
  all_references_listed flaws of listed l = all_of References reference_within flaws of (ReferenceFaults files) (λ f x s h. reference_fault reads f x are s h) reference_out listed l
