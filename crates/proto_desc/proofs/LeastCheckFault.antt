-- The least flaw of the first file that has one is the least fault of the checks.
use Rattle.std.proofs.Common.{◌≡◌, ℕ, ◌<◌, ◌⊎◌, inl, inr, Bool, true, false, ◌==◌, ◌&&◌, ◌||◌, List, length, Some, None, refl, sym, ap, subst, ◌∙◌, arith, nat_lt, Contains, eq-eqb}
use Rattle.proto_base.proofs.Common.{nat_tests, kind_number, phase_of}
use Rattle.proto_text.specs.Texts.{offset_at}
use Rattle.proto_files.proofs.Common.{FaultAt, ComesBefore, IsLeastFault, HasNoFault, FileOf, AreWorkspaceFiles, file_at, comes_before_cases, ReadOf, AreRead, read_at, read_once}
use Rattle.proto_names_imports.proofs.LeastLinkFault.{file_before, one_file, one_token, token_before}
use Rattle.proto_desc_numbers.specs.Flaws.{IsLeastOfFlaws, comes_before}
use Rattle.proto_desc_numbers.specs.declared.flaw.Flaw.{Flaw}
use Rattle.proto_desc_extensions.proofs.WorkspaceFlaws.{all_of_checks, all_within}
use Rattle.proto_desc.specs.Common.{CheckFaults, of_flaw, fault_of_flaw, flaws_of, IsCheckError, HasNoFlaw, IsLeastFlawError}
use Rattle.proto_base.specs.declared.fault.SchemaFault.{SchemaFault}
use Rattle.proto_base.specs.declared.fault.SchemaFault.TheVariants.{Schema, NoMemory}

less : (a b : ℕ) → a < b → nat_lt a b ≡ true
less a b l = grind (arith, nat_tests)

before_is : (f g : Flaw) → (g.token < f.token) ⊎ ((g.token ≡ f.token) × (kind_number g.kind < kind_number f.kind)) → comes_before g f ≡ true
before_is f g (inl lt) = ap (λ (b : Bool). b || ((g.token == f.token) && nat_lt (kind_number g.kind) (kind_number f.kind))) (less g.token f.token lt)
before_is f g (inr e) =
    ap (λ (b : Bool). nat_lt g.token f.token || (b && nat_lt (kind_number g.kind) (kind_number f.kind))) (eq-eqb g.token f.token e.0)
    ∙ ap (λ (b : Bool). nat_lt g.token f.token || b) (less (kind_number g.kind) (kind_number f.kind) e.1)
    ∙ or_true (nat_lt g.token f.token)
  where
    or_true : (b : Bool) → (b || true) ≡ true
    or_true true = refl
    or_true false = refl

module _ (files : List FileOf) (reads : List ReadOf) (are : AreRead files reads) where
  -- a flaw of a file that is read so
  pub record Said (y : FaultAt) : Type 0 where
    pub file : ℕ
    pub flaw : Flaw
    pub within : file < length files
    pub there : Contains (flaws_of files reads file) flaw
    pub is : y ≡ fault_of_flaw files reads file flaw

  said : (y : FaultAt) → CheckFaults files y → Said y
  said y (of_flaw rs file f r within c) =
      let e = read_once files rs reads r are in
      record { file = file; flaw = f; within = within; there = subst (λ (q : List ReadOf). Contains (flaws_of files q file) f) e c; is = ap (λ (q : List ReadOf). fault_of_flaw files q file f) e }

  phase_is : (file : ℕ) (f : Flaw) → Contains (flaws_of files reads file) f → phase_of f.kind ≡ 6
  phase_is file f c = all_of_checks None files reads file f c

  token_there : (file : ℕ) → file < length files → (f : Flaw) → Contains (flaws_of files reads file) f → f.token < length (read_at reads file).tokens
  token_there file within f c = all_within None files reads file are within f c

  pub no_fault : ((k : ℕ) → k < length files → HasNoFlaw files k) → HasNoFault (CheckFaults files)
  no_fault none y h = let s = said y h in none s.file s.within reads are s.flaw s.there

  module _ (are_files : AreWorkspaceFiles files) (file : ℕ) (within : file < length files) (none : (k : ℕ) → k < file → HasNoFlaw files k) (x : Flaw) (least : IsLeastOfFlaws (Contains (flaws_of files reads file)) (Some x)) where
    -- in the same file
    in_file : (g : Flaw) → Contains (flaws_of files reads file) g
        → (offset_at (read_at reads file).tokens g.token < offset_at (read_at reads file).tokens x.token) ⊎ ((offset_at (read_at reads file).tokens g.token ≡ offset_at (read_at reads file).tokens x.token) × (kind_number g.kind < kind_number x.kind)) → ⊥
    in_file g c h =
        let bytes = (file_at files file).bytes in
        let tokens = (read_at reads file).tokens in
        let lexed = are.tokens file within in
        let g_there = token_there file within g c in
        let x_there = token_there file within x least.0 in
        let not_before = least.1 g c in
        elim h [
          | inl lt ↦ (let b = before_is x g (inl (token_before bytes tokens g.token x.token lexed g_there lt)) in absurd (cc))
          | inr e ↦ (let b = before_is x g (inr (one_token bytes tokens g.token x.token lexed g_there x_there e.0, e.1)) in absurd (cc))
        ]

    in_order : (k : ℕ) (g : Flaw) → k < length files → Contains (flaws_of files reads k) g → ComesBefore (fault_of_flaw files reads k g) (fault_of_flaw files reads file x) → ⊥
    in_order k g l c before = elim (comes_before_cases (fault_of_flaw files reads k g) (fault_of_flaw files reads file x) before) [
      | inl lt ↦ absurd (omega (arith, lt, phase_is k g c, phase_is file x least.0))
      | inr more ↦ elim more.1 [
        | inl path ↦ none k (file_before files are_files k file l path) reads are g c
        | inr place ↦ here (one_file files are_files k file l within place.0) place.1
      ]
    ]
      where
        here : k ≡ file → (offset_at (read_at reads k).tokens g.token < offset_at (read_at reads file).tokens x.token) ⊎ ((offset_at (read_at reads k).tokens g.token ≡ offset_at (read_at reads file).tokens x.token) × (kind_number g.kind < kind_number x.kind)) → ⊥
        here e h =
            in_file g (subst (λ (i : ℕ). Contains (flaws_of files reads i) g) e c)
            (subst (λ (i : ℕ). (offset_at (read_at reads i).tokens g.token < offset_at (read_at reads file).tokens x.token) ⊎ ((offset_at (read_at reads i).tokens g.token ≡ offset_at (read_at reads file).tokens x.token) × (kind_number g.kind < kind_number x.kind))) e h)

    pub least_fault : IsLeastFault (CheckFaults files) (fault_of_flaw files reads file x)
    least_fault = record {
      is_fault = of_flaw reads file x are within least.0;
      is_least = λ y h before. (let s = said y h in in_order s.file s.flaw s.within s.there (subst (λ (z : FaultAt). ComesBefore z (fault_of_flaw files reads file x)) s.is before));
    }

  -- what is answered
  pub check_error : AreWorkspaceFiles files → (file : ℕ) → file < length files → ((k : ℕ) → k < file → HasNoFlaw files k) → (e : SchemaFault) → IsLeastFlawError files file e → IsCheckError files e
  check_error are_files file within none (Schema f) h = subst (IsLeastFault (CheckFaults files)) (sym (h.fault reads are)) (least_fault are_files file within none h.flaw (h.least reads are))
  check_error are_files file within none NoMemory h = tt
