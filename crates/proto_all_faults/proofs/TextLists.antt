-- The faults of files, each of which has at most one of its phase.
use Rattle.std.proofs.Common.{◌≡◌, ◌⊎◌, ℕ, ◌+◌, ◌<◌, ◌≤◌, List, [], ◌∷◌, ◌++◌, length, get_or, take, Option, Some, None, refl, sym, ap, ◌∙◌, subst, inl, inr, arith, take_all, append-nil, Contains, String, Global, string_bytes}
use Rattle.proto_base.proofs.Common.{Contains-append_cases, Contains-append_left, Contains-append_right, Vec, contains_cases, contains_head, contains_map, taken_more}
use Rattle.proto_base.specs.declared.fault.FaultKind.{FaultKind}
use Rattle.proto_base.specs.declared.fault.FaultKind.TheVariants as kind
use Rattle.proto_base.specs.declared.fault.SchemaFault.{SchemaFault}
use Rattle.proto_base.specs.declared.profile.Profile.{Profile}
use Rattle.proto_text.specs.declared.fault.TextFault.{TextFault}
use Rattle.proto_text.specs.declared.fault.TextFault.TheVariants as text
use Rattle.proto_text.specs.SourceFacts.{NewSource}
use Rattle.proto_files.specs.Common.{FaultAt, FaultsOf, FileOf, HasNoFault, HasNone, IsFileError, IsTextFault, TextFaults, fault_at, file_of_as, files_of_as, text_error}
use Rattle.proto_all_faults.specs.Common.{AddsIfAny, AreFound, IsAdded, IsFaultIfAny, as_list}
use Rattle.std.proofs.Common.{Err}

-- ---- one file

-- the bytes are no text
pub no_source : (path : String Global) (file : FileOf) (fault : TextFault) → string_bytes path ≡ file.path → NewSource file.bytes (Err fault) → IsFileError IsTextFault file (text_error path fault)
no_source path file text.TooLarge at h = record { at_file = at; is_fault = (refl, h); only = only }
  where
    only : (b : ℕ) (k : FaultKind) → IsTextFault file b k → (b ≡ 0) × (k ≡ kind.TooLarge)
    only b kind.TooLarge f = (f.0, refl)
    only b kind.NotUtf8 f = (let short = f.1 in absurd (omega (arith, short, h)))
    only b kind.BadChar f = (let short = f.0.short in absurd (omega (arith, short, h)))
    only b kind.OpenComment f = (let short = f.0.short in absurd (omega (arith, short, h)))
    only b kind.OpenString f = (let short = f.0.short in absurd (omega (arith, short, h)))
    only b kind.BadEscape f = (let short = f.0.short in absurd (omega (arith, short, h)))
    only b kind.BadNumber f = (let short = f.0.short in absurd (omega (arith, short, h)))
    only b _ f = absurd f
no_source path file text.NotUtf8 at h = record { at_file = at; is_fault = (refl, h.0, h.1); only = only }
  where
    only : (b : ℕ) (k : FaultKind) → IsTextFault file b k → (b ≡ 0) × (k ≡ kind.NotUtf8)
    only b kind.TooLarge f = (let long = f.1 in let short = h.0 in absurd (omega (arith, short, long)))
    only b kind.NotUtf8 f = (f.0, refl)
    only b kind.BadChar f = absurd (h.1 f.0.utf8)
    only b kind.OpenComment f = absurd (h.1 f.0.utf8)
    only b kind.OpenString f = absurd (h.1 f.0.utf8)
    only b kind.BadEscape f = absurd (h.1 f.0.utf8)
    only b kind.BadNumber f = absurd (h.1 f.0.utf8)
    only b _ f = absurd f
no_source path file (text.At offset fault) at h = absurd h
no_source path file text.NoMemory at h = absurd h

-- the fault of an error, which was added
pub added_one : (says : FileOf → ℕ → FaultKind → Type 0) (file : FileOf) (e : SchemaFault) (old new : List FaultAt) → IsFileError says file e → IsAdded e old new → AddsIfAny says file old new
added_one says file e old new h is = (Some (fault_at is.0), subst (IsFileError says file) is.1 h, is.2)

-- there is none
pub added_none : (says : FileOf → ℕ → FaultKind → Type 0) (file : FileOf) (found : List FaultAt) → HasNone says file → AddsIfAny says file found found
added_none says file found none = (None, none, sym (append-nil found))

-- ---- one file more

module _ (says : FileOf → ℕ → FaultKind → Type 0) where
  found_more : (files : List FileOf) (f : FileOf) (found : List FaultAt) (o : Option FaultAt) → AreFound (FaultsOf says files) found → IsFaultIfAny says f o → AreFound (FaultsOf says (files ++ f ∷ [])) (found ++ as_list o)
  found_more files f found o are is = record {
    sound = λ x c. sound x (Contains-append_cases found (as_list o) x c);
    whole = λ x h. whole x h (Contains-append_cases files (f ∷ []) h.0 h.1);
  }
    where
      last : Contains (files ++ f ∷ []) f
      last = Contains-append_right files (f ∷ []) f (contains_head f [])

      its_own : (p : Option FaultAt) → IsFaultIfAny says f p → (x : FaultAt) → Contains (as_list p) x → FaultsOf says (files ++ f ∷ []) x
      its_own None n x c = absurd (omega (arith, c.1))
      its_own (Some y) only x c = elim (contains_cases y x [] c) [
        | inl e ↦ subst (FaultsOf says (files ++ f ∷ [])) e (f, last, only.at_file, only.is_fault)
        | inr d ↦ absurd (omega (arith, d.1))
      ]

      sound : (x : FaultAt) → Contains found x ⊎ Contains (as_list o) x → FaultsOf says (files ++ f ∷ []) x
      sound x (inl c) = (let g = are.sound x c in (g.0, Contains-append_left files (f ∷ []) g.0 g.1, g.2, g.3))
      sound x (inr c) = its_own o is x c

      the_one : (p : Option FaultAt) → IsFaultIfAny says f p → (x : FaultAt) → x.path ≡ f.path → says f x.offset x.kind → Contains (as_list p) x
      the_one None none x at h = absurd (none x.offset x.kind h)
      the_one (Some y) only x at h =
          let same = only.only x.offset x.kind h in
          let path : y.path ≡ x.path = only.at_file ∙ sym at in
          let offset : y.offset ≡ x.offset = sym same.0 in
          let number : y.kind ≡ x.kind = sym same.1 in
          (0, omega arith, λ i. record { path = path i; offset = offset i; kind = number i })

      whole : (x : FaultAt) (h : FaultsOf says (files ++ f ∷ []) x) → Contains files h.0 ⊎ Contains (f ∷ []) h.0 → Contains (found ++ as_list o) x
      whole x h (inl c) = Contains-append_left found (as_list o) x (are.whole x (h.0, c, h.2, h.3))
      whole x h (inr c) = elim (contains_cases f h.0 [] c) [
        | inl e ↦ Contains-append_right found (as_list o) x (the_one o is x (h.2 ∙ ap (λ (g : FileOf). g.path) (sym e)) (subst (λ (g : FileOf). says g x.offset x.kind) (sym e) h.3))
        | inr d ↦ absurd (omega (arith, d.1))
      ]

  pub none_yet : (found : List FaultAt) → found ≡ [] → AreFound (FaultsOf says []) found
  none_yet found e = record { sound = λ x c. absurd (none x (subst (λ (l : List FaultAt). Contains l x) e c)); whole = λ x h. (let c = h.1.1 in absurd (omega (arith, c))) }
    where
      none : (x : FaultAt) → Contains [] x → ⊥
      none x c = omega (arith, c.1)

  module _ (p : Profile) (given : List (String Global × Vec ℕ)) (i : ℕ) where
    pub read_turn : (x : String Global × Vec ℕ) (path bytes : List ℕ) (found next : List FaultAt) → i < length given → x ≡ get_or given i x → path ≡ string_bytes x.0 → bytes ≡ x.1.items
        → AddsIfAny says (record { path = path; bytes = bytes; profile = p }) found next → AreFound (FaultsOf says (files_of_as p (take i given))) found → AreFound (FaultsOf says (files_of_as p (take (i + 1) given))) next
    read_turn x path bytes found next l at named b adds are =
        let one : FileOf = record { path = path; bytes = bytes; profile = p } in
        let same : one ≡ file_of_as p x = λ j. record { path = named j; bytes = b j; profile = p } in
        let more = found_more (files_of_as p (take i given)) (file_of_as p x) found adds.0 are (subst (λ (f : FileOf). IsFaultIfAny says f adds.0) same adds.1) in
        subst (λ (fs : List FileOf). AreFound (FaultsOf says fs) next) (taken_more (file_of_as p) given i x x l at)
        (subst (AreFound (FaultsOf says (files_of_as p (take i given) ++ file_of_as p x ∷ []))) (sym adds.2) more)

    pub read_end : (found : List FaultAt) → length given ≤ i → AreFound (FaultsOf says (files_of_as p (take i given))) found → AreFound (FaultsOf says (files_of_as p given)) found
    read_end found l are = subst (λ (fs : List (String Global × Vec ℕ)). AreFound (FaultsOf says (files_of_as p fs)) found) (take_all i given l) are

-- where no text has a fault, that of this file has none
pub no_text_fault_at : (p : Profile) (given : List (String Global × Vec ℕ)) (i : ℕ) (x : String Global × Vec ℕ) (path bytes : List ℕ) → HasNoFault (TextFaults (files_of_as p given)) → i < length given → x ≡ get_or given i x → path ≡ string_bytes x.0 → bytes ≡ x.1.items
    → HasNone IsTextFault (record { path = path; bytes = bytes; profile = p })
no_text_fault_at p given i x path bytes none l at named is offset k h =
    let one : FileOf = record { path = path; bytes = bytes; profile = p } in
    let same : one ≡ file_of_as p x = λ j. record { path = named j; bytes = is j; profile = p } in
    none (record { path = string_bytes x.0; offset = offset; kind = k }) (file_of_as p x, contains_map (file_of_as p) given x (i, l, sym at), refl, subst (λ (f : FileOf). IsTextFault f offset k) same h)
