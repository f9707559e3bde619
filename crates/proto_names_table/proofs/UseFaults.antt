-- The faults of references by the file and the use that they stand in (for the crates above).
use Rattle.std.proofs.Common.{◌≡◌, ◌↔◌, ℕ, zero, suc, ◌+◌, ◌<◌, List, [], ◌∷◌, length, get_or, map, refl, sym, ap, subst, inl, inr, arith, Contains}
use Rattle.proto_base.proofs.Common.{Contains-append_left, Contains-append_right, Contains-append_cases, contains_map, from_map}
use Rattle.proto_names_rules.proofs.Common.{Import, Workspace, Skeleton, Used, reference_of, workspace_of, FileNames, At, used_in, file_used, all_used, skeleton_of_files, Fault, fault, ReferenceFault}
use Rattle.proto_case.specs.Camel.{entry_name}
use Rattle.proto_names_rules.specs.Faults as all
use Rattle.proto_names_table.specs.Naming as one
use Rattle.proto_names_table.specs.Naming.{ReferenceFlaw, UseFault}

-- where a use stands, file n the first
record StandsIn (n : ℕ) (fs : List FileNames) (u : Used At) : Type 0 where
  place : ℕ
  file : ℕ
  names : FileNames
  use_of : Used ℕ
  numbered : n + place ≡ file
  within : place < length fs
  here : get_or fs place names ≡ names
  used : Contains names.used use_of
  is : used_in file use_of ≡ u

stands_in : (n : ℕ) (fs : List FileNames) (u : Used At) → Contains (all_used n fs) u → StandsIn n fs u
stands_in n [] u c = absurd (omega (arith, c.1))
stands_in n (f ∷ fs) u c = elim (Contains-append_cases (file_used n f) (all_used (suc n) fs) u c) [
  | inl a ↦ let v = from_map (used_in n) f.used u a in record { place = 0; file = n; names = f; use_of = v.0; numbered = omega arith; within = omega arith; here = refl; used = v.1; is = v.2 }
  | inr b ↦ let r = stands_in (suc n) fs u b in record { place = suc r.place; file = r.file; names = r.names; use_of = r.use_of; numbered = omega (arith, r.numbered); within = omega (arith, r.within); here = r.here; used = r.used; is = r.is }
]

used_there : (n place file : ℕ) (fs : List FileNames) (g : FileNames) (v : Used ℕ) → n + place ≡ file → place < length fs → get_or fs place g ≡ g → Contains g.used v
    → Contains (all_used n fs) (used_in file v)
used_there n place file [] g v e l h c = absurd (omega (arith, l))
used_there n zero file (f ∷ fs) g v e l h c =
    let same : n ≡ file = omega (arith, e) in
    Contains-append_left (file_used n f) (all_used (suc n) fs) (used_in file v)
    (subst (λ m. Contains (map (used_in n) f.used) (used_in m v)) same (contains_map (used_in n) f.used v (subst (λ (z : FileNames). Contains z.used v) (sym h) c)))
used_there n (suc place) file (f ∷ fs) g v e l h c =
    Contains-append_right (file_used n f) (all_used (suc n) fs) (used_in file v) (used_there (suc n) place file fs g v (omega (arith, e)) (omega (arith, l)) h c)

module _ (text : At → List ℕ) (imports : List Import) (fs : List FileNames) where
  abbrev skeleton : Skeleton At
  skeleton = skeleton_of_files imports fs

  abbrev w : Workspace
  w = workspace_of text entry_name skeleton

  flawed : (u : Used At) (number : ℕ) → Contains (all_used 0 fs) u
      → ReferenceFlaw w (reference_of text entry_name u) number → UseFault text w fs (fault u.first number)
  flawed u number c flaw =
      let r = stands_in 0 fs u c in
      let same : r.place ≡ r.file = omega (arith, r.numbered) in
      record {
        file = r.file;
        names = r.names;
        one = r.use_of;
        number = number;
        within = omega (arith, r.within, same);
        here = subst (λ k. get_or fs k r.names ≡ r.names) same r.here;
        used = r.used;
        flaw = subst (λ (z : Used At). ReferenceFlaw w (reference_of text entry_name z) number) (sym r.is) flaw;
        is = ap (λ (z : Used At). fault z.first number) (sym r.is);
      }

  to_use : (f : Fault) → ReferenceFault text skeleton f → UseFault text w fs f
  to_use f (all.unresolved u c h) = flawed u 14 c (one.unresolved h)
  to_use f (all.wrong_kind u s c cs h m e) = flawed u 15 c (one.wrong_kind s cs h m e)
  to_use f (all.of_entry u s c cs h e) = flawed u 16 c (one.of_entry s cs h e)

  from_flaw : (u : Used At) (number : ℕ) → Contains (all_used 0 fs) u
      → ReferenceFlaw w (reference_of text entry_name u) number → ReferenceFault text skeleton (fault u.first number)
  from_flaw u number c (one.unresolved h) = all.unresolved u c h
  from_flaw u number c (one.wrong_kind s cs h m e) = all.wrong_kind u s c cs h m e
  from_flaw u number c (one.of_entry s cs h e) = all.of_entry u s c cs h e

  from_use : (f : Fault) → UseFault text w fs f → ReferenceFault text skeleton f
  from_use f x =
      subst (ReferenceFault text skeleton) (sym x.is)
      (from_flaw (used_in x.file x.one) x.number (used_there 0 x.file x.file fs x.names x.one (omega arith) x.within x.here x.used) x.flaw)

  pub use_faults : (f : Fault)
      → ReferenceFault text (skeleton_of_files imports fs) f ↔ UseFault text (workspace_of text entry_name (skeleton_of_files imports fs)) fs f
  use_faults f = (to_use f, from_use f)
