-- Numbers that are read up to 2^64 change no fault but others at the place of one with a lower number.
use Rattle.std.proofs.Common.{◌≡◌, ◌⊎◌, ℕ, List, [], ◌∷◌, Option, Some, None, refl, sym, ap, ◌∙◌, subst, inl, inr, Contains}
use Rattle.proto_files.proofs.Common.{FaultAt, FileOf, HasNoFault, read_at}
use Rattle.proto_text.specs.Texts.{offset_at}
use Rattle.proto_ast.specs.Numbers.{past}
use Rattle.proto_desc_numbers.specs.declared.flaw.Flaw.{Flaw}
use Rattle.proto_desc_numbers.proofs.Common.{AlikeCaps, caps_back, past_or_none}
use Rattle.proto_desc_numbers.proofs.CappedCovers.{Beneath}
use Rattle.proto_desc_extensions.specs.Extensions.{all_flaws}
use Rattle.proto_desc_extensions.proofs.CappedExtensions.{covered_all}
use Rattle.proto_desc_extensions.proofs.WorkspaceFlaws.{all_of_checks}
use Rattle.proto_desc.specs.Checked.{CheckFaults, fault_of_flaw, of_flaw as of_plain_flaw}
use Rattle.proto_desc.specs.Whole.{WorkspaceFaults, of_check as of_plain_check, of_files as of_plain_files, of_link as of_plain_link, of_path as of_plain_path, of_read as of_plain_read}
use Rattle.proto_all_faults.specs.AllFaults.{CheckFaultsUpTo, FaultsUpTo, of_check, of_files, of_flaw, of_link, of_path, of_read}
use Rattle.proto_all_faults.specs.Common.{AreAllFaults, CapsKeepAllElse, FirstIsLeast, HasLower, NoneIsListed}
use Rattle.proto_all_faults.proofs.FirstPhases.{none_there}
use Rattle.proto_all_faults.proofs.SameLeast.{first_least, same_least, same_none}

-- ---- faults of checks with one cap and another

module _ (c d : Option ℕ) (caps : AlikeCaps c d) where
  pub checks_kept : (files : List FileOf) (x : FaultAt) → CheckFaultsUpTo c files x → CheckFaultsUpTo d files x ⊎ HasLower (CheckFaultsUpTo d files) x
  checks_kept files x (of_flaw reads file f are within there) = go ((covered_all files reads c d caps file).each f there)
    where
      there_too : (g : Flaw) → Contains (all_flaws d files reads file) g → CheckFaultsUpTo d files (fault_of_flaw files reads file g)
      there_too g h = of_flaw reads file g are within h

      go : Contains (all_flaws d files reads file) f ⊎ Beneath (all_flaws d files reads file) f → CheckFaultsUpTo d files (fault_of_flaw files reads file f) ⊎ HasLower (CheckFaultsUpTo d files) (fault_of_flaw files reads file f)
      go (inl h) = inl (there_too f h)
      go (inr b) = inr (record {
        lower = fault_of_flaw files reads file b.0;
        is_fault = there_too b.0 b.1;
        path = refl;
        offset = ap (offset_at (read_at reads file).tokens) b.2;
        phase = all_of_checks d files reads file b.0 b.1 ∙ sym (all_of_checks c files reads file f there);
        number = b.3;
      })

-- ---- those without a cap

plain_check : (files : List FileOf) (x : FaultAt) → CheckFaultsUpTo None files x → CheckFaults files x
plain_check files x (of_flaw reads file f are within there) = of_plain_flaw reads file f are within there

check_plain : (files : List FileOf) (x : FaultAt) → CheckFaults files x → CheckFaultsUpTo None files x
check_plain files x (of_plain_flaw reads file f are within there) = of_flaw reads file f are within there

-- one with a lower number among more faults
lower_among : (a b : FaultAt → Type 0) (x : FaultAt) → ((y : FaultAt) → a y → b y) → HasLower a x → HasLower b x
lower_among a b x more h = record { lower = h.lower; is_fault = more h.lower h.is_fault; path = h.path; offset = h.offset; phase = h.phase; number = h.number }

plain_checks : (files : List FileOf) (x : FaultAt) → CheckFaultsUpTo (Some past) files x → CheckFaults files x ⊎ HasLower (CheckFaults files) x
plain_checks files x h = elim (checks_kept (Some past) None (past_or_none (Some past) refl) files x h) [
  | inl k ↦ inl (plain_check files x k)
  | inr low ↦ inr (lower_among (CheckFaultsUpTo None files) (CheckFaults files) x (plain_check files) low)
]

capped_checks : (files : List FileOf) (x : FaultAt) → CheckFaults files x → CheckFaultsUpTo (Some past) files x ⊎ HasLower (CheckFaultsUpTo (Some past) files) x
capped_checks files x h = checks_kept None (Some past) (caps_back (Some past) None (past_or_none (Some past) refl)) files x (check_plain files x h)

-- ---- all faults

pub caps_keep_all_else : CapsKeepAllElse
caps_keep_all_else = record { forth = forth; back = back }
  where
    forth : (given : List FileOf) (x : FaultAt) → FaultsUpTo (Some past) given x → WorkspaceFaults given x ⊎ HasLower (WorkspaceFaults given) x
    forth given x (of_path z h) = inl (of_plain_path x h)
    forth given x (of_files files z in_order (of_read w h)) = inl (of_plain_files files x in_order (of_plain_read x h))
    forth given x (of_files files z in_order (of_link w h)) = inl (of_plain_files files x in_order (of_plain_link x h))
    forth given x (of_files files z in_order (of_check w h)) = elim (plain_checks files x h) [
      | inl k ↦ inl (of_plain_files files x in_order (of_plain_check x k))
      | inr low ↦ inr (lower_among (CheckFaults files) (WorkspaceFaults given) x (λ y k. of_plain_files files y in_order (of_plain_check y k)) low)
    ]

    back : (given : List FileOf) (x : FaultAt) → WorkspaceFaults given x → FaultsUpTo (Some past) given x ⊎ HasLower (FaultsUpTo (Some past) given) x
    back given x (of_plain_path z h) = inl (of_path x h)
    back given x (of_plain_files files z in_order (of_plain_read w h)) = inl (of_files files x in_order (of_read x h))
    back given x (of_plain_files files z in_order (of_plain_link w h)) = inl (of_files files x in_order (of_link x h))
    back given x (of_plain_files files z in_order (of_plain_check w h)) = elim (capped_checks files x h) [
      | inl k ↦ inl (of_files files x in_order (of_check x k))
      | inr low ↦ inr (lower_among (CheckFaultsUpTo (Some past) files) (FaultsUpTo (Some past) given) x (λ y k. of_files files y in_order (of_check y k)) low)
    ]

pub first_is_least : FirstIsLeast
first_is_least given x rest all =
    same_least (FaultsUpTo (Some past) given) (WorkspaceFaults given) (caps_keep_all_else.forth given) (caps_keep_all_else.back given) x
    (first_least (FaultsUpTo (Some past) given) x rest all)

pub none_is_listed : NoneIsListed
none_is_listed given listed all = (forth, back listed all)
  where
    forth : listed ≡ [] → HasNoFault (WorkspaceFaults given)
    forth e =
        same_none (FaultsUpTo (Some past) given) (WorkspaceFaults given) (caps_keep_all_else.forth given) (caps_keep_all_else.back given)
        (none_there (FaultsUpTo (Some past) given) (subst (AreAllFaults given) e all))

    back : (l : List FaultAt) → AreAllFaults given l → HasNoFault (WorkspaceFaults given) → l ≡ []
    back [] a none = refl
    back (x ∷ rest) a none = absurd (none x (first_is_least given x rest a).is_fault)
