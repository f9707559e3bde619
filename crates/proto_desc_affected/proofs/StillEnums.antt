-- Enums of edited files that are what is kept of them.
use Rattle.std.proofs.Common.{◌≡◌, ℕ, ◌<◌, Bool, true, false, cond, not, ◌||◌, nat_eq, List, [], length, get_or, Option, Some, None, IfSome, refl, sym, subst, subst₂, ◌∙◌, eqb-true}
use Rattle.proto_base.proofs.Common.{false≢true, same_Some}
use Rattle.proto_files.proofs.Common.{AreRead, FileOf, ReadOf}
use Rattle.proto_names.specs.Linking.{LinkOf, name_text}
use Rattle.proto_ast.specs.Scenes.{EnumOf}
use Rattle.proto_desc_affected.specs.Checked.{IsEnumAtRow, IsEnumStill, KeepsEnum, EnumSummaryOf, FileSummaryOf, file_summary, nothing_kept}
use Rattle.proto_desc_affected.specs.Values.{IsSameEnum}
use Rattle.proto_desc_affected.proofs.SameScenes.{same_enum}
use Rattle.proto_desc_affected.specs.Common.{AreStillEnums, IsEnumAsKept, is_still_to}

-- two enums that agree but for the names of their values, and in these too if they are the same whole
pub compared : (whole : Bool) (a b : EnumOf) → a.is_proto3 ≡ b.is_proto3 → a.starts_past_zero ≡ b.starts_past_zero → (whole ≡ true → a.values ≡ b.values) → IsSameEnum (not whole) (Some a) (Some b)
compared true a b version starts values = λ i. Some (record { is_proto3 = version i; starts_past_zero = starts i; values = values refl i })
compared false a b version starts values = λ i. Some (record { is_proto3 = version i; starts_past_zero = starts i; values = [] })

-- an enum that is kept of a file under the name of another, which is so what is kept of it
pub kept_by_name : (k : FileSummaryOf) (name : List ℕ) (was : EnumOf) (now : EnumSummaryOf) → KeepsEnum k name was → name ≡ now.name → (r : Option Bool) → IfSome r (λ whole. IsSameEnum (not whole) (Some was) (Some now.enum)) → IfSome r (IsEnumAsKept k now)
kept_by_name k name was now there same None h = tt
kept_by_name k name was now there same (Some whole) h = (was, subst (λ (n : List ℕ). KeepsEnum k n was) same there, h)

-- what is so whole is so to any file
whole_to_any : (files : List FileOf) (l : LinkOf) (ks : List FileSummaryOf) (proto3 : Bool) (row : ℕ) → IsEnumAtRow files l ks false row → IsEnumAtRow files l ks proto3 row
whole_to_any files l ks proto3 row is name text =
    let still = is name text in
    record {
      file = still.file;
      within = still.within;
      before = still.before;
      now = still.now;
      was = still.was;
      is = still.is;
      same = same_enum proto3 (Some still.before) (Some still.now) still.same;
    }

-- an enum that is what is kept of it, of the name in this row
pub still_at : (files : List FileOf) (l : LinkOf) (ks : List FileSummaryOf) (k : FileSummaryOf) (now : EnumSummaryOf) (whole : Bool) → IsEnumAsKept k now whole → (file : ℕ) → file < length files → get_or ks file nothing_kept ≡ k
    → ((reads : List ReadOf) → AreRead files reads → KeepsEnum (file_summary files reads file) now.name now.enum) → (row : ℕ) → name_text l row ≡ Some now.name → IsEnumAtRow files l ks (not whole) row
still_at files l ks k now whole as_kept file within here is row text name h =
    subst (IsEnumStill files ks (not whole)) (same_Some now.name name (sym text ∙ h))
    (record {
      file = file;
      within = within;
      before = as_kept.0;
      now = now.enum;
      was = subst (λ (x : FileSummaryOf). KeepsEnum x now.name as_kept.0) (sym here) as_kept.1;
      is = is;
      same = as_kept.2;
    })

-- one row more
pub still_more : (files : List FileOf) (l : LinkOf) (ks : List FileSummaryOf) (old new : ℕ → Option Bool) (row : ℕ) (whole : Bool) → ((q : ℕ) → new q ≡ cond (nat_eq row q) (Some whole) (old q)) → IsEnumAtRow files l ks (not whole) row → AreStillEnums files l ks old → AreStillEnums files l ks new
still_more files l ks old new row whole put is are other w h = by (nat_eq row other) refl (sym (put other) ∙ h)
  where
    by : (b : Bool) → nat_eq row other ≡ b → cond b (Some whole) (old other) ≡ Some w → IsEnumAtRow files l ks (not w) other
    by true e t = subst₂ (λ (x : Bool) (r : ℕ). IsEnumAtRow files l ks (not x) r) (same_Some whole w t) (eqb-true row other e) is
    by false e t = are other w t

-- so it is with a row of which that is told
pub still_row : (files : List FileOf) (l : LinkOf) (ks : List FileSummaryOf) (still : ℕ → Option Bool) → AreStillEnums files l ks still → (proto3 : Bool) (row : ℕ) → is_still_to proto3 (still row) ≡ true → IsEnumAtRow files l ks proto3 row
still_row files l ks still are proto3 row e = by (still row) refl e
  where
    by : (o : Option Bool) → still row ≡ o → is_still_to proto3 o ≡ true → IsEnumAtRow files l ks proto3 row
    by None h t = absurd (false≢true t)
    by (Some true) h t = whole_to_any files l ks proto3 row (are row true h)
    by (Some false) h t = to_proto3 proto3 t (are row false h)
      where
        to_proto3 : (b : Bool) → (b || false) ≡ true → IsEnumAtRow files l ks true row → IsEnumAtRow files l ks b row
        to_proto3 true t is = is
        to_proto3 false t is = absurd (false≢true t)
