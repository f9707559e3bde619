-- What refuses an edit, as each kind of edit is answered.
use Rattle.std.proofs.Common.{ℕ, ◌<◌, List}
use Rattle.proto_files.proofs.Common.{HasNoFault, FileOf}
use Rattle.proto_names_imports.specs.Links.{LinkFaults}
use Rattle.proto_edit_entries.specs.Entries.{ChangeOf}
use Rattle.proto_edit_entries.specs.declared.refusal.Refusal.{Refusal}
use Rattle.proto_edit_entries.specs.declared.refusal.Refusal.TheVariants as refusal
use Rattle.proto_desc.specs.Whole.{of_link}
use Rattle.proto_edit_rename.specs.Renames.{IsLeastRenameCase, IsRenamed, IsRenameRefusal}
use Rattle.proto_edit_statements.specs.Edits.{HasAdditionChanges, IsAdditionCase, IsAdditionRefusal, HasDeletionChanges, IsDeletionCase, IsDeletionRefusal, IsDropCase, IsDropRefusal, HasDropChanges, IsLeastOf}
use Rattle.proto_edit.specs.Common.{AreCompiled, rename, delete_field, add_import, drop_import, AreChanges, Asked, IsAdmissible, IsLeastCase, IsRefusal}
use Rattle.proto_edit.specs.Workspaces.{IsCase}

-- ---- the least case

least_case : (w : List FileOf) (e : Asked) (n : ℕ) → IsCase w e n → ((k : ℕ) → k < n → IsCase w e k → ⊥) → IsLeastCase w e n
least_case w e n is least = record { is = is; least = least }

-- ---- a rename, as it is answered

least_rename : (w : List FileOf) (name to : List ℕ) (n : ℕ) → IsLeastRenameCase w name to n → IsLeastCase w (rename name to) n
least_rename w name to n l = least_case w (rename name to) n l.is l.least

pub rename_refused : (w : List FileOf) (name to : List ℕ) (r : Refusal) → IsRenameRefusal w name to r → IsRefusal w (rename name to) r
rename_refused w name to refusal.NoMemory h = tt
rename_refused w name to (refusal.Captured path offset) h = (least_rename w name to 7 h.0, h.1)
rename_refused w name to (refusal.Needed path offset) h = absurd h
rename_refused w name to (refusal.OptionValue path offset) h = (least_rename w name to 19 h.0, h.1)
rename_refused w name to refusal.UnknownTarget h = least_rename w name to 1 h
rename_refused w name to refusal.KindNotAllowed h = least_rename w name to 2 h
rename_refused w name to refusal.NotAnIdentifier h = least_rename w name to 3 h
rename_refused w name to refusal.KeywordName h = least_rename w name to 4 h
rename_refused w name to refusal.SameName h = least_rename w name to 5 h
rename_refused w name to refusal.Collision h = least_rename w name to 6 h
rename_refused w name to refusal.NameReserved h = least_rename w name to 8 h
rename_refused w name to refusal.JsonClash h = least_rename w name to 9 h
rename_refused w name to refusal.LastOfOneof h = least_rename w name to 10 h
rename_refused w name to refusal.UnknownFile h = least_rename w name to 11 h
rename_refused w name to refusal.AlreadyImported h = least_rename w name to 12 h
rename_refused w name to refusal.NotImported h = least_rename w name to 13 h
rename_refused w name to refusal.Cycle h = least_rename w name to 14 h
rename_refused w name to refusal.TooLarge h = least_rename w name to 16 h
rename_refused w name to refusal.Stale h = least_rename w name to 17 h
rename_refused w name to refusal.FixedName h = least_rename w name to 20 h

pub rename_made : (w : List FileOf) (name to : List ℕ) (cs : List ChangeOf) → IsRenamed w name to cs → IsAdmissible w (rename name to) × AreChanges w (rename name to) cs
rename_made w name to cs h = (h.admissible, h.changes)

-- ---- a deletion

least_deletion : (w : List FileOf) (name : List ℕ) (n : ℕ) → IsLeastOf (IsDeletionCase w name) n → IsLeastCase w (delete_field name) n
least_deletion w name n l = least_case w (delete_field name) n l.is l.least

pub deletion_refused : (w : List FileOf) (name : List ℕ) (r : Refusal) → IsDeletionRefusal w name r → IsRefusal w (delete_field name) r
deletion_refused w name refusal.NoMemory h = tt
deletion_refused w name (refusal.Captured place offset) h = absurd h
deletion_refused w name (refusal.Needed place offset) h = absurd h
deletion_refused w name (refusal.OptionValue place offset) h = (least_deletion w name 19 h.0, h.1)
deletion_refused w name refusal.UnknownTarget h = least_deletion w name 1 h
deletion_refused w name refusal.KindNotAllowed h = least_deletion w name 2 h
deletion_refused w name refusal.NotAnIdentifier h = least_deletion w name 3 h
deletion_refused w name refusal.KeywordName h = least_deletion w name 4 h
deletion_refused w name refusal.SameName h = least_deletion w name 5 h
deletion_refused w name refusal.Collision h = least_deletion w name 6 h
deletion_refused w name refusal.NameReserved h = least_deletion w name 8 h
deletion_refused w name refusal.JsonClash h = least_deletion w name 9 h
deletion_refused w name refusal.LastOfOneof h = least_deletion w name 10 h
deletion_refused w name refusal.UnknownFile h = least_deletion w name 11 h
deletion_refused w name refusal.AlreadyImported h = least_deletion w name 12 h
deletion_refused w name refusal.NotImported h = least_deletion w name 13 h
deletion_refused w name refusal.Cycle h = least_deletion w name 14 h
deletion_refused w name refusal.TooLarge h = least_deletion w name 16 h
deletion_refused w name refusal.Stale h = least_deletion w name 17 h
deletion_refused w name refusal.FixedName h = least_deletion w name 20 h

pub deletion_made : (w : List FileOf) (name : List ℕ) (cs : List ChangeOf) → HasDeletionChanges w name cs → IsAdmissible w (delete_field name) × AreChanges w (delete_field name) cs
deletion_made w name cs h = (h.admissible, h.changes)

-- ---- an added import

least_addition : (w : List FileOf) (file path : List ℕ) (n : ℕ) → IsLeastOf (IsAdditionCase w file path) n → IsLeastCase w (add_import file path) n
least_addition w file path n l = least_case w (add_import file path) n l.is l.least

pub addition_refused : (w : List FileOf) (file path : List ℕ) (r : Refusal) → IsAdditionRefusal w file path r → IsRefusal w (add_import file path) r
addition_refused w file path refusal.NoMemory h = tt
addition_refused w file path (refusal.Captured place offset) h = (least_addition w file path 7 h.0, h.1)
addition_refused w file path (refusal.Needed place offset) h = absurd h
addition_refused w file path (refusal.OptionValue place offset) h = absurd h
addition_refused w file path refusal.UnknownTarget h = least_addition w file path 1 h
addition_refused w file path refusal.KindNotAllowed h = least_addition w file path 2 h
addition_refused w file path refusal.NotAnIdentifier h = least_addition w file path 3 h
addition_refused w file path refusal.KeywordName h = least_addition w file path 4 h
addition_refused w file path refusal.SameName h = least_addition w file path 5 h
addition_refused w file path refusal.Collision h = least_addition w file path 6 h
addition_refused w file path refusal.NameReserved h = least_addition w file path 8 h
addition_refused w file path refusal.JsonClash h = least_addition w file path 9 h
addition_refused w file path refusal.LastOfOneof h = least_addition w file path 10 h
addition_refused w file path refusal.UnknownFile h = least_addition w file path 11 h
addition_refused w file path refusal.AlreadyImported h = least_addition w file path 12 h
addition_refused w file path refusal.NotImported h = least_addition w file path 13 h
addition_refused w file path refusal.Cycle h = least_addition w file path 14 h
addition_refused w file path refusal.TooLarge h = least_addition w file path 16 h
addition_refused w file path refusal.Stale h = least_addition w file path 17 h
addition_refused w file path refusal.FixedName h = least_addition w file path 20 h

pub addition_made : (w : List FileOf) (file path : List ℕ) (cs : List ChangeOf) → HasAdditionChanges w file path cs → IsAdmissible w (add_import file path) × AreChanges w (add_import file path) cs
addition_made w file path cs h = (h.admissible, h.changes)

-- ---- a dropped import

least_drop : (w : List FileOf) (file path : List ℕ) (n : ℕ) → IsLeastOf (IsDropCase w file path) n → IsLeastCase w (drop_import file path) n
least_drop w file path n l = least_case w (drop_import file path) n l.is l.least

pub drop_refused : (w : List FileOf) (file path : List ℕ) (r : Refusal) → IsDropRefusal w file path r → IsRefusal w (drop_import file path) r
drop_refused w file path refusal.NoMemory h = tt
drop_refused w file path (refusal.Captured place offset) h = absurd h
drop_refused w file path (refusal.Needed place offset) h = (least_drop w file path 15 h.0, h.1)
drop_refused w file path (refusal.OptionValue place offset) h = absurd h
drop_refused w file path refusal.UnknownTarget h = least_drop w file path 1 h
drop_refused w file path refusal.KindNotAllowed h = least_drop w file path 2 h
drop_refused w file path refusal.NotAnIdentifier h = least_drop w file path 3 h
drop_refused w file path refusal.KeywordName h = least_drop w file path 4 h
drop_refused w file path refusal.SameName h = least_drop w file path 5 h
drop_refused w file path refusal.Collision h = least_drop w file path 6 h
drop_refused w file path refusal.NameReserved h = least_drop w file path 8 h
drop_refused w file path refusal.JsonClash h = least_drop w file path 9 h
drop_refused w file path refusal.LastOfOneof h = least_drop w file path 10 h
drop_refused w file path refusal.UnknownFile h = least_drop w file path 11 h
drop_refused w file path refusal.AlreadyImported h = least_drop w file path 12 h
drop_refused w file path refusal.NotImported h = least_drop w file path 13 h
drop_refused w file path refusal.Cycle h = least_drop w file path 14 h
drop_refused w file path refusal.TooLarge h = least_drop w file path 16 h
drop_refused w file path refusal.Stale h = least_drop w file path 17 h
drop_refused w file path refusal.FixedName h = least_drop w file path 20 h

pub drop_made : (w : List FileOf) (file path : List ℕ) (cs : List ChangeOf) → HasDropChanges w file path cs → IsAdmissible w (drop_import file path) × AreChanges w (drop_import file path) cs
drop_made w file path cs h = (h.admissible, h.changes)

-- ---- files that compile

-- the link's faults are none
pub compiled_is_linked : (w : List FileOf) → AreCompiled w → HasNoFault (LinkFaults w)
compiled_is_linked w has x h = has.clean x (of_link x h)
