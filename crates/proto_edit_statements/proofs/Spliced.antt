-- The changes of a drop and of an addition, from the splice.
use Rattle.std.proofs.Common.{◌≡◌, ◌≤◌, List, [], ◌∷◌, length, map, Some, None, sym, ap, subst, ◌∙◌, arith}
use Rattle.proto_base.specs.Texts.{text_limit}
use Rattle.proto_text.specs.Edits.{Edit}
use Rattle.proto_files.specs.GivenFiles.{FileOf}
use Rattle.proto_edit_entries.specs.declared.entry.Change.{Change}
use Rattle.proto_edit_entries.specs.Entries.{change_of}
use Rattle.proto_edit_rules.specs.Statements.{IsTooLong, one_change}
use Rattle.proto_edit_statements.specs.Spliced.{IsSpliced}

-- the one change
pub changes_are : (f : FileOf) (e g : Edit) (c : Change) (cs : List Change) → e ≡ g → IsSpliced f e (Some c) → cs ≡ c ∷ [] → map change_of cs ≡ one_change f g
changes_are f e g c cs same h is = ap (map change_of) is ∙ h.0 ∙ ap (one_change f) same

pub not_long : (f : FileOf) (e g : Edit) (c : Change) → e ≡ g → IsSpliced f e (Some c) → IsTooLong f g → ⊥
not_long f e g c same h long = h.1 (subst (IsTooLong f) (sym same) long)

-- a file that loses text is not too long
pub no_longer : (f : FileOf) (e : Edit) → length f.bytes ≤ text_limit → length e.new ≡ 0 → IsSpliced f e None → ⊥
no_longer f e short none h = omega (arith, short, none, h)
