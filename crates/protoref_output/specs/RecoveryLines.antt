-- What is printed of a recovery, and of the move to the second version of a journal: the choice of
-- this program.
use Rattle.std.specs.Prelude.{◌++◌, Bool, true, false, codes, decimal}
use Rattle.proto_base.specs.Texts.{Text}
use Rattle.proto_edit_entries.specs.RefusalTable.{refusal_name, refusal_number}
use Rattle.proto_edit_entries.specs.declared.refusal.Refusal.{Refusal}

-- whether a store was recovered: `recovered`, or `nothing to recover`
abbrev pub recovery_line : Bool → Text
recovery_line true = codes "recovered\n"
recovery_line false = codes "nothing to recover\n"

-- whether a journal went over to the second version: `migrated`, or `nothing to migrate`
abbrev pub migration_line : Bool → Text
migration_line true = codes "migrated\n"
migration_line false = codes "nothing to migrate\n"

-- `refused: NUMBER NAME`, of a refusal that tells of no reference
abbrev pub plain_refused_line : Refusal → Text
plain_refused_line r =
    codes "refused: " ++ (decimal (refusal_number r)
    ++ (codes " " ++ (refusal_name r ++ codes "\n")))
