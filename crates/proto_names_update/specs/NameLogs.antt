-- A log of what was changed of a table of names, and the table as it was when the log began.
use Rattle.std.specs.Prelude.{◌≡◌, ℕ, ◌≤◌, List, length, map, slice_set, String, take}
use Rattle.std.specs.declared.alloc.Global.{Global}
use Rattle.proto_base.specs.Undone.{AreWithin, undone}
use Rattle.proto_names_table.specs.declared.index.Below.{Below}
use Rattle.proto_names_table.specs.declared.table.Row.{Row}
use Rattle.proto_names_table.specs.declared.table.Table.{Table}
use Rattle.proto_names_update.specs.declared.name_log.NameLog.{NameLog}
use Rattle.proto_names_update.specs.declared.name_log.Standing.{Standing}

-- what declares the name of a row, or declared it last
abbrev pub standing_of : Row → Standing
standing_of r = record { symbol = r.symbol; is_declared = r.is_declared }

-- what a contract sees of a row beside that: its text, the number above it, and its further files
abbrev pub rest_of : Row → List ℕ × ℕ × List ℕ
rest_of r = (r.name, r.above, r.more.items)

-- what a contract sees of a table
pub record SeenTable : Type 0 where
  pub standings : List Standing
  pub rests : List (List ℕ × ℕ × List ℕ)
  pub words : List (String Global)
  pub below : List Below

abbrev pub seen_of : Table → SeenTable
seen_of t = record {
  standings = map standing_of t.rows.items;
  rests = map rest_of t.rows.items;
  words = t.below.words.keys;
  below = t.below.rows.keys;
}

-- the table as it was when the log began: the first rows and words, and the rows' declarations
-- without the changes
abbrev pub undone_table : NameLog → Table → SeenTable
undone_table log t = record {
  standings = take log.rows (undone log.changes.items (map standing_of t.rows.items));
  rests = take log.rows (map rest_of t.rows.items);
  words = take log.words t.below.words.keys;
  below = take log.rows t.below.rows.keys;
}

-- the log is one of the table: what it changed is there, and what the table had
pub record Fits (log : NameLog) (t : Table) : Type 0 where
  pub changes : AreWithin (length t.rows.items) log.changes.items
  pub rows : log.rows ≤ length t.rows.items
  pub words : log.words ≤ length t.below.words.keys

-- whatever declares the row now, the log has what declared it before
abbrev pub IsNoted : NameLog → Table → ℕ → Type 0
IsNoted log t row =
    (s : Standing)
    → undone log.changes.items (slice_set (map standing_of t.rows.items) row s)
    ≡ undone log.changes.items (map standing_of t.rows.items)
