-- A table in which another package is about to be declared: it holds what it held.
use Rattle.std.proofs.Common.{◌≡◌, List, refl, sym, subst, arith}
use Rattle.proto_names_table.specs.Common.{Holds, IsKept, IsTable, Named, Table}

module _ (t t' : Table) (rows : t'.rows ≡ t.rows) (below : t'.below ≡ t.below) where
  abbrev same : Table
  same = record { rows = t.rows; below = t.below; begun = t'.begun }

  is : t' ≡ same
  is = λ i. record { rows = rows i; below = below i; begun = t'.begun }

  pub table_begun : IsTable t → IsTable t'
  table_begun ok = subst IsTable (sym is) (record { forest = ok.forest; sized = ok.sized; keyed = ok.keyed; words = ok.words; alone = ok.alone })

  pub held_begun : (ds : List Named) → Holds t ds → Holds t' ds
  held_begun ds held = subst (λ z. Holds z ds) (sym is) (record { index = record { plain = held.index.plain; row = held.index.row; symbol = held.index.symbol }; apart = held.apart })

  pub kept_begun : IsKept t t'
  kept_begun = subst (IsKept t) (sym is) (record { size = omega arith; names = λ k l. refl; symbols = λ k r l was. (refl, was); declared = λ was. was })
