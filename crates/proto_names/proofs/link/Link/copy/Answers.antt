use Rattle.std.proofs.Common.{◌<◌, Bool, List, length, map, sym, ◌∙◌, ap, subst, arith, AllPairs}
use Rattle.proto_base.proofs.Common.{length-map}
use Rattle.proto_names_affected.specs.FirstWords.{AreFirstsOf}
use Rattle.proto_names.specs.Common.{LinkOf, Meant, name_of_row}
use Rattle.proto_names.proofs.Copies.{all_items}
use Rattle.proto_names.proofs.link.Link.copy.Goals as goal

pub from_parts-requires-clause-table : goal.from_parts-requires-clause-table
from_parts-requires-clause-table c = c.in_ok-parts.ensures.table c.self.invariant.0

pub from_parts-requires-clause-rising : goal.from_parts-requires-clause-rising
from_parts-requires-clause-rising c =
    all_items (AllPairs (λ m n. m.token < n.token)) c.self.inside.parts.resolutions.meant.items c.in_ok-parts.parts.resolutions.meant.items (ap (λ (l : LinkOf). l.meant) c.in_ok-parts.ensures.link) c.self.invariant.2

pub from_parts-requires-clause-paired : goal.from_parts-requires-clause-paired
from_parts-requires-clause-paired c =
    let was = c.self.inside.parts in
    let now = c.in_ok-parts.parts in
    omega (
      arith,
      length-map now.resolutions.references.items (λ v. v.items),
      length-map was.resolutions.references.items (λ v. v.items),
      ap (λ (l : LinkOf). length l.references) c.in_ok-parts.ensures.link,
      c.self.invariant.1,
      ap (λ (l : LinkOf). length l.names) c.in_ok-parts.ensures.link,
      length-map now.declarations.table.rows.items name_of_row,
      length-map was.declarations.table.rows.items name_of_row,
    )

pub from_parts-requires-clause-firsts : goal.from_parts-requires-clause-firsts
from_parts-requires-clause-firsts c =
    let was = c.self.inside.parts.resolutions in
    let now = c.in_ok-parts.parts.resolutions in
    subst (λ (fs : List (List Bool)). AreFirstsOf fs (map (λ v. v.items) now.meant.items)) (sym c.in_ok-parts.ensures.firsts)
    (subst (λ (ms : List (List Meant)). AreFirstsOf was.firsts ms) (sym (ap (λ (l : LinkOf). l.meant) c.in_ok-parts.ensures.link)) c.self.invariant.3)

pub returns : goal.returns
returns c = c.from_parts.ensures ∙ c.in_ok-parts.ensures.link ∙ c.self.view_is
