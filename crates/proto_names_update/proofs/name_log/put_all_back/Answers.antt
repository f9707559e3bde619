use Rattle.std.proofs.Common.{◌≡◌, ◌<◌, length, map, sym, ◌∙◌, ap, arith, get_or}
use Rattle.std.proofs.lemmas.List.{get_or_default}
use Rattle.proto_base.specs.Undone.{undone}
use Rattle.proto_names_table.proofs.Search.{pick}
use Rattle.proto_names_update.specs.NameLogs.{standing_of}
use Rattle.proto_names_update.proofs.Undoing.{all_but_last, back_rests, back_size, back_standings, undone_more}
use Rattle.proto_names_update.proofs.name_log.put_all_back.Goals as goal

pub put_back-requires : goal.put_back-requires
put_back-requires c =
    let i = c.loop-change.invariant in
    let w = all_but_last (length c.args.table.now.rows.items) c.pop.new.self.items c.loop-change.changes.items c.in-Some.change c.in-Some.ensures.items i.within in
    omega (arith, w.1, i.size)

pub loop-change-preserved : goal.loop-change-preserved
loop-change-preserved c =
    let i = c.loop-change.invariant in
    let old = c.loop-change.table in
    let new = c.put_back.new.self in
    let change = c.in-Some.change in
    let whole = c.in-Some.ensures.items in
    let w = all_but_last (length c.args.table.now.rows.items) c.pop.new.self.items c.loop-change.changes.items change whole i.within in
    let l : change.place < length old.rows.items = omega (arith, w.1, i.size) in
    let r = pick old.rows.items change.place l in
    let own = get_or old.rows.items change.place r in
    let is : own ≡ get_or old.rows.items change.place own = get_or_default old.rows.items change.place r own l in
    let rows = c.put_back.ensures.rows r in
    record {
      standings = ap (undone c.pop.new.self.items) (back_standings old new own change l is rows) ∙ sym (undone_more c.pop.new.self.items (map standing_of old.rows.items) change) ∙ ap (λ log. undone log (map standing_of old.rows.items)) (sym whole) ∙ i.standings;
      rests = back_rests old new own change l is rows ∙ i.rests;
      below = c.put_back.ensures.below ∙ i.below;
      size = back_size old new own change l is rows ∙ i.size;
      within = w.0;
    }
