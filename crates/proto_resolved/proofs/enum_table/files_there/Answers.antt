use Rattle.std.proofs.Common.{◌≡◌, ◌<◌, ◌↔◌, ℕ, All, Contains, List, false, length, replicate, sym, ap, ◌∙◌, subst}
use Rattle.proto_base.proofs.Common.{IfOk-weaker}
use Rattle.proto_file_sets.specs.FileSets.{IsIn, files_in}
use Rattle.proto_resolved.proofs.EnumTables.{below_there, listed_there}
use Rattle.proto_resolved.proofs.enum_table.files_there.Goals as goal

pub returns-clause-below : goal.returns-clause-below
returns-clause-below c =
    let n = length c.args.files.now in
    let empty = c.in_ok-there.ensures ∙ ap (λ k. replicate k false) c.len-count.ensures.len in
    let none = c.in_ok-none.ensures ∙ ap (λ k. replicate k false) c.len-count.ensures.len in
    let there = c.add_new.new.self in
    IfOk-weaker c.files.result (λ v. v.items ≡ files_in there) (λ v. All (λ file. file < n) v.items)
    (λ v is. subst (λ (ns : List ℕ). All (λ file. file < n) ns) (sym is) (below_there n c.args.set.now _ _ there empty none c.add_new.ensures.count c.add_new.ensures.files)) c.files.ensures

pub returns-clause-listed : goal.returns-clause-listed
returns-clause-listed c =
    let n = length c.args.files.now in
    let empty = c.in_ok-there.ensures ∙ ap (λ k. replicate k false) c.len-count.ensures.len in
    let none = c.in_ok-none.ensures ∙ ap (λ k. replicate k false) c.len-count.ensures.len in
    let there = c.add_new.new.self in
    IfOk-weaker c.files.result (λ v. v.items ≡ files_in there) (λ v. (file : ℕ) → file < n → (Contains v.items file ↔ IsIn c.args.set.now file))
    (λ v is. subst (λ (ns : List ℕ). (file : ℕ) → file < n → (Contains ns file ↔ IsIn c.args.set.now file)) (sym is) (listed_there n c.args.set.now _ _ there empty none c.add_new.ensures.count c.add_new.ensures.files)) c.files.ensures
