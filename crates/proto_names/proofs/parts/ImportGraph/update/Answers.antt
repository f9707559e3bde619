use Rattle.std.proofs.Common.{◌≡◌, ◌<◌, ℕ, Bool, List, [], length, get_or, map, sym, ◌∙◌, ap, subst, arith, All}
use Rattle.proto_base.proofs.Common.{Vec}
use Rattle.proto_files.specs.FilesRead.{AreRead, ReadOf}
use Rattle.proto_files.specs.GivenFiles.{FileOf}
use Rattle.proto_names_imports.specs.Laws.{KeepImports}
use Rattle.proto_names_imports.specs.declared.import.FileImport.{FileImport}
use Rattle.proto_names_update.specs.KeptImports.{WereImports}
use Rattle.proto_names_imports.proofs.Common.{all_imports}
use Rattle.proto_names_imports.specs.ImportSteps.{LeadsToItself}
use Rattle.proto_names.proofs.RenewedImports.{imports_are, imports_count, imports_stay, marks_stay, now_acyclic, now_count, now_within, sight_count, sight_is, sight_stays}
use Rattle.proto_names.specs.Sight.{KeepsSight}
use Rattle.proto_names.proofs.parts.ImportGraph.update.Goals as goal

pub all_imports_kept-requires-clause-paired : goal.all_imports_kept-requires-clause-paired
all_imports_kept-requires-clause-paired c = ap length c.deref.ensures.value ∙ imports_count c.args.files.now c.args.places.now c.args.self.now.imports.items c.args.self.now.seen.items c.requires.was

pub returns-then-branch-clause-imports : goal.returns-then-branch-clause-imports
returns-then-branch-clause-imports c = λ reads are.
    let files = c.args.files.now in
    imports_stay files c.args.places.now c.args.self.now.imports.items c.args.self.now.seen.items c.requires.was c.kept_imports_stay.ensures.equal c.kept_imports_stay.ensures.sound
    (subst (λ (vs : List (Vec FileImport)). (before : List FileOf) (had : List ReadOf) → WereImports c.args.places.now files (map (λ v. v.items) vs) before had → (rs : List ReadOf) → AreRead files rs → KeepImports before had files rs) c.deref.ensures.value
    (c.in_ok-all_imports_kept.ensures.kept c.if-branch.true)) reads are

pub returns-then-branch-clause-sight : goal.returns-then-branch-clause-sight
returns-then-branch-clause-sight c = λ reads are.
    let files = c.args.files.now in
    sight_stays files c.args.places.now c.args.self.now.imports.items c.args.self.now.seen.items c.requires.was c.kept_imports_stay.ensures.equal c.kept_imports_stay.ensures.sound
    (subst (λ (vs : List (Vec FileImport)). (before : List FileOf) (had : List ReadOf) → WereImports c.args.places.now files (map (λ v. v.items) vs) before had → (rs : List ReadOf) → AreRead files rs → KeepImports before had files rs) c.deref.ensures.value
    (c.in_ok-all_imports_kept.ensures.kept c.if-branch.true)) reads are

pub change_all_at-requires-clause-places : goal.change_all_at-requires-clause-places
change_all_at-requires-clause-places c = λ k d l. omega (arith, c.requires.places k d l, imports_count c.args.files.now c.args.places.now c.args.self.now.imports.items c.args.self.now.seen.items c.requires.was)

pub none_leads_to_itself-requires-clause-within : goal.none_leads_to_itself-requires-clause-within
none_leads_to_itself-requires-clause-within c =
    let files = c.args.files.now in
    let size = c.in_ok-now.ensures.len in
    let below = c.in_ok-now.ensures.within in
    let put = c.in_ok-change_all_at.ensures.items in
    let n : length c.deref-5.result.now ≡ length files = ap length c.deref-5.ensures.value ∙ now_count files c.args.places.now c.args.self.now.imports.items c.args.self.now.seen.items c.requires.was c.in_ok-now.now.items size below c.change_all_at.new.items.items put in
    subst (λ (k : ℕ). All (λ (v : Vec FileImport). All (λ i. i.to < k) v.items) c.deref-5.result.now) (sym n)
    (subst (All (λ (v : Vec FileImport). All (λ i. i.to < length files) v.items)) (sym c.deref-5.ensures.value) (now_within files c.args.places.now c.args.self.now.imports.items c.args.self.now.seen.items c.requires.was c.in_ok-now.now.items size below c.change_all_at.new.items.items put))

pub none_leads_to_itself-requires-clause-places : goal.none_leads_to_itself-requires-clause-places
none_leads_to_itself-requires-clause-places c =
    let files = c.args.files.now in
    let size = c.in_ok-now.ensures.len in
    let below = c.in_ok-now.ensures.within in
    let put = c.in_ok-change_all_at.ensures.items in
    let n : length c.deref-5.result.now ≡ length files = ap length c.deref-5.ensures.value ∙ now_count files c.args.places.now c.args.self.now.imports.items c.args.self.now.seen.items c.requires.was c.in_ok-now.now.items size below c.change_all_at.new.items.items put in
    λ k d l. omega (arith, c.requires.places k d l, n)

pub see_again-requires-clause-count : goal.see_again-requires-clause-count
see_again-requires-clause-count c =
    let files = c.args.files.now in
    let size = c.in_ok-now.ensures.len in
    let below = c.in_ok-now.ensures.within in
    let put = c.in_ok-change_all_at.ensures.items in
    let n : length c.deref-6.result.now ≡ length files = ap length c.deref-6.ensures.value ∙ now_count files c.args.places.now c.args.self.now.imports.items c.args.self.now.seen.items c.requires.was c.in_ok-now.now.items size below c.change_all_at.new.items.items put in
    omega (arith, n, c.len-count.ensures.workspace.few)

pub see_again-requires-clause-within : goal.see_again-requires-clause-within
see_again-requires-clause-within c =
    let files = c.args.files.now in
    let size = c.in_ok-now.ensures.len in
    let below = c.in_ok-now.ensures.within in
    let put = c.in_ok-change_all_at.ensures.items in
    let n : length c.deref-6.result.now ≡ length files = ap length c.deref-6.ensures.value ∙ now_count files c.args.places.now c.args.self.now.imports.items c.args.self.now.seen.items c.requires.was c.in_ok-now.now.items size below c.change_all_at.new.items.items put in
    subst (λ (k : ℕ). All (λ (v : Vec FileImport). All (λ i. i.to < k) v.items) c.deref-6.result.now) (sym n)
    (subst (All (λ (v : Vec FileImport). All (λ i. i.to < length files) v.items)) (sym c.deref-6.ensures.value) (now_within files c.args.places.now c.args.self.now.imports.items c.args.self.now.seen.items c.requires.was c.in_ok-now.now.items size below c.change_all_at.new.items.items put))

pub see_again-requires-clause-paired : goal.see_again-requires-clause-paired
see_again-requires-clause-paired c =
    let files = c.args.files.now in
    let size = c.in_ok-now.ensures.len in
    let below = c.in_ok-now.ensures.within in
    let put = c.in_ok-change_all_at.ensures.items in
    let n : length c.deref-6.result.now ≡ length files = ap length c.deref-6.ensures.value ∙ now_count files c.args.places.now c.args.self.now.imports.items c.args.self.now.seen.items c.requires.was c.in_ok-now.now.items size below c.change_all_at.new.items.items put in
    sight_count files c.args.places.now c.args.self.now.imports.items c.args.self.now.seen.items c.requires.was ∙ sym n

pub see_again-requires-clause-sized : goal.see_again-requires-clause-sized
see_again-requires-clause-sized c =
    let files = c.args.files.now in
    let size = c.in_ok-now.ensures.len in
    let below = c.in_ok-now.ensures.within in
    let put = c.in_ok-change_all_at.ensures.items in
    let n : length c.deref-6.result.now ≡ length files = ap length c.deref-6.ensures.value ∙ now_count files c.args.places.now c.args.self.now.imports.items c.args.self.now.seen.items c.requires.was c.in_ok-now.now.items size below c.change_all_at.new.items.items put in
    c.in_ok-stale.ensures.len ∙ ap length c.deref-2.ensures.value ∙ imports_count files c.args.places.now c.args.self.now.imports.items c.args.self.now.seen.items c.requires.was ∙ sym n

pub see_again-requires-clause-known : goal.see_again-requires-clause-known
see_again-requires-clause-known c = λ w n same file l unmarked.
    let files = c.args.files.now in
    let places = c.args.places.now in
    let was = c.args.self.now in
    let size = c.in_ok-now.ensures.len in
    let below = c.in_ok-now.ensures.within in
    let put = c.in_ok-change_all_at.ensures.items in
    let counted = imports_count files places was.imports.items was.seen.items c.requires.was in
    let counted_now = now_count files places was.imports.items was.seen.items c.requires.was c.in_ok-now.now.items size below c.change_all_at.new.items.items put in
    let within : file < length files = omega (arith, l, ap length c.deref-6.ensures.value, counted_now) in
    let kept = c.in_ok-stale.ensures.others file (omega (arith, within, counted, ap length c.deref-2.ensures.value)) unmarked in
    let keeps =
    subst (λ (now : List (Vec FileImport)). KeepsSight places (map (λ v. v.items) was.imports.items) (map (λ v. v.items) now) (get_or was.seen.items file []) file) c.deref-4.ensures.value
    (subst (λ (saw : List (List Bool)). KeepsSight places (map (λ v. v.items) was.imports.items) (map (λ v. v.items) c.deref-4.result.now) (get_or saw file []) file) c.deref-3.ensures.value
    (subst (λ (before : List (Vec FileImport)). KeepsSight places (map (λ v. v.items) before) (map (λ v. v.items) c.deref-4.result.now) (get_or c.deref-3.result.now file []) file) c.deref-2.ensures.value kept)) in
    marks_stay files places was.imports.items was.seen.items c.requires.was c.in_ok-now.now.items size below c.change_all_at.new.items.items put c.requires.places file within keeps w
    (n ∙ ap length c.deref-6.ensures.value) (same ∙ ap (λ (vs : List (Vec FileImport)). all_imports 0 (map (λ v. v.items) vs)) c.deref-6.ensures.value)

pub returns-clause-imports : goal.returns-clause-imports
returns-clause-imports c = λ reads are.
    (let files = c.args.files.now in
    let size = c.in_ok-now.ensures.len in
    let below = c.in_ok-now.ensures.within in
    let put = c.in_ok-change_all_at.ensures.items in
    let own = c.in_ok-now.ensures.imports in
    imports_are files c.args.places.now c.args.self.now.imports.items c.args.self.now.seen.items c.requires.was c.in_ok-now.now.items size below c.change_all_at.new.items.items put c.listed_imports_are_known.ensures.these c.listed_imports_are_known.ensures.sound own reads are)

pub returns-clause-sight : goal.returns-clause-sight
returns-clause-sight c = λ reads are.
    (let files = c.args.files.now in
    let size = c.in_ok-now.ensures.len in
    let below = c.in_ok-now.ensures.within in
    let put = c.in_ok-change_all_at.ensures.items in
    let own = c.in_ok-now.ensures.imports in
    let apart = subst (λ (vs : List (Vec FileImport)). All (λ place. LeadsToItself (all_imports 0 (map (λ v. v.items) vs)) place → ⊥) c.args.places.now) c.deref-5.ensures.value (c.in_ok-none_leads_to_itself.ensures.0 c.if-not-branch.false) in
    let acyclic = now_acyclic files c.args.places.now c.args.self.now.imports.items c.args.self.now.seen.items c.requires.was c.in_ok-now.now.items size below c.change_all_at.new.items.items put c.requires.places apart in
    sight_is files c.args.places.now c.args.self.now.imports.items c.args.self.now.seen.items c.requires.was c.in_ok-now.now.items size below c.change_all_at.new.items.items put c.listed_imports_are_known.ensures.these c.listed_imports_are_known.ensures.sound own reads are acyclic c.deref-6.result.now c.see_again.new.seen.items c.deref-6.ensures.value c.see_again.ensures.len c.in_ok-see_again.ensures.exact)

pub returns-clause-seen_within : goal.returns-clause-seen_within
returns-clause-seen_within c = λ k d l. omega (arith, c.see_again.ensures.within k d l, c.see_again.ensures.len)

pub returns-in_err-see_again-clause-seen_within : goal.returns-in_err-see_again-clause-seen_within
returns-in_err-see_again-clause-seen_within c = λ k d l. omega (arith, c.see_again.ensures.within k d l, c.see_again.ensures.len)
