use Rattle.std.proofs.Common.{◌≡◌, ◌<◌, ℕ, List, length, map, sym, ◌∙◌, ap, subst, arith, All}
use Rattle.proto_base.proofs.Common.{IfOk-weaker, Vec, length-map}
use Rattle.proto_names_imports.proofs.Common.{all_imports, names_in, names_of_files}
use Rattle.proto_names_imports.specs.declared.import.FileImport.{FileImport}
use Rattle.proto_names_faults.proofs.sight.all_sight.Goals as goal

pub all_seen-requires : goal.all_seen-requires
all_seen-requires c =
    let n : length c.args.files.now ≡ length c.deref.result.now = omega (arith, ap length c.deref.ensures.value, c.in_ok-imports.ensures.len) in
    record {
      count = omega (arith, n, c.len-count.ensures.workspace.few);
      within = subst (λ (k : ℕ). All (λ (v : Vec FileImport). All (λ i. i.to < k) v.items) c.deref.result.now) n
          (subst (All (λ (v : Vec FileImport). All (λ i. i.to < length c.args.files.now) v.items)) (sym c.deref.ensures.value) c.in_ok-imports.ensures.within);
    }

pub returns-clause-len : goal.returns-clause-len
returns-clause-len c =
    IfOk-weaker c.all_seen.result _ _ (λ seen h. h ∙ ap length c.deref.ensures.value ∙ c.in_ok-imports.ensures.len) c.all_seen.ensures.len

pub returns-clause-marks : goal.returns-clause-marks
returns-clause-marks c =
    IfOk-weaker c.all_seen.result _ _
    (λ seen exact reads are k l.
    (let files = c.args.files.now in
    let imports = c.in_ok-imports.imports.items in
    let given = c.deref.result.now in
    let n : length given ≡ length files = ap length c.deref.ensures.value ∙ c.in_ok-imports.ensures.len in
    exact (names_of_files files reads) (length-map reads names_in ∙ are.same ∙ sym n)
    (sym (c.in_ok-imports.ensures.imports reads are) ∙ ap (λ (vs : List (Vec FileImport)). all_imports 0 (map (λ v. v.items) vs)) (sym c.deref.ensures.value)) k (omega (arith, l, n))))
    c.all_seen.ensures.exact
