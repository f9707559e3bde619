use Rattle.std.proofs.Common.{◌≡◌, ◌<◌, ℕ, length, sym, ◌∙◌, ap, subst, arith, All}
use Rattle.proto_base.proofs.Common.{Vec, err_from_is_err_and, length-map}
use Rattle.proto_names_imports.specs.declared.import.FileImport.{FileImport}
use Rattle.proto_names.proofs.LinkParts.{files_between, marks_seen}
use Rattle.proto_names.proofs.whole_link.linked_graph.Goals as goal

pub all_seen-requires : goal.all_seen-requires
all_seen-requires c =
    let n : length c.args.files.now ≡ length c.deref.result.now = omega (arith, ap length c.deref.ensures.value, c.in_ok-imports.ensures.len) in
    record {
      count = omega (arith, n, c.len-count.ensures.workspace.few);
      within = subst (λ (k : ℕ). All (λ (v : Vec FileImport). All (λ i. i.to < k) v.items) c.deref.result.now) n
          (subst (All (λ (v : Vec FileImport). All (λ i. i.to < length c.args.files.now) v.items)) (sym c.deref.ensures.value) c.in_ok-imports.ensures.within);
    }

pub returns-clause-imports : goal.returns-clause-imports
returns-clause-imports c = λ reads are. record { count = length-map c.in_ok-imports.imports.items (λ v. v.items) ∙ c.in_ok-imports.ensures.len; same = c.in_ok-imports.ensures.imports reads are }

pub returns-clause-sight : goal.returns-clause-sight
returns-clause-sight c = λ reads are.
    (let files = c.args.files.now in
    let imports = c.in_ok-imports.imports.items in
    let seen = c.in_ok-seen.seen.items in
    let known = c.in_ok-imports.ensures.imports reads are in
    record {
      sound = c.in_ok-imports.ensures.clean reads are;
      between = files_between files reads are imports c.in_ok-imports.ensures.len c.in_ok-imports.ensures.within known;
      count = c.in_ok-seen.ensures.len ∙ ap length c.deref.ensures.value ∙ c.in_ok-imports.ensures.len;
      marks = marks_seen files reads are imports c.deref.result.now seen c.deref.ensures.value c.in_ok-imports.ensures.len known c.in_ok-seen.ensures.exact;
    })

pub returns-in_err-imports : goal.returns-in_err-imports
returns-in_err-imports c = let e = err_from_is_err_and c.from_residual.result c.from_residual.ensures.1 in rw (e.1, e.2) (record { imports = tt; sight = tt; fault = c.in_err-imports.ensures.fault })

pub returns-in_err-seen : goal.returns-in_err-seen
returns-in_err-seen c = let e = err_from_is_err_and c.from_residual-in_err-seen.result c.from_residual-in_err-seen.ensures.1 in rw (e.1, e.2) (record { imports = tt; sight = tt; fault = tt })
