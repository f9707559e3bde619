-- What `compile`, `lint` and `log` print of files and of a journal is one text with one status.
use Rattle.std.proofs.Common.{◌≡◌, ℕ, Bool, List, ◌++◌, codes, flat_map, refl, sym, ap, ◌∙◌, subst}
use Rattle.proto_base.proofs.Common.{IsTotalOrder, Less, Equal, Contains-permutation, IsPermutation-sym, nat_cmp_total, nat_list_cmp_total, on_total, then_total, tied_itself}
use Rattle.proto_desc.specs.Checked.{described}
use Rattle.proto_desc.specs.Whole.{IsSortedOf, WorkspaceFaults}
use Rattle.proto_descriptors.specs.Descriptors.{FileDesc}
use Rattle.proto_descriptors_json.specs.DescriptorText.{json_text}
use Rattle.proto_files.proofs.Common.{FaultAt, FileOf, IsBefore}
use Rattle.proto_files.proofs.OneLeast.{least_is_one}
use Rattle.proto_files.proofs.PathOrder.{before_trans, never_before_itself}
use Rattle.proto_files.proofs.ReadOnce.{read_once}
use Rattle.proto_files.specs.FilesRead.{AreRead, ReadOf}
use Rattle.proto_journal_records.specs.Laws.{IsReadInOneWay}
use Rattle.proto_lint.specs.Findings.{FindingOf, IsListingOf, findings}
use Rattle.proto_lint_names.specs.Listings.{finding_cmp}
use Rattle.proto_lint_rules.specs.Rules.{identifier}
use Rattle.protoref_output.specs.FaultLines.{IsLine, line_of}
use Rattle.protoref_output.specs.FoundLines.{found_line}
use Rattle.protoref_output.specs.LogLines.{log_lines}
use Rattle.protoref_output.specs.declared.status.Status.{Status}
use Rattle.protoref_output.specs.declared.status.Status.TheVariants.{Done, Problem}
use Rattle.protoref_commands.proofs.OneList.{one_list}
use Rattle.protoref_commands.specs.Linted.{IsLintOf, PrintsLinted, status_over}
use Rattle.protoref_commands.specs.Linted.PrintsLinted.{of_fault, of_findings}
use Rattle.protoref_commands.specs.Logs.{PrintsLog}
use Rattle.protoref_commands.specs.Printed.{PrintsCompiled}

-- two texts with their statuses are the same
abbrev pub IsOnePrint : List ℕ → List ℕ → Status → Status → Type 0
IsOnePrint text also status end = (text ≡ also) × (status ≡ end)

-- ---- files in their order, and what is read of them

sorted_once : (given a b : List FileOf) → IsSortedOf given a → IsSortedOf given b → a ≡ b
sorted_once given a b x y =
    one_list (λ (f g : FileOf). IsBefore f.path g.path) (λ f h. never_before_itself f.path h) (λ f g h p q. before_trans f.path g.path h.path p q) a b x.ordered y.ordered
    (λ f c. Contains-permutation given b f y.same (Contains-permutation a given f (IsPermutation-sym given a x.same) c))
    (λ f c. Contains-permutation given a f x.same (Contains-permutation b given f (IsPermutation-sym given b y.same) c))

described_once : (a b : List FileOf) (r s : List ReadOf) → a ≡ b → AreRead a r → AreRead b s → described a r ≡ described b s
described_once a b r s e x y =
    ap (λ (files : List FileOf). described files r) e ∙ ap (described b) (read_once b r s (subst (λ (files : List FileOf). AreRead files r) e x) y)

-- ---- lines of faults

pub line_once : (files : List FileOf) (f g : FaultAt) (text also : List ℕ) → f ≡ g → IsLine files f text → IsLine files g also → text ≡ also
line_once files f g text also same p q =
    let r : IsLine files g text = subst (λ (x : FaultAt). IsLine files x text) same p in
    r.3 ∙ ap (λ (n : ℕ). line_of g n r.1) (r.2.0 ∙ sym q.2.0) ∙ ap (λ (n : ℕ). line_of g q.0 n) (r.2.1 ∙ sym q.2.1) ∙ sym q.3

-- ---- compile

pub one_compiled : (files : List FileOf) (text also : List ℕ) (status end : Status) → PrintsCompiled files text status → PrintsCompiled files also end → IsOnePrint text also status end
one_compiled files text also Done Done p q =
    let same = sorted_once files p.sorted q.sorted p.in_order q.in_order in
    (p.text_is ∙ ap (λ (d : List FileDesc). json_text d ++ codes "\n") (described_once p.sorted q.sorted p.reads q.reads same p.are_read q.are_read) ∙ sym q.text_is, refl)
one_compiled files text also Done Problem p q = absurd (p.clean q.0 q.1.is_fault)
one_compiled files text also Problem Done p q = absurd (q.clean p.0 p.1.is_fault)
one_compiled files text also Problem Problem p q = (line_once files p.0 q.0 text also (least_is_one (WorkspaceFaults files) p.0 q.0 p.1 q.1) p.2 q.2, refl)

-- ---- lint

finding_total : IsTotalOrder finding_cmp
finding_total =
    then_total (on_total (λ (f : FindingOf). f.path) nat_list_cmp_total)
    (then_total (on_total (λ (f : FindingOf). f.offset) nat_cmp_total)
    (then_total (on_total (λ (f : FindingOf). identifier f.rule) nat_list_cmp_total) (on_total (λ (f : FindingOf). f.name) nat_list_cmp_total)))

never_before : (f : FindingOf) → finding_cmp f f ≡ Less → ⊥
never_before f h = let e : finding_cmp f f ≡ Equal = tied_itself finding_total f in cc

listing_once : (all a b : List FindingOf) → IsListingOf all a → IsListingOf all b → a ≡ b
listing_once all a b x y =
    one_list (λ (f g : FindingOf). finding_cmp f g ≡ Less) never_before (λ f g h p q. finding_total.trans f g h p q) a b x.ordered y.ordered (λ f c. (y.same f).1 ((x.same f).0 c)) (λ f c. (x.same f).1 ((y.same f).0 c))

lint_once : (files : List FileOf) (rules : List Bool) (text also : List ℕ) (status end : Status) → IsLintOf files rules text status → IsLintOf files rules also end → IsOnePrint text also status end
lint_once files rules text also status end p q =
    let reads = read_once files p.reads q.reads p.are_read q.are_read in
    let listed = listing_once (findings rules files q.reads) p.listed q.listed (subst (λ (r : List ReadOf). IsListingOf (findings rules files r) p.listed) reads p.is_listing) q.is_listing in
    (p.text_is ∙ ap (λ (l : List FindingOf). flat_map (found_line files) l) listed ∙ sym q.text_is, p.status_is ∙ ap status_over listed ∙ sym q.status_is)

pub one_linted : (files : List FileOf) (rules : List Bool) (text also : List ℕ) (status end : Status) → PrintsLinted files rules text status → PrintsLinted files rules also end → IsOnePrint text also status end
one_linted files rules text also status end (of_findings s so clean l) (of_findings t to none m) =
    lint_once t rules text also status end (subst (λ (fs : List FileOf). IsLintOf fs rules text status) (sorted_once files s t so to) l) m
one_linted files rules text also status end (of_findings s so clean l) (of_fault f least line is) = absurd (clean f least.is_fault)
one_linted files rules text also status end (of_fault f least line is) (of_findings t to none m) = absurd (none f least.is_fault)
one_linted files rules text also status end (of_fault f least line is) (of_fault g small row has) =
    (line_once files f g text also (least_is_one (WorkspaceFaults files) f g least small) line row, is ∙ sym has)

-- ---- log

pub one_log : IsReadInOneWay → (journal text also : List ℕ) (status end : Status) → PrintsLog journal text status → PrintsLog journal also end → IsOnePrint text also status end
one_log one_way journal text also Done Done p q = (p.2 ∙ ap log_lines (one_way journal p.1.0 q.1.0 p.0 q.0 p.1.1 q.1.1).0 ∙ sym q.2, refl)
one_log one_way journal text also Done Problem p q = absurd (q.0 p.0 p.1)
one_log one_way journal text also Problem Done p q = absurd (p.0 q.0 q.1)
one_log one_way journal text also Problem Problem p q = (p.1 ∙ sym q.1, refl)
