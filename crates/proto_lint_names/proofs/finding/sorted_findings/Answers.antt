use Rattle.std.proofs.lemmas.List.Filters.{dedup_is}
use Rattle.proto_lint_names.specs.contracts.finding.FindingOrd.TheImpl.Laws as order
use Rattle.proto_lint_names.proofs.Listing.{agrees, is_listing}
use Rattle.proto_lint_names.proofs.finding.sorted_findings.Goals as goal

pub returns : goal.returns
returns c =
    rw (dedup_is _ _ _ c.dedup.ensures.filtered)
    (is_listing _ order.total-law _ order.matches_eq-law agrees c.args.found.items c.sort_unstable.new.self.items c.sort_unstable.ensures.permutation c.sort_unstable.ensures.sorted)
