-- What is offered, as the findings are gone through.
use Rattle.std.proofs.Common.{◌≡◌, ◌↔◌, ◌≢◌, ◌+◌, ◌<◌, ◌≤◌, ◌++◌, ℕ, Bool, true, false, true≢false, eqb, not, List, [], ◌∷◌, append-nil, append_assoc, get_or, length, map, take, take_all, Option, inl, inr, refl, sym, ap, subst, ◌∙◌}
use Rattle.std.specs.List.{AllZip}
use Rattle.proto_base.proofs.Common.{Decides-eqb, FileOf, Vec, cases_eq, map_more, pointwise, slice_eq-Decides}
use Rattle.proto_files.proofs.Common.{AreRead, ReadOf}
use Rattle.proto_files.specs.GivenFiles.{file_at}
use Rattle.proto_lint.specs.Findings.{findings}
use Rattle.proto_lint_names.proofs.Common.{FindingOf, IsListingOf, finding_of}
use Rattle.proto_lint_names.specs.declared.finding.Finding.{Finding}
use Rattle.proto_lint_rules.proofs.RuleOrder.{same_number}
use Rattle.proto_lint_rules.specs.Rules.{is_chosen, number}
use Rattle.proto_lint_rules.specs.declared.rule.Rule.{Rule}
use Rattle.proto_lint_rules.specs.declared.rule.Rule.TheVariants.{ImportUsed}
use Rattle.proto_answers.specs.Actions.{IsDeletionAt}
use Rattle.proto_answers.specs.declared.answers.FileEdits.{FileEdits}
use Rattle.proto_answers.specs.declared.standing.FileOffset.{FileOffset}
use Rattle.proto_messages.specs.declared.position.Range.{Range as SentRange}
use Rattle.proto_messages.specs.declared.results.CodeAction.{CodeAction}
use Rattle.proto_positions.specs.declared.encoding.Encoding.{Encoding}
use Rattle.proto_session_files.specs.Views.{ViewOf}
use Rattle.proto_session_replies.specs.Edits.{AreDropOffers, AreOffers, AreUnusedImports, IsAction, IsDropOffered, OfferOf, deletion_offers}
use Rattle.proto_session_replies.proofs.RepliedLists.{zipped_append}

-- texts that differ are not the same
pub not_same : (xs ys : List ℕ) (b : Bool) → b ≡ not (pointwise eqb xs ys) → b ≡ true → xs ≡ ys → ⊥
not_same xs ys b is yes_ same =
    let equal : pointwise eqb xs ys ≡ true = (slice_eq-Decides Decides-eqb xs ys (pointwise eqb xs ys) refl).1 same in
    true≢false (sym yes_ ∙ (is ∙ ap not equal))

-- ---- one rule alone

pub only_import_used : (none chosen : List Bool) → ((r : Rule) → is_chosen none r ≡ false) → is_chosen chosen ImportUsed ≡ true → ((o : Rule) → o ≢ ImportUsed → is_chosen chosen o ≡ is_chosen none o) → (r : Rule) → (is_chosen chosen r ≡ true) ↔ (r ≡ ImportUsed)
only_import_used none chosen empty here others r = (forth, λ is. subst (λ (s : Rule). is_chosen chosen s ≡ true) (sym is) here)
  where
    forth : is_chosen chosen r ≡ true → r ≡ ImportUsed
    forth e = elim (cases_eq (number r) (number ImportUsed)) [
      | inl same ↦ same_number r ImportUsed same
      | inr other ↦ absurd (true≢false (sym e ∙ (others r (λ is. other (ap number is)) ∙ empty r)))
    ]

-- what this one rule finds
pub unused_are : (w fs gs : List FileOf) (none chosen : List Bool) (listed : List FindingOf) → fs ≡ w → gs ≡ w → (reads : List ReadOf) × AreRead fs reads → ((r : Rule) → is_chosen none r ≡ false) → is_chosen chosen ImportUsed ≡ true → ((o : Rule) → o ≢ ImportUsed → is_chosen chosen o ≡ is_chosen none o)
    → ((reads : List ReadOf) → AreRead gs reads → IsListingOf (findings chosen gs reads) listed) → AreUnusedImports w listed
unused_are w fs gs none chosen listed same again read empty here others lists =
    let are : AreRead w read.0 = subst (λ (x : List FileOf). AreRead x read.0) same read.1 in
    record {
      reads = read.0;
      are_read = are;
      rules = chosen;
      one_rule = only_import_used none chosen empty here others;
      listing = subst (λ (x : List FileOf). IsListingOf (findings chosen x read.0) listed) again (lists read.0 (subst (λ (x : List FileOf). AreRead x read.0) (sym again) are));
    }

-- ---- drops

-- one finding more
pub drops_push : (files : List FileOf) (e : Encoding) (file : FileOf) (range : SentRange) (fs : List FindingOf) (f : FindingOf) (offers own : List OfferOf) → AreDropOffers files e file range fs offers → IsDropOffered files e file range f own → AreDropOffers files e file range (fs ++ f ∷ []) (offers ++ own)
drops_push files e file range [] f offers own all one = (own, [], one, refl, ap (λ (l : List OfferOf). l ++ own) all ∙ sym (append-nil own))
drops_push files e file range (g ∷ fs) f offers own all one = (
  all.0,
  all.1 ++ own,
  all.2,
  drops_push files e file range fs f all.1 own all.3 one,
  ap (λ (l : List OfferOf). l ++ own) all.4 ∙ append_assoc all.0 all.1 own,
)

-- what is offered so far: the deletion, and the drops of the first findings
pub record OffersSoFar
    (v : ViewOf) (w : List FileOf) (spot : FileOffset) (range : SentRange) (fs : List FindingOf)
    (actions : List CodeAction)
    : Type 0 where
  pub deletion : Option (Vec FileEdits)
  pub is_deletion : IsDeletionAt w v.encoding spot deletion
  pub drops : List OfferOf
  pub are_drops : AreDropOffers w v.encoding (file_at w spot.file) range fs drops
  pub sent : AllZip (IsAction v) (deletion_offers deletion ++ drops) actions

pub offers_begin : (v : ViewOf) (w : List FileOf) (spot : FileOffset) (range : SentRange) (deletion : Option (Vec FileEdits)) (before actions added : List CodeAction) → before ≡ [] → IsDeletionAt w v.encoding spot deletion → actions ≡ before ++ added → AllZip (IsAction v) (deletion_offers deletion) added → OffersSoFar v w spot range [] actions
offers_begin v w spot range deletion before actions added none is grown sent = record {
  deletion = deletion;
  is_deletion = is;
  drops = [];
  are_drops = refl;
  sent =
      subst (λ (os : List OfferOf). AllZip (IsAction v) os actions) (sym (append-nil (deletion_offers deletion)))
      (subst (λ (cs : List CodeAction). AllZip (IsAction v) (deletion_offers deletion) cs) (sym (grown ∙ ap (λ (cs : List CodeAction). cs ++ added) none)) sent);
}

pub offers_more : (v : ViewOf) (w : List FileOf) (spot : FileOffset) (range : SentRange) (xs : List Finding) (i : ℕ) (x : Finding) (own : List OfferOf) (before actions added : List CodeAction) → i < length xs → x ≡ get_or xs i x → OffersSoFar v w spot range (map finding_of (take i xs)) before → IsDropOffered w v.encoding (file_at w spot.file) range (finding_of x) own → actions ≡ before ++ added → AllZip (IsAction v) own added → OffersSoFar v w spot range (map finding_of (take (i + 1) xs)) actions
offers_more v w spot range xs i x own before actions added lt at so_far one grown sent = record {
  deletion = so_far.deletion;
  is_deletion = so_far.is_deletion;
  drops = so_far.drops ++ own;
  are_drops =
      subst (λ (fs : List FindingOf). AreDropOffers w v.encoding (file_at w spot.file) range fs (so_far.drops ++ own)) (ap (λ (z : Finding). map finding_of (take i xs) ++ finding_of z ∷ []) at ∙ sym (map_more finding_of xs i x lt))
      (drops_push w v.encoding (file_at w spot.file) range (map finding_of (take i xs)) (finding_of x) so_far.drops own so_far.are_drops one);
  sent =
      subst (λ (os : List OfferOf). AllZip (IsAction v) os actions) (append_assoc (deletion_offers so_far.deletion) so_far.drops own)
      (subst (λ (cs : List CodeAction). AllZip (IsAction v) ((deletion_offers so_far.deletion ++ so_far.drops) ++ own) cs) (sym grown)
      (zipped_append (IsAction v) (deletion_offers so_far.deletion ++ so_far.drops) own before added so_far.sent sent));
}

pub offers_end : (v : ViewOf) (w : List FileOf) (spot : FileOffset) (range : SentRange) (xs : List Finding) (i : ℕ) (actions : List CodeAction) → length xs ≤ i → AreUnusedImports w (map finding_of xs) → OffersSoFar v w spot range (map finding_of (take i xs)) actions → (offers : List OfferOf) × AreOffers w v.encoding spot range offers × AllZip (IsAction v) offers actions
offers_end v w spot range xs i actions end unused so_far = (
  deletion_offers so_far.deletion ++ so_far.drops,
  record {
    deletion = so_far.deletion;
    is_deletion = so_far.is_deletion;
    unused = map finding_of xs;
    are_unused = unused;
    drops = so_far.drops;
    are_drops = subst (λ (fs : List Finding). AreDropOffers w v.encoding (file_at w spot.file) range (map finding_of fs) so_far.drops) (take_all i xs end) so_far.are_drops;
    offers_are = refl;
  },
  so_far.sent,
)
