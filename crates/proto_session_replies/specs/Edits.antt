-- What a client is offered to do with a part of a document.
use Rattle.std.specs.Prelude.{◌≡◌, ◌⊎◌, ◌↔◌, ◌≤◌, Bool, true, List, [], ◌∷◌, ◌++◌, codes, Option, Some, None, string_bytes}
use Rattle.std.specs.Global.{Vec}
use Rattle.std.specs.List.{AllZip}
use Rattle.proto_base.specs.GivenFiles.{FileOf}
use Rattle.proto_base.specs.Texts.{Text}
use Rattle.proto_edit.specs.Workspaces.{drop_import}
use Rattle.proto_files.specs.Faults.{HasNoFault}
use Rattle.proto_files.specs.FilesRead.{AreRead, ReadOf}
use Rattle.proto_files.specs.GivenFiles.{file_at}
use Rattle.proto_desc.specs.Whole.{WorkspaceFaults}
use Rattle.proto_lint.specs.Findings.{findings}
use Rattle.proto_lint_names.specs.Listings.{FindingOf, IsListingOf}
use Rattle.proto_lint_rules.specs.Rules.{is_chosen}
use Rattle.proto_lint_rules.specs.declared.rule.Rule.{Rule}
use Rattle.proto_lint_rules.specs.declared.rule.Rule.TheVariants.{ImportUsed}
use Rattle.proto_answers.specs.Actions.{AreOffered, IsDeletionAt}
use Rattle.proto_answers.specs.declared.answers.FileEdits.{FileEdits}
use Rattle.proto_answers.specs.declared.standing.FileOffset.{FileOffset}
use Rattle.proto_messages.specs.Messages.{DocumentPositionOf}
use Rattle.proto_messages.specs.declared.position.Range.{Range as SentRange}
use Rattle.proto_messages.specs.declared.results.ActionKind.{ActionKind}
use Rattle.proto_messages.specs.declared.results.ActionKind.TheVariants.{QuickFix, Refactor}
use Rattle.proto_messages.specs.declared.results.Answer.TheVariants as answer
use Rattle.proto_messages.specs.declared.results.CodeAction.{CodeAction}
use Rattle.proto_positions.specs.declared.encoding.Encoding.{Encoding}
use Rattle.proto_session_files.specs.Places.{position_in}
use Rattle.proto_session_files.specs.Views.{ViewOf}
use Rattle.proto_session_replies.specs.Replies.{Compiles, IsAsked, IsDocumentEdit}
use Rattle.proto_session_replies.specs.declared.reply.Reply.TheVariants.{Result}
use Rattle.proto_session_replies.specs.declared.reply.Reply.{Reply}

-- what is offered: its title, where an editor shows it, and the edits of files
pub record OfferOf : Type 0 where
  pub title : Text
  pub kind : ActionKind
  pub edits : List FileEdits

-- the deletion of a field, if there is one
abbrev pub deletion_offers : Option (Vec FileEdits) → List OfferOf
deletion_offers None = []
deletion_offers (Some edits) = record {
  title = codes "Delete the field and reserve its number and name";
  kind = Refactor;
  edits = edits.items;
} ∷ []

-- the drop of an unused import, if there is one
abbrev pub drop_offers : Option (Vec FileEdits) → List OfferOf
drop_offers None = []
drop_offers (Some edits) = record {
  title = codes "Drop the unused import";
  kind = QuickFix;
  edits = edits.items;
} ∷ []

-- a finding stands in a file on one of the lines of a range
pub record IsOnLines
    (e : Encoding) (file : FileOf) (range : SentRange) (f : FindingOf) : Type 0 where
  pub path : f.path ≡ file.path
  pub from : range.start.line ≤ (position_in e file.bytes f.offset).line
  pub to : (position_in e file.bytes f.offset).line ≤ range.end.line

-- the unused imports of files, in order
pub record AreUnusedImports (files : List FileOf) (unused : List FindingOf) : Type 0 where
  pub reads : List ReadOf
  pub are_read : AreRead files reads
  pub rules : List Bool
  pub one_rule : (rule : Rule) → (is_chosen rules rule ≡ true) ↔ (rule ≡ ImportUsed)
  pub listing : IsListingOf (findings rules files reads) unused

-- what is offered for a finding: for an unused import on the lines of the range its drop, if that
-- has edits
abbrev pub IsDropOffered : List FileOf → Encoding → FileOf → SentRange → FindingOf → List OfferOf
    → Type 0
IsDropOffered files e file range f offers =
    (((f.rule ≡ ImportUsed) × IsOnLines e file range f → ⊥) × (offers ≡ []))
    ⊎ ((f.rule ≡ ImportUsed) × IsOnLines e file range f × (drop : Option (Vec FileEdits))
    × AreOffered files e (drop_import f.path f.name) drop × (offers ≡ drop_offers drop))

-- what is offered for each of the findings, in their order
abbrev pub AreDropOffers : List FileOf → Encoding → FileOf → SentRange → List FindingOf
    → List OfferOf → Type 0
AreDropOffers files e file range [] offers = offers ≡ []
AreDropOffers files e file range (f ∷ fs) offers = (own : List OfferOf) × (rest : List OfferOf)
    × IsDropOffered files e file range f own × AreDropOffers files e file range fs rest
    × (offers ≡ own ++ rest)

-- What is offered at an offset of a file, and for a range: to delete the field that is declared
-- there, and to drop the unused imports of the file on the lines of the range.
pub record AreOffers
    (files : List FileOf) (e : Encoding) (spot : FileOffset) (range : SentRange)
    (offers : List OfferOf)
    : Type 0 where
  pub deletion : Option (Vec FileEdits)
  pub is_deletion : IsDeletionAt files e spot deletion
  pub unused : List FindingOf
  pub are_unused : AreUnusedImports files unused
  pub drops : List OfferOf
  pub are_drops : AreDropOffers files e (file_at files spot.file) range unused drops
  pub offers_are : offers ≡ deletion_offers deletion ++ drops

-- an offer as the protocol has it
pub record IsAction (v : ViewOf) (offer : OfferOf) (sent : CodeAction) : Type 0 where
  pub title : string_bytes sent.title ≡ offer.title
  pub kind : sent.kind ≡ offer.kind
  pub edits : AllZip (IsDocumentEdit v) offer.edits sent.edits.items

-- the start of a range of a document
abbrev pub start_of : Text → SentRange → DocumentPositionOf
start_of uri range = record { uri = uri; position = range.start }

-- What is offered for a range of a document: nothing while the files that the client sees do not
-- compile, and nothing in a document that is none of these.
abbrev pub IsActionsReply : ViewOf → Text → SentRange → Reply → Type 0
IsActionsReply v uri range (Result (answer.Actions sent)) =
    ((HasNoFault (WorkspaceFaults v.files) → ⊥) × (sent.items ≡ []))
    ⊎ ((files : List FileOf) × Compiles v files
    × ((((spot : FileOffset) → IsAsked v files (start_of uri range) spot → ⊥) × (sent.items ≡ []))
    ⊎ ((spot : FileOffset) × IsAsked v files (start_of uri range) spot
    × (offers : List OfferOf) × AreOffers files v.encoding spot range offers
    × AllZip (IsAction v) offers sent.items)))
IsActionsReply v uri range _ = ⊥
