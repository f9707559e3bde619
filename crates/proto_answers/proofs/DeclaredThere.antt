-- Whether the token at an offset declares the name that it stands for.
use Rattle.std.proofs.Common.{◌≡◌, ℕ, Bool, true, false, sym, ap, subst, ◌∙◌, List, true≢false}
use Rattle.proto_base.proofs.Common.{Text}
use Rattle.proto_files.proofs.Common.{AreRead, FileOf, HasNoFault, ReadOf, read_at, read_once}
use Rattle.proto_names_rules.specs.Grown.{At, at}
use Rattle.proto_names_imports.proofs.Common.{LinkFaults}
use Rattle.proto_edit_rename_laws.proofs.Common.{same_at}
use Rattle.proto_edit_rename_laws.proofs.Places.{at_same, same_at_itself}
use Rattle.proto_names_at.specs.NamesAt.{DeclaresName}
use Rattle.proto_names_at.specs.Tokens.{IsWordAt}
use Rattle.proto_answers.specs.Common.{IsDeclaredAt, IsDeclaring, NothingStandsAt, OnlyStandsAt, StandsAt, at_token}
use Rattle.proto_answers.specs.declared.declaring.FileToken.{FileToken}
use Rattle.proto_answers.specs.declared.standing.FileOffset.{FileOffset}
use Rattle.proto_answers.proofs.Declarers.{declaring_stands, one_declaring}

-- where nothing stands, nothing is declared
pub none_declared : (files : List FileOf) (spot : FileOffset) → NothingStandsAt files spot → (word : Text) → IsDeclaredAt files spot word → ⊥
none_declared files spot nothing word (reads, are, token, there, d) = nothing reads are token word (record { there = there; stands = declaring_stands files reads (at spot.file token) word d })

module _ (files : List FileOf) (spot : FileOffset) (token : ℕ) (name : Text) (reads : List ReadOf) (are : AreRead files reads) (stands : OnlyStandsAt files reads spot token name) (t : FileToken) (declaring : IsDeclaring files name t) (b : Bool) (test : b ≡ same_at (at_token t) (at spot.file token)) where
  pub declared_there : b ≡ true → IsDeclaredAt files spot name
  declared_there holds =
      let here : at_token t ≡ at spot.file token = at_same (at_token t) (at spot.file token) (sym test ∙ holds) in
      (reads, are, token, stands.this.there, subst (λ (a : At). DeclaresName files reads a name) here (declaring.declares reads are))

  pub not_declared_there : HasNoFault (LinkFaults files) → b ≡ false → (word : Text) → IsDeclaredAt files spot word → ⊥
  not_declared_there clean fails word (seen, read, other, there, d) =
      let mine = subst (λ (r : List ReadOf). DeclaresName files r (at spot.file other) word) (read_once files seen reads read are) d in
      let here : StandsAt files reads spot other word = record { there = subst (λ (r : List ReadOf). IsWordAt (read_at r spot.file).tokens spot.offset other) (read_once files seen reads read are) there; stands = declaring_stands files reads (at spot.file other) word mine } in
      let is = stands.only other word here in
      let own : DeclaresName files reads (at spot.file token) name = subst (λ (n : Text). DeclaresName files reads (at spot.file token) n) is.1 (subst (λ (k : ℕ). DeclaresName files reads (at spot.file k) word) is.0 mine) in
      let one : at_token t ≡ at spot.file token = one_declaring files reads are clean name (at_token t) (at spot.file token) (declaring.declares reads are) own in
      true≢false (sym (ap (λ (a : At). same_at (at_token t) a) (sym one) ∙ same_at_itself (at_token t)) ∙ sym test ∙ fails)
