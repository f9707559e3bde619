-- What is said of a document of which nothing is shown any more.
use Rattle.std.proofs.Common.{◌≡◌, ℕ, Bool, true, false, List, [], ◌∷◌, ◌++◌, if◌then◌else◌, sym, ap, ◌∙◌, append-nil}
use Rattle.proto_base.proofs.Common.{Vec, map_push}
use Rattle.proto_base.specs.Texts.{Text}
use Rattle.proto_serving.specs.Serving.{texts}
use Rattle.proto_session_told.specs.Telling.{ToldOf, cleared, end_of, is_shown_at}

module _ (all : List ToldOf) (x : ToldOf) (found next : List (Vec ℕ)) where
  pub is_cleared : (message : Vec ℕ) → is_shown_at all x.uri ≡ false → next ≡ found ++ message ∷ [] → message.items ≡ cleared x.uri → texts next ≡ texts found ++ end_of all x
  is_cleared message none new is =
      ap texts new
      ∙ map_push (λ (v : Vec ℕ). v.items) found message
      ∙ ap (λ (t : Text). texts found ++ t ∷ []) is
      ∙ ap (λ (b : Bool). texts found ++ (if b then [] else cleared x.uri ∷ [])) (sym none)

  pub is_shown_still : is_shown_at all x.uri ≡ true → next ≡ found → texts next ≡ texts found ++ end_of all x
  is_shown_still shown same =
      ap texts same
      ∙ sym (append-nil (texts found))
      ∙ ap (λ (b : Bool). texts found ++ (if b then [] else cleared x.uri ∷ [])) (sym shown)
