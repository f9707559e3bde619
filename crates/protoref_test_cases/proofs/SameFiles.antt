-- Files that are told to be the same are.
use Rattle.std.proofs.Common.{◌≡◌, ◌∙◌, refl, sym, ap, subst, Bool, true, true≢false, ◌&&◌, List, bytes_eq}
use Rattle.proto_base.proofs.Common.{first_so, second_so, pointwise, pointwise_decides, bytes_eq-Decides}
use Rattle.protoref_test_cases.specs.Rows.{is_file, is_language}
use Rattle.proto_files.specs.GivenFiles.{FileOf}
use Rattle.proto_base.specs.declared.profile.Profile.{Profile}
use Rattle.proto_base.specs.declared.profile.Profile.TheVariants.{AsWritten, Core}

abbrev parts : FileOf → FileOf → Bool
parts f g = bytes_eq f.path g.path && bytes_eq f.bytes g.bytes

one_language : (p : Profile) → is_language p p ≡ true
one_language Core = refl
one_language AsWritten = refl

same_language : (p q : Profile) → is_language p q ≡ true → p ≡ q
same_language Core Core h = refl
same_language AsWritten AsWritten h = refl
same_language Core AsWritten h = absurd (true≢false (sym h))
same_language AsWritten Core h = absurd (true≢false (sym h))

own : (f : FileOf) → is_file f f ≡ true
own f =
    ap (λ (b : Bool). b && parts f f) (one_language f.profile)
    ∙ ap (λ (b : Bool). b && bytes_eq f.bytes f.bytes) ((bytes_eq-Decides f.path f.path).1 refl) ∙ (bytes_eq-Decides f.bytes f.bytes).1 refl

same_file : (f g : FileOf) → (is_file f g ≡ true → f ≡ g) × (f ≡ g → is_file f g ≡ true)
same_file f g = (
  λ h.
      let language = same_language f.profile g.profile (first_so (is_language f.profile g.profile) (parts f g) h) in
      let rest = second_so (is_language f.profile g.profile) (parts f g) h in
      let paths = (bytes_eq-Decides f.path g.path).0 (first_so (bytes_eq f.path g.path) (bytes_eq f.bytes g.bytes) rest) in
      let texts = (bytes_eq-Decides f.bytes g.bytes).0 (second_so (bytes_eq f.path g.path) (bytes_eq f.bytes g.bytes) rest) in
      λ i. record { path = paths i; bytes = texts i; profile = language i },
  λ e. subst (λ (z : FileOf). is_file f z ≡ true) e (own f),
)

pub same_files : (fs gs : List FileOf) → pointwise is_file fs gs ≡ true → fs ≡ gs
same_files fs gs h = (pointwise_decides same_file fs gs).0 h
