-- A URI leads back to its path.
use Rattle.std.proofs.Common.{◌≡◌, ◌≢◌, ℕ, Bool, true, false, cond, [], ◌∷◌, ◌++◌, length, take, drop, Option, Some, None, codes, refl, ap, ◌∙◌, subst, take_at, drop_at, All, arith}
use Rattle.std.specs.List.{list_all}
use Rattle.std.specs.Option.{option_and_then, option_map}
use Rattle.std.specs.Str.{bytes_eq}
use Rattle.std.proofs.lemmas.Bool.Decides.{nat_tests}
use Rattle.std.proofs.lemmas.List.Sums.{list_all-from_AllPass}
use Rattle.std.proofs.lemmas.Slice.Eq.{bytes_eq-Decides}
use Rattle.percent_encoding.specs.AsciiSet.{contains, should_percent_encode}
use Rattle.percent_encoding.specs.Percent.{percent_decode, percent_encode}
use Rattle.percent_encoding.specs.declared.ascii_set.AsciiSet.{AsciiSet}
use Rattle.percent_encoding.proofs.AsciiSetLemmas.{escaped_from_inside}
use Rattle.percent_encoding.proofs.PercentLemmas.{All-percent_encode, IsByte, IsEscapeByte, percent_encode_kept, round_trip}
use Rattle.proto_base.specs.Ascii as ascii
use Rattle.proto_base.specs.Texts.{Text}
use Rattle.proto_uris.specs.Uris.{IsRoot, after, after_scheme, below, file_of, is_coded_path, is_of_path, leads_down, number_sign, only_down, only_path, path_below, scheme}

abbrev some : Text → Option Text
some t = Some t

chosen : (b : Bool) (t : Text) → b ≡ true → cond b (some t) None ≡ some t
chosen true t is = refl
chosen false t is = absurd cc

same_bytes : (t : Text) → bytes_eq t t ≡ true
same_bytes t = (bytes_eq-Decides t t).1 refl

after_prefix : (prefix rest : Text) → after prefix (prefix ++ rest) ≡ some rest
after_prefix prefix rest =
    let is : bytes_eq (take (length prefix) (prefix ++ rest)) prefix ≡ true = ap (λ (t : Text). bytes_eq t prefix) (take_at prefix rest (length prefix) refl) ∙ same_bytes prefix in
    chosen (bytes_eq (take (length prefix) (prefix ++ rest)) prefix) (drop (length prefix) (prefix ++ rest)) is ∙ ap some (drop_at prefix rest (length prefix) refl)

-- what the set of escaped bytes has to say
pub record Escapes (set : AsciiSet) : Type 0 where
  pub percent : contains set 37 ≡ true
  pub query : contains set ascii.question_mark ≡ true
  pub fragment : contains set number_sign ≡ true
  pub slash : contains set ascii.slash ≡ false

slash_is_kept : (set : AsciiSet) → contains set ascii.slash ≡ false → should_percent_encode set ascii.slash ≡ false
unfolding should_percent_encode
slash_is_kept set is = is

-- a byte that is not escaped is of the path
kept_is : (set : AsciiSet) → Escapes set → (b : ℕ) → should_percent_encode set b ≡ false → is_of_path b ≡ true
kept_is set escapes b kept =
    let no_query : b ≢ ascii.question_mark = λ is. differs (escaped_from_inside set ascii.question_mark escapes.query) (subst (λ n. should_percent_encode set n ≡ false) is kept) in
    let no_fragment : b ≢ number_sign = λ is. differs (escaped_from_inside set number_sign escapes.fragment) (subst (λ n. should_percent_encode set n ≡ false) is kept) in
    grind (arith, nat_tests, no_query, no_fragment)
  where
    differs : {x : Bool} → x ≡ true → x ≡ false → ⊥
    differs yes_is no_is = cc

escape_is : (b : ℕ) → IsEscapeByte b → is_of_path b ≡ true
escape_is b is = grind (arith, nat_tests, is)

all_of_path : (set : AsciiSet) → Escapes set → (t : Text) → list_all is_of_path (percent_encode set t) ≡ true
all_of_path set escapes t =
    list_all-from_AllPass is_of_path (percent_encode set t) (All-percent_encode (λ b. is_of_path b ≡ true) set t (kept_is set escapes) escape_is)

-- a root with a slash after it begins with a slash
begins : (root path : Text) → IsRoot root → (more : Text) × (root ++ (codes "/" ++ path) ≡ ascii.slash ∷ more)
begins [] path is = (path, refl)
begins (b ∷ root) path is = (root ++ (codes "/" ++ path), ap (λ n. n ∷ (root ++ (codes "/" ++ path))) is)

is_coded : (set : AsciiSet) → Escapes set → (t more : Text) → t ≡ ascii.slash ∷ more → is_coded_path (percent_encode set t) ≡ true
is_coded set escapes t more is =
    ap is_coded_path (ap (percent_encode set) is ∙ percent_encode_kept set ascii.slash more (slash_is_kept set escapes.slash))
    ∙ all_of_path set escapes more

below_root : (root path : Text) → leads_down path ≡ true → below root (root ++ (codes "/" ++ path)) ≡ some path
below_root root path down =
    ap (option_and_then only_down) (ap (option_and_then (after (codes "/"))) (after_prefix root (codes "/" ++ path)) ∙ after_prefix (codes "/") path)
    ∙ chosen (leads_down path) path down

pub leads_back : (set : AsciiSet) → Escapes set → (root path uri : Text) → All IsByte (root ++ (codes "/" ++ path)) → IsRoot root → leads_down path ≡ true
    → uri ≡ scheme ++ percent_encode set (root ++ (codes "/" ++ path)) → path_below root uri ≡ Some path
leads_back set escapes root path uri small is_root down is =
    let whole : Text = root ++ (codes "/" ++ path) in
    let coded : Text = percent_encode set whole in
    let first = begins root path is_root in
    let here : after_scheme (scheme ++ coded) ≡ some coded = refl in
    let only : only_path coded ≡ some coded = chosen (is_coded_path coded) coded (is_coded set escapes whole first.0 first.1) in
    let file : file_of (scheme ++ coded) ≡ some whole =
    ap (option_map percent_decode) (ap (option_and_then only_path) here ∙ only) ∙ ap some (round_trip set whole escapes.percent small) in
    ap (path_below root) is ∙ ap (option_and_then (below root)) file ∙ below_root root path down
