-- However texts are opened, changed and closed, no two are open at one path.
use Rattle.std.proofs.Common.{◌≡◌, ℕ, Bool, true, false, ◌||◌, cond, not, List, [], ◌∷◌, ◌++◌, refl, ap, ◌∙◌, bytes_eq, filter, if◌then◌else◌, true≢false}
use Rattle.proto_base.specs.Texts.{Path}
use Rattle.proto_session_files.proofs.Laying.{swapped}
use Rattle.proto_session_files.specs.Laws.{AreApart, OpenTextsStayApart}
use Rattle.proto_session_files.specs.Views.{OpenOf, closed, is_at, is_open, of_version, with_version}

-- ---- fewer texts

none_left : (keep : OpenOf → Bool) (path : Path) (os : List OpenOf) → is_open path os ≡ false → is_open path (filter keep os) ≡ false
none_left keep path [] h = refl
none_left keep path (o ∷ os) h = go (bytes_eq o.path path) refl (keep o) h (none_left keep path os)
  where
    go : (a : Bool) → bytes_eq o.path path ≡ a → (b : Bool) → (a || is_open path os) ≡ false → (is_open path os ≡ false → is_open path (filter keep os) ≡ false)
        → is_open path (cond b (o ∷ filter keep os) (filter keep os)) ≡ false
    go true e b h later = absurd (true≢false h)
    go false e true h later = ap (λ (c : Bool). c || is_open path (filter keep os)) e ∙ later h
    go false e false h later = later h

fewer : (keep : OpenOf → Bool) (os : List OpenOf) → AreApart os → AreApart (filter keep os)
fewer keep [] apart = tt
fewer keep (o ∷ os) apart = go (keep o) (none_left keep o.path os apart.0) (fewer keep os apart.1)
  where
    go : (b : Bool) → is_open o.path (filter keep os) ≡ false → AreApart (filter keep os) → AreApart (cond b (o ∷ filter keep os) (filter keep os))
    go true h later = (h, later)
    go false h later = later

-- ---- one text more

one_more : (path : Path) (os : List OpenOf) (o : OpenOf) → is_open path os ≡ false → is_at path o ≡ false → is_open path (os ++ o ∷ []) ≡ false
one_more path [] o h e = ap (λ (b : Bool). b || false) e
one_more path (p ∷ os) o h e = go (is_at path p) h (λ k. one_more path os o k e)
  where
    go : (b : Bool) → (b || is_open path os) ≡ false → (is_open path os ≡ false → is_open path (os ++ o ∷ []) ≡ false) → (b || is_open path (os ++ o ∷ [])) ≡ false
    go true k later = absurd (true≢false k)
    go false k later = later k

behind : (os : List OpenOf) (o : OpenOf) → AreApart os → is_open o.path os ≡ false → AreApart (os ++ o ∷ [])
behind [] o apart h = (refl, tt)
behind (p ∷ os) o apart h = go (bytes_eq p.path o.path) refl h (behind os o apart.1)
  where
    go : (b : Bool) → bytes_eq p.path o.path ≡ b → (b || is_open o.path os) ≡ false → (is_open o.path os ≡ false → AreApart (os ++ o ∷ [])) → AreApart ((p ∷ os) ++ o ∷ [])
    go true e k later = absurd (true≢false k)
    go false e k later = (one_more p.path os o apart.0 (swapped p.path o.path (bytes_eq o.path p.path) (bytes_eq p.path o.path) refl refl ∙ e), later k)

none_at : (path : Path) (os : List OpenOf) → is_open path (closed path os) ≡ false
none_at path [] = refl
none_at path (o ∷ os) = go (is_at path o) refl (none_at path os)
  where
    go : (b : Bool) → is_at path o ≡ b → is_open path (closed path os) ≡ false → is_open path (cond (not b) (o ∷ closed path os) (closed path os)) ≡ false
    go true e later = later
    go false e later = ap (λ (c : Bool). c || is_open path (closed path os)) e ∙ later

-- ---- another version

same_path : (path : Path) (version : ℕ) (o : OpenOf) → (of_version path version o).path ≡ o.path
same_path path version o = go (is_at path o)
  where
    go : (b : Bool) → (if b then record o { version = version } else o).path ≡ o.path
    go true = refl
    go false = refl

as_open : (path q : Path) (version : ℕ) (os : List OpenOf) → is_open q (with_version path version os) ≡ is_open q os
as_open path q version [] = refl
as_open path q version (o ∷ os) =
    ap (λ (p : Path). bytes_eq p q || is_open q (with_version path version os)) (same_path path version o)
    ∙ ap (λ (b : Bool). bytes_eq o.path q || b) (as_open path q version os)

renewed : (path : Path) (version : ℕ) (os : List OpenOf) → AreApart os → AreApart (with_version path version os)
renewed path version [] apart = tt
renewed path version (o ∷ os) apart =
    (ap (λ (p : Path). is_open p (with_version path version os)) (same_path path version o) ∙ as_open path o.path version os ∙ apart.0, renewed path version os apart.1)

pub open_texts_stay_apart : OpenTextsStayApart
open_texts_stay_apart = record {
  with_one = λ o opened apart. behind (closed o.path opened) o (fewer (λ p. not (is_at o.path p)) opened apart) (none_at o.path opened);
  with_another = renewed;
  without = λ path opened apart. fewer (λ o. not (is_at path o)) opened apart;
}
