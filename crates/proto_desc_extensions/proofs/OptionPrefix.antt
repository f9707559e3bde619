-- A name is compared with a front and what is behind it.
use Rattle.std.proofs.Common.{◌≡◌, ◌≢◌, ℕ, false, List, ◌++◌, ap, bytes_eq}
use Rattle.proto_base.proofs.Common.{append_cancel_left, bytes_eq-Decides, false_from_ne_true}
use Rattle.proto_desc_numbers.proofs.CappedRanges.{agree}

pub same_behind : (front behind rest : List ℕ) → bytes_eq behind rest ≡ bytes_eq (front ++ behind) (front ++ rest)
same_behind front behind rest =
    agree (bytes_eq behind rest) (bytes_eq (front ++ behind) (front ++ rest))
    (λ e. (bytes_eq-Decides (front ++ behind) (front ++ rest)).1 (ap (λ (t : List ℕ). front ++ t) ((bytes_eq-Decides behind rest).0 e)))
    (λ e. (bytes_eq-Decides behind rest).1 (append_cancel_left front behind rest ((bytes_eq-Decides (front ++ behind) (front ++ rest)).0 e)))

pub no_front : (name front rest : List ℕ) → ((behind : List ℕ) → name ≢ front ++ behind) → bytes_eq name (front ++ rest) ≡ false
no_front name front rest none = false_from_ne_true (bytes_eq name (front ++ rest)) (λ e. none rest ((bytes_eq-Decides name (front ++ rest)).0 e))
