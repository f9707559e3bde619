-- The offset that a client asks about, and null where it asks about none.
use Rattle.std.proofs.Common.{◌≡◌, ◌<◌, ℕ, List, [], length, Option, Some, None, position, bytes_eq, sym, ap, subst, ◌∙◌, arith}
use Rattle.proto_base.proofs.Common.{FileOf, Path, Text, length-map, paths_of, position-Some}
use Rattle.proto_files.specs.GivenFiles.{file_at}
use Rattle.proto_answers.specs.declared.standing.FileOffset.{FileOffset}
use Rattle.proto_messages.specs.Messages.{DocumentPositionOf}
use Rattle.proto_positions.specs.Positions.{offset_of}
use Rattle.proto_session_files.specs.Homes.{schema_of}
use Rattle.proto_session_files.specs.Views.{ViewOf}
use Rattle.proto_session_replies.specs.Placing.{IsSpotIfAny, asked_at}
use Rattle.proto_session_replies.specs.Replies.{Compiles, IsAsked, IsAskedNowhere, IsNull, counted}

-- a URI that names no schema
pub nowhere_unnamed : (v : ViewOf) (files : List FileOf) (asked : DocumentPositionOf) → schema_of v.home asked.uri ≡ None → IsAskedNowhere v files asked
nowhere_unnamed v files asked none = λ spot is. (let n = is.names in cc)

-- a path at which none of the files stands
pub nowhere_there : (v : ViewOf) (files : List FileOf) (asked : DocumentPositionOf) (path : Path) → schema_of v.home asked.uri ≡ Some path → position (bytes_eq path) (paths_of files) ≡ None → IsAskedNowhere v files asked
nowhere_there v files asked path named none = λ spot is.
    (let n = is.names in
    let same : is.path ≡ path = cc in
    let there = sym (ap (λ (p : Path). position (bytes_eq p) (paths_of files)) same) ∙ is.there in
    cc)

abbrev made_spot : ℕ → ℕ → FileOffset
made_spot file offset = record { file = file; offset = offset }

-- a client asks about one offset
pub one_spot : (v : ViewOf) (files : List FileOf) (asked : DocumentPositionOf) (s t : FileOffset) → IsAsked v files asked s → IsAsked v files asked t → s ≡ t
one_spot v files asked s t a b =
    let n = sym a.names ∙ b.names in
    let same : a.path ≡ b.path = cc in
    let there = sym a.there ∙ (ap (λ (p : Path). position (bytes_eq p) (paths_of files)) same ∙ b.there) in
    let file : s.file ≡ t.file = cc in
    let offset : s.offset ≡ t.offset = a.offset_is ∙ (ap (λ (k : ℕ). offset_of v.encoding (file_at files k).bytes (counted asked.position)) file ∙ sym b.offset_is) in
    ap (λ (k : ℕ). made_spot k s.offset) file ∙ ap (λ (k : ℕ). made_spot t.file k) offset

-- what is found of a URI and a position is found of the request, in the files of the workspace
pub spot_of : (v : ViewOf) (files w : List FileOf) (asked : DocumentPositionOf) (uri : Text) → files ≡ w → uri ≡ asked.uri → (found : Option FileOffset) → IsSpotIfAny v files (asked_at uri asked.position) found → IsSpotIfAny v w asked found
spot_of v files w asked uri same is found at =
    subst (λ (fs : List FileOf). IsSpotIfAny v fs asked found) same (subst (λ (u : Text). IsSpotIfAny v files (asked_at u asked.position) found) is at)

-- a place of a path is that of a file
pub place_within : (files : List FileOf) (path : Path) (file : ℕ) → position (bytes_eq path) (paths_of files) ≡ Some file → file < length files
place_within files path file at =
    let there = position-Some (bytes_eq path) (paths_of files) file [] at in
    let same = length-map files (λ (f : FileOf). f.path) in
    let within = there.0 in
    omega (arith, within, same)

-- the file of the offset is one of them
pub spot_within : (v : ViewOf) (files : List FileOf) (asked : DocumentPositionOf) (spot : FileOffset) → IsAsked v files asked spot → spot.file < length files
spot_within v files asked spot at = place_within files at.path spot.file at.there

-- ---- null

pub null_nowhere : (v : ViewOf) (files : List FileOf) (asked : DocumentPositionOf) (P : List FileOf → FileOffset → Type 0) → Compiles v files → IsAskedNowhere v files asked → IsNull v asked P
null_nowhere v files asked P compiles nowhere = (files, compiles, λ spot is. absurd (nowhere spot is))

pub null_there : (v : ViewOf) (files : List FileOf) (asked : DocumentPositionOf) (P : List FileOf → FileOffset → Type 0) (spot : FileOffset) → Compiles v files → IsAsked v files asked spot → P files spot → IsNull v asked P
null_there v files asked P spot compiles at p = (files, compiles, λ other is. subst (P files) (one_spot v files asked spot other at is) p)
