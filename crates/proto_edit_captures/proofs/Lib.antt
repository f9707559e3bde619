mod Aimed
pub mod Aims
mod AllFiles
mod AskedFiles
pub mod ByTexts
mod CapturedWords
pub mod Common
mod FileCaptures
mod FileOvertaken
mod FilesToAsk
mod FirstOnes
mod FrontLengths
mod IfOks
pub mod JoinedNames
mod KindNamed
mod LookedUp
mod NewNames
mod NewlyShown
mod Overtaken
mod PackageSets
mod PackagesSeen
mod PlainWords
mod ScopePaths
mod SeenTexts
mod Taken
mod UsesByTexts
pub use Rattle.proto_edit_rename_laws.proofs.Blocks
pub use Rattle.proto_edit_rename_laws.proofs.Declarations
pub use Rattle.proto_edit_rename_laws.proofs.Inside
pub use Rattle.proto_edit_rename_laws.proofs.NoLinkFault
pub use Rattle.proto_edit_rename_laws.proofs.OneTarget
pub use Rattle.proto_edit_rename_laws.proofs.Scenes
