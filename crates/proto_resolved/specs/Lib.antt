pub mod Blocks
pub mod Common
pub mod Enums
pub mod LinkedFiles
pub mod Meanings
pub mod SceneOf
pub mod Scenes
pub use Rattle.proto_names.specs.LinkOfFiles
