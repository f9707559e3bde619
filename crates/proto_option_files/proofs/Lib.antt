pub mod Changed
mod KeySets
