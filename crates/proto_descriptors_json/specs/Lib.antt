pub mod Common
pub mod DescriptorText
pub mod JsonText
pub mod KeyOrder
pub mod MessageText
pub mod Written
