mod CoreCustoms
pub mod CustomLists
pub mod EachCustom
pub mod RisingCustoms
pub mod Stretches
