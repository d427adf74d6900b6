pub mod Ruling
pub mod Telling
pub mod Keeping
pub mod Settling
pub mod Accepting
pub mod Edges
pub mod Finding
pub mod Order
