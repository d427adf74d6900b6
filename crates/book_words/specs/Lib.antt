pub mod Bytes
pub mod Layout
pub mod Cuts
pub mod Cutting
pub mod Wrong
pub mod Among
