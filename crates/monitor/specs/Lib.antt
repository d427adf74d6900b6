pub mod Segments
pub mod Monitor
pub mod Layout
pub mod Boards
