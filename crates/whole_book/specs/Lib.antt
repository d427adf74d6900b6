pub mod Books
pub mod Lines
pub mod Took
pub mod Texts
pub mod Both
