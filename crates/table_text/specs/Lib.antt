pub mod Keys
pub mod Lines
pub mod Marks
pub mod Placed
pub mod Puts
pub mod Reading
pub mod Texts
