pub mod Parting
pub mod Layouts
pub mod Finding
pub mod Wrongs
pub mod Told
pub mod Lining
