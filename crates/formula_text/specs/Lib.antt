pub mod Words
pub mod Rules
pub mod Spots
pub mod States
pub mod Took
pub mod Wrong
