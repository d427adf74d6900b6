pub mod Cursors
pub mod Places
pub mod Rules
pub mod States
pub mod Texts
pub mod Took
pub mod Words
pub mod Wrong
