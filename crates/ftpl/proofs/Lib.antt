pub mod Quantified
pub mod Numbered
pub mod Conditions
pub mod Marked
