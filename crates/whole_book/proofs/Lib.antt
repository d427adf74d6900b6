pub mod FormulaLines
pub mod Lists
pub mod Going
pub mod Counting
pub mod Adding
pub mod Stopping
pub mod Ending
pub mod Locating
