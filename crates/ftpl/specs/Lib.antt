pub mod Numbers
pub mod Joins
pub mod Properties
pub mod Paths
pub mod Formulas
pub mod Edges
