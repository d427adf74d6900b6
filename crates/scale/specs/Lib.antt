pub mod Laws
pub mod YesNo
pub mod Odd
pub mod Distances
pub mod SideBySide
