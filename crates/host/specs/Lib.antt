pub mod Bays
pub mod Names
pub mod Numbers
pub mod Packing
pub mod Tables
pub mod Words
