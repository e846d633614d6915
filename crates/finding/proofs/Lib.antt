pub mod Fits
pub mod Distances
pub mod Searching
