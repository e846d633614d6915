pub mod Lying
pub mod Settling
