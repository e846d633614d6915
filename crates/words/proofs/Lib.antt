pub mod Laws
pub mod Pad
