pub mod Ranges
pub mod Home
pub mod Ends
pub mod ByHand
pub mod Product
