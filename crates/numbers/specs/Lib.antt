pub mod Ranges
pub mod Home
pub mod Homes
pub mod Tables
pub mod Ends
pub mod ByHand
