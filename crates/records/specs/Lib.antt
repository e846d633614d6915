pub mod Record
pub mod Told
pub mod Inner
pub mod Bytes
pub mod Bound
pub mod Claims
