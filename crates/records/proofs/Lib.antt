pub mod Marks
pub mod Places
pub mod Bound
pub mod RoundTrip
pub mod Claims
