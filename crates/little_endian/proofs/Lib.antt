pub mod Laws
pub mod Image
pub mod Settled
pub mod Claims
