pub mod Sets
pub mod Weigh
