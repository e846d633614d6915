pub mod Line
pub mod Buffers
