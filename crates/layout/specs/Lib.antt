pub mod Forms
pub mod Memory
pub mod Places
