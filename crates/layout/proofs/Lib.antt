pub mod Forms
pub mod Packed
pub mod Ready
pub mod Searches
pub mod Tables
pub mod Handing
