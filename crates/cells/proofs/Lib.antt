pub mod Chain
pub mod Tables
