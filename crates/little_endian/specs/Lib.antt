pub mod Word
pub mod Image
pub mod Claims
