pub mod InTable
pub mod InStore
pub mod Going
