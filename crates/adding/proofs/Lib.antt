pub mod Defining
pub mod Seating
