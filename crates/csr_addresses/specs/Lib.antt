pub mod Find
pub mod Address
pub mod Masks
