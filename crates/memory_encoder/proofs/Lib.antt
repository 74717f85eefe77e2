pub mod Funct3
pub mod Writing
pub mod Access
pub mod Loads
pub mod Stores
pub mod Numbers
