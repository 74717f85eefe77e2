pub mod Access
pub mod Forms
pub mod Funct3
pub mod Load
pub mod Store
