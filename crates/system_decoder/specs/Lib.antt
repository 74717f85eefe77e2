pub mod Forms
pub mod System
pub mod Reasons
