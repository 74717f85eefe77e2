pub mod Field
pub mod Signed
pub mod Width
pub mod Lists
